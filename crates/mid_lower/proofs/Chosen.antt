-- Labels and arms: how many labels come before the arms that a switch passes over.
use Rattle.std.proofs.Common.{◌≡◌, ◌≤◌, ℕ, zero, suc, ◌+◌, ◌*◌, ◌^◌, Bool, true, false, ◌==◌, Option, Some, None, option_map, refl, sym, ap, ◌∙◌, subst, arith, if◌then◌else◌}
use Rattle.c_types.specs.Typed.{TStmtT, CaseB, DefaultB, StmtB, TArmTs, NoB, MoreB}
use Rattle.c_meaning.specs.Statements.{arms_before_case, arms_before_default, case_or_default, arms_before, labels}
use Rattle.lower_trees.specs.Statements.{labels_before_default}

-- These first arms are passed over, and so are so many labels; then comes a label, or none.
abbrev pub Passes : TArmTs → (labels arms : ℕ) → Type 0
Passes NoB p k = Unit {0}
Passes (MoreB (CaseB label) rest) zero zero = Unit {0}
Passes (MoreB DefaultB rest) zero zero = Unit {0}
Passes (MoreB (CaseB label) rest) (suc p) (suc k) = Passes rest p k
Passes (MoreB DefaultB rest) (suc p) (suc k) = Passes rest p k
Passes (MoreB (StmtB a) rest) p (suc k) = Passes rest p k
Passes _ _ _ = ⊥

default_passes : (arms : TArmTs) → Passes arms (labels_before_default arms) (arms_before_default arms)
default_passes NoB = tt
default_passes (MoreB (CaseB label) rest) = default_passes rest
default_passes (MoreB DefaultB rest) = tt
default_passes (MoreB (StmtB a) rest) = default_passes rest

-- the labels before the one that is equal
abbrev pub labels_before_case : ℕ → TArmTs → Option ℕ
labels_before_case x NoB = None
labels_before_case x (MoreB (CaseB label) rest) = if x == label then Some 0 else option_map (λ k. suc k) (labels_before_case x rest)
labels_before_case x (MoreB DefaultB rest) = option_map (λ k. suc k) (labels_before_case x rest)
labels_before_case x (MoreB (StmtB a) rest) = labels_before_case x rest

abbrev Both : Option ℕ → Option ℕ → TArmTs → Type 0
Both None None arms = Unit {0}
Both (Some p) (Some k) arms = Passes arms p k
Both _ _ arms = ⊥

abbrev plus : Option ℕ → Option ℕ
plus o = option_map (λ k. suc k) o

abbrev first : Option ℕ
first = Some 0

case_both : (a b : Option ℕ) (label : ℕ) (rest : TArmTs) → Both a b rest → Both (plus a) (plus b) (MoreB (CaseB label) rest)
case_both None None label rest k = tt
case_both (Some p) (Some q) label rest k = k
case_both None (Some q) label rest k = absurd k
case_both (Some p) None label rest k = absurd k

default_both : (a b : Option ℕ) (rest : TArmTs) → Both a b rest → Both (plus a) (plus b) (MoreB DefaultB rest)
default_both None None rest k = tt
default_both (Some p) (Some q) rest k = k
default_both None (Some q) rest k = absurd k
default_both (Some p) None rest k = absurd k

stmt_both : (a b : Option ℕ) (s : TStmtT) (rest : TArmTs) → Both a b rest → Both a (plus b) (MoreB (StmtB s) rest)
stmt_both None None s rest k = tt
stmt_both (Some p) (Some q) s rest k = k
stmt_both None (Some q) s rest k = absurd k
stmt_both (Some p) None s rest k = absurd k

either_both : (c : Bool) (a b : Option ℕ) (label : ℕ) (rest : TArmTs) → Both a b rest → Both (if c then first else plus a) (if c then first else plus b) (MoreB (CaseB label) rest)
either_both true a b label rest k = tt
either_both false a b label rest k = case_both a b label rest k

both : (x : ℕ) (arms : TArmTs) → Both (labels_before_case x arms) (arms_before_case x arms) arms
both x NoB = tt
both x (MoreB (CaseB label) rest) = either_both (x == label) (labels_before_case x rest) (arms_before_case x rest) label rest (both x rest)
both x (MoreB DefaultB rest) = default_both (labels_before_case x rest) (arms_before_case x rest) rest (both x rest)
both x (MoreB (StmtB a) rest) = stmt_both (labels_before_case x rest) (arms_before_case x rest) a rest (both x rest)

-- The label that is chosen among these arms, which have i labels before them; that many where none is equal.
abbrev pub chosen : (x i default : ℕ) → TArmTs → ℕ
chosen x i d NoB = d
chosen x i d (MoreB (CaseB label) rest) = if x == label then i else chosen x (suc i) d rest
chosen x i d (MoreB DefaultB rest) = chosen x (suc i) d rest
chosen x i d (MoreB (StmtB a) rest) = chosen x i d rest

abbrev from : Option ℕ → (i default : ℕ) → ℕ
from None i d = d
from (Some p) i d = i + p

from_plus : (o : Option ℕ) (i d : ℕ) → from o (suc i) d ≡ from (plus o) i d
from_plus None i d = refl
from_plus (Some p) i d = omega arith

from_either : (c : Bool) (o : Option ℕ) (i d : ℕ) → (if c then i else from (plus o) i d) ≡ from (if c then first else plus o) i d
from_either true o i d = omega arith
from_either false o i d = refl

chosen_from : (x i d : ℕ) (arms : TArmTs) → chosen x i d arms ≡ from (labels_before_case x arms) i d
chosen_from x i d NoB = refl
chosen_from x i d (MoreB (CaseB label) rest) = ap (λ k. if x == label then i else k) (chosen_from x (suc i) d rest ∙ from_plus (labels_before_case x rest) i d) ∙ from_either (x == label) (labels_before_case x rest) i d
chosen_from x i d (MoreB DefaultB rest) = chosen_from x (suc i) d rest ∙ from_plus (labels_before_case x rest) i d
chosen_from x i d (MoreB (StmtB a) rest) = chosen_from x i d rest

passes_from : (a b : Option ℕ) (d e : ℕ) (arms : TArmTs) → Both a b arms → Passes arms d e → Passes arms (from a 0 d) (case_or_default b e)
passes_from None None d e arms k q = q
passes_from (Some p) (Some j) d e arms k q = subst (λ n. Passes arms n j) plain k
  where
    plain : p ≡ 0 + p
    plain = omega arith
passes_from None (Some j) d e arms k q = absurd k
passes_from (Some p) None d e arms k q = absurd k

pub chosen_passes : (x : ℕ) (arms : TArmTs) → Passes arms (chosen x 0 (labels_before_default arms) arms) (arms_before x arms)
chosen_passes x arms =
    subst (λ n. Passes arms n (arms_before x arms)) (sym (chosen_from x 0 (labels_before_default arms) arms))
    (passes_from (labels_before_case x arms) (arms_before_case x arms) (labels_before_default arms) (arms_before_default arms) arms (both x arms) (default_passes arms))

-- ---- how many

default_labels : (arms : TArmTs) → labels_before_default arms ≤ labels arms
default_labels NoB = omega arith
default_labels (MoreB (CaseB label) rest) = let e = default_labels rest in omega (arith, e)
default_labels (MoreB DefaultB rest) = omega arith
default_labels (MoreB (StmtB a) rest) = default_labels rest

either_small : (c : Bool) (i k n : ℕ) → i ≤ n → k ≤ n → (if c then i else k) ≤ n
either_small true i k n a b = a
either_small false i k n a b = b

chosen_small : (x i d : ℕ) (arms : TArmTs) → chosen x i d arms ≤ i + labels arms + d
chosen_small x i d NoB = omega arith
chosen_small x i d (MoreB (CaseB label) rest) = either_small (x == label) i (chosen x (suc i) d rest) (i + labels (MoreB (CaseB label) rest) + d) (omega arith) (let e = chosen_small x (suc i) d rest in omega (arith, e))
chosen_small x i d (MoreB DefaultB rest) = let e = chosen_small x (suc i) d rest in omega (arith, e)
chosen_small x i d (MoreB (StmtB a) rest) = chosen_small x i d rest

pub chosen_fits : (x : ℕ) (arms : TArmTs) → 2 * labels arms ≤ 2 ^ 32 → chosen x 0 (labels_before_default arms) arms ≤ 2 ^ 32
chosen_fits x arms fits = let e = chosen_small x 0 (labels_before_default arms) arms in let d = default_labels arms in omega (arith, e, d, fits)
