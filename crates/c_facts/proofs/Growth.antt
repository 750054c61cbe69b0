-- What holds at the time of reading holds in the whole program: structures and unions may be declared whole later, and nothing else changes.
use Rattle.std.proofs.Common.{◌≡◌, ◌⊎◌, inl, inr, ℕ, ◌*◌, ◌==◌, ◌<◌, ◌≤◌, Bool, true, false, ◌||◌, not, nat_le, List, [], ◌∷◌, Option, Some, None, Result, Ok, Err, refl, sym, subst, ap, ◌∙◌, arith}
use Rattle.std.specs.Prelude.{slice_get, if◌then◌else◌}
use Rattle.std.specs.Option.{option_map_or}
use Rattle.std.specs.Str.{bytes_eq}
use Rattle.std.proofs.lemmas.Bool.{and_parts}
use Rattle.std.proofs.lemmas.Bool.Decides.{nat_tests}
use Rattle.c_tree.specs.declared.span.Span.{Span}
use Rattle.c_tree.specs.declared.operator.StepOp.{StepOp}
use Rattle.c_tree.specs.declared.operator.BinOp.{BinOp}
use Rattle.c_types.specs.Types.{Ty, VoidY, IntY, BoolY, EnumY, StructY, UnionY, PointerY, ArrayY, MemberT, LayoutT}
use Rattle.c_types.specs.Sizes.{words_of, member_named, no_layout}
use Rattle.c_rules.specs.declared.code.Code.{Code}
use Rattle.c_types.specs.Kinds.{is_void, is_structure}
use Rattle.c_rules.specs.Kinds.{target}
use Rattle.c_rules.specs.Sizes.{is_whole, fits, type_limit, value_limit}
use Rattle.c_rules.specs.Rules.{Demand, Rule, checked, judged_by, judged}
use Rattle.c_rules.specs.Nodes.{given, led_to_whole, count_is_known, counts_elements, step_operator, binary_rule, index_rule, assign_rule, compound_rule, step_rule, array_rule}
use Rattle.c_exprs.specs.Env.{Text}
use Rattle.c_exprs.specs.Faults.{placed, at_node}
use Rattle.c_exprs.specs.Nodes.{value_rule, layout_of, layout_behind, member_in, known_member}
use Rattle.c_facts.specs.Sound.{Scene, IsKnown}
use Rattle.c_facts.proofs.Within.{Grows, AllMembersKnown}

-- ---- sizes

-- a size that is known stays known
pub whole_later : {layouts later : List LayoutT} {whole all : List Bool} → Grows layouts whole later all → (ty : Ty) → is_whole whole ty ≡ true → is_whole all ty ≡ true
whole_later g VoidY h = cc
whole_later g IntY h = refl
whole_later g BoolY h = refl
whole_later g (EnumY number) h = refl
whole_later g (StructY number) h = (g.fixed number h).0
whole_later g (UnionY number) h = (g.fixed number h).0
whole_later g (PointerY to) h = refl
whole_later g (ArrayY of len) h = whole_later g of h

same_size : {a b : Option LayoutT} → a ≡ b → option_map_or (λ (l : LayoutT). l.size) a 0 ≡ option_map_or (λ (l : LayoutT). l.size) b 0
same_size e = ap (λ (o : Option LayoutT). option_map_or (λ (l : LayoutT). l.size) o 0) e

-- and the size that is known stays
pub words_later : {layouts later : List LayoutT} {whole all : List Bool} → Grows layouts whole later all → (ty : Ty) → is_whole whole ty ≡ true → words_of layouts ty ≡ words_of later ty
words_later g VoidY h = refl
words_later g IntY h = refl
words_later g BoolY h = refl
words_later g (EnumY number) h = refl
words_later g (StructY number) h = same_size (g.fixed number h).1
words_later g (UnionY number) h = same_size (g.fixed number h).1
words_later g (PointerY to) h = refl
words_later g (ArrayY of len) h = ap (λ (n : ℕ). n * len) (words_later g of h)

pub fits_later : {layouts later : List LayoutT} {whole all : List Bool} → Grows layouts whole later all → (limit : ℕ) (ty : Ty) → is_whole whole ty ≡ true → fits layouts limit ty ≡ true → fits later limit ty ≡ true
unfolding fits
fits_later g limit ty w h = subst (λ (n : ℕ). nat_le n limit ≡ true) (words_later g ty w) h

-- ---- answers of rules

-- all that a rule demands
abbrev pub AllHold : List Demand → Type 0
AllHold [] = Unit {0}
AllHold (d ∷ ds) = (d.holds ≡ true) × AllHold ds

if_passed : {A : Type 0} (test : Bool) (r : Result A Code) (k : Code) (y : A) → (if test then r else Err k) ≡ Ok y → (test ≡ true) × (r ≡ Ok y)
if_passed true r k y h = (refl, h)
if_passed false r k y h = cc

checked_holds : {A : Type 0} (ds : List Demand) (x y : A) → checked ds x ≡ Ok y → (x ≡ y) × AllHold ds
checked_holds [] x y h = (cc, tt)
checked_holds (d ∷ ds) x y h =
    let now : (d.holds ≡ true) × (checked ds x ≡ Ok y) = if_passed d.holds (checked ds x) d.code y h in
    let rest : (x ≡ y) × AllHold ds = checked_holds ds x y now.1 in
    (rest.0, (now.0, rest.1))

holds_checked : {A : Type 0} (ds : List Demand) (x : A) → AllHold ds → checked ds x ≡ Ok x
holds_checked [] x h = refl
holds_checked (d ∷ ds) x h = rw h.0 (holds_checked ds x h.1)

-- An answer is the value of the rule, and all that it demands holds.
judged_by_holds : {A : Type 0} (gives : Option A) (ds : List Demand) (y : A) → judged_by gives ds ≡ Ok y → (gives ≡ Some y) × AllHold ds
judged_by_holds None ds y h = cc
judged_by_holds (Some x) ds y h = let r : (x ≡ y) × AllHold ds = checked_holds ds x y h in (ap Some r.0, r.1)

pub judged_holds : {A : Type 0} (rule : Rule A) (y : A) → judged rule ≡ Ok y → (rule.gives ≡ Some y) × AllHold rule.demands
judged_holds rule y h = judged_by_holds rule.gives rule.demands y h

-- and back
pub holds_judged : {A : Type 0} (rule : Rule A) (y : A) → rule.gives ≡ Some y → AllHold rule.demands → judged rule ≡ Ok y
holds_judged rule y e h = rw e (holds_checked rule.demands y h)

-- a rule with the same value, whose demands hold where those of the first do
pub judged_later : {A : Type 0} (rule after : Rule A) (y : A) → rule.gives ≡ after.gives → (AllHold rule.demands → AllHold after.demands) → judged rule ≡ Ok y → judged after ≡ Ok y
judged_later rule after y e more h =
    let r : (rule.gives ≡ Some y) × AllHold rule.demands = judged_holds rule y h in
    holds_judged after y (sym e ∙ r.0) (more r.1)

pub placed_answer : {A : Type 0} (s : Span) (r : Result A Code) (y : A) → placed s r ≡ Ok y → r ≡ Ok y
placed_answer s (Ok x) y h = let e : x ≡ y = cc in ap Ok e
placed_answer s (Err k) y h = cc

pub node_answer : {A : Type 0} (s : Span) (rule : Rule A) (y : A) → at_node s rule ≡ Ok y → judged rule ≡ Ok y
unfolding at_node
node_answer s rule y h = placed_answer s (judged rule) y h

pub given_is : {A : Type 0} (test : Bool) (x y : A) → given test x ≡ Some y → x ≡ y
given_is true x y h = cc
given_is false x y h = cc

-- ---- each rule

or_later : (a b c : Bool) → (b ≡ true → c ≡ true) → (a || b) ≡ true → (a || c) ≡ true
or_later true b c more h = refl
or_later false b c more h = more h

or_both : (a b c d : Bool) → (b ≡ true → c ≡ true → d ≡ true) → (a || b) ≡ true → (a || c) ≡ true → (a || d) ≡ true
or_both true b c d more h k = refl
or_both false b c d more h k = more h k

-- a value is one in the whole program
pub value_later : {layouts later : List LayoutT} {whole all : List Bool} → Grows layouts whole later all → (ty : Ty) → judged (value_rule layouts whole ty) ≡ Ok tt → judged (value_rule later all ty) ≡ Ok tt
unfolding value_rule
value_later {layouts = layouts} {later = later} {whole = whole} {all = all} g ty h = judged_later (value_rule layouts whole ty) (value_rule later all ty) tt refl (λ d. (
  or_later (not (is_structure ty)) (is_whole whole ty) (is_whole all ty) (whole_later g ty) d.0,
  (or_both (not (is_structure ty)) (is_whole whole ty) (fits layouts value_limit ty) (fits later value_limit ty) (fits_later g value_limit ty) d.0 d.1.0, tt),
)) h

led_later : {layouts later : List LayoutT} {whole all : List Bool} → Grows layouts whole later all → (o : Option Ty) → led_to_whole whole o ≡ true → led_to_whole all o ≡ true
led_later g None h = refl
led_later g (Some ty) h = whole_later g ty h

count_later : {layouts later : List LayoutT} {whole all : List Bool} → Grows layouts whole later all → (op : BinOp) (ty : Ty) → count_is_known whole op ty ≡ true → count_is_known all op ty ≡ true
count_later {whole = whole} {all = all} g op ty h = or_later (not (counts_elements op)) (led_to_whole whole (target ty)) (led_to_whole all (target ty)) (led_later g (target ty)) h

pub binary_later : {layouts later : List LayoutT} {whole all : List Bool} → Grows layouts whole later all → (op : BinOp) (a b ty : Ty) → judged (binary_rule whole op a b) ≡ Ok ty → judged (binary_rule all op a b) ≡ Ok ty
unfolding binary_rule
binary_later {whole = whole} {all = all} g op a b ty h = judged_later (binary_rule whole op a b) (binary_rule all op a b) ty refl (λ d. (count_later g op a d.0, tt)) h

pub index_later : {layouts later : List LayoutT} {whole all : List Bool} → Grows layouts whole later all → (a b ty : Ty) → judged (index_rule whole a b) ≡ Ok ty → judged (index_rule all a b) ≡ Ok ty
unfolding index_rule
index_later {whole = whole} {all = all} g a b ty h = judged_later (index_rule whole a b) (index_rule all a b) ty refl (λ d. (led_later g (target a) d.0, tt)) h

pub assign_later : {layouts later : List LayoutT} {whole all : List Bool} → Grows layouts whole later all → (to : Ty) (place : Bool) (from ty : Ty) → judged (assign_rule layouts whole to place from) ≡ Ok ty → judged (assign_rule later all to place from) ≡ Ok ty
unfolding assign_rule
assign_later {layouts = layouts} {later = later} {whole = whole} {all = all} g to place from ty h =
    judged_later (assign_rule layouts whole to place from) (assign_rule later all to place from) ty refl (λ d. (d.0, (whole_later g to d.1.0, (fits_later g value_limit to d.1.0 d.1.1.0, tt)))) h

pub compound_later : {layouts later : List LayoutT} {whole all : List Bool} → Grows layouts whole later all → (op : BinOp) (to : Ty) (place : Bool) (from ty : Ty) → judged (compound_rule whole op to place from) ≡ Ok ty → judged (compound_rule all op to place from) ≡ Ok ty
unfolding compound_rule
compound_later {whole = whole} {all = all} g op to place from ty h = judged_later (compound_rule whole op to place from) (compound_rule all op to place from) ty refl (λ d. (d.0, (count_later g op to d.1.0, tt))) h

pub step_later : {layouts later : List LayoutT} {whole all : List Bool} → Grows layouts whole later all → (op : StepOp) (to : Ty) (place : Bool) (ty : Ty) → judged (step_rule whole op to place) ≡ Ok ty → judged (step_rule all op to place) ≡ Ok ty
step_later g op to place ty h = compound_later g (step_operator op) to place IntY ty h

pub given_holds : {A : Type 0} (test : Bool) (x y : A) → given test x ≡ Some y → test ≡ true
given_holds true x y h = refl
given_holds false x y h = cc

not_none : (n : ℕ) → not (n == 0) ≡ true → 0 < n
not_none n h = grind (arith, nat_tests)

-- an array that may be one is one in the whole program
fits_within : (layouts : List LayoutT) (limit : ℕ) (ty : Ty) → fits layouts limit ty ≡ true → words_of layouts ty ≤ limit
unfolding fits
fits_within layouts limit ty h = grind (arith, nat_tests)

pub array_later : {layouts later : List LayoutT} {whole all : List Bool} → Grows layouts whole later all → (of : Ty) (count : ℕ) (ty : Ty) → IsKnown later all of → judged (array_rule layouts whole of count) ≡ Ok ty → IsKnown later all ty
unfolding array_rule
array_later {layouts = layouts} {later = later} {whole = whole} {all = all} g of count ty known h =
    let r = judged_holds (array_rule layouts whole of count) ty h in
    let fit : fits later type_limit (ArrayY of count) ≡ true = fits_later g type_limit (ArrayY of count) r.1.0 r.1.1.1.0 in
    let some : (not (is_void of) ≡ true) × (not (count == 0) ≡ true) = and_parts _ _ (given_holds _ (ArrayY of count) ty r.0) in
    subst (λ (t : Ty). IsKnown later all t) (given_is _ (ArrayY of count) ty r.0) (known, whole_later g of r.1.0, not_none count some.1, fits_within later type_limit (ArrayY of count) fit)

-- ---- members

no_member : (n : Text) (m : MemberT) (l : LayoutT) → l ≡ no_layout l.is_union → member_in n (Some l) ≡ Ok m → ⊥
no_member n m l e h = let none : member_in n (Some (no_layout l.is_union)) ≡ Ok m = subst (λ (x : LayoutT). member_in n (Some x) ≡ Ok m) e h in cc

-- a layout that has a member stays
kept_so : (n : Text) (m : MemberT) (l : LayoutT) (now : Option LayoutT) → (l ≡ no_layout l.is_union) ⊎ (now ≡ Some l) → member_in n (Some l) ≡ Ok m → member_in n now ≡ Ok m
kept_so n m l now (inl none) h = absurd (no_member n m l none h)
kept_so n m l now (inr same) h = rw same h

found_kept : {layouts later : List LayoutT} {whole all : List Bool} → Grows layouts whole later all → (n : Text) (k : ℕ) (m : MemberT) (o : Option LayoutT) → slice_get layouts k ≡ o → member_in n o ≡ Ok m → member_in n (slice_get later k) ≡ Ok m
found_kept g n k m None e h = cc
found_kept {later = later} g n k m (Some l) e h = kept_so n m l (slice_get later k) (g.kept k l e) h

-- a member that is found is found in the whole program
pub member_later : {layouts later : List LayoutT} {whole all : List Bool} → Grows layouts whole later all → (n : Text) (ty : Ty) (m : MemberT) → member_in n (layout_of layouts ty) ≡ Ok m → member_in n (layout_of later ty) ≡ Ok m
member_later g n VoidY m h = cc
member_later g n IntY m h = cc
member_later g n BoolY m h = cc
member_later g n (EnumY number) m h = cc
member_later {layouts = layouts} g n (StructY number) m h = found_kept g n number m (slice_get layouts number) refl h
member_later {layouts = layouts} g n (UnionY number) m h = found_kept g n number m (slice_get layouts number) refl h
member_later g n (PointerY to) m h = cc
member_later g n (ArrayY of len) m h = cc

pub behind_later : {layouts later : List LayoutT} {whole all : List Bool} → Grows layouts whole later all → (n : Text) (o : Option Ty) (m : MemberT) → member_in n (layout_behind layouts o) ≡ Ok m → member_in n (layout_behind later o) ≡ Ok m
behind_later g n None m h = cc
behind_later g n (Some ty) m h = member_later g n ty m h

-- the types of members are known
first_or_rest : (s : Scene) (k m : MemberT) (test : Bool) (rest : Option MemberT) → IsKnown s.layouts s.whole k.ty → (known_member rest ≡ Ok m → IsKnown s.layouts s.whole m.ty) → known_member (if test then Some k else rest) ≡ Ok m → IsKnown s.layouts s.whole m.ty
first_or_rest s k m true rest here later h = let e : k ≡ m = cc in subst (λ (x : MemberT). IsKnown s.layouts s.whole x.ty) e here
first_or_rest s k m false rest here later h = later h

named_known : (s : Scene) (n : Text) (ms : List MemberT) (m : MemberT) → AllMembersKnown s ms → known_member (member_named n ms) ≡ Ok m → IsKnown s.layouts s.whole m.ty
named_known s n [] m known h = cc
named_known s n (k ∷ ks) m known h = first_or_rest s k m (bytes_eq n k.name) (member_named n ks) known.0 (λ e. named_known s n ks m known.1 e) h

found_known : (s : Scene) → ((k : ℕ) (l : LayoutT) → slice_get s.layouts k ≡ Some l → AllMembersKnown s l.members) → (n : Text) (k : ℕ) (m : MemberT) (o : Option LayoutT) → slice_get s.layouts k ≡ o → member_in n o ≡ Ok m → IsKnown s.layouts s.whole m.ty
found_known s all n k m None e h = cc
found_known s all n k m (Some l) e h = named_known s n l.members m (all k l e) h

pub member_known : (s : Scene) → ((k : ℕ) (l : LayoutT) → slice_get s.layouts k ≡ Some l → AllMembersKnown s l.members) → (n : Text) (ty : Ty) (m : MemberT) → member_in n (layout_of s.layouts ty) ≡ Ok m → IsKnown s.layouts s.whole m.ty
member_known s all n VoidY m h = cc
member_known s all n IntY m h = cc
member_known s all n BoolY m h = cc
member_known s all n (EnumY number) m h = cc
member_known s all n (StructY number) m h = found_known s all n number m (slice_get s.layouts number) refl h
member_known s all n (UnionY number) m h = found_known s all n number m (slice_get s.layouts number) refl h
member_known s all n (PointerY to) m h = cc
member_known s all n (ArrayY of len) m h = cc

pub behind_known : (s : Scene) → ((k : ℕ) (l : LayoutT) → slice_get s.layouts k ≡ Some l → AllMembersKnown s l.members) → (n : Text) (o : Option Ty) (m : MemberT) → member_in n (layout_behind s.layouts o) ≡ Ok m → IsKnown s.layouts s.whole m.ty
behind_known s all n None m h = cc
behind_known s all n (Some ty) m h = member_known s all n ty m h
