-- What the rules of items tell.
use Rattle.std.proofs.Common.{◌≡◌, ℕ, ◌+◌, ◌==◌, ◌≤◌, Bool, true, false, ◌&&◌, not, List, Option, Some, None, Result, Ok, Err, is_some, length, sym, ap, subst, eqb-true}
use Rattle.std.proofs.lemmas.Bool.{and_parts, leb-true, not-true}
use Rattle.std.proofs.lemmas.Slice.Eq.{bytes_eq-Decides}
use Rattle.std.specs.Prelude.{nat_le, slice_get}
use Rattle.std.specs.Str.{bytes_eq}
use Rattle.c_tree.specs.declared.span.Span.{Span}
use Rattle.c_tree.specs.Tree.{StmtTs}
use Rattle.c_types.specs.Types.{Ty, VoidY, IntY, BoolY, EnumY, StructY, UnionY, PointerY, ArrayY, LayoutT}
use Rattle.c_rules.specs.declared.code.Code.{Code}
use Rattle.c_rules.specs.declared.code.Code.TheVariants.{Twice, WrongType, TooLarge}
use Rattle.c_rules.specs.Kinds.{holds, same_type}
use Rattle.c_rules.specs.Sizes.{is_declared, type_limit}
use Rattle.c_rules.specs.Rules.{judged}
use Rattle.c_rules.specs.Nodes.{size_rule}
use Rattle.c_exprs.specs.Env.{Text, find, Decl, TypeD, ConstantD, GlobalD, FunctionD}
use Rattle.c_exprs.specs.Faults.{placed}
use Rattle.c_exprs.specs.Calls.{ensured}
use Rattle.c_types.specs.Sizes.{member_named}
use Rattle.c_stmts.specs.State.{innermost, object_rule, object_size}
use Rattle.c_check.specs.Words.{is_word}
use Rattle.c_check.specs.Reading as reading
use Rattle.c_check.specs.Reading.{Un, record_type, number_as, declared_record, record_number, has_members, whole_record, member_size, members_declared, global_words, globals_limit, global_size, parameter_rule, parameter_size, same_types, is_function, agrees, is_own_body, result_rule, function_rules}
use Rattle.c_facts.proofs.Holds.{placed_gives, ensured_gives}
use Rattle.c_facts.proofs.Stays.{HasWords, size_facts, object_facts}
use Rattle.c_facts.proofs.Equal.{types_equal, all_types_equal}

pub member_words : (s : Span) (un : Un) (l : LayoutT) (name : Text) (ty : Ty) (n : ℕ) → placed s (member_size un l name ty) ≡ Ok n → HasWords un.layouts un.whole ty n
unfolding member_size
member_words s un l name ty n h =
    let e = ensured_gives Twice (not (is_some (member_named name l.members))) (judged (size_rule un.layouts un.whole ty)) n (placed_gives s (member_size un l name ty) n h) in
    (size_facts un.layouts un.whole ty n e.1).0

-- a structure or union that is declared whole
pub record BecomesWhole (un : Un) (l : LayoutT) (n : ℕ) : Type 0 where
  pub new : is_declared un.whole n ≡ false
  pub members : has_members l ≡ true
  pub size : l.size ≤ type_limit

whole_by : (un : Un) (l : LayoutT) (r : Result ℕ Code) (n : ℕ) → whole_record un l r ≡ Ok n → BecomesWhole un l n
whole_by un l (Err k) n h = absurd cc
whole_by un l (Ok number) n h =
    let e = ensured_gives Twice (not (is_declared un.whole number)) (ensured WrongType (has_members l) (ensured TooLarge (nat_le l.size type_limit) (Ok number))) n h in
    let d = ensured_gives WrongType (has_members l) (ensured TooLarge (nat_le l.size type_limit) (Ok number)) n e.1 in
    let f = ensured_gives TooLarge (nat_le l.size type_limit) (Ok number) n d.1 in
    let same : number ≡ n = same_number number n f.1 in
    record { new = subst (λ k. is_declared un.whole k ≡ false) same (not-true (is_declared un.whole number) e.0); members = d.0; size = leb-true l.size type_limit f.0 }
  where
    same_number : (a b : ℕ) → ◌≡◌ {A = Result ℕ Code} (Ok a) (Ok b) → a ≡ b
    same_number a b e = cc

pub members_whole : (s : Span) (is_union : Bool) (name : Text) (un : Un) (l : LayoutT) (n : ℕ) → placed s (members_declared is_union name un l) ≡ Ok n → BecomesWhole un l n
unfolding members_declared
members_whole s is_union name un l n h = whole_by un l (record_number is_union name un) n (placed_gives s (members_declared is_union name un l) n h)

-- the structure or union whose members are declared: its number is that of its name, which means it
pub record IsRecord (is_union : Bool) (name : Text) (un : Un) (n : ℕ) : Type 0 where
  pub declared : find name un.names ≡ Some (TypeD (record_type is_union n))
  pub named : slice_get un.records n ≡ Some name

name_there : (name : Text) (o : Option Text) → holds (bytes_eq name) o ≡ true → o ≡ Some name
name_there name None h = absurd cc
name_there name (Some m) h = ap Some (sym ((bytes_eq-Decides name m).0 h))

one_record : (is_union : Bool) (ty : Ty) (k : ℕ) → number_as is_union ty ≡ Some k → ty ≡ record_type is_union k
one_record true (UnionY j) k h = ap UnionY (cc)
one_record true VoidY k h = absurd cc
one_record true IntY k h = absurd cc
one_record true BoolY k h = absurd cc
one_record true (EnumY j) k h = absurd cc
one_record true (StructY j) k h = absurd cc
one_record true (PointerY to) k h = absurd cc
one_record true (ArrayY of count) k h = absurd cc
one_record false (StructY j) k h = ap StructY (cc)
one_record false VoidY k h = absurd cc
one_record false IntY k h = absurd cc
one_record false BoolY k h = absurd cc
one_record false (EnumY j) k h = absurd cc
one_record false (UnionY j) k h = absurd cc
one_record false (PointerY to) k h = absurd cc
one_record false (ArrayY of count) k h = absurd cc

own_record : (name : Text) (records : List Text) (o : Option ℕ) (n : ℕ) → reading.own_number name records o ≡ Ok n → (o ≡ Some n) × (slice_get records n ≡ Some name)
own_record name records None n h = absurd cc
own_record name records (Some k) n h =
    let e = ensured_gives Twice (holds (bytes_eq name) (slice_get records k)) (Ok k) n h in
    let same : k ≡ n = same_number k n e.1 in
    (ap Some same, subst (λ j. slice_get records j ≡ Some name) same (name_there name (slice_get records k) e.0))
  where
    same_number : (a b : ℕ) → ◌≡◌ {A = Result ℕ Code} (Ok a) (Ok b) → a ≡ b
    same_number a b e = cc

declared_as : (is_union : Bool) (name : Text) (records : List Text) (o : Option Decl) (n : ℕ) → declared_record is_union name records o ≡ Ok n → (o ≡ Some (TypeD (record_type is_union n))) × (slice_get records n ≡ Some name)
declared_as is_union name records None n h = absurd cc
declared_as is_union name records (Some (TypeD ty)) n h =
    let own = own_record name records (number_as is_union ty) n h in
    (ap (λ (t : Ty). Some (TypeD t)) (one_record is_union ty n own.0), own.1)
declared_as is_union name records (Some (ConstantD k)) n h = absurd cc
declared_as is_union name records (Some (GlobalD number ty)) n h = absurd cc
declared_as is_union name records (Some (FunctionD params gives)) n h = absurd cc

record_is : (is_union : Bool) (name : Text) (un : Un) (n : ℕ) → record_number is_union name un ≡ Ok n → IsRecord is_union name un n
unfolding record_number
record_is is_union name un n h = let d = declared_as is_union name un.records (find name un.names) n h in record { declared = d.0; named = d.1 }

found_by : (un : Un) (l : LayoutT) (r : Result ℕ Code) (n : ℕ) → whole_record un l r ≡ Ok n → r ≡ Ok n
found_by un l (Err k) n h = absurd cc
found_by un l (Ok number) n h =
    let e = ensured_gives Twice (not (is_declared un.whole number)) (ensured WrongType (has_members l) (ensured TooLarge (nat_le l.size type_limit) (Ok number))) n h in
    let d = ensured_gives WrongType (has_members l) (ensured TooLarge (nat_le l.size type_limit) (Ok number)) n e.1 in
    (ensured_gives TooLarge (nat_le l.size type_limit) (Ok number) n d.1).1

pub members_named : (s : Span) (is_union : Bool) (name : Text) (un : Un) (l : LayoutT) (n : ℕ) → placed s (members_declared is_union name un l) ≡ Ok n → IsRecord is_union name un n
unfolding members_declared
members_named s is_union name un l n h = record_is is_union name un n (found_by un l (record_number is_union name un) n (placed_gives s (members_declared is_union name un l) n h))

-- a global
pub record HasRoom (un : Un) (fresh : Bool) (ty : Ty) (n : ℕ) : Type 0 where
  pub new : fresh ≡ true
  pub words : HasWords un.layouts un.whole ty n
  pub room : global_words un + n ≤ globals_limit

pub global_room : (s : Span) (un : Un) (fresh : Bool) (ty : Ty) (n : ℕ) → placed s (global_size un fresh ty) ≡ Ok n → HasRoom un fresh ty n
unfolding global_size object_size
global_room s un fresh ty n h =
    let e = ensured_gives Twice fresh (judged (object_rule un.layouts un.whole globals_limit (global_words un) ty)) n (placed_gives s (global_size un fresh ty) n h) in
    let f = object_facts un.layouts un.whole globals_limit (global_words un) ty n e.1 in
    record { new = e.0; words = f.0; room = f.1 }

pub parameter_rule_holds : (s : Span) (un : Un) (name : Text) (ty : Ty) (n : ℕ) → placed s (parameter_size un name ty) ≡ Ok n → judged (parameter_rule un.layouts un.whole ty) ≡ Ok n
unfolding parameter_size
parameter_rule_holds s un name ty n h = (ensured_gives Twice (not (is_some (find name (innermost un.scopes)))) (judged (parameter_rule un.layouts un.whole ty)) n (placed_gives s (parameter_size un name ty) n h)).1

-- a function, whose name is that of a function with these types
pub record IsRuled (un : Un) (name : Text) (params : List Ty) (gives : Ty) (body : Option StmtTs) : Type 0 where
  pub own : is_own_body name un body ≡ true
  pub word : is_word name ≡ true
  pub declared : find name un.names ≡ Some (FunctionD params gives)
  pub result : judged (result_rule un.layouts un.whole gives) ≡ Ok tt

same_function : (ps qs : List Ty) (g h : Ty) → ps ≡ qs → g ≡ h → Some (FunctionD qs h) ≡ Some (FunctionD ps g)
same_function ps qs g h p q = cc

agreed : (params : List Ty) (gives : Ty) (o : Option Decl) → agrees params gives o ≡ true → o ≡ Some (FunctionD params gives)
agreed params gives None h = absurd cc
agreed params gives (Some (TypeD ty)) h = absurd cc
agreed params gives (Some (ConstantD k)) h = absurd cc
agreed params gives (Some (GlobalD number ty)) h = absurd cc
agreed params gives (Some (FunctionD qs g)) h =
    let parts : (same_types params qs ≡ true) × (same_type gives g ≡ true) = and_parts _ _ h in
    same_function params qs gives g (all_types_equal params qs parts.0) (types_equal gives g parts.1)

pub function_ruled : (s : Span) (un : Un) (name : Text) (params : List Ty) (gives : Ty) (body : Option StmtTs) → placed s (function_rules un name params gives body) ≡ Ok tt → IsRuled un name params gives body
unfolding function_rules
function_ruled s un name params gives body h =
    let r = judged (result_rule un.layouts un.whole gives) in
    let e = ensured_gives Twice (is_function (find name un.names) && is_own_body name un body) (ensured WrongType (is_word name && agrees params gives (find name un.names)) r) tt (placed_gives s (function_rules un name params gives body) tt h) in
    let f = ensured_gives WrongType (is_word name && agrees params gives (find name un.names)) r tt e.1 in
    let g = and_parts _ _ f.0 in
    record { own = (and_parts _ _ e.0).1; word = g.0; declared = agreed params gives (find name un.names) g.1; result = f.1 }

number_is : (n : ℕ) (o : Option ℕ) → holds (λ k. k == n) o ≡ true → o ≡ Some n
number_is n None h = absurd cc
number_is n (Some k) h = ap Some (eqb-true k n h)

pub own_number : (un : Un) (name : Text) (body : StmtTs) → is_own_body name un (Some body) ≡ true → find name un.bodies ≡ Some (length un.functions)
own_number un name body h = number_is (length un.functions) (find name un.bodies) h
