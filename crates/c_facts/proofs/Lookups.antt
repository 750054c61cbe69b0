-- What is found by a name is what the name means.
use Rattle.std.proofs.Common.{◌≡◌, ℕ, ◌==◌, Bool, true, false, ◌&&◌, ◌||◌, List, [], ◌∷◌, Option, Some, None, Ok, refl, subst, arith}
use Rattle.std.proofs.lemmas.Bool.Decides.{nat_tests}
use Rattle.std.specs.List.{list_any}
use Rattle.std.specs.Prelude.{if◌then◌else◌}
use Rattle.std.specs.Str.{bytes_eq}
use Rattle.c_types.specs.Types.{Ty, VoidY, IntY, BoolY, EnumY, StructY, UnionY, PointerY, ArrayY, MemberT, LayoutT}
use Rattle.c_types.specs.Sizes.{member_named}
use Rattle.c_rules.specs.Kinds.{same_type}
use Rattle.c_exprs.specs.Nodes.{known_member, member_in}
use Rattle.c_exprs.specs.Env.{Text, find, find_in, or_else, LocalD, Decl}
use Rattle.c_facts.specs.Sound.{Scene, is_member, has_member}
use Rattle.c_facts.proofs.Within.{IsMeant, AreMeant, IsObjectOf, InScope, InScopes}

meant_here : (s : Scene) (test : Bool) (d e : Decl) (rest : Option Decl) → IsMeant s d → (rest ≡ Some e → IsMeant s e) → (if test then Some d else rest) ≡ Some e → IsMeant s e
meant_here s true d e rest here later h = let same : d ≡ e = cc in subst (λ (x : Decl). IsMeant s x) same here
meant_here s false d e rest here later h = later h

pub name_meant : (s : Scene) (n : Text) (names : List (Text × Decl)) (d : Decl) → AreMeant s names → find n names ≡ Some d → IsMeant s d
name_meant s n [] d all h = cc
name_meant s n (e ∷ es) d all h = meant_here s (bytes_eq n e.0) e.1 d (find n es) all.0 (λ k. name_meant s n es d all.1 k) h

object_here : (s : Scene) (test : Bool) (d e : LocalD) (rest : Option LocalD) → IsObjectOf s d → (rest ≡ Some e → IsObjectOf s e) → (if test then Some d else rest) ≡ Some e → IsObjectOf s e
object_here s true d e rest here later h = let same : d ≡ e = cc in subst (λ (x : LocalD). IsObjectOf s x) same here
object_here s false d e rest here later h = later h

pub object_in_scope : (s : Scene) (n : Text) (names : List (Text × LocalD)) (l : LocalD) → InScope s names → find n names ≡ Some l → IsObjectOf s l
object_in_scope s n [] l all h = cc
object_in_scope s n (e ∷ es) l all h = object_here s (bytes_eq n e.0) e.1 l (find n es) all.0 (λ k. object_in_scope s n es l all.1 k) h

object_either : (s : Scene) (l : LocalD) (a b : Option LocalD) → (a ≡ Some l → IsObjectOf s l) → (b ≡ Some l → IsObjectOf s l) → or_else a b ≡ Some l → IsObjectOf s l
object_either s l None b first second h = second h
object_either s l (Some x) b first second h = first h

pub object_found : (s : Scene) (n : Text) (scopes : List (List (Text × LocalD))) (l : LocalD) → InScopes s scopes → find_in n scopes ≡ Some l → IsObjectOf s l
object_found s n [] l all h = cc
object_found s n (e ∷ es) l all h = object_either s l (find_in n es) (find n e) (λ k. object_found s n es l all.1 k) (λ k. object_in_scope s n e l all.0 k) h

-- ---- members

number_itself : (n : ℕ) → (n == n) ≡ true
number_itself n = grind (arith, nat_tests)

both_so : (a b : Bool) → a ≡ true → b ≡ true → (a && b) ≡ true
both_so true b h k = k
both_so false b h k = h

pub same_itself : (ty : Ty) → same_type ty ty ≡ true
same_itself VoidY = refl
same_itself IntY = refl
same_itself BoolY = refl
same_itself (EnumY number) = number_itself number
same_itself (StructY number) = number_itself number
same_itself (UnionY number) = number_itself number
same_itself (PointerY to) = same_itself to
same_itself (ArrayY of count) = both_so (same_type of of) (count == count) (same_itself of) (number_itself count)

first_true : (a b : Bool) → a ≡ true → (a || b) ≡ true
first_true true b h = refl
first_true false b h = absurd cc

second_true : (a b : Bool) → b ≡ true → (a || b) ≡ true
second_true true b h = refl
second_true false b h = h

member_first : (k m : MemberT) (test : Bool) (others : Bool) (rest : Option MemberT) → (known_member rest ≡ Ok m → others ≡ true) → known_member (if test then Some k else rest) ≡ Ok m → (is_member m.offset m.ty k || others) ≡ true
member_first k m true others rest later h =
    let e : k ≡ m = cc in
    first_true (is_member m.offset m.ty k) others (subst (λ (x : MemberT). is_member m.offset m.ty x ≡ true) (sym_of e) (both_so (m.offset == m.offset) (same_type m.ty m.ty) (number_itself m.offset) (same_itself m.ty)))
  where
    sym_of : {a b : MemberT} → a ≡ b → b ≡ a
    sym_of e = cc
member_first k m false others rest later h = second_true (is_member m.offset m.ty k) others (later h)

members_there : (n : Text) (ms : List MemberT) (m : MemberT) → known_member (member_named n ms) ≡ Ok m → list_any (is_member m.offset m.ty) ms ≡ true
members_there n [] m h = absurd cc
members_there n (k ∷ ks) m h = member_first k m (bytes_eq n k.name) (list_any (is_member m.offset m.ty) ks) (member_named n ks) (members_there n ks m) h

-- a member that a name finds is there
pub member_there : (n : Text) (l : Option LayoutT) (m : MemberT) → member_in n l ≡ Ok m → has_member l m.offset m.ty ≡ true
member_there n None m h = absurd cc
member_there n (Some l) m h = members_there n l.members m h
