-- What fills a variable fills it so in the whole program.
use Rattle.std.proofs.Common.{◌≡◌, ℕ, ◌+◌, ◌==◌, Bool, true, false, ◌&&◌, ◌||◌, nat_le, List, [], ◌∷◌, Option, Some, None, Ok, refl, sym, ap, ◌∙◌, subst, arith, not, if◌then◌else◌, leb-true, ne_eqb}
use Rattle.std.proofs.lemmas.Bool.Decides.{nat_tests}
use Rattle.std.specs.Prelude.{slice_get, option_map}
use Rattle.std.specs.Option.{option_map_or}
use Rattle.c_tree.specs.Tree.{InitT, InitTs}
use Rattle.c_types.specs.Types.{Ty, VoidY, IntY, BoolY, EnumY, StructY, UnionY, PointerY, ArrayY, MemberT, LayoutT}
use Rattle.c_types.specs.Typed.{TExprT, Typed, TKindT, LiteralK, TInitT, OneI, TextI, ListI, TInitTs}
use Rattle.c_rules.specs.declared.code.Code.{Code}
use Rattle.c_rules.specs.declared.code.Code.TheVariants.{WrongType, NotConstant}
use Rattle.c_rules.specs.Kinds.{is_int, is_array, element_count, converts}
use Rattle.c_types.specs.Kinds.{is_structure}
use Rattle.c_rules.specs.Sizes.{is_declared, is_whole}
use Rattle.c_exprs.specs.Env.{Text, Ctx}
use Rattle.c_exprs.specs.Nodes.{type_of_typed, span_of}
use Rattle.c_exprs.specs.Calls.{ensured}
use Rattle.c_stmts.specs.Slots.{Slots, NoSlots, Elements, Members, members_of, first_of, member_types, slots_of, slots_for, next_slot, later_slots, item_count, has_room, is_fixed, literal_of, text_fills, value_fills, fills, filled}
use Rattle.c_stmts.specs.InitTypes as init
use Rattle.c_stmts.specs.InitTypes.{Fills, AllFill}
use Rattle.c_facts.specs.Sound.{Scene, IsKnown, IsKind, IsTypedValue, IsLiteral, text_type, takes_value, takes_text, HasPlaces, FillsAs, FillEach}
use Rattle.c_facts.proofs.Expressions.{value_sound}
use Rattle.c_facts.proofs.Within.{Begins, Within, AllMembersKnown, AllWhole, MembersWhole}
use Rattle.c_facts.proofs.Beginnings.{value_begins}
use Rattle.c_facts.proofs.Holds.{placed_gives, demanded_gives, ensured_gives}
use Rattle.c_facts.proofs.Fronts.{begins_itself, begins_through}

-- ---- texts

mutual
  pub fills_texts : {c : Ctx} {ts us : List Text} {global : Bool} {target : Option Ty} {i : InitT} {x : TInitT} → Fills c ts global target i x us → Begins ts us
  fills_texts (init.one h k) = value_begins h
  fills_texts (init.list h k) = all_fill_texts h

  pub all_fill_texts : {c : Ctx} {ts us : List Text} {global : Bool} {slots : Slots} {items : InitTs} {xs : TInitTs} → AllFill c ts global slots items xs us → Begins ts us
  all_fill_texts (init.no_items {ts = ts}) = begins_itself ts
  all_fill_texts (init.more_items {ts = ts} {us = us} {vs = vs} h k) = begins_through ts us vs (fills_texts h) (all_fill_texts k)

-- ---- one expression

ensured_is : (k : Code) (test : Bool) (x i : TInitT) → ensured k test (Ok x) ≡ Ok i → (test ≡ true) × (x ≡ i)
ensured_is k true x i h = (refl, cc)
ensured_is k false x i h = cc

-- where the type is no array the expression is kept
value_one : (global : Bool) (ty : Ty) (x : TExprT) (i : TInitT) → is_array ty ≡ false → value_fills global ty x ≡ Ok i → (takes_value global ty x ≡ true) × (OneI x ≡ i)
value_one true ty x i n h =
    let k = ensured_gives WrongType (converts (type_of_typed x) ty && not (is_structure ty)) (ensured NotConstant (is_fixed x) (Ok (OneI x))) i h in
    let fixed = ensured_is NotConstant (is_fixed x) (OneI x) i k.1 in
    (takes_fixed (is_array ty) (converts (type_of_typed x) ty) (is_structure ty) (is_fixed x) n k.0 fixed.0, fixed.1)
  where
    takes_fixed : (a c s f : Bool) → a ≡ false → (c && not s) ≡ true → f ≡ true → (not a && c && (not true || (not s && f))) ≡ true
    takes_fixed false true false f e h k = k
    takes_fixed false true true f e h k = cc
    takes_fixed false false s f e h k = cc
    takes_fixed true c s f e h k = cc
value_one false ty x i n h =
    let k = ensured_is WrongType (converts (type_of_typed x) ty) (OneI x) i h in
    (takes_kept (is_array ty) (converts (type_of_typed x) ty) (not (is_structure ty) && is_fixed x) n k.0, k.1)
  where
    takes_kept : (a c f : Bool) → a ≡ false → c ≡ true → (not a && c && (not false || f)) ≡ true
    takes_kept false true f e h = refl
    takes_kept false false f e h = cc
    takes_kept true c f e h = cc

-- a value that is kept as it is
one_fills : (s : Scene) (global : Bool) (ty : Ty) (x : TExprT) (i : TInitT) → IsTypedValue s x → is_array ty ≡ false → value_fills global ty x ≡ Ok i → FillsAs s global i (Some ty)
one_fills s global ty x i v h k = let one = value_one global ty x i h k in subst (λ j. FillsAs s global j (Some ty)) one.1 (v, one.0)

both_hold : (a b : Bool) → (a && b) ≡ true → (a ≡ true) × (b ≡ true)
both_hold true true h = (refl, refl)
both_hold true false h = cc
both_hold false b h = cc

-- a text in an array
text_fits : (s : Scene) (global : Bool) (of : Ty) (count number : ℕ) (ty : Ty) (i : TInitT) → IsLiteral s number ty → text_fills of count (Some number) ty ≡ Ok i → FillsAs s global i (Some (ArrayY of count))
text_fits s global of count number ty i l h =
    let k = ensured_is WrongType (is_int of && nat_le (option_map_or (λ n. n) (element_count ty) 0) count) (TextI number) i h in
    subst (λ j. FillsAs s global j (Some (ArrayY of count))) k.1 (text_taken of count (slice_get s.literals number) ty l k.0)
  where
    text_taken : (of : Ty) (count : ℕ) (o : Option Text) (ty : Ty) → option_map text_type o ≡ Some ty → (is_int of && nat_le (option_map_or (λ n. n) (element_count ty) 0) count) ≡ true → takes_text (ArrayY of count) o ≡ true
    text_taken of count None ty l h = cc
    text_taken of count (Some t) ty l h = let e : ty ≡ text_type t = cc in subst (λ (u : Ty). (is_int of && nat_le (option_map_or (λ n. n) (element_count u) 0) count) ≡ true) e h

array_fills : (s : Scene) (global : Bool) (of : Ty) (count : ℕ) (kind : TKindT) (ty : Ty) (i : TInitT) → IsKind s kind ty → text_fills of count (literal_of kind) ty ≡ Ok i → FillsAs s global i (Some (ArrayY of count))
array_fills s global of count (LiteralK number) ty i l h = text_fits s global of count number ty i l h
array_fills s global of count kind ty i l h = cc

-- an expression that fills a type
fills_as : (s : Scene) (global : Bool) (ty : Ty) (x : TExprT) (i : TInitT) → IsTypedValue s x → fills global ty x ≡ Ok i → FillsAs s global i (Some ty)
fills_as s global VoidY x i v h = one_fills s global VoidY x i v refl h
fills_as s global IntY x i v h = one_fills s global IntY x i v refl h
fills_as s global BoolY x i v h = one_fills s global BoolY x i v refl h
fills_as s global (EnumY number) x i v h = one_fills s global (EnumY number) x i v refl h
fills_as s global (StructY number) x i v h = one_fills s global (StructY number) x i v refl h
fills_as s global (UnionY number) x i v h = one_fills s global (UnionY number) x i v refl h
fills_as s global (PointerY to) x i v h = one_fills s global (PointerY to) x i v refl h
fills_as s global (ArrayY of count) (Typed kind ty span) i v h = array_fills s global of count kind ty i v.typed.1 h

-- ---- places

-- a type that is filled: it is known, and whole at the time
pub record IsTarget (c : Ctx) (s : Scene) (ty : Ty) : Type 0 where
  pub known : IsKnown s.layouts s.whole ty
  pub whole : is_whole c.whole ty ≡ true

abbrev pub MayTarget : Ctx → Scene → Option Ty → Type 0
MayTarget c s None = ⊥
MayTarget c s (Some ty) = IsTarget c s ty

abbrev AreTargets : Ctx → Scene → List Ty → Type 0
AreTargets c s [] = Unit {0}
AreTargets c s (ty ∷ tys) = IsTarget c s ty × AreTargets c s tys

abbrev HasTargets : Ctx → Scene → Slots → Type 0
HasTargets c s NoSlots = Unit {0}
HasTargets c s (Elements of left) = IsTarget c s of
HasTargets c s (Members tys) = AreTargets c s tys

member_targets : (c : Ctx) (s : Scene) (ms : List MemberT) → AllMembersKnown s ms → AllWhole c.whole ms → AreTargets c s (member_types ms)
member_targets c s [] h k = tt
member_targets c s (m ∷ ms) h k = (record { known = h.0; whole = k.0 }, member_targets c s ms h.1 k.1)

structure_targets : (c : Ctx) (s : Scene) → Within c s → MembersWhole c.layouts c.whole → (number : ℕ) → is_declared c.whole number ≡ true → (o : Option LayoutT) → slice_get c.layouts number ≡ o → AreTargets c s (members_of o)
structure_targets c s w m number h None e = tt
structure_targets c s w m number h (Some l) e = member_targets c s l.members (w.members number l (sym (w.grows.fixed number h).1 ∙ e)) (m number l h e)

first_target : (c : Ctx) (s : Scene) (tys : List Ty) → AreTargets c s tys → AreTargets c s (first_of tys)
first_target c s [] h = tt
first_target c s (ty ∷ tys) h = (h.0, tt)

-- the places of a type that is filled
slots_targets : (c : Ctx) (s : Scene) → Within c s → MembersWhole c.layouts c.whole → (ty : Ty) → IsTarget c s ty → HasTargets c s (slots_of c.layouts ty)
slots_targets c s w m VoidY t = tt
slots_targets c s w m IntY t = tt
slots_targets c s w m BoolY t = tt
slots_targets c s w m (EnumY number) t = tt
slots_targets c s w m (StructY number) t = structure_targets c s w m number t.whole (slice_get c.layouts number) refl
slots_targets c s w m (UnionY number) t = first_target c s (members_of (slice_get c.layouts number)) (structure_targets c s w m number t.whole (slice_get c.layouts number) refl)
slots_targets c s w m (PointerY to) t = tt
slots_targets c s w m (ArrayY of count) t = record { known = t.known.0; whole = t.whole }

targets_for : (c : Ctx) (s : Scene) → Within c s → MembersWhole c.layouts c.whole → (target : Option Ty) → MayTarget c s target → HasTargets c s (slots_for c.layouts target)
targets_for c s w m None t = absurd t
targets_for c s w m (Some ty) t = slots_targets c s w m ty t

-- what is whole at the time has the places that it has in the whole program
slots_kept : (c : Ctx) (s : Scene) → Within c s → (ty : Ty) → is_whole c.whole ty ≡ true → slots_of c.layouts ty ≡ slots_of s.layouts ty
slots_kept c s w VoidY h = refl
slots_kept c s w IntY h = refl
slots_kept c s w BoolY h = refl
slots_kept c s w (EnumY number) h = refl
slots_kept c s w (StructY number) h = ap (λ o. Members (members_of o)) (w.grows.fixed number h).1
slots_kept c s w (UnionY number) h = ap (λ o. Members (first_of (members_of o))) (w.grows.fixed number h).1
slots_kept c s w (PointerY to) h = refl
slots_kept c s w (ArrayY of count) h = refl

-- the place for the first item of a list, and room for the rest
record Takes (c : Ctx) (s : Scene) (slots : Slots) (n : ℕ) : Type 0 where
  pub next : MayTarget c s (next_slot slots)
  pub later : HasTargets c s (later_slots slots)
  pub room : has_room n (later_slots slots) ≡ true

-- a list with room has a place for its first item
some_left : (left n : ℕ) → nat_le (n + 1) left ≡ true → (left == 0) ≡ false
some_left left n h = ne_eqb _ _ (omega (arith, leb-true _ _ h))

takes : (c : Ctx) (s : Scene) (slots : Slots) (n : ℕ) → has_room (n + 1) slots ≡ true → HasTargets c s slots → Takes c s slots n
takes c s NoSlots n h t = cc
takes c s (Elements of left) n h t = record {
  next = subst (λ b. MayTarget c s (if b then None else Some of)) (sym (some_left left n h)) t;
  later = t;
  room = grind (arith, nat_tests, leb-true _ _ h);
}
takes c s (Members []) n h t = absurd (omega (arith, leb-true _ _ h))
takes c s (Members (ty ∷ tys)) n h t = record { next = t.0; later = t.1; room = grind (arith, nat_tests, leb-true _ _ h) }

-- what has room has places
has_places : (n : ℕ) (slots : Slots) → has_room n slots ≡ true → HasPlaces slots
has_places n NoSlots h = cc
has_places n (Elements of left) h = tt
has_places n (Members tys) h = tt

-- ---- initialisers

-- a brace list where there is room
list_fills : (c : Ctx) (s : Scene) → Within c s → (global : Bool) (target : Option Ty) (xs : TInitTs) (n : ℕ) → MayTarget c s target → has_room n (slots_for c.layouts target) ≡ true → FillEach s global xs (slots_for c.layouts target) → FillsAs s global (ListI xs) target
list_fills c s w global None xs n t room h = absurd t
list_fills c s w global (Some ty) xs n t room h =
    let e = slots_kept c s w ty t.whole in
    (subst HasPlaces e (has_places n (slots_of c.layouts ty) room), subst (FillEach s global xs) e h)

-- an expression at a place
one_filled : (c : Ctx) (s : Scene) (global : Bool) (target : Option Ty) (x : TExprT) (i : TInitT) → MayTarget c s target → IsTypedValue s x → filled global target x ≡ Ok i → FillsAs s global i target
unfolding filled
one_filled c s global None x i t v h = absurd t
one_filled c s global (Some ty) x i t v h = fills_as s global ty x i v h

-- What fills a type that is known, and whole at the time, fills it so in the whole program.
mutual
  pub fills_sound : (s : Scene) {c : Ctx} {ts us : List Text} {global : Bool} {target : Option Ty} {i : InitT} {x : TInitT} → Within c s → MembersWhole c.layouts c.whole → Fills c ts global target i x us → Begins us s.literals → MayTarget c s target → FillsAs s global x target
  fills_sound s {c = c} w m (init.one {ts = ts} {us = us} {global = global} {target = target} {e = e} {x = x} {i = i} h k) b t = one_filled c s global target x i t (value_sound s w h b) (placed_gives (span_of e) (filled global target x) i k)
  fills_sound s {c = c} w m (init.list {global = global} {target = target} {items = items} {s = span} {xs = xs} h k) b t =
      let room : has_room (item_count items) (slots_for c.layouts target) ≡ true = demanded_gives span WrongType _ k in
      list_fills c s w global target xs (item_count items) t room (all_fill_sound s w m h b room (targets_for c s w m target t))

  all_fill_sound : (s : Scene) {c : Ctx} {ts us : List Text} {global : Bool} {slots : Slots} {items : InitTs} {xs : TInitTs} → Within c s → MembersWhole c.layouts c.whole → AllFill c ts global slots items xs us → Begins us s.literals → has_room (item_count items) slots ≡ true → HasTargets c s slots → FillEach s global xs slots
  all_fill_sound s w m init.no_items b room t = tt
  all_fill_sound s {c = c} w m (init.more_items {us = us} {vs = vs} {slots = slots} {rest = rest} h k) b room t =
      let now = takes c s slots (item_count rest) room t in
      (fills_sound s w m h (begins_through us vs s.literals (all_fill_texts k) b) now.next, all_fill_sound s w m k b now.room now.later)

-- the initialiser of a variable
pub init_sound : (s : Scene) {c : Ctx} {ts us : List Text} {global : Bool} {ty : Ty} {i : InitT} {x : TInitT} → Within c s → MembersWhole c.layouts c.whole → Fills c ts global (Some ty) i x us → Begins us s.literals → IsKnown s.layouts s.whole ty → is_whole c.whole ty ≡ true
    → FillsAs s global x (Some ty)
init_sound s w m h b known sized = fills_sound s w m h b (record { known = known; whole = sized })
