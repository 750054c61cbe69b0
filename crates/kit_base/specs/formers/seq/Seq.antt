-- How a `Seq` stores its elements: as the list of them, in order, through its vector. With it a type
-- may hold a `Seq` of itself, as a tree holds the list of its children.
use mathlib.Core.Path.{◌≡◌, refl, sym}
use mathlib.Core.List.{List, []}
use mathlib.Core.Former.{Former, this, list, via, children}
use base.Stored.{code_map}
use denote.RattleType.{RattleType}
use denote.HoleLaws.{Alike}
use denote.HolePlaces.{Recodes, struct_places, laid}
use denote.Hole.Carrier.{listed, list-listed}
use denote.Hole.Fix.{over}
use denote.Param.Weighed.{Weighed, w_list}
use denote.Model.Placed.{view_places}
use Rattle.std.specs.formers.vec.Vec as vector
use Rattle.std.specs.declared.alloc.Global.{Global}
use Rattle.std.specs.contracts.alloc.Global as heap
use Rattle.std.specs.contracts.impls.GlobalAllocator.TheImpl.{ghosts}
use Rattle.kit_base.specs.declared.seq.Seq.TheInside.{Inside}
use Rattle.kit_base.specs.declared.seq.Seq.TheView.{view, invariant}
use Rattle.kit_base.specs.contracts.seq.Seq as seq
use Rattle.kit_base.specs.contracts.seq.Seq.TheInside as inside

-- a value is the list of its elements
abbrev pub the_former : Former {0} → Former {0}
the_former element = list element

-- without elements it is the empty list
abbrev pub the_empty : List ⊥
the_empty = []

-- the elements, in order
abbrev pub the_items : (X : Type 0) → List X → List X
the_items X elements = elements

pub the_items_listed : (X : Type 0) (elements : List X) → listed _ (children (the_former this) X elements) ≡ the_items X elements
the_items_listed X elements = list-listed X elements

-- the measure is the greatest among the elements
abbrev pub the_weighed : {element : Former {0}} → Weighed element → Weighed (the_former element)
the_weighed weight = w_list weight

-- its one field is the vector
abbrev stored : Former {0}
stored = via (vector.the_former this Global) Inside (λ X s. s.items) (λ X v. record { items = v }) (λ X s. refl) (λ X v. refl)

-- at two types of elements that are laid out alike, it is laid out alike
module _ (R S : RattleType) (h : R.Denot → S.Denot) where
  pub the_places : Alike R S h → Alike (seq.the_row R) (seq.the_row S) ((the_former this).map R.Denot S.Denot h)
  the_places alike =
      let in_vector = vector.the_places heap.the_row ghosts R S h alike in
      view_places stored (list this) view (λ X Y k u. refl) (λ X u. refl) R.Denot S.Denot h (seq.the_row R).coded (seq.the_row S).coded
      (invariant R.Denot) (invariant S.Denot) (λ u p q. refl) (λ u p q. refl) (λ u e. tt) (λ u e. tt)
      (over (inside.the_row R)) (over (inside.the_row S))
      (struct_places (inside.the_type R) (inside.the_type S) (vector.mapped h, tt) _ (λ d. refl) refl (laid _ _ _ in_vector, tt))

  pub the_codes_placed : Recodes R S h → Recodes (seq.the_row R) (seq.the_row S) ((the_former this).map R.Denot S.Denot h)
  the_codes_placed same d = sym (code_map R.coded.code S.coded.code h (λ x. sym (same x)) d)
