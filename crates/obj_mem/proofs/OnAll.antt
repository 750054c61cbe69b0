-- What is done to the objects that live is done to all.
use Rattle.std.proofs.Common.{◌≡◌, ℕ, ◌+◌, ◌&&◌, ltb, leb, Some, None, Ok, Err, List, [], ◌∷◌, ◌++◌, map, length, sym, ap, ap₂, ◌∙◌, subst}
use Rattle.std.proofs.lemmas.List.{map-append}
use Rattle.obj_mem.specs.declared.cell.Cell.{Cell}
use Rattle.obj_mem.specs.declared.cell.ObjectKind.{ObjectKind}
use Rattle.obj_mem.specs.declared.access.Access.{Access}
use Rattle.obj_mem.specs.declared.object.Object.{Object}
use Rattle.obj_mem.specs.declared.objects.Objects.{Objects}
use Rattle.obj_mem.specs.Objects.{ObjectT, cell_at, cell_read, cell_written, end_from, end_object, extent, made, object_at, read_refused, unless_refused, write_refused}
use Rattle.obj_mem.specs.Queries.{is_inside, is_within}
use Rattle.obj_mem.specs.Living.{ActsOnLiving, KeepsRising, LiveT, Rises, found, live_below, live_made, live_without, live_written, objects_of}
use Rattle.obj_mem.specs.LiveView.{live_object}
use Rattle.obj_mem.specs.View.{objects}
use Rattle.obj_mem.proofs.Living.{living, at}

module _ (x : Objects) where
  abbrev held : List LiveT
  held = map live_object x.live.items

  law : ActsOnLiving held x.next × KeepsRising held x.next
  law = living held x.next x.rising

  pub rises : (next : ℕ) × Rises 0 next held
  rises = (x.next, x.rising)

  pub all_count : x.next ≡ length (objects x)
  unfolding objects
  all_count = sym law.0.counts

  pub all_read : (o i : ℕ) → unless_refused (read_refused (found held o) i) (cell_at (found held o) i) ≡ cell_read (objects x) o i
  unfolding objects
  all_read o i = sym (law.0.reads o i)

  here : (o : ℕ) → found held o ≡ object_at (objects x) o
  unfolding objects
  here o = sym (at held x.next x.rising o)

  pub all_lives : (o : ℕ) → (found held o).lives ≡ (object_at (objects x) o).lives
  all_lives o = ap (λ (z : ObjectT). z.lives) (here o)

  pub all_cells : (o : ℕ) → (found held o).cells ≡ (object_at (objects x) o).cells
  all_cells o = ap (λ (z : ObjectT). z.cells) (here o)

  pub all_inside : (o i : ℕ) → ((found held o).lives && ltb i (extent (found held o))) ≡ is_inside (objects x) o i
  all_inside o i = ap (λ (z : ObjectT). z.lives && ltb i (extent z)) (here o)

  pub all_within : (o i : ℕ) → ((found held o).lives && leb i (extent (found held o))) ≡ is_within (objects x) o i
  all_within o i = ap (λ (z : ObjectT). z.lives && leb i (extent z)) (here o)

  pub all_refused : (o i : ℕ) (c : Cell) (why : Access) → write_refused (found held o) i ≡ Some why → cell_written (objects x) o i c ≡ Err why
  unfolding objects
  all_refused o i c why e = law.0.writes o i c ∙ ap (λ p. unless_refused p (objects_of (live_written o i c held) x.next)) e

  module _ (y : Objects) where
    pub all_kept : y.next ≡ x.next → map live_object y.live.items ≡ held → objects y ≡ objects x
    unfolding objects
    all_kept n e = ap₂ objects_of e n

    pub all_written : (o i : ℕ) (c : Cell) → y.next ≡ x.next → write_refused (found held o) i ≡ None → map live_object y.live.items ≡ live_written o i c held → cell_written (objects x) o i c ≡ Ok (objects y)
    unfolding objects
    all_written o i c n may e = law.0.writes o i c ∙ ap (λ p. unless_refused p (objects_of (live_written o i c held) x.next)) may ∙ ap Ok (sym (ap₂ objects_of e n))

    pub all_made : (k : ObjectKind) (cells : List Cell) → y.next ≡ x.next + 1 → map live_object y.live.items ≡ live_made held x.next k cells → objects y ≡ made (objects x) k cells
    unfolding objects
    all_made k cells n e = ap₂ objects_of e n ∙ sym (law.0.makes k cells)

    pub all_ended : (o : ℕ) → y.next ≡ x.next → map live_object y.live.items ≡ live_without o held → objects y ≡ end_object (objects x) o
    unfolding objects
    all_ended o n e = ap₂ objects_of e n ∙ sym (law.0.ends o)

    pub all_cut : (o : ℕ) → y.next ≡ x.next → map live_object y.live.items ≡ live_below o held → objects y ≡ end_from o (objects x)
    unfolding objects
    all_cut o n e = ap₂ objects_of e n ∙ sym (law.0.ends_from o)

-- ---- the numbers still rise

module _ (live : List LiveT) (next : ℕ) (r : Rises 0 next live) where
  pub still_written : (o i : ℕ) (c : Cell) (new : List LiveT) → new ≡ live_written o i c live → Rises 0 next new
  still_written o i c new e = subst (Rises 0 next) (sym e) ((living live next r).1.written o i c)

  pub still_kept : (new : List LiveT) → new ≡ live → Rises 0 next new
  still_kept new e = subst (Rises 0 next) (sym e) r

  pub still_without : (o : ℕ) (new : List LiveT) → new ≡ live_without o live → Rises 0 next new
  still_without o new e = subst (Rises 0 next) (sym e) ((living live next r).1.without o)

  pub still_below : (o : ℕ) (new : List LiveT) → new ≡ live_below o live → Rises 0 next new
  still_below o new e = subst (Rises 0 next) (sym e) ((living live next r).1.below o)

  pub still_made : (k : ObjectKind) (cells : List Cell) (new : List LiveT) → new ≡ live_made live next k cells → Rises 0 (next + 1) new
  still_made k cells new e = subst (Rises 0 (next + 1)) (sym e) ((living live next r).1.made k cells)

-- one more is the last
pub one_more : (xs : List Object) (y : Object) → map live_object (xs ++ y ∷ []) ≡ live_made (map live_object xs) y.number y.kind y.cells.items
one_more xs y = map-append live_object xs (y ∷ [])

pub ruleset making = (all_count, all_kept, all_made, still_made, one_more)

pub ruleset writing = (rises, all_refused, all_written, all_kept, still_written, still_kept)
