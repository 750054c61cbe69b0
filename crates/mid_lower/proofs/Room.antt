-- The unnamed locals that are there for a part of a tree.
use Rattle.std.proofs.Common.{◌≡◌, ℕ, zero, suc, ◌+◌, ◌<◌, ◌≤◌, List, [], ◌∷◌, ◌++◌, length, get_or, Option, refl, sym, ap, ◌∙◌, subst, arith}
use Rattle.obj_mem.specs.Stores.{words_here}
use Rattle.obj_mem.specs.Worlds.{World}
use Rattle.mid_code.specs.Code.{CodeT}
use Rattle.mid_code.specs.States.{sizes_of}
use Rattle.mid_lower.proofs.Fits.{Site}
use Rattle.mid_lower.proofs.Following.{Side, Base, base_of, Stays}

-- Locals of these words from m on, none of them in use, in a function that has so many of its own and so many behind them.
pub record RoomIn (code : CodeT ℕ) (frames : List ℕ) (function : Option ℕ) (own floor long m : ℕ) (zs : List ℕ) : Type 0 where
  pub free : own + floor ≤ m
  pub fits : m + length zs ≤ own + long
  pub words : (j : ℕ) → j < length zs → words_here (sizes_of code frames) function (m + j) ≡ get_or zs j 0

abbrev pub Room : Site → Base → ℕ → List ℕ → Type 0
Room S β m zs = RoomIn S.code S.frames β.function β.own β.floor (length β.extra) m zs

pub room_at : (S : Site) (β : Base) (m : ℕ) (zs : List ℕ) (w : World) (x : Side) → Room S β m zs → Stays β w x → Room S (base_of w x) m zs
room_at S β m zs w x r h =
    let eo = h.same_own in
    let ef = h.same_floor in
    let el = h.long in
    record {
      free = let a = r.free in omega (arith, a, eo, ef);
      fits = let a = r.fits in omega (arith, a, eo, el);
      words = λ j lt. subst (λ f. words_here (sizes_of S.code S.frames) f (m + j) ≡ get_or zs j 0) (sym h.same_function) (r.words j lt);
    }

pub join_length : (zs us : List ℕ) → length (zs ++ us) ≡ length zs + length us
join_length [] us = omega arith
join_length (z ∷ zs) us = let e = join_length zs us in omega (arith, e)

pub get_first : (zs us : List ℕ) (j : ℕ) → j < length zs → get_or (zs ++ us) j 0 ≡ get_or zs j 0
get_first [] us j lt = absurd (omega (arith, lt))
get_first (z ∷ zs) us zero lt = refl
get_first (z ∷ zs) us (suc j) lt = get_first zs us j (omega (arith, lt))

pub get_second : (zs us : List ℕ) (i j : ℕ) → i ≡ length zs + j → get_or (zs ++ us) i 0 ≡ get_or us j 0
get_second [] us i j e = ap (λ k. get_or us k 0) (omega (arith, e))
get_second (z ∷ zs) us zero j e = absurd (omega (arith, e))
get_second (z ∷ zs) us (suc i) j e = get_second zs us i j (omega (arith, e))

pub room_first : (S : Site) (β : Base) (m : ℕ) (zs us : List ℕ) → Room S β m (zs ++ us) → Room S β m zs
room_first S β m zs us r =
    let l = join_length zs us in
    record {
      free = r.free;
      fits = let a = r.fits in omega (arith, a, l);
      words = λ j lt. r.words j (omega (arith, lt, l)) ∙ get_first zs us j lt;
    }

pub room_second : (S : Site) (β : Base) (m : ℕ) (zs us : List ℕ) → Room S β m (zs ++ us) → Room S β (m + length zs) us
room_second S β m zs us r =
    let l = join_length zs us in
    record {
      free = let a = r.free in omega (arith, a);
      fits = let a = r.fits in omega (arith, a, l);
      words = λ j lt. subst (λ k. words_here (sizes_of S.code S.frames) β.function k ≡ get_or us j 0) (omega arith) (r.words (length zs + j) (omega (arith, lt, l)) ∙ get_second zs us (length zs + j) j refl);
    }
