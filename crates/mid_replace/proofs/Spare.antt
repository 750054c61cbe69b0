-- Objects of the second side that are no objects of the first, and what facts tell as names are added.
use Rattle.std.proofs.Common.{◌≡◌, ℕ, ◌+◌, ◌<◌, ◌⊎◌, inl, inr, true, List, [], ◌∷◌, ◌++◌, length, set, Option, Some, None, refl, sym, subst, arith, length-append}
use Rattle.obj_mem.specs.declared.cell.Cell.{Cell}
use Rattle.obj_mem.specs.declared.cell.Cell.TheVariants.{Unwritten, Num, Ptr, Null}
use Rattle.obj_mem.specs.Objects.{ObjectT, object_at, ended}
use Rattle.obj_mem.specs.Stores.{end_local, local_object}
use Rattle.obj_mem.specs.Worlds.{World}
use Rattle.mid_code.specs.inner.Alike.{Known, Twin}
use Rattle.mid_code.proofs.Values.{set_length}
use Rattle.mid_scalars.specs.inner.Named.{Name, Away, Here, name_at, IsHere, Mem, Begun, Core}
use Rattle.mid_scalars.proofs.Names.{set_off, join_first, name_split, one_name, here_same}
use Rattle.mid_replace.specs.inner.Facts.{Fact, Plain, Word, Place, Any, Weaker}
use Rattle.mid_replace.specs.inner.Held.{Points, Tells}

module _ (ns : List Name) (xs ys : List ObjectT) (m : Mem ns xs ys) where
  mem_more : (y : ObjectT) → Mem ns xs (ys ++ y ∷ [])
  mem_more y = record {
    long = m.long;
    below = λ o p h. (let a = length-append ys (y ∷ []) in let b = m.below o p h in omega (arith, a, b));
    one = m.one;
    twin = λ o p h. subst (λ z. Twin (IsHere ns) (object_at xs o) z) (sym (join_first ys y p (m.below o p h))) (m.twin o p h);
  }

  mem_other : (p : ℕ) (y : ObjectT) → ((o : ℕ) → IsHere ns o p → ⊥) → Mem ns xs (set ys p y)
  mem_other p y n = record {
    long = m.long;
    below = λ o q h. subst (λ l. q < l) (sym (set_length ys p y)) (m.below o q h);
    one = m.one;
    twin = λ o q h. subst (λ z. Twin (IsHere ns) (object_at xs o) z) (sym (set_off ys p q y (λ e. n o (subst (λ w. name_at ns o ≡ Here w) (sym e) h)))) (m.twin o q h);
  }

module _ (n : ℕ) (κ : Begun) (ns : List Name) (xs ys : List ObjectT) (c : Core n κ ns xs ys) where
  pub core_more : (y : ObjectT) → Core n κ ns xs (ys ++ y ∷ [])
  core_more y = record {
    later = c.later;
    base_in = let a = length-append ys (y ∷ []) in let b = c.base_in in omega (arith, a, b);
    mem = mem_more ns xs ys c.mem y;
    frozen = c.frozen;
    fixed = c.fixed;
  }

  core_other : (p : ℕ) (y : ObjectT) → ((o : ℕ) → IsHere ns o p → ⊥) → Core n κ ns xs (set ys p y)
  core_other p y f = record {
    later = c.later;
    base_in = let a = set_length ys p y in let b = c.base_in in omega (arith, a, b);
    mem = mem_other ns xs ys c.mem p y f;
    frozen = c.frozen;
    fixed = c.fixed;
  }

  pub core_end_other : (l : Option ℕ) → ((p : ℕ) → l ≡ Some p → (o : ℕ) → IsHere ns o p → ⊥) → Core n κ ns xs (end_local l ys)
  core_end_other None f = c
  core_end_other (Some p) f = core_other p ended (f p refl)

-- what is here was here, or is new
pub here_old : (ns : List Name) (k o p : ℕ) → name_at (ns ++ Away k ∷ []) o ≡ Here p → name_at ns o ≡ Here p
here_old ns k o p h = go (name_split ns (Away k ∷ []) o p h)
  where
    no : Away k ≡ Here p → ⊥
    no f = cc

    go : (name_at ns o ≡ Here p) ⊎ ((q : ℕ) × (o ≡ length ns + q) × (name_at (Away k ∷ []) q ≡ Here p)) → name_at ns o ≡ Here p
    go (inl g) = g
    go (inr g) = absurd (no (one_name (Away k) g.0 p g.2).1)

pub here_new : (ns : List Name) (r o p : ℕ) → name_at (ns ++ Here r ∷ []) o ≡ Here p → (name_at ns o ≡ Here p) ⊎ (r ≡ p)
here_new ns r o p h = go (name_split ns (Here r ∷ []) o p h)
  where
    go : (name_at ns o ≡ Here p) ⊎ ((q : ℕ) × (o ≡ length ns + q) × (name_at (Here r ∷ []) q ≡ Here p)) → (name_at ns o ≡ Here p) ⊎ (r ≡ p)
    go (inl g) = inl g
    go (inr g) = inr (here_same r p (one_name (Here r) g.0 p g.2).1)

-- ---- facts

abbrev pub Kept : List Name → List Name → World → World → Type 0
Kept ns ms v v' = (o k : ℕ) → name_at ns o ≡ Away k → (name_at ms o ≡ Away k)
    × ((object_at v'.store.objects o).lives ≡ true → ((object_at v.store.objects o).lives ≡ true)
    × (local_object v.store.locals k ≡ Some o → local_object v'.store.locals k ≡ Some o))

pub points_kept : (ns ms : List Name) (v v' : World) (k w : ℕ) (a : Cell) → Kept ns ms v v' → Points ns v k w a → Points ms v' k w a
points_kept ns ms v v' k w Unwritten h p = tt
points_kept ns ms v v' k w (Num n) h p = absurd p
points_kept ns ms v v' k w Null h p = absurd p
points_kept ns ms v v' k w (Ptr o i) h p = let g = h o k p.1 in (p.0, g.0, λ l. (g.1 l).1 (p.2 (g.1 l).0))

pub tells_kept : (ns ms : List Name) (v v' : World) (u : Fact) (c d : Cell) → (Known (IsHere ns) c d → Known (IsHere ms) c d) → Kept ns ms v v' → Tells ns v u c d → Tells ms v' u c d
tells_kept ns ms v v' Plain c d f h t = f t
tells_kept ns ms v v' (Word n) c d f h t = t
tells_kept ns ms v v' (Place k w) c d f h t = points_kept ns ms v v' k w c h t
tells_kept ns ms v v' Any c d f h t = tt

pub tells_weaker : (ns : List Name) (v : World) (a b : Fact) (c d : Cell) → Weaker a b → Tells ns v a c d → Tells ns v b c d
tells_weaker ns v a Any c d h t = tt
tells_weaker ns v Plain Plain c d h t = t
tells_weaker ns v (Word n) Plain c d h t = subst (λ z. Known (IsHere ns) z d) (sym t.0) t.1
tells_weaker ns v (Place k w) Plain c d h t = absurd h
tells_weaker ns v Any Plain c d h t = absurd h
tells_weaker ns v (Word n) (Word m) c d h t = subst (λ z. (c ≡ Num z) × (d ≡ Num z)) h t
tells_weaker ns v Plain (Word m) c d h t = absurd h
tells_weaker ns v (Place k w) (Word m) c d h t = absurd h
tells_weaker ns v Any (Word m) c d h t = absurd h
tells_weaker ns v (Place k w) (Place j u) c d h t = subst (λ z. Points ns v z u c) h.0 (subst (λ z. Points ns v k z c) h.1 t)
tells_weaker ns v Plain (Place j u) c d h t = absurd h
tells_weaker ns v (Word n) (Place j u) c d h t = absurd h
tells_weaker ns v Any (Place j u) c d h t = absurd h

pub weaker_same : (a : Fact) → Weaker a a
weaker_same Plain = tt
weaker_same (Word n) = refl
weaker_same (Place k w) = (refl, refl)
weaker_same Any = tt
