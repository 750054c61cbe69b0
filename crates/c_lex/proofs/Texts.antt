-- No text begins another.
use Rattle.std.proofs.Common.{◌≡◌, ℕ, List, [], ◌∷◌, ◌++◌, refl, ap, ◌∙◌}
use Rattle.std.specs.Prelude.{Some, None, IsSome}
use Rattle.quoted_text.specs.declared.quoted.Within.{Within}
use Rattle.quoted_text.specs.declared.quoted.Within.TheVariants as w
use Rattle.quoted_text.specs.declared.quoted.Turn.{Turn}
use Rattle.quoted_text.specs.declared.quoted.Turn.TheVariants as t
use Rattle.quoted_text.specs.Quoted.{Content, front, by_turn, turn_of, quoted_at}

-- the same, with more behind it
abbrev pub more_behind : List ℕ → Content → Content
more_behind r None = None
more_behind r (Some x) = Some (x.0, x.1 ++ r)

front_some : (b : ℕ) (o : Content) → IsSome (front b o) → IsSome o
front_some b None h = absurd cc
front_some b (Some x) h = refl

front_behind : (b : ℕ) (r : List ℕ) (o : Content) → front b (more_behind r o) ≡ more_behind r (front b o)
front_behind b r None = refl
front_behind b r (Some x) = refl

by_turns : (q : ℕ) (turn : Turn) (bs r : List ℕ) → ((s : Within) → IsSome (quoted_at q s bs) → quoted_at q s (bs ++ r) ≡ more_behind r (quoted_at q s bs))
    → IsSome (by_turn turn bs (λ s. quoted_at q s bs)) → by_turn turn (bs ++ r) (λ s. quoted_at q s (bs ++ r)) ≡ more_behind r (by_turn turn bs (λ s. quoted_at q s bs))
by_turns q t.Ends bs r more h = refl
by_turns q t.Fails bs r more h = absurd cc
by_turns q (t.Goes s) bs r more h = more s h
by_turns q (t.Gives b) bs r more h = ap (front b) (more w.Plain (front_some b (quoted_at q w.Plain bs) h)) ∙ front_behind b r (quoted_at q w.Plain bs)

-- what is a text stays one, whatever follows
pub stays : (q : ℕ) (s : Within) (a r : List ℕ) → IsSome (quoted_at q s a) → quoted_at q s (a ++ r) ≡ more_behind r (quoted_at q s a)
unfolding quoted_at
stays q s [] r h = absurd cc
stays q s (b ∷ bs) r h = by_turns q (turn_of q s b) bs r (λ s'. stays q s' bs r) h

pub record Parts (q : ℕ) (s : Within) (a v r : List ℕ) : Type 0 where
  pub text : List ℕ
  pub whole : a ≡ text ++ r
  pub own : quoted_at q s text ≡ Some (v, [])

pub some_is : {x y : List ℕ × List ℕ} → Some x ≡ Some y → x ≡ y
some_is e = cc

pub front_is : (b : ℕ) (o : Content) (v r : List ℕ) → front b o ≡ Some (v, r) → (v' : List ℕ) × (o ≡ Some (v', r)) × (b ∷ v' ≡ v)
front_is b None v r e = absurd cc
front_is b (Some x) v r e = let p = some_is e in (x.0, ap (λ (w : List ℕ). Some (x.0, w)) (ap (λ (y : List ℕ × List ℕ). y.1) p), ap (λ (y : List ℕ × List ℕ). y.0) p)

part_of_turn : (q : ℕ) (turn : Turn) (s : Within) (b : ℕ) (bs v r : List ℕ) → turn_of q s b ≡ turn → ((s' : Within) (v' r' : List ℕ) → quoted_at q s' bs ≡ Some (v', r') → Parts q s' bs v' r')
    → by_turn turn bs (λ s'. quoted_at q s' bs) ≡ Some (v, r) → Parts q s (b ∷ bs) v r
unfolding quoted_at
part_of_turn q t.Ends s b bs v r is more e = let p = some_is e in record {
  text = b ∷ [];
  whole = ap (λ (w : List ℕ). b ∷ w) (ap (λ (y : List ℕ × List ℕ). y.1) p);
  own = rw is (ap (λ (w : List ℕ). Some (w, [])) (ap (λ (y : List ℕ × List ℕ). y.0) p));
}
part_of_turn q t.Fails s b bs v r is more e = absurd cc
part_of_turn q (t.Goes s') s b bs v r is more e = let p = more s' v r e in record {
  text = b ∷ p.text;
  whole = ap (λ (w : List ℕ). b ∷ w) p.whole;
  own = rw is p.own;
}
part_of_turn q (t.Gives c) s b bs v r is more e =
    let q = front_is c (quoted_at q w.Plain bs) v r e in
    let p = more w.Plain q.0 r q.1 in
    record {
      text = b ∷ p.text;
      whole = ap (λ (w : List ℕ). b ∷ w) p.whole;
      own = rw (is, p.own) (ap (λ (w : List ℕ). Some (w, [])) q.2);
    }

-- what was found is a text by itself, and the rest
pub parts_of : (q : ℕ) (s : Within) (a v r : List ℕ) → quoted_at q s a ≡ Some (v, r) → Parts q s a v r
unfolding quoted_at
parts_of q s [] v r e = absurd cc
parts_of q s (b ∷ bs) v r e = part_of_turn q (turn_of q s b) s b bs v r refl (λ s' v' r' h. parts_of q s' bs v' r' h) e
