-- Trails of a whole function.
use Rattle.std.proofs.Common.{◌≡◌, ℕ, Bool, true, false, ◌&&◌, not, List, [], refl, ap, sym, ◌∙◌}
use Rattle.mid_code.specs.Code.{NodesT, FunctionT}
use Rattle.mid_code.specs.Live.{Label, is_live, is_among}
use Rattle.reg_choose.specs.declared.trail.Trail.{Trail}
use Rattle.reg_choose.specs.inner.Trails.{stood, crossing, no_trail, trail_of}
use Rattle.reg_choose.specs.inner.Sparse.{sparse, follows}
use Rattle.reg_choose.proofs.Ranges.{crossing_stood}
use Rattle.reg_choose.proofs.Shortcut.{function_shortcut}

pub begun : (j b w : Bool) → b ≡ false → w ≡ true → (j && not b) ≡ (j && w)
begun j b w e f = ap (λ z. j && not z) e ∙ ap (λ z. j && z) (sym f)

pub not_begun : (j w : Bool) → w ≡ false → (j && w) ≡ false
not_begun true w e = e
not_begun false w e = refl

-- b what is told to be live, n the place, t the trail behind the nodes
pub body_seen : (y : ℕ) (ls : List Label) (c : NodesT ℕ) (j v w : Bool) (n : ℕ) (r t u : Trail) → ls ≡ [] → j ≡ false → n ≡ 1 → v ≡ is_live y ls c j → t ≡ sparse y ls c j false n r → u ≡ stood (v && w) 1 t → u ≡ stood (is_live y [] c false && w) 1 (sparse y [] c false false 1 r)
body_seen y ls c j v w n r t u e f g h i k =
    k ∙ ap (λ z. stood (z && w) 1 t) (h ∙ ap (λ z. is_live y z c j) e ∙ ap (is_live y [] c) f)
    ∙ ap (stood (is_live y [] c false && w) 1) (i ∙ ap (λ z. sparse y z c j false n r) e ∙ ap (λ z. sparse y [] c z false n r) f ∙ ap (λ z. sparse y [] c false false z r) g)

pub function_seen : (f : FunctionT ℕ) (y : ℕ) (b : Bool) (c : NodesT ℕ) (xs : List ℕ) (r s t u : Trail) → c ≡ f.body → xs ≡ f.params → r ≡ no_trail → crossing b s ≡ stood (is_live y [] c false && follows c) 1 (sparse y [] c false false 1 r) → t ≡ stood (is_among xs y) 0 s → u ≡ crossing b t → u ≡ trail_of f y
function_seen f y b c xs r s t u e g h i k l =
    l ∙ ap (crossing b) k ∙ crossing_stood b (is_among xs y) 0 s
    ∙ ap (λ z. stood (is_among z y) 0 (crossing b s)) g
    ∙ ap (stood (is_among f.params y) 0) (i ∙ ap (λ z. stood (is_live y [] z false && follows z) 1 (sparse y [] z false false 1 r)) e ∙ ap (λ z. stood (is_live y [] f.body false && follows f.body) 1 (sparse y [] f.body false false 1 z)) h)
    ∙ sym (function_shortcut f y)
