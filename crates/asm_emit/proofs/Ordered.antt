-- The arguments of a call that go into registers, one after another.
use Rattle.std.proofs.Common.{◌≡◌, ℕ, Bool, true, false, List, [], ◌∷◌, ◌++◌, length, refl, sym, ap, ◌∙◌, append_assoc, append-nil}
use Rattle.std.specs.Prelude.{cond, ◌==◌}
use Rattle.asm_items.specs.declared.item.AsmItem.{AsmItem}
use Rattle.mid_code.specs.declared.placed.Where.{Where}
use Rattle.mid_code.specs.declared.placed.Where.TheVariants.{Reg, Slot}
use Rattle.asm_laws.specs.Operations.{Frame, moved_items}
use Rattle.asm_laws.specs.Moves.{Move, is_register, wanted, next_of, turn, away, left, ordered}

wanted_one : (p a : Where) (ps args : List Where) → wanted (p ∷ ps) (a ∷ args) ≡ wanted (p ∷ []) (a ∷ []) ++ wanted ps args
wanted_one (Slot k) a ps args = refl
wanted_one (Reg r) a ps args = go (is_register a r)
  where
    go : (b : Bool) → cond b (wanted ps args) ((r, a) ∷ wanted ps args) ≡ cond b [] ((r, a) ∷ []) ++ wanted ps args
    go true = refl
    go false = refl

pub wanted_on : (p a : Where) (ps args : List Where) (moves new total : List Move) → new ≡ moves ++ wanted (p ∷ []) (a ∷ []) → moves ++ wanted (p ∷ ps) (a ∷ args) ≡ total → new ++ wanted ps args ≡ total
wanted_on p a ps args moves new total is so_far =
    ap (λ xs. xs ++ wanted ps args) is ∙ append_assoc moves (wanted (p ∷ []) (a ∷ [])) (wanted ps args) ∙ ap (λ xs. moves ++ xs) (sym (wanted_one p a ps args)) ∙ so_far

pub wanted_done : (ps rest : List Where) (moves total : List Move) → length rest ≡ 0 → moves ++ wanted ps rest ≡ total → moves ≡ total
wanted_done [] rest moves total empty so_far = sym (append-nil moves) ∙ so_far
wanted_done (p ∷ ps) [] moves total empty so_far = sym (append-nil moves) ∙ so_far
wanted_done (p ∷ ps) (a ∷ rest) moves total empty so_far = absurd cc

left_one : (r : ℕ) (m : Move) (ms : List Move) → left r (m ∷ ms) ≡ left r (m ∷ []) ++ left r ms
left_one r (t, s) ms = go (r == t)
  where
    go : (b : Bool) → cond b (left r ms) ((t, away r s) ∷ left r ms) ≡ cond b [] ((t, away r s) ∷ []) ++ left r ms
    go true = refl
    go false = refl

pub left_on : (r : ℕ) (m : Move) (ms moves new total : List Move) → new ≡ moves ++ left r (m ∷ []) → moves ++ left r (m ∷ ms) ≡ total → new ++ left r ms ≡ total
left_on r m ms moves new total is so_far =
    ap (λ xs. xs ++ left r ms) is ∙ append_assoc moves (left r (m ∷ [])) (left r ms) ∙ ap (λ xs. moves ++ xs) (sym (left_one r m ms)) ∙ so_far

moved_append : (F : Frame) (x y : List Move) → moved_items F (x ++ y) ≡ moved_items F x ++ moved_items F y
moved_append F [] y = refl
moved_append F ((t, s) ∷ x) y = ap (λ xs. moved_items F ((t, s) ∷ []) ++ xs) (moved_append F x y)

pub turns_done : (F : Frame) (turns moves : List Move) (out total : List AsmItem) → length moves ≡ 0 → out ++ moved_items F (ordered turns moves) ≡ total → out ≡ total
turns_done F [] moves out total empty so_far = sym (append-nil out) ∙ so_far
turns_done F (one ∷ turns) [] out total empty so_far = sym (append-nil out) ∙ so_far
turns_done F (one ∷ turns) (m ∷ moves) out total empty so_far = absurd cc

pub turn_on : (F : Frame) (one : Move) (turns : List Move) (m : Move) (after moves rest : List Move) (r : ℕ) (out new total : List AsmItem) → moves ≡ m ∷ after → r ≡ next_of moves moves m.0 → new ≡ out ++ moved_items F (turn r moves) → rest ≡ left r moves →
    out ++ moved_items F (ordered (one ∷ turns) moves) ≡ total → new ++ moved_items F (ordered turns rest) ≡ total
turn_on F one turns (t, s) after moves rest r out new total is next new_is rest_is so_far =
    let ms = (t, s) ∷ after in
    let q = next_of ms ms t in
    let next_is : r ≡ q = next ∙ ap (λ x. next_of x x t) is in
    let turn_is : turn r moves ≡ turn q ms = λ i. turn (next_is i) (is i) in
    let left_is : rest ≡ left q ms = rest_is ∙ (λ i. left (next_is i) (is i)) in
    ap (λ xs. xs ++ moved_items F (ordered turns rest)) new_is ∙ append_assoc out (moved_items F (turn r moves)) (moved_items F (ordered turns rest))
    ∙ (λ i. out ++ (moved_items F (turn_is i) ++ moved_items F (ordered turns (left_is i)))) ∙ ap (λ xs. out ++ xs) (sym (moved_append F (turn q ms) (ordered turns (left q ms)))) ∙ ap (λ x. out ++ moved_items F (ordered (one ∷ turns) x)) (sym is) ∙ so_far
