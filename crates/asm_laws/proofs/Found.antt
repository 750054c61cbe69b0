-- Where the functions of a program stand among the words that its items stand in.
use Rattle.std.proofs.Common.{◌≡◌, ℕ, zero, suc, ◌+◌, ◌-◌, ◌^◌, ◌<◌, List, [], ◌∷◌, ◌++◌, length, subst, arith}
use Rattle.std.specs.Prelude.{get_or, None}
use Rattle.asm_items.specs.declared.item.AsmItem.{AsmItem}
use Rattle.mid_code.specs.declared.placed.Where.{Where}
use Rattle.mid_code.specs.Code.{NodesT, FunctionT}
use Rattle.mid_code.specs.States.{no_function}
use Rattle.asm_laws.specs.Names.{function_label}
use Rattle.asm_laws.specs.Operations.{Whole}
use Rattle.asm_laws.specs.Framing.{frame_made, frame_gone}
use Rattle.asm_laws.specs.inner.Emitted.{labels, functions_labels, code_items, entry_items, exit_items, function_items, functions_items}
use Rattle.asm_laws.specs.Standing.{Stand}
use Rattle.asm_laws.proofs.Split.{split}

module _ (words : List ℕ) (address : List ℕ → ℕ) (W : Whole) where
  abbrev Here : ℕ → List AsmItem → ℕ → Type 0
  Here = Stand words address

  -- function f, whose labels begin at n, stands with its body between two addresses
  pub record FoundAt (f : ℕ) (body : NodesT Where) (enters leaves : ℕ) : Type 0 where
    pub begins : ℕ
    pub ends : ℕ
    pub first : ℕ
    pub few : first + 1 + labels body < 2 ^ 32 - 1
    pub label : address (function_label W.names f) ≡ begins
    pub entry : Here begins (frame_made (W.frames f).size) enters
    pub inner : Here enters (code_items W (W.frames f) None [] (first + 1) body) leaves
    pub exit : Here leaves (frame_gone (W.frames f).size) ends

  -- the parts of a function: what makes its frame, its body, what takes its frame away
  pub function_parts : (f n : ℕ) (body : NodesT Where) (pc e : ℕ) → Here pc (function_items W f n body) e → (enters : ℕ) × (leaves : ℕ) × Here pc (entry_items W f (W.frames f)) enters × Here enters (code_items W (W.frames f) None [] (n + 1) body) leaves × Here leaves (exit_items n (W.frames f)) e
  function_parts f n body pc e h =
      let a = split words address (entry_items W f (W.frames f)) (code_items W (W.frames f) None [] (n + 1) body ++ exit_items n (W.frames f)) pc e h in
      let b = split words address (code_items W (W.frames f) None [] (n + 1) body) (exit_items n (W.frames f)) a.0 e a.2 in
      (a.0, b.0, a.1, b.1, b.2)

  function_found : (f n : ℕ) (body : NodesT Where) (pc e : ℕ) → n + 1 + labels body < 2 ^ 32 - 1 → (h : Here pc (function_items W f n body) e) → FoundAt f body (function_parts f n body pc e h).0 (function_parts f n body pc e h).1
  function_found f n body pc e few h =
      let p = function_parts f n body pc e h in
      let en = p.2 in
      let ex = p.4 in
      record {
        begins = pc;
        ends = e;
        first = n;
        few = few;
        label = en.1.0;
        entry = subst (λ q. Here q (frame_made (W.frames f).size) p.0) en.1.1 en.2;
        inner = p.3;
        exit = subst (λ q. Here q (frame_gone (W.frames f).size) e) ex.1.1 ex.2;
      }

  abbrev apart : (f n : ℕ) (g : FunctionT Where) (gs : List (FunctionT Where)) (pc e : ℕ) → Here pc (functions_items W f n (g ∷ gs)) e → (q : ℕ) × Here pc (function_items W f n g.body) q × Here q (functions_items W (f + 1) (n + 1 + labels g.body) gs) e
  apart f n g gs pc e h = split words address (function_items W f n g.body) (functions_items W (f + 1) (n + 1 + labels g.body) gs) pc e h

  -- where the bodies begin and end, by their numbers from the first
  abbrev pub enters_of : (f n : ℕ) (gs : List (FunctionT Where)) (pc e : ℕ) → Here pc (functions_items W f n gs) e → ℕ → ℕ
  enters_of f n [] pc e h k = 0
  enters_of f n (g ∷ gs) pc e h zero = let s = apart f n g gs pc e h in (function_parts f n g.body pc s.0 s.1).0
  enters_of f n (g ∷ gs) pc e h (suc k) = let s = apart f n g gs pc e h in enters_of (f + 1) (n + 1 + labels g.body) gs s.0 e s.2 k

  abbrev pub leaves_of : (f n : ℕ) (gs : List (FunctionT Where)) (pc e : ℕ) → Here pc (functions_items W f n gs) e → ℕ → ℕ
  leaves_of f n [] pc e h k = 0
  leaves_of f n (g ∷ gs) pc e h zero = let s = apart f n g gs pc e h in (function_parts f n g.body pc s.0 s.1).1
  leaves_of f n (g ∷ gs) pc e h (suc k) = let s = apart f n g gs pc e h in leaves_of (f + 1) (n + 1 + labels g.body) gs s.0 e s.2 k

  pub functions_found : (f n : ℕ) (gs : List (FunctionT Where)) (pc e : ℕ) → n + functions_labels gs < 2 ^ 32 - 1 → (h : Here pc (functions_items W f n gs) e) (k : ℕ) → k < length gs →
      FoundAt (f + k) (get_or gs k no_function).body (enters_of f n gs pc e h k) (leaves_of f n gs pc e h k)
  functions_found f n [] pc e few h k lt = absurd (omega (arith, lt))
  functions_found f n (g ∷ gs) pc e few h zero lt =
      let s = apart f n g gs pc e h in
      let z : f ≡ f + 0 = omega arith in
      subst (λ i. FoundAt i g.body (function_parts f n g.body pc s.0 s.1).0 (function_parts f n g.body pc s.0 s.1).1) z (function_found f n g.body pc s.0 (omega (arith, few)) s.1)
  functions_found f n (g ∷ gs) pc e few h (suc k) lt =
      let s = apart f n g gs pc e h in
      let m = n + 1 + labels g.body in
      let z : f + 1 + k ≡ f + suc k = omega arith in
      subst (λ i. FoundAt i (get_or gs k no_function).body (enters_of (f + 1) m gs s.0 e s.2 k) (leaves_of (f + 1) m gs s.0 e s.2 k)) z
      (functions_found (f + 1) m gs s.0 e (omega (arith, few)) s.2 k (omega (arith, lt)))
