-- From the parts of placed code to what is promised of its items.
use Rattle.std.proofs.Common.{◌≡◌, ℕ, zero, suc, ◌+◌, ◌-◌, ◌^◌, ◌<◌, List, [], ◌∷◌, length, refl, sym, ap, ◌∙◌, arith}
use Rattle.std.specs.Prelude.{sum, get_or, Result, Ok, Err, IfOk}
use Rattle.std.proofs.lemmas.List.Sums.{sum_by-cons}
use Rattle.kit_base.specs.Word.{add}
use Rattle.asm_items.specs.declared.item.AsmItem.{AsmItem}
use Rattle.mid_code.specs.Placed.{PlacedT}
use Rattle.mid_code.specs.Invariants.{IsPlaced}
use Rattle.asm_laws.specs.Tables.{addresses, whole_of}
use Rattle.asm_laws.specs.Spare.{held_registers}
use Rattle.asm_laws.specs.Live.{all_last, lasting_registers}
use Rattle.mid_code.specs.declared.placed.Where.{Where}
use Rattle.mid_code.specs.Code.{FunctionT}
use Rattle.mid_code.specs.States.{no_function}
use Rattle.asm_emit.specs.inner.Spared.{held_all}
use Rattle.asm_emit.specs.inner.Lasting.{lasting_all}
use Rattle.asm_laws.specs.inner.Emitted.{program_items, labels_of}
use Rattle.asm_emit.specs.inner.Words.{AreWords, TextsAreWords}
use Rattle.asm_emit.specs.EmittedFrom.{CanBeEmitted, IsEmitted}
use Rattle.asm_laws.proofs.Sizes.{program_few, few_texts, few_functions}
use Rattle.asm_emit.proofs.Promised.{is_emitted}
use Rattle.asm_emit.specs.inner.View.{no_spots, whole_of_parts, wrapped_addresses}

-- where the sum is a word, none wraps
pub addresses_same : (ns : List ℕ) (p : ℕ) → p + sum ns < 0x100000000 → wrapped_addresses p ns ≡ addresses p ns
addresses_same [] p lt = refl
addresses_same (n ∷ ns) p lt =
    let s = sum_by-cons (λ x. x) n ns in
    let e : add p n ≡ p + n = omega (arith, lt, s) in
    ap (λ q. p ∷ wrapped_addresses q ns) e ∙ ap (λ l. p ∷ l) (addresses_same ns (p + n) (omega (arith, lt, s)))

-- the registers of each function
none_held : held_registers no_function.body ≡ 8
unfolding held_registers
none_held = refl

none_lasting : lasting_registers no_function.body ≡ all_last
unfolding lasting_registers
none_lasting = refl

lasting_at : (fs : List (FunctionT Where)) (g : ℕ) → get_or (lasting_all fs) g all_last ≡ lasting_registers (get_or fs g no_function).body
lasting_at [] g = sym none_lasting
lasting_at (f ∷ fs) zero = refl
lasting_at (f ∷ fs) (suc g) = lasting_at fs g

held_at : (fs : List (FunctionT Where)) (g : ℕ) → get_or (held_all fs) g 8 ≡ held_registers (get_or fs g no_function).body
held_at [] g = sym none_held
held_at (f ∷ fs) zero = refl
held_at (f ∷ fs) (suc g) = held_at fs g

whole_same : (x : PlacedT) (names : List (List ℕ)) → whole_of_parts x.code.functions x.spots x.frames (held_all x.code.functions) (lasting_all x.code.functions) names (addresses 0 x.code.globals) ≡ whole_of x names
whole_same x names = λ i. record (whole_of x names) {
  frames = λ g. record {
    slots = (get_or x.spots g no_spots).slots;
    locals = (get_or x.spots g no_spots).locals;
    size = get_or x.frames g 0;
    depth = get_or x.frames g 0;
    registers = held_at x.code.functions g i;
    lasting = lasting_at x.code.functions g i;
  };
}

module _ (x : PlacedT) (names : List (List ℕ)) (placed : IsPlaced x) (can : CanBeEmitted x names) where
  pub few_labels : labels_of x.code < 2 ^ 32 - 1
  few_labels = let p = program_few x.code in let r = can.room in omega (arith, p, r)

  pub few_function_numbers : length x.code.functions < 2 ^ 32 - 1
  few_function_numbers = let p = few_functions x.code.functions in let r = can.room in omega (arith, p, r)

  pub few_literal_numbers : length x.code.literals < 2 ^ 32 - 1
  few_literal_numbers = let p = few_texts x.code.literals in let r = can.room in omega (arith, p, r)

  pub promised : AreWords x.frames → TextsAreWords x.code.literals → (items : List AsmItem) → items ≡ program_items (whole_of_parts x.code.functions x.spots x.frames (held_all x.code.functions) (lasting_all x.code.functions) names (wrapped_addresses 0 x.code.globals)) x.code → IsEmitted x names items
  promised small texts items e =
      let few = placed.code.globals in
      let same = addresses_same x.code.globals 0 (omega (arith, few)) in
      is_emitted x names items placed can small texts
      (e ∙ ap (λ globals. program_items (whole_of_parts x.code.functions x.spots x.frames (held_all x.code.functions) (lasting_all x.code.functions) names globals) x.code) same ∙ ap (λ W. program_items W x.code) (whole_same x names))

pub if_ok : {T E A : Type 0} (items : T → A) (Q : A → Type 0) (y : A) → ((xs : A) → xs ≡ y → Q xs) → (r : Result T E) → IfOk r (λ v. items v ≡ y) → IfOk r (λ v. Q (items v))
if_ok items Q y f (Ok v) h = f (items v) h
if_ok items Q y f (Err e) h = tt
