-- What a map tells of frames and globals.
use Rattle.std.proofs.Common.{◌≡◌, ℕ, ◌+◌, ◌^◌, ◌<◌, List, [], ◌∷◌, map, refl, ap, ◌∙◌, sum_by, mod-eq_of_lt, arith}
use Rattle.std.proofs.lemmas.List.Sums.{sum_by-cons}
use Rattle.kit_base.specs.Word.{add}
use Rattle.c_types.specs.Programs.{TFunctionT}
use Rattle.c_meaning.specs.Setting.{Setting}
use Rattle.c_meaning.specs.Frames.{EachFits}
use Rattle.asm_laws.specs.Tables.{addresses}
use Rattle.c_image.specs.Mapping.{frames_at, globals_from}

pub sizes_are : (address : List ℕ → ℕ) (s : Setting) (fs : List TFunctionT) (sizes : List ℕ) → EachFits s fs sizes → map (λ row. row.2) (frames_at address fs sizes) ≡ sizes
sizes_are address s [] [] h = refl
sizes_are address s [] (size ∷ sizes) h = absurd h
sizes_are address s (f ∷ fs) [] h = absurd h
sizes_are address s (f ∷ fs) (size ∷ sizes) h = ap (λ (rest : List ℕ). size ∷ rest) (sizes_are address s fs sizes h.1)

-- no sum wraps
pub addresses_are : (gs : List (List ℕ × ℕ)) (address : ℕ) → address + sum_by (λ g. g.1) gs < 2 ^ 32 → map (λ row. row.1) (globals_from address gs) ≡ addresses address (map (λ g. g.1) gs)
addresses_are [] address h = refl
addresses_are (g ∷ gs) address h =
    let total : sum_by (λ g. g.1) (g ∷ gs) ≡ g.1 + sum_by (λ g. g.1) gs = sum_by-cons (λ g. g.1) g gs in
    let within : address + g.1 < 2 ^ 32 = omega (arith, total, h) in
    let next : add address g.1 ≡ address + g.1 = mod-eq_of_lt within in
    let others : map (λ row. row.1) (globals_from (address + g.1) gs) ≡ addresses (address + g.1) (map (λ g. g.1) gs) = addresses_are gs (address + g.1) (omega (arith, total, h)) in
    ap (λ (rest : List ℕ). address ∷ rest) (ap (λ a. map (λ row. row.1) (globals_from a gs)) next ∙ others)
