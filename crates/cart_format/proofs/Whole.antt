-- A cartridge from its sections and its title.
use Rattle.std.proofs.Common.{◌≡◌, ℕ, true, List, drop, sym, ap, ◌∙◌}
use Rattle.std.specs.Prelude.{Option, None, Ok, Err}
use Rattle.kit_base.specs.declared.failure.Failure.{Failure}
use Rattle.kit_base.specs.declared.failure.Failure.TheVariants as failures
use Rattle.kit_base.specs.Gives.{Fails}
use Rattle.asset_pack.specs.Words.{IsBytes, word_at}
use Rattle.asset_pack.specs.Texts.{Image}
use Rattle.cart_format.specs.declared.row.LineTable.{LineTable}
use Rattle.cart_format.specs.declared.error.CartFault.{CartFault}
use Rattle.cart_format.specs.Cartridge.{is_cart}
use Rattle.cart_format.specs.Tests.{title_at, header_fault}
use Rattle.cart_format.specs.Reading.{◌>>=◌, parts_of, titled, sections_of}
use Rattle.cart_format.proofs.Carts.{sections_take}

module _ (bytes : List ℕ) (revision words textures sounds : ℕ) (is-revision : revision ≡ word_at 8 bytes) (are-words : words ≡ word_at 16 bytes) (are-textures : textures ≡ word_at 20 bytes) (are-sounds : sounds ≡ word_at 24 bytes) (rest : List ℕ) (is-rest : rest ≡ drop 128 bytes) where
  same : parts_of (word_at 8 bytes) (word_at 16 bytes) (word_at 20 bytes) (word_at 24 bytes) (drop 128 bytes) ≡ parts_of revision words textures sounds rest
  same =
      ap (λ (n : ℕ). parts_of n (word_at 16 bytes) (word_at 20 bytes) (word_at 24 bytes) (drop 128 bytes)) (sym is-revision)
      ∙ ap (λ (n : ℕ). parts_of revision n (word_at 20 bytes) (word_at 24 bytes) (drop 128 bytes)) (sym are-words)
      ∙ ap (λ (n : ℕ). parts_of revision words n (word_at 24 bytes) (drop 128 bytes)) (sym are-textures)
      ∙ ap (λ (n : ℕ). parts_of revision words textures n (drop 128 bytes)) (sym are-sounds)
      ∙ ap (parts_of revision words textures sounds) (sym is-rest)

  pub whole : (x : List ℕ × List Image × List (List ℕ) × Option LineTable) → parts_of revision words textures sounds rest ≡ Ok x → sections_of bytes ≡ Ok (titled (title_at bytes) x)
  unfolding sections_of
  whole x e = ap (λ r. r >>= λ y. Ok (titled (title_at bytes) y)) (same ∙ e)

  fault : (f : CartFault) → parts_of revision words textures sounds rest ≡ Err f → sections_of bytes ≡ Err f
  unfolding sections_of
  fault f e = ap (λ r. r >>= λ y. Ok (titled (title_at bytes) y)) (same ∙ e)

  pub fails : (f : Failure CartFault) → Fails f (parts_of revision words textures sounds rest) → Fails f (sections_of bytes)
  fails failures.Memory h = tt
  fails (failures.Cause f) h = fault f h

  pub keeps : IsBytes bytes → header_fault bytes ≡ None → (x : List ℕ × List Image × List (List ℕ) × Option LineTable) → parts_of revision words textures sounds rest ≡ Ok x → is_cart (titled (title_at bytes) x) ≡ true
  keeps fits none x e = (sections_take bytes (titled (title_at bytes) x) fits none (whole x e)).0.limits
