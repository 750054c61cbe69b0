-- What was answered, by the laws of the texts.
use Rattle.std.proofs.Common.{◌≡◌, ℕ, List, [], ◌++◌, sym, ap, ◌∙◌, append-nil}
use Rattle.std.specs.Prelude.{Result, Ok, Err, IfOk}
use Rattle.kit_base.specs.declared.failure.Failure.{Failure}
use Rattle.kit_base.specs.Gives.{Gives}
use Rattle.asset_pack.specs.declared.kind.Kind.TheVariants as kinds
use Rattle.asset_pack.specs.declared.error.AssetFault.{AssetFault}
use Rattle.asset_pack.specs.Texts.{Image, IsTexture, IsSound, IsProgram, words_file_text, texture_text, sound_text}
use Rattle.asset_pack.specs.Reading.{words_at, words_in, texture_at, texture_in}
use Rattle.asset_pack.specs.Words.{IsBytes}
use Rattle.asset_pack.proofs.Fronts.{program_takes, program_again, sound_takes, sound_again, texture_takes, texture_again}
use Rattle.asset_pack.proofs.Wholes.{words_front_of, words_whole_of, texture_front_of, texture_whole_of}

-- a law of a reading holds of what was answered
pub if_ok : {X Y : Type 0} (view : X → Y) (P : Y → Type 0) (r : Result X (Failure AssetFault)) (read : Result Y AssetFault) → ((y : Y) → read ≡ Ok y → P y) → Gives view r read → IfOk r (λ x. P (view x))
if_ok view P (Ok x) read law given = law (view x) given
if_ok view P (Err e) read law given = tt

no_rest : (bytes text : List ℕ) → bytes ≡ text ++ [] → bytes ≡ text
no_rest bytes text e = e ∙ append-nil text

pub program_found : (bytes ws : List ℕ) → IsBytes bytes → words_in kinds.Words bytes ≡ Ok ws → IsProgram ws × (bytes ≡ words_file_text ws)
program_found bytes ws fits e =
    let t = program_takes bytes (ws, []) fits (words_front_of kinds.Words bytes ws e) in
    (t.0, no_rest bytes (words_file_text ws) t.1)

pub sound_found : (bytes ws : List ℕ) → IsBytes bytes → words_in kinds.Sound bytes ≡ Ok ws → IsSound ws × (bytes ≡ sound_text ws)
sound_found bytes ws fits e =
    let t = sound_takes bytes (ws, []) fits (words_front_of kinds.Sound bytes ws e) in
    (t.0, no_rest bytes (sound_text ws) t.1)

pub texture_found : (bytes : List ℕ) (t : Image) → IsBytes bytes → texture_in bytes ≡ Ok t → IsTexture t × (bytes ≡ texture_text t)
texture_found bytes t fits e =
    let x = texture_takes bytes (t, []) fits (texture_front_of bytes t e) in
    (x.0, no_rest bytes (texture_text t) x.1)

pub program_only : (bytes ws : List ℕ) → IsProgram ws → bytes ≡ words_file_text ws → words_in kinds.Words bytes ≡ Ok ws
program_only bytes ws is e = words_whole_of kinds.Words bytes ws (ap (words_at kinds.Words) (e ∙ sym (append-nil (words_file_text ws))) ∙ program_again ws [] is)

pub sound_only : (bytes ws : List ℕ) → IsSound ws → bytes ≡ sound_text ws → words_in kinds.Sound bytes ≡ Ok ws
sound_only bytes ws is e = words_whole_of kinds.Sound bytes ws (ap (words_at kinds.Sound) (e ∙ sym (append-nil (sound_text ws))) ∙ sound_again ws [] is)

pub texture_only : (bytes : List ℕ) (t : Image) → IsTexture t → bytes ≡ texture_text t → texture_in bytes ≡ Ok t
texture_only bytes t is e = texture_whole_of bytes t (ap texture_at (e ∙ sym (append-nil (texture_text t))) ∙ texture_again t [] is)
