-- The textures and sounds of a project, as they are held.
use Rattle.std.proofs.Common.{ℕ, ◌≡◌, List, [], ◌∷◌, refl, sym, ap, subst, ◌∙◌}
use Rattle.std.specs.Prelude.{Result, Ok, Err}
use Rattle.std.specs.List.{AllZip}
use Rattle.kit_base.specs.Held.{Held}
use Rattle.kit_base.specs.Outside.{due}
use Rattle.kit_base.specs.declared.outside.FileErr.{FileErr}
use Rattle.kit_base.specs.declared.outside.FileErr.TheVariants as file_errors
use Rattle.asset_pack.specs.declared.kind.Kind.TheVariants as kinds
use Rattle.asset_pack.specs.declared.error.AssetFault.{AssetFault}
use Rattle.asset_pack.specs.Texts.{Image}
use Rattle.asset_pack.specs.Reading.{texture_in, words_in}
use Rattle.asset_pack.proofs.Found.{texture_found, sound_found}
use Rattle.project_text.specs.declared.project.Project.{Project}
use Rattle.build_core.specs.declared.error.BuildErr.{BuildErr}
use Rattle.build_core.specs.Due.{◌>>=◌, read_as, read_of, asset_due, asset_of, texture_of, sound_of, all_of, assets, assets_of}
use Rattle.build_core.specs.Build.{IsTextureFile, IsSoundFile}
use Rattle.build_core.proofs.AssetReading.{both_gave, all_of-cons, all_of-nil}

bind_ok : {A B : Type 0} (r : Result A BuildErr) (f : A → Result B BuildErr) (y : B) → (r >>= f) ≡ Ok y → (x : A) × (r ≡ Ok x) × (f x ≡ Ok y)
bind_ok (Ok x) f y e = (x, refl, e)
bind_ok (Err d) f y e = absurd cc

read_gave : (name bytes : List ℕ) (d : Result (List ℕ) FileErr) → read_as name d ≡ Ok bytes → d ≡ Ok bytes
read_gave name bytes (Ok b) e = let same : b ≡ bytes = cc in ap Ok same
read_gave name bytes (Err file_errors.Missing) e = absurd cc
read_gave name bytes (Err file_errors.Failed) e = absurd cc
read_gave name bytes (Err file_errors.TooLong) e = absurd cc
read_gave name bytes (Err file_errors.Memory) e = absurd cc

asset_gave : {X : Type 0} (name : List ℕ) (r : Result X AssetFault) (x : X) → asset_due name r ≡ Ok x → r ≡ Ok x
asset_gave name (Ok y) x e = let same : y ≡ x = cc in ap Ok same
asset_gave name (Err fault) x e = absurd cc

value_gave : {X : Type 0} (value : List ℕ → Result X AssetFault) (m : Held) (name : List ℕ) (x : X) → asset_of value m name ≡ Ok x → (bytes : List ℕ) × (due m name ≡ Ok bytes) × (value bytes ≡ Ok x)
unfolding asset_of
value_gave value m name x e =
    let r = bind_ok (read_of m name) _ x e in
    (r.0, read_gave name r.0 (due m name) r.1, asset_gave name (value r.0) x r.2)

texture_file : (m : Held) (name : List ℕ) (t : Image) → texture_of m name ≡ Ok t → IsTextureFile m name t
texture_file m name t e =
    let r = value_gave texture_in m name t e in
    record { bytes = r.0; held = r.1; tested = r.2; spelled = λ fits. texture_found r.0 t fits r.2 }

sound_file : (m : Held) (name samples : List ℕ) → sound_of m name ≡ Ok samples → IsSoundFile m name samples
sound_file m name samples e =
    let r = value_gave (words_in kinds.Sound) m name samples e in
    record { bytes = r.0; held = r.1; tested = r.2; spelled = λ fits. sound_found r.0 samples fits r.2 }

module _ {X : Type 0} (one : List ℕ → Result X BuildErr) (R : List ℕ → X → Type 0) (law : (name : List ℕ) (x : X) → one name ≡ Ok x → R name x) where
  same_list : (xs ys : List X) (r : Result (List X) BuildErr) → r ≡ Ok xs → r ≡ Ok ys → xs ≡ ys
  same_list xs ys r e f = let k = sym e ∙ f in cc

  all_are : (names : List (List ℕ)) (xs : List X) → all_of one names ≡ Ok xs → AllZip R names xs
  all_are [] xs e = subst (AllZip R []) (same_list [] xs (all_of one []) (all_of-nil one) e) tt
  all_are (n ∷ ns) xs e =
      let r = both_gave one (one n) (all_of one ns) xs (sym (all_of-cons one n ns) ∙ e) in
      subst (AllZip R (n ∷ ns)) r.4 (law n r.0 r.2, all_are ns r.1 r.3)

pub textures_are_files : (m : Held) (names : List (List ℕ)) (ts : List Image) → all_of (texture_of m) names ≡ Ok ts → AllZip (IsTextureFile m) names ts
textures_are_files m = all_are (texture_of m) (IsTextureFile m) (texture_file m)

pub sounds_are_files : (m : Held) (names sounds : List (List ℕ)) → all_of (sound_of m) names ≡ Ok sounds → AllZip (IsSoundFile m) names sounds
sounds_are_files m = all_are (sound_of m) (IsSoundFile m) (sound_file m)

-- ---- textures and then sounds

stops : {A B : Type 0} (r : Result A BuildErr) (f : A → Result B BuildErr) (e : BuildErr) → r ≡ Err e → (r >>= f) ≡ Err e
stops r f e h = rw h refl

goes_on : {A B : Type 0} (r : Result A BuildErr) (f : A → Result B BuildErr) (x : A) → r ≡ Ok x → (r >>= f) ≡ f x
goes_on r f x h = rw h refl

module _ (m : Held) (p : Project) where
  assets_are : assets_of m p ≡ (all_of (texture_of m) p.textures >>= λ ts. all_of (sound_of m) p.sounds >>= λ sounds. Ok (assets ts sounds))
  unfolding assets_of
  assets_are = refl

  pub no_textures : (e : BuildErr) → all_of (texture_of m) p.textures ≡ Err e → assets_of m p ≡ Err e
  no_textures e h = assets_are ∙ stops (all_of (texture_of m) p.textures) _ e h

  pub no_sounds : (ts : List Image) (e : BuildErr) → all_of (texture_of m) p.textures ≡ Ok ts → all_of (sound_of m) p.sounds ≡ Err e → assets_of m p ≡ Err e
  no_sounds ts e h k = assets_are ∙ goes_on (all_of (texture_of m) p.textures) _ ts h ∙ stops (all_of (sound_of m) p.sounds) _ e k

  pub all_assets : (ts : List Image) (sounds : List (List ℕ)) → all_of (texture_of m) p.textures ≡ Ok ts → all_of (sound_of m) p.sounds ≡ Ok sounds → assets_of m p ≡ Ok (assets ts sounds)
  all_assets ts sounds h k = assets_are ∙ goes_on (all_of (texture_of m) p.textures) _ ts h ∙ goes_on (all_of (sound_of m) p.sounds) _ sounds k
