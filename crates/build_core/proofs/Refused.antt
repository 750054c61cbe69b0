-- What is due as built has no refused input.
use Rattle.std.proofs.Common.{ℕ, ◌≡◌, ◌<◌, ◌≤◌, Bool, true, false, List, [], ◌∷◌, length, refl, sym, subst, ◌∙◌, arith}
use Rattle.std.specs.Prelude.{Result, Ok, Err, ◌&&◌, nat_le}
use Rattle.std.specs.List.{AllZip}
use Rattle.kit_base.specs.Held.{Held}
use Rattle.kit_base.specs.Outside.{due}
use Rattle.asset_pack.specs.declared.kind.Kind.TheVariants as kinds
use Rattle.asset_pack.specs.declared.error.AssetFault.{AssetFault}
use Rattle.asset_pack.specs.Texts.{Image}
use Rattle.asset_pack.specs.Reading.{texture_in, words_in}
use Rattle.cart_format.specs.Cartridge.{Cartridge, is_cart, is_tail, is_title, total}
use Rattle.project_text.specs.declared.project.Project.{Project}
use Rattle.build_core.specs.declared.building.Built.{Built}
use Rattle.build_core.specs.declared.error.BuildErr.{BuildErr}
use Rattle.build_core.specs.Due.{Assets, all_of, asset_of, texture_of, sound_of, assets, assets_of}
use Rattle.build_core.specs.Checked.{IsAccepted}
use Rattle.build_core.specs.Build.{IsTextureFile, IsSoundFile, HasImage, IsBuilt, HasNoParts, cartridge_of, rejected, no_assets}
use Rattle.build_core.proofs.AssetReading.{all_of-cons, all_of-nil, joined_ok}
use Rattle.build_core.proofs.AssetFiles.{all_assets}
use Rattle.build_core.proofs.Either.{one_project, accepted_or_rejected}
use Rattle.build_core.proofs.Limits.{le_so}

-- a file of that value is read as it
value_of : {X : Type 0} (value : List ℕ → Result X AssetFault) (m : Held) (name bytes : List ℕ) (x : X) → due m name ≡ Ok bytes → value bytes ≡ Ok x → asset_of value m name ≡ Ok x
unfolding asset_of
value_of value m name bytes x h k = rw (h, k) refl

texture_given : (m : Held) (name : List ℕ) (t : Image) → IsTextureFile m name t → texture_of m name ≡ Ok t
texture_given m name t h = value_of texture_in m name h.bytes t h.held h.tested

sound_given : (m : Held) (name samples : List ℕ) → IsSoundFile m name samples → sound_of m name ≡ Ok samples
sound_given m name samples h = value_of (words_in kinds.Sound) m name h.bytes samples h.held h.tested

module _ {X : Type 0} (one : List ℕ → Result X BuildErr) (R : List ℕ → X → Type 0) (law : (name : List ℕ) (x : X) → R name x → one name ≡ Ok x) where
  all_given : (names : List (List ℕ)) (xs : List X) → AllZip R names xs → all_of one names ≡ Ok xs
  all_given [] [] h = all_of-nil one
  all_given [] (x ∷ xs) h = absurd h
  all_given (n ∷ ns) [] h = absurd h
  all_given (n ∷ ns) (x ∷ xs) h = all_of-cons one n ns ∙ joined_ok one (one n) (all_of one ns) x xs (law n x h.0) (all_given ns xs h.1)

differ : {X : Type 0} (r : Result X BuildErr) (x : X) (e : BuildErr) → r ≡ Ok x → r ≡ Err e → ⊥
differ r x e h k = cc

accepted : (m : Held) (project : List ℕ) (of : HasImage m project) → IsAccepted m project of.program
accepted m project of = record {
  parts = of.parts;
  project_is = of.project_is;
  program_is = record { parsed = of.parsed; is_unit = of.is_unit; typed = of.typed };
}

given : (m : Held) (project : List ℕ) (b : Built) (h : IsBuilt m project b) → assets_of m h.of.parts ≡ Ok (assets h.textures h.sounds)
given m project b h =
    all_assets m h.of.parts h.textures h.sounds (all_given (texture_of m) (IsTextureFile m) (texture_given m) h.of.parts.textures h.textures h.textures_are)
    (all_given (sound_of m) (IsSoundFile m) (sound_given m) h.of.parts.sounds h.sounds h.sounds_are)

pub built_or_refused : (m : Held) (project : List ℕ) (b : Built) (e : BuildErr) → IsBuilt m project b → HasNoParts m project e → ⊥
built_or_refused m project b e h (rejected why) = accepted_or_rejected m project h.of.program e (accepted m project h.of) why
built_or_refused m project b e h (no_assets parts p is has none) =
    let same : h.of.parts ≡ parts = one_project project h.of.parts parts h.of.project_is is in
    differ (assets_of m parts) (assets h.textures h.sounds) e (subst (λ q. assets_of m q ≡ Ok (assets h.textures h.sounds)) same (given m project b h)) none

-- ---- with one image

last_of : (a b c d e f g : Bool) → (a && (b && (c && (d && (e && (f && g)))))) ≡ true → g ≡ true
last_of true true true true true true g h = h
last_of false b c d e f g h = absurd cc
last_of true false c d e f g h = absurd cc
last_of true true false d e f g h = absurd cc
last_of true true true false e f g h = absurd cc
last_of true true true true false f g h = absurd cc
last_of true true true true true false g h = absurd cc

small : (c : Cartridge) → is_cart c ≡ true → total c ≤ 268435456
unfolding is_cart
small c h = le_so (total c) 268435456 (last_of (is_title c.title) (nat_le 1 (length c.program)) (nat_le (length c.program) 33554432) (nat_le (length c.textures) 256) (nat_le (length c.sounds) 1024)
    (is_tail (length c.program) c.table) (nat_le (total c) 268435456) h)

same_assets : (r : Result Assets BuildErr) (a b : Assets) → r ≡ Ok a → r ≡ Ok b → a ≡ b
same_assets r a b h k = let both = sym h ∙ k in cc

pub fits_or_too_large : (m : Held) (project : List ℕ) (b : Built) (built : IsBuilt m project b) (of : HasImage m project) (a : Assets)
    → of.image ≡ built.of.image → assets_of m of.parts ≡ Ok a → 268435456 < total (cartridge_of of.parts.title of.image a) → ⊥
fits_or_too_large m project b built of a image assets_are large =
    let parts : of.parts ≡ built.of.parts = one_project project of.parts built.of.parts of.project_is built.of.project_is in
    let there : assets_of m built.of.parts ≡ Ok a = subst (λ (p : Project). assets_of m p ≡ Ok a) parts assets_are in
    let same : a ≡ assets built.textures built.sounds = same_assets (assets_of m built.of.parts) a (assets built.textures built.sounds) there (given m project b built) in
    let cart : cartridge_of of.parts.title of.image a ≡ cartridge_of built.of.parts.title built.of.image (assets built.textures built.sounds) =
    λ i. cartridge_of (parts i).title (image i) (same i) in
    let over : 268435456 < total (cartridge_of built.of.parts.title built.of.image (assets built.textures built.sounds)) = subst (λ c. 268435456 < total c) cart large in
    omega (arith, over, small _ built.cartridge.limits)
