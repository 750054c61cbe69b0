-- Which refusals of a build come, and why.
use Rattle.std.proofs.Common.{ℕ, ◌≡◌, inl, inr, List, ◌++◌, length, refl, sym, subst, arith}
use Rattle.std.specs.Prelude.{Some, None, Result, Ok, Err, IfErr, Contains}
use Rattle.std.proofs.lemmas.List.Elements.{Contains-append_left, Contains-append_right}
use Rattle.kit_base.specs.Counts.{Counts}
use Rattle.asset_pack.specs.Texts.{Image}
use Rattle.cart_format.specs.Cartridge.{Cartridge}
use Rattle.project_text.specs.declared.project.Project.{Project}
use Rattle.project_text.specs.ProjectText.{IsProject}
use Rattle.project_text.proofs.Whole.{only}
use Rattle.c_types.specs.Programs.{ProgramT}
use Rattle.c_front.specs.declared.places.Places.{Places}
use Rattle.c_image.specs.Imaging.{ImageT, IsImageOf}
use Rattle.build_core.specs.declared.building.Built.{Built}
use Rattle.build_core.specs.declared.error.BuildErr.{BuildErr}
use Rattle.build_core.specs.declared.error.BuildErr.TheVariants as errors
use Rattle.build_core.specs.Due.{assets}
use Rattle.build_core.specs.Build.{cartridge_of}
use Rattle.build_core.specs.Causes.{Cause, CanBeTooLarge, IsTooLarge, HasCauses, HasReadCauses, IsCartridgeTooLarge, IsOfAssets, IsOfBuilding, IsOfPacking}
use Rattle.build_core.specs.Causes as causes
use Rattle.build_core.specs.Checkable.{AreOfOneUnit}

module _ (text : List ℕ) (p : Project) (is : IsProject text p) where
  assets_are : causes.assets_of text ≡ p.textures ++ p.sounds
  assets_are = rw (only text p is) refl

  module _ (names : List (List ℕ)) (more : (n : List ℕ) → Contains names n → Contains (p.textures ++ p.sounds) n) where
    named : (n : List ℕ) → Contains names n → Contains (causes.assets_of text) n
    named n h = subst (λ l. Contains l n) (sym assets_are) (more n h)

    assets_come : (e : BuildErr) → IsOfAssets names e → IsOfBuilding text e
    assets_come (errors.Source c f l) h = absurd h
    assets_come (errors.Missing n) h = named n h
    assets_come (errors.Failed n) h = named n h
    assets_come (errors.Bad c n None) h = (h.0, h.1, named n h.2)
    assets_come (errors.Bad c n (Some l)) h = absurd h
    assets_come (errors.Limit n) h = inl (named n h)
    assets_come errors.Memory h = tt

  pub textures_come : (names : List (List ℕ)) → names ≡ p.textures → (e : BuildErr) → IsOfAssets names e → IsOfBuilding text e
  textures_come names is e h = assets_come p.textures (Contains-append_left p.textures p.sounds) e (subst (λ l. IsOfAssets l e) is h)

  pub sounds_come : (names : List (List ℕ)) → names ≡ p.sounds → (e : BuildErr) → IsOfAssets names e → IsOfBuilding text e
  sounds_come names is e h = assets_come p.sounds (Contains-append_right p.textures p.sounds) e (subst (λ l. IsOfAssets l e) is h)

pub memory_comes : (text : List ℕ) (e : BuildErr) → e ≡ errors.Memory → IsOfBuilding text e
memory_comes text e h = subst (IsOfBuilding text) (sym h) tt

packing_comes : (text : List ℕ) (c : Cartridge) (e : BuildErr) → IsOfPacking c e → IsOfBuilding text e
packing_comes text c (errors.Source a f l) h = absurd h
packing_comes text c (errors.Missing n) h = absurd h
packing_comes text c (errors.Failed n) h = absurd h
packing_comes text c (errors.Bad a n l) h = absurd h
packing_comes text c (errors.Limit n) h = inr h.0
packing_comes text c errors.Memory h = tt

pub packed_comes : (text : List ℕ) (c : Cartridge) (r : Result Built BuildErr) → IfErr r (IsOfPacking c) → IfErr r (IsOfBuilding text)
packed_comes text c (Ok b) h = tt
packed_comes text c (Err e) h = packing_comes text c e h

-- ---- a cartridge that is too large

module _ (text : List ℕ) (p : Project) (is : IsProject text p) (program : ProgramT) (places : Places) (starts : List ℕ) (of_unit : ∥ AreOfOneUnit program places starts ∥₁) (i : ImageT) (made : IsImageOf program places starts i) where
  module _ (ts : List Image) (ss : List (List ℕ)) (each : length ts ≡ length p.textures) (each' : length ss ≡ length p.sounds) where
    can_be : IsTooLarge (cartridge_of p.title i (assets ts ss)) → CanBeTooLarge text
    can_be large = record {
      parts = p;
      project_is = is;
      program = program;
      places = places;
      starts = starts;
      of_unit = of_unit;
      image = i;
      image_is = made;
      textures = ts;
      sounds = ss;
      each_texture = each;
      each_sound = each';
      large = large;
    }

    packing_cause : (r : Result Built BuildErr) (before after : Counts) → IfErr r (IsOfPacking (cartridge_of p.title i (assets ts ss))) → Cause (IsCartridgeTooLarge text) r before after
    packing_cause (Ok built) b a h = tt
    packing_cause (Err (errors.Source c n l)) b a h = absurd h
    packing_cause (Err (errors.Missing n)) b a h = absurd h
    packing_cause (Err (errors.Failed n)) b a h = absurd h
    packing_cause (Err (errors.Bad c n l)) b a h = tt
    packing_cause (Err (errors.Limit n)) b a h = inr (h.0, can_be h.1)
    packing_cause (Err errors.Memory) b a h = tt

    -- behind two reads that went well
    pub packing_causes : (T U : Type 0) (t : T) (u : U) (r : Result Built BuildErr) (x y z : Counts) → HasReadCauses {T = T} (Ok t) x y → HasReadCauses {T = U} (Ok u) y z
        → IfErr r (IsOfPacking (cartridge_of p.title i (assets ts ss))) → HasCauses text r x z
    packing_causes T U t u r x y z first second h = record {
      faults_later = omega (arith, first.faults_later, second.faults_later);
      misses_later = omega (arith, first.misses_later, second.misses_later);
      overs_later = omega (arith, first.overs_later, second.overs_later);
      cause = packing_cause r x z h;
    }
