-- From the parts of a build of a checked source to the whole.
use Rattle.std.proofs.Common.{ℕ, ◌≡◌, ◌≤◌, ◌⊎◌, inl, inr, List, ◌++◌, length, refl, sym, subst, subst₂, ap, ◌∙◌}
use Rattle.std.specs.Prelude.{Option, Some, None, Result, Ok, Err, Contains, IfOk, IfErr, IfSome, Vec}
use Rattle.std.specs.declared.alloc.Global.{Global}
use Rattle.kit_base.specs.Held.{Held}
use Rattle.asset_pack.specs.Texts.{Image}
use Rattle.project_text.specs.declared.project.Project.{Project}
use Rattle.project_text.specs.declared.error.ProjectErr.{ProjectErr}
use Rattle.project_text.specs.ProjectText.{IsProject}
use Rattle.project_text.specs.Reading.{project_of}
use Rattle.project_text.proofs.Whole.{only}
use Rattle.c_check.specs.View.{program}
use Rattle.c_front.specs.declared.places.Places.{Places}
use Rattle.c_types.specs.Programs.{ProgramT}
use Rattle.c_image.specs.Imaging.{ImageT, IsImageOf}
use Rattle.c_image.specs.MidImages.{IsMidOf}
use Rattle.mid_code.specs.declared.placed.Where.{Where}
use Rattle.mid_code.specs.Code.{CodeT}
use Rattle.mid_code.specs.Whole.{mid}
use Rattle.reg_frames.specs.Placeable.{places_of}
use Rattle.build_core.specs.declared.building.Built.{Built}
use Rattle.build_core.specs.declared.error.BuildErr.{BuildErr}
use Rattle.build_core.specs.declared.error.BuildErr.TheVariants as errors
use Rattle.build_core.specs.declared.checked.Checked.{Checked}
use Rattle.build_core.specs.Due.{project_due, texture_of, sound_of, all_of, assets}
use Rattle.build_core.specs.Build.{HasImage, IsBuilt, cartridge_of}
use Rattle.build_core.specs.BuiltFrom.{IsImageFrom, IsBuiltFrom, IsUnbuiltFrom, no_assets, too_large, BuildsFrom}
use Rattle.build_core.specs.BuiltMid.{HasMid}
use Rattle.build_core.specs.Causes.{IsOfContent, IsOfPacking}
use Rattle.build_core.specs.Fronts.{IsFrontOf}
use Rattle.build_core.specs.Gathered.{GivesBy, Gives, IsSourceOf}
use Rattle.build_core.specs.inner.Packing.{IsPackedFrom}
use Rattle.build_core.proofs.AssetFiles.{textures_are_files, sounds_are_files, no_textures, no_sounds, all_assets}
use Rattle.build_core.proofs.Checks.{same_parts}

-- a project that is of its grammar is refused for want of memory alone
none_due : (e : BuildErr) (p : Project) → IsOfContent e → Gives {X = Project} (Err e) (Ok p) → e ≡ errors.Memory
none_due (errors.Source c f l) p k h = absurd k
none_due (errors.Missing n) p k h = absurd k
none_due (errors.Failed n) p k h = absurd k
none_due (errors.Bad c n l) p k h = absurd cc
none_due (errors.Limit n) p k h = absurd k
none_due errors.Memory p k h = refl

pub memory_alone : (text : List ℕ) → (parts : Project) × IsProject text parts → (e : BuildErr) → Gives {X = Project} (Err e) (project_due (project_of text)) → IsOfContent e → e ≡ errors.Memory
memory_alone text grammar e h content = none_due e grammar.0 content (subst (λ r. Gives {X = Project} (Err e) (project_due r)) (only text grammar.0 grammar.1) h)

-- the mid code that was packed is that of the image
pub packed_mid : (p : ProgramT) (i : ImageT) (code : CodeT ℕ) (choices : List (List Where)) (r : Result Built BuildErr) → IsMidOf p i code choices → IfOk r (λ b. mid b.mid ≡ code) → IfOk r (λ b. places_of b.choices ≡ choices)
    → IfOk r (λ b. IsMidOf p i (mid b.mid) (places_of b.choices))
packed_mid p i code choices (Ok b) h e f = subst₂ (λ x ws. IsMidOf p i x ws) (sym e) (sym f) h
packed_mid p i code choices (Err e) h k l = tt

module _ (text : List ℕ) (p : Project) (is : IsProject text p) (s : Checked) where
  -- what is told of a build where this is the project's source
  abbrev pub Told : Result Built BuildErr → Held → Type 0
  Told r m = IsFrontOf m text s → BuildsFrom m text s r

  pub memory_told : (e : BuildErr) (held : Option Held) → e ≡ errors.Memory → IfSome held (Told (Err e))
  memory_told e None h = tt
  memory_told e (Some m) h = λ front. subst (λ (d : BuildErr). BuildsFrom m text s (Err d)) (sym h) tt

  -- a refused part refuses the build
  part_refused : {X Y : Type 0} (view : X → Y) (d : Result Y BuildErr) (m : Held) (e : BuildErr) → (d ≡ Err e → IsUnbuiltFrom m text s e) → GivesBy view (Err e) d → BuildsFrom m text s (Err e)
  part_refused view d m (errors.Source c f l) on h = on h
  part_refused view d m (errors.Missing n) on h = on h
  part_refused view d m (errors.Failed n) on h = tt
  part_refused view d m (errors.Bad c n l) on h = on h
  part_refused view d m (errors.Limit n) on h = on h
  part_refused view d m errors.Memory on h = tt

  pub textures_told : (e : BuildErr) (names : List (List ℕ)) (held : Option Held) → names ≡ p.textures
      → IfSome held (λ m. GivesBy {X = Vec Image Global} (λ v. v.items) (Err e) (all_of (texture_of m) names)) → IfSome held (Told (Err e))
  textures_told e names None named h = tt
  textures_told e names (Some m) named h = λ front.
      part_refused (λ (v : Vec Image Global). v.items) (all_of (texture_of m) p.textures) m e (λ d. no_assets p is (no_textures m p e d))
      (subst (λ l. GivesBy {X = Vec Image Global} (λ v. v.items) (Err e) (all_of (texture_of m) l)) named h)

  module _ (ts : List Image) where
    abbrev pub TexturesAre : List (List ℕ) → Option Held → Type 0
    TexturesAre names held = IfSome held (λ m. all_of (texture_of m) names ≡ Ok ts)

    textures_of : (m : Held) (names : List (List ℕ)) → names ≡ p.textures → all_of (texture_of m) names ≡ Ok ts → all_of (texture_of m) p.textures ≡ Ok ts
    textures_of m names named h = subst (λ l. all_of (texture_of m) l ≡ Ok ts) named h

    pub sounds_told : (e : BuildErr) (names heard : List (List ℕ)) (h0 h1 : Option Held) → names ≡ p.textures → heard ≡ p.sounds → TexturesAre names h0 → h1 ≡ h0
        → IfSome h1 (λ m. GivesBy {X = Vec (List ℕ) Global} (λ v. v.items) (Err e) (all_of (sound_of m) heard)) → IfSome h0 (Told (Err e))
    sounds_told e names heard None h1 named named' textures same h = tt
    sounds_told e names heard (Some m) h1 named named' textures same h = λ front.
        part_refused (λ (v : Vec (List ℕ) Global). v.items) (all_of (sound_of m) p.sounds) m e
        (λ d. no_assets p is (no_sounds m p ts e (textures_of m names named textures) d))
        (subst (λ l. GivesBy {X = Vec (List ℕ) Global} (λ v. v.items) (Err e) (all_of (sound_of m) l)) named'
        (subst (λ x. IfSome x (λ m'. GivesBy {X = Vec (List ℕ) Global} (λ v. v.items) (Err e) (all_of (sound_of m') heard))) same h))

    module _ (ss : List (List ℕ)) where
      abbrev pub SoundsAre : List (List ℕ) → Option Held → Type 0
      SoundsAre heard held = IfSome held (λ m. all_of (sound_of m) heard ≡ Ok ss)

      sounds_of : (m : Held) (heard : List (List ℕ)) (h1 : Option Held) → heard ≡ p.sounds → h1 ≡ Some m → SoundsAre heard h1 → all_of (sound_of m) p.sounds ≡ Ok ss
      sounds_of m heard h1 named same h = subst (λ l. SoundsAre l (Some m)) named (subst (SoundsAre heard) same h)

      -- ---- packed

      module _ (i : ImageT) (made : IsImageOf (program s.program) s.places s.starts.items i) where
        has_image : (m : Held) → IsSourceOf m p.source s → HasImage m text
        has_image m h = record {
          parts = p;
          project_is = is;
          parsed = h.parsed;
          is_unit = h.is_unit;
          program = program s.program;
          typed = h.of_unit.typed;
          image = i;
          image_is = subst (λ starts. IsImageOf (program s.program) h.parsed.places starts i) h.of_unit.starts
              (subst (λ places. IsImageOf (program s.program) places s.starts.items i) h.of_unit.places made);
        }

        module _ (m : Held) (source : IsSourceOf m p.source s) (textures : all_of (texture_of m) p.textures ≡ Ok ts) (sounds : all_of (sound_of m) p.sounds ≡ Ok ss) where
          image_from : IsImageFrom m text s (has_image m source)
          unfolding has_image
          image_from = record { program_is = refl; places_are = sym source.of_unit.places; starts_are = sym source.of_unit.starts }

          is_built : (b : Built) → IsPackedFrom p.title i (assets ts ss) (length s.places.tokens) b → IsBuiltFrom m text s b
          unfolding has_image
          is_built b h = record {
            built = record {
              of = has_image m source;
              textures = ts;
              textures_are = textures_are_files m p.textures ts textures;
              sounds = ss;
              sounds_are = sounds_are_files m p.sounds ss sounds;
              cartridge = h.cartridge;
              cart_is = h.cart_is;
              map_is = h.map_is;
              items_are = h.items_are;
              tokens_are = h.tokens_are ∙ ap (λ (places : Places). length places.tokens) source.of_unit.places;
            };
            image_is = image_from;
          }

          has_mid : (b : Built) → IsPackedFrom p.title i (assets ts ss) (length s.places.tokens) b → IsMidOf (program s.program) i (mid b.mid) (places_of b.choices) → HasMid m text b
          unfolding has_image is_built
          has_mid b h is_mid = record { built = (is_built b h).built; is_mid = is_mid }

          mids : (r : Result Built BuildErr) → IfOk r (IsPackedFrom p.title i (assets ts ss) (length s.places.tokens)) → IfOk r (λ b. IsMidOf (program s.program) i (mid b.mid) (places_of b.choices)) → IfOk r (HasMid m text)
          mids (Ok b) h k = has_mid b h k
          mids (Err e) h k = tt

          builds : (r : Result Built BuildErr) → IfOk r (IsPackedFrom p.title i (assets ts ss) (length s.places.tokens)) → IfErr r (IsOfPacking (cartridge_of p.title i (assets ts ss))) → BuildsFrom m text s r
          unfolding has_image
          builds (Ok b) h k = is_built b h
          builds (Err (errors.Source c f l)) h k = absurd k
          builds (Err (errors.Missing n)) h k = absurd k
          builds (Err (errors.Failed n)) h k = tt
          builds (Err (errors.Bad c n l)) h k = absurd k
          builds (Err (errors.Limit n)) h k = too_large (has_image m source) (assets ts ss) image_from (all_assets m p ts ss textures sounds) k.1.large (rw k.0 refl)
          builds (Err errors.Memory) h k = tt

        -- the project's source is that of the parts read again
        of_front : (m : Held) → IsFrontOf m text s → IsSourceOf m p.source s
        of_front m front = subst (λ (q : Project). IsSourceOf m q.source s) (same_parts text front.parts p front.project_is is) front.source_is

        pub packed_told : (r : Result Built BuildErr) (names heard : List (List ℕ)) (h0 h1 : Option Held) → names ≡ p.textures → heard ≡ p.sounds → TexturesAre names h0 → h1 ≡ h0 → SoundsAre heard h1
            → IfOk r (IsPackedFrom p.title i (assets ts ss) (length s.places.tokens)) → IfErr r (IsOfPacking (cartridge_of p.title i (assets ts ss))) → IfSome h0 (Told r)
        packed_told r names heard None h1 named named' textures same sounds h k = tt
        packed_told r names heard (Some m) h1 named named' textures same sounds h k = λ front.
            builds m (of_front m front) (textures_of m names named textures) (sounds_of m heard h1 named' same sounds) r h k

        pub mid_told : (r : Result Built BuildErr) (names heard : List (List ℕ)) (h0 h1 : Option Held) → names ≡ p.textures → heard ≡ p.sounds → TexturesAre names h0 → h1 ≡ h0 → SoundsAre heard h1
            → IfOk r (IsPackedFrom p.title i (assets ts ss) (length s.places.tokens)) → IfOk r (λ b. IsMidOf (program s.program) i (mid b.mid) (places_of b.choices))
            → IfSome h0 (λ m. IsFrontOf m text s → IfOk r (HasMid m text))
        mid_told r names heard None h1 named named' textures same sounds h k = tt
        mid_told r names heard (Some m) h1 named named' textures same sounds h k = λ front.
            mids m (of_front m front) (textures_of m names named textures) (sounds_of m heard h1 named' same sounds) r h k
