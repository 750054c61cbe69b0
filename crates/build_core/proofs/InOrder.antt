-- A build is the front, and then what is built of the checked source.
use Rattle.std.proofs.Common.{ℕ, suc, ◌≡◌, List, sym, subst, arith}
use Rattle.std.specs.Prelude.{Option, Some, None, Result, Ok, Err, Contains, IfOk, IfErr, IfSome}
use Rattle.kit_base.specs.Held.{Held}
use Rattle.kit_base.specs.Counts.{Counts}
use Rattle.c_check.specs.View.{program}
use Rattle.project_text.specs.declared.project.Project.{Project}
use Rattle.project_text.specs.declared.error.ProjectErr.{ProjectErr}
use Rattle.project_text.specs.ProjectText.{IsProject}
use Rattle.project_text.specs.Reading.{project_of}
use Rattle.build_core.specs.declared.building.Built.{Built}
use Rattle.build_core.specs.declared.error.BuildErr.{BuildErr}
use Rattle.build_core.specs.declared.error.BuildErr.TheVariants as errors
use Rattle.build_core.specs.declared.checked.Checked.{Checked}
use Rattle.build_core.specs.Build.{Builds, IsUnbuilt, no_parts, rejected}
use Rattle.build_core.specs.Build as build
use Rattle.build_core.specs.BuiltFrom.{BuildsFrom, IsUnbuiltFrom, no_assets, too_large}
use Rattle.build_core.specs.BuiltMid.{HasMid}
use Rattle.build_core.specs.Causes.{CanCome, HasCauses, HasReadCauses, IsCartridgeTooLarge, IsOfBuilding, assets_in, files_in, assets_of}
use Rattle.build_core.specs.Checked.{CanBeRefused, Checks, HasProgram, IsAccepted}
use Rattle.build_core.specs.Fronts.{Fronts, IsFrontOf}
use Rattle.build_core.specs.Reached.{FailsAt, IsReadBeside, IsReadToBuild, IsReadToCheck, reads_beside, reads_source}
use Rattle.build_core.proofs.Checks.{same_parts}
use Rattle.build_core.proofs.Counting.{later}
use Rattle.build_core.proofs.Failing.{wider}

module _ (text : List ℕ) where
  -- ---- what was built, and why not

  has_program : (m : Held) (c : Checked) (front : IsFrontOf m text c) → HasProgram m front.parts.source (program c.program)
  has_program m c front = record { parsed = front.source_is.parsed; is_unit = front.source_is.is_unit; typed = front.source_is.of_unit.typed }

  unbuilt : (m : Held) (c : Checked) (e : BuildErr) → IsFrontOf m text c → IsUnbuiltFrom m text c e → IsUnbuilt m text e
  unbuilt m c e front (no_assets parts is none) =
      let same = same_parts text front.parts parts front.project_is is in
      no_parts (build.no_assets parts (program c.program) is (subst (λ (q : Project). HasProgram m q.source (program c.program)) same (has_program m c front)) none)
  unbuilt m c e front (too_large of a from given large told) = build.too_large of a given large told

  of_checked : (m : Held) (c : Checked) (r : Result Built BuildErr) → IsFrontOf m text c → BuildsFrom m text c r → Builds m text r
  of_checked m c (Ok b) front h = h.built
  of_checked m c (Err (errors.Source a f l)) front h = unbuilt m c (errors.Source a f l) front h
  of_checked m c (Err (errors.Missing n)) front h = unbuilt m c (errors.Missing n) front h
  of_checked m c (Err (errors.Failed n)) front h = tt
  of_checked m c (Err (errors.Bad a n l)) front h = unbuilt m c (errors.Bad a n l) front h
  of_checked m c (Err (errors.Limit n)) front h = unbuilt m c (errors.Limit n) front h
  of_checked m c (Err errors.Memory) front h = tt

  pub built_told : (c : Checked) (r : Result Built BuildErr) (h0 h1 : Option Held) → IfSome h0 (λ m. Fronts m text (Ok c)) → h1 ≡ h0 → IfSome h1 (λ m. IsFrontOf m text c → BuildsFrom m text c r)
      → IfSome h0 (λ m. Builds m text r)
  built_told c r None h1 front same h = tt
  built_told c r (Some m) h1 front same h = of_checked m c r front (subst (λ x. IfSome x (λ m'. IsFrontOf m' text c → BuildsFrom m' text c r)) same h front)

  pub built_mid : (c : Checked) (r : Result Built BuildErr) (h0 h1 : Option Held) → IfSome h0 (λ m. Fronts m text (Ok c)) → h1 ≡ h0 → IfSome h1 (λ m. IsFrontOf m text c → IfOk r (HasMid m text))
      → IfSome h0 (λ m. IfOk r (HasMid m text))
  built_mid c r None h1 front same h = tt
  built_mid c r (Some m) h1 front same h = (subst (λ x. IfSome x (λ m'. IsFrontOf m' text c → IfOk r (HasMid m' text))) same h) front

  unchecked : (m : Held) (e : BuildErr) → Checks m text (Err e) → Builds m text (Err e)
  unchecked m (errors.Source a f l) h = no_parts (rejected h)
  unchecked m (errors.Missing n) h = no_parts (rejected h)
  unchecked m (errors.Failed n) h = tt
  unchecked m (errors.Bad a n l) h = no_parts (rejected h)
  unchecked m (errors.Limit n) h = no_parts (rejected h)
  unchecked m errors.Memory h = tt

  pub unchecked_told : (e : BuildErr) (held : Option Held) → IfSome held (λ m. Fronts m text (Err e)) → IfSome held (λ m. Builds m text (Err e))
  unchecked_told e None h = tt
  unchecked_told e (Some m) h = unchecked m e h

  -- ---- which refusals come

  behind_source : (r : Result Project ProjectErr) (n : List ℕ) → Contains (assets_in r) n → Contains (files_in r) n
  behind_source (Ok p) n h = (suc h.0, omega (arith, h.1), h.2)
  behind_source (Err e) n h = absurd (omega (arith, h.1))

  building_comes : (e : BuildErr) → IsOfBuilding text e → CanCome text e
  building_comes (errors.Source a f l) h = absurd h
  building_comes (errors.Missing n) h = behind_source (project_of text) n h
  building_comes (errors.Failed n) h = tt
  building_comes (errors.Bad a n (Some l)) h = absurd h
  building_comes (errors.Bad a n None) h = h
  building_comes (errors.Limit n) h = tt
  building_comes errors.Memory h = tt

  pub built_kinds : (r : Result Built BuildErr) → IfErr r (IsOfBuilding text) → IfErr r (CanCome text)
  built_kinds (Ok b) h = tt
  built_kinds (Err e) h = building_comes e h

  source_in : (n : List ℕ) (r : Result Project ProjectErr) → (parts : Project) × (r ≡ Ok parts) × (n ≡ parts.source) → Contains (files_in r) n
  source_in n r h = subst (λ q. Contains (files_in q) n) (sym h.1) (0, omega arith, sym h.2)

  pub unchecked_kinds : (e : BuildErr) → CanBeRefused text e → CanCome text e
  unchecked_kinds (errors.Source a f l) h = tt
  unchecked_kinds (errors.Missing n) h = source_in n (project_of text) h
  unchecked_kinds (errors.Failed n) h = tt
  unchecked_kinds (errors.Bad a n (Some l)) h = h
  unchecked_kinds (errors.Bad a n None) h = absurd h
  unchecked_kinds (errors.Limit n) h = tt
  unchecked_kinds errors.Memory h = tt

  -- ---- and why

  pub built_causes : (c : Checked) (r : Result Built BuildErr) (x y z : Counts) → HasReadCauses {T = Checked} (Ok c) x y → HasCauses text r y z → HasCauses text r x z
  built_causes c (Ok b) x y z h k =
      record { faults_later = omega (arith, h.faults_later, k.faults_later); misses_later = omega (arith, h.misses_later, k.misses_later); overs_later = omega (arith, h.overs_later, k.overs_later); cause = tt }
  built_causes c (Err e) x y z h k = later Built Built Checked (IsCartridgeTooLarge text) x y z c e h k

  -- ---- at which file a read failed

  accepted : (m : Held) (c : Checked) → IsFrontOf m text c → IsAccepted m text (program c.program)
  accepted m c front = record { parts = front.parts; project_is = front.project_is; program_is = has_program m c front }

  pub built_reached : (c : Checked) (h0 h1 : Option Held) (r : Result Built BuildErr) → IfSome h0 (λ m. Fronts m text (Ok c)) → h1 ≡ h0 → IfSome h1 (λ m. FailsAt (IsReadBeside m text) r)
      → IfSome h0 (λ m. FailsAt (IsReadToBuild m text) r)
  built_reached c None h1 r front same h = tt
  built_reached c (Some m) h1 (Ok b) front same h = tt
  built_reached c (Some m) h1 (Err e) front same h =
      wider Built Built (IsReadBeside m text) (IsReadToBuild m text) (λ name k. reads_beside (program c.program) (accepted m c front) k) e
      (subst (λ x. IfSome x (λ m'. FailsAt {T = Built} (IsReadBeside m' text) (Err e))) same h)

  pub unchecked_reached : (held : Option Held) (e : BuildErr) → IfSome held (λ m. FailsAt {T = Checked} (IsReadToCheck m text) (Err e)) → IfSome held (λ m. FailsAt {T = Built} (IsReadToBuild m text) (Err e))
  unchecked_reached None e h = tt
  unchecked_reached (Some m) e h = wider Checked Built (IsReadToCheck m text) (IsReadToBuild m text) (λ name k. reads_source k) e h
