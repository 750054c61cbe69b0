-- At which file a read failed.
use Rattle.std.proofs.Common.{ℕ, ◌≡◌, List, sym, subst}
use Rattle.std.specs.Prelude.{Option, Some, None, Result, Ok, Err, IfErr, IfSome}
use Rattle.kit_base.specs.Held.{Held}
use Rattle.asset_pack.specs.Texts.{Image}
use Rattle.cart_format.specs.Cartridge.{Cartridge}
use Rattle.c_front.specs.declared.error.FrontErr.{FrontErr}
use Rattle.c_front.specs.declared.error.FrontErr.TheVariants as front
use Rattle.c_front.specs.Over.{over}
use Rattle.c_front.specs.Reached.{FailsAtOne, IsReadFor}
use Rattle.project_text.specs.declared.project.Project.{Project}
use Rattle.project_text.specs.ProjectText.{IsProject}
use Rattle.build_core.specs.declared.error.BuildErr.{BuildErr}
use Rattle.build_core.specs.declared.error.BuildErr.TheVariants as errors
use Rattle.build_core.specs.Causes.{IsOfContent, IsOfPacking}
use Rattle.build_core.specs.Checked.{IsOfRules, unread}
use Rattle.build_core.specs.Due.{all_of, sound_of, texture_of}
use Rattle.build_core.specs.Reached.{FailsAt, IsAssetRead, IsOneRead, IsReadBeside, IsReadToCheck, reads_sound, reads_texture}

-- ---- refusals that are no failure

rules_fail : {T : Type 0} (At : List ℕ → Type 0) (r : Result T BuildErr) → IfErr r IsOfRules → FailsAt At r
rules_fail At (Ok x) h = tt
rules_fail At (Err (errors.Source code file line)) h = tt
rules_fail At (Err (errors.Missing name)) h = tt
rules_fail At (Err (errors.Failed name)) h = absurd h
rules_fail At (Err (errors.Bad code name line)) h = tt
rules_fail At (Err (errors.Limit name)) h = tt
rules_fail At (Err errors.Memory) h = tt

content_fails : (T : Type 0) (At : List ℕ → Type 0) (e : BuildErr) → IsOfContent e → FailsAt {T = T} At (Err e)
content_fails T At (errors.Source code file line) h = absurd h
content_fails T At (errors.Missing name) h = tt
content_fails T At (errors.Failed name) h = absurd h
content_fails T At (errors.Bad code name line) h = tt
content_fails T At (errors.Limit name) h = tt
content_fails T At errors.Memory h = tt

packing_fails : {T : Type 0} (c : Cartridge) (At : List ℕ → Type 0) (r : Result T BuildErr) → IfErr r (IsOfPacking c) → FailsAt At r
packing_fails c At (Ok x) h = tt
packing_fails c At (Err (errors.Source code file line)) h = tt
packing_fails c At (Err (errors.Missing name)) h = tt
packing_fails c At (Err (errors.Failed name)) h = absurd h
packing_fails c At (Err (errors.Bad code name line)) h = tt
packing_fails c At (Err (errors.Limit name)) h = tt
packing_fails c At (Err errors.Memory) h = tt

pub wider : (T U : Type 0) (At Wider : List ℕ → Type 0) → ((name : List ℕ) → At name → Wider name) → (e : BuildErr) → FailsAt {T = T} At (Err e) → FailsAt {T = U} Wider (Err e)
wider T U At Wider more (errors.Source code file line) h = tt
wider T U At Wider more (errors.Missing name) h = tt
wider T U At Wider more (errors.Failed name) h = more name h
wider T U At Wider more (errors.Bad code name line) h = tt
wider T U At Wider more (errors.Limit name) h = tt
wider T U At Wider more errors.Memory h = tt

unread_fails : (T : Type 0) (m : Held) (source : List ℕ) (x : FrontErr) → FailsAtOne m source (Err x) → FailsAt {T = T} (IsReadFor m source) (Err (unread x))
unread_fails T m source (front.Source code file line) h = tt
unread_fails T m source (front.Missing name) h = tt
unread_fails T m source (front.Failed name) h = h
unread_fails T m source (front.Limit name) h = tt
unread_fails T m source front.Memory h = tt

-- ---- a source, where it is told what is held

pub typed_fails : {T : Type 0} (o : Option Held) (source : List ℕ) (r : Result T BuildErr) → IfErr r IsOfRules → IfSome o (λ m. FailsAt (IsReadFor (over m) source) r)
typed_fails None source r h = tt
typed_fails (Some m) source r h = rules_fail (IsReadFor (over m) source) r h

pub reading_fails : (T : Type 0) (o : Option Held) (named source : List ℕ) → named ≡ source → (x : FrontErr) (e : BuildErr) → e ≡ unread x
    → IfSome o (λ m. FailsAtOne (over m) named (Err x)) → IfSome o (λ m. FailsAt {T = T} (IsReadFor (over m) source) (Err e))
reading_fails T None named source is x e told h = tt
reading_fails T (Some m) named source is x e told h =
    subst (λ (k : BuildErr). FailsAt {T = T} (IsReadFor (over m) source) (Err k)) (sym told)
    (unread_fails T (over m) source x (subst (λ (s : List ℕ). FailsAtOne (over m) s (Err x)) is h))

-- ---- a project

module _ (project : List ℕ) where
  pub project_fails : (T : Type 0) (At : Held → List ℕ → Type 0) (o : Option Held) (e : BuildErr) → IsOfContent e → IfSome o (λ m. FailsAt {T = T} (At m) (Err e))
  project_fails T At None e h = tt
  project_fails T At (Some m) e h = content_fails T (At m) e h

  module _ (p : Project) (is : IsProject project p) where
    to_check : (m : Held) (name : List ℕ) → IsReadFor (over m) p.source name → IsReadToCheck m project name
    to_check m name h = record { parts = p; project_is = is; is_read = h }

    pub check_fails : {T : Type 0} (o : Option Held) (r : Result T BuildErr) → IfSome o (λ m. FailsAt (IsReadFor (over m) p.source) r) → IfSome o (λ m. FailsAt (IsReadToCheck m project) r)
    check_fails None r h = tt
    check_fails (Some m) (Ok x) h = tt
    check_fails {T = T} (Some m) (Err e) h = wider T T (IsReadFor (over m) p.source) (IsReadToCheck m project) (to_check m) e h

    beside : (m : Held) (name : List ℕ) → IsAssetRead m p name → IsReadBeside m project name
    beside m name h = record { parts = p; project_is = is; is_read = h }

    pub textures_fail : (T U : Type 0) (o : Option Held) (names : List (List ℕ)) → names ≡ p.textures → (e : BuildErr)
        → IfSome o (λ m. FailsAt {T = T} (IsOneRead (texture_of m) names) (Err e)) → IfSome o (λ m. FailsAt {T = U} (IsReadBeside m project) (Err e))
    textures_fail T U None names named e h = tt
    textures_fail T U (Some m) names named e h =
        wider T U (IsOneRead (texture_of m) p.textures) (IsReadBeside m project) (λ name k. beside m name (reads_texture k)) e
        (subst (λ l. FailsAt {T = T} (IsOneRead (texture_of m) l) (Err e)) named h)

    pub sounds_fail : (T U : Type 0) (ts : List Image) (h0 h1 : Option Held) (names heard : List (List ℕ)) → names ≡ p.textures → heard ≡ p.sounds → (e : BuildErr)
        → IfSome h0 (λ m. all_of (texture_of m) names ≡ Ok ts) → h1 ≡ h0 → IfSome h1 (λ m. FailsAt {T = T} (IsOneRead (sound_of m) heard) (Err e)) → IfSome h0 (λ m. FailsAt {T = U} (IsReadBeside m project) (Err e))
    sounds_fail T U ts None h1 names heard named named' e textures same h = tt
    sounds_fail T U ts (Some m) h1 names heard named named' e textures same h =
        wider T U (IsOneRead (sound_of m) p.sounds) (IsReadBeside m project) (λ name k. beside m name (reads_sound ts (subst (λ l. all_of (texture_of m) l ≡ Ok ts) named textures) k)) e
        (subst (λ l. FailsAt {T = T} (IsOneRead (sound_of m) l) (Err e)) named' (subst (λ x. IfSome x (λ m'. FailsAt {T = T} (IsOneRead (sound_of m') heard) (Err e))) same h))

  pub packed_fails : {T : Type 0} (o : Option Held) (c : Cartridge) (r : Result T BuildErr) → IfErr r (IsOfPacking c) → IfSome o (λ m. FailsAt (IsReadBeside m project) r)
  packed_fails None c r h = tt
  packed_fails (Some m) c r h = packing_fails c (IsReadBeside m project) r h
