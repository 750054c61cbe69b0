-- A file that is there stays there.
use Rattle.std.proofs.Common.{ℕ, ◌≡◌, Bool, true, false, cond, List, [], ◌∷◌, ◌++◌, refl, sym, ap, subst, ◌∙◌}
use Rattle.std.specs.Prelude.{Option, Some, None, is_some, option_map}
use Rattle.std.specs.Ordering.{eq_by_cmp, nat_cmp}
use Rattle.std.specs.Cmp.Lexicographic.{slice_cmp}
use Rattle.std.proofs.lemmas.Cmp.{nat_list_cmp_total}
use Rattle.std.specs.FinMap.{get, insert, contains_key, get-insert}
use Rattle.kit_base.specs.Held.{Held, bytes_of}
use Rattle.kit_base.specs.Effects.{Effect, Creates, Appends, done, all_done}
use Rattle.kit_base.proofs.Holdings.{holds_emptied}
use Rattle.run_files.specs.Screens.{frames_header, samples_header}
use Rattle.run_core.specs.Outputs.{Names, heads}
use Rattle.run_core.specs.Writing.{IsThere}

some_kept : (b : Bool) (v : List ℕ) (o : Option (List ℕ)) → is_some o ≡ true → is_some (cond b (Some v) o) ≡ true
some_kept true v o h = refl
some_kept false v o h = h

there_kept : (m : Held) (other bytes name : List ℕ) → contains_key m name ≡ true → contains_key (insert m other bytes) name ≡ true
there_kept m other bytes name h =
    ap is_some (get-insert nat_list_cmp_total m other bytes name) ∙ some_kept (eq_by_cmp (slice_cmp nat_cmp) name other) bytes (get m name) h

there_done : (name : List ℕ) (e : Effect) (held : Option Held) → IsThere name held → IsThere name (option_map (done e) held)
there_done name e None h = tt
there_done name (Creates other) (Some m) h = there_kept m other [] name h
there_done name (Appends other piece) (Some m) h = there_kept m other (bytes_of m other ++ piece) name h

there_all : (name : List ℕ) (es : List Effect) (held : Option Held) → IsThere name held → IsThere name (all_done es held)
there_all name [] held h = h
there_all name (e ∷ es) held h = there_all name es (option_map (done e) held) (there_done name e held h)

pub there_after : (name : List ℕ) (es : List Effect) (before after : Option Held) → after ≡ all_done es before → IsThere name before → IsThere name after
there_after name es before after e h = subst (IsThere name) (sym e) (there_all name es before h)

there_created : (name : List ℕ) (es : List Effect) (held : Option Held) → IsThere name (all_done (Creates name ∷ es) held)
there_created name es held = there_all name es (option_map (done (Creates name)) held) (holds_emptied name held _ refl)

pub frames_there : (names : Names) (before after : Option Held) → after ≡ all_done (heads names) before → IsThere names.frames after
frames_there names before after e =
    subst (IsThere names.frames) (sym e) (there_created names.frames (Appends names.frames frames_header ∷ Creates names.samples ∷ Appends names.samples samples_header ∷ []) before)

pub samples_there : (names : Names) (before after : Option Held) → after ≡ all_done (heads names) before → IsThere names.samples after
samples_there names before after e =
    subst (IsThere names.samples) (sym e)
    (there_created names.samples (Appends names.samples samples_header ∷ []) (all_done (Creates names.frames ∷ Appends names.frames frames_header ∷ []) before))
