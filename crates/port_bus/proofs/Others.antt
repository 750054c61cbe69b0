-- What happens at other devices' ports leaves what the small devices stand for.
use Rattle.std.proofs.Common.{◌≡◌, ℕ, Bool, true, false, List, ◌∷◌, refl, subst}
use Rattle.std.specs.Prelude.{◌==◌, ◌||◌}
use Rattle.std.proofs.lemmas.Bool.{eqb-true}
use Rattle.run_files.specs.Script.{Script}
use Rattle.port_history.specs.Past.{Happening, Asked, Told, Mixed, is_graphics_port, is_sound_port}
use Rattle.port_bus.specs.State.{Facts, State}
use Rattle.port_bus.specs.Stand.{DevicesStand}

abbrev is_elsewhere : ℕ → Bool
is_elsewhere port = is_graphics_port port || is_sound_port port

-- a port of graphics or of sound is none that is neither
not_that : (port other : ℕ) → is_elsewhere other ≡ false → is_elsewhere port ≡ true → (port == other) ≡ false
not_that port other small elsewhere = go (port == other) refl
  where
    go : (b : Bool) → (port == other) ≡ b → (port == other) ≡ false
    go false e = e
    go true e = let there = subst (λ n. is_elsewhere n ≡ true) (eqb-true port other e) elsewhere in absurd cc

pub asked_elsewhere : (script : Script) (facts : Facts) (past : List Happening) (d : State) (port : ℕ) → is_elsewhere port ≡ true
    → DevicesStand script facts past d → DevicesStand script facts (Asked port ∷ past) d
asked_elsewhere script facts past d port other h =
    record { script_is = h.script_is; facts_are = h.facts_are; frames_are = h.frames_are; random_is = rw (not_that port 0x100 refl other) h.random_is; selected_is = h.selected_is }

pub told_elsewhere : (script : Script) (facts : Facts) (past : List Happening) (d : State) (port word : ℕ) → is_elsewhere port ≡ true
    → DevicesStand script facts past d → DevicesStand script facts (Told port word ∷ past) d
told_elsewhere script facts past d port word other h =
    let seed = not_that port 0x100 refl other in
    record { script_is = h.script_is; facts_are = h.facts_are; frames_are = h.frames_are; random_is = rw seed h.random_is; selected_is = rw (not_that port 0x400 refl other) h.selected_is }

pub mixed_elsewhere : (script : Script) (facts : Facts) (past : List Happening) (d : State) → DevicesStand script facts past d → DevicesStand script facts (Mixed ∷ past) d
mixed_elsewhere script facts past d h = record { script_is = h.script_is; facts_are = h.facts_are; frames_are = h.frames_are; random_is = h.random_is; selected_is = h.selected_is }
