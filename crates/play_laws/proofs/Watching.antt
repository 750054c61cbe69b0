-- The verdict on the run of a build's cartridge.
use Rattle.std.proofs.Common.{ℕ, ◌≡◌, ◌≤◌, ◌+◌, true, false, List, refl}
use Rattle.std.specs.Prelude.{◌↔◌}
use Rattle.v32_isa.specs.Runs as machine
use Rattle.c_types.specs.Programs.{ProgramT}
use Rattle.c_watch.specs.declared.verdict.Watched.TheVariants.{Met}
use Rattle.v32_console.specs.declared.frame_end.FrameEnd.TheVariants as frame
use Rattle.v32_console.specs.Setup.{Setup, setup_of}
use Rattle.v32_console.specs.Moments.{Phase, Opened, Running, Left, console_at}
use Rattle.v32_console.specs.Machine.{end_of}
use Rattle.v32_console.specs.History.{operations_at}
use Rattle.c_image.specs.Imaging.{frame_sizes}
use Rattle.play_laws.specs.Played.{Refines, meant_at, played}
use Rattle.play_laws.specs.Keeping.{has_ended, KeepsAt, watched_at, Follows, IsWhole, WatchDecides, KeptRunsAreTheSources, EndedRunsAreWhole}
use Rattle.play_laws.proofs.Kept.{decides, follows, whole}
use Rattle.play_laws.proofs.Sources.{plays_so}

goes : (phase : Phase) → end_of phase ≡ machine.Going → has_ended phase ≡ false
goes Opened e = refl
goes (Running done) e = refl
goes (Left frame.Full) e = refl
goes (Left frame.Waited) e = refl
goes (Left frame.Halted) e = absurd cc
goes (Left (frame.Fault number address)) e = absurd cc
goes (Left (frame.Undecodable address)) e = absurd cc

going : (phase : Phase) → has_ended phase ≡ false → end_of phase ≡ machine.Going
going Opened e = refl
going (Running done) e = refl
going (Left frame.Full) e = refl
going (Left frame.Waited) e = refl
going (Left frame.Halted) e = absurd cc
going (Left (frame.Fault number address)) e = absurd cc
going (Left (frame.Undecodable address)) e = absurd cc

-- for what does as is meant with every bound from the number of its instructions on
module _ (p : ProgramT) (frames : List ℕ) (u : Setup) (k : ℕ)
    (plays : (bound : ℕ) → (operations_at u k).instructions ≤ bound → Refines (meant_at p frames bound u k) (played u k)) where
  abbrev phase : Phase
  phase = (console_at u k).phase

  decides_at : KeepsAt p frames u k ↔ (watched_at p frames u k ≡ Met)
  decides_at = decides p frames (operations_at u k).answers u.card (operations_at u k).instructions (played u k) (has_ended phase) (goes phase) (going phase) plays

  follows_at : KeepsAt p frames u k → (bound : ℕ) → (operations_at u k).instructions ≤ bound → Follows (meant_at p frames bound u k) (played u k)
  follows_at kept bound le =
      follows p frames (operations_at u k).answers u.card (operations_at u k).instructions (played u k) (has_ended phase) (goes phase) (going phase) plays kept bound le

  whole_at : KeepsAt p frames u k → has_ended phase ≡ true → IsWhole (meant_at p frames ((operations_at u k).instructions + 1) u k) (played u k)
  whole_at kept over =
      whole p frames (operations_at u k).answers u.card (operations_at u k).instructions (played u k) (has_ended phase) (goes phase) (going phase) plays kept over

pub watch_decides : WatchDecides
watch_decides m project b built cart read pads card is k =
    decides_at built.of.program (frame_sizes built.of.image.map) (setup_of cart pads card) k (plays_so m project b built cart read pads card is k)

pub kept_runs : KeptRunsAreTheSources
kept_runs m project b built cart read pads card is k =
    follows_at built.of.program (frame_sizes built.of.image.map) (setup_of cart pads card) k (plays_so m project b built cart read pads card is k)

pub ended_runs : EndedRunsAreWhole
ended_runs m project b built cart read pads card is k =
    whole_at built.of.program (frame_sizes built.of.image.map) (setup_of cart pads card) k (plays_so m project b built cart read pads card is k)
