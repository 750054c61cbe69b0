-- The frames of a run so far: those of a run into files, whose files nobody asks for.
use Rattle.std.proofs.Common.{ℕ, ◌-◌, ◌<◌, ◌≡◌, true, false, [], refl, ap, sym, subst, ◌∙◌}
use Rattle.std.specs.Prelude.{Option, None}
use Rattle.kit_base.specs.Held.{Held}
use Rattle.kit_base.specs.Effects.{all_done}
use Rattle.v32_console.specs.declared.frame_end.FrameEnd.{FrameEnd}
use Rattle.v32_console.specs.declared.frame_end.FrameEnd.TheVariants.{Full}
use Rattle.v32_console.specs.Setup.{Setup}
use Rattle.v32_console.specs.Moments.{Moment, Left, goes_on, opening_moment}
use Rattle.v32_console.specs.Frames.{frame_of}
use Rattle.v32_console.specs.Stands.{Parts, ConsoleStands}
use Rattle.run_core.specs.Outputs.{Names, end_of, frame_outputs, last_moment}
use Rattle.run_core.proofs.Going.{Going, Finished, going_first, going_on, going_ends, going_done, last_is}

abbrev pub unnamed : Names
unnamed = record { frames = []; samples = []; card = None }

-- Of a run of so many frames a number is left, and the console stands there.
abbrev pub Follows : Setup → (count left : ℕ) → FrameEnd → Parts → Type 0
Follows u count left end c = (held : Option Held) × Going unnamed u (opening_moment u) count left end c None held

-- the run is done
pub record IsDone (u : Setup) (count : ℕ) (end : FrameEnd) (c : Parts) : Type 0 where
  pub stands : ConsoleStands u (last_moment u count) c
  pub end_is : end_of (last_moment u count).phase ≡ end

pub follows_first : (u : Setup) (count : ℕ) (c : Parts) → ConsoleStands u (opening_moment u) c → Follows u count count Full c
follows_first u count c h = (None, going_first unnamed u count c None h)

done_so : (u : Setup) (count : ℕ) (end : FrameEnd) (c : Parts) (held : Option Held) → Finished unnamed u (opening_moment u) count end c None held → IsDone u count end c
done_so u count end c held f = record {
  stands = subst (λ (m : Moment). ConsoleStands u m c) (last_is u count) f.stands;
  end_is = ap (λ (m : Moment). end_of m.phase) (sym (last_is u count)) ∙ f.end_is;
}

-- a further frame, after which one may follow or none does
module _ (u : Setup) (count left : ℕ) (end : FrameEnd) (c : Parts) (some : 0 < left) (f : Follows u count left end c)
    (end' : FrameEnd) (c' : Parts) (left_is : (frame_of u f.1.here).phase ≡ Left end') (stands : ConsoleStands u (frame_of u f.1.here) c') where
  abbrev held_now : Option Held
  held_now = all_done (frame_outputs unnamed u (frame_of u f.1.here)) f.0

  pub follows_on : goes_on end' ≡ true → Follows u count (left - 1) end' c'
  follows_on goes = (held_now, going_on unnamed u (opening_moment u) count left end c None f.0 some f.1 end' c' held_now left_is stands refl goes)

  pub follows_ends : goes_on end' ≡ false → IsDone u count end' c'
  follows_ends stops = done_so u count end' c' held_now (going_ends unnamed u (opening_moment u) count left end c None f.0 some f.1 end' c' held_now left_is stands refl stops)

-- none is left
pub follows_done : (u : Setup) (count left : ℕ) (end : FrameEnd) (c : Parts) → left ≡ 0 → Follows u count left end c → IsDone u count end c
follows_done u count left end c none f = done_so u count end c f.0 (going_done unnamed u (opening_moment u) count left end c None f.0 none f.1)
