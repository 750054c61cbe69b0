-- A run of frames, so far.
use Rattle.std.proofs.Common.{ℕ, zero, suc, ◌-◌, ◌<◌, ◌≡◌, Bool, true, false, List, [], ◌∷◌, ◌++◌, refl, sym, ap, subst, ◌∙◌, append_assoc, append-nil, arith}
use Rattle.std.specs.Prelude.{Option, if◌then◌else◌}
use Rattle.std.specs.List.{flat_map}
use Rattle.kit_base.specs.Held.{Held}
use Rattle.kit_base.specs.Effects.{Effect, all_done}
use Rattle.v32_console.specs.declared.frame_end.FrameEnd.{FrameEnd}
use Rattle.v32_console.specs.declared.frame_end.FrameEnd.TheVariants.{Full}
use Rattle.v32_console.specs.Setup.{Setup}
use Rattle.v32_console.specs.Moments.{Moment, Phase, Left, goes_on, opening_moment}
use Rattle.v32_console.specs.Frames.{frame_of, frames_of, frames_from}
use Rattle.v32_console.specs.Runs.{last_after}
use Rattle.v32_console.specs.Stands.{Parts, ConsoleStands, IsAtRest}
use Rattle.run_core.specs.declared.output.Output.{Output}
use Rattle.run_core.specs.Outputs.{Names, frame_outputs, end_of, last_moment}
use Rattle.run_core.specs.Writing.{IsCut}
use Rattle.run_core.proofs.Parts.{cut_in_first, cut_in_second, all_done_both}

-- the outputs of frames
abbrev pub outputs : Names → Setup → List Moment → List Effect
outputs names u moments = flat_map (frame_outputs names u) moments

-- Of a run of so many frames from the first moment on, a number is left from that one on. What is before it is done, and the
-- console stands there.
pub record Going (names : Names) (u : Setup) (first : Moment) (count left : ℕ) (end : FrameEnd) (c : Parts) (before now : Option Held) : Type 0 where
  pub here : Moment
  pub effects : List Effect
  pub rest : IsAtRest here.phase
  pub stands : ConsoleStands u here c
  pub end_is : end_of here.phase ≡ end
  pub whole : outputs names u (frames_of count u first) ≡ effects ++ outputs names u (frames_of left u here)
  pub held : now ≡ all_done effects before
  pub last : last_after first (frames_of count u first) ≡ last_after here (frames_of left u here)

-- a run of so many frames is done
pub record Finished (names : Names) (u : Setup) (first : Moment) (count : ℕ) (end : FrameEnd) (c : Parts) (before now : Option Held) : Type 0 where
  pub stands : ConsoleStands u (last_after first (frames_of count u first)) c
  pub end_is : end_of (last_after first (frames_of count u first)).phase ≡ end
  pub held : now ≡ all_done (outputs names u (frames_of count u first)) before

pub going_first : (names : Names) (u : Setup) (count : ℕ) (c : Parts) (held : Option Held) → ConsoleStands u (opening_moment u) c
    → Going names u (opening_moment u) count count Full c held held
going_first names u count c held h =
    record { here = opening_moment u; effects = []; rest = tt; stands = h; end_is = refl; whole = refl; held = refl; last = refl }

frames_suc : (n : ℕ) (u : Setup) (m : Moment) → frames_of (suc n) u m ≡ frame_of u m ∷ frames_from (frame_of u m).phase (frames_of n u (frame_of u m))
unfolding frames_of
frames_suc n u m = refl

frames_none : (u : Setup) (m : Moment) → frames_of zero u m ≡ []
unfolding frames_of
frames_none u m = refl

one_more : (left : ℕ) → 0 < left → left ≡ suc (left - 1)
one_more left h = omega (arith, h)

frames_some : (left : ℕ) (u : Setup) (m : Moment) → 0 < left → frames_of left u m ≡ frame_of u m ∷ frames_from (frame_of u m).phase (frames_of (left - 1) u (frame_of u m))
frames_some left u m h = ap (λ n. frames_of n u m) (one_more left h) ∙ frames_suc (left - 1) u m

chosen : (b c : Bool) (later : List Moment) → b ≡ c → (if b then later else []) ≡ (if c then later else [])
chosen b c later e = ap (λ x. if x then later else []) e

from_left : (end : FrameEnd) (phase : Phase) (later : List Moment) → phase ≡ Left end → frames_from phase later ≡ (if goes_on end then later else [])
from_left end phase later e = ap (λ p. frames_from p later) e

module _ (names : Names) (u : Setup) (first : Moment) (count left : ℕ) (end : FrameEnd) (c : Parts) (before now : Option Held)
    (some : 0 < left) (g : Going names u first count left end c before now) where
  -- the frame, then those after it
  split : outputs names u (frames_of left u g.here)
      ≡ frame_outputs names u (frame_of u g.here) ++ outputs names u (frames_from (frame_of u g.here).phase (frames_of (left - 1) u (frame_of u g.here)))
  split = ap (outputs names u) (frames_some left u g.here some)

  pub going_cut : (output : Output) (after : Option Held) → IsCut names output (frame_outputs names u (frame_of u g.here)) now after
      → IsCut names output (outputs names u (frames_of count u first)) before after
  going_cut output after h =
      subst (λ (es : List Effect). IsCut names output es before after) (sym (g.whole ∙ ap (λ es. g.effects ++ es) split))
      (cut_in_second names output g.effects _ before now after g.held (cut_in_first names output (frame_outputs names u (frame_of u g.here)) _ now after h))

  -- the frame is done, and these follow
  module _ (end' : FrameEnd) (c' : Parts) (after : Option Held) (later : List Moment)
      (left_is : (frame_of u g.here).phase ≡ Left end') (stands : ConsoleStands u (frame_of u g.here) c')
      (done : after ≡ all_done (frame_outputs names u (frame_of u g.here)) now)
      (follow : (if goes_on end' then frames_of (left - 1) u (frame_of u g.here) else []) ≡ later) where
    followed : frames_from (frame_of u g.here).phase (frames_of (left - 1) u (frame_of u g.here)) ≡ later
    followed = from_left end' (frame_of u g.here).phase (frames_of (left - 1) u (frame_of u g.here)) left_is ∙ follow

    pub whole_now : outputs names u (frames_of count u first) ≡ (g.effects ++ frame_outputs names u (frame_of u g.here)) ++ outputs names u later
    whole_now =
        g.whole ∙ ap (λ es. g.effects ++ es) (split ∙ ap (λ l. frame_outputs names u (frame_of u g.here) ++ outputs names u l) followed)
        ∙ sym (append_assoc g.effects (frame_outputs names u (frame_of u g.here)) (outputs names u later))

    pub held_now : after ≡ all_done (g.effects ++ frame_outputs names u (frame_of u g.here)) before
    held_now = all_done_both g.effects (frame_outputs names u (frame_of u g.here)) before now after g.held done

    pub last_now : last_after first (frames_of count u first) ≡ last_after (frame_of u g.here) later
    last_now = g.last ∙ ap (last_after g.here) (frames_some left u g.here some) ∙ ap (last_after (frame_of u g.here)) followed

  pub going_on : (end' : FrameEnd) (c' : Parts) (after : Option Held) → (frame_of u g.here).phase ≡ Left end' → ConsoleStands u (frame_of u g.here) c'
      → after ≡ all_done (frame_outputs names u (frame_of u g.here)) now → goes_on end' ≡ true → Going names u first count (left - 1) end' c' before after
  going_on end' c' after left_is stands done goes =
      let follow = chosen (goes_on end') true (frames_of (left - 1) u (frame_of u g.here)) goes in record {
        here = frame_of u g.here;
        effects = g.effects ++ frame_outputs names u (frame_of u g.here);
        rest = subst IsAtRest (sym left_is) goes;
        stands = stands;
        end_is = ap end_of left_is;
        whole = whole_now end' c' after (frames_of (left - 1) u (frame_of u g.here)) left_is stands done follow;
        held = held_now end' c' after (frames_of (left - 1) u (frame_of u g.here)) left_is stands done follow;
        last = last_now end' c' after (frames_of (left - 1) u (frame_of u g.here)) left_is stands done follow;
      }

  pub going_ends : (end' : FrameEnd) (c' : Parts) (after : Option Held) → (frame_of u g.here).phase ≡ Left end' → ConsoleStands u (frame_of u g.here) c'
      → after ≡ all_done (frame_outputs names u (frame_of u g.here)) now → goes_on end' ≡ false → Finished names u first count end' c' before after
  going_ends end' c' after left_is stands done goes =
      let follow = chosen (goes_on end') false (frames_of (left - 1) u (frame_of u g.here)) goes in
      let last = last_now end' c' after [] left_is stands done follow in
      let whole = whole_now end' c' after [] left_is stands done follow in record {
        stands = subst (λ (m : Moment). ConsoleStands u m c') (sym last) stands;
        end_is = ap (λ (m : Moment). end_of m.phase) last ∙ ap end_of left_is;
        held = held_now end' c' after [] left_is stands done follow ∙ ap (λ es. all_done es before) (sym (whole ∙ append-nil (g.effects ++ frame_outputs names u (frame_of u g.here))));
      }

-- none is left
pub going_done : (names : Names) (u : Setup) (first : Moment) (count left : ℕ) (end : FrameEnd) (c : Parts) (before now : Option Held)
    → left ≡ 0 → Going names u first count left end c before now → Finished names u first count end c before now
going_done names u first count left end c before now none g =
    let nothing : frames_of left u g.here ≡ [] = ap (λ n. frames_of n u g.here) none ∙ frames_none u g.here in
    let last : last_after first (frames_of count u first) ≡ g.here = g.last ∙ ap (last_after g.here) nothing in
    let whole : outputs names u (frames_of count u first) ≡ g.effects = g.whole ∙ ap (λ l. g.effects ++ outputs names u l) nothing ∙ append-nil g.effects in record {
      stands = subst (λ (m : Moment). ConsoleStands u m c) (sym last) g.stands;
      end_is = ap (λ (m : Moment). end_of m.phase) last ∙ g.end_is;
      held = g.held ∙ ap (λ es. all_done es before) (sym whole);
    }

pub last_is : (u : Setup) (count : ℕ) → last_after (opening_moment u) (frames_of count u (opening_moment u)) ≡ last_moment u count
unfolding last_moment
last_is u count = refl
