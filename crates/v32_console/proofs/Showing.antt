-- The screen, the samples and the memory card as lists.
use Rattle.std.proofs.Common.{ℕ, ◌+◌, ◌<◌, ◌≡◌, List, length, Option, Some, None, refl, sym, ap, ◌∙◌, arith}
use Rattle.std.specs.Prelude.{slice_index}
use Rattle.std.specs.Option.{ForSome}
use Rattle.v32_isa.specs.State.{State}
use Rattle.cpu_core.specs.Machine.{HasCard}
use Rattle.gpu_state.specs.Commands.{done}
use Rattle.gpu_state.specs.Colours.{colour}
use Rattle.gpu_state.specs.Places.{place}
use Rattle.spu_mix.specs.Settings.{last_sample}
use Rattle.v32_console.specs.Setup.{Setup}
use Rattle.v32_console.specs.Moments.{Moment}
use Rattle.v32_console.specs.Frames.{screen_of, samples_of}
use Rattle.v32_console.proofs.Lists.{tabulated, rows_are}

same_row : (y : ℕ) → 0 + y ≡ y
same_row y = omega arith

pub screen_is : (u : Setup) (m : Moment) (xs : List ℕ) → length xs ≡ 230400
    → ((x y : ℕ) → x < 640 → y < 360 → slice_index xs (place x y) ≡ colour x y (done u.textures m.past)) → xs ≡ screen_of u m
unfolding screen_of
screen_is u m xs size all =
    rows_are 640 (λ x y. colour x y (done u.textures m.past)) 360 0 xs (size ∙ refl)
    (λ x y h k. all x y h k ∙ ap (λ r. colour x r (done u.textures m.past)) (sym (same_row y)))

pub samples_are : (u : Setup) (m : Moment) (xs : List ℕ) → length xs ≡ 735 → ((k : ℕ) → k < 735 → slice_index xs k ≡ last_sample u.sounds m.past k) → xs ≡ samples_of u m
unfolding samples_of
samples_are u m xs size all = tabulated 735 (last_sample u.sounds m.past) xs size all

pub card_sized : (s : State) (card : Option (List ℕ)) → HasCard s card → ForSome card (λ words. length words ≡ 0x40000)
card_sized s None h = λ words e. absurd cc
card_sized s (Some card) h = λ words e. let same : card ≡ words = cc in rw (← same) h.room
