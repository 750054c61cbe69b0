-- The run of a cartridge that was built is what its source means: from the law of played runs.
use Rattle.std.proofs.Common.{ℕ, ◌≡◌, ◌∙◌, inl, inr, Bool, true, false, cond, List, eqb, refl, sym, ap, subst, true≢false}
use Rattle.std.specs.Prelude.{Option, Some, None, Result, Ok, Err, length}
use Rattle.std.proofs.lemmas.Bool.{eqb-true}
use Rattle.kit_base.specs.Held.{Held}
use Rattle.kit_base.specs.declared.failure.Failure.TheVariants as failures
use Rattle.asset_pack.specs.Words.{words_of}
use Rattle.asset_pack.proofs.Chunks.{length-words}
use Rattle.v32_isa.specs.Runs as machine
use Rattle.obj_mem.specs.Runs.{Ending, Halted, Fault, Starved, Stray, Deep, OutOfBound, Run, IsCard}
use Rattle.cart_format.specs.Cartridge.{Cartridge}
use Rattle.cart_format.specs.Reading.{cart_of}
use Rattle.run_files.specs.Script.{Script}
use Rattle.v32_console.specs.declared.frame_end.FrameEnd.TheVariants as ends
use Rattle.v32_console.specs.Setup.{Setup, setup_of}
use Rattle.v32_console.specs.Moments.{Moment, Phase, Opened, Running, Left, console_at, goes_on}
use Rattle.v32_console.specs.Machine.{end_of as machine_end}
use Rattle.v32_console.proofs.Frames.{runs_are_of_instructions}
use Rattle.run_core.specs.Outputs.{end_of, last_moment}
use Rattle.run_core.proofs.Going.{last_is}
use Rattle.c_image.specs.Imaging.{frame_sizes}
use Rattle.build_core.specs.declared.building.Built.{Built}
use Rattle.build_core.specs.Build.{IsBuilt}
use Rattle.play_laws.specs.Played.{RefinesBy, PlayedRunsAreTheSources, PlayedRunsComeToAll, meant_at, played}
use Rattle.kit_words.specs.Command.{RunWords}
use Rattle.kit_tools.specs.declared.refusal.DueRefusal.TheVariants as dues
use Rattle.kit_tools.specs.Refusal.{Refusal}
use Rattle.kit_tools.specs.declared.refusal.RefusalCause.TheVariants as refusals
use Rattle.kit_tools.specs.Inputs.{◌>>=◌, bytes_due, card_due, card_in}
use Rattle.kit_tools.specs.Running.{Settings, count_up_to, pads_due, settings_up_to}
use Rattle.kit_core.specs.Meaning.{HasMadeAllBy, RunIsMeant}

record Bound {A B : Type 0} (r : Result A Refusal) (f : A → Result B Refusal) (y : B) : Type 0 where
  value : A
  first : r ≡ Ok value
  rest : f value ≡ Ok y

bind_ok : {A B : Type 0} (r : Result A Refusal) (f : A → Result B Refusal) (y : B) → (r >>= f) ≡ Ok y → Bound r f y
bind_ok (Ok x) f y h = record { value = x; first = refl; rest = h }
bind_ok (Err e) f y h = absurd cc

ok_is : {A : Type 0} {x y : A} → (let r : Result A Refusal = Ok x in r ≡ Ok y) → x ≡ y
ok_is h = cc

-- a card that was read has the words of a card
card_long : (name bytes words : List ℕ) (b : Bool) → eqb (length bytes) 1048576 ≡ b
    → (let r : Result (List ℕ) Refusal = cond b (Ok (words_of bytes)) (Err (failures.Cause (refusals.Due (dues.Bad 110 name None)))) in r ≡ Ok words) → length words ≡ 0x40000
card_long name bytes words true e h = ap length (sym (ok_is h)) ∙ length-words 0x40000 bytes (eqb-true (length bytes) 1048576 e)
card_long name bytes words false e h = absurd cc

card_read : (name : Option (List ℕ)) (held : Held) (card : Option (List ℕ)) → card_due name held ≡ Ok card → IsCard card
card_read None held card e = subst IsCard (ok_is e) tt
card_read (Some name) held card e =
    let b = bind_ok (bytes_due name held) (λ (bytes : List ℕ). card_in name bytes >>= λ (words : List ℕ). Ok (Some words)) card e in
    let d = bind_ok (card_in name b.value) (λ (words : List ℕ). Ok (Some words)) card b.rest in
    subst IsCard (ok_is d.rest) (card_long name b.value d.value (eqb (length b.value) 1048576) refl d.first)

pub settings_card : (greatest : ℕ) (pads : List ℕ) (name : Option (List ℕ)) (word : List ℕ) (held : Held) (settings : Settings)
    → settings_up_to greatest pads name word held ≡ Ok settings → IsCard settings.card
settings_card greatest pads name word held settings e =
    let a = bind_ok (pads_due pads held) (λ (script : Script). card_due name held >>= λ (card : Option (List ℕ)). count_up_to greatest word >>= λ (count : ℕ). Ok (record { script = script; card = card; count = count })) settings e in
    let b = bind_ok (card_due name held) (λ (card : Option (List ℕ)). count_up_to greatest word >>= λ (count : ℕ). Ok (record { script = a.value; card = card; count = count })) settings a.rest in
    let d = bind_ok (count_up_to greatest word) (λ (count : ℕ). Ok (record { script = a.value; card = b.value; count = count })) settings b.rest in
    let same : b.value ≡ settings.card = ap (λ (s : Settings). s.card) (ok_is d.rest) in
    subst IsCard same (card_read name held b.value b.first)

-- ---- where a run ends

-- a run that has ended is not going
not_going : (phase : Phase) → goes_on (end_of phase) ≡ false → machine_end phase ≡ machine.Going → ⊥
not_going Opened over going = true≢false over
not_going (Running done) over going = true≢false over
not_going (Left ends.Full) over going = true≢false over
not_going (Left ends.Waited) over going = true≢false over
not_going (Left ends.Halted) over going = cc
not_going (Left (ends.Fault number address)) over going = cc
not_going (Left (ends.Undecodable address)) over going = cc

-- and so has made all that is meant
made_all : (end : Ending) (meant : Run) (so_far : machine.Run) → (so_far.end ≡ machine.Going → ⊥) → RefinesBy end meant so_far → HasMadeAllBy end meant so_far
made_all Halted meant so_far over (inl h) = absurd (over h.going)
made_all Halted meant so_far over (inr h) = h
made_all (Fault number) meant so_far over (inl h) = absurd (over h.going)
made_all (Fault number) meant so_far over (inr h) = h
made_all Starved meant so_far over h = over h.going
made_all OutOfBound meant so_far over h = over h.going
made_all Stray meant so_far over (inl h) = absurd (over h.going)
made_all Stray meant so_far over (inr h) = h
made_all Deep meant so_far over (inl h) = absurd (over h.going)
made_all Deep meant so_far over (inr h) = h

played_end : (u : Setup) (k : ℕ) → (played u k).end ≡ machine_end (console_at u k).phase
played_end u k = refl

-- ---- the run of a cartridge that was built

module _ (does : PlayedRunsAreTheSources) (comes : PlayedRunsComeToAll) where
  pub run_meant : (held : Held) (text : List ℕ) (b : Built) (built : IsBuilt held text b) (cart : Cartridge) → cart_of b.cart ≡ Ok cart
      → (pads : Script) (card : Option (List ℕ)) → IsCard card → (count : ℕ) → RunIsMeant held text b built (setup_of cart pads card) count
  run_meant held text b built cart is pads card whole_card count =
      let u : Setup = setup_of cart pads card in
      let run = runs_are_of_instructions u count in
      let there : console_at u run.k ≡ last_moment u count = run.there ∙ last_is u count in
      record {
        does = λ k bound le. does held text b built cart is pads card whole_card k bound le;
        comes = λ k bound. comes held text b built cart is pads card whole_card k bound;
        k = run.k;
        k_is = there;
        whole = λ over bound le.
            let going_not = not_going (console_at u run.k).phase (ap (λ (m : Moment). goes_on (end_of m.phase)) there ∙ over) in
            made_all (meant_at built.of.program (frame_sizes built.of.image.map) bound u run.k).end (meant_at built.of.program (frame_sizes built.of.image.map) bound u run.k) (played u run.k)
            (λ going. going_not (sym (played_end u run.k) ∙ going)) (does held text b built cart is pads card whole_card run.k bound le);
      }
