-- A console that was opened stands for its beginning.
use Rattle.std.proofs.Common.{ℕ, ◌≡◌, ◌<◌, ◌≤◌, Bool, true, List, [], length, Option, Some, None, refl, sym, ap, subst, ◌∙◌}
use Rattle.std.specs.Prelude.{is_some}
use Rattle.std.specs.declared.vec.Vec.{Vec}
use Rattle.std.specs.declared.alloc.Global.{Global}
use Rattle.asset_pack.specs.Texts.{Image}
use Rattle.v32_isa.specs.Runs.{opening}
use Rattle.cpu_core.specs.Machine.{Machine, state_of}
use Rattle.cpu_core.specs.Space.{words_of}
use Rattle.cart_format.specs.Cartridge.{Cartridge, is_cart}
use Rattle.cart_format.proofs.Carts.{limits}
use Rattle.run_files.specs.Script.{Script}
use Rattle.gpu_state.specs.Stand.{Graphics, GraphicsStand}
use Rattle.spu_mix.specs.Stands.{SoundUnit, SoundStands}
use Rattle.port_bus.specs.Stand.{DevicesStand}
use Rattle.port_bus.specs.State.{Facts, State as Small}
use Rattle.v32_console.specs.Setup.{setup_of, facts_of}
use Rattle.v32_console.specs.Moments.{Moment, opening_moment}
use Rattle.v32_console.specs.Stands.{ConsoleStands, StandsAt}
use Rattle.v32_console.specs.Taking.{Taped}
use Rattle.v32_console.proofs.Frames.{after_none}

connected : (card : Option (Vec ℕ Global)) → is_some card ≡ is_some (words_of card)
connected None = refl
connected (Some words) = refl

pub facts_are : (cart : Cartridge) (pads : Script) (card : Option (Vec ℕ Global)) (words textures sounds : ℕ) (has : Bool) → words ≡ length cart.program → textures ≡ length cart.textures
    → sounds ≡ length cart.sounds → has ≡ is_some card → record { program = words; textures = textures; sounds = sounds; card = has } ≡ facts_of (setup_of cart pads (words_of card))
facts_are cart pads card words textures sounds has e f g h = rw (e, f, g, h, connected card) refl

pub opened : (cart : Cartridge) (pads : Script) (card : Option (Vec ℕ Global)) (program : List ℕ) (textures : List Image) (sounds : List (List ℕ)) (facts : Facts)
    (machine : Machine) (gpu : Graphics) (spu : SoundUnit) (devices : Small) (tape : Taped)
    → program ≡ cart.program → textures ≡ cart.textures → sounds ≡ cart.sounds → facts ≡ facts_of (setup_of cart pads (words_of card))
    → state_of machine ≡ opening program (words_of card) → GraphicsStand textures [] gpu → SoundStands sounds [] spu → DevicesStand pads facts [] devices
    → StandsAt (setup_of cart pads (words_of card)) 0 (record { machine = machine; board = record { gpu = gpu; spu = spu; devices = devices; cycles = 0; tape = tape } })
opened cart pads card program textures sounds facts machine gpu spu devices tape e f g h state graphics sound small =
    let u = setup_of cart pads (words_of card) in
    let stands : ConsoleStands u (opening_moment u) (record { machine = machine; board = record { gpu = gpu; spu = spu; devices = devices; cycles = 0; tape = tape } }) = record {
      state_is = state ∙ ap (λ p. opening p (words_of card)) e;
      board = record { graphics = subst (λ t. GraphicsStand t [] gpu) f graphics; sound = subst (λ t. SoundStands t [] spu) g sound; small = subst (λ t. DevicesStand pads t [] devices) h small };
    } in
    subst (λ (m : Moment). ConsoleStands u m (record { machine = machine; board = record { gpu = gpu; spu = spu; devices = devices; cycles = 0; tape = tape } })) (sym (after_none u (opening_moment u))) stands

pub program_sized : (cart : Cartridge) (program : List ℕ) → is_cart cart ≡ true → program ≡ cart.program → (0 < length program) × (length program ≤ 33554432)
program_sized cart program is e = let l = limits cart is in rw e (l.some, l.words)

pub few_words : (cart : Cartridge) → is_cart cart ≡ true → (length cart.program ≤ 33554432) × (length cart.textures ≤ 256) × (length cart.sounds ≤ 1024)
few_words cart is = let l = limits cart is in (l.words, l.textures, l.sounds)
