-- The played run of a build is that of its source.
use Rattle.std.proofs.Common.{ℕ, ◌≡◌, ◌≤◌, List, sym, subst, ◌∙◌}
use Rattle.std.specs.Prelude.{Option, Ok}
use Rattle.kit_base.specs.Held.{Held}
use Rattle.obj_mem.specs.Runs.{IsCard}
use Rattle.c_meaning.specs.Runs.{c_runs}
use Rattle.c_image.specs.Imaging.{frame_sizes, global_addresses}
use Rattle.cart_format.specs.Cartridge.{Cartridge}
use Rattle.cart_format.specs.Reading.{cart_of}
use Rattle.run_files.specs.Script.{Script}
use Rattle.v32_console.specs.Setup.{setup_of}
use Rattle.v32_console.specs.History.{operations_at}
use Rattle.build_core.specs.declared.building.Built.{Built}
use Rattle.build_core.specs.Due.{assets}
use Rattle.build_core.specs.Build.{IsBuilt, cartridge_of}
use Rattle.build_core.proofs.ReadBack.{read_back}
use Rattle.play_laws.specs.Played.{ComesToAll, Refines, PlayedRunsAreTheSources, PlayedRunsComeToAll, meant_at, played}
use Rattle.play_laws.proofs.Arriving.{comes_to_all}
use Rattle.play_laws.proofs.Playing.{plays}

module _ (m : Held) (project : List ℕ) (b : Built) (built : IsBuilt m project b) where
  abbrev whole : Cartridge
  whole = cartridge_of built.of.parts.title built.of.image (assets built.textures built.sounds)

  is_whole : (cart : Cartridge) → cart_of b.cart ≡ Ok cart → whole ≡ cart
  is_whole cart read = let same : Ok whole ≡ Ok cart = sym (read_back m project b built) ∙ read in cc

  abbrev Plays : Cartridge → Script → Option (List ℕ) → (k bound : ℕ) → Type 0
  Plays cart pads card k bound = (operations_at (setup_of cart pads card) k).instructions ≤ bound
      → Refines (meant_at built.of.program (frame_sizes built.of.image.map) bound (setup_of cart pads card) k) (played (setup_of cart pads card) k)

  whole_plays : (pads : Script) (card : Option (List ℕ)) → IsCard card → (k bound : ℕ) → Plays whole pads card k bound
  whole_plays pads card is k bound =
      plays 64 (global_addresses built.of.image.map) (c_runs built.of.program (frame_sizes built.of.image.map)) (setup_of whole pads card)
      built.of.image_is.does.agrees is k bound

  pub plays_so : (cart : Cartridge) → cart_of b.cart ≡ Ok cart → (pads : Script) (card : Option (List ℕ)) → IsCard card → (k bound : ℕ) → Plays cart pads card k bound
  plays_so cart read pads card is k bound = subst (λ (c : Cartridge). Plays c pads card k bound) (is_whole cart read) (whole_plays pads card is k bound)

  abbrev Arrives : Cartridge → Script → Option (List ℕ) → (k bound : ℕ) → Type 0
  Arrives cart pads card k bound =
      ComesToAll (meant_at built.of.program (frame_sizes built.of.image.map) bound (setup_of cart pads card) k) (played (setup_of cart pads card))

  whole_arrives : (pads : Script) (card : Option (List ℕ)) → IsCard card → (k bound : ℕ) → Arrives whole pads card k bound
  whole_arrives pads card is k bound =
      comes_to_all 64 (global_addresses built.of.image.map) (c_runs built.of.program (frame_sizes built.of.image.map)) (setup_of whole pads card)
      built.of.image_is.does.agrees is k bound

  pub arrives_so : (cart : Cartridge) → cart_of b.cart ≡ Ok cart → (pads : Script) (card : Option (List ℕ)) → IsCard card → (k bound : ℕ) → Arrives cart pads card k bound
  arrives_so cart read pads card is k bound = subst (λ (c : Cartridge). Arrives c pads card k bound) (is_whole cart read) (whole_arrives pads card is k bound)

pub played_runs : PlayedRunsAreTheSources
played_runs m project b built cart read pads card is k bound le = plays_so m project b built cart read pads card is k bound le

pub played_whole : PlayedRunsComeToAll
played_whole m project b built cart read pads card is k bound = arrives_so m project b built cart read pads card is k bound
