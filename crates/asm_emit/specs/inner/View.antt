-- What the emitter is handed, as the definitions see it.
use Rattle.std.specs.Prelude.{ℕ, Bool, List, [], ◌∷◌, map, get_or}
use Rattle.kit_base.specs.Word.{add}
use Rattle.mid_code.specs.declared.placed.Where.{Where}
use Rattle.mid_code.specs.Code.{FunctionT}
use Rattle.mid_code.specs.Placed.{SpotsT}
use Rattle.mid_code.specs.Functions.{function}
use Rattle.mid_code.specs.View.{spots}
use Rattle.mid_code.specs.States.{no_function}
use Rattle.asm_emit.specs.declared.scope.Scope.{Scope}
use Rattle.asm_emit.specs.declared.scope.Around.{Around}
use Rattle.asm_laws.specs.Live.{all_last}
use Rattle.asm_laws.specs.Operations.{Frame, Whole}

abbrev pub no_spots : SpotsT
no_spots = record { slots = []; locals = []; own = [] }

abbrev pub frame : Scope → Frame
frame s = record { slots = s.slots.now; locals = s.locals.now; size = s.size; depth = s.depth; registers = s.registers; lasting = s.lasting.now }

-- the frame of a function
abbrev pub frame_at : List SpotsT → (sizes registers : List ℕ) → (lasting : List (List Bool)) → ℕ → Frame
frame_at at sizes registers lasting g = record {
  slots = (get_or at g no_spots).slots;
  locals = (get_or at g no_spots).locals;
  size = get_or sizes g 0;
  depth = get_or sizes g 0;
  registers = get_or registers g 8;
  lasting = get_or lasting g all_last;
}

abbrev pub whole_of_parts : List (FunctionT Where) → List SpotsT → (sizes registers : List ℕ) → (lasting : List (List Bool)) → (names : List (List ℕ)) → (globals : List ℕ) → Whole
whole_of_parts functions at sizes registers lasting names globals = record {
  frames = frame_at at sizes registers lasting;
  params = λ g. (get_or functions g no_function).params;
  names = names;
  globals = globals;
}

abbrev pub whole : Around → Whole
whole a =
    whole_of_parts (map function a.functions.now) (map spots a.spots.now) a.sizes.now a.registers.now (map (λ v. v.items) a.lasting.now) a.names.now a.globals.now

-- the addresses of globals that stand one after another, where sums wrap
abbrev pub wrapped_addresses : ℕ → List ℕ → List ℕ
wrapped_addresses p [] = []
wrapped_addresses p (n ∷ ns) = p ∷ wrapped_addresses (add p n) ns
