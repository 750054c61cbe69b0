use Rattle.std.proofs.Common.{rules, ◌≡◌, List, subst, ℕ}
use Rattle.c_check.specs.View.{program}
use Rattle.mid_code.specs.declared.placed.Choice.{Choice}
use Rattle.mid_code.specs.Whole.{mid, placed}
use Rattle.reg_frames.specs.Placeable.{places_of}
use Rattle.reg_frames.specs.PlacedFrom.{IsPlacedFrom}
use Rattle.asm_emit.specs.EmittedFrom.{IsEmitted}
use Rattle.c_compile.specs.Compiling.{names_of}
use Rattle.c_compile.proofs.Emitting.{can_be_emitted, is_compiled}
use Rattle.c_compile.proofs.compiling.compile_lowered.Goals as goal

pub emit-requires : goal.emit-requires
emit-requires c =
    let p = program c.args.checked.now in
    let names : c.deref-2.result.now ≡ names_of p = search rules in
    let same : c.deref.result.now ≡ c.in_ok-choices.choices.items = search rules in
    let put = subst (λ (cs : List Choice). IsPlacedFrom (mid c.in_ok-mid.mid) (places_of cs) (placed c.in_ok-placed.placed)) same c.in_ok-placed.ensures.placed in
    record { can_be_emitted = can_be_emitted p (mid c.args.lowered) (mid c.in_ok-replaced.replaced) (mid c.in_ok-mid.mid) (places_of c.in_ok-choices.choices.items) (placed c.in_ok-placed.placed) c.requires.lowered c.in_ok-replaced.ensures.replaced c.in_ok-mid.ensures.settled put c.deref-2.result.now names c.programs_are_sound.ensures.sound c.programs_have_few_nodes.ensures.few }

pub returns : goal.returns
returns c =
    let p = program c.args.checked.now in
    let names : c.deref-2.result.now ≡ names_of p = search rules in
    let same : c.deref.result.now ≡ c.in_ok-choices.choices.items = search rules in
    let put = subst (λ (cs : List Choice). IsPlacedFrom (mid c.in_ok-mid.mid) (places_of cs) (placed c.in_ok-placed.placed)) same c.in_ok-placed.ensures.placed in
    let made = subst (λ (ns : List (List ℕ)). IsEmitted (placed c.in_ok-placed.placed) ns c.in_ok-items.items.items) names c.in_ok-items.ensures.emitted in
    record { compiled = is_compiled p (mid c.args.lowered) (mid c.in_ok-replaced.replaced) (mid c.in_ok-mid.mid) (places_of c.in_ok-choices.choices.items) (placed c.in_ok-placed.placed) c.requires.lowered c.in_ok-replaced.ensures.replaced c.in_ok-mid.ensures.settled put c.in_ok-items.items.items c.in_ok-choices.ensures.safe c.in_ok-choices.ensures.spares made c.passes_meet.ensures }
