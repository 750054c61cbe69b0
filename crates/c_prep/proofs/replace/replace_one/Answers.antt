use Rattle.std.proofs.Common.{◌≡◌, List, [], ◌∷◌, ◌++◌, sym, ◌∙◌, ap, refl, arith}
use Rattle.std.proofs.lemmas.Result.{err_from_is_err_and}
use Rattle.std.proofs.lemmas.List.{map_push}
use Rattle.c_prep.specs.declared.replace.Frame.{Frame}
use Rattle.c_prep.specs.Macros.{replaced_at}
use Rattle.c_prep.specs.inner.Frames.{unwound, unwound_after, at_place, names}
use Rattle.c_prep.proofs.Unwinding.{refused, no_frames, next_of_top, top_done, unwound_none}
use Rattle.c_prep.proofs.replace.replace_one.Goals as goal

pub returns-in_err-place : goal.returns-in_err-place
returns-in_err-place c =
    let p = err_from_is_err_and c.from_residual.result c.from_residual.ensures.1 in
    let first : replaced_at c.args.macros.now c.args.token.now c.args.out.now ≡ unwound_after c.args.macros.now c.args.token.now c.new-frames.result.items (at_place c.args.macros.now c.args.token.now (names c.new-frames.result.items) c.args.token.now.kind c.args.out.now) = rw c.new-frames.ensures.items (no_frames c.args.macros.now c.args.token.now (replaced_at c.args.macros.now c.args.token.now c.args.out.now)) in
    rw (p.1, p.2) (refused _ _ c.in_err-place.field-0.0 first c.in_err-place.ensures.goes)

pub each-init : goal.each-init
each-init c =
    let first : replaced_at c.args.macros.now c.args.token.now c.args.out.now ≡ unwound_after c.args.macros.now c.args.token.now c.new-frames.result.items (at_place c.args.macros.now c.args.token.now (names c.new-frames.result.items) c.args.token.now.kind c.args.out.now) = rw c.new-frames.ensures.items (no_frames c.args.macros.now c.args.token.now (replaced_at c.args.macros.now c.args.token.now c.args.out.now)) in
    record { goes = first ∙ c.in_ok-place.ensures.goes; counts = c.in_ok-place.ensures.counts; inside = c.in_ok-place.ensures.inside }

pub each-preserved-in-Continue-branch-3 : goal.each-preserved-in-Continue-branch-3
each-preserved-in-Continue-branch-3 c =
    let g : Frame = record { name = c.in-Some.frame.name; rest = c.in-Some-split_first.after } in
    let popped : c.each.frames.items ≡ c.pop.new.self.items ++ c.in-Some.frame ∷ [] = c.in-Some.ensures.items in
    let step = next_of_top c.args.macros.now c.args.token.now c.pop.new.self.items c.in-Some.frame g c.in-Some-split_first.next.now c.each.out c.in-Some-split_first.ensures.cases.0 refl in
    record {
      goes = c.each.invariant.goes ∙ ap (λ (fs : List Frame). unwound c.args.macros.now c.args.token.now [] fs c.each.out) popped ∙ step ∙ ap (λ (fs : List Frame). unwound_after c.args.macros.now c.args.token.now fs (at_place c.args.macros.now c.args.token.now (names fs) c.in-Some-split_first.next.now c.each.out)) (sym c.in_ok-push.ensures.items) ∙ c.in_ok-place-2.ensures.goes;
      counts = c.in_ok-place-2.ensures.counts;
      inside = c.in_ok-place-2.ensures.inside;
    }

pub returns-in_err-place-2 : goal.returns-in_err-place-2
returns-in_err-place-2 c =
    let p = err_from_is_err_and c.from_residual-in_err-place-2.result c.from_residual-in_err-place-2.ensures.1 in
    let g : Frame = record { name = c.in-Some.frame.name; rest = c.in-Some-split_first.after } in
    let popped : c.each.frames.items ≡ c.pop.new.self.items ++ c.in-Some.frame ∷ [] = c.in-Some.ensures.items in
    let step = next_of_top c.args.macros.now c.args.token.now c.pop.new.self.items c.in-Some.frame g c.in-Some-split_first.next.now c.each.out c.in-Some-split_first.ensures.cases.0 refl in
    rw (p.1, p.2) (refused _ _ c.in_err-place-2.field-0.0
    (c.each.invariant.goes ∙ ap (λ (fs : List Frame). unwound c.args.macros.now c.args.token.now [] fs c.each.out) popped ∙ step ∙ ap (λ (fs : List Frame). unwound_after c.args.macros.now c.args.token.now fs (at_place c.args.macros.now c.args.token.now (names fs) c.in-Some-split_first.next.now c.each.out)) (sym c.in_ok-push.ensures.items))
    c.in_err-place-2.ensures.goes)

pub each-preserved : goal.each-preserved
each-preserved c =
    let popped : c.each.frames.items ≡ c.pop.new.self.items ++ c.in-Some.frame ∷ [] = c.in-Some.ensures.items in
    record {
      goes = c.each.invariant.goes ∙ ap (λ (fs : List Frame). unwound c.args.macros.now c.args.token.now [] fs c.each.out) popped ∙ top_done c.args.macros.now c.args.token.now c.pop.new.self.items c.in-Some.frame c.each.out c.in_default-split_first.ensures.cases;
      counts = omega arith;
      inside = c.leave.ensures (names c.pop.new.self.items) c.in-Some.frame.name.now (c.each.invariant.inside ∙ ap names popped ∙ map_push (λ f. f.name.now) c.pop.new.self.items c.in-Some.frame);
    }

pub returns : goal.returns
returns c = c.each.invariant.goes ∙ unwound_none c.args.macros.now c.args.token.now c.each.frames.items c.each.out (omega (arith, c.in_default.ensures.cases.0))
