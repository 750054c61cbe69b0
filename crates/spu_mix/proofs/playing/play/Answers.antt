use Rattle.std.proofs.Common.{◌≡◌, ℕ, ◌≤◌, ◌<◌, ◌+◌, ◌-◌, inl, inr, arith, refl, ◌∙◌, length}
use Rattle.std.specs.List.{between}
use Rattle.std.proofs.lemmas.List.Edits.{length-between}
use Rattle.spu_mix.specs.Sides.{left_at, right_at, raised_left, raised_right}
use Rattle.spu_mix.proofs.Positions.{position_none, position_outside}
use Rattle.spu_mix.proofs.Runs.{Ran, ran}
use Rattle.spu_mix.proofs.Sums.{sums_more}
use Rattle.spu_mix.proofs.playing.play.Goals as goal

pub runs-init : goal.runs-init
runs-init c =
    let s = c.requires.sound in
    record {
      done = omega arith;
      inside = λ h. h;
      at = λ h. position_none c.args.looping c.args.loop_start c.args.loop_end (length c.args.samples.now) c.args.from s.0 s.1 h;
      ended = λ h k _. position_outside c.args.looping c.args.loop_start c.args.loop_end (length c.args.samples.now) c.args.from k s.1 h;
      left = λ k h. absurd (omega arith);
      right = λ k h. absurd (omega arith);
      rest = λ k h. (refl, refl);
    }

pub runs-preserved : goal.runs-preserved
runs-preserved c =
    let v = c.runs.invariant in
    let s = c.requires.sound in
    let a = c.add_samples_at.ensures in
    let e = c.run_end-end.ensures in
    let n = c.after_run-position.ensures in
    let q : ℕ = c.runs.position in
    let run : ℕ = c.min-run.result in
    let h : q < length c.args.samples.now = omega arith in
    let short : run ≤ c.run_end-end.result - q = omega arith in
    let r : Ran c.args.looping c.args.loop_start c.args.loop_end (length c.args.samples.now) c.args.from c.runs.done q run c.after_run-position.result =
    ran c.args.looping c.args.loop_start c.args.loop_end (length c.args.samples.now) c.args.from c.runs.done q c.run_end-end.result run c.after_run-position.result
    s.0 s.1 (v.inside h) h (v.at h) short e.loops e.plain e.range.0 n.wraps n.goes_on in
    let len : length (between q (q + run) c.args.samples.now) ≡ run = omega (arith, length-between c.args.samples.now q (q + run) r.fits) in
    record {
      done = omega arith;
      inside = λ _. v.inside h;
      at = r.next;
      ended = r.ended;
      left = sums_more (left_at c.args.samples.now) raised_left _ c.args.samples.now c.args.left.now c.runs.left c.add_samples_at.new.left c.runs.done run q
          (λ p. refl) r.fits v.left (λ k h. (v.rest k h).0) a.left (λ k h. (a.rest k (inl h)).0) r.along;
      right = sums_more (right_at c.args.samples.now) raised_right _ c.args.samples.now c.args.right.now c.runs.right c.add_samples_at.new.right c.runs.done run q
          (λ p. refl) r.fits v.right (λ k h. (v.rest k h).1) a.right (λ k h. (a.rest k (inl h)).1) r.along;
      rest = λ k h.
          let p = a.rest k (inr (omega arith)) in
          let o = v.rest k (omega arith) in
          (p.0 ∙ o.0, p.1 ∙ o.1);
    }
