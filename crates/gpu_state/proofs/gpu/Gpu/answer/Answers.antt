use Rattle.std.proofs.Common.{◌≡◌, ◌∙◌, rules}
use Rattle.gpu_state.proofs.Answered.{answer_same}
use Rattle.gpu_state.proofs.gpu.Gpu.answer.Goals as goal

pub returns : goal.returns
returns c = record {
  answer = λ textures past h.
      let left : c.self.inside.left ≡ c.args.self.now.left = search rules in
      let settings : c.self.inside.settings ≡ c.args.self.now.settings = search rules in
      c.port_answer.ensures.answer ∙ rw (left, settings, c.number.ensures.value)
      (answer_same textures past c.args.self.now c.selected_region.result c.args.port h c.selected_region.ensures.region);
}
