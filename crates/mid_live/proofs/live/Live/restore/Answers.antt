use Rattle.std.proofs.Common.{rules, ◌≡◌, length, replicate, refl, ap, sym, ◌∙◌}
use Rattle.mid_live.specs.inner.Words.{held_in, spread}
use Rattle.mid_live.proofs.Written.{restored}
use Rattle.mid_live.proofs.live.Live.restore.Goals as goal

pub returns : goal.returns
returns c =
    let ws = c.self.inside.words.items in
    let first = c.was.inside.first in
    let es = held_in first c.was.inside.others.items in
    let e : c.as_slice-others.result.now ≡ c.was.inside.others.items = search rules in
    let v : ws ≡ c.args.self.now = c.self.view_is in
    let k : spread (replicate c.was.inside.len 0) es ≡ c.args.was.now = c.was.view_is in
    restored (length ws) c.was.inside.len ws c.restore_words.new.words.items es (ap length v ∙ c.requires.len ∙ ap length (sym k)) refl (c.restore_words.ensures.is ∙ ap (λ z. spread (replicate (length ws) 0) (held_in first z)) e) ∙ k
