use Rattle.std.proofs.Common.{rules, ◌≡◌, ◌∙◌, ◌++◌, true, map, sym, ap}
use Rattle.mid_code.specs.Functions.{node}
use Rattle.mid_replace.specs.inner.Facts.{fact_at}
use Rattle.mid_replace.specs.inner.Replaced.{turn_of, may_be_made, some_node, noted_maybe}
use Rattle.mid_replace.specs.inner.Tables.{plan_in}
use Rattle.mid_replace.proofs.Walking.{op_done}
use Rattle.mid_replace.proofs.walk.replace_op.Goals as goal

pub returns : goal.returns
returns c =
    let X = plan_in c.args.table.now in
    let out = map node c.args.out.now.items in
    let ns = c.args.notes.now.items in
    let o = c.args.o.now in
    let u = turn_of X (fact_at X.base ns) o in
    let one : c.as_slice.result.now ≡ ns = search rules in
    let two : c.as_slice-2.result.now ≡ ns = search rules in
    let three : c.as_slice-3.result.now ≡ ns = search rules in
    let fine : u.fine ≡ true = ap (λ l. (turn_of X (fact_at X.base l) o).fine) (sym one) ∙ sym c.fine.ensures ∙ c.if-not-fine.false in
    let made : c.made-made.result ≡ u.made = c.made-made.ensures ∙ ap (λ l. (turn_of X (fact_at X.base l) o).made) two in
    let may : may_be_made X u.made ≡ true = ap (may_be_made X) (sym made) ∙ sym c.may_be_made.ensures ∙ c.if-not-may_be_made.false in
    let stands : c.in_ok-stands.stands ≡ u.stands = c.in_ok-stands.ensures ∙ ap (λ l. (turn_of X (fact_at X.base l) o).stands) three in
    let pushed : map node c.push_op.new.out.items ≡ out ++ some_node c.in_ok-stands.stands = search rules in
    let noted : c.note_maybe.new.notes.items ≡ noted_maybe c.made-made.result ns = search rules in
    op_done X out ns o (map node c.push_op.new.out.items) c.note_maybe.new.notes.items fine may (pushed ∙ ap (λ s. out ++ some_node s) stands) (noted ∙ ap (λ m. noted_maybe m ns) made)
