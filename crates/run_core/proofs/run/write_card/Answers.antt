use Rattle.std.proofs.Common.{rules, ◌≡◌}
use Rattle.std.specs.Prelude.{Some}
use Rattle.cpu_core.specs.Machine.{IsCard}
use Rattle.run_core.specs.Writing.{names_of}
use Rattle.run_core.proofs.Wholes.{writes_card}
use Rattle.run_core.proofs.run.write_card.Goals as goal

pub returns-in-Some-card-clause-written : goal.returns-in-Some-card-clause-written
returns-in-Some-card-clause-written g c = λ u m stands.
    let names = names_of c.args.names.now in
    let named : names.card ≡ Some c.in-Some.name.now = search rules in
    let card : IsCard m.state c.in-Some-card.words.now = c.in-Some-card.ensures.words u m stands in
    writes_card names names.card c.in-Some.name.now m.state c.in-Some-card.words.now c.write_words.result _ _ named card (c.write_words.ensures.written names named)
