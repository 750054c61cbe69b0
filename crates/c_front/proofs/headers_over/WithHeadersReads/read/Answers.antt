use Rattle.std.proofs.Common.{sym, ap, ◌∙◌}
use Rattle.std.specs.Prelude.{Some}
use Rattle.c_front.proofs.Laying.{text_fits, header_told, other_told}
use Rattle.c_front.proofs.headers_over.WithHeadersReads.read.Goals as goal

pub returns-in-Ok-clause-told : goal.returns-in-Ok-clause-told
returns-in-Ok-clause-told g c = header_told (g.F.Reads.held c.args.self.now.files.now) c.args.name.now c.in-Ok.copy (sym c.in-Some.ensures.some ∙ ap Some (sym c.as_bytes.ensures.value ∙ sym c.in-Ok.ensures.items))

pub returns-in-Ok-clause-limit : goal.returns-in-Ok-clause-limit
returns-in-Ok-clause-limit g c = text_fits c.args.name.now c.in-Ok.copy.items (sym c.in-Some.ensures.some ∙ ap Some (sym c.as_bytes.ensures.value ∙ sym c.in-Ok.ensures.items))

pub returns-in-None-clause-told : goal.returns-in-None-clause-told
returns-in-None-clause-told g c = other_told (g.F.Reads.held c.args.self.now.files.now) c.args.name.now c.read.result (sym c.in-None.ensures.some) c.read.ensures.told
