use Rattle.std.proofs.Common.{◌≡◌, map, sym, ◌∙◌, ap}
use Rattle.std.specs.Prelude.{Some, None, option_map}
use Rattle.std.proofs.lemmas.Result.{err_from_is_err_and}
use Rattle.c_prep.specs.Macros.{macro_of}
use Rattle.c_prep.specs.inner.Frames.{names, macro_in}
use Rattle.c_prep.proofs.Unwinding.{new_name, begins_macro, count_refused, put_plain}
use Rattle.c_prep.proofs.replace.place.Goals as goal

pub returns-in_err-count-in-Some-clause-goes : goal.returns-in_err-count-in-Some-clause-goes
returns-in_err-count-in-Some-clause-goes c =
    let p = err_from_is_err_and c.from_residual.result c.from_residual.ensures.1 in
    let seen : macro_of c.args.macros.now (names c.args.frames.now.items) c.args.kind.now ≡ Some (macro_in c.in-Some.frame) = ap (λ ns. macro_of c.args.macros.now ns c.args.kind.now) (sym c.requires.inside) ∙ sym c.macro_of.ensures ∙ ap (option_map macro_in) c.in-Some.is in
    rw (p.1, p.2) (count_refused c.args.macros.now c.args.at.now c.args.frames.now.items c.args.kind.now (macro_in c.in-Some.frame) c.args.out.now c.in_err-count-in-Some.field-0.0 seen c.in_err-count-in-Some.ensures)

pub returns-in_ok-push-in-Some-clause-goes : goal.returns-in_ok-push-in-Some-clause-goes
returns-in_ok-push-in-Some-clause-goes c =
    let seen : macro_of c.args.macros.now (names c.args.frames.now.items) c.args.kind.now ≡ Some (macro_in c.in-Some.frame) = ap (λ ns. macro_of c.args.macros.now ns c.args.kind.now) (sym c.requires.inside) ∙ sym c.macro_of.ensures ∙ ap (option_map macro_in) c.in-Some.is in
    rw c.in_ok-push-in-Some.ensures.items (begins_macro c.args.macros.now c.args.at.now c.args.frames.now.items c.in-Some.frame c.args.kind.now c.args.out.now c.count.new.self seen c.in_ok-count-in-Some.ensures c.requires.counts)

pub returns-in-None-clause-goes : goal.returns-in-None-clause-goes
returns-in-None-clause-goes c =
    let seen : macro_of c.args.macros.now (names c.args.frames.now.items) c.args.kind.now ≡ None = ap (λ ns. macro_of c.args.macros.now ns c.args.kind.now) (sym c.requires.inside) ∙ sym c.macro_of.ensures ∙ ap (option_map macro_in) c.in-None.is in
    put_plain c.args.macros.now c.args.at.now c.args.frames.now.items c.args.kind.now c.args.out.now c.emit.new.self c.emit.result seen c.emit.ensures

pub enter-requires : goal.enter-requires
enter-requires c = record { new = new_name c.args.macros.now (map (λ k. k.now) c.args.inside.now.keys) c.args.kind.now (macro_in c.in-Some.frame) (sym c.macro_of.ensures ∙ ap (option_map macro_in) c.in-Some.is) }

pub returns-in_err-enter-in-Some-clause-goes : goal.returns-in_err-enter-in-Some-clause-goes
returns-in_err-enter-in-Some-clause-goes c =
    let p = err_from_is_err_and c.from_residual-in_err-enter-in-Some.result c.from_residual-in_err-enter-in-Some.ensures.1 in
    rw (p.1, p.2, c.in_err-enter-in-Some.ensures.memory) tt
