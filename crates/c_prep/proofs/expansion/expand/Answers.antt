use Rattle.std.proofs.Common.{◌≡◌, List, length, true, sym, ap, ◌∙◌, subst, rules}
use Rattle.std.specs.Prelude.{Result, Ok, Vec}
use Rattle.std.specs.declared.alloc.Global.{Global}
use Rattle.std.specs.List.{list_all}
use Rattle.std.specs.Str.{is_utf8}
use Rattle.c_lex.specs.declared.token.Token.{Token}
use Rattle.c_prep.specs.Files.{Expansion, Stop}
use Rattle.c_prep.specs.Numbers.{AreBelow, HaveLines}
use Rattle.c_prep.proofs.Numbering.{no_names, placed_below, placed_lines}
use Rattle.c_prep.proofs.Whole.{where_told, begins, done, stopped}
use Rattle.c_prep.proofs.Reaching.{source_reached}
use Rattle.c_prep.proofs.expansion.expand.Goals as goal

pub returns-in-Ok-clause-told : goal.returns-in-Ok-clause-told
returns-in-Ok-clause-told g c = where_told (g.F.Reads.held c.args.files.now) _ (λ m e.
    let made : List Token → Result Expansion Stop = λ ts. Ok (record { tokens = ts; names = c.expand_file.new.names.items }) in
    done m c.args.name.now _ (begins c.new.result c.new-2.result c.args.names.now.items c.new.ensures c.new-2.ensures c.requires.empty) (record { work = c.expand_file.new.work; names = c.expand_file.new.names.items }) (c.in-Ok.ensures.told m e)
    ∙ ap made (sym c.into_tokens.ensures.tokens))

pub returns-in-Err-clause-told : goal.returns-in-Err-clause-told
returns-in-Err-clause-told g c = where_told (g.F.Reads.held c.args.files.now) _ (λ m e.
    stopped m c.args.name.now _ (begins c.new.result c.new-2.result c.args.names.now.items c.new.ensures c.new-2.ensures c.requires.empty) (record { work = c.expand_file.new.work; names = c.expand_file.new.names.items }) c.expand_file.new.names.items c.in-Err.x (c.in-Err.ensures.told m e))

pub expand_file-requires : goal.expand_file-requires
expand_file-requires g c =
    let none : list_all is_utf8 c.args.names.now.items ≡ true = no_names c.args.names.now.items c.requires.empty in
    search rules

pub returns-in-Ok-clause-numbers : goal.returns-in-Ok-clause-numbers
returns-in-Ok-clause-numbers g c = subst (AreBelow (length c.expand_file.new.names.items)) (sym c.into_tokens.ensures.tokens) (placed_below _ _ c.in-Ok.ensures.numbers)

pub returns-in-Ok-clause-lines : goal.returns-in-Ok-clause-lines
returns-in-Ok-clause-lines g c = subst HaveLines (sym c.into_tokens.ensures.tokens) (placed_lines (length c.expand_file.new.names.items) _ c.in-Ok.ensures.numbers)

pub returns-in-Err-clause-reached : goal.returns-in-Err-clause-reached
returns-in-Err-clause-reached g c = where_told (g.F.Reads.held c.args.files.now) _ (λ m e.
    source_reached m c.args.name.now _ (begins c.new.result c.new-2.result c.args.names.now.items c.new.ensures c.new-2.ensures c.requires.empty) (Vec Token Global) c.in-Err.x c.expand_file.new.names.items (c.in-Err.ensures.reached m e))
