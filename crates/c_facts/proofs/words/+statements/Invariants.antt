use Rattle.std.proofs.Common.{map, drop}
use Rattle.c_types.specs.View.{tstmt, tstmts, tarm, tarms}
use Rattle.c_facts.specs.Words.{StatementsInWords, ArmsInWords}
use Rattle.c_facts.proofs.words.+statements.Given as goal

abbrev pub invariant-arms-loop-a : goal.invariant-arms-loop-a
invariant-arms-loop-a l = ArmsInWords (tarms (map tarm (drop l.a-index l.all))) → ArmsInWords (tarms (map tarm l.all))

abbrev pub invariant-statements-loop-s : goal.invariant-statements-loop-s
invariant-statements-loop-s l = StatementsInWords (tstmts (map tstmt (drop l.s-index l.body))) → StatementsInWords (tstmts (map tstmt l.body))
