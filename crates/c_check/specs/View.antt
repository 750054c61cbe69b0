-- What programs, and what was read of a unit, stand for.
use Rattle.std.specs.Prelude.{map}
use Rattle.c_types.specs.View.{layout, tstmt, function}
use Rattle.c_exprs.specs.View.{names, bodies}
use Rattle.c_stmts.specs.View.{st}
use Rattle.c_check.specs.declared.program.Program.{Program}
use Rattle.c_check.specs.declared.reading.Reading.{Reading}
use Rattle.c_check.specs.Reading.{Un}
use Rattle.c_types.specs.Programs.{ProgramT}

abbrev pub program : Program → ProgramT
program p = record {
  layouts = map layout p.layouts;
  globals = p.globals;
  inits = map tstmt p.inits;
  literals = p.literals;
  functions = map function p.functions;
  main = p.main;
}

abbrev pub un : Reading → Un
un r = record {
  layouts = map layout r.globals.layouts.items;
  whole = r.globals.whole.items;
  records = r.records.items;
  enums = r.enums;
  names = names r.globals;
  globals = r.objects;
  inits = map tstmt r.inits.items;
  functions = map function r.functions.items;
  texts = r.state.texts;
  scopes = (st r.state).scopes;
  sizes = (st r.state).sizes;
  used = (st r.state).used;
  bodies = bodies r.globals;
}
