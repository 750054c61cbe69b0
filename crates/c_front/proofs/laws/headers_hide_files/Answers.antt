use Rattle.c_front.proofs.Laying.{over_header, over_other}
use Rattle.c_front.proofs.laws.headers_hide_files.Goals as goal

pub returns : goal.returns
returns c = record { header = over_header; other = over_other }
