-- Each run is worked out.
use Rattle.std.proofs.Common.{refl}
use Rattle.work_laws.specs.Worked.{Takes, one_output, a_text, a_list, a_copy, a_switch, a_call}

pub output : Takes one_output 4
output = record { halts = λ answers card. refl; takes = λ answers card. refl }

pub text : Takes a_text 8
text = record { halts = λ answers card. refl; takes = λ answers card. refl }

pub list : Takes a_list 12
list = record { halts = λ answers card. refl; takes = λ answers card. refl }

pub copy : Takes a_copy 10
copy = record { halts = λ answers card. refl; takes = λ answers card. refl }

pub label : Takes a_switch 7
label = record { halts = λ answers card. refl; takes = λ answers card. refl }

pub call : Takes a_call 8
call = record { halts = λ answers card. refl; takes = λ answers card. refl }
