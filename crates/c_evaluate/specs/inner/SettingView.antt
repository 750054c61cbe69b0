-- The setting that one in memory stands for.
use Rattle.c_check.specs.View.{program}
use Rattle.c_meaning.specs.Setting as meaning
use Rattle.c_meaning.specs.Setting.{setting}
use Rattle.c_evaluate.specs.declared.setting.Setting.{Setting}

abbrev pub setting_of : Setting → meaning.Setting
setting_of s = setting (program s.checked.now) s.frames.now
