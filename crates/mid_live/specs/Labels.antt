-- What is live at the beginnings and the ends of what encloses a point, of one temporary.
use Rattle.std.specs.Prelude.{ℕ, List, [], ◌∷◌}
use Rattle.mid_code.specs.Live.{Label, label}
use Rattle.mid_live.specs.Sets.{on}
use Rattle.mid_live.specs.declared.labels.Labels.{Labels, Labels-F, fold-Labels}
use Rattle.mid_live.specs.declared.labels.Labels.TheOpen as l

abbrev pub labels_layer : ℕ → Labels-F (List Label) → List Label
labels_layer x l.Outside = []
labels_layer x (l.Inside b e r) = label (on b.now x) (on e.now x) ∷ r.now

abbrev pub labels_of : ℕ → Labels → List Label
labels_of x = fold-Labels (List Label) (labels_layer x)
