-- The labels of the loops around a statement, the innermost first.
use Rattle.std.specs.Prelude.{List, [], ◌∷◌}
use Rattle.job_compiler.specs.declared.labels.Label.{Label}
use Rattle.job_compiler.specs.declared.labels.Labels.{Labels}
use Rattle.job_compiler.specs.declared.labels.Labels.TheVariants.{Outside, Inside'}

abbrev pub labels_of : Labels → List Label
labels_of Outside = []
labels_of (Inside' l p around) = l ∷ labels_of around
