-- How many operators an expression has.
use Rattle.std.proofs.Common.{ℕ, ◌+◌}
use Rattle.source_language.specs.declared.syntax.Expr.{Expr}
use Rattle.source_language.specs.declared.syntax.Expr.TheVariants.{Number, Variable, Slot, Width, Two'}

abbrev pub nodes : Expr → ℕ
nodes (Number z) = 0
nodes (Variable x) = 0
nodes Slot = 0
nodes Width = 0
nodes (Two' op p a q b) = nodes a + nodes b + 1
