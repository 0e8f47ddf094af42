use Rattle.std.proofs.Common.{◌≡◌, ◌≤◌, ◌+◌, ◌*◌, ◌^◌, Option, None, [], false, length, sym, subst, ap, arith}
use Rattle.std.specs.Prelude.{replicate}
use Rattle.std.proofs.lemmas.List.{length-replicate}
use Rattle.cancel_context.specs.Forest.{Forest, Binding}
use Rattle.cancel_context.specs.Below.{Links, IsLinked}
use Rattle.cancel_context.specs.Flags.{Flagged, AreFlags}
use Rattle.cancel_context.proofs.Chains.{IsForest-ordered}
use Rattle.cancel_context.proofs.Bound.{ordered-replicate}
use Rattle.cancel_context.proofs.Lists.{IsLinked-replicate}
use Rattle.cancel_context.proofs.Kept.{AreFlags-replicate}
use Rattle.cancel_context.proofs.contexts.Contexts.new.Goals as goal

pub returns-clause-forest : goal.returns-clause-forest
returns-clause-forest c = IsForest-ordered c.in_ok-new.field-0 (ordered-replicate c.in_ok-new.field-0 (256 + 5 * c.args.rows) c.in_ok-new.ensures)

pub invariant_of-result : goal.invariant_of-result
invariant_of-result c =
    let count = 256 + 5 * c.args.rows in
    let forest : Forest = c.in_ok-new.field-0 in
    let links : Links = c.in_ok-new-2.field-0 in
    let flagged : Flagged = c.in_ok-new-3.field-0 in
    let empty : forest ≡ replicate (256 + 5 * c.args.rows) None = c.in_ok-new.ensures in
    let few : length forest ≤ 2 ^ 16 = omega (arith, c.requires, ap length empty, length-replicate {A = Option Binding} (256 + 5 * c.args.rows) None) in
    let linked : IsLinked forest links =
    subst (λ (f : Forest). IsLinked f links) (sym empty)
    (subst (λ (l : Links). IsLinked (replicate (256 + 5 * c.args.rows) None) l) (sym c.in_ok-new-2.ensures) (IsLinked-replicate (256 + 5 * c.args.rows))) in
    let none : flagged ≡ record { flags = replicate (256 + 5 * c.args.rows) false; reached = [] } = c.in_ok-new-3.ensures in
    let flags : AreFlags forest flagged.flags =
    subst (λ (f : Forest). AreFlags f flagged.flags) (sym empty)
    (subst (λ (f : Flagged). AreFlags (replicate (256 + 5 * c.args.rows) None) f.flags) (sym none) (AreFlags-replicate (256 + 5 * c.args.rows))) in
    record { sound = record { few = few; ordered = ordered-replicate forest (256 + 5 * c.args.rows) empty }; linked = linked; flags = flags; settled = ap (λ (f : Flagged). f.reached) none }
