use Rattle.std.proofs.Common.{◌≡◌, ℕ, Some, None, map, true, sym, ap, ◌∙◌, subst}
use Rattle.std.specs.Prelude.{slice_set}
use Rattle.cancel_context.specs.Forest.{Forest, IsHeld, held_count, parent, is_cancelled, without_parent, without}
use Rattle.cancel_context.specs.Below.{Links, left, IsLinked}
use Rattle.cancel_context.specs.Flags.{AreFlags}
use Rattle.cancel_context.proofs.Chains.{parents-held, IsSound-is, is_cancelled-is, IsForest-ordered}
use Rattle.cancel_context.proofs.Released.{held_count-is, held_count-without, IsSound-without, is_cancelled-without}
use Rattle.cancel_context.proofs.Lists.{place-held, leave-before, leave-after, leave-apart, IsLinked-without}
use Rattle.cancel_context.proofs.Kept.{AreFlags-without}
use Rattle.cancel_context.proofs.contexts.Contexts.release.Goals as goal

pub leave-requires-clause-parent : goal.leave-requires-clause-parent
leave-requires-clause-parent c x e =
    let forest : Forest = c.self.inside.bindings in
    let context = c.args.context in
    let held : IsHeld forest context = subst (λ f. IsHeld f context) (sym c.self.view_is) c.requires.held in
    let is : c.parent_of-parent.result ≡ parent forest context = c.parent_of-parent.ensures in
    place-held forest c.self.inside.below c.self.invariant.linked.below c.self.invariant.linked.lists x (parents-held forest c.self.invariant.sound.ordered context x (sym is ∙ e))

pub leave-requires-clause-before : goal.leave-requires-clause-before
leave-requires-clause-before c x e y at =
    let forest : Forest = c.self.inside.bindings in
    let context = c.args.context in
    let held : IsHeld forest context = subst (λ f. IsHeld f context) (sym c.self.view_is) c.requires.held in
    let is : c.parent_of-parent.result ≡ parent forest context = c.parent_of-parent.ensures in
    leave-before forest context c.self.inside.below held c.self.invariant.sound.ordered c.self.invariant.linked x (sym is ∙ e) y at

pub leave-requires-clause-after : goal.leave-requires-clause-after
leave-requires-clause-after c x e y at =
    let forest : Forest = c.self.inside.bindings in
    let context = c.args.context in
    let held : IsHeld forest context = subst (λ f. IsHeld f context) (sym c.self.view_is) c.requires.held in
    let is : c.parent_of-parent.result ≡ parent forest context = c.parent_of-parent.ensures in
    leave-after forest context c.self.inside.below held c.self.invariant.sound.ordered c.self.invariant.linked x (sym is ∙ e) y at

pub leave-requires-clause-apart : goal.leave-requires-clause-apart
leave-requires-clause-apart c x e at =
    let forest : Forest = c.self.inside.bindings in
    let context = c.args.context in
    let held : IsHeld forest context = subst (λ f. IsHeld f context) (sym c.self.view_is) c.requires.held in
    let is : c.parent_of-parent.result ≡ parent forest context = c.parent_of-parent.ensures in
    leave-apart forest context c.self.inside.below held c.self.invariant.sound.ordered c.self.invariant.linked x (sym is ∙ e) at

pub invariant_of-self : goal.invariant_of-self
invariant_of-self c =
    let forest : Forest = c.self.inside.bindings in
    let context = c.args.context in
    let held : IsHeld forest context = subst (λ f. IsHeld f context) (sym c.self.view_is) c.requires.held in
    let is : c.parent_of-parent.result ≡ parent forest context = c.parent_of-parent.ensures in
    let after : Forest = c.remove.new.self in
    let same : after ≡ without forest context =
    c.remove.ensures.rest ∙ ap (λ (f : Forest). slice_set f c.index.result None) c.orphan.ensures ∙ ap (λ i. slice_set (map (without_parent context) forest) i None) c.index.ensures in
    let ends = subst (λ (f : Forest). (e : ℕ) → parent f e ≡ Some context → is_cancelled f context ≡ true) (sym c.self.view_is) c.requires.ends in
    let links = c.self.inside.below in
    let flags = c.self.inside.flags.flags in
    let ordered = c.self.invariant.sound.ordered in
    let left_is : c.leave.new.self ≡ left links context (parent forest context) = c.leave.ensures ∙ ap (left links context) is in
    let linked = subst (λ (l : Links). IsLinked (without forest context) l) (sym left_is) (IsLinked-without forest context links held ordered c.self.invariant.linked) in
    record {
      sound = IsSound-is after (without forest context) same (IsSound-without forest context held c.self.invariant.sound);
      linked = subst (λ (f : Forest). IsLinked f c.leave.new.self) (sym same) linked;
      flags = subst (λ (f : Forest). AreFlags f flags) (sym same) (AreFlags-without forest context flags held ordered ends c.self.invariant.flags);
      settled = c.self.invariant.settled;
    }

pub returns-clause-forest : goal.returns-clause-forest
returns-clause-forest c =
    let forest : Forest = c.self.inside.bindings in
    let context = c.args.context in
    let held : IsHeld forest context = subst (λ f. IsHeld f context) (sym c.self.view_is) c.requires.held in
    let after : Forest = c.remove.new.self in
    let same : after ≡ without forest context =
    c.remove.ensures.rest ∙ ap (λ (f : Forest). slice_set f c.index.result None) c.orphan.ensures ∙ ap (λ i. slice_set (map (without_parent context) forest) i None) c.index.ensures in
    let sound = IsSound-is after (without forest context) same (IsSound-without forest context held c.self.invariant.sound) in
    IsForest-ordered after sound.ordered

pub returns-clause-others : goal.returns-clause-others
returns-clause-others c d ne =
    let forest : Forest = c.self.inside.bindings in
    let context = c.args.context in
    let held : IsHeld forest context = subst (λ f. IsHeld f context) (sym c.self.view_is) c.requires.held in
    let after : Forest = c.remove.new.self in
    let same : after ≡ without forest context =
    c.remove.ensures.rest ∙ ap (λ (f : Forest). slice_set f c.index.result None) c.orphan.ensures ∙ ap (λ i. slice_set (map (without_parent context) forest) i None) c.index.ensures in
    let ends = subst (λ (f : Forest). (e : ℕ) → parent f e ≡ Some context → is_cancelled f context ≡ true) (sym c.self.view_is) c.requires.ends in
    is_cancelled-is after (without forest context) d same ∙ is_cancelled-without forest context held c.self.invariant.sound.ordered ends d ne ∙ ap (λ (f : Forest). is_cancelled f d) c.self.view_is

pub returns-clause-count : goal.returns-clause-count
returns-clause-count c =
    let forest : Forest = c.self.inside.bindings in
    let context = c.args.context in
    let held : IsHeld forest context = subst (λ f. IsHeld f context) (sym c.self.view_is) c.requires.held in
    let after : Forest = c.remove.new.self in
    let same : after ≡ without forest context =
    c.remove.ensures.rest ∙ ap (λ (f : Forest). slice_set f c.index.result None) c.orphan.ensures ∙ ap (λ i. slice_set (map (without_parent context) forest) i None) c.index.ensures in
    held_count-is after (without forest context) same ∙ held_count-without forest context held ∙ ap held_count c.self.view_is
