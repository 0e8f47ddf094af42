use Rattle.std.proofs.Common.{◌≡◌, ◌<◌, ℕ, Option, Some, false, length, subst, sym, ap, ◌∙◌, arith}
use Rattle.std.specs.Prelude.{slice_set}
use Rattle.std.specs.Option.{option_map_or}
use Rattle.cancel_context.specs.Forest.{Forest, Binding, IsHeld, binding, is_cancelled, with_bound}
use Rattle.cancel_context.specs.Below.{Links, joined, IsLinked}
use Rattle.cancel_context.specs.Flags.{Flagged, flag, AreFlags}
use Rattle.cancel_context.proofs.Chains.{IsHeld-within, IsSound-is, is_cancelled-is, IsForest-ordered}
use Rattle.cancel_context.proofs.Bound.{IsSound-with_bound, is_cancelled-with_bound, is_cancelled-with_bound_other}
use Rattle.cancel_context.proofs.Lists.{place-held, join-follower, IsLinked-with_bound}
use Rattle.cancel_context.proofs.Kept.{AreFlags-with_bound}
use Rattle.cancel_context.proofs.contexts.Contexts.bind.Goals as goal

pub join-requires-clause-parent : goal.join-requires-clause-parent
join-requires-clause-parent c x e =
    let forest : Forest = c.self.inside.bindings in
    let to : c.binding.inside.parent ≡ c.args.parent = ap (λ (b : Binding). b.parent) c.binding.view_is in
    let held = subst (λ (f : Forest). (q : ℕ) → c.args.parent ≡ Some q → IsHeld f q) (sym c.self.view_is) c.requires.parent in
    place-held forest c.self.inside.below c.self.invariant.linked.below c.self.invariant.linked.lists x (held x (sym to ∙ e))

pub join-requires-clause-follower : goal.join-requires-clause-follower
join-requires-clause-follower c x e y at =
    let forest : Forest = c.self.inside.bindings in
    let free = ap (binding forest) c.at-context.ensures ∙ c.insert.ensures.free in
    let to : c.binding.inside.parent ≡ c.args.parent = ap (λ (b : Binding). b.parent) c.binding.view_is in
    let held = subst (λ (f : Forest). (q : ℕ) → c.args.parent ≡ Some q → IsHeld f q) (sym c.self.view_is) c.requires.parent in
    join-follower forest c.at-context.result c.args.parent c.self.inside.below free held c.self.invariant.linked x (sym to ∙ e) y at

pub start-requires-clause-parent : goal.start-requires-clause-parent
start-requires-clause-parent c x e =
    let forest : Forest = c.self.inside.bindings in
    let to : c.binding.inside.parent ≡ c.args.parent = ap (λ (b : Binding). b.parent) c.binding.view_is in
    let held = subst (λ (f : Forest). (q : ℕ) → c.args.parent ≡ Some q → IsHeld f q) (sym c.self.view_is) c.requires.parent in
    let inside = IsHeld-within forest x (held x (sym to ∙ e)) in
    omega (arith, inside, c.self.invariant.flags.size)

pub invariant_of-self : goal.invariant_of-self
invariant_of-self c =
    let forest : Forest = c.self.inside.bindings in
    let context = c.at-context.result in
    let parent = c.args.parent in
    let within : context < length forest = omega (arith, c.at-context.ensures, c.insert.ensures.place) in
    let free = ap (binding forest) c.at-context.ensures ∙ c.insert.ensures.free in
    let held = subst (λ (f : Forest). (q : ℕ) → parent ≡ Some q → IsHeld f q) (sym c.self.view_is) c.requires.parent in
    let bound : Binding = record { parent = parent; is_asked = false; is_orphan = false } in
    let same : c.insert.new.self ≡ with_bound forest context parent =
    c.insert.ensures.put ∙ ap (λ i. slice_set forest i (Some (record { parent = parent; is_asked = false; is_orphan = false }))) (sym c.at-context.ensures) in
    let ordered = c.self.invariant.sound.ordered in
    let to : c.binding.inside.parent ≡ parent = ap (λ (b : Binding). b.parent) c.binding.view_is in
    let links = c.self.inside.below in
    let flagged = c.self.inside.flags in
    let joined_is : c.join.new.self ≡ joined links context parent = c.join.ensures ∙ ap (joined links context) to in
    let started : c.start.new.self ≡ record { flags = slice_set flagged.flags context (option_map_or (flag flagged.flags) parent false); reached = flagged.reached } =
    c.start.ensures ∙ ap (λ (o : Option ℕ). record { flags = slice_set flagged.flags context (option_map_or (flag flagged.flags) o false); reached = flagged.reached }) to in
    let linked = subst (λ (l : Links). IsLinked (with_bound forest context parent) l) (sym joined_is)
    (IsLinked-with_bound forest context parent links within free held ordered c.self.invariant.linked) in
    let flags = subst (λ (f : Flagged). AreFlags (with_bound forest context parent) f.flags) (sym started)
    (AreFlags-with_bound forest context parent flagged.flags within free held ordered c.self.invariant.flags) in
    record {
      sound = IsSound-is c.insert.new.self (with_bound forest context parent) same (IsSound-with_bound forest context parent within free held c.self.invariant.sound);
      linked = subst (λ (f : Forest). IsLinked f c.join.new.self) (sym same) linked;
      flags = subst (λ (f : Forest). AreFlags f c.start.new.self.flags) (sym same) flags;
      settled = ap (λ (f : Flagged). f.reached) started ∙ c.self.invariant.settled;
    }

pub returns-clause-forest : goal.returns-clause-forest
returns-clause-forest c = IsForest-ordered c.insert.new.self (invariant_of-self c).sound.ordered

pub returns-clause-from_above : goal.returns-clause-from_above
returns-clause-from_above c =
    let forest : Forest = c.self.inside.bindings in
    let context = c.at-context.result in
    let parent = c.args.parent in
    let within : context < length forest = omega (arith, c.at-context.ensures, c.insert.ensures.place) in
    let free = ap (binding forest) c.at-context.ensures ∙ c.insert.ensures.free in
    let held = subst (λ (f : Forest). (q : ℕ) → parent ≡ Some q → IsHeld f q) (sym c.self.view_is) c.requires.parent in
    let same : c.insert.new.self ≡ with_bound forest context parent =
    c.insert.ensures.put ∙ ap (λ i. slice_set forest i (Some (record { parent = parent; is_asked = false; is_orphan = false }))) (sym c.at-context.ensures) in
    is_cancelled-is c.insert.new.self (with_bound forest context parent) context same ∙ is_cancelled-with_bound forest context parent within free held c.self.invariant.sound.ordered ∙
    ap (λ (f : Forest). option_map_or (is_cancelled f) parent false) c.self.view_is

pub returns-clause-others : goal.returns-clause-others
returns-clause-others c d ne =
    let forest : Forest = c.self.inside.bindings in
    let context = c.at-context.result in
    let parent = c.args.parent in
    let free = ap (binding forest) c.at-context.ensures ∙ c.insert.ensures.free in
    let same : c.insert.new.self ≡ with_bound forest context parent =
    c.insert.ensures.put ∙ ap (λ i. slice_set forest i (Some (record { parent = parent; is_asked = false; is_orphan = false }))) (sym c.at-context.ensures) in
    is_cancelled-is c.insert.new.self (with_bound forest context parent) d same ∙ is_cancelled-with_bound_other forest context parent free c.self.invariant.sound.ordered d ne ∙
    ap (λ (f : Forest). is_cancelled f d) c.self.view_is
