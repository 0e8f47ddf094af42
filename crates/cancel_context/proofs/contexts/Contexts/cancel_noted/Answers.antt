use Rattle.std.proofs.Common.{◌≡◌, true, false, [], ◌∷◌, refl, sym, ◌∙◌, ap, subst, inl}
use Rattle.std.specs.Prelude.{slice_set}
use Rattle.cancel_context.specs.Forest.{Forest, IsHeld, IsForest, is_cancelled, with_request}
use Rattle.cancel_context.specs.Order.{HasBindingOrder}
use Rattle.cancel_context.specs.Below.{IsLinked}
use Rattle.cancel_context.specs.Flags.{flag, AreFlags, IsSpreading}
use Rattle.cancel_context.proofs.Chains.{IsSound-is, IsForest-ordered}
use Rattle.cancel_context.proofs.Requests.{is_some-with_request, ordered-with_request, IsSound-with_request, is_cancelled-with_request}
use Rattle.cancel_context.proofs.Lists.{IsLinked-with_request}
use Rattle.cancel_context.proofs.Noted.{noted-spreads, noted-settles, noted-all}
use Rattle.cancel_context.proofs.contexts.Contexts.cancel_noted.Goals as goal

pub turn_noted-requires-clause-forest : goal.turn_noted-requires-clause-forest
turn_noted-requires-clause-forest c =
    let forest : Forest = c.self.inside.bindings in
    let context = c.args.context in
    let flags = c.self.inside.flags.flags in
    let held : IsHeld forest context = subst (λ f. IsHeld f context) (sym c.self.view_is) c.requires.held in
    let ordered = c.self.invariant.sound.ordered in
    let asked : Forest = c.request.new.bindings in
    let after = with_request forest context true in
    let same : asked ≡ after = c.request.ensures in
    subst HasBindingOrder (sym same) (ordered-with_request forest context true held ordered)

pub turn_noted-requires-clause-spreads : goal.turn_noted-requires-clause-spreads
turn_noted-requires-clause-spreads c =
    let forest : Forest = c.self.inside.bindings in
    let context = c.args.context in
    let flags = c.self.inside.flags.flags in
    let held : IsHeld forest context = subst (λ f. IsHeld f context) (sym c.self.view_is) c.requires.held in
    let ordered = c.self.invariant.sound.ordered in
    let asked : Forest = c.request.new.bindings in
    let after = with_request forest context true in
    let same : asked ≡ after = c.request.ensures in
    let down : flag flags context ≡ false = sym c.get-first.ensures ∙ c.if-first.true in
    subst (λ (f : Forest). IsSpreading f (slice_set flags context true) (context ∷ []) [] true) (sym same) (noted-spreads forest context flags held ordered c.self.invariant.flags down)

pub invariant_of-self : goal.invariant_of-self
invariant_of-self c =
    let forest : Forest = c.self.inside.bindings in
    let context = c.args.context in
    let flags = c.self.inside.flags.flags in
    let held : IsHeld forest context = subst (λ f. IsHeld f context) (sym c.self.view_is) c.requires.held in
    let ordered = c.self.invariant.sound.ordered in
    let asked : Forest = c.request.new.bindings in
    let after = with_request forest context true in
    let same : asked ≡ after = c.request.ensures in
    record {
      sound = IsSound-is asked after same (IsSound-with_request forest context true held c.self.invariant.sound);
      linked = subst (λ (f : Forest). IsLinked f c.self.inside.below) (sym same) (IsLinked-with_request forest context true c.self.inside.below held c.self.invariant.linked);
      flags = c.turn_noted.ensures.flags;
      settled = c.turn_noted.ensures.none;
    }

pub invariant_of-self-else-first : goal.invariant_of-self-else-first
invariant_of-self-else-first c =
    let forest : Forest = c.self.inside.bindings in
    let context = c.args.context in
    let flags = c.self.inside.flags.flags in
    let held : IsHeld forest context = subst (λ f. IsHeld f context) (sym c.self.view_is) c.requires.held in
    let ordered = c.self.invariant.sound.ordered in
    let asked : Forest = c.request.new.bindings in
    let after = with_request forest context true in
    let same : asked ≡ after = c.request.ensures in
    let up : flag flags context ≡ true = sym c.get-first.ensures ∙ c.if-first.false in
    record {
      sound = IsSound-is asked after same (IsSound-with_request forest context true held c.self.invariant.sound);
      linked = subst (λ (f : Forest). IsLinked f c.self.inside.below) (sym same) (IsLinked-with_request forest context true c.self.inside.below held c.self.invariant.linked);
      flags = subst (λ (f : Forest). AreFlags f flags) (sym same) (noted-settles forest context flags held ordered c.self.invariant.flags up);
      settled = c.self.invariant.settled;
    }

pub returns-then-first-clause-reaches : goal.returns-then-first-clause-reaches
returns-then-first-clause-reaches c d =
    let forest : Forest = c.self.inside.bindings in
    let context = c.args.context in
    let flags = c.self.inside.flags.flags in
    let held : IsHeld forest context = subst (λ f. IsHeld f context) (sym c.self.view_is) c.requires.held in
    let ordered = c.self.invariant.sound.ordered in
    let asked : Forest = c.request.new.bindings in
    let after = with_request forest context true in
    let same : asked ≡ after = c.request.ensures in
    ap (λ f. is_cancelled f d) (same ∙ ap (λ f. with_request f context true) c.self.view_is) ∙ is_cancelled-with_request c.args.self.now context c.requires.held d

pub returns-then-first-clause-forest : goal.returns-then-first-clause-forest
returns-then-first-clause-forest c =
    let forest : Forest = c.self.inside.bindings in
    let context = c.args.context in
    let flags = c.self.inside.flags.flags in
    let held : IsHeld forest context = subst (λ f. IsHeld f context) (sym c.self.view_is) c.requires.held in
    let ordered = c.self.invariant.sound.ordered in
    let asked : Forest = c.request.new.bindings in
    let after = with_request forest context true in
    let same : asked ≡ after = c.request.ensures in
    subst IsForest (sym same) (IsForest-ordered after (ordered-with_request forest context true held ordered))

pub returns-else-first-clause-reaches : goal.returns-else-first-clause-reaches
returns-else-first-clause-reaches c d =
    let forest : Forest = c.self.inside.bindings in
    let context = c.args.context in
    let flags = c.self.inside.flags.flags in
    let held : IsHeld forest context = subst (λ f. IsHeld f context) (sym c.self.view_is) c.requires.held in
    let ordered = c.self.invariant.sound.ordered in
    let asked : Forest = c.request.new.bindings in
    let after = with_request forest context true in
    let same : asked ≡ after = c.request.ensures in
    ap (λ f. is_cancelled f d) (same ∙ ap (λ f. with_request f context true) c.self.view_is) ∙ is_cancelled-with_request c.args.self.now context c.requires.held d

pub returns-else-first-clause-forest : goal.returns-else-first-clause-forest
returns-else-first-clause-forest c =
    let forest : Forest = c.self.inside.bindings in
    let context = c.args.context in
    let flags = c.self.inside.flags.flags in
    let held : IsHeld forest context = subst (λ f. IsHeld f context) (sym c.self.view_is) c.requires.held in
    let ordered = c.self.invariant.sound.ordered in
    let asked : Forest = c.request.new.bindings in
    let after = with_request forest context true in
    let same : asked ≡ after = c.request.ensures in
    subst IsForest (sym same) (IsForest-ordered after (ordered-with_request forest context true held ordered))

pub returns-then-first-clause-noted : goal.returns-then-first-clause-noted
returns-then-first-clause-noted c d now before =
    let forest : Forest = c.self.inside.bindings in
    let context = c.args.context in
    let flags = c.self.inside.flags.flags in
    let held : IsHeld forest context = subst (λ f. IsHeld f context) (sym c.self.view_is) c.requires.held in
    let ordered = c.self.invariant.sound.ordered in
    let asked : Forest = c.request.new.bindings in
    let after = with_request forest context true in
    let same : asked ≡ after = c.request.ensures in
    let flagged = subst (λ (f : Forest). AreFlags f c.turn_noted.new.self.flags) same c.turn_noted.ensures.flags in
    noted-all forest context flags held ordered c.self.invariant.flags c.turn_noted.new.self.flags c.turn_noted.new.turned.items flagged c.turn_noted.ensures.noted d
    (ap (λ f. is_cancelled f d) (sym same) ∙ now) (ap (λ f. is_cancelled f d) c.self.view_is ∙ before)

pub returns-else-first-clause-noted : goal.returns-else-first-clause-noted
returns-else-first-clause-noted c d now before =
    let forest : Forest = c.self.inside.bindings in
    let context = c.args.context in
    let flags = c.self.inside.flags.flags in
    let held : IsHeld forest context = subst (λ f. IsHeld f context) (sym c.self.view_is) c.requires.held in
    let ordered = c.self.invariant.sound.ordered in
    let asked : Forest = c.request.new.bindings in
    let after = with_request forest context true in
    let same : asked ≡ after = c.request.ensures in
    let up : flag flags context ≡ true = sym c.get-first.ensures ∙ c.if-first.false in
    noted-all forest context flags held ordered c.self.invariant.flags flags c.args.turned.now.items (noted-settles forest context flags held ordered c.self.invariant.flags up) (λ e. inl refl) d
    (ap (λ f. is_cancelled f d) (sym same) ∙ now) (ap (λ f. is_cancelled f d) c.self.view_is ∙ before)

pub returns-else-first-clause-cancelled : goal.returns-else-first-clause-cancelled
returns-else-first-clause-cancelled c =
    let forest : Forest = c.self.inside.bindings in
    let context = c.args.context in
    let flags = c.self.inside.flags.flags in
    let held : IsHeld forest context = subst (λ f. IsHeld f context) (sym c.self.view_is) c.requires.held in
    let ordered = c.self.invariant.sound.ordered in
    let asked : Forest = c.request.new.bindings in
    let after = with_request forest context true in
    let same : asked ≡ after = c.request.ensures in
    let up : flag flags context ≡ true = sym c.get-first.ensures ∙ c.if-first.false in
    ap (λ f. is_cancelled f context) same ∙
    sym ((noted-settles forest context flags held ordered c.self.invariant.flags up).says context (is_some-with_request forest context true held context ∙ held)) ∙ up
