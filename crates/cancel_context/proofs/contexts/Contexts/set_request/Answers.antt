use Rattle.std.proofs.Common.{◌≡◌, ◌||◌, true, false, [], ◌∷◌, Some, option_copied, sym, ◌∙◌, ap, subst, arith}
use Rattle.std.specs.Prelude.{slice_set}
use Rattle.std.specs.Option.{option_map_or}
use Rattle.cancel_context.specs.Forest.{Forest, IsHeld, IsForest, binding, parent_in, parent, asks_in, with_request}
use Rattle.cancel_context.specs.Order.{HasBindingOrder}
use Rattle.cancel_context.specs.Below.{IsLinked}
use Rattle.cancel_context.specs.Flags.{flag, AreFlags, differs, IsSpreading}
use Rattle.cancel_context.proofs.Chains.{IsHeld-within, parents-held, IsSound-is, IsForest-ordered}
use Rattle.cancel_context.proofs.Requests.{parent-with_request, ordered-with_request, IsSound-with_request}
use Rattle.cancel_context.proofs.Lists.{IsLinked-with_request}
use Rattle.cancel_context.proofs.Kept.{unequal-differs, not_unequal, request-spreads, request-settles}
use Rattle.cancel_context.proofs.contexts.Contexts.set_request.Goals as goal

pub follows-is_cancelled-requires : goal.follows-is_cancelled-requires
follows-is_cancelled-requires c x e =
    let forest : Forest = c.self.inside.bindings in
    let context = c.args.context in
    let held : IsHeld forest context = subst (λ f. IsHeld f context) (sym c.self.view_is) c.requires in
    let asked : Forest = c.request.new.bindings in
    let after = with_request forest context c.args.is_asked in
    let same : asked ≡ after = c.request.ensures in
    let slot : option_copied c.get.result ≡ binding after context = c.get.ensures ∙ ap (λ (f : Forest). binding f c.index.result) same ∙ ap (binding after) c.index.ensures in
    let above : parent forest context ≡ Some x = sym (parent-with_request forest context c.args.is_asked held context) ∙ ap parent_in (sym slot) ∙ e in
    let inside = IsHeld-within forest x (parents-held forest c.self.invariant.sound.ordered context x above) in
    omega (arith, inside, c.self.invariant.flags.size)

pub turn-requires-clause-forest : goal.turn-requires-clause-forest
turn-requires-clause-forest c =
    let forest : Forest = c.self.inside.bindings in
    let context = c.args.context in
    let held : IsHeld forest context = subst (λ f. IsHeld f context) (sym c.self.view_is) c.requires in
    let asked : Forest = c.request.new.bindings in
    let same : asked ≡ with_request forest context c.args.is_asked = c.request.ensures in
    subst HasBindingOrder (sym same) (ordered-with_request forest context c.args.is_asked held c.self.invariant.sound.ordered)

pub turn-requires-clause-linked : goal.turn-requires-clause-linked
turn-requires-clause-linked c =
    let forest : Forest = c.self.inside.bindings in
    let context = c.args.context in
    let held : IsHeld forest context = subst (λ f. IsHeld f context) (sym c.self.view_is) c.requires in
    let asked : Forest = c.request.new.bindings in
    let same : asked ≡ with_request forest context c.args.is_asked = c.request.ensures in
    subst (λ (f : Forest). IsLinked f c.self.inside.below) (sym same) (IsLinked-with_request forest context c.args.is_asked c.self.inside.below held c.self.invariant.linked)

pub turn-requires-clause-spreads : goal.turn-requires-clause-spreads
turn-requires-clause-spreads c =
    let forest : Forest = c.self.inside.bindings in
    let context = c.args.context in
    let flags = c.self.inside.flags.flags in
    let value = c.follows-is_cancelled.result in
    let held : IsHeld forest context = subst (λ f. IsHeld f context) (sym c.self.view_is) c.requires in
    let asked : Forest = c.request.new.bindings in
    let after = with_request forest context c.args.is_asked in
    let same : asked ≡ after = c.request.ensures in
    let slot : option_copied c.get.result ≡ binding after context = c.get.ensures ∙ ap (λ (f : Forest). binding f c.index.result) same ∙ ap (binding after) c.index.ensures in
    let follows : value ≡ (asks_in (binding after context) || option_map_or (flag flags) (parent after context) false) =
    c.follows-is_cancelled.ensures ∙ ap (λ o. asks_in o || option_map_or (flag flags) (parent_in o) false) slot in
    let differ : differs value (flag flags context) ≡ true = ap (differs value) (sym c.get-2.ensures) ∙ unequal-differs value c.get-2.result c.if-get-is_cancelled.true in
    subst (λ (f : Forest). IsSpreading f (slice_set flags context value) (context ∷ []) [] value) (sym same)
    (request-spreads forest context c.args.is_asked flags value held c.self.invariant.sound.ordered c.self.invariant.flags follows differ)

pub invariant_of-self : goal.invariant_of-self
invariant_of-self c =
    let forest : Forest = c.self.inside.bindings in
    let context = c.args.context in
    let held : IsHeld forest context = subst (λ f. IsHeld f context) (sym c.self.view_is) c.requires in
    let asked : Forest = c.request.new.bindings in
    let after = with_request forest context c.args.is_asked in
    let same : asked ≡ after = c.request.ensures in
    record {
      sound = IsSound-is asked after same (IsSound-with_request forest context c.args.is_asked held c.self.invariant.sound);
      linked = subst (λ (f : Forest). IsLinked f c.self.inside.below) (sym same) (IsLinked-with_request forest context c.args.is_asked c.self.inside.below held c.self.invariant.linked);
      flags = c.turn.ensures.flags;
      settled = c.turn.ensures.none;
    }

pub invariant_of-self-else-get-is_cancelled : goal.invariant_of-self-else-get-is_cancelled
invariant_of-self-else-get-is_cancelled c =
    let forest : Forest = c.self.inside.bindings in
    let context = c.args.context in
    let flags = c.self.inside.flags.flags in
    let value = c.follows-is_cancelled.result in
    let held : IsHeld forest context = subst (λ f. IsHeld f context) (sym c.self.view_is) c.requires in
    let asked : Forest = c.request.new.bindings in
    let after = with_request forest context c.args.is_asked in
    let same : asked ≡ after = c.request.ensures in
    let slot : option_copied c.get.result ≡ binding after context = c.get.ensures ∙ ap (λ (f : Forest). binding f c.index.result) same ∙ ap (binding after) c.index.ensures in
    let follows : value ≡ (asks_in (binding after context) || option_map_or (flag flags) (parent after context) false) =
    c.follows-is_cancelled.ensures ∙ ap (λ o. asks_in o || option_map_or (flag flags) (parent_in o) false) slot in
    let settles = request-settles forest context c.args.is_asked flags value held c.self.invariant.sound.ordered c.self.invariant.flags follows
    (sym c.get-2.ensures ∙ not_unequal value c.get-2.result c.if-get-is_cancelled.false) in
    record {
      sound = IsSound-is asked after same (IsSound-with_request forest context c.args.is_asked held c.self.invariant.sound);
      linked = subst (λ (f : Forest). IsLinked f c.self.inside.below) (sym same) (IsLinked-with_request forest context c.args.is_asked c.self.inside.below held c.self.invariant.linked);
      flags = subst (λ (f : Forest). AreFlags f flags) (sym same) settles;
      settled = c.self.invariant.settled;
    }

pub returns-then-get-is_cancelled-clause-forest : goal.returns-then-get-is_cancelled-clause-forest
returns-then-get-is_cancelled-clause-forest c =
    let forest : Forest = c.self.inside.bindings in
    let context = c.args.context in
    let held : IsHeld forest context = subst (λ f. IsHeld f context) (sym c.self.view_is) c.requires in
    let asked : Forest = c.request.new.bindings in
    let after = with_request forest context c.args.is_asked in
    let same : asked ≡ after = c.request.ensures in
    subst IsForest (sym same) (IsForest-ordered after (ordered-with_request forest context c.args.is_asked held c.self.invariant.sound.ordered))

pub returns-else-get-is_cancelled-clause-forest : goal.returns-else-get-is_cancelled-clause-forest
returns-else-get-is_cancelled-clause-forest c =
    let forest : Forest = c.self.inside.bindings in
    let context = c.args.context in
    let held : IsHeld forest context = subst (λ f. IsHeld f context) (sym c.self.view_is) c.requires in
    let asked : Forest = c.request.new.bindings in
    let after = with_request forest context c.args.is_asked in
    let same : asked ≡ after = c.request.ensures in
    subst IsForest (sym same) (IsForest-ordered after (ordered-with_request forest context c.args.is_asked held c.self.invariant.sound.ordered))
