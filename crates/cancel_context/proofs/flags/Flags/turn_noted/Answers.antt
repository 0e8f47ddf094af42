use Rattle.std.proofs.Common.{◌≡◌, ◌+◌, ◌⊎◌, ℕ, Bool, true, List, [], ◌∷◌, ◌++◌, length, refl, sym, ◌∙◌, ap, subst, inl, inr, arith}
use Rattle.std.specs.Prelude.{Contains, count_by}
use Rattle.std.proofs.lemmas.List.{nil_from_length, length-append}
use Rattle.std.proofs.lemmas.List.Elements.{Contains-append_left, Contains-push}
use Rattle.cancel_context.specs.Order.{IsIn}
use Rattle.cancel_context.specs.Flags.{Flagged, flag, differs, IsSpreading}
use Rattle.cancel_context.proofs.Chains.{IsHeld-within}
use Rattle.cancel_context.proofs.Spread.{IsIn-split, spreading-end}
use Rattle.cancel_context.proofs.flags.Flags.turn_noted.Goals as goal

pub index_mut-requires : goal.index_mut-requires
index_mut-requires c =
    let inside = IsHeld-within c.args.bindings.now c.args.context (c.requires.spreads.held c.args.context (inl refl)) in
    let size = ap (λ (f : Flagged). length f.flags) c.self.view_is in
    omega (arith, inside, size, c.requires.size, c.index.ensures, c.self.inside.is_cancelled.ok)

-- A context that was reached is noted as it is taken out, so one whose flag has turned is reached or noted.
noted_more : (reached popped after : List ℕ) (turned noted : List ℕ) (parent d : ℕ) (first before now : Bool) → reached ≡ popped ++ parent ∷ [] → noted ≡ turned ++ parent ∷ [] →
    (before ≡ first) ⊎ (IsIn reached d ⊎ Contains turned d) → (now ≡ before) ⊎ IsIn after d → (IsIn popped d → IsIn after d) → (now ≡ first) ⊎ (IsIn after d ⊎ Contains noted d)
noted_more reached popped after turned noted parent d first before now taken more so_far step kept =
    elim so_far [
      | inl same ↦ elim step [ inl still ↦ inl (still ∙ same) | inr i ↦ inr (inl i) ]
      | inr there ↦ elim there [
        | inl i ↦ elim (IsIn-split popped parent d (subst (λ l. IsIn l d) taken i)) [
          | inl j ↦ inr (inl (kept j))
          | inr own ↦ inr (inr (subst (λ l. Contains l d) (sym more) (subst (Contains (turned ++ parent ∷ [])) (sym own) (Contains-push turned parent))))
        ]
        | inr k ↦ inr (inr (subst (λ l. Contains l d) (sym more) (Contains-append_left turned (parent ∷ []) d k)))
      ]
    ]

pub loop-parent-preserved : goal.loop-parent-preserved
loop-parent-preserved c =
    let now = c.loop-parent.self in
    let popped : List ℕ = c.pop.new.self.items in
    let parent = c.in-Some.parent in
    let seen = c.self-in-loop-parent.view_is in
    let taken : now.reached ≡ popped ++ parent ∷ [] = ap (λ (f : Flagged). f.reached) (sym seen) ∙ c.in-Some.ensures.items in
    let before : (d : ℕ) → flag c.self-in-loop-parent.inside.is_cancelled.items d ≡ flag now.flags d = λ d. ap (λ (f : Flagged). flag f.flags d) seen in
    record {
      spreads = c.spread.ensures.spreads;
      noted = λ d. noted_more now.reached popped c.spread.new.self.reached c.loop-parent.turned.items c.push_reserved-in-Some.new.self.items parent d (flag c.args.self.now.flags d) (flag now.flags d)
          (flag c.spread.new.self.flags d) taken c.push_reserved-in-Some.ensures.items (c.loop-parent.invariant.noted d)
          (elim (c.spread.ensures.turned d) [ inl same ↦ inl (same ∙ before d) | inr i ↦ inr i ]) (c.spread.ensures.kept d);
      room =
          let size : length c.spread.new.self.flags ≡ length now.flags = c.spread.ensures.spreads.size ∙ sym c.loop-parent.invariant.spreads.size in
          let one : length now.reached ≡ length popped + 1 = ap length taken ∙ length-append popped (parent ∷ []) in
          let noted : length c.push_reserved-in-Some.new.self.items ≡ length c.loop-parent.turned.items + 1 =
          ap length c.push_reserved-in-Some.ensures.items ∙ length-append c.loop-parent.turned.items (parent ∷ []) in
          let count = ap (λ (f : Flagged). count_by (differs true) f.flags) seen in
          omega (arith, size, one, noted, count, c.spread.ensures.fewer, c.loop-parent.invariant.room);
      capacity = c.push_reserved-in-Some.ensures.capacity ∙ c.loop-parent.invariant.capacity;
    }

pub returns-clause-flags : goal.returns-clause-flags
returns-clause-flags c =
    let forest = c.args.bindings.now in
    let inside = c.self-in-loop-parent.inside in
    let spreads : IsSpreading forest inside.is_cancelled.items inside.reached.items [] true =
    subst (λ (f : Flagged). IsSpreading forest f.flags f.reached [] true) (sym c.self-in-loop-parent.view_is) c.loop-parent.invariant.spreads in
    let none : inside.reached.items ≡ [] = nil_from_length inside.reached.items (omega (arith, c.in_default.ensures.cases.0, inside.reached.ok)) in
    spreading-end forest inside.is_cancelled.items inside.reached.items true c.requires.forest none spreads
