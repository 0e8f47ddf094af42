-- A context that is bound, cancelled, reset and released: the forest is then as it was.
use Rattle.std.proofs.Common.{◌≡◌, ◌<◌, ℕ, zero, suc, true, false, if◌then◌else◌, [], ◌∷◌, Option, Some, None, length, map, refl, sym, ◌∙◌, ap, subst, inl, inr}
use Rattle.std.specs.Prelude.{slice_set}
use Rattle.std.proofs.lemmas.Bool.Decides.{eqb_tells}
use Rattle.std.proofs.lemmas.List.{length-set, map-set, set-get_or, set-set}
use Rattle.cancel_context.specs.Forest.{Forest, Binding, binding, IsHeld, IsForest, parent_in, parent, leaving, without_parent, with_bound, asking, with_request, without}
use Rattle.cancel_context.proofs.Chains.{IsHeld-within}
use Rattle.cancel_context.proofs.Bound.{apart, binding-with_bound, binding-with_bound_other}
use Rattle.cancel_context.proofs.Requests.{parent-with_request}

leaving_other : (c : ℕ) (b : Binding) (o : Option ℕ) → (o ≡ Some c → ⊥) → leaving c b o ≡ b
leaving_other c b None other = refl
leaving_other c b (Some p) other =
    elim (eqb_tells p c) [
      | inl same ↦ absurd (other (ap Some same.1))
      | inr unlike ↦ ap (λ t. if t then record { parent = None; is_asked = b.is_asked; is_orphan = true } else b) unlike.0
    ]

without_parent_other : (c : ℕ) (b : Option Binding) → (parent_in b ≡ Some c → ⊥) → without_parent c b ≡ b
without_parent_other c None other = refl
without_parent_other c (Some b) other = ap Some (leaving_other c b b.parent other)

map-without_parent : (c : ℕ) (forest : Forest) → ((d : ℕ) → parent forest d ≡ Some c → ⊥) → map (without_parent c) forest ≡ forest
map-without_parent c [] none = refl
map-without_parent c (b ∷ rest) none = ap (λ x. x ∷ map (without_parent c) rest) (without_parent_other c b (none zero)) ∙ ap (λ l. b ∷ l) (map-without_parent c rest (λ d. none (suc d)))

module _ (forest : Forest) (c job : ℕ) (is : IsForest forest) (held : IsHeld forest job) (free : binding forest c ≡ None) where
  not_parent : (d : ℕ) → parent forest d ≡ Some c → ⊥
  not_parent d e = apart forest c c free (is.parents d c e) refl

  -- nothing is bound to the context
  pub not_parent-with_bound : c < length forest → (d : ℕ) → parent (with_bound forest c (Some job)) d ≡ Some c → ⊥
  not_parent-with_bound within d e =
      elim (eqb_tells d c) [
        | inl same ↦
            let there : parent (with_bound forest c (Some job)) c ≡ Some job = ap parent_in (binding-with_bound forest c (Some job) within) in
            let own : parent (with_bound forest c (Some job)) c ≡ Some c = subst (λ y. parent (with_bound forest c (Some job)) y ≡ Some c) same.1 e in
            let wrong : job ≡ c = cc in
            apart forest c job free held wrong
        | inr other ↦ not_parent d (sym (ap parent_in (binding-with_bound_other forest c (Some job) d other.1)) ∙ e)
      ]

  -- however its own binding was changed, the forest without it is as before
  pub without-with_bound : (a b : Option Binding) → slice_set (map (without_parent c) (slice_set (slice_set (with_bound forest c (Some job)) c a) c b)) c None ≡ forest
  without-with_bound a b =
      let one : slice_set (slice_set (with_bound forest c (Some job)) c a) c b ≡ slice_set forest c b = set-set (with_bound forest c (Some job)) c a b ∙ set-set forest c _ b in
      ap (λ f. slice_set (map (without_parent c) f) c None) one ∙
      ap (λ f. slice_set f c None) (map-set (without_parent c) forest c b ∙ ap (λ f. slice_set f c (without_parent c b)) (map-without_parent c forest not_parent)) ∙
      set-set forest c (without_parent c b) None ∙ subst (λ x. slice_set forest c x ≡ forest) free (set-get_or forest c None)

module _ (forest : Forest) (c job : ℕ) (is : IsForest forest) (held : IsHeld forest job) (free : binding forest c ≡ None) where
  module _ (bound cancelled reset : Forest) (binds : bound ≡ with_bound forest c (Some job)) (there : IsHeld bound c) (cancels : cancelled ≡ with_request bound c true) (still : IsHeld cancelled c)
      (resets : reset ≡ with_request cancelled c false) where
    within : c < length forest
    within = subst (λ n. c < n) (ap length binds ∙ length-set forest c _) (IsHeld-within bound c there)

    pub not_parent-reset : (d : ℕ) → parent reset d ≡ Some c → ⊥
    not_parent-reset d e =
        let was : parent reset d ≡ parent cancelled d = ap (λ f. parent f d) resets ∙ parent-with_request cancelled c false still d in
        let before : parent cancelled d ≡ parent bound d = ap (λ f. parent f d) cancels ∙ parent-with_request bound c true there d in
        not_parent-with_bound forest c job is held free within d (sym (ap (λ f. parent f d) binds) ∙ sym before ∙ sym was ∙ e)

    pub released : (after : Forest) → after ≡ without reset c → after ≡ forest
    released after releases =
        let begun : cancelled ≡ slice_set (with_bound forest c (Some job)) c (asking true (binding bound c)) = cancels ∙ ap (λ f. slice_set f c (asking true (binding bound c))) binds in
        let all : reset ≡ slice_set (slice_set (with_bound forest c (Some job)) c (asking true (binding bound c))) c (asking false (binding cancelled c)) =
        resets ∙ ap (λ f. slice_set f c (asking false (binding cancelled c))) begun in
        releases ∙ ap (λ f. slice_set (map (without_parent c) f) c None) all ∙ without-with_bound forest c job is held free (asking true (binding bound c)) (asking false (binding cancelled c))
