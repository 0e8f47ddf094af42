-- A context fewer.
use Rattle.std.proofs.Common.{◌≡◌, ◌≢◌, ◌≤◌, ◌^◌, ◌<◌, ◌+◌, ◌==◌, ℕ, suc, Bool, true, false, ◌||◌, if◌then◌else◌, List, [], ◌∷◌, Option, Some, None, is_some, map, length, refl, sym, ◌∙◌, ap, subst}
use Rattle.std.proofs.Common.{inl, inr, arith}
use Rattle.std.specs.Prelude.{slice_index_or}
use Rattle.std.specs.Option.{option_map_or}
use Rattle.std.proofs.Math.Bool.{or-true}
use Rattle.std.proofs.lemmas.Bool.Decides.{eqb_tells}
use Rattle.std.proofs.lemmas.List.{get_or-set_same, get_or-set_other, length-set}
use Rattle.std.proofs.lemmas.List.Sums.{sum_by-set, sum_by-cons}
use Rattle.cancel_context.specs.Forest.{Forest, Binding, binding, IsHeld, held_count, parent_in, parent, asks_in, is_cancelled, IsForest, leaving, without_parent, without}
use Rattle.cancel_context.specs.Order.{IsIn, ParentIn, IsNewestFirst, HasBindingOrder, IsSound}
use Rattle.cancel_context.proofs.Chains.{IsHeld-within, parents-held, IsForest-ordered, parent_at}
use Rattle.std.proofs.Math.ListN.{get_or-map}
use Rattle.std.proofs.lemmas.List.{length-map}

pub is_some-without_parent : (c : ℕ) (o : Option Binding) → is_some (without_parent c o) ≡ is_some o
is_some-without_parent c None = refl
is_some-without_parent c (Some b) = refl

pub binding-without_other : (forest : Forest) (c d : ℕ) → d ≢ c → binding (without forest c) d ≡ without_parent c (binding forest d)
binding-without_other forest c d ne = get_or-set_other (map (without_parent c) forest) c d None None ne ∙ get_or-map (without_parent c) forest d None

pub binding-without : (forest : Forest) (c : ℕ) → IsHeld forest c → binding (without forest c) c ≡ None
binding-without forest c h =
    let within : c < length (map (without_parent c) forest) = subst (λ n. c < n) (sym (length-map forest (without_parent c))) (IsHeld-within forest c h) in
    get_or-set_same (map (without_parent c) forest) c None None within

pub held_other : (forest : Forest) (c d : ℕ) → d ≢ c → is_some (binding (without forest c) d) ≡ is_some (binding forest d)
held_other forest c d ne = ap is_some (binding-without_other forest c d ne) ∙ is_some-without_parent c (binding forest d)

-- an order without one context
unfoldable pub except : ℕ → List ℕ → List ℕ
except c [] = []
except c (x ∷ xs) = if x == c then except c xs else x ∷ except c xs

pub IsIn-except : (c d : ℕ) (order : List ℕ) → IsIn order d → d ≢ c → IsIn (except c order) d
unfolding except
IsIn-except c d [] i ne = absurd i
IsIn-except c d (x ∷ xs) (inl h) ne =
    elim (eqb_tells x c) [
      | inl e ↦ absurd (ne (sym h ∙ e.1))
      | inr e ↦ subst (λ b. IsIn (if b then except c xs else x ∷ except c xs) d) (sym e.0) (inl h)
    ]
IsIn-except c d (x ∷ xs) (inr i) ne =
    elim (eqb_tells x c) [
      | inl e ↦ subst (λ b. IsIn (if b then except c xs else x ∷ except c xs) d) (sym e.0) (IsIn-except c d xs i ne)
      | inr e ↦ subst (λ b. IsIn (if b then except c xs else x ∷ except c xs) d) (sym e.0) (inr (IsIn-except c d xs i ne))
    ]

length-except-le : (c : ℕ) (order : List ℕ) → length (except c order) ≤ length order
unfolding except
length-except-le c [] = omega arith
length-except-le c (x ∷ xs) =
    elim (eqb_tells x c) [
      | inl e ↦ subst (λ b. length (if b then except c xs else x ∷ except c xs) ≤ suc (length xs)) (sym e.0) (omega (arith, length-except-le c xs))
      | inr e ↦ subst (λ b. length (if b then except c xs else x ∷ except c xs) ≤ suc (length xs)) (sym e.0) (omega (arith, length-except-le c xs))
    ]

length-except : (c : ℕ) (order : List ℕ) → IsIn order c → length (except c order) + 1 ≤ length order
unfolding except
length-except c [] i = absurd i
length-except c (x ∷ xs) (inl h) =
    elim (eqb_tells x c) [
      | inl e ↦ subst (λ b. length (if b then except c xs else x ∷ except c xs) + 1 ≤ suc (length xs)) (sym e.0) (omega (arith, length-except-le c xs))
      | inr e ↦ absurd (e.1 h)
    ]
length-except c (x ∷ xs) (inr i) =
    elim (eqb_tells x c) [
      | inl e ↦ subst (λ b. length (if b then except c xs else x ∷ except c xs) + 1 ≤ suc (length xs)) (sym e.0) (omega (arith, length-except-le c xs))
      | inr e ↦ subst (λ b. length (if b then except c xs else x ∷ except c xs) + 1 ≤ suc (length xs)) (sym e.0) (omega (arith, length-except c xs i))
    ]

ParentIn-leaving : (c : ℕ) (b : Binding) (o : Option ℕ) (older : List ℕ) → b.parent ≡ o → ParentIn o older → ParentIn ((leaving c b o).parent) (except c older)
ParentIn-leaving c b None older e i = subst (λ o. ParentIn o (except c older)) (sym e) tt
ParentIn-leaving c b (Some p) older e i =
    elim (eqb_tells p c) [
      | inl h ↦ subst (λ t. ParentIn ((if t then record { parent = None; is_asked = b.is_asked; is_orphan = true } else b).parent) (except c older)) (sym h.0) tt
      | inr h ↦ subst (λ t. ParentIn ((if t then record { parent = None; is_asked = b.is_asked; is_orphan = true } else b).parent) (except c older)) (sym h.0)
          (subst (λ o. ParentIn o (except c older)) (sym e) (IsIn-except c p older i h.1))
    ]

ParentIn-without_parent : (c : ℕ) (o : Option Binding) (older : List ℕ) → ParentIn (parent_in o) older → ParentIn (parent_in (without_parent c o)) (except c older)
ParentIn-without_parent c None older i = tt
ParentIn-without_parent c (Some b) older i = ParentIn-leaving c b b.parent older refl i

newest-without : (forest : Forest) (c : ℕ) (order : List ℕ) → IsNewestFirst forest order → IsNewestFirst (without forest c) (except c order)
unfolding except
newest-without forest c [] s = tt
newest-without forest c (x ∷ older) s =
    elim (eqb_tells x c) [
      | inl e ↦ subst (λ b. IsNewestFirst (without forest c) (if b then except c older else x ∷ except c older)) (sym e.0) (newest-without forest c older s.2)
      | inr e ↦ subst (λ b. IsNewestFirst (without forest c) (if b then except c older else x ∷ except c older)) (sym e.0) (
        held_other forest c x e.1 ∙ s.0,
        subst (λ o. ParentIn (parent_in o) (except c older)) (sym (binding-without_other forest c x e.1)) (ParentIn-without_parent c (binding forest x) older s.1),
        newest-without forest c older s.2,
      )
    ]

held_count-map : (c : ℕ) (forest : Forest) → held_count (map (without_parent c) forest) ≡ held_count forest
held_count-map c [] = refl
held_count-map c (o ∷ forest) =
    let one : Option Binding → ℕ = λ b. if is_some b then 1 else 0 in
    let same : one (without_parent c o) ≡ one o = ap (λ b. if b then 1 else 0) (is_some-without_parent c o) in
    omega (arith, same, held_count-map c forest, sum_by-cons one (without_parent c o) (map (without_parent c) forest), sum_by-cons one o forest)

pub held_count-without : (forest : Forest) (c : ℕ) → IsHeld forest c → held_count (without forest c) + 1 ≡ held_count forest
held_count-without forest c h =
    let one : Option Binding → ℕ = λ b. if is_some b then 1 else 0 in
    let left = map (without_parent c) forest in
    let within : c < length left = subst (λ n. c < n) (sym (length-map forest (without_parent c))) (IsHeld-within forest c h) in
    let held : is_some (slice_index_or left c None) ≡ true = ap is_some (get_or-map (without_parent c) forest c None) ∙ is_some-without_parent c (binding forest c) ∙ h in
    let counted : one (slice_index_or left c None) ≡ 1 = ap (λ b. if b then 1 else 0) held in
    omega (arith, counted, held_count-map c forest, sum_by-set one left c None None within)

pub held_count-is : (after forest : Forest) → after ≡ forest → held_count after + 1 ≡ held_count forest + 1
held_count-is after forest e = ap (λ (f : Forest). held_count f + 1) e

pub not_released : (forest : Forest) (c d : ℕ) → IsHeld forest c → IsHeld (without forest c) d → d ≢ c
not_released forest c d h held e =
    let there : IsHeld (without forest c) c = subst (λ y. IsHeld (without forest c) y) e held in
    let wrong : false ≡ true = sym (ap is_some (binding-without forest c h)) ∙ there in
    cc

pub ordered-without : (forest : Forest) (c : ℕ) → IsHeld forest c → HasBindingOrder forest → HasBindingOrder (without forest c)
ordered-without forest c h (order, o) =
    let fewer : length (except c order) ≤ held_count (without forest c) = omega (arith, length-except c order (o.has_all c h), held_count-without forest c h, o.has_no_more) in (
      except c order,
      record {
        newest_first = newest-without forest c order o.newest_first;
        has_all = λ d held. let ne = not_released forest c d h held in IsIn-except c d order (o.has_all d (sym (held_other forest c d ne) ∙ held)) ne;
        has_no_more = fewer;
      },
    )

pub length-without : (forest : Forest) (c : ℕ) → length (without forest c) ≡ length forest
length-without forest c = length-set (map (without_parent c) forest) c None ∙ length-map forest (without_parent c)

pub IsSound-without : (forest : Forest) (c : ℕ) → IsHeld forest c → IsSound forest → IsSound (without forest c)
IsSound-without forest c h s = record {
  few = subst (λ n. n ≤ 2 ^ 16) (sym (length-without forest c)) s.few;
  ordered = ordered-without forest c h s.ordered;
}

-- what is left of a binding asks, or goes on above, as before
kept_at : (c : ℕ) (b : Binding) (o : Option ℕ) (after before : ℕ → Bool) → b.parent ≡ o → (o ≡ Some c → before c ≡ true) → ((p : ℕ) → o ≡ Some p → p ≢ c → after p ≡ before p) →
    (asks_in (Some (leaving c b o)) || option_map_or after ((leaving c b o).parent) false) ≡ (asks_in (Some b) || option_map_or before b.parent false)
kept_at c b None after before e cancelled same = ap (λ o. asks_in (Some b) || option_map_or after o false) e ∙ sym (ap (λ o. asks_in (Some b) || option_map_or before o false) e)
kept_at c b (Some p) after before e cancelled same =
    elim (eqb_tells p c) [
      | inl h ↦
          let then_true : (asks_in (Some (leaving c b (Some p))) || option_map_or after ((leaving c b (Some p)).parent) false) ≡ true =
          ap (λ t. asks_in (Some (if t then record { parent = None; is_asked = b.is_asked; is_orphan = true } else b)) ||
          option_map_or after ((if t then record { parent = None; is_asked = b.is_asked; is_orphan = true } else b).parent) false) h.0 ∙ ap (λ t. t || false) (or-true b.is_asked) in
          let was_true : (asks_in (Some b) || option_map_or before b.parent false) ≡ true =
          ap (λ o. asks_in (Some b) || option_map_or before o false) e ∙ ap (λ t. asks_in (Some b) || t) (ap before h.1 ∙ cancelled (ap Some h.1)) ∙ or-true (asks_in (Some b)) in
          then_true ∙ sym was_true
      | inr h ↦ ap (λ t. asks_in (Some (if t then record { parent = None; is_asked = b.is_asked; is_orphan = true } else b)) ||
          option_map_or after ((if t then record { parent = None; is_asked = b.is_asked; is_orphan = true } else b).parent) false) h.0 ∙ ap (λ o. asks_in (Some b) || option_map_or after o false) e ∙
          ap (λ t. asks_in (Some b) || t) (same p refl h.1) ∙ sym (ap (λ o. asks_in (Some b) || option_map_or before o false) e)
    ]

kept_in : (c : ℕ) (o : Option Binding) (after before : ℕ → Bool) → (parent_in o ≡ Some c → before c ≡ true) → ((p : ℕ) → parent_in o ≡ Some p → p ≢ c → after p ≡ before p) →
    (asks_in (without_parent c o) || option_map_or after (parent_in (without_parent c o)) false) ≡ (asks_in o || option_map_or before (parent_in o) false)
kept_in c None after before cancelled same = refl
kept_in c (Some b) after before cancelled same = kept_at c b b.parent after before refl cancelled same

module _ (forest : Forest) (c : ℕ) (held : IsHeld forest c) (ordered : HasBindingOrder forest) (ends : (d : ℕ) → parent forest d ≡ Some c → is_cancelled forest c ≡ true) where
  kept_walk : (d : ℕ) → d ≢ c → ((p : ℕ) → parent forest d ≡ Some p → p ≢ c → is_cancelled (without forest c) p ≡ is_cancelled forest p) → is_cancelled (without forest c) d ≡ is_cancelled forest d
  kept_walk d ne above =
      let before : IsForest forest = IsForest-ordered forest ordered in
      let after : IsForest (without forest c) = IsForest-ordered (without forest c) (ordered-without forest c held ordered) in
      after.walk d ∙ ap (λ o. asks_in o || option_map_or (is_cancelled (without forest c)) (parent_in o) false) (binding-without_other forest c d ne) ∙
      kept_in c (binding forest d) (is_cancelled (without forest c)) (is_cancelled forest) (ends d) above ∙ sym (before.walk d)

  kept_in_order : (order : List ℕ) → IsNewestFirst forest order → (d : ℕ) → IsIn order d → d ≢ c → is_cancelled (without forest c) d ≡ is_cancelled forest d
  kept_in_order [] s d i ne = absurd i
  kept_in_order (x ∷ older) s d (inl h) ne =
      let above : ParentIn (parent forest d) older = subst (λ y. ParentIn (parent forest y) older) h s.1 in
      kept_walk d ne (λ p e other. kept_in_order older s.2 p (parent_at (parent forest d) older p above e) other)
  kept_in_order (x ∷ older) s d (inr i) ne = kept_in_order older s.2 d i ne

  parents_kept : (d p : ℕ) → parent forest d ≡ Some p → p ≢ c → is_cancelled (without forest c) p ≡ is_cancelled forest p
  parents_kept d p e ne = kept_in_order ordered.0 ordered.1.newest_first p (ordered.1.has_all p (parents-held forest ordered d p e)) ne

  -- Every other context is cancelled as before.
  pub is_cancelled-without : (d : ℕ) → d ≢ c → is_cancelled (without forest c) d ≡ is_cancelled forest d
  is_cancelled-without d ne = kept_walk d ne (parents_kept d)
