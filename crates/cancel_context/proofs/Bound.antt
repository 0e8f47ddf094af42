-- A context more.
use Rattle.std.proofs.Common.{◌≡◌, ◌≢◌, ◌≤◌, ◌^◌, ◌<◌, ◌+◌, ℕ, zero, suc, true, false, ◌||◌, if◌then◌else◌, List, [], ◌∷◌, Option, Some, None, is_some, length, refl, sym, ◌∙◌, ap, subst, inl, inr}
use Rattle.std.proofs.Common.{arith}
use Rattle.std.specs.List.{list_any}
use Rattle.std.specs.Option.{option_map_or}
use Rattle.std.specs.Prelude.{replicate}
use Rattle.std.proofs.lemmas.Grind.{common_steps}
use Rattle.std.proofs.lemmas.List.{get_or-replicate}
use Rattle.std.proofs.lemmas.Bool.Decides.{eqb_tells}
use Rattle.std.proofs.lemmas.List.{get_or_past, get_or-set_same, get_or-set_other, length-set}
use Rattle.std.proofs.lemmas.List.Sums.{sum_by-set}
use Rattle.cancel_context.specs.Forest.{Forest, Binding, binding, IsHeld, held_count, parent_in, parent, chain_from, chain_for, asks_in, is_cancelled, IsForest, with_bound}
use Rattle.cancel_context.specs.Order.{IsIn, ParentIn, IsNewestFirst, HasBindingOrder, IsSound}
use Rattle.cancel_context.proofs.Chains.{parents-held, IsForest-ordered}

-- what is held is not at a free id
pub apart : (forest : Forest) (c d : ℕ) → binding forest c ≡ None → IsHeld forest d → d ≢ c
apart forest c d free held e =
    let there : IsHeld forest c = subst (λ y. IsHeld forest y) e held in
    let wrong : false ≡ true = sym (ap is_some free) ∙ there in
    cc

pub binding-with_bound : (forest : Forest) (c : ℕ) (p : Option ℕ) → c < length forest → binding (with_bound forest c p) c ≡ Some (record { parent = p; is_asked = false; is_orphan = false })
binding-with_bound forest c p within = get_or-set_same forest c (Some (record { parent = p; is_asked = false; is_orphan = false })) None within

pub binding-with_bound_other : (forest : Forest) (c : ℕ) (p : Option ℕ) (d : ℕ) → d ≢ c → binding (with_bound forest c p) d ≡ binding forest d
binding-with_bound_other forest c p d ne = get_or-set_other forest c d (Some (record { parent = p; is_asked = false; is_orphan = false })) None ne

newest-with_bound : (forest : Forest) (c : ℕ) (p : Option ℕ) (order : List ℕ) → binding forest c ≡ None → IsNewestFirst forest order → IsNewestFirst (with_bound forest c p) order
newest-with_bound forest c p [] free s = tt
newest-with_bound forest c p (x ∷ older) free s =
    let same : binding (with_bound forest c p) x ≡ binding forest x = binding-with_bound_other forest c p x (apart forest c x free s.0) in
    (ap is_some same ∙ s.0, subst (λ o. ParentIn o older) (sym (ap parent_in same)) s.1, newest-with_bound forest c p older free s.2)

pub held_count-with_bound : (forest : Forest) (c : ℕ) (p : Option ℕ) → c < length forest → binding forest c ≡ None → held_count (with_bound forest c p) ≡ held_count forest + 1
held_count-with_bound forest c p within free =
    let one : Option Binding → ℕ = λ b. if is_some b then 1 else 0 in
    let none : one (binding forest c) ≡ 0 = ap one free in
    omega (arith, none, sum_by-set one forest c (Some (record { parent = p; is_asked = false; is_orphan = false })) None within)

ParentIn-each : (p : Option ℕ) (order : List ℕ) → ((q : ℕ) → p ≡ Some q → IsIn order q) → ParentIn p order
ParentIn-each None order h = tt
ParentIn-each (Some q) order h = h q refl

pub ordered-with_bound : (forest : Forest) (c : ℕ) (p : Option ℕ) → c < length forest → binding forest c ≡ None → ((q : ℕ) → p ≡ Some q → IsHeld forest q) → HasBindingOrder forest →
    HasBindingOrder (with_bound forest c p)
ordered-with_bound forest c p within free held (order, o) =
    let here = binding-with_bound forest c p within in
    let above : ParentIn p order = ParentIn-each p order (λ q e. o.has_all q (held q e)) in
    let count = held_count-with_bound forest c p within free in
    let more : suc (length order) ≤ held_count (with_bound forest c p) = omega (arith, count, o.has_no_more) in (
      c ∷ order,
      record {
        newest_first = (ap is_some here, subst (λ q. ParentIn q order) (sym (ap parent_in here)) above, newest-with_bound forest c p order free o.newest_first);
        has_all = λ d h. elim (eqb_tells d c) [ inl e ↦ inl (sym e.1) | inr e ↦ inr (o.has_all d (sym (ap is_some (binding-with_bound_other forest c p d e.1)) ∙ h)) ];
        has_no_more = more;
      },
    )

pub IsSound-with_bound : (forest : Forest) (c : ℕ) (p : Option ℕ) → c < length forest → binding forest c ≡ None → ((q : ℕ) → p ≡ Some q → IsHeld forest q) → IsSound forest →
    IsSound (with_bound forest c p)
IsSound-with_bound forest c p within free held s = record {
  few = subst (λ n. n ≤ 2 ^ 16) (sym (length-set forest c (Some (record { parent = p; is_asked = false; is_orphan = false })))) s.few;
  ordered = ordered-with_bound forest c p within free held s.ordered;
}

-- what is reached from another context
module _ (forest : Forest) (c : ℕ) (p : Option ℕ) (free : binding forest c ≡ None) (ordered : HasBindingOrder forest) where
  reached_from : (n : ℕ) → ((q : ℕ) → q ≢ c →
      list_any (λ x. asks_in (binding (with_bound forest c p) x)) (chain_for n (with_bound forest c p) q) ≡ list_any (λ x. asks_in (binding forest x)) (chain_for n forest q)) →
      (d : ℕ) (o : Option ℕ) → parent forest d ≡ o →
      list_any (λ x. asks_in (binding (with_bound forest c p) x)) (chain_from o (chain_for n (with_bound forest c p))) ≡ list_any (λ x. asks_in (binding forest x)) (chain_from o (chain_for n forest))
  reached_from n below d None e = refl
  reached_from n below d (Some q) e = below q (apart forest c q free (parents-held forest ordered d q e))

  reached : (n d : ℕ) → d ≢ c → list_any (λ x. asks_in (binding (with_bound forest c p) x)) (chain_for n (with_bound forest c p) d) ≡ list_any (λ x. asks_in (binding forest x)) (chain_for n forest d)
  reached zero d ne = refl
  reached (suc n) d ne =
      let same = binding-with_bound_other forest c p d ne in
      ap (λ o. asks_in o || list_any (λ x. asks_in (binding (with_bound forest c p) x)) (chain_from (parent_in o) (chain_for n (with_bound forest c p)))) same ∙
      ap (λ b. asks_in (binding forest d) || b) (reached_from n (λ q. reached n q) d (parent forest d) refl)

  -- every other context is cancelled as before
  pub is_cancelled-with_bound_other : (d : ℕ) → d ≢ c → is_cancelled (with_bound forest c p) d ≡ is_cancelled forest d
  is_cancelled-with_bound_other d ne =
      ap (λ n. list_any (λ x. asks_in (binding (with_bound forest c p) x)) (chain_for n (with_bound forest c p) d))
      (length-set forest c (Some (record { parent = p; is_asked = false; is_orphan = false }))) ∙ reached (length forest) d ne

above_kept : (forest : Forest) (c : ℕ) (p q : Option ℕ) → binding forest c ≡ None → HasBindingOrder forest → ((r : ℕ) → q ≡ Some r → IsHeld forest r) →
    option_map_or (is_cancelled (with_bound forest c p)) q false ≡ option_map_or (is_cancelled forest) q false
above_kept forest c p None free ordered held = refl
above_kept forest c p (Some r) free ordered held = is_cancelled-with_bound_other forest c p free ordered r (apart forest c r free (held r refl))

-- a new context is cancelled if what it is bound to is
pub is_cancelled-with_bound : (forest : Forest) (c : ℕ) (p : Option ℕ) → c < length forest → binding forest c ≡ None → ((q : ℕ) → p ≡ Some q → IsHeld forest q) → HasBindingOrder forest →
    is_cancelled (with_bound forest c p) c ≡ option_map_or (is_cancelled forest) p false
is_cancelled-with_bound forest c p within free held ordered =
    let after : IsForest (with_bound forest c p) = IsForest-ordered (with_bound forest c p) (ordered-with_bound forest c p within free held ordered) in
    after.walk c ∙ ap (λ o. asks_in o || option_map_or (is_cancelled (with_bound forest c p)) (parent_in o) false) (binding-with_bound forest c p within) ∙ above_kept forest c p p free ordered held

pub nothing-held : (n c : ℕ) → IsHeld (replicate n None) c → ⊥
nothing-held n c h = grind (arith, common_steps, get_or-replicate, get_or_past)

-- no context
pub ordered-replicate : (forest : Forest) (n : ℕ) → forest ≡ replicate n None → HasBindingOrder forest
ordered-replicate forest n e =
    let nothing : HasBindingOrder (replicate n None) = ([], record { newest_first = tt; has_all = λ c h. nothing-held n c h; has_no_more = omega arith }) in
    subst HasBindingOrder (sym e) nothing
