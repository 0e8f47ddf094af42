-- Chains end, and what leaves the parents leaves the chains.
use Rattle.std.proofs.Common.{◌≡◌, ◌≤◌, ◌<◌, ◌==◌, ◌⊎◌, ℕ, zero, suc, true, false, ◌||◌, List, [], ◌∷◌, Option, Some, None, is_some, length, refl, sym, ◌∙◌, ap, subst, inl, inr, arith}
use Rattle.std.specs.List.{list_any}
use Rattle.std.specs.Option.{option_map_or}
use Rattle.std.proofs.lemmas.Bool.Decides.{eqb_tells}
use Rattle.std.proofs.lemmas.List.{get_or_past}
use Rattle.std.proofs.lemmas.List.Sums.{count_by-le-length}
use Rattle.cancel_context.specs.Forest.{Forest, Binding, binding, IsHeld, parent_in, parent, chain_from, chain_for, chain, is_within, asks_in, is_cancelled, IsForest}
use Rattle.cancel_context.specs.Order.{IsIn, ParentIn, IsNewestFirst, HasBindingOrder, IsSound}

pub IsHeld-within : (forest : Forest) (c : ℕ) → IsHeld forest c → c < length forest
IsHeld-within forest c h = grind (arith, get_or_past)

pub IsHeld-parent_in : (o : Option Binding) (p : ℕ) → parent_in o ≡ Some p → is_some o ≡ true
IsHeld-parent_in None p e = cc
IsHeld-parent_in (Some b) p e = refl

-- what stands in an order is held
pub IsHeld-in : (forest : Forest) (order : List ℕ) (c : ℕ) → IsNewestFirst forest order → IsIn order c → IsHeld forest c
IsHeld-in forest [] c s i = absurd i
IsHeld-in forest (x ∷ older) c s (inl e) = subst (λ y. IsHeld forest y) e s.0
IsHeld-in forest (x ∷ older) c s (inr i) = IsHeld-in forest older c s.2 i

-- what a context of an order is bound to stands in the order
pub parent_at : (o : Option ℕ) (older : List ℕ) (p : ℕ) → ParentIn o older → o ≡ Some p → IsIn older p
parent_at None older p i e = cc
parent_at (Some q) older p i e = let same : q ≡ p = cc in subst (λ y. IsIn older y) same i

parent_in_order : (forest : Forest) (order : List ℕ) (c p : ℕ) → IsNewestFirst forest order → IsIn order c → parent forest c ≡ Some p → IsIn order p
parent_in_order forest [] c p s i e = absurd i
parent_in_order forest (x ∷ older) c p s (inl h) e = inr (parent_at (parent forest x) older p s.1 (ap (parent forest) h ∙ e))
parent_in_order forest (x ∷ older) c p s (inr i) e = inr (parent_in_order forest older c p s.2 i e)

pub parents-held : (forest : Forest) → HasBindingOrder forest → (c p : ℕ) → parent forest c ≡ Some p → IsHeld forest p
parents-held forest (order, o) c p e =
    let held : IsHeld forest c = IsHeld-parent_in (binding forest c) p e in
    IsHeld-in forest order p o.newest_first (parent_in_order forest order c p o.newest_first (o.has_all c held) e)

-- two chains above agree if they agree at each context of a list
chain_from-same : (o : Option ℕ) (older : List ℕ) (f g : ℕ → List ℕ) → ParentIn o older → ((p : ℕ) → IsIn older p → f p ≡ g p) → chain_from o f ≡ chain_from o g
chain_from-same None older f g i h = refl
chain_from-same (Some p) older f g i h = h p i

-- A chain is whole within as many steps as an order has contexts.
chain_for-enough : (forest : Forest) (order : List ℕ) (c n m : ℕ) → IsNewestFirst forest order → IsIn order c → length order ≤ n → length order ≤ m → chain_for n forest c ≡ chain_for m forest c
chain_for-enough forest [] c n m s i a b = absurd i
chain_for-enough forest (x ∷ older) c zero m s i a b = absurd (omega arith)
chain_for-enough forest (x ∷ older) c (suc n) zero s i a b = absurd (omega arith)
chain_for-enough forest (x ∷ older) c (suc n) (suc m) s (inl e) a b =
    let above : ParentIn (parent forest c) older = subst (λ y. ParentIn (parent forest y) older) e s.1 in
    let at_n : length older ≤ n = omega arith in
    let at_m : length older ≤ m = omega arith in
    ap (λ l. c ∷ l) (chain_from-same (parent forest c) older (chain_for n forest) (chain_for m forest) above (λ p i. chain_for-enough forest older p n m s.2 i at_n at_m))
chain_for-enough forest (x ∷ older) c (suc n) (suc m) s (inr i) a b = chain_for-enough forest older c (suc n) (suc m) s.2 i (omega arith) (omega arith)

pub chains-follow : (forest : Forest) → HasBindingOrder forest → (c p : ℕ) → parent forest c ≡ Some p → chain forest c ≡ c ∷ chain forest p
chains-follow forest (order, o) c p e =
    let small : length order ≤ length forest = omega (arith, o.has_no_more, count_by-le-length (λ (b : Option Binding). is_some b) forest) in
    let held : IsHeld forest c = IsHeld-parent_in (binding forest c) p e in
    let longer : length order ≤ suc (length forest) = omega arith in
    let step : chain_for (suc (length forest)) forest c ≡ c ∷ chain forest p = ap (λ o. c ∷ chain_from o (chain_for (length forest) forest)) e in
    chain_for-enough forest order c (length forest) (suc (length forest)) o.newest_first (o.has_all c held) small longer ∙ step

-- a context that is bound to none
alone : (forest : Forest) (c n : ℕ) → parent forest c ≡ None → (n ≡ 0 → asks_in (binding forest c) ≡ false) →
    list_any (λ d. asks_in (binding forest d)) (chain_for n forest c) ≡ (asks_in (binding forest c) || false)
alone forest c zero e h = sym (ap (λ b. b || false) (h refl))
alone forest c (suc n) e h = ap (λ o. asks_in (binding forest c) || list_any (λ d. asks_in (binding forest d)) (chain_from o (chain_for n forest))) e

absent : (forest : Forest) (c : ℕ) → length forest ≡ 0 → asks_in (binding forest c) ≡ false
absent forest c e = let past : binding forest c ≡ None = get_or_past forest c None (omega arith) in ap asks_in past

walk_at : (forest : Forest) → HasBindingOrder forest → (c : ℕ) → (o : Option ℕ) → parent forest c ≡ o →
    is_cancelled forest c ≡ (asks_in (binding forest c) || option_map_or (is_cancelled forest) o false)
walk_at forest ordered c None e = alone forest c (length forest) e (absent forest c)
walk_at forest ordered c (Some p) e = ap (list_any (λ d. asks_in (binding forest d))) (chains-follow forest ordered c p e)

-- what is above another context has the shorter chain
module _ (forest : Forest) (ordered : HasBindingOrder forest) (d : ℕ) where
  in_one : (c n : ℕ) → parent forest c ≡ None → list_any (λ x. x == d) (chain_for n forest c) ≡ true → c ≡ d
  in_one c zero e h = cc
  in_one c (suc n) e h =
      elim (eqb_tells c d) [
        | inl t ↦ t.1
        | inr t ↦ let wrong : false ≡ true = sym (ap (λ b. b || false) t.0) ∙ sym (ap (λ o. (c == d) || list_any (λ x. x == d) (chain_from o (chain_for n forest))) e) ∙ h in cc
      ]

  in_more : (c p : ℕ) → chain forest c ≡ c ∷ chain forest p → is_within forest c d ≡ true → (c ≡ d) ⊎ (is_within forest p d ≡ true)
  in_more c p e h =
      elim (eqb_tells c d) [
        | inl t ↦ inl t.1
        | inr t ↦ inr (sym (ap (λ b. b || list_any (λ x. x == d) (chain forest p)) t.0) ∙ sym (ap (list_any (λ x. x == d)) e) ∙ h)
      ]

  shorter_from : (older : List ℕ) → IsNewestFirst forest older → ((c : ℕ) → IsIn older c → is_within forest c d ≡ true → (c ≡ d) ⊎ (length (chain forest d) < length (chain forest c))) →
      (c : ℕ) (o : Option ℕ) → parent forest c ≡ o → ParentIn o older → is_within forest c d ≡ true → (c ≡ d) ⊎ (length (chain forest d) < length (chain forest c))
  shorter_from older s below c None e i h = inl (in_one c (length forest) e h)
  shorter_from older s below c (Some p) e i h =
      let more : chain forest c ≡ c ∷ chain forest p = chains-follow forest ordered c p e in
      let longer : length (chain forest c) ≡ suc (length (chain forest p)) = ap length more in
      elim (in_more c p more h) [
        | inl same ↦ inl same
        | inr w ↦ elim (below p i w) [
          | inl same ↦ let equal : length (chain forest p) ≡ length (chain forest d) = ap (λ x. length (chain forest x)) same in inr (omega arith)
          | inr less ↦ inr (omega arith)
        ]
      ]

  shorter_in : (order : List ℕ) → IsNewestFirst forest order → (c : ℕ) → IsIn order c → is_within forest c d ≡ true → (c ≡ d) ⊎ (length (chain forest d) < length (chain forest c))
  shorter_in [] s c i h = absurd i
  shorter_in (x ∷ older) s c (inl e) h =
      let above : ParentIn (parent forest c) older = subst (λ y. ParentIn (parent forest y) older) e s.1 in
      shorter_from older s.2 (shorter_in older s.2) c (parent forest c) refl above h
  shorter_in (x ∷ older) s c (inr i) h = shorter_in older s.2 c i h

  shorter_at : (c : ℕ) (o : Option ℕ) → parent forest c ≡ o → is_within forest c d ≡ true → (c ≡ d) ⊎ (length (chain forest d) < length (chain forest c))
  shorter_at c None e h = inl (in_one c (length forest) e h)
  shorter_at c (Some p) e h = shorter_in ordered.0 ordered.1.newest_first c (ordered.1.has_all c (IsHeld-parent_in (binding forest c) p e)) h

one-way : (forest : Forest) → HasBindingOrder forest → (c d : ℕ) → is_within forest c d ≡ true → is_within forest d c ≡ true → c ≡ d
one-way forest ordered c d up down =
    elim (shorter_at forest ordered d c (parent forest c) refl up) [
      | inl same ↦ same
      | inr less ↦ elim (shorter_at forest ordered c d (parent forest d) refl down) [ inl same ↦ sym same | inr more ↦ absurd (omega arith) ]
    ]

pub IsForest-ordered : (forest : Forest) → HasBindingOrder forest → IsForest forest
IsForest-ordered forest ordered = record {
  parents = parents-held forest ordered;
  chains = chains-follow forest ordered;
  walk = λ c. walk_at forest ordered c (parent forest c) refl;
  one_way = one-way forest ordered;
}

chain_from-other : (o : Option ℕ) (f g : ℕ → List ℕ) → ((p : ℕ) → f p ≡ g p) → chain_from o f ≡ chain_from o g
chain_from-other None f g h = refl
chain_from-other (Some p) f g h = h p

-- the same parents, the same chains
pub chain_for-same_parents : (forest after : Forest) → ((c : ℕ) → parent after c ≡ parent forest c) → (n c : ℕ) → chain_for n after c ≡ chain_for n forest c
chain_for-same_parents forest after same zero c = refl
chain_for-same_parents forest after same (suc n) c =
    ap (λ o. c ∷ chain_from o (chain_for n after)) (same c) ∙ ap (λ l. c ∷ l) (chain_from-other (parent forest c) (chain_for n after) (chain_for n forest) (chain_for-same_parents forest after same n))

pub IsSound-is : (after forest : Forest) → after ≡ forest → IsSound forest → IsSound after
IsSound-is after forest e s = subst IsSound (sym e) s

pub is_cancelled-is : (after forest : Forest) (d : ℕ) → after ≡ forest → is_cancelled after d ≡ is_cancelled forest d
is_cancelled-is after forest d e = ap (λ (f : Forest). is_cancelled f d) e
