-- The lists when a place joins one of them.
use Rattle.std.proofs.Common.{◌≡◌, ◌≢◌, ◌<◌, ◌≤◌, ◌==◌, ◌⊎◌, ℕ, if◌then◌else◌, List, [], ◌∷◌, ◌++◌, Option, Some, None, length, sym, ◌∙◌, ap, subst, inl, inr, arith}
use Rattle.std.specs.Prelude.{slice_set}
use Rattle.std.proofs.lemmas.Bool.Decides.{eqb_tells}
use Rattle.std.proofs.lemmas.List.{get_or-set_same, get_or-set_other, length-set}
use Rattle.place_lists.specs.Links.{Links, link_at, end_moved, joined}
use Rattle.place_lists.specs.Lists.{IsIn, last_of}
use Rattle.place_lists.specs.Linked.{IsRow, IsOnce, IsLinked}
use Rattle.place_lists.proofs.Rows.{IsRow-same, length-set_at}
use Rattle.place_lists.proofs.Ends.{end_moved-other, end_moved-none, end_moved-some, length-end_moved, IsIn-from_push, IsOnce-push, last-push, last-there, last-some, next_joined, previous_joined}
use Rattle.place_lists.proofs.Ends.{next-kept, previous-kept, previous-own, next-own, row_joined}

pub pushed : (ℕ → List ℕ) → (list place l : ℕ) → List ℕ
pushed f list place l = if l == list then f l ++ place ∷ [] else f l

module _ (links : Links) (f : ℕ → List ℕ) (list p : ℕ) (k : IsLinked links f) (there : list < length links.heads) (has_place : p < length links.next) (free : (l : ℕ) → IsIn (f l) p → ⊥) where
  pub pushed-same : (l : ℕ) → l ≡ list → pushed f list p l ≡ f l ++ p ∷ []
  unfolding pushed
  pushed-same l e = elim (eqb_tells l list) [ inl h ↦ ap (λ b. if b then f l ++ p ∷ [] else f l) h.0 | inr h ↦ absurd (h.1 e) ]

  pub pushed-other : (l : ℕ) → l ≢ list → pushed f list p l ≡ f l
  unfolding pushed
  pushed-other l ne = elim (eqb_tells l list) [ inl h ↦ absurd (ne h.1) | inr h ↦ ap (λ b. if b then f l ++ p ∷ [] else f l) h.0 ]

  last : Option ℕ
  last = link_at links.tails list

  last-is : last ≡ last_of (f list)
  unfolding last
  last-is = k.tails list there

  last-in_list : (y : ℕ) → last ≡ Some y → IsIn (f list) y
  last-in_list y e = last-there (f list) y (sym last-is ∙ e)

  previous_there : p < length links.previous
  previous_there = omega (arith, k.previous_size, has_place)

  abbrev next_after : List (Option ℕ)
  next_after = next_joined links.next links.previous last p has_place previous_there

  abbrev previous_after : List (Option ℕ)
  previous_after = previous_joined links.next links.previous last p has_place previous_there

  abbrev heads_after : List (Option ℕ)
  heads_after = end_moved links.heads list last (Some p)

  kept_next : (y : ℕ) → y ≢ p → (last ≡ Some y → ⊥) → link_at next_after y ≡ link_at links.next y
  kept_next = next-kept links.next links.previous last p has_place previous_there

  kept_previous : (y : ℕ) → y ≢ p → link_at previous_after y ≡ link_at links.previous y
  kept_previous = previous-kept links.next links.previous last p has_place previous_there

  own_next : link_at next_after p ≡ None
  own_next = next-own links.next links.previous last p has_place previous_there (λ e. free list (last-in_list p e))

  own_previous : link_at previous_after p ≡ last
  own_previous = previous-own links.next links.previous last p has_place previous_there

  -- the list that the place joins, by whether there is something in it
  row_of : (xs : List ℕ) → last ≡ last_of xs → IsOnce xs → (IsIn xs p → ⊥) → ((y : ℕ) → IsIn xs y → y < length links.next) → IsRow links.next links.previous None (link_at links.heads list) xs →
      IsRow next_after previous_after None (link_at heads_after list) (xs ++ p ∷ [])
  row_of [] e o out within r = (end_moved-none links.heads list last (Some p) e there, own_previous ∙ e, own_next)
  row_of (x ∷ xs) e o out within r =
      let some = last-some x xs in
      let head : link_at heads_after list ≡ link_at links.heads list = end_moved-some links.heads list last (Some p) some.0 (e ∙ some.1) in
      subst (λ h. IsRow next_after previous_after None h (x ∷ xs ++ p ∷ [])) (sym head)
      (row_joined links.next links.previous last p has_place previous_there None (link_at links.heads list) x xs e o out within r)

  rows_after : (l : ℕ) → l < length links.heads → IsRow next_after previous_after None (link_at heads_after l) (pushed f list p l)
  rows_after l h =
      elim (eqb_tells l list) [
        | inl s ↦
            let own = row_of (f list) last-is (k.once list) (free list) (k.within list) (k.rows list there) in
            let moved : IsRow next_after previous_after None (link_at heads_after l) (f l ++ p ∷ []) =
            subst (λ m. IsRow next_after previous_after None (link_at heads_after m) (f m ++ p ∷ [])) (sym s.1) own in
            subst (λ xs. IsRow next_after previous_after None (link_at heads_after l) xs) (sym (pushed-same l s.1)) moved
        | inr s ↦
            let apart_from : (y : ℕ) → IsIn (f l) y → y ≢ p = λ y i e. free l (subst (λ t. IsIn (f l) t) e i) in
            let not_last : (y : ℕ) → IsIn (f l) y → last ≡ Some y → ⊥ = λ y i e. s.1 (k.apart l list y i (last-in_list y e)) in
            let kept = IsRow-same links.next links.previous next_after previous_after None (link_at links.heads l) (f l) (λ y i. kept_next y (apart_from y i) (not_last y i))
            (λ y i. kept_previous y (apart_from y i)) (k.rows l h) in
            subst (λ xs. IsRow next_after previous_after None (link_at heads_after l) xs) (sym (pushed-other l s.1))
            (subst (λ t. IsRow next_after previous_after None t (f l)) (sym (end_moved-other links.heads list last (Some p) l s.1)) kept)
      ]

  tails_after : (l : ℕ) → l < length links.heads → link_at (slice_set links.tails list (Some p)) l ≡ last_of (pushed f list p l)
  tails_after l h =
      elim (eqb_tells l list) [
        | inl s ↦ ap (link_at (slice_set links.tails list (Some p))) s.1 ∙ get_or-set_same links.tails list (Some p) None (omega (arith, k.tail_size, there)) ∙ sym (last-push None (f l) p) ∙
            ap last_of (sym (pushed-same l s.1))
        | inr s ↦ get_or-set_other links.tails list l (Some p) None s.1 ∙ k.tails l h ∙ ap last_of (sym (pushed-other l s.1))
      ]

  outside_after : (l : ℕ) → length links.heads ≤ l → pushed f list p l ≡ []
  outside_after l h = let ne : l ≢ list = omega arith in pushed-other l ne ∙ k.outside l h

  once_after : (l : ℕ) → IsOnce (pushed f list p l)
  once_after l =
      elim (eqb_tells l list) [
        | inl s ↦ subst IsOnce (sym (pushed-same l s.1)) (IsOnce-push (f l) p (free l) (k.once l))
        | inr s ↦ subst IsOnce (sym (pushed-other l s.1)) (k.once l)
      ]

  -- what is in a list was there, or is the place
  was_there : (l x : ℕ) → IsIn (pushed f list p l) x → IsIn (f l) x ⊎ ((l ≡ list) × (p ≡ x))
  was_there l x i =
      elim (eqb_tells l list) [
        | inl s ↦ elim (IsIn-from_push (f l) p x (subst (λ xs. IsIn xs x) (pushed-same l s.1) i)) [ inl j ↦ inl j | inr e ↦ inr (s.1, e) ]
        | inr s ↦ inl (subst (λ xs. IsIn xs x) (pushed-other l s.1) i)
      ]

  within_after : (l x : ℕ) → IsIn (pushed f list p l) x → x < length links.next
  within_after l x i = elim (was_there l x i) [ inl j ↦ k.within l x j | inr e ↦ subst (λ t. t < length links.next) e.1 has_place ]

  apart_after : (l m x : ℕ) → IsIn (pushed f list p l) x → IsIn (pushed f list p m) x → l ≡ m
  apart_after l m x i j =
      elim (was_there l x i) [
        | inl a ↦ elim (was_there m x j) [
          | inl b ↦ k.apart l m x a b
          | inr b ↦ absurd (free l (subst (λ t. IsIn (f l) t) (sym b.1) a))
        ]
        | inr a ↦ elim (was_there m x j) [
          | inl b ↦ absurd (free m (subst (λ t. IsIn (f m) t) (sym a.1) b))
          | inr b ↦ a.0 ∙ sym b.0
        ]
      ]

  pub IsLinked-joined : IsLinked (joined links list p) (pushed f list p)
  unfolding last
  IsLinked-joined =
      let heads_size : length (end_moved links.heads list (link_at links.tails list) (Some p)) ≡ length links.heads = length-end_moved links.heads list (link_at links.tails list) (Some p) in
      let next_size : length (joined links list p).next ≡ length links.next = length-set_at (slice_set links.next p None) (link_at links.tails list) (Some p) ∙ length-set links.next p None in
      record {
        tail_size = length-set links.tails list (Some p) ∙ k.tail_size ∙ sym heads_size;
        previous_size = length-set links.previous p (link_at links.tails list) ∙ k.previous_size ∙ sym next_size;
        rows = λ l h. rows_after l (omega (arith, heads_size));
        tails = λ l h. tails_after l (omega (arith, heads_size));
        outside = λ l h. outside_after l (omega (arith, heads_size));
        once = once_after;
        within = λ l x i. let low : x < length links.next = within_after l x i in omega (arith, next_size);
        apart = apart_after;
      }

  pub last_there : (y : ℕ) → link_at links.tails list ≡ Some y → y < length links.next
  unfolding last
  last_there y e = k.within list y (last-in_list y e)
