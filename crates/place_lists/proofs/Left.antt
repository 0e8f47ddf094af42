-- The lists when a place leaves the one that it is in.
use Rattle.std.proofs.Common.{◌≡◌, ◌≢◌, ◌<◌, ℕ, List, [], ◌∷◌, Option, Some, None, length, refl, sym, ◌∙◌, ap, subst, inl, inr, arith}
use Rattle.std.proofs.lemmas.Bool.Decides.{eqb_tells}
use Rattle.place_lists.specs.Links.{Links, link_at, end_moved, left}
use Rattle.place_lists.specs.Lists.{IsIn, last_of, without}
use Rattle.place_lists.specs.Linked.{IsRow, IsOnce, IsLinked}
use Rattle.place_lists.proofs.Rows.{set_at-other, length-set_at, without-same, without-other, without-none, IsIn-from_without, IsOnce-without, IsRow-same, after-in, before-in, before-there, next_left}
use Rattle.place_lists.proofs.Rows.{previous_left, left-first, left-later}
use Rattle.place_lists.proofs.Ends.{end_moved-other, end_moved-none, end_moved-some, length-end_moved, last-left_end, last-left_more}

module _ (links : Links) (f : ℕ → List ℕ) (list c : ℕ) (k : IsLinked links f) (there : list < length links.heads) (held : IsIn (f list) c) where
  abbrev next_after : List (Option ℕ)
  next_after = next_left links.next links.previous c

  abbrev previous_after : List (Option ℕ)
  previous_after = previous_left links.next links.previous c

  abbrev heads_after : List (Option ℕ)
  heads_after = end_moved links.heads list (link_at links.previous c) (link_at links.next c)

  abbrev tails_after : List (Option ℕ)
  tails_after = end_moved links.tails list (link_at links.next c) (link_at links.previous c)

  pub before_in : (y : ℕ) → link_at links.previous c ≡ Some y → IsIn (f list) y
  before_in y e = before-there links.next links.previous (link_at links.heads list) (f list) c y (k.rows list there) held e

  pub after_in : (y : ℕ) → link_at links.next c ≡ Some y → IsIn (f list) y
  after_in y e = after-in links.next links.previous None (link_at links.heads list) (f list) c y (k.rows list there) held e

  -- the list that the place leaves, by whether it is the first there
  row_left : (xs : List ℕ) → IsIn xs c → IsRow links.next links.previous None (link_at links.heads list) xs → IsOnce xs →
      ((y : ℕ) → IsIn xs y → (y < length links.next) × (y < length links.previous)) → IsRow next_after previous_after None (link_at heads_after list) (without c xs)
  row_left [] i r o within = absurd i
  row_left (x ∷ xs) i r o within =
      elim (eqb_tells x c) [
        | inl s ↦
            let back : link_at links.previous c ≡ None = ap (link_at links.previous) (sym s.1) ∙ r.1 in
            let rest : IsRow links.next links.previous (Some c) (link_at links.next c) xs = subst (λ t. IsRow links.next links.previous (Some t) (link_at links.next t) xs) s.1 r.2 in
            let moved = left-first links.next links.previous c None xs back (λ y t j. let wrong : None ≡ Some y = t in cc) (λ y j. (within y (inr j)).1) o.1 rest in
            let to : link_at heads_after list ≡ link_at links.next c = end_moved-none links.heads list (link_at links.previous c) (link_at links.next c) back there in
            let gone : without c (x ∷ xs) ≡ xs = without-same c x xs s.1 ∙ without-none c xs (λ j. o.0 (subst (λ t. IsIn xs t) (sym s.1) j)) in
            subst (λ t. IsRow next_after previous_after None (link_at heads_after list) t) (sym gone) (subst (λ t. IsRow next_after previous_after None t xs) (sym to) moved)
        | inr s ↦
            let later : IsIn xs c = elim i [ inl t ↦ absurd (s.1 t) | inr j ↦ j ] in
            let earlier = before-in links.next links.previous None (link_at links.heads list) x xs c r later in
            let to : link_at heads_after list ≡ link_at links.heads list = end_moved-some links.heads list (link_at links.previous c) (link_at links.next c) earlier.0 earlier.1.0 in
            let moved = left-later links.next links.previous c None (link_at links.heads list) x xs within o s.1 later r in
            subst (λ t. IsRow next_after previous_after None (link_at heads_after list) t) (sym (without-other c x xs s.1))
            (subst (λ t. IsRow next_after previous_after None t (x ∷ without c xs)) (sym to) moved)
      ]

  not_in : (l : ℕ) → l ≢ list → IsIn (f l) c → ⊥
  not_in l ne i = ne (k.apart l list c i held)

  rows_after : (l : ℕ) → l < length links.heads → IsRow next_after previous_after None (link_at heads_after l) (without c (f l))
  rows_after l h =
      elim (eqb_tells l list) [
        | inl s ↦
            let own = row_left (f list) held (k.rows list there) (k.once list) (λ y i. let low : y < length links.next = k.within list y i in (low, omega (arith, k.previous_size))) in
            subst (λ m. IsRow next_after previous_after None (link_at heads_after m) (without c (f m))) (sym s.1) own
        | inr s ↦
            let n : (y : ℕ) → IsIn (f l) y → link_at next_after y ≡ link_at links.next y =
            λ y i. set_at-other links.next (link_at links.previous c) (link_at links.next c) y (λ e. s.1 (k.apart l list y i (before_in y e))) in
            let v : (y : ℕ) → IsIn (f l) y → link_at previous_after y ≡ link_at links.previous y =
            λ y i. set_at-other links.previous (link_at links.next c) (link_at links.previous c) y (λ e. s.1 (k.apart l list y i (after_in y e))) in
            let kept = IsRow-same links.next links.previous next_after previous_after None (link_at links.heads l) (f l) n v (k.rows l h) in
            subst (λ t. IsRow next_after previous_after None (link_at heads_after l) t) (sym (without-none c (f l) (not_in l s.1)))
            (subst (λ t. IsRow next_after previous_after None t (f l)) (sym (end_moved-other links.heads list (link_at links.previous c) (link_at links.next c) l s.1)) kept)
      ]

  tail_own : (o : Option ℕ) → link_at links.next c ≡ o → link_at tails_after list ≡ last_of (without c (f list))
  tail_own None e =
      end_moved-none links.tails list (link_at links.next c) (link_at links.previous c) e (omega (arith, k.tail_size, there)) ∙
      sym (last-left_end links.next links.previous c None (link_at links.heads list) (f list) (k.rows list there) held e)
  tail_own (Some y) e =
      end_moved-some links.tails list (link_at links.next c) (link_at links.previous c) y e ∙ k.tails list there ∙
      sym (last-left_more links.next links.previous c None (link_at links.heads list) (f list) y (k.rows list there) (k.once list) e)

  tail_after : (l : ℕ) → l < length links.heads → link_at tails_after l ≡ last_of (without c (f l))
  tail_after l h =
      elim (eqb_tells l list) [
        | inl s ↦ subst (λ m. link_at tails_after m ≡ last_of (without c (f m))) (sym s.1) (tail_own (link_at links.next c) refl)
        | inr s ↦ end_moved-other links.tails list (link_at links.next c) (link_at links.previous c) l s.1 ∙ k.tails l h ∙ ap last_of (sym (without-none c (f l) (not_in l s.1)))
      ]

  pub IsLinked-left : IsLinked (left links list c) (λ l. without c (f l))
  IsLinked-left =
      let heads_size : length (left links list c).heads ≡ length links.heads = length-end_moved links.heads list (link_at links.previous c) (link_at links.next c) in
      let next_size : length (left links list c).next ≡ length links.next = length-set_at links.next (link_at links.previous c) (link_at links.next c) in
      record {
        tail_size = length-end_moved links.tails list (link_at links.next c) (link_at links.previous c) ∙ k.tail_size ∙ sym heads_size;
        previous_size = length-set_at links.previous (link_at links.next c) (link_at links.previous c) ∙ k.previous_size ∙ sym next_size;
        rows = λ l h. rows_after l (omega (arith, heads_size));
        tails = λ l h. tail_after l (omega (arith, heads_size));
        outside = λ l h. ap (without c) (k.outside l (omega (arith, heads_size)));
        once = λ l. IsOnce-without c (f l) (k.once l);
        within = λ l x i. let low : x < length links.next = k.within l x (IsIn-from_without c x (f l) i).0 in omega (arith, next_size);
        apart = λ l m x i j. k.apart l m x (IsIn-from_without c x (f l) i).0 (IsIn-from_without c x (f m) j).0;
      }

  pub without-elsewhere : (l : ℕ) → l ≢ list → without c (f l) ≡ f l
  without-elsewhere l ne = without-none c (f l) (not_in l ne)
