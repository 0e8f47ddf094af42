-- The lists of those bound to each context, as contexts come and go.
use Rattle.std.proofs.Common.{◌≡◌, ◌≢◌, ◌<◌, ◌==◌, ◌⊎◌, ℕ, Bool, true, false, if◌then◌else◌, List, [], ◌∷◌, Option, Some, None, is_some, length, refl, sym, ◌∙◌, ap, subst, inl, inr, arith}
use Rattle.std.specs.Prelude.{slice_set, replicate}
use Rattle.std.proofs.lemmas.Bool.Decides.{eqb_tells}
use Rattle.std.proofs.lemmas.List.{get_or-set_same, get_or-set_other, length-set, get_or-replicate, length-replicate, get_or_past}
use Rattle.cancel_context.specs.Forest.{Forest, Binding, binding, IsHeld, parent_in, parent, leaving, without_parent, with_bound, with_request, without}
use Rattle.cancel_context.specs.Order.{IsIn, HasBindingOrder}
use Rattle.cancel_context.specs.Below.{next_of, Links, HasPlace, set_at, emptied, joined, first_left, left, IsRow, IsOnce, AreBelow, IsLinked}
use Rattle.cancel_context.proofs.Chains.{IsHeld-within, IsHeld-parent_in, parents-held}
use Rattle.cancel_context.proofs.Bound.{apart, binding-with_bound, binding-with_bound_other}
use Rattle.cancel_context.proofs.Requests.{parent-with_request, is_some-with_request}
use Rattle.cancel_context.proofs.Released.{except, IsIn-except, binding-without, binding-without_other, held_other, not_released, length-without}
use Rattle.cancel_context.proofs.Rows.{set_at-other, set_at-same, length-set_at, except-same, except-other, except-none, IsIn-from_except, IsOnce-except, IsRow-same, after-in, before-in, next_left}
use Rattle.cancel_context.proofs.Rows.{previous_left, left-first, left-later, before-apart, head-in}

-- what is in a list is held, and bound to the list's context alone
pub held-below : (forest : Forest) (links : Links) (below : ℕ → List ℕ) → AreBelow forest links below → (p x : ℕ) → IsHeld forest p → IsIn (below p) x → IsHeld forest x
held-below forest links below l p x held i = IsHeld-parent_in (binding forest x) p (l.bound p x held i)

pub place-held : (forest : Forest) (links : Links) (below : ℕ → List ℕ) → AreBelow forest links below → (x : ℕ) → IsHeld forest x → HasPlace links x
place-held forest links below l x held =
    let within : x < length forest = IsHeld-within forest x held in
    record { in_first = omega (arith, l.first_size); in_next = omega (arith, l.next_size); in_previous = omega (arith, l.previous_size) }

-- the same parents
pub IsLinked-with_request : (forest : Forest) (c : ℕ) (asked : Bool) (links : Links) → IsHeld forest c → IsLinked forest links → IsLinked (with_request forest c asked) links
IsLinked-with_request forest c asked links held l =
    let size : length (with_request forest c asked) ≡ length forest = length-set forest c _ in
    let before : (d : ℕ) → IsHeld (with_request forest c asked) d → IsHeld forest d = λ d h. sym (is_some-with_request forest c asked held d) ∙ h in
    record {
      below = l.below;
      lists = record {
        first_size = l.lists.first_size ∙ sym size;
        next_size = l.lists.next_size ∙ sym size;
        previous_size = l.lists.previous_size ∙ sym size;
        rows = λ p h. l.lists.rows p (before p h);
        once = λ p h. l.lists.once p (before p h);
        bound = λ p x h i. parent-with_request forest c asked held x ∙ l.lists.bound p x (before p h) i;
        all = λ p x e. l.lists.all p x (sym (parent-with_request forest c asked held x) ∙ e);
      };
    }

pub IsLinked-replicate : (n : ℕ) → IsLinked (replicate n None) (record { first = replicate n None; next = replicate n None; previous = replicate n None })
IsLinked-replicate n =
    let sizes : length (replicate {A = Option ℕ} n None) ≡ length (replicate {A = Option Binding} n None) = length-replicate n None ∙ sym (length-replicate n None) in
    let nothing : (c : ℕ) → binding (replicate n None) c ≡ None = λ c. grind (arith, get_or-replicate, get_or_past, length-replicate) in
    let none : (c : ℕ) → IsHeld (replicate n None) c → ⊥ = λ c h. let wrong : false ≡ true = sym (ap is_some (nothing c)) ∙ h in cc in
    record {
      below = λ p. [];
      lists = record {
        first_size = sizes;
        next_size = sizes;
        previous_size = sizes;
        rows = λ p h. absurd (none p h);
        once = λ p h. tt;
        bound = λ p x h i. absurd i;
        all = λ p x e. let wrong : None ≡ Some p = sym (ap parent_in (nothing x)) ∙ e in cc;
      };
    }

-- The lists when a context is bound: it is the first of its parent's, and its own is empty.
grown : (ℕ → List ℕ) → ℕ → Option ℕ → ℕ → List ℕ
grown below c None q = if q == c then [] else below q
grown below c (Some p) q = if q == c then [] else (if q == p then c ∷ below q else below q)

module _ (below : ℕ → List ℕ) (c : ℕ) where
  grown-own : (o : Option ℕ) (q : ℕ) → q ≡ c → grown below c o q ≡ []
  unfolding grown
  grown-own None q e = elim (eqb_tells q c) [ inl h ↦ ap (λ b. if b then [] else below q) h.0 | inr h ↦ absurd (h.1 e) ]
  grown-own (Some p) q e = elim (eqb_tells q c) [ inl h ↦ ap (λ b. if b then [] else (if q == p then c ∷ below q else below q)) h.0 | inr h ↦ absurd (h.1 e) ]

  grown-parent : (o : Option ℕ) (q : ℕ) → q ≢ c → o ≡ Some q → grown below c o q ≡ c ∷ below q
  unfolding grown
  grown-parent None q ne e = cc
  grown-parent (Some p) q ne e =
      let same : q ≡ p = cc in
      elim (eqb_tells q c) [
        | inl h ↦ absurd (ne h.1)
        | inr h ↦ elim (eqb_tells q p) [
          | inl t ↦ ap (λ b. if b then [] else (if q == p then c ∷ below q else below q)) h.0 ∙ ap (λ b. if b then c ∷ below q else below q) t.0
          | inr t ↦ absurd (t.1 same)
        ]
      ]

  grown-other : (o : Option ℕ) (q : ℕ) → q ≢ c → (o ≡ Some q → ⊥) → grown below c o q ≡ below q
  unfolding grown
  grown-other None q ne out = elim (eqb_tells q c) [ inl h ↦ absurd (ne h.1) | inr h ↦ ap (λ b. if b then [] else below q) h.0 ]
  grown-other (Some p) q ne out =
      elim (eqb_tells q c) [
        | inl h ↦ absurd (ne h.1)
        | inr h ↦ elim (eqb_tells q p) [
          | inl t ↦ absurd (out (ap Some (sym t.1)))
          | inr t ↦ ap (λ b. if b then [] else (if q == p then c ∷ below q else below q)) h.0 ∙ ap (λ b. if b then c ∷ below q else below q) t.0
        ]
      ]

-- is a context the one that another is bound to?
pub is_parent : (o : Option ℕ) (q : ℕ) → (o ≡ Some q) ⊎ (o ≡ Some q → ⊥)
is_parent None q = inr (λ e. cc)
is_parent (Some p) q = elim (eqb_tells p q) [ inl h ↦ inl (ap Some h.1) | inr h ↦ inr (λ e. h.1 (let same : p ≡ q = cc in same)) ]

module _ (forest : Forest) (c : ℕ) (o : Option ℕ) (links : Links) (below : ℕ → List ℕ) (within : c < length forest) (free : binding forest c ≡ None) (parents : (q : ℕ) → o ≡ Some q → IsHeld forest q)
    (ordered : HasBindingOrder forest) (l : AreBelow forest links below) where
  held_before : (q : ℕ) → q ≢ c → IsHeld (with_bound forest c o) q → IsHeld forest q
  held_before q ne h = sym (ap is_some (binding-with_bound_other forest c o q ne)) ∙ h

  not_below : (q y : ℕ) → IsHeld forest q → IsIn (below q) y → y ≢ c
  not_below q y h i = apart forest c y free (held-below forest links below l q y h i)

  once_grown : (q : ℕ) → IsHeld (with_bound forest c o) q → IsOnce (grown below c o q)
  once_grown q h =
      elim (eqb_tells q c) [
        | inl e ↦ subst IsOnce (sym (grown-own below c o q e.1)) tt
        | inr e ↦ let held = held_before q e.1 h in elim (is_parent o q) [
          | inl t ↦ subst IsOnce (sym (grown-parent below c o q e.1 t)) (λ i. not_below q c held i refl, l.once q held)
          | inr t ↦ subst IsOnce (sym (grown-other below c o q e.1 t)) (l.once q held)
        ]
      ]

  parent_own : parent (with_bound forest c o) c ≡ o
  parent_own = ap parent_in (binding-with_bound forest c o within)

  parent_other : (x : ℕ) → x ≢ c → parent (with_bound forest c o) x ≡ parent forest x
  parent_other x ne = ap parent_in (binding-with_bound_other forest c o x ne)

  bound_grown : (q x : ℕ) → IsHeld (with_bound forest c o) q → IsIn (grown below c o q) x → parent (with_bound forest c o) x ≡ Some q
  bound_grown q x h i =
      elim (eqb_tells q c) [
        | inl e ↦ absurd (subst (λ t. IsIn t x) (grown-own below c o q e.1) i)
        | inr e ↦ let held = held_before q e.1 h in elim (is_parent o q) [
          | inl t ↦ elim (subst (λ t. IsIn t x) (grown-parent below c o q e.1 t) i) [
            | inl s ↦ ap (parent (with_bound forest c o)) (sym s) ∙ parent_own ∙ t
            | inr j ↦ parent_other x (not_below q x held j) ∙ l.bound q x held j
          ]
          | inr t ↦ let j = subst (λ t. IsIn t x) (grown-other below c o q e.1 t) i in parent_other x (not_below q x held j) ∙ l.bound q x held j
        ]
      ]

  all_grown : (q x : ℕ) → parent (with_bound forest c o) x ≡ Some q → IsIn (grown below c o q) x
  all_grown q x e =
      elim (eqb_tells x c) [
        | inl s ↦
            let to : o ≡ Some q = sym parent_own ∙ ap (parent (with_bound forest c o)) (sym s.1) ∙ e in
            subst (λ t. IsIn t x) (sym (grown-parent below c o q (apart forest c q free (parents q to)) to)) (inl (sym s.1))
        | inr s ↦
            let to : parent forest x ≡ Some q = sym (parent_other x s.1) ∙ e in
            let ne : q ≢ c = apart forest c q free (parents-held forest ordered x q to) in
            elim (is_parent o q) [
              | inl t ↦ subst (λ t. IsIn t x) (sym (grown-parent below c o q ne t)) (inr (l.all q x to))
              | inr t ↦ subst (λ t. IsIn t x) (sym (grown-other below c o q ne t)) (l.all q x to)
            ]
      ]

  size_grown : length (with_bound forest c o) ≡ length forest
  size_grown = length-set forest c _

  with_rows : (after : Links) → length after.first ≡ length links.first → length after.next ≡ length links.next → length after.previous ≡ length links.previous →
      ((q : ℕ) → IsHeld (with_bound forest c o) q → IsRow after.next after.previous None (next_of after.first q) (grown below c o q)) → IsLinked (with_bound forest c o) after
  with_rows after f n p rows = record {
    below = grown below c o;
    lists = record {
      first_size = f ∙ l.first_size ∙ sym size_grown;
      next_size = n ∙ l.next_size ∙ sym size_grown;
      previous_size = p ∙ l.previous_size ∙ sym size_grown;
      rows = rows;
      once = once_grown;
      bound = bound_grown;
      all = all_grown;
    };
  }

  first_own : next_of (slice_set links.first c None) c ≡ None
  first_own = get_or-set_same links.first c None None (omega (arith, l.first_size))

  -- bound to none
  rows_alone : o ≡ None → (q : ℕ) → IsHeld (with_bound forest c o) q → IsRow links.next links.previous None (next_of (slice_set links.first c None) q) (grown below c o q)
  rows_alone none q h =
      elim (eqb_tells q c) [
        | inl e ↦ subst (λ t. IsRow links.next links.previous None (next_of (slice_set links.first c None) q) t) (sym (grown-own below c o q e.1))
            (ap (next_of (slice_set links.first c None)) e.1 ∙ first_own)
        | inr e ↦
            let out : o ≡ Some q → ⊥ = λ t. let wrong : None ≡ Some q = sym none ∙ t in cc in
            subst (λ t. IsRow links.next links.previous None (next_of (slice_set links.first c None) q) t) (sym (grown-other below c o q e.1 out))
            (subst (λ f. IsRow links.next links.previous None f (below q)) (sym (get_or-set_other links.first c q None None e.1)) (l.rows q (held_before q e.1 h)))
      ]

  -- bound to another
  module _ (p : ℕ) (is_parent_of : o ≡ Some p) where
    follower : Option ℕ
    follower = next_of (slice_set links.first c None) p

    next_after : List (Option ℕ)
    next_after = slice_set links.next c follower

    previous_after : List (Option ℕ)
    previous_after = set_at (slice_set links.previous c None) follower (Some c)

    first_after : List (Option ℕ)
    first_after = slice_set (slice_set links.first c None) p (Some c)

    parent_held : IsHeld forest p
    parent_held = parents p is_parent_of

    parent_apart : p ≢ c
    parent_apart = apart forest c p free parent_held

    follower-is : follower ≡ next_of links.first p
    unfolding follower
    follower-is = get_or-set_other links.first c p None None parent_apart

    follower-below : (y : ℕ) → follower ≡ Some y → IsIn (below p) y
    follower-below y e = head-in links.next links.previous None (next_of links.first p) (below p) y (l.rows p parent_held) (sym follower-is ∙ e)

    next-kept : (y : ℕ) → y ≢ c → next_of next_after y ≡ next_of links.next y
    unfolding next_after
    next-kept y ne = get_or-set_other links.next c y follower None ne

    previous-kept : (y : ℕ) → y ≢ c → (follower ≡ Some y → ⊥) → next_of previous_after y ≡ next_of links.previous y
    unfolding previous_after
    previous-kept y ne out = set_at-other (slice_set links.previous c None) follower (Some c) y out ∙ get_or-set_other links.previous c y None None ne

    previous-own : next_of previous_after c ≡ None
    unfolding previous_after
    previous-own = set_at-other (slice_set links.previous c None) follower (Some c) c (λ e. not_below p c parent_held (follower-below c e) refl) ∙
        get_or-set_same links.previous c None None (omega (arith, l.previous_size))

    previous-follower : (y : ℕ) → follower ≡ Some y → next_of previous_after y ≡ Some c
    unfolding previous_after
    previous-follower y e =
        let inside : y < length forest = IsHeld-within forest y (held-below forest links below l p y parent_held (follower-below y e)) in
        set_at-same (slice_set links.previous c None) follower (Some c) y e (omega (arith, l.previous_size, length-set links.previous c None))

    row_joined : (xs : List ℕ) → IsOnce xs → ((y : ℕ) → IsIn xs y → y ≢ c) → IsRow links.next links.previous None follower xs → IsRow next_after previous_after (Some c) follower xs
    row_joined [] once out r = r
    row_joined (x ∷ xs) once out r =
        let other : (y : ℕ) → IsIn xs y → follower ≡ Some y → ⊥ = λ y i e. let both : Some x ≡ Some y = sym r.0 ∙ e in let same : x ≡ y = cc in once.0 (subst (λ t. IsIn xs t) (sym same) i) in (
          r.0,
          previous-follower x r.0,
          subst (λ f. IsRow next_after previous_after (Some x) f xs) (sym (next-kept x (out x (inl refl))))
              (IsRow-same links.next links.previous next_after previous_after (Some x) (next_of links.next x) xs (λ y i. next-kept y (out y (inr i)))
              (λ y i. previous-kept y (out y (inr i)) (other y i)) r.2),
        )

    row_own : next_of first_after c ≡ None
    unfolding first_after
    row_own = get_or-set_other (slice_set links.first c None) p c (Some c) None (λ e. parent_apart (sym e)) ∙ first_own

    first-kept : (q : ℕ) → q ≢ c → q ≢ p → next_of first_after q ≡ next_of links.first q
    unfolding first_after
    first-kept q ne other = get_or-set_other (slice_set links.first c None) p q (Some c) None other ∙ get_or-set_other links.first c q None None ne

    first-parent : next_of first_after p ≡ Some c
    unfolding first_after
    first-parent = let inside : p < length forest = IsHeld-within forest p parent_held in
        get_or-set_same (slice_set links.first c None) p (Some c) None (omega (arith, l.first_size, length-set links.first c None))

    next-own : next_of next_after c ≡ follower
    unfolding next_after
    next-own = get_or-set_same links.next c follower None (omega (arith, l.next_size))

    rows_under : (q : ℕ) → IsHeld (with_bound forest c o) q → IsRow next_after previous_after None (next_of first_after q) (grown below c o q)
    rows_under q h =
        elim (eqb_tells q c) [
          | inl e ↦ subst (λ t. IsRow next_after previous_after None (next_of first_after q) t) (sym (grown-own below c o q e.1)) (ap (next_of first_after) e.1 ∙ row_own)
          | inr e ↦ let held = held_before q e.1 h in elim (eqb_tells q p) [
            | inl s ↦
                let to : o ≡ Some q = is_parent_of ∙ ap Some (sym s.1) in
                let row : IsRow links.next links.previous None follower (below q) =
                subst (λ f. IsRow links.next links.previous None f (below q)) (ap (next_of links.first) s.1 ∙ sym follower-is) (l.rows q held) in
                let moved : IsRow next_after previous_after (Some c) (next_of next_after c) (below q) =
                subst (λ f. IsRow next_after previous_after (Some c) f (below q)) (sym next-own) (row_joined (below q) (l.once q held) (λ y i. not_below q y held i) row) in
                subst (λ t. IsRow next_after previous_after None (next_of first_after q) t) (sym (grown-parent below c o q e.1 to)) (ap (next_of first_after) s.1 ∙ first-parent, previous-own, moved)
            | inr s ↦
                let out : o ≡ Some q → ⊥ = λ t. let both : Some p ≡ Some q = sym is_parent_of ∙ t in s.1 (let same : q ≡ p = cc in same) in
                let apart_from : (y : ℕ) → IsIn (below q) y → follower ≡ Some y → ⊥ = λ y i t. let both : Some q ≡ Some p = sym (l.bound q y held i) ∙ l.bound p y parent_held (follower-below y t) in
                s.1 (let same : q ≡ p = cc in same) in
                subst (λ t. IsRow next_after previous_after None (next_of first_after q) t) (sym (grown-other below c o q e.1 out))
                (subst (λ f. IsRow next_after previous_after None f (below q)) (sym (first-kept q e.1 s.1))
                (IsRow-same links.next links.previous next_after previous_after None (next_of links.first q) (below q) (λ y i. next-kept y (not_below q y held i))
                (λ y i. previous-kept y (not_below q y held i) (apart_from y i)) (l.rows q held)))
          ]
        ]

    linked_under : IsLinked (with_bound forest c o) (joined links c (Some p))
    unfolding next_after previous_after first_after follower
    linked_under = with_rows (joined links c (Some p)) (length-set (slice_set links.first c None) p (Some c) ∙ length-set links.first c None) (length-set links.next c _)
        (length-set_at (slice_set links.previous c None) _ (Some c) ∙ length-set links.previous c None) rows_under

pub IsLinked-with_bound : (forest : Forest) (c : ℕ) (o : Option ℕ) (links : Links) → c < length forest → binding forest c ≡ None → ((q : ℕ) → o ≡ Some q → IsHeld forest q) → HasBindingOrder forest →
    IsLinked forest links → IsLinked (with_bound forest c o) (joined links c o)
IsLinked-with_bound forest c None links within free parents ordered l =
    with_rows forest c None links l.below within free parents ordered l.lists (joined links c None) (length-set links.first c None) refl refl
    (rows_alone forest c None links l.below within free parents ordered l.lists refl)
IsLinked-with_bound forest c (Some p) links within free parents ordered l = linked_under forest c (Some p) links l.below within free parents ordered l.lists p refl

-- what is bound to another context than the one that goes stays so
stays_in : (c p : ℕ) (b : Binding) (o : Option ℕ) → b.parent ≡ o → p ≢ c → o ≡ Some p → (leaving c b o).parent ≡ Some p
stays_in c p b None at ne e = cc
stays_in c p b (Some q) at ne e =
    elim (eqb_tells q c) [
      | inl h ↦ let both : Some q ≡ Some p = e in let same : q ≡ p = cc in absurd (ne (sym same ∙ h.1))
      | inr h ↦ ap (λ t. (if t then record { parent = None; is_asked = b.is_asked; is_orphan = true } else b).parent) h.0 ∙ at ∙ e
    ]

stays : (c p : ℕ) (b : Option Binding) → p ≢ c → parent_in b ≡ Some p → parent_in (without_parent c b) ≡ Some p
stays c p None ne e = e
stays c p (Some b) ne e = stays_in c p b b.parent refl ne e

was_in : (c p : ℕ) (b : Binding) (o : Option ℕ) → b.parent ≡ o → (leaving c b o).parent ≡ Some p → (o ≡ Some p) × (p ≢ c)
was_in c p b None at e = let wrong : None ≡ Some p = sym at ∙ e in cc
was_in c p b (Some q) at e =
    elim (eqb_tells q c) [
      | inl h ↦ let wrong : None ≡ Some p = sym (ap (λ t. (if t then record { parent = None; is_asked = b.is_asked; is_orphan = true } else b).parent) h.0) ∙ e in cc
      | inr h ↦
          let both : Some q ≡ Some p = sym at ∙ sym (ap (λ t. (if t then record { parent = None; is_asked = b.is_asked; is_orphan = true } else b).parent) h.0) ∙ e in
          let same : q ≡ p = cc in
          (both, λ t. h.1 (same ∙ t))
    ]

pub was : (c p : ℕ) (b : Option Binding) → parent_in (without_parent c b) ≡ Some p → (parent_in b ≡ Some p) × (p ≢ c)
was c p None e = let wrong : None ≡ Some p = e in cc
was c p (Some b) e = was_in c p b b.parent refl e

-- a context that leaves its parent's list, and goes
module _ (forest : Forest) (c : ℕ) (links : Links) (below : ℕ → List ℕ) (held : IsHeld forest c) (l : AreBelow forest links below) where
  pub not_own : (p : ℕ) → parent forest c ≡ Some p → IsHeld forest p → (y : ℕ) → IsIn (below p) y → (y < length links.next) × (y < length links.previous)
  not_own p e h y i =
      let inside : y < length forest = IsHeld-within forest y (held-below forest links below l p y h i) in
      (omega (arith, l.next_size), omega (arith, l.previous_size))

  -- the links of a row that the context is in, by whether it is the first
  row_left : (p : ℕ) → parent forest c ≡ Some p → IsHeld forest p → (xs : List ℕ) → below p ≡ xs → IsIn xs c → IsRow links.next links.previous None (next_of links.first p) xs → IsOnce xs →
      ((y : ℕ) → IsIn xs y → (y < length links.next) × (y < length links.previous)) →
      IsRow (next_left links.next links.previous c) (previous_left links.next links.previous c) None (next_of (first_left links.first p (next_of links.previous c) (next_of links.next c)) p)
      (except c xs)
  row_left p e h [] is i r o within = absurd i
  row_left p e h (x ∷ xs) is i r o within =
      elim (eqb_tells x c) [
        | inl s ↦
            let back : next_of links.previous c ≡ None = ap (next_of links.previous) (sym s.1) ∙ r.1 in
            let rest : IsRow links.next links.previous (Some c) (next_of links.next c) xs = subst (λ t. IsRow links.next links.previous (Some t) (next_of links.next t) xs) s.1 r.2 in
            let moved = left-first links.next links.previous c None xs back (λ y t j. let wrong : None ≡ Some y = t in cc) (λ y j. (within y (inr j)).1) o.1 rest in
            let inside : p < length links.first = let low = IsHeld-within forest p h in omega (arith, l.first_size) in
            let to : next_of (first_left links.first p (next_of links.previous c) (next_of links.next c)) p ≡ next_of links.next c =
            ap (λ b. next_of (first_left links.first p b (next_of links.next c)) p) back ∙ get_or-set_same links.first p (next_of links.next c) None inside in
            let gone : except c (x ∷ xs) ≡ xs = except-same c x xs s.1 ∙ except-none c xs (λ j. o.0 (subst (λ t. IsIn xs t) (sym s.1) j)) in
            subst (λ t. IsRow (next_left links.next links.previous c) (previous_left links.next links.previous c) None
            (next_of (first_left links.first p (next_of links.previous c) (next_of links.next c)) p) t) (sym gone)
            (subst (λ f. IsRow (next_left links.next links.previous c) (previous_left links.next links.previous c) None f xs) (sym to) moved)
        | inr s ↦
            let later : IsIn xs c = elim i [ inl t ↦ absurd (s.1 t) | inr j ↦ j ] in
            let before = before-in links.next links.previous None (next_of links.first p) x xs c r later in
            let to : next_of (first_left links.first p (next_of links.previous c) (next_of links.next c)) p ≡ next_of links.first p =
            ap (λ b. next_of (first_left links.first p b (next_of links.next c)) p) before.1.0 in
            let moved = left-later links.next links.previous c None (next_of links.first p) x xs within o s.1 later r in
            subst (λ t. IsRow (next_left links.next links.previous c) (previous_left links.next links.previous c) None
            (next_of (first_left links.first p (next_of links.previous c) (next_of links.next c)) p) t) (sym (except-other c x xs s.1))
            (subst (λ f. IsRow (next_left links.next links.previous c) (previous_left links.next links.previous c) None f (x ∷ except c xs)) (sym to) moved)
      ]

  -- what comes before and after the context is in its parent's list
  pub before_there : (p : ℕ) → parent forest c ≡ Some p → IsHeld forest p → (xs : List ℕ) → below p ≡ xs → (y : ℕ) → next_of links.previous c ≡ Some y → IsIn (below p) y × (y ≢ c)
  before_there p e h [] is y at = absurd (subst (λ t. IsIn t c) is (l.all p c e))
  before_there p e h (x ∷ xs) is y at =
      let r = subst (λ t. IsRow links.next links.previous None (next_of links.first p) t) is (l.rows p h) in
      let o = subst IsOnce is (l.once p h) in
      elim (subst (λ t. IsIn t c) is (l.all p c e)) [
        | inl s ↦ let wrong : None ≡ Some y = sym r.1 ∙ ap (next_of links.previous) s ∙ at in absurd (let no : ⊥ = cc in no)
        | inr i ↦
            let there = before-in links.next links.previous None (next_of links.first p) x xs c r i in
            let both : Some there.0 ≡ Some y = sym there.1.0 ∙ at in
            let same : there.0 ≡ y = cc in
            let ne : y ≢ c = λ t. before-apart links.next links.previous None (next_of links.first p) x xs c o r i (at ∙ ap Some t) in
            (subst (λ t. IsIn t y) (sym is) (subst (λ t. IsIn (x ∷ xs) t) same there.1.1), ne)
      ]

  pub after_there : (p : ℕ) → parent forest c ≡ Some p → IsHeld forest p → (y : ℕ) → next_of links.next c ≡ Some y → IsIn (below p) y
  after_there p e h y at = after-in links.next links.previous None (next_of links.first p) (below p) c y (l.rows p h) (l.all p c e) at

  held_still : (q : ℕ) → IsHeld (without forest c) q → IsHeld forest q
  held_still q h = sym (held_other forest c q (not_released forest c q held h)) ∙ h

  without_row : (q : ℕ) → IsHeld forest q → (parent forest c ≡ Some q → ⊥) → except c (below q) ≡ below q
  without_row q h out = except-none c (below q) (λ i. out (l.bound q c h i))

  with_left : (after : Links) → length after.first ≡ length links.first → length after.next ≡ length links.next → length after.previous ≡ length links.previous →
      ((q : ℕ) → IsHeld forest q → IsRow after.next after.previous None (next_of after.first q) (except c (below q))) → IsLinked (without forest c) after
  with_left after f n p rows = record {
    below = λ q. except c (below q);
    lists = record {
      first_size = f ∙ l.first_size ∙ sym (length-without forest c);
      next_size = n ∙ l.next_size ∙ sym (length-without forest c);
      previous_size = p ∙ l.previous_size ∙ sym (length-without forest c);
      rows = λ q h. rows q (held_still q h);
      once = λ q h. IsOnce-except c (below q) (l.once q (held_still q h));
      bound = λ q x h i.
          let there = IsIn-from_except c x (below q) i in
          ap parent_in (binding-without_other forest c x there.1) ∙ stays c q (binding forest x) (not_released forest c q held h) (l.bound q x (held_still q h) there.0);
      all = λ q x e.
          let here : x ≢ c = λ t. let wrong : None ≡ Some q = sym (ap parent_in (binding-without forest c held)) ∙ ap (parent (without forest c)) (sym t) ∙ e in cc in
          let there = was c q (binding forest x) (sym (ap parent_in (binding-without_other forest c x here)) ∙ e) in
          IsIn-except c x (below q) (l.all q x there.0) here;
    };
  }

  module _ (p : ℕ) (e : parent forest c ≡ Some p) (h : IsHeld forest p) where
    kept_next : next_of (next_left links.next links.previous c) c ≡ next_of links.next c
    kept_next = set_at-other links.next (next_of links.previous c) (next_of links.next c) c (λ t. (before_there p e h (below p) refl c t).1 refl)

    previous-is : set_at links.previous (next_of (next_left links.next links.previous c) c) (next_of links.previous c) ≡ previous_left links.next links.previous c
    previous-is = ap (λ a. set_at links.previous a (next_of links.previous c)) kept_next

    first_other : (b : Option ℕ) (q : ℕ) → q ≢ p → next_of (first_left links.first p b (next_of links.next c)) q ≡ next_of links.first q
    first_other None q ne = get_or-set_other links.first p q (next_of links.next c) None ne
    first_other (Some b) q ne = refl

    first_size-left : (b : Option ℕ) → length (first_left links.first p b (next_of links.next c)) ≡ length links.first
    first_size-left None = length-set links.first p _
    first_size-left (Some b) = refl

    elsewhere : (q y : ℕ) → q ≢ p → IsHeld forest q → IsIn (below q) y → IsIn (below p) y → ⊥
    elsewhere q y ne hq i j = let both : Some q ≡ Some p = sym (l.bound q y hq i) ∙ l.bound p y h j in ne (let same : q ≡ p = cc in same)

    rows_left : (q : ℕ) → IsHeld forest q →
        IsRow (next_left links.next links.previous c) (previous_left links.next links.previous c) None (next_of (first_left links.first p (next_of links.previous c) (next_of links.next c)) q)
        (except c (below q))
    rows_left q hq =
        elim (eqb_tells q p) [
          | inl s ↦
              let at : parent forest c ≡ Some q = e ∙ ap Some (sym s.1) in
              subst (λ t. IsRow (next_left links.next links.previous c) (previous_left links.next links.previous c) None
              (next_of (first_left links.first t (next_of links.previous c) (next_of links.next c)) q) (except c (below q))) s.1
              (row_left q at hq (below q) refl (l.all q c at) (l.rows q hq) (l.once q hq) (not_own q at hq))
          | inr s ↦
              let out : parent forest c ≡ Some q → ⊥ = λ t. let both : Some p ≡ Some q = sym e ∙ t in s.1 (let same : q ≡ p = cc in same) in
              let n : (y : ℕ) → IsIn (below q) y → next_of (next_left links.next links.previous c) y ≡ next_of links.next y =
              λ y i. set_at-other links.next (next_of links.previous c) (next_of links.next c) y (λ t. elsewhere q y s.1 hq i (before_there p e h (below p) refl y t).0) in
              let v : (y : ℕ) → IsIn (below q) y → next_of (previous_left links.next links.previous c) y ≡ next_of links.previous y =
              λ y i. set_at-other links.previous (next_of links.next c) (next_of links.previous c) y (λ t. elsewhere q y s.1 hq i (after_there p e h y t)) in
              subst (λ t. IsRow (next_left links.next links.previous c) (previous_left links.next links.previous c) None
              (next_of (first_left links.first p (next_of links.previous c) (next_of links.next c)) q) t) (sym (without_row q hq out))
              (subst (λ f. IsRow (next_left links.next links.previous c) (previous_left links.next links.previous c) None f (below q)) (sym (first_other (next_of links.previous c) q s.1))
              (IsRow-same links.next links.previous (next_left links.next links.previous c) (previous_left links.next links.previous c) None (next_of links.first q) (below q) n v (l.rows q hq)))
        ]

    linked_left : IsLinked (without forest c) (left links c (Some p))
    linked_left = with_left (left links c (Some p)) (first_size-left (next_of links.previous c)) (length-set_at links.next (next_of links.previous c) (next_of links.next c))
        (length-set_at links.previous _ (next_of links.previous c))
        (λ q hq. subst (λ t. IsRow (next_left links.next links.previous c) t None (next_of (first_left links.first p (next_of links.previous c) (next_of links.next c)) q) (except c (below q)))
        (sym previous-is) (rows_left q hq))

IsLinked-left : (forest : Forest) (c : ℕ) (links : Links) (o : Option ℕ) → parent forest c ≡ o → IsHeld forest c → HasBindingOrder forest → IsLinked forest links →
    IsLinked (without forest c) (left links c o)
IsLinked-left forest c links None e held ordered l =
    with_left forest c links l.below held l.lists links refl refl refl
    (λ q h. subst (λ t. IsRow links.next links.previous None (next_of links.first q) t) (sym (without_row forest c links l.below held l.lists q h (λ t. let wrong : None ≡ Some q = sym e ∙ t in cc)))
    (l.lists.rows q h))
IsLinked-left forest c links (Some p) e held ordered l = linked_left forest c links l.below held l.lists p e (parents-held forest ordered c p e)

pub IsLinked-without : (forest : Forest) (c : ℕ) (links : Links) → IsHeld forest c → HasBindingOrder forest → IsLinked forest links → IsLinked (without forest c) (left links c (parent forest c))
IsLinked-without forest c links held ordered l = IsLinked-left forest c links (parent forest c) refl held ordered l

-- what the calls on the lists ask for
pub join-follower : (forest : Forest) (c : ℕ) (o : Option ℕ) (links : Links) → binding forest c ≡ None → ((q : ℕ) → o ≡ Some q → IsHeld forest q) → IsLinked forest links → (p : ℕ) → o ≡ Some p →
    (y : ℕ) → next_of (emptied links c).first p ≡ Some y → HasPlace links y
join-follower forest c o links free parents l p e y at =
    let held = parents p e in
    let first : next_of links.first p ≡ Some y = sym (get_or-set_other links.first c p None None (apart forest c p free held)) ∙ at in
    place-held forest links l.below l.lists y
    (held-below forest links l.below l.lists p y held (head-in links.next links.previous None (next_of links.first p) (l.below p) y (l.lists.rows p held) first))

pub leave-before : (forest : Forest) (c : ℕ) (links : Links) → IsHeld forest c → HasBindingOrder forest → IsLinked forest links → (p : ℕ) → parent forest c ≡ Some p → (y : ℕ) →
    next_of links.previous c ≡ Some y → HasPlace links y
leave-before forest c links held ordered l p e y at =
    let h = parents-held forest ordered c p e in
    place-held forest links l.below l.lists y (held-below forest links l.below l.lists p y h (before_there forest c links l.below held l.lists p e h (l.below p) refl y at).0)

pub leave-after : (forest : Forest) (c : ℕ) (links : Links) → IsHeld forest c → HasBindingOrder forest → IsLinked forest links → (p : ℕ) → parent forest c ≡ Some p → (y : ℕ) →
    next_of links.next c ≡ Some y → HasPlace links y
leave-after forest c links held ordered l p e y at =
    let h = parents-held forest ordered c p e in
    place-held forest links l.below l.lists y (held-below forest links l.below l.lists p y h (after_there forest c links l.below held l.lists p e h y at))

pub leave-apart : (forest : Forest) (c : ℕ) (links : Links) → IsHeld forest c → HasBindingOrder forest → IsLinked forest links → (p : ℕ) → parent forest c ≡ Some p → next_of links.previous c ≢ Some c
leave-apart forest c links held ordered l p e at = (before_there forest c links l.below held l.lists p e (parents-held forest ordered c p e) (l.below p) refl c at).1 refl
