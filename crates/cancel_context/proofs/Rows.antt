-- Rows of links: one that stays, and one that a context leaves.
use Rattle.std.proofs.Common.{◌≡◌, ◌≢◌, ◌≤◌, ◌<◌, ◌+◌, ℕ, zero, suc, if◌then◌else◌, List, [], ◌∷◌, Option, Some, None, length, refl, sym, ◌∙◌, ap, subst, inl, inr, arith}
use Rattle.std.specs.Prelude.{slice_set}
use Rattle.std.proofs.lemmas.Bool.Decides.{eqb_tells}
use Rattle.std.proofs.lemmas.List.{get_or-set_same, get_or-set_other, length-set}
use Rattle.cancel_context.specs.Order.{IsIn}
use Rattle.cancel_context.specs.Below.{next_of, set_at, IsRow, IsOnce}
use Rattle.cancel_context.proofs.Released.{except}

pub set_at-other : (links : List (Option ℕ)) (at to : Option ℕ) (x : ℕ) → (at ≡ Some x → ⊥) → next_of (set_at links at to) x ≡ next_of links x
set_at-other links None to x ne = refl
set_at-other links (Some c) to x ne = get_or-set_other links c x to None (λ e. ne (ap Some (sym e)))

pub set_at-same : (links : List (Option ℕ)) (at to : Option ℕ) (x : ℕ) → at ≡ Some x → x < length links → next_of (set_at links at to) x ≡ to
set_at-same links None to x e h = cc
set_at-same links (Some c) to x e h =
    let same : c ≡ x = cc in
    subst (λ y. next_of (slice_set links y to) x ≡ to) (sym same) (get_or-set_same links x to None h)

pub length-set_at : (links : List (Option ℕ)) (at to : Option ℕ) → length (set_at links at to) ≡ length links
length-set_at links None to = refl
length-set_at links (Some c) to = length-set links c to

pub except-same : (c x : ℕ) (xs : List ℕ) → x ≡ c → except c (x ∷ xs) ≡ except c xs
unfolding except
except-same c x xs e = elim (eqb_tells x c) [ inl h ↦ ap (λ b. if b then except c xs else x ∷ except c xs) h.0 | inr h ↦ absurd (h.1 e) ]

pub except-other : (c x : ℕ) (xs : List ℕ) → x ≢ c → except c (x ∷ xs) ≡ x ∷ except c xs
unfolding except
except-other c x xs ne = elim (eqb_tells x c) [ inl h ↦ absurd (ne h.1) | inr h ↦ ap (λ b. if b then except c xs else x ∷ except c xs) h.0 ]

pub except-none : (c : ℕ) (xs : List ℕ) → (IsIn xs c → ⊥) → except c xs ≡ xs
unfolding except
except-none c [] out = refl
except-none c (x ∷ xs) out = except-other c x xs (λ e. out (inl e)) ∙ ap (λ l. x ∷ l) (except-none c xs (λ i. out (inr i)))

pub IsIn-from_except : (c d : ℕ) (xs : List ℕ) → IsIn (except c xs) d → IsIn xs d × (d ≢ c)
unfolding except
IsIn-from_except c d [] i = absurd i
IsIn-from_except c d (x ∷ xs) i =
    elim (eqb_tells x c) [
      | inl h ↦ let there = IsIn-from_except c d xs (subst (λ l. IsIn l d) (except-same c x xs h.1) i) in (inr there.0, there.1)
      | inr h ↦ elim (subst (λ l. IsIn l d) (except-other c x xs h.1) i) [
        | inl e ↦ (inl e, λ t. h.1 (e ∙ t))
        | inr j ↦ let there = IsIn-from_except c d xs j in (inr there.0, there.1)
      ]
    ]

pub IsOnce-except : (c : ℕ) (xs : List ℕ) → IsOnce xs → IsOnce (except c xs)
unfolding except
IsOnce-except c [] o = tt
IsOnce-except c (x ∷ xs) o =
    elim (eqb_tells x c) [
      | inl h ↦ subst IsOnce (sym (except-same c x xs h.1)) (IsOnce-except c xs o.1)
      | inr h ↦ subst IsOnce (sym (except-other c x xs h.1)) (λ i. o.0 (IsIn-from_except c x xs i).0, IsOnce-except c xs o.1)
    ]

-- what does not touch a row leaves it
pub IsRow-same : (next previous next_after previous_after : List (Option ℕ)) (back from : Option ℕ) (xs : List ℕ) → ((x : ℕ) → IsIn xs x → next_of next_after x ≡ next_of next x) →
    ((x : ℕ) → IsIn xs x → next_of previous_after x ≡ next_of previous x) → IsRow next previous back from xs → IsRow next_after previous_after back from xs
IsRow-same next previous next_after previous_after back from [] n p r = r
IsRow-same next previous next_after previous_after back from (x ∷ xs) n p r = (
  r.0,
  p x (inl refl) ∙ r.1,
  subst (λ f. IsRow next_after previous_after (Some x) f xs) (sym (n x (inl refl)))
      (IsRow-same next previous next_after previous_after (Some x) (next_of next x) xs (λ y i. n y (inr i)) (λ y i. p y (inr i)) r.2),
)

-- what follows one of a row is in the row
pub after-in : (next previous : List (Option ℕ)) (back from : Option ℕ) (xs : List ℕ) (c y : ℕ) → IsRow next previous back from xs → IsIn xs c → next_of next c ≡ Some y → IsIn xs y
after-in next previous back from [] c y r i e = absurd i
after-in next previous back from (x ∷ []) c y r (inl h) e = let wrong : None ≡ Some y = sym r.2 ∙ ap (next_of next) h ∙ e in cc
after-in next previous back from (x ∷ z ∷ zs) c y r (inl h) e = let same : Some z ≡ Some y = sym r.2.0 ∙ ap (next_of next) h ∙ e in let there : z ≡ y = cc in inr (inl there)
after-in next previous back from (x ∷ xs) c y r (inr i) e = inr (after-in next previous (Some x) (next_of next x) xs c y r.2 i e)

-- what comes before one that is not the first is in the row
pub before-in : (next previous : List (Option ℕ)) (back from : Option ℕ) (x : ℕ) (xs : List ℕ) (c : ℕ) → IsRow next previous back from (x ∷ xs) → IsIn xs c →
    (y : ℕ) × ((next_of previous c ≡ Some y) × IsIn (x ∷ xs) y)
before-in next previous back from x [] c r i = absurd i
before-in next previous back from x (z ∷ zs) c r (inl h) = (x, (ap (next_of previous) (sym h) ∙ r.2.1, inl refl))
before-in next previous back from x (z ∷ zs) c r (inr i) = let there = before-in next previous (Some x) (next_of next x) z zs c r.2 i in (there.0, (there.1.0, inr there.1.1))

-- and it is another
pub before-apart : (next previous : List (Option ℕ)) (back from : Option ℕ) (x : ℕ) (xs : List ℕ) (c : ℕ) → IsOnce (x ∷ xs) → IsRow next previous back from (x ∷ xs) → IsIn xs c →
    next_of previous c ≢ Some c
before-apart next previous back from x [] c o r i e = absurd i
before-apart next previous back from x (z ∷ zs) c o r (inl h) e =
    let at : Some c ≡ Some x = sym e ∙ ap (next_of previous) (sym h) ∙ r.2.1 in
    let same : c ≡ x = cc in
    o.0 (inl (h ∙ same))
before-apart next previous back from x (z ∷ zs) c o r (inr i) e = before-apart next previous (Some x) (next_of next x) z zs c o.1 r.2 i e

-- the first of a row is in it
pub head-in : (next previous : List (Option ℕ)) (back from : Option ℕ) (xs : List ℕ) (y : ℕ) → IsRow next previous back from xs → from ≡ Some y → IsIn xs y
head-in next previous back from [] y r e = let wrong : None ≡ Some y = sym r ∙ e in cc
head-in next previous back from (x ∷ xs) y r e = let same : Some x ≡ Some y = sym r.0 ∙ e in let there : x ≡ y = cc in inl there

length-once : (c : ℕ) (xs : List ℕ) → IsOnce xs → length xs ≤ length (except c xs) + 1
length-once c [] o = omega arith
length-once c (x ∷ xs) o =
    elim (eqb_tells x c) [
      | inl h ↦ let rest : length (except c (x ∷ xs)) ≡ length xs = ap length (except-same c x xs h.1 ∙ except-none c xs (λ i. o.0 (subst (λ y. IsIn xs y) (sym h.1) i))) in omega arith
      | inr h ↦ let rest : length (except c (x ∷ xs)) ≡ suc (length (except c xs)) = ap length (except-other c x xs h.1) in omega (arith, length-once c xs o.1)
    ]

-- numbers below n, each once, are at most n
pub length-once-le : (n : ℕ) (xs : List ℕ) → IsOnce xs → ((x : ℕ) → IsIn xs x → x < n) → length xs ≤ n
length-once-le zero [] o h = omega arith
length-once-le zero (x ∷ xs) o h = let wrong : x < zero = h x (inl refl) in absurd (omega arith)
length-once-le (suc n) xs o h =
    let rest = length-once-le n (except n xs) (IsOnce-except n xs o) (λ x i. let there = IsIn-from_except n x xs i in let low : x < suc n = h x there.0 in let ne : x ≢ n = there.1 in omega arith) in
    omega (arith, length-once n xs o)

-- how many follow from a place on
pub steps : (left : ℕ) → List (Option ℕ) → Option ℕ → ℕ
steps zero next from = 0
steps (suc n) next None = 0
steps (suc n) next (Some x) = suc (steps n next (next_of next x))

pub steps-row : (n : ℕ) (next previous : List (Option ℕ)) (back from : Option ℕ) (xs : List ℕ) → IsRow next previous back from xs → length xs ≤ n → steps n next from ≡ length xs
unfolding steps
steps-row zero next previous back from [] r h = refl
steps-row zero next previous back from (x ∷ xs) r h = absurd (omega arith)
steps-row (suc n) next previous back from [] r h = ap (steps (suc n) next) r
steps-row (suc n) next previous back from (x ∷ xs) r h =
    let low : length xs ≤ n = omega arith in
    ap (steps (suc n) next) r.0 ∙ ap suc (steps-row n next previous (Some x) (next_of next x) xs r.2 low)

-- a context leaves its row
module _ (next previous : List (Option ℕ)) (c : ℕ) where
  abbrev pub next_left : List (Option ℕ)
  next_left = set_at next (next_of previous c) (next_of next c)

  abbrev pub previous_left : List (Option ℕ)
  previous_left = set_at previous (next_of next c) (next_of previous c)

  pub left-first : (back : Option ℕ) (xs : List ℕ) → next_of previous c ≡ back → ((y : ℕ) → back ≡ Some y → IsIn xs y → ⊥) → ((y : ℕ) → IsIn xs y → y < length previous) → IsOnce xs →
      IsRow next previous (Some c) (next_of next c) xs → IsRow next_left previous_left back (next_of next c) xs
  left-first back [] b apart within o r = r
  left-first back (z ∷ zs) b apart within o r =
      let same_next : (y : ℕ) → IsIn (z ∷ zs) y → next_of next_left y ≡ next_of next y = λ y i. set_at-other next (next_of previous c) (next_of next c) y (λ e. apart y (sym b ∙ e) i) in
      let other : (y : ℕ) → IsIn zs y → next_of next c ≡ Some y → ⊥ = λ y i e. let same : z ≡ y = let first = r.0 in cc in o.0 (subst (λ t. IsIn zs t) (sym same) i) in (
        r.0,
        set_at-same previous (next_of next c) (next_of previous c) z r.0 (within z (inl refl)) ∙ b,
        subst (λ f. IsRow next_left previous_left (Some z) f zs) (sym (same_next z (inl refl)))
            (IsRow-same next previous next_left previous_left (Some z) (next_of next z) zs (λ y i. same_next y (inr i))
            (λ y i. set_at-other previous (next_of next c) (next_of previous c) y (other y i)) r.2),
      )

  pub left-later : (back from : Option ℕ) (x : ℕ) (xs : List ℕ) → ((y : ℕ) → IsIn (x ∷ xs) y → (y < length next) × (y < length previous)) → IsOnce (x ∷ xs) → x ≢ c → IsIn xs c →
      IsRow next previous back from (x ∷ xs) → IsRow next_left previous_left back from (x ∷ except c xs)
  left-later back from x [] within o ne i r = absurd i
  left-later back from x (z ∷ zs) within o ne i r =
      let after : next_of next c ≡ Some x → ⊥ = λ e. o.0 (after-in next previous (Some x) (next_of next x) (z ∷ zs) c x r.2 i e) in
      let kept : next_of previous_left x ≡ back = set_at-other previous (next_of next c) (next_of previous c) x after ∙ r.1 in
      elim (eqb_tells z c) [
        | inl h ↦
            let at : next_of next c ≡ next_of next z = ap (next_of next) (sym h.1) in
            let b : next_of previous c ≡ Some x = ap (next_of previous) (sym h.1) ∙ r.2.1 in
            let out : IsIn zs c → ⊥ = λ j. o.1.0 (subst (λ t. IsIn zs t) (sym h.1) j) in
            let rest : IsRow next previous (Some c) (next_of next c) zs = subst (λ t. IsRow next previous (Some t) (next_of next t) zs) h.1 r.2.2 in
            let moved : IsRow next_left previous_left (Some x) (next_of next c) zs =
            left-first (Some x) zs b (λ y e j. let same : x ≡ y = cc in o.0 (inr (subst (λ t. IsIn zs t) (sym same) j))) (λ y j. (within y (inr (inr j))).1) o.1.1 rest in
            let to : next_of next_left x ≡ next_of next c = set_at-same next (next_of previous c) (next_of next c) x b (within x (inl refl)).0 in (
              r.0,
              kept,
              subst (λ l. IsRow next_left previous_left (Some x) (next_of next_left x) l) (sym (except-same c z zs h.1 ∙ except-none c zs out))
                  (subst (λ f. IsRow next_left previous_left (Some x) f zs) (sym to) moved),
            )
        | inr h ↦
            let later : IsIn zs c = elim i [ inl e ↦ absurd (h.1 e) | inr j ↦ j ] in
            let before = before-in next previous (Some x) (next_of next x) z zs c r.2 later in
            let to : next_of next_left x ≡ next_of next x =
            set_at-other next (next_of previous c) (next_of next c) x (λ e. let same : before.0 ≡ x = let at = before.1.0 in cc in o.0 (subst (λ t. IsIn (z ∷ zs) t) same before.1.1)) in
            let moved = left-later (Some x) (next_of next x) z zs (λ y j. within y (inr j)) o.1 h.1 later r.2 in (
              r.0,
              kept,
              subst (λ l. IsRow next_left previous_left (Some x) (next_of next_left x) l) (sym (except-other c z zs h.1))
                  (subst (λ f. IsRow next_left previous_left (Some x) f (z ∷ except c zs)) (sym to) moved),
            )
      ]
