-- The rows that wait, and filters of them.
use Rattle.std.proofs.Common.{◌≡◌, ◌⊎◌, ◌==◌, ◌&&◌, Bool, true, false, ℕ, suc, if◌then◌else◌, List, [], ◌∷◌, ◌++◌, refl, sym, ◌∙◌, ap, subst, inl, inr, filter, arith}
use Rattle.std.specs.Prelude.{All}
use Rattle.std.proofs.lemmas.Bool.Decides.{eqb_tells}
use Rattle.region_tag.specs.declared.row_id.RowId.{RowId}
use Rattle.region_tag.specs.Region.{is_same}
use Rattle.place_lists.specs.Lists.{IsIn}
use Rattle.ready_pool.specs.declared.pool.Waiting.{Waiting}
use Rattle.ready_pool.specs.Parts.{Waits, positions_of}

pub tells : (b : Bool) → (b ≡ true) ⊎ (b ≡ false)
tells true = inl refl
tells false = inr refl

pub filter-yes : {A : Type 0} (f : A → Bool) (x : A) (xs : List A) → f x ≡ true → filter f (x ∷ xs) ≡ x ∷ filter f xs
filter-yes f x xs e = ap (λ b. if b then x ∷ filter f xs else filter f xs) e

pub filter-no : {A : Type 0} (f : A → Bool) (x : A) (xs : List A) → f x ≡ false → filter f (x ∷ xs) ≡ filter f xs
filter-no f x xs e = ap (λ b. if b then x ∷ filter f xs else filter f xs) e

pub Waits-of_All : (P : Waiting → Type 0) (rows : List Waiting) → All P rows → (w : Waiting) → Waits rows w → P w
Waits-of_All P [] every w i = absurd i
Waits-of_All P (x ∷ xs) every w (inl e) = subst P e (every 0 x (omega arith))
Waits-of_All P (x ∷ xs) every w (inr i) = Waits-of_All P xs (λ k d below. every (suc k) d (omega arith)) w i

pub Waits-append : (rows : List Waiting) (w v : Waiting) → Waits (rows ++ w ∷ []) v → Waits rows v ⊎ (w ≡ v)
Waits-append [] w v (inl e) = inr e
Waits-append [] w v (inr i) = absurd i
Waits-append (x ∷ xs) w v (inl e) = inl (inl e)
Waits-append (x ∷ xs) w v (inr i) = elim (Waits-append xs w v i) [ inl j ↦ inl (inr j) | inr e ↦ inr e ]

pub Waits-before : (rows : List Waiting) (w v : Waiting) → Waits rows v → Waits (rows ++ w ∷ []) v
Waits-before [] w v i = absurd i
Waits-before (x ∷ xs) w v (inl e) = inl e
Waits-before (x ∷ xs) w v (inr i) = inr (Waits-before xs w v i)

pub Waits-last : (rows : List Waiting) (w : Waiting) → Waits (rows ++ w ∷ []) w
Waits-last [] w = inl refl
Waits-last (x ∷ xs) w = inr (Waits-last xs w)

module _ (f : Waiting → Bool) where
  pub Waits-filter : (rows : List Waiting) (v : Waiting) → Waits (filter f rows) v → Waits rows v × (f v ≡ true)
  Waits-filter [] v i = absurd i
  Waits-filter (x ∷ xs) v i =
      elim (tells (f x)) [
        | inl h ↦ elim (subst (λ l. Waits l v) (filter-yes f x xs h) i) [
          | inl e ↦ (inl e, ap f (sym e) ∙ h)
          | inr j ↦ let there = Waits-filter xs v j in (inr there.0, there.1)
        ]
        | inr h ↦ let there = Waits-filter xs v (subst (λ l. Waits l v) (filter-no f x xs h) i) in (inr there.0, there.1)
      ]

  pub Waits-kept : (rows : List Waiting) (v : Waiting) → Waits rows v → f v ≡ true → Waits (filter f rows) v
  Waits-kept [] v i h = absurd i
  Waits-kept (x ∷ xs) v (inl e) h = subst (λ l. Waits l v) (sym (filter-yes f x xs (ap f e ∙ h))) (inl e)
  Waits-kept (x ∷ xs) v (inr i) h =
      elim (tells (f x)) [
        | inl g ↦ subst (λ l. Waits l v) (sym (filter-yes f x xs g)) (inr (Waits-kept xs v i h))
        | inr g ↦ subst (λ l. Waits l v) (sym (filter-no f x xs g)) (Waits-kept xs v i h)
      ]

  pub filter-every : (rows : List Waiting) → ((w : Waiting) → Waits rows w → f w ≡ true) → filter f rows ≡ rows
  filter-every [] every = refl
  filter-every (x ∷ xs) every = filter-yes f x xs (every x (inl refl)) ∙ ap (λ l. x ∷ l) (filter-every xs (λ w i. every w (inr i)))

  pub filter-none : (rows : List Waiting) → ((w : Waiting) → Waits rows w → f w ≡ false) → filter f rows ≡ []
  filter-none [] none = refl
  filter-none (x ∷ xs) none = filter-no f x xs (none x (inl refl)) ∙ filter-none xs (λ w i. none w (inr i))

  pub filter-as : (g : Waiting → Bool) (rows : List Waiting) → ((w : Waiting) → Waits rows w → f w ≡ g w) → filter f rows ≡ filter g rows
  filter-as g [] same = refl
  filter-as g (x ∷ xs) same =
      let rest = filter-as g xs (λ w i. same w (inr i)) in
      elim (tells (f x)) [
        | inl h ↦ filter-yes f x xs h ∙ ap (λ l. x ∷ l) rest ∙ sym (filter-yes g x xs (sym (same x (inl refl)) ∙ h))
        | inr h ↦ filter-no f x xs h ∙ rest ∙ sym (filter-no g x xs (sym (same x (inl refl)) ∙ h))
      ]

  pub filter-filter : (g : Waiting → Bool) (rows : List Waiting) → filter f (filter g rows) ≡ filter (λ w. g w && f w) rows
  filter-filter g [] = refl
  filter-filter g (x ∷ xs) =
      let rest = filter-filter g xs in
      elim (tells (g x)) [
        | inl h ↦
            let at : filter f (filter g (x ∷ xs)) ≡ filter f (x ∷ filter g xs) = ap (filter f) (filter-yes g x xs h) in
            elim (tells (f x)) [
              | inl e ↦ at ∙ filter-yes f x (filter g xs) e ∙ ap (λ l. x ∷ l) rest ∙ sym (filter-yes (λ w. g w && f w) x xs (ap (λ b. b && f x) h ∙ e))
              | inr e ↦ at ∙ filter-no f x (filter g xs) e ∙ rest ∙ sym (filter-no (λ w. g w && f w) x xs (ap (λ b. b && f x) h ∙ e))
            ]
        | inr h ↦ ap (filter f) (filter-no g x xs h) ∙ rest ∙ sym (filter-no (λ w. g w && f w) x xs (ap (λ b. b && f x) h))
      ]

module _ (seat : Waiting → ℕ) where
  pub IsIn-position : (rows : List Waiting) (p : ℕ) → IsIn (positions_of seat rows) p → (w : Waiting) × (Waits rows w × (seat w ≡ p))
  IsIn-position [] p i = absurd i
  IsIn-position (x ∷ xs) p (inl e) = (x, (inl refl, e))
  IsIn-position (x ∷ xs) p (inr i) = let there = IsIn-position xs p i in (there.0, (inr there.1.0, there.1.1))

  pub position-IsIn : (rows : List Waiting) (w : Waiting) → Waits rows w → IsIn (positions_of seat rows) (seat w)
  position-IsIn [] w i = absurd i
  position-IsIn (x ∷ xs) w (inl e) = inl (ap seat e)
  position-IsIn (x ∷ xs) w (inr i) = inr (position-IsIn xs w i)

abbrev row_id : (number place : ℕ) → RowId
row_id number place = record { number = number; place = place }

pub row-same : (r s : RowId) → r.number ≡ s.number → r.place ≡ s.place → r ≡ s
row-same r s number place = ap (λ n. row_id n r.place) number ∙ ap (row_id s.number) place

and-first : (a b : Bool) → (a && b) ≡ true → a ≡ true
and-first true b e = refl
and-first false b e = e

and-second : (a b : Bool) → (a && b) ≡ true → b ≡ true
and-second true b e = e
and-second false b e = cc

is-eqb : (n m : ℕ) → (n == m) ≡ true → n ≡ m
is-eqb n m e = elim (eqb_tells n m) [ inl h ↦ h.1 | inr h ↦ let wrong : true ≡ false = sym e ∙ h.0 in cc ]

pub same-row : (r s : RowId) → is_same r s ≡ true → r ≡ s
same-row r s e =
    let number : r.number ≡ s.number = is-eqb r.number s.number (and-first (r.number == s.number) (r.place == s.place) e) in
    let place : r.place ≡ s.place = is-eqb r.place s.place (and-second (r.number == s.number) (r.place == s.place) e) in
    row-same r s number place
