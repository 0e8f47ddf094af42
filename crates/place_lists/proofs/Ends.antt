-- The ends of a row, as a place joins it and leaves it.
use Rattle.std.proofs.Common.{◌≡◌, ◌≢◌, ◌<◌, ℕ, List, [], ◌∷◌, ◌++◌, Option, Some, None, length, refl, sym, ◌∙◌, ap, subst, ◌⊎◌, inl, inr, arith}
use Rattle.std.specs.Prelude.{slice_set}
use Rattle.std.proofs.lemmas.Bool.Decides.{eqb_tells}
use Rattle.std.proofs.lemmas.List.{get_or-set_same, get_or-set_other, length-set}
use Rattle.place_lists.specs.Links.{link_at, set_at, end_moved}
use Rattle.place_lists.specs.Lists.{IsIn, last_from, without}
use Rattle.place_lists.specs.Linked.{IsRow, IsOnce}
use Rattle.place_lists.proofs.Rows.{set_at-other, set_at-same, without-same, without-other, without-none}

pub end_moved-other : (ends : List (Option ℕ)) (list : ℕ) (beyond to : Option ℕ) (m : ℕ) → m ≢ list → link_at (end_moved ends list beyond to) m ≡ link_at ends m
end_moved-other ends list None to m ne = get_or-set_other ends list m to None ne
end_moved-other ends list (Some x) to m ne = refl

pub end_moved-none : (ends : List (Option ℕ)) (list : ℕ) (beyond to : Option ℕ) → beyond ≡ None → list < length ends → link_at (end_moved ends list beyond to) list ≡ to
end_moved-none ends list None to e h = get_or-set_same ends list to None h
end_moved-none ends list (Some x) to e h = cc

pub end_moved-some : (ends : List (Option ℕ)) (list : ℕ) (beyond to : Option ℕ) (x : ℕ) → beyond ≡ Some x → link_at (end_moved ends list beyond to) list ≡ link_at ends list
end_moved-some ends list None to x e = cc
end_moved-some ends list (Some y) to x e = refl

pub length-end_moved : (ends : List (Option ℕ)) (list : ℕ) (beyond to : Option ℕ) → length (end_moved ends list beyond to) ≡ length ends
length-end_moved ends list None to = length-set ends list to
length-end_moved ends list (Some x) to = refl

-- one more at the end
pub IsIn-from_push : (xs : List ℕ) (p y : ℕ) → IsIn (xs ++ p ∷ []) y → IsIn xs y ⊎ (p ≡ y)
IsIn-from_push [] p y (inl e) = inr e
IsIn-from_push [] p y (inr i) = absurd i
IsIn-from_push (x ∷ xs) p y (inl e) = inl (inl e)
IsIn-from_push (x ∷ xs) p y (inr i) = elim (IsIn-from_push xs p y i) [ inl j ↦ inl (inr j) | inr e ↦ inr e ]

pub IsOnce-push : (xs : List ℕ) (p : ℕ) → (IsIn xs p → ⊥) → IsOnce xs → IsOnce (xs ++ p ∷ [])
IsOnce-push [] p out o = (λ i. i, tt)
IsOnce-push (x ∷ xs) p out o = (λ i. elim (IsIn-from_push xs p x i) [ inl j ↦ o.0 j | inr e ↦ out (inl (sym e)) ], IsOnce-push xs p (λ j. out (inr j)) o.1)

pub last-push : (back : Option ℕ) (xs : List ℕ) (p : ℕ) → last_from back (xs ++ p ∷ []) ≡ Some p
last-push back [] p = refl
last-push back (x ∷ xs) p = last-push (Some x) xs p

pub last-in : (x : ℕ) (xs : List ℕ) (y : ℕ) → last_from (Some x) xs ≡ Some y → IsIn (x ∷ xs) y
last-in x [] y e = let same : x ≡ y = cc in inl same
last-in x (z ∷ zs) y e = inr (last-in z zs y e)

pub last-there : (xs : List ℕ) (y : ℕ) → last_from None xs ≡ Some y → IsIn xs y
last-there [] y e = let wrong : None ≡ Some y = e in cc
last-there (x ∷ xs) y e = last-in x xs y e

pub last-some : (x : ℕ) (xs : List ℕ) → (y : ℕ) × (last_from (Some x) xs ≡ Some y)
last-some x [] = (x, refl)
last-some x (z ∷ zs) = last-some z zs

-- a place joins a row at its end
module _ (next previous : List (Option ℕ)) (last : Option ℕ) (p : ℕ) (next_size : p < length next) (previous_size : p < length previous) where
  abbrev pub next_joined : List (Option ℕ)
  next_joined = set_at (slice_set next p None) last (Some p)

  abbrev pub previous_joined : List (Option ℕ)
  previous_joined = slice_set previous p last

  pub next-kept : (y : ℕ) → y ≢ p → (last ≡ Some y → ⊥) → link_at next_joined y ≡ link_at next y
  next-kept y ne out = set_at-other (slice_set next p None) last (Some p) y out ∙ get_or-set_other next p y None None ne

  pub previous-kept : (y : ℕ) → y ≢ p → link_at previous_joined y ≡ link_at previous y
  previous-kept y ne = get_or-set_other previous p y last None ne

  pub previous-own : link_at previous_joined p ≡ last
  previous-own = get_or-set_same previous p last None previous_size

  pub next-own : (last ≡ Some p → ⊥) → link_at next_joined p ≡ None
  next-own out = set_at-other (slice_set next p None) last (Some p) p out ∙ get_or-set_same next p None None next_size

  pub next-last : (y : ℕ) → last ≡ Some y → y < length next → link_at next_joined y ≡ Some p
  next-last y e h = set_at-same (slice_set next p None) last (Some p) y e (omega (arith, length-set next p None))

  pub row_joined : (back from : Option ℕ) (x : ℕ) (xs : List ℕ) → last ≡ last_from (Some x) xs → IsOnce (x ∷ xs) → (IsIn (x ∷ xs) p → ⊥) → ((y : ℕ) → IsIn (x ∷ xs) y → y < length next) →
      IsRow next previous back from (x ∷ xs) → IsRow next_joined previous_joined back from (x ∷ xs ++ p ∷ [])
  row_joined back from x [] e o out within r =
      let own : last ≡ Some p → ⊥ = λ t. let both : Some x ≡ Some p = sym e ∙ t in let same : x ≡ p = cc in out (inl same) in
      (r.0, previous-kept x (λ t. out (inl t)) ∙ r.1, (next-last x e (within x (inl refl)), previous-own ∙ e, next-own own))
  row_joined back from x (z ∷ zs) e o out within r =
      let other : last ≡ Some x → ⊥ = λ t. o.0 (last-in z zs x (sym e ∙ t)) in
      let rest = row_joined (Some x) (link_at next x) z zs e o.1 (λ i. out (inr i)) (λ y i. within y (inr i)) r.2 in
      (r.0, previous-kept x (λ t. out (inl t)) ∙ r.1, subst (λ f. IsRow next_joined previous_joined (Some x) f (z ∷ zs ++ p ∷ [])) (sym (next-kept x (λ t. out (inl t)) other)) rest)

-- the end of a row that a place leaves
module _ (next previous : List (Option ℕ)) (c : ℕ) where
  pub last-left_end : (back from : Option ℕ) (xs : List ℕ) → IsRow next previous back from xs → IsIn xs c → link_at next c ≡ None → last_from back (without c xs) ≡ link_at previous c
  last-left_end back from [] r i e = absurd i
  last-left_end back from (x ∷ []) r i e =
      elim (eqb_tells x c) [
        | inl h ↦ ap (last_from back) (without-same c x [] h.1) ∙ sym r.1 ∙ ap (link_at previous) h.1
        | inr h ↦ elim i [ inl t ↦ absurd (h.1 t) | inr j ↦ absurd j ]
      ]
  last-left_end back from (x ∷ z ∷ zs) r i e =
      elim (eqb_tells x c) [
        | inl h ↦ let wrong : None ≡ Some z = sym e ∙ ap (link_at next) (sym h.1) ∙ r.2.0 in absurd (let no : ⊥ = cc in no)
        | inr h ↦
            let later : IsIn (z ∷ zs) c = elim i [ inl t ↦ absurd (h.1 t) | inr j ↦ j ] in
            ap (last_from back) (without-other c x (z ∷ zs) h.1) ∙ last-left_end (Some x) (link_at next x) (z ∷ zs) r.2 later e
      ]

  pub last-left_more : (back from : Option ℕ) (xs : List ℕ) (y : ℕ) → IsRow next previous back from xs → IsOnce xs → link_at next c ≡ Some y → last_from back (without c xs) ≡ last_from back xs
  last-left_more back from [] y r o e = refl
  last-left_more back from (x ∷ []) y r o e =
      elim (eqb_tells x c) [
        | inl h ↦ let wrong : None ≡ Some y = sym r.2 ∙ ap (link_at next) h.1 ∙ e in absurd (let no : ⊥ = cc in no)
        | inr h ↦ ap (last_from back) (without-other c x [] h.1)
      ]
  last-left_more back from (x ∷ z ∷ zs) y r o e =
      elim (eqb_tells x c) [
        | inl h ↦ ap (last_from back) (without-same c x (z ∷ zs) h.1 ∙ without-none c (z ∷ zs) (λ i. o.0 (subst (λ t. IsIn (z ∷ zs) t) (sym h.1) i)))
        | inr h ↦ ap (last_from back) (without-other c x (z ∷ zs) h.1) ∙ last-left_more (Some x) (link_at next x) (z ∷ zs) y r.2 o.1 e
      ]
