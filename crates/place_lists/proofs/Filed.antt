-- Places that are filed elsewhere, or in no list any more.
use Rattle.std.proofs.Common.{◌≡◌, ◌≢◌, ◌<◌, ◌+◌, ◌⊎◌, ℕ, Bool, true, false, if◌then◌else◌, List, [], ◌∷◌, ◌++◌, Option, Some, None, length, replicate, refl, sym, ◌∙◌, ap, subst, inl, inr, arith}
use Rattle.std.specs.Prelude.{slice_set}
use Rattle.std.proofs.lemmas.Bool.Decides.{eqb_tells}
use Rattle.std.proofs.lemmas.List.{get_or-set_same, get_or-set_other, get_or_past, get_or-replicate, length-set, length-replicate}
use Rattle.std.proofs.lemmas.List.Sums.{sum_by-set}
use Rattle.place_lists.specs.Links.{link_at}
use Rattle.place_lists.specs.Lists.{Lists, IsIn, first_of, list_in, without}
use Rattle.place_lists.specs.Filing.{Filing, filed_in, with_filed, is_list, filed_count, AreFiled}
use Rattle.place_lists.proofs.Rows.{without-same, without-other, IsIn-from_without}
use Rattle.place_lists.proofs.Ends.{IsIn-from_push}
use Rattle.place_lists.proofs.Views.{is_below}

-- the first of a list is in it, and a list without a first is empty
pub first-in : (xs : List ℕ) (p : ℕ) → first_of xs ≡ Some p → IsIn xs p
first-in [] p e = cc
first-in (x ∷ xs) p e = inl cc

pub first-none : (xs : List ℕ) (p : ℕ) → first_of xs ≡ None → IsIn xs p → ⊥
first-none [] p e i = i
first-none (x ∷ xs) p e i = cc

IsIn-without : (c d : ℕ) (xs : List ℕ) → d ≢ c → IsIn xs d → IsIn (without c xs) d
IsIn-without c d [] ne i = absurd i
IsIn-without c d (x ∷ xs) ne i =
    elim (eqb_tells x c) [
      | inl s ↦ subst (λ l. IsIn l d) (sym (without-same c x xs s.1)) (elim i [ inl e ↦ absurd (ne (sym e ∙ s.1)) | inr j ↦ IsIn-without c d xs ne j ])
      | inr o ↦ subst (λ l. IsIn l d) (sym (without-other c x xs o.1)) (elim i [ inl e ↦ inl e | inr j ↦ inr (IsIn-without c d xs ne j) ])
    ]

IsIn-pushed : (xs : List ℕ) (p d : ℕ) → IsIn xs d → IsIn (xs ++ p ∷ []) d
IsIn-pushed [] p d i = absurd i
IsIn-pushed (x ∷ xs) p d (inl e) = inl e
IsIn-pushed (x ∷ xs) p d (inr i) = inr (IsIn-pushed xs p d i)

IsIn-last : (xs : List ℕ) (p : ℕ) → IsIn (xs ++ p ∷ []) p
IsIn-last [] p = inl refl
IsIn-last (x ∷ xs) p = inr (IsIn-last xs p)

-- what is filed has a place
pub filed-within : (at : List (Option ℕ)) (p l : ℕ) → link_at at p ≡ Some l → p < length at
filed-within at p l e =
    elim (is_below p (length at)) [
      | inl h ↦ h
      | inr h ↦ let wrong : None ≡ Some l = sym (get_or_past at p None h) ∙ e in cc
    ]

pub none-filed : (lists : Lists) (n : ℕ) → lists.places ≡ n → ((l : ℕ) → list_in lists l ≡ []) → AreFiled lists (replicate n None)
none-filed lists n places empty = record {
  places = places ∙ sym (length-replicate {A = Option ℕ} n None);
  held = λ l p e. let within = filed-within (replicate n None) p l e in let wrong : None ≡ Some l =
      sym (get_or-replicate n p None None (omega (arith, within, length-replicate {A = Option ℕ} n None))) ∙ e in cc;
  noted = λ l p i. absurd (subst (λ xs. IsIn xs p) (empty l) i);
}

module _ (lists after : Lists) (at : List (Option ℕ)) (p : ℕ) (k : AreFiled lists at) (within : p < length at) (places : after.places ≡ lists.places) where
  -- the place is taken out of the list that it was filed in
  pub unfiled : ((l q : ℕ) → q ≢ p → IsIn (list_in lists l) q → IsIn (list_in after l) q) → ((l q : ℕ) → IsIn (list_in after l) q → IsIn (list_in lists l) q × (q ≢ p)) →
      AreFiled after (slice_set at p None)
  unfiled kept from = record {
    places = places ∙ k.places ∙ sym (length-set at p None);
    held = λ l q e. elim (eqb_tells q p) [
      | inl s ↦ let wrong : None ≡ Some l = sym (get_or-set_same at p None None within) ∙ ap (link_at (slice_set at p None)) (sym s.1) ∙ e in cc
      | inr o ↦ kept l q o.1 (k.held l q (sym (get_or-set_other at p q None None o.1) ∙ e))
    ];
    noted = λ l q i. let there = from l q i in get_or-set_other at p q None None there.1 ∙ k.noted l q there.0;
  }

  pub unfiled-from : (list : ℕ) → ((l : ℕ) → list_in after l ≡ without p (list_in lists l)) → AreFiled after (slice_set at p None)
  unfiled-from list removed = unfiled
      (λ l q ne i. subst (λ xs. IsIn xs q) (sym (removed l)) (IsIn-without p q (list_in lists l) ne i))
      (λ l q i. IsIn-from_without p q (list_in lists l) (subst (λ xs. IsIn xs q) (removed l) i))

  -- a place that is filed in no list is filed in one
  pub filed : (list : ℕ) → link_at at p ≡ None → list_in after list ≡ list_in lists list ++ p ∷ [] → ((l : ℕ) → l ≢ list → list_in after l ≡ list_in lists l) →
      AreFiled after (slice_set at p (Some list))
  filed list free pushed others = record {
    places = places ∙ k.places ∙ sym (length-set at p (Some list));
    held = λ l q e. elim (eqb_tells q p) [
      | inl s ↦
          let same : Some list ≡ Some l = sym (get_or-set_same at p (Some list) None within) ∙ ap (link_at (slice_set at p (Some list))) (sym s.1) ∙ e in
          let there : list ≡ l = cc in
          subst (λ xs. IsIn xs q) (sym pushed ∙ ap (list_in after) there) (subst (IsIn (list_in lists list ++ p ∷ [])) (sym s.1) (IsIn-last (list_in lists list) p))
      | inr o ↦
          let was : IsIn (list_in lists l) q = k.held l q (sym (get_or-set_other at p q (Some list) None o.1) ∙ e) in
          elim (eqb_tells l list) [
            | inl s ↦ subst (λ xs. IsIn xs q) (sym pushed ∙ ap (list_in after) (sym s.1)) (IsIn-pushed (list_in lists list) p q (subst (λ m. IsIn (list_in lists m) q) s.1 was))
            | inr t ↦ subst (λ xs. IsIn xs q) (sym (others l t.1)) was
          ]
    ];
    noted = λ l q i.
        let kept : (m : ℕ) → IsIn (list_in lists m) q → link_at (slice_set at p (Some list)) q ≡ Some m =
        λ m j. get_or-set_other at p q (Some list) None (λ same. let wrong : None ≡ Some m = sym free ∙ ap (link_at at) (sym same) ∙ k.noted m q j in cc) ∙ k.noted m q j in
        elim (eqb_tells l list) [
          | inl s ↦ elim (IsIn-from_push (list_in lists list) p q (subst (λ xs. IsIn xs q) (ap (list_in after) s.1 ∙ pushed) i)) [
            | inl j ↦ kept list j ∙ ap Some (sym s.1)
            | inr here ↦ ap (link_at (slice_set at p (Some list))) (sym here) ∙ get_or-set_same at p (Some list) None within ∙ ap Some (sym s.1)
          ]
          | inr t ↦ kept l (subst (λ xs. IsIn xs q) (others l t.1) i)
        ];
  }

is_list-own : (l : ℕ) → is_list l (Some l) ≡ true
is_list-own l = elim (eqb_tells l l) [ inl s ↦ s.0 | inr o ↦ absurd (o.1 refl) ]

is_list-other : (l : ℕ) (filed : Option ℕ) → filed ≢ Some l → is_list l filed ≡ false
is_list-other l None ne = refl
is_list-other l (Some m) ne = elim (eqb_tells m l) [ inl s ↦ absurd (ne (ap Some s.1)) | inr o ↦ o.0 ]

-- one place fewer is in the list that a place was taken from
pub count-filed : (filing : Filing) (p list : ℕ) (to : Option ℕ) → filed_in filing p ≡ Some list → to ≢ Some list → filed_count (with_filed filing p to) list + 1 ≡ filed_count filing list
count-filed filing p list to here away =
    let one : Option ℕ → ℕ = λ l. if is_list list l then 1 else 0 in
    let was : one (filed_in filing p) ≡ 1 = ap one here ∙ ap (λ (b : Bool). if b then 1 else 0) (is_list-own list) in
    let is : one to ≡ 0 = ap (λ (b : Bool). if b then 1 else 0) (is_list-other list to away) in
    omega (arith, was, is, sum_by-set one filing.by_place p to None (filed-within filing.by_place p list here))

-- each place of a list goes over to another list, and no other place does
abbrev pub Moves : (from to : ℕ) → (before now : Filing) → ℕ → Type 0
Moves from to before now p = (filed_in now p ≡ filed_in before p) ⊎ ((filed_in before p ≡ Some from) × (filed_in now p ≡ Some to))

pub moves-more : (from to : ℕ) (before now : Filing) (place : ℕ) → ((p : ℕ) → Moves from to before now p) → filed_in now place ≡ Some from → (p : ℕ) →
    Moves from to before (with_filed now place (Some to)) p
moves-more from to before now place moves here p =
    elim (eqb_tells p place) [
      | inl s ↦
          let at : filed_in (with_filed now place (Some to)) p ≡ Some to =
          ap (filed_in (with_filed now place (Some to))) s.1 ∙ get_or-set_same now.by_place place (Some to) None (filed-within now.by_place place from here) in
          elim (moves p) [
            | inl same ↦ inr (sym same ∙ ap (filed_in now) s.1 ∙ here, at)
            | inr gone ↦ inr (gone.0, at)
          ]
      | inr o ↦
          let same = get_or-set_other now.by_place place p (Some to) None o.1 in
          elim (moves p) [ inl kept ↦ inl (same ∙ kept) | inr gone ↦ inr (gone.0, same ∙ gone.1) ]
    ]
