-- What is known of the lists of a family, and that a row that comes or goes keeps it.
use Rattle.std.proofs.Common.{◌≡◌, ◌<◌, ◌==◌, Bool, true, false, ℕ, not, if◌then◌else◌, List, [], ◌∷◌, ◌++◌, length, Option, Some, None, refl, sym, ◌∙◌, ap, subst, inl, inr, filter, arith}
use Rattle.std.proofs.lemmas.Bool.Decides.{eqb_tells, leb_tells}
use Rattle.std.proofs.lemmas.List.{get_or_past, map-append, append-nil}
use Rattle.std.proofs.lemmas.List.Elements.{filter-append}
use Rattle.place_lists.specs.Lists.{Lists, list_in, IsIn, without}
use Rattle.ready_pool.specs.declared.pool.Waiting.{Waiting}
use Rattle.ready_pool.specs.Ready.{is_made_on}
use Rattle.ready_pool.specs.Parts.{Waits, positions_of, AreListed, extended}
use Rattle.ready_pool.proofs.Rows.{tells, filter-yes, filter-no, Waits-filter, Waits-kept, IsIn-position, position-IsIn}

pub named-itself : (l : ℕ) → is_made_on l (Some l) ≡ true
named-itself l = elim (eqb_tells l l) [ inl h ↦ h.0 | inr h ↦ absurd (h.1 refl) ]

pub named-is : (l : ℕ) (o : Option ℕ) → is_made_on l o ≡ true → o ≡ Some l
named-is l None e = cc
named-is l (Some n) e = elim (eqb_tells n l) [ inl h ↦ ap Some h.1 | inr h ↦ let wrong : true ≡ false = sym e ∙ h.0 in cc ]

pub without-places : (seat : Waiting → ℕ) (f gone : Waiting → Bool) (place : ℕ) (rows : List Waiting) → ((w : Waiting) → Waits rows w → gone w ≡ (seat w == place)) →
    without place (positions_of seat (filter f rows)) ≡ positions_of seat (filter f (filter (λ w. not (gone w)) rows))
without-places seat f gone place [] same = refl
without-places seat f gone place (x ∷ xs) same =
    let stays : Waiting → Bool = λ w. not (gone w) in
    let rest : without place (positions_of seat (filter f xs)) ≡ positions_of seat (filter f (filter stays xs)) = without-places seat f gone place xs (λ w i. same w (inr i)) in
    let away : (n : ℕ) → Bool = λ n. not (n == place) in
    let same_here : stays x ≡ away (seat x) = ap not (same x (inl refl)) in
    elim (tells (f x)) [
      | inl kept ↦
          let left : without place (positions_of seat (filter f (x ∷ xs))) ≡ filter away (seat x ∷ positions_of seat (filter f xs)) =
          ap (λ l. without place (positions_of seat l)) (filter-yes f x xs kept) in
          elim (tells (stays x)) [
            | inl h ↦ left ∙ filter-yes away (seat x) (positions_of seat (filter f xs)) (sym same_here ∙ h) ∙ ap (λ l. seat x ∷ l) rest ∙
                sym (ap (λ l. positions_of seat (filter f l)) (filter-yes stays x xs h) ∙ ap (positions_of seat) (filter-yes f x (filter stays xs) kept))
            | inr h ↦ left ∙ filter-no away (seat x) (positions_of seat (filter f xs)) (sym same_here ∙ h) ∙ rest ∙ sym (ap (λ l. positions_of seat (filter f l)) (filter-no stays x xs h))
          ]
      | inr lost ↦
          let left : without place (positions_of seat (filter f (x ∷ xs))) ≡ positions_of seat (filter f (filter stays xs)) =
          ap (λ l. without place (positions_of seat l)) (filter-no f x xs lost) ∙ rest in
          elim (tells (stays x)) [
            | inl h ↦ left ∙ sym (ap (λ l. positions_of seat (filter f l)) (filter-yes stays x xs h) ∙ ap (positions_of seat) (filter-no f x (filter stays xs) lost))
            | inr h ↦ left ∙ sym (ap (λ l. positions_of seat (filter f l)) (filter-no stays x xs h))
          ]
    ]

module _ (seat : Waiting → ℕ) (key : Waiting → Option ℕ) (count places : ℕ) (lists : Lists) (rows : List Waiting) (k : AreListed seat key count places lists rows) where
  abbrev of : ℕ → Waiting → Bool
  of l w = is_made_on l (key w)

  listed-row : (place l : ℕ) → IsIn (list_in lists l) place → (w : Waiting) × ((Waits rows w × (key w ≡ Some l)) × (seat w ≡ place))
  listed-row place l i =
      let there = IsIn-position seat (filter (of l) rows) place (subst (λ xs. IsIn xs place) (k.listed l) i) in
      let waits = Waits-filter (of l) rows there.0 there.1.0 in
      (there.0, ((waits.0, named-is l (key there.0) waits.1), there.1.1))

  pub listed-free : (place : ℕ) → ((w : Waiting) → Waits rows w → seat w ≡ place → ⊥) → (l : ℕ) → IsIn (list_in lists l) place → ⊥
  listed-free place out l i = let there = listed-row place l i in out there.0 there.1.0.0 there.1.1

  pub listed-in : (w : Waiting) → Waits rows w → (l : ℕ) → key w ≡ Some l → IsIn (list_in lists l) (seat w)
  listed-in w i l e = subst (λ xs. IsIn xs (seat w)) (sym (k.listed l)) (position-IsIn seat (filter (of l) rows) w (Waits-kept (of l) rows w i (ap (is_made_on l) e ∙ named-itself l)))

  pub listed-below : (w : Waiting) → Waits rows w → (l : ℕ) → key w ≡ Some l → l < count
  listed-below w i l e =
      elim (leb_tells (length lists.lists) l) [
        | inl h ↦ absurd (subst (λ xs. IsIn xs (seat w)) (get_or_past lists.lists l [] h.1) (listed-in w i l e))
        | inr h ↦ omega (arith, k.count_is, h.1)
      ]

  pub listed-alone : (place : ℕ) (w : Waiting) → ((v : Waiting) → Waits rows v → seat v ≡ place → v ≡ w) → (l : ℕ) → IsIn (list_in lists l) place → key w ≡ Some l
  listed-alone place w only l i = let there = listed-row place l i in ap key (sym (only there.0 there.1.0.0 there.1.1)) ∙ there.1.0.1

  places-append : (w : Waiting) (l : ℕ) → positions_of seat (filter (of l) (rows ++ w ∷ [])) ≡ extended (key w) (seat w) l (positions_of seat (filter (of l) rows))
  places-append w l =
      let before : List ℕ = positions_of seat (filter (of l) rows) in
      let apart : positions_of seat (filter (of l) (rows ++ w ∷ [])) ≡ before ++ positions_of seat (filter (of l) (w ∷ [])) =
      ap (positions_of seat) (filter-append (of l) rows (w ∷ [])) ∙ map-append seat (filter (of l) rows) (filter (of l) (w ∷ [])) in
      elim (tells (of l w)) [
        | inl h ↦ apart ∙ ap (λ ws. before ++ positions_of seat ws) (filter-yes (of l) w [] h) ∙ sym (ap (λ b. if b then before ++ (seat w) ∷ [] else before) h)
        | inr h ↦ apart ∙ ap (λ ws. before ++ positions_of seat ws) (filter-no (of l) w [] h) ∙ append-nil before ∙ sym (ap (λ b. if b then before ++ (seat w) ∷ [] else before) h)
      ]

  module _ (after : Lists) (count_kept : length after.lists ≡ length lists.lists) (places_kept : after.places ≡ lists.places) where
    pub listed-joined : (w : Waiting) → ((l : ℕ) → list_in after l ≡ extended (key w) (seat w) l (list_in lists l)) → AreListed seat key count places after (rows ++ w ∷ [])
    listed-joined w joined = record {
      count_is = count_kept ∙ k.count_is;
      places_are = places_kept ∙ k.places_are;
      listed = λ l. joined l ∙ ap (extended (key w) (seat w) l) (k.listed l) ∙ sym (places-append w l);
    }

    pub listed-left : (gone : Waiting → Bool) (place : ℕ) → ((w : Waiting) → Waits rows w → gone w ≡ (seat w == place)) → ((l : ℕ) → list_in after l ≡ without place (list_in lists l)) →
        AreListed seat key count places after (filter (λ w. not (gone w)) rows)
    listed-left gone place same left = record {
      count_is = count_kept ∙ k.count_is;
      places_are = places_kept ∙ k.places_are;
      listed = λ l. left l ∙ ap (without place) (k.listed l) ∙ without-places seat (of l) gone place rows same;
    }
