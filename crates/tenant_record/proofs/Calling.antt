-- Places that change.
use Rattle.std.proofs.Common.{◌≡◌, ◌⊎◌, inl, inr, ℕ, ◌+◌, ◌<◌, Bool, List, [], ◌∷◌, ◌++◌, Some, None, refl, sym, ap, ◌∙◌, arith, zero, suc}
use Rattle.std.specs.Prelude.{find, unwrap_or, slice_set}
use Rattle.std.specs.List.{range_with_len}
use Rattle.std.proofs.lemmas.List.{set-set}
use Rattle.std.proofs.lemmas.List.FromFn.{map-range_with_len_more}
use Rattle.job_language.specs.declared.answers.Came.{Came}
use Rattle.job_language.specs.declared.answers.Came.TheVariants as came
use Rattle.tenant_model.proofs.Within.{either_way}
use Rattle.tenant_record.specs.PassData.{PassData, first_pass}
use Rattle.tenant_record.specs.Places.{place, pass_in, arrived_pass, arrived_place, first_places}
use Rattle.tenant_record.specs.declared.places.Place.{Place}
use Rattle.tenant_record.specs.declared.places.Place.TheVariants.{Home, Due, Out}

-- A number that is found in a range is below its end.
pub found_below : (p : ℕ → Bool) (a n k : ℕ) → find p (range_with_len a n) ≡ Some k → k < a + n
found_below p a zero k found = absurd (grind (arith, found))
found_below p a (suc n) k found = elim (either_way (p a)) [
  | inl passed ↦
      let here : Some a ≡ Some k = rw passed at found in
      let e : a ≡ k = ap (λ o. unwrap_or o a) here in
      omega (arith, e)
  | inr failed ↦
      let later : find p (range_with_len (a + 1) n) ≡ Some k = rw failed at found in
      let below = found_below p (a + 1) n k later in
      omega (arith, below)
]

-- An arrival that found no row gets no pass, and the pass is home.
module _ (home : List Place) (slot : ℕ) (p : PassData) where
  refused_by : (q : Place) (c : Came) → pass_in q ≡ Some p → (c ≡ came.Nothing) ⊎ (c ≡ came.Full) → (arrived_pass c (pass_in q) ≡ None) × (Home p ≡ arrived_place c q)
  refused_by (Home r) c is (inl e) = rw e (refl, ap (λ o. Home (unwrap_or o p)) (sym is))
  refused_by (Home r) c is (inr e) = rw e (refl, ap (λ o. Home (unwrap_or o p)) (sym is))
  refused_by (Due r) c is (inl e) = rw e (refl, ap (λ o. Home (unwrap_or o p)) (sym is))
  refused_by (Due r) c is (inr e) = rw e (refl, ap (λ o. Home (unwrap_or o p)) (sym is))
  refused_by Out c is e = absurd (grind (arith, is))

  pub refused : (c : Came) → pass_in (place home slot) ≡ Some p → (c ≡ came.Nothing) ⊎ (c ≡ came.Full) →
      (arrived_pass c (pass_in (place home slot)) ≡ None) × (slice_set (slice_set home slot Out) slot (Home p) ≡ slice_set home slot (arrived_place c (place home slot)))
  refused c is e =
      let its = refused_by (place home slot) c is e in
      (its.0, set-set home slot Out (Home p) ∙ ap (λ q. slice_set home slot q) its.1)

pub first_more : (tenant limit slot : ℕ) → first_places tenant limit (slot + 1) ≡ first_places tenant limit slot ++ Home (first_pass tenant limit slot) ∷ []
first_more tenant limit slot = map-range_with_len_more (λ s. Home (first_pass tenant limit s)) 0 slot slot (omega arith)
