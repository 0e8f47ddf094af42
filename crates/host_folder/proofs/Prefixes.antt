-- The first entries of a right history are one.
use Rattle.std.proofs.Common.{◌≡◌, ℕ, zero, suc, ◌+◌, ◌<◌, ◌≤◌, Bool, true, false, List, [], ◌∷◌, ◌++◌, length, take, refl, sym, ap, subst, ◌∙◌, arith, map, inl}
use Rattle.std.specs.Prelude.{nat_le, slice_index_or}
use Rattle.std.specs.List.{take-map}
use Rattle.std.proofs.lemmas.Bool.Decides.{nat_tests}
use Rattle.std.proofs.lemmas.List.{get_or-map, length-map, length-take, take_more}
use Rattle.job_language.specs.Tenant.{IsValidTenant}
use Rattle.job_language.specs.Recorded.{is_entry}
use Rattle.job_language.specs.declared.answers.Answer.{Answer}
use Rattle.job_language.specs.declared.steps.Entry.{Entry}
use Rattle.job_language.specs.declared.steps.Step.{Step}
use Rattle.job_language.specs.declared.tenants.Tenant.{Tenant}
use Rattle.tenant_model.specs.Changes.{is_full}
use Rattle.tenant_model.specs.Solo.{step, answers, after}
use Rattle.tenant_model.specs.State.{State, empty}
use Rattle.tenant_record.specs.History.{IsHistory, steps_of, answers_of, state_after}
use Rattle.tenant_record.proofs.Histories.{entry_recorded, first_is, records}

-- the answer to one of some steps
answer_at : (s : State) (xs : List Step) (n : ℕ) (x : Step) (a : Answer) → n < length xs → slice_index_or (answers s xs) n a ≡ (step (after s (take n xs)) (slice_index_or xs n x)).0
answer_at s [] n x a within = absurd (omega (arith, within))
answer_at s (y ∷ ys) zero x a within = refl
answer_at s (y ∷ ys) (suc n) x a within = answer_at (step s y).1 ys n x a (omega (arith, within))

some_entry : (h : List Entry) → 0 < length h → Entry
some_entry [] some = absurd (omega (arith, some))
some_entry (e ∷ h) some = e

module _ (c : Tenant) (h : List Entry) (valid : IsValidTenant c) (is : IsHistory c h) where
  module _ (n : ℕ) (d : Entry) (within : n < length h) (so_far : IsHistory c (take n h)) where
    abbrev e : Entry
    e = slice_index_or h n d

    given : (step (state_after c (take n h)) e.step).0 ≡ e.answer
    given =
        let there : n < length (steps_of h) = omega (arith, within, length-map h (λ (x : Entry). x.step)) in
        sym (ap (λ xs. (step (after (empty c) xs) e.step).0) (take-map (λ (x : Entry). x.step) n h))
        ∙ ap (λ x. (step (after (empty c) (take n (steps_of h))) x).0) (sym (get_or-map (λ (x : Entry). x.step) h n d d.step within))
        ∙ sym (answer_at (empty c) (steps_of h) n d.step d.answer there)
        ∙ ap (λ given. slice_index_or given n d.answer) is.answers_are
        ∙ get_or-map (λ (x : Entry). x.answer) h n d d.answer within

    room : is_full (state_after c (take n h)) ≡ false
    room =
        let steps : (state_after c (take n h)).config.steps ≡ c.steps = ap (λ (k : Tenant). k.steps) so_far.config in
        let count : (state_after c (take n h)).entries ≡ n = so_far.counted ∙ omega (arith, length-take n h, within) in
        grind (arith, nat_tests, steps, count, within, is.within)

    next : IsHistory c (take (n + 1) h)
    next =
        let after_it = (step (state_after c (take n h)) e.step).1 in
        let entry : is_entry e.answer ≡ true = is.all_entries n d within in
        let made : step (state_after c (take n h)) e.step ≡ (e.answer, after_it) = ap (λ a. (a, after_it)) given in
        let more = records c (take n h) e.step e.answer after_it valid so_far (inl (entry, room, made)) in
        subst (IsHistory c) (ap (λ es. take n h ++ es) (entry_recorded e.step e.answer entry) ∙ sym (take_more h n d within)) more.is

  pub first_are : (n : ℕ) → n ≤ length h → IsHistory c (take n h)
  first_are zero most = first_is c
  first_are (suc n) most =
      let more : n + 1 ≡ suc n = omega arith in
      subst (λ m. IsHistory c (take m h)) more (next n (some_entry h (omega (arith, most))) (omega (arith, most)) (first_are n (omega (arith, most))))
