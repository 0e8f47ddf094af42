-- Arrivals where the caller may have no room for one more entry.
use Rattle.std.proofs.Common.{◌≡◌, ℕ, Bool, true, false, ◌&&◌, Option, Some, None, inl, inr, refl, sym, ap, ◌∙◌, arith}
use Rattle.std.specs.Prelude.{is_some}
use Rattle.std.specs.Option.{option_map}
use Rattle.std.proofs.lemmas.Bool.{and_right}
use Rattle.job_language.specs.declared.answers.Answer.TheVariants as answer
use Rattle.job_language.specs.declared.answers.Came.{Came}
use Rattle.job_language.specs.declared.answers.Came.TheVariants as came
use Rattle.job_language.specs.Recorded.{is_entry}
use Rattle.tenant_model.specs.State.{State}
use Rattle.tenant_model.specs.Walks.{pick}
use Rattle.tenant_model.specs.Changes.{is_full}
use Rattle.tenant_model.specs.Advance.{arrive, arrive_at, is_open_to_workers}
use Rattle.tenant_model.proofs.Within.{either_way}
use Rattle.arena_steps.specs.Within.{came_within, arrive_within}

both_true : (b c : Bool) → (b && c) ≡ true → (b ≡ true) × (c ≡ true)
both_true true c are = (refl, are)
both_true false c are = absurd (grind (arith, are))

none_is : (o : Option ℕ) → is_some o ≡ false → o ≡ None
none_is None none = refl
none_is (Some n) none = absurd (grind (arith, none))

some_is : (o : Option ℕ) → is_some o ≡ true → (n : ℕ) × (o ≡ Some n)
some_is None some = absurd (grind (arith, some))
some_is (Some n) some = (n, refl)

pub mapped_some : {A B : Type 0} (f : A → B) (o : Option A) → is_some (option_map f o) ≡ is_some o
mapped_some f None = refl
mapped_some f (Some x) = refl

pub came_within-open : (s : State) (r : Came × State) → came_within true s r ≡ r
came_within-open s r = rw (and_right (is_entry (answer.Came r.0)) false refl) refl

module _ (s : State) (slot : ℕ) where
  opened : is_open_to_workers s slot ≡ true → arrive s slot ≡ arrive_at s slot (pick s slot)
  opened opens = rw opens refl

  finds_none : (is_open_to_workers s slot && is_some (pick s slot)) ≡ false → arrive s slot ≡ (came.Nothing, s)
  finds_none none = elim (either_way (is_open_to_workers s slot)) [
    | inl opens ↦
        let no_row : is_some (pick s slot) ≡ false = rw opens at none in
        opened opens ∙ ap (arrive_at s slot) (none_is (pick s slot) no_row)
    | inr closed ↦ rw closed refl
  ]

  -- nobody finds a row, so nothing is an entry
  pub none_within : (is_open_to_workers s slot && is_some (pick s slot)) ≡ false → arrive s slot ≡ arrive_within false s slot
  none_within none =
      let same = finds_none none in
      let here : came_within false s (came.Nothing, s) ≡ (came.Nothing, s) = refl in
      same ∙ sym (ap (came_within false s) same ∙ here)

  -- A row would be found, which is an entry.
  pub some_within : (is_open_to_workers s slot && is_some (pick s slot)) ≡ true → arrive_within false s slot ≡ (came.Full, s)
  some_within some =
      let both = both_true (is_open_to_workers s slot) (is_some (pick s slot)) some in
      let found = some_is (pick s slot) both.1 in
      let at_row : arrive s slot ≡ arrive_at s slot (Some found.0) = opened both.0 ∙ ap (arrive_at s slot) found.1 in
      let refused : came_within false s (arrive_at s slot (Some found.0)) ≡ (came.Full, s) = elim (either_way (is_full s)) [
        | inl full ↦ rw full refl
        | inr room ↦ rw room refl
      ] in
      ap (came_within false s) at_row ∙ refused
