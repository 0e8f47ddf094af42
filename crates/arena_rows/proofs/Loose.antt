-- Which rows' contexts can be released.
use Rattle.std.proofs.Common.{◌≡◌, ◌≢◌, ℕ, zero, suc, ◌-◌, ◌<◌, ◌≤◌, length, Some, true, false, refl, sym, ap, ◌∙◌, arith, inl, inr, Bool, ◌||◌}
use Rattle.std.specs.Prelude.{IfSome, IsSome}
use Rattle.std.proofs.lemmas.Bool.{cases_eq, cases_lt}
use Rattle.job_language.specs.declared.instructions.TheConstants.{GROUPS}
use Rattle.cancel_context.specs.Forest.{IsForest}
use Rattle.tenant_model.specs.declared.rows.Kind.{Kind}
use Rattle.tenant_model.specs.declared.rows.Kind.TheVariants.{Root, Posted, Spawned, Region}
use Rattle.tenant_model.specs.declared.rows.Phase.TheVariants.{Live}
use Rattle.tenant_model.specs.State.{State, row, job}
use Rattle.tenant_model.specs.Walks.{maker_of, is_open, is_unstarted, is_used, mark, height, top, is_job_cancelled, is_context_cancelled}
use Rattle.tenant_model.specs.Shared.{has_used_group}
use Rattle.tenant_model.proofs.Attended.{used_by}
use Rattle.tenant_model.proofs.AttendedSteps.{open_there}
use Rattle.tenant_model.proofs.Insides.{live_low}
use Rattle.tenant_model.proofs.Parts.{same_place}
use Rattle.tenant_model.proofs.Picks.{top_is}
use Rattle.arena_rows.specs.Held.{Held}
use Rattle.arena_rows.specs.Represents.{OfRow, IsRowContext, IsGroupContext, Holds}
use Rattle.arena_rows.specs.Endings.{IsLoose}
use Rattle.arena_rows.proofs.Contexts.{live_open, has_fault, context_is, group_is}
use Rattle.arena_rows.proofs.Ends.{is_job, row_in, HasContext, go, nothing_bound}
use Rattle.arena_rows.proofs.Started.{some_none}
use Rattle.arena_rows.proofs.TopRows.{top_open}

or_true : (b : Bool) → (b || true) ≡ true
or_true true = refl
or_true false = refl

module _ (a : Held) (s : State) (is : Holds a s) where
  there : (n : ℕ) → is_open (row s.rows n).phase ≡ true → (1 ≤ n) × (n ≤ length s.rows)
  there n opened = open_there s.rows n opened

  own_owner : (n m g : ℕ) → (row s.rows n).kind ≡ Spawned m g → is_open (row s.rows n).phase ≡ true → is.assigned.owner (is.assigned.of_row n) ≡ OfRow n
  own_owner n m g kind opened = let its : IsRowContext s a.contexts is.assigned n (Spawned m g) = rw kind at (is.contexts.of_rows n opened) in its.0

  -- A row that waits has its context for itself.
  pub alone_waiting : (n m g x : ℕ) → is_unstarted (row s.rows n).phase ≡ true → is_open (row s.rows n).phase ≡ true → (row s.rows n).kind ≡ Spawned m g → is_open (row s.rows x).phase ≡ true → x ≢ n →
      is.assigned.of_row x ≢ is.assigned.of_row n
  alone_waiting n m g x waits opened kind opened_x other same =
      let owner_x : is.assigned.owner (is.assigned.of_row x) ≡ OfRow n = ap is.assigned.owner same ∙ own_owner n m g kind opened in
      let place = there x opened_x in
      let all : HasContext s (length a.jobs) a.table a.contexts is.assigned is.steady is.jobs.later is.contexts x =
      go s (length a.jobs) a.table a.contexts is.assigned is.steady is.jobs.later is.contexts x x (omega arith) place.0 place.1 opened_x in
      elim all [
        | inl of_job ↦ grind (arith, ap is_job (sym owner_x ∙ of_job.1))
        | inr held ↦
            let n_is : held.0 ≡ n = ap row_in (sym held.1 ∙ owner_x) in
            elim held.2 [
              | inl own ↦ other (sym own ∙ n_is)
              | inr started ↦ let started_n : is_unstarted (row s.rows n).phase ≡ false = rw (← n_is) started in grind (arith, started_n, waits)
            ]
      ]

  pub loose_waiting : (n : ℕ) → is_unstarted (row s.rows n).phase ≡ true → is_open (row s.rows n).phase ≡ true → IsLoose a s is.assigned n
  loose_waiting n waits opened = record {
    ends = λ g c d few given bound_to. absurd (some_none c (sym given ∙ is.contexts.bare n g waits));
    alone = λ m g x kind opened_x other. alone_waiting n m g x waits opened kind opened_x other;
  }

  module _ (slot n : ℕ) (on_top : top s.rows slot ≡ Some n) where
    opened : is_open (row s.rows n).phase ≡ true
    opened = top_open a s is slot n on_top

    live : (row s.rows n).phase ≡ Live slot (height s.rows slot)
    live = (top_is s.rows slot n on_top).2

    module _ (m g : ℕ) (kind : (row s.rows n).kind ≡ Spawned m g) where
      owner_n : is.assigned.owner (is.assigned.of_row n) ≡ OfRow n
      owner_n = own_owner n m g kind opened

      of_job : (x : ℕ) → is_open (row s.rows x).phase ≡ true → is.assigned.of_row x ≡ is.assigned.of_job (row s.rows x).job → is.assigned.of_row x ≢ is.assigned.of_row n
      of_job x opened_x context same =
          let place = there x opened_x in
          let its = (is.contexts.of_jobs (row s.rows x).job (is.jobs.later x opened_x) (is.steady.formed.linked.jobs x place.0 place.1).1).0 in
          grind (arith, ap is_job (sym its ∙ ap is.assigned.owner (sym context ∙ same) ∙ owner_n))

      by_kind : (x : ℕ) (k : Kind) → (row s.rows x).kind ≡ k → ((y : ℕ) → y < x → is_open (row s.rows y).phase ≡ true → y ≢ n → is.assigned.of_row y ≢ is.assigned.of_row n) →
          is_open (row s.rows x).phase ≡ true → x ≢ n → is.assigned.of_row x ≢ is.assigned.of_row n
      by_kind x Root made ih opened_x other = let its : IsRowContext s a.contexts is.assigned x Root = rw made at (is.contexts.of_rows x opened_x) in of_job x opened_x its
      by_kind x Posted made ih opened_x other = let its : IsRowContext s a.contexts is.assigned x Posted = rw made at (is.contexts.of_rows x opened_x) in of_job x opened_x its
      by_kind x (Spawned f h) made ih opened_x other = λ same.
          let its : IsRowContext s a.contexts is.assigned x (Spawned f h) = rw made at (is.contexts.of_rows x opened_x) in
          other (ap row_in (sym its.0 ∙ ap is.assigned.owner same ∙ owner_n))
      by_kind x (Region y) made ih opened_x other = λ same.
          let its : is.assigned.of_row x ≡ is.assigned.of_row y = let all : IsRowContext s a.contexts is.assigned x (Region y) = rw made at (is.contexts.of_rows x opened_x) in all in
          let place = there x opened_x in
          let before : (1 ≤ y) × (y < x) = let all : IfSome (Some y) (λ k. (1 ≤ k) × (k < x)) = rw (ap maker_of made) at (is.steady.formed.linked.makers x place.0 place.1) in all in
          let at = live_open (row s.rows x).phase opened_x (is.steady.formed.on_makers.started x y made) in
          let below = is.steady.formed.on_makers.below x y at.0 at.1 made at.2 in
          let opened_y : is_open (row s.rows y).phase ≡ true = rw below refl in
          elim (cases_eq y n) [
            | inl here ↦
                let spot = same_place slot (height s.rows slot) at.0 (at.1 - 1) (sym live ∙ ap (λ k. (row s.rows k).phase) (sym here) ∙ below) in
                let low = live_low s.rows is.steady.formed.stacked x at.0 at.1 at.2 in
                let same_height : height s.rows at.0 ≡ height s.rows slot = ap (height s.rows) (sym spot.0) in
                absurd (omega (arith, spot.1, low, same_height))
            | inr apart ↦ ih y before.1 opened_y apart (sym its ∙ same)
          ]

      alone_go : (k x : ℕ) → x ≤ k → is_open (row s.rows x).phase ≡ true → x ≢ n → is.assigned.of_row x ≢ is.assigned.of_row n
      alone_go zero x enough opened_x other = absurd (let place = there x opened_x in omega (arith, enough, place))
      alone_go (suc k) x enough opened_x other = by_kind x (row s.rows x).kind refl (λ y before opened_y apart. alone_go k y (omega (arith, before, enough)) opened_y apart) opened_x other

    -- And so has a topmost row that was spawned.
    pub alone_top : (m g x : ℕ) → (row s.rows n).kind ≡ Spawned m g → is_open (row s.rows x).phase ≡ true → x ≢ n → is.assigned.of_row x ≢ is.assigned.of_row n
    alone_top m g x kind opened_x other = alone_go m g kind x x (omega arith) opened_x other

    unused_group : (g : ℕ) → has_used_group s n ≡ false → g < GROUPS → is_used s.rows n g ≡ false
    unused_group zero unused low = grind (arith, unused)
    unused_group (suc zero) unused low = grind (arith, unused)
    unused_group (suc (suc zero)) unused low = grind (arith, unused)
    unused_group (suc (suc (suc zero))) unused low = grind (arith, unused)
    unused_group (suc (suc (suc (suc g)))) unused low = absurd (omega (arith, low))

    -- A row without a used group may end,
    pub loose_unused : has_used_group s n ≡ false → IsLoose a s is.assigned n
    loose_unused unused = record {
      ends = λ g c d few given bound_to.
          let its : IsGroupContext s a.contexts is.assigned n g (Some c) = rw given at (is.contexts.of_groups n g opened few) in
          absurd (nothing_bound s (length a.jobs) a.table a.contexts is.assigned is.steady is.jobs.later is.contexts there n g c its.0
          (λ x kind opened_x.
          let place = there x opened_x in
          let since : (mark s.rows n g).rows < x = elim (cases_lt (mark s.rows n g).rows x) [
            | inl fine ↦ fine
            | inr late ↦ absurd (let gone : is_open (row s.rows x).phase ≡ false = is.steady.tended.past x n g kind late in grind (arith, gone, opened_x))
          ] in
          let used = used_by s.rows n g x place.0 place.1 kind since in
          grind (arith, used, unused_group g unused few))
          d bound_to);
      alone = alone_top;
    }

    -- and so may a row whose job has a fault.
    pub loose_faulted : IsForest a.contexts → IsSome (job s.jobs (row s.rows n).job).fault → IsLoose a s is.assigned n
    loose_faulted forest fault = record {
      ends = λ g c d few given bound_to.
          let place = there n opened in
          let agrees = context_is s (length a.jobs) a.table a.contexts is.assigned is.steady is.jobs.later is.contexts forest n place.0 place.1 opened in
          let w = job s.jobs (row s.rows n).job in
          let job_cancelled : is_job_cancelled w ≡ true = ap (λ b. w.cancelled || b) (has_fault w.fault fault) ∙ or_true w.cancelled in
          let row_cancelled : is_context_cancelled s n ≡ true = rw job_cancelled refl in
          let group = group_is s (length a.jobs) a.table a.contexts is.assigned is.steady is.jobs.later is.contexts forest n g c opened few given agrees in
          group ∙ rw row_cancelled (grind arith);
      alone = alone_top;
    }
