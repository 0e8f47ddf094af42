-- The context of an open row is held.
use Rattle.std.proofs.Common.{◌≡◌, ℕ, zero, suc, ◌<◌, ◌≤◌, Some, true, refl, arith, inl, inr}
use Rattle.std.specs.Prelude.{IfSome}
use Rattle.cancel_context.specs.Forest.{IsHeld}
use Rattle.tenant_model.specs.declared.rows.Kind.{Kind}
use Rattle.tenant_model.specs.declared.rows.Kind.TheVariants.{Root, Posted, Spawned, Region}
use Rattle.tenant_model.specs.State.{State, row}
use Rattle.tenant_model.specs.Walks.{maker_of, is_open}
use Rattle.tenant_model.proofs.AttendedSteps.{open_there}
use Rattle.arena_rows.specs.Held.{Held}
use Rattle.arena_rows.specs.Represents.{IsRowContext, Holds}
use Rattle.arena_rows.proofs.Contexts.{live_open}

module _ (a : Held) (s : State) (is : Holds a s) where
  abbrev OfRowHeld : ℕ → Type 0
  OfRowHeld n = IsHeld a.contexts (is.assigned.of_row n)

  job_context_held : (n : ℕ) → is_open (row s.rows n).phase ≡ true → is.assigned.of_row n ≡ is.assigned.of_job (row s.rows n).job → OfRowHeld n
  job_context_held n opened context =
      let there = open_there s.rows n opened in
      let its = (is.contexts.of_jobs (row s.rows n).job (is.jobs.later n opened) (is.steady.formed.linked.jobs n there.0 there.1).1).1 in
      rw (context, its) refl

  by_kind : (n : ℕ) (kind : Kind) → (row s.rows n).kind ≡ kind → ((m : ℕ) → m < n → is_open (row s.rows m).phase ≡ true → OfRowHeld m) → is_open (row s.rows n).phase ≡ true → OfRowHeld n
  by_kind n Root kind ih opened = let its : IsRowContext s a.contexts is.assigned n Root = rw kind at (is.contexts.of_rows n opened) in job_context_held n opened its
  by_kind n Posted kind ih opened = let its : IsRowContext s a.contexts is.assigned n Posted = rw kind at (is.contexts.of_rows n opened) in job_context_held n opened its
  by_kind n (Region m) kind ih opened =
      let its : is.assigned.of_row n ≡ is.assigned.of_row m = let all : IsRowContext s a.contexts is.assigned n (Region m) = rw kind at (is.contexts.of_rows n opened) in all in
      let made : maker_of (row s.rows n).kind ≡ Some m = rw kind refl in
      let there = open_there s.rows n opened in
      let before : (1 ≤ m) × (m < n) = let all : IfSome (Some m) (λ x. (1 ≤ x) × (x < n)) = rw made at (is.steady.formed.linked.makers n there.0 there.1) in all in
      let live = live_open (row s.rows n).phase opened (is.steady.formed.on_makers.started n m kind) in
      let maker : is_open (row s.rows m).phase ≡ true = rw (is.steady.formed.on_makers.below n m live.0 live.1 kind live.2) refl in
      rw its (ih m before.1 maker)
  by_kind n (Spawned m g) kind ih opened =
      let its : IsRowContext s a.contexts is.assigned n (Spawned m g) = rw kind at (is.contexts.of_rows n opened) in
      elim its.1 [
        | inl held ↦ rw held.1.2 refl
        | inr gone ↦ rw gone.1 refl
      ]

  go : (k n : ℕ) → n ≤ k → is_open (row s.rows n).phase ≡ true → OfRowHeld n
  go zero n enough opened = absurd (let there = open_there s.rows n opened in omega (arith, enough, there))
  go (suc k) n enough opened = by_kind n (row s.rows n).kind refl (λ m before opened_m. go k m (omega (arith, before, enough)) opened_m) opened

  pub row_held : (n : ℕ) → is_open (row s.rows n).phase ≡ true → IsHeld a.contexts (is.assigned.of_row n)
  row_held n opened = go n n (omega arith) opened
