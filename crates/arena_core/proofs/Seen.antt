-- Whether a slot has a topmost row.
use Rattle.std.proofs.Common.{◌≡◌, ◌<◌, ◌≤◌, ◌∙◌, ℕ, Bool, true, false, Option, Some, None, sym, refl, arith, nat_lt, length, ap}
use Rattle.std.specs.Prelude.{is_some}
use Rattle.job_step.specs.declared.runs.Run.{Run}
use Rattle.job_step.specs.declared.segments.Top.{Top}
use Rattle.job_step.specs.Segment.{run_of_top}
use Rattle.nest_stack.specs.Nest.{stack}
use Rattle.tenant_model.specs.State.{State}
use Rattle.tenant_model.specs.Walks.{height, top}
use Rattle.tenant_model.proofs.Picks.{top_is, top_none}
use Rattle.tenant_model.proofs.Insides.{live_low}
use Rattle.arena_rows.specs.Held.{Held}
use Rattle.arena_rows.specs.Represents.{Holds, Rests}
use Rattle.arena_steps.specs.Runs.{RunFits}
use Rattle.arena_core.specs.Views.{IsTopmost}
use Rattle.arena_core.proofs.Standing.{held_height, no_stack}

module _ (a : Held) (s : State) (is : Holds a s) (slot : ℕ) where
  there : (o : Option ℕ) → top s.rows slot ≡ o → nat_lt 0 (height s.rows slot) ≡ is_some o
  there None none = rw (top_none s.rows slot is.steady.formed.stacked none) refl
  there (Some n) found =
      let live = top_is s.rows slot n found in
      let low = live_low s.rows is.steady.formed.stacked n slot (height s.rows slot) live.2 in
      grind (arith, low)

  -- No row is on a slot that the tenant lacks.
  pub no_top : a.config.slots ≤ slot → is_some (top s.rows slot) ≡ false
  no_top lacks =
      let none : 0 ≡ height s.rows slot = no_stack a s is slot lacks in
      sym (there (top s.rows slot) refl) ∙ grind (arith, none)

  -- A row is there if and only if the stack is not empty.
  pub has_top : nat_lt 0 (length (stack a.nests slot)) ≡ is_some (top s.rows slot)
  has_top = rw (held_height a s is slot) (there (top s.rows slot) refl)

-- The private run of a slot's topmost frame is that of its topmost row.
pub run_fits : (a : Held) (s : State) (slot : ℕ) (t : Top) (r : Run) → Rests a s → (is : IsTopmost s slot t) → r ≡ run_of_top t → RunFits a s slot is.0 r
run_fits a s slot t r rests is run = record { rests = rests; on_top = is.1.0; is = run ∙ ap run_of_top is.1.1 }
