-- What stays where a job has paid.
use Rattle.std.proofs.Common.{◌≡◌, ℕ, ◌+◌, ◌-◌, ◌<◌, not, Bool, true, false, List, Some, refl, sym, ap, ◌∙◌, arith, subst}
use Rattle.job_language.specs.declared.answers.Moved.{Moved}
use Rattle.job_language.specs.declared.errors.JobFault.TheVariants as fault
use Rattle.job_language.specs.declared.instructions.Instr.{Instr}
use Rattle.job_step.specs.declared.frames.Frame.{Frame}
use Rattle.job_step.specs.Frame.{instr_at}
use Rattle.tenant_model.specs.declared.works.Work.{Work}
use Rattle.tenant_model.specs.State.{State, row, job}
use Rattle.tenant_model.specs.Walks.{top}
use Rattle.tenant_model.specs.Changes.{faults}
use Rattle.tenant_model.specs.Advance.{is_poor, pay, with_fuel, with_fuel_paid, work_of}
use Rattle.tenant_model.proofs.Changed.{at_number-with_same}
use Rattle.arena_rows.specs.Held.{Held}
use Rattle.arena_rows.specs.Represents.{Rests, Gives, HasTop}
use Rattle.arena_rows.proofs.TopRows.{top_there}
use Rattle.arena_steps.specs.Frames.{FrameFits}
use Rattle.arena_steps.specs.Ready.{IsReady}
use Rattle.arena_steps.proofs.Moving.{same_room}

not_false : (b : Bool) → not b ≡ false → b ≡ true
not_false true is = refl
not_false false is = absurd (grind (arith, is))

not_true : (b : Bool) → not b ≡ true → b ≡ false
not_true true is = absurd (grind (arith, is))
not_true false is = refl

-- how far a job's fuel goes, by what a payment answers
pub is_poor_by : (s : State) (n cost : ℕ) (sufficed : Bool) → sufficed ≡ not (is_poor s n cost) → sufficed ≡ false → is_poor s n cost ≡ true
is_poor_by s n cost sufficed told lacked = not_false (is_poor s n cost) (sym told ∙ lacked)

pub is_rich_by : (s : State) (n cost : ℕ) (sufficed : Bool) → sufficed ≡ not (is_poor s n cost) → sufficed ≡ true → is_poor s n cost ≡ false
is_rich_by s n cost sufficed told did = not_true (is_poor s n cost) (sym told ∙ did)

-- the step of a job that lacked the fuel, and of one that did not
pub poor_gives : (c : Held) (moved : Moved) (s : State) (slot n cost : ℕ) (next : State → Moved × State) → is_poor s n cost ≡ true →
    Gives c moved (faults slot (row s.rows n).job fault.Fuel (with_fuel_paid s n cost)) → Gives c moved (pay s slot n cost next)
poor_gives c moved s slot n cost next poor gives =
    let low : (work_of s n).fuel < cost = grind (arith, poor) in
    let none : (work_of s n).fuel - cost ≡ 0 = omega (arith, low) in
    rw poor (subst (λ fuel. Gives c moved (faults slot (row s.rows n).job fault.Fuel (with_fuel s n fuel))) none gives)

pub rich_gives : (c : Held) (moved : Moved) (s : State) (slot n cost : ℕ) (next : State → Moved × State) → is_poor s n cost ≡ false →
    Gives c moved (next (with_fuel_paid s n cost)) → Gives c moved (pay s slot n cost next)
rich_gives c moved s slot n cost next rich gives = rw rich gives

-- what is held after a payment
module _ (a b : Held) (s : State) (slot n cost : ℕ) (rests : Rests a s) (on_top : top s.rows slot ≡ Some n) (now : Rests b (with_fuel_paid s n cost)) where
  abbrev t : State
  t = with_fuel_paid s n cost

  pub paid_top : HasTop b slot
  paid_top = (t, n, now.holds, on_top)

  pub paid_room : a.entries < a.config.steps → b.entries < b.config.steps
  paid_room room = same_room a b s t rests.holds now.holds refl refl room

  pub paid_few : (k : ℕ) → a.made + 1 < k → b.made + 1 < k
  paid_few k few = omega (arith, few, rests.holds.made, now.holds.made)

  paid_program : (job t.jobs (row s.rows n).job).program ≡ (job s.jobs (row s.rows n).job).program
  paid_program =
      let there = top_there a s rests.holds slot n on_top in
      let of_job = rests.holds.steady.formed.linked.jobs n there.0 there.1 in
      ap (λ (w : Work). w.program) (at_number-with_same s.jobs _ (row s.rows n).job (record (work_of s n) { fuel = (work_of s n).fuel - cost }) of_job.0 of_job.1)

  pub paid_fits : (f : Frame) → FrameFits a s slot n f → FrameFits b t slot n f
  paid_fits f fits = record { rests = now; on_top = on_top; same = fits.same }

  pub paid_ready : (f : Frame) (i : Instr) → IsReady a s slot n f i → IsReady b t slot n f i
  paid_ready f i ready = record {
    fits = paid_fits f ready.fits;
    here = ap (λ (p : List (List Instr)). instr_at p f) paid_program ∙ ready.here;
    passes = ready.passes;
  }
