-- Which pass is handed out.
use Rattle.std.proofs.Common.{◌≡◌, ℕ, ◌<◌, ◌&&◌, ◌||◌, Bool, true, List, Option, Some, None, refl, sym, ap, ◌∙◌, subst, arith}
use Rattle.std.specs.Prelude.{if◌then◌else◌, not, nat_le, unwrap_or}
use Rattle.std.specs.List.{list_any}
use Rattle.std.specs.Option.{option_map, option_map_or}
use Rattle.std.proofs.lemmas.Bool.{cond_both}
use Rattle.job_language.specs.Recorded.{is_entry}
use Rattle.job_language.specs.declared.answers.Answer.TheVariants as answer
use Rattle.job_language.specs.declared.answers.Came.{Came}
use Rattle.job_language.specs.declared.answers.Came.TheVariants as came
use Rattle.job_language.specs.declared.answers.Reply.{Reply}
use Rattle.job_language.specs.declared.answers.Status.{Status}
use Rattle.job_language.specs.declared.answers.Status.TheVariants.{Running, Cancelled, Complete, Fault}
use Rattle.job_language.specs.declared.jobs.Job.{Job}
use Rattle.job_language.specs.declared.requests.Request.{Request}
use Rattle.job_language.specs.declared.tenants.Tenant.{Tenant}
use Rattle.job_language.specs.declared.requests.Request.TheVariants as request
use Rattle.tenant_model.specs.declared.rows.Row.{Row}
use Rattle.tenant_model.specs.declared.works.Work.{Work}
use Rattle.tenant_model.specs.declared.works.TheConstants.{MAX_JOBS}
use Rattle.tenant_model.specs.State.{State}
use Rattle.tenant_model.specs.Walks.{height, is_open, is_job_cancelled}
use Rattle.tenant_model.specs.Changes.{is_full, is_row_limit_met}
use Rattle.tenant_model.specs.Asks.{reply_to, is_hello, unless_limit, submit_placed, free_slot, known_job, collect, has_outcome, current_jobs, status, submit}
use Rattle.tenant_model.specs.Told.{placed_on}
use Rattle.tenant_model.proofs.Invariance.{free_slot_is}
use Rattle.tenant_record.specs.Cell.{AreHome, ArePlaced, entered}
use Rattle.tenant_record.specs.PassData.{has_room, GoesWith}
use Rattle.tenant_record.specs.Places.{place, is_in, pass_in, option_placed, IsPlaceOf, placed_pass, arrived_pass}
use Rattle.tenant_record.specs.Replayed.{ask_within}
use Rattle.tenant_record.specs.declared.places.Place.{Place}
use Rattle.tenant_record.specs.declared.places.Place.TheVariants.{Home, Due, Out}

-- The slot where a job is placed is a reserved one, and was empty.
record IsFree (s : State) (q : Reply × State) : Type 0 where
  at : (slot : ℕ) → placed_on q.0 ≡ Some slot → (slot < s.config.reserved) × (height s.rows slot ≡ 0)

nowhere : (s : State) (q : Reply × State) → placed_on q.0 ≡ None → IsFree s q
nowhere s q none = record { at = λ slot is. absurd (let no : None ≡ Some slot = sym none ∙ is in grind (arith, no)) }

either : (s : State) (b : Bool) (q r : Reply × State) → IsFree s q → IsFree s r → IsFree s (if b then q else r)
either s b q r first second = cond_both b q r (IsFree s) (λ _. first) (λ _. second)

limited : (s : State) (q : Reply × State) → IsFree s q → IsFree s (unless_limit s q)
limited s q free = either s (nat_le MAX_JOBS (current_jobs s)) _ _ (nowhere s _ refl) (either s (is_row_limit_met s) _ q (nowhere s _ refl) free)

placed_free : (s : State) (j : Job) (k : Option ℕ) → free_slot s ≡ k → IsFree s (submit_placed s j k)
placed_free s j None is = nowhere s _ refl
placed_free s j (Some o) is = record { at = λ slot placed. let e : o ≡ slot = ap (λ v. unwrap_or v o) placed in subst (λ v. (v < s.config.reserved) × (height s.rows v ≡ 0)) e (free_slot_is s o is) }

of_known : (s : State) (k : Option Work) (other : Reply × State) (next : Work → Reply × State) → IsFree s other → ((w : Work) → IsFree s (next w)) → IsFree s (option_map_or next k other)
of_known s None other next free each = free
of_known s (Some w) other next free each = each w

collected : (s : State) (j : ℕ) (t : Status) → IsFree s (collect s j t)
collected s j Running = nowhere s _ refl
collected s j Cancelled = nowhere s _ refl
collected s j (Complete v) = nowhere s _ refl
collected s j (Fault f) = nowhere s _ refl

reply_free : (s : State) (r : Request) → IsFree s (reply_to s r)
reply_free s (request.Hello name) = nowhere s _ refl
reply_free s (request.Submit j) = limited s (submit s j) (nowhere s _ refl)
reply_free s (request.Execute j) = limited s (submit_placed s j (free_slot s)) (placed_free s j (free_slot s) refl)
reply_free s (request.Poll j) = of_known s (known_job s j) _ _ (nowhere s _ refl) (λ w. nowhere s _ refl)
reply_free s (request.Collect j) = of_known s (known_job s j) _ _ (nowhere s _ refl) (λ w. collected s j (status s.rows j w))
reply_free s (request.Cancel j) = of_known s (known_job s j) _ _ (nowhere s _ refl) (λ w. either s (is_job_cancelled w || has_outcome s.rows j) _ _ (nowhere s _ refl) (nowhere s _ refl))
reply_free s (request.Cells k) = nowhere s _ refl
reply_free s request.Arena = nowhere s _ refl
reply_free s request.Retire = either s (list_any (λ (r : Row). is_open r.phase) s.rows) _ _ (nowhere s _ refl) (nowhere s _ refl)
reply_free s (request.Release j) = of_known s (known_job s j) _ _ (nowhere s _ refl) (λ w. either s (has_outcome s.rows j) _ _ (nowhere s _ refl) (nowhere s _ refl))
reply_free s (request.Take j) = of_known s (known_job s j) _ _ (nowhere s _ refl) (λ w. either s (has_outcome s.rows j) _ _ (nowhere s _ refl) (nowhere s _ refl))

ask_free : (b : Bool) (s : State) (r : Request) → IsFree s (ask_within b s r)
ask_free b s r = either s (not b && not (is_hello r)) _ _ (nowhere s _ refl) (either s (is_full s && not (is_hello r)) _ _ (nowhere s _ refl) (reply_free s r))

placed_of : (tenant slot : ℕ) (q : Place) → IsPlaceOf tenant slot q → is_in q ≡ true → GoesWith tenant (Some slot) (option_placed (pass_in q))
placed_of tenant slot (Home p) is held = record { tenant = is.tenant; slot = is.slot }
placed_of tenant slot (Due p) is held = record { tenant = is.tenant; slot = is.slot }
placed_of tenant slot Out is held = absurd (grind (arith, held))

-- With a job that is placed on a slot goes the slot's pass.
module _ (tenant : ℕ) (c : Tenant) (s : State) (home : List Place) (config : s.config ≡ c) (are : AreHome c s home) (places : ArePlaced tenant home) (b : Bool) (r : Request) (y : Reply)
    (answered : y ≡ (ask_within b s r).0) where
  goes_at : (k : Option ℕ) → placed_on y ≡ k → GoesWith tenant k (placed_pass k home)
  goes_at None is = refl
  goes_at (Some slot) is =
      let free = (ask_free b s r).at slot (ap placed_on (sym answered) ∙ is) in
      let low : slot < c.reserved = subst (λ (v : Tenant). slot < v.reserved) config free.0 in
      placed_of tenant slot (place home slot) (places slot) (are slot low free.1)

  pub asked_goes : GoesWith tenant (placed_on y) (placed_pass (placed_on y) home)
  asked_goes = goes_at (placed_on y) refl

-- With an arrival that finds a row goes the slot's pass.
pub arrived_goes : (tenant slot : ℕ) (m : Came) (q : Place) (room : Bool) → option_map has_room (pass_in q) ≡ Some room → IsPlaceOf tenant slot q →
    GoesWith tenant (entered slot (is_entry (answer.Came m))) (arrived_pass m (pass_in q))
arrived_goes tenant slot (came.At n) (Home p) room held is = record { tenant = is.tenant; slot = is.slot }
arrived_goes tenant slot (came.At n) (Due p) room held is = record { tenant = is.tenant; slot = is.slot }
arrived_goes tenant slot (came.At n) Out room held is = absurd (grind (arith, held))
arrived_goes tenant slot came.Nothing q room held is = refl
arrived_goes tenant slot came.Full q room held is = refl
