-- The steps of a world, by what is held.
use Rattle.std.proofs.Common.{◌≡◌, ℕ, ◌<◌, List, length, Option, Some, Ok, true, false, nat_lt, refl, sym, ap, ◌∙◌, arith, subst, inl, inr}
use Rattle.std.specs.Prelude.{slice_set, slice_index_or}
use Rattle.job_language.specs.declared.answers.Answer.{Answer}
use Rattle.job_language.specs.declared.requests.Request.{Request}
use Rattle.job_language.specs.declared.steps.Step.{Step}
use Rattle.job_language.specs.declared.steps.Step.TheVariants.{Ask, Arrive, Advance}
use Rattle.request_reader.specs.LineAsks.{IsShortText}
use Rattle.tenant_model.specs.State.{State}
use Rattle.tenant_model.specs.Solo as solo
use Rattle.market_config.specs.declared.calls.Call.{Call}
use Rattle.world_model.specs.declared.outcomes.Outcome.{Outcome}
use Rattle.world_model.specs.declared.outcomes.Outcome.TheVariants as outcome
use Rattle.world_model.specs.Market.{Market, worker_at, held_by, call_of}
use Rattle.world_model.specs.OwnSteps.{OwnStep, ask_of, request_of, step_of}
use Rattle.world_model.specs.OwnSteps as own
use Rattle.world_model.specs.Raw.{Raw}
use Rattle.world_model.specs.Raw as raw
use Rattle.world_model.specs.Refusals.{is_no_memory, no_memory, TakesMemory, next}
use Rattle.world_model.specs.World.{World, state_of, is_blank, arrival_of, advance_of, own_of, market_after, wake_after, answer_step, step_own, step}
use Rattle.world_model.proofs.Taking.{never_no_memory}
use Rattle.world_core.specs.WorldData.{WorldData}
use Rattle.world_core.specs.Represents.{Represents}
use Rattle.world_core.specs.Steps.{IsTaken, Steps}
use Rattle.world_core.proofs.Reading.{request_short}
use Rattle.world_core.proofs.Representing.{represents_step, represents_same}

-- the world after a step that is answered as the definitions say
next_is : (w : World) (x : Raw) (o : Outcome) → o ≡ (step w x).0 → next w x o ≡ (step w x).1
next_is w x o is =
    let own : is_no_memory o ≡ false = ap is_no_memory is ∙ never_no_memory w x in
    rw own refl

module _ {A : Type 0} (stands_for : A → State → Type 0) (h : WorldData A) where
  -- what is held then is a world that each step leads to
  exactly : (x : Raw) (o : Outcome) (k : WorldData A) → ((w : World) → Represents stands_for h w → (v : World) × (step w x ≡ (o, v)) × Represents stands_for k v) → Steps stands_for h k x o
  exactly x o k leads = record {
    answer = λ w is. inl (sym (ap (λ r. r.0) (leads w is).1));
    world = λ w is.
        let e = leads w is in
        let there : e.0 ≡ next w x o = sym (next_is w x o (sym (ap (λ r. r.0) e.1)) ∙ ap (λ r. r.1) e.1) in
        subst (λ (v : World). Represents stands_for k v) there e.2;
  }

  -- the tenant of the step has taken a step of its own
  taken_steps : (x : Raw) (t : ℕ) (o : OwnStep) (y : Step) (a : A) (n : Market) (answer : Answer) (d : A) →
      ((w : World) → Represents stands_for h w → own_of w x ≡ Some (t, o)) → step_of o ≡ Ok y → t < length h.arenas →
      ((s : State) → stands_for (slice_index_or h.arenas t d) s → IsTaken stands_for s x t y h.market answer a n) →
      Steps stands_for h (record { arenas = slice_set h.arenas t a; market = n }) x (outcome.Own answer)
  taken_steps x t o y a n answer d owned reads there takes = exactly x (outcome.Own answer) _ (λ w is.
      let s = state_of w t in
      let took = takes s (is.each t d there) in
      let r = solo.step s y in
      let m : Market = wake_after (market_after w.market x r.0) t r.0 r.1 in
      let v : World = record { states = slice_set w.states t r.1; market = m } in
      let here : step w x ≡ (outcome.Own r.0, v) = ap (step_own w x) (owned w is) ∙ ap (answer_step w x t) reads in
      let told : step w x ≡ (outcome.Own answer, v) = here ∙ ap (λ (b : Answer). (outcome.Own b, v)) (sym took.answer_is) in
      let same : n ≡ m = took.market_is ∙ ap (λ (b : Market). wake_after (market_after b x r.0) t r.0 r.1) is.market_is in
      (v, told, represents_step stands_for h w is t a r.1 n m took.stands same))

  -- A line of a tenant that is there, which is not blank, is the tenant's own.
  line_owned : (t : ℕ) (text : List ℕ) → t < length h.arenas → is_blank text ≡ false → (w : World) → Represents stands_for h w → own_of w (raw.line t text) ≡ Some (t, own.line text)
  line_owned t text there filled w is =
      let known : nat_lt t (length w.states) ≡ true = grind (arith, there, is.long) in
      rw (known, filled) refl

  -- it may be refused because an allocation failed, and then the arena stands for the same state
  no_memory_steps : (t : ℕ) (text : List ℕ) (k : WorldData A) → t < length h.arenas → is_blank text ≡ false → IsShortText text →
      ((w : World) → Represents stands_for h w → Represents stands_for k w) → Steps stands_for h k (raw.line t text) no_memory
  no_memory_steps t text k there filled short same = record {
    answer = λ w is.
        let takes : TakesMemory (own_of w (raw.line t text)) = subst (λ (o : Option (ℕ × OwnStep)). TakesMemory o) (sym (line_owned t text there filled w is)) short in
        inr (takes, refl);
    world = same;
  }

  -- The tenant answers a request.
  pub asked_steps : (t : ℕ) (text : List ℕ) (request : Request) (a : A) (n : Market) (answer : Answer) (d : A) → t < length h.arenas → is_blank text ≡ false → request_of text ≡ Ok request →
      ((s : State) → stands_for (slice_index_or h.arenas t d) s → IsTaken stands_for s (raw.line t text) t (Ask request) h.market answer a n) →
      Steps stands_for h (record { arenas = slice_set h.arenas t a; market = n }) (raw.line t text) (outcome.Own answer)
  asked_steps t text request a n answer d there filled reads takes =
      taken_steps (raw.line t text) t (own.line text) (Ask request) a n answer d (line_owned t text there filled) (ap ask_of reads) there takes

  -- or cannot, because an allocation failed
  pub unasked_steps : (t : ℕ) (text : List ℕ) (request : Request) (a : A) (n : Market) (d : A) → t < length h.arenas → is_blank text ≡ false → request_of text ≡ Ok request →
      ((s : State) → stands_for (slice_index_or h.arenas t d) s → stands_for a s) → n ≡ h.market →
      Steps stands_for h (record { arenas = slice_set h.arenas t a; market = n }) (raw.line t text) no_memory
  unasked_steps t text request a n d there filled reads stays same =
      no_memory_steps t text _ there filled (request_short text request reads) (λ w is. represents_same stands_for h w is t a n (stays (state_of w t) (is.each t d there)) same)

  -- A worker arrives with the call that it holds.
  pub arrive_steps : (k : ℕ) (c : Call) (a : A) (n : Market) (answer : Answer) (d : A) → c.tenant < length h.arenas → held_by (worker_at h.market k) ≡ Some c →
      ((s : State) → stands_for (slice_index_or h.arenas c.tenant d) s → IsTaken stands_for s (raw.arrive k) c.tenant (Arrive c.slot) h.market answer a n) →
      Steps stands_for h (record { arenas = slice_set h.arenas c.tenant a; market = n }) (raw.arrive k) (outcome.Own answer)
  arrive_steps k c a n answer d there held takes = taken_steps (raw.arrive k) c.tenant (own.arrive c.slot) (Arrive c.slot) a n answer d
      (λ w is. ap (λ (m : Market). arrival_of (held_by (worker_at m k))) (sym is.market_is) ∙ ap arrival_of held) refl there takes

  -- A worker advances the slot that it is in.
  pub advance_steps : (k : ℕ) (c : Call) (a : A) (n : Market) (answer : Answer) (d : A) → c.tenant < length h.arenas → call_of (worker_at h.market k) ≡ Some c →
      ((s : State) → stands_for (slice_index_or h.arenas c.tenant d) s → IsTaken stands_for s (raw.advance k) c.tenant (Advance c.slot) h.market answer a n) →
      Steps stands_for h (record { arenas = slice_set h.arenas c.tenant a; market = n }) (raw.advance k) (outcome.Own answer)
  advance_steps k c a n answer d there within takes = taken_steps (raw.advance k) c.tenant (own.advance c.slot) (Advance c.slot) a n answer d
      (λ w is. ap (λ (m : Market). advance_of (call_of (worker_at m k))) (sym is.market_is) ∙ ap advance_of within) refl there takes
