-- Rounds of a visit and turns of a worker, one after another.
use Rattle.std.proofs.Common.{◌≡◌, ◌≢◌, inl, inr, ◌⊎◌, ℕ, suc, ◌+◌, ◌<◌, ◌≤◌, Bool, true, false, Option, Some, None, refl, sym, ap, subst, arith}
use Rattle.std.specs.Prelude.{is_some}
use Rattle.job_language.specs.declared.answers.Moved.{Moved}
use Rattle.job_language.specs.declared.answers.Moved.TheVariants as moved
use Rattle.job_language.specs.declared.answers.Came.{Came}
use Rattle.job_language.specs.declared.answers.Came.TheVariants as came
use Rattle.market_config.specs.declared.calls.Call.{Call}
use Rattle.nested_wait.specs.Runs.{most_turns}
use Rattle.worker_main.specs.declared.visits.Round.{Round}
use Rattle.worker_main.specs.declared.visits.Round.TheVariants.{Again, Left, Ended}
use Rattle.worker_main.specs.Slots.{SlotSeen, Ways, Homes, Arrives, PopsAt, TakesOne, heights_of, pauses_of}
use Rattle.worker_main.specs.Visits.{Told, AfterBelow, AfterTurn, TakesRound, GoesAgain, Visits, AfterArriving, Comes, after_pause}
use Rattle.worker_main.specs.declared.visiting.Visiting.{Visiting}
use Rattle.worker_main.specs.Works.{AfterPopping, ServesCall, TakesTurn, TakesTurns}

module _ {D : Type 0} (w : Ways D) (v : Visiting) where
  pub below : (s t : SlotSeen D) (h : ℕ) (r : Round) → heights_of w.heights s h → h < 1 → AfterBelow w v r s t → TakesRound w v r s t
  below s t h r high low after = (h, (high, inl (low, after)))

  turned : (s f t : SlotSeen D) (h : ℕ) (m is : Moved) (r : Round) → heights_of w.heights s h → 1 ≤ h → TakesOne w s m f → m ≡ is → AfterTurn w is r f t → TakesRound w v r s t
  turned s f t h m is r high some takes e after = (h, (high, inr (some, (m, f, (takes, (let P : Moved → Type 0 = λ x. AfterTurn w x r f t in subst P (sym e) after))))))

  pub paused : (s f t : SlotSeen D) (h : ℕ) (m : Moved) (stops : Bool) (r : Round) → heights_of w.heights s h → 1 ≤ h → TakesOne w s m f → m ≡ moved.Idle → pauses_of w.pauses f stops t →
      r ≡ after_pause stops → TakesRound w v r s t
  paused s f t h m stops r high some takes e pauses is = turned s f t h m moved.Idle r high some takes e (stops, (pauses, is))

  pub full : (s f : SlotSeen D) (h : ℕ) (m : Moved) → heights_of w.heights s h → 1 ≤ h → TakesOne w s m f → m ≡ moved.Full → TakesRound w v Ended s f
  full s f h m high some takes e = turned s f f h m moved.Full Ended high some takes e (refl, refl)

  other_turn : (m : Moved) (f : SlotSeen D) → m ≢ moved.Idle → m ≢ moved.Full → AfterTurn w m Again f f
  other_turn moved.Idle f no_pause no_end = absurd (no_pause refl)
  other_turn moved.Full f no_pause no_end = absurd (no_end refl)
  other_turn moved.Ran f no_pause no_end = (refl, refl)
  other_turn (moved.Nested n) f no_pause no_end = (refl, refl)
  other_turn moved.Freed f no_pause no_end = (refl, refl)
  other_turn moved.Left f no_pause no_end = (refl, refl)
  other_turn moved.Stale f no_pause no_end = (refl, refl)

  pub went_on : (s f : SlotSeen D) (h : ℕ) (m : Moved) → heights_of w.heights s h → 1 ≤ h → TakesOne w s m f → m ≢ moved.Idle → m ≢ moved.Full → TakesRound w v Again s f
  went_on s f h m high some takes no_pause no_end = turned s f f h m m Again high some takes refl (other_turn m f no_pause no_end)

  round_is : (r is : Round) (s t : SlotSeen D) → r ≡ is → TakesRound w v r s t → TakesRound w v is s t
  round_is r is s t e takes = let P : Round → Type 0 = λ x. TakesRound w v x s t in subst P e takes

  module _ (l : Told) where
    pub again_more : (n : ℕ) (s d e : SlotSeen D) (r : Round) → GoesAgain w v l n s d → l.goes n → r ≡ Again → TakesRound w v r d e → GoesAgain w v l (n + 1) s e
    again_more n s d e r so_far goes is takes =
        let next : suc n ≡ n + 1 = omega arith in
        subst (λ k. GoesAgain w v l k s e) next (d, (so_far, (goes, round_is r Again d e is takes)))

    pub ends_left : (n : ℕ) (s d e : SlotSeen D) (r : Round) → GoesAgain w v l n s d → l.goes n → r ≡ Left → TakesRound w v r d e → Visits w v l s e
    ends_left n s d e r so_far goes is takes = (n, d, (so_far, inl (goes, round_is r Left d e is takes)))

    pub ends_home : (n : ℕ) (s d e t : SlotSeen D) (r : Round) → GoesAgain w v l n s d → l.goes n → r ≡ Ended → TakesRound w v r d e → Homes w.homes e t → Visits w v l s t
    ends_home n s d e t r so_far goes is takes home = (n, d, (so_far, inr (inl (e, ((goes, round_is r Ended d e is takes), home)))))

    pub ends_told : (n : ℕ) (s d t : SlotSeen D) → GoesAgain w v l n s d → l.stops → Homes w.homes d t → Visits w v l s t
    ends_told n s d t so_far stops home = (n, d, (so_far, inr (inr (inl stops, home))))

    pub ends_long : (n : ℕ) (s d t : SlotSeen D) → GoesAgain w v l n s d → most_turns ≤ n → Homes w.homes d t → Visits w v l s t
    ends_long n s d t so_far long home = (n, d, (so_far, inr (inr (inr long, home))))

    pub comes_at : (call : Call) (s f t : SlotSeen D) (answer : Came) (row : ℕ) → answer ≡ came.At row → Arrives w.arrives s call answer f → Visits w v l f t → Comes w v l call s t
    comes_at call s f t answer row e arrives visits = (answer, f, (arrives, (let P : Came → Type 0 = λ a. AfterArriving w v l a f t in subst P (sym e) visits)))

    pub comes_not : (call : Call) (s f : SlotSeen D) (answer : Came) → (answer ≡ came.Nothing) ⊎ (answer ≡ came.Full) → Arrives w.arrives s call answer f → Comes w v l call s f
    comes_not call s f answer e arrives = elim e [
      | inl nothing ↦ (answer, f, (arrives, (let P : Came → Type 0 = λ a. AfterArriving w v l a f f in subst P (sym nothing) refl)))
      | inr full ↦ (answer, f, (arrives, (let P : Came → Type 0 = λ a. AfterArriving w v l a f f in subst P (sym full) refl)))
    ]

    pub turn_some : (s f t : SlotSeen D) (popped : Option Call) (call : Call) → popped ≡ Some call → PopsAt s popped f → Comes w v l call f t → TakesTurn w v l s t
    turn_some s f t popped call e pops comes = (popped, f, (pops, (let P : Option Call → Type 0 = λ p. AfterPopping w v l p f t in subst P (sym e) comes)))

    pub turn_none : (s f : SlotSeen D) (popped : Option Call) → popped ≡ None → PopsAt s popped f → TakesTurn w v l s f
    turn_none s f popped e pops = (popped, f, (pops, (let P : Option Call → Type 0 = λ p. AfterPopping w v l p f f in subst P (sym e) refl)))

    pub serves_some : (s f t : SlotSeen D) (popped : Option Call) (call : Call) → popped ≡ Some call → PopsAt s popped f → Comes w v l call f t → ServesCall w v l true s t
    serves_some s f t popped call e pops comes = (popped, f, (sym (ap is_some e), (pops, (let P : Option Call → Type 0 = λ p. AfterPopping w v l p f t in subst P (sym e) comes))))

    pub serves_none : (s f : SlotSeen D) (popped : Option Call) → popped ≡ None → PopsAt s popped f → ServesCall w v l false s f
    serves_none s f popped e pops = (popped, f, (sym (ap is_some e), (pops, (let P : Option Call → Type 0 = λ p. AfterPopping w v l p f f in subst P (sym e) refl))))

    pub turns_more : (n : ℕ) (s d e : SlotSeen D) → TakesTurns w v l n s d → TakesTurn w v l d e → TakesTurns w v l (n + 1) s e
    turns_more n s d e so_far takes =
        let next : suc n ≡ n + 1 = omega arith in
        subst (λ k. TakesTurns w v l k s e) next (d, (so_far, takes))
