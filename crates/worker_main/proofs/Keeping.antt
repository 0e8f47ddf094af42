-- Whatever a thread does at the queues, it stays at the same queues with the same pass.
use Rattle.std.proofs.Common.{◌≡◌, inl, inr, Bool, ℕ, zero, suc, List, [], ◌∷◌, Option, Some, None, sym, ◌∙◌, ap, subst}
use Rattle.job_language.specs.declared.answers.Moved.{Moved}
use Rattle.job_language.specs.declared.answers.Moved.TheVariants as moved
use Rattle.job_language.specs.declared.answers.Came.{Came}
use Rattle.job_language.specs.declared.answers.Came.TheVariants as came
use Rattle.job_step.specs.declared.segments.View.{View}
use Rattle.job_step.specs.declared.segments.View.TheVariants as view
use Rattle.market_config.specs.declared.calls.Call.{Call}
use Rattle.nested_wait.specs.Turns.{MovesBy}
use Rattle.worker_main.specs.declared.visits.Round.{Round}
use Rattle.worker_main.specs.declared.visits.Round.TheVariants.{Again, Left, Ended}
use Rattle.call_queues.specs.Queues.{QueuesSeen, PassSeen}
use Rattle.worker_main.specs.Pushes.{RingerSeen, Pushes, PushesDue}
use Rattle.worker_main.specs.Slots.{SlotSeen, Ways, commits_of, advances_of, TakesOne}
use Rattle.worker_main.specs.Visits.{Told, AfterBelow, AfterTurn, TakesRound, GoesAgain, EndsVisit, Visits, AfterArriving}
use Rattle.worker_main.specs.declared.visiting.Visiting.{Visiting}
use Rattle.worker_main.specs.Works.{AfterPopping, ServesCall, TakesTurns, Works}

-- the same queues, and a pass of the same queues with the same number
abbrev pub IsKept : RingerSeen → RingerSeen → Type 0
IsKept s t = (t.queues ≡ s.queues) × (t.pass.queues ≡ s.pass.queues) × (t.pass.number ≡ s.pass.number)

same : (s t : RingerSeen) → t ≡ s → IsKept s t
same s t e = (ap (λ (r : RingerSeen). r.queues) e, ap (λ (r : RingerSeen). r.pass.queues) e, ap (λ (r : RingerSeen). r.pass.number) e)

joined : (r s t : RingerSeen) → IsKept r s → IsKept s t → IsKept r t
joined r s t a b = (b.0 ∙ a.0, b.1 ∙ a.1, b.2 ∙ a.2)

pushes_kept : (s t : RingerSeen) (call : Call) → Pushes s call t → IsKept s t
pushes_kept s t call pushes = elim pushes [
  | inl e ↦ (ap (λ (r : RingerSeen). r.queues) e, ap (λ (r : RingerSeen). r.pass.queues) e, ap (λ (r : RingerSeen). r.pass.number) e)
  | inr none ↦ same s t none.0
]

due_kept : (due : Option Call) (s t : RingerSeen) → PushesDue s due t → IsKept s t
due_kept None s t e = same s t e
due_kept (Some call) s t pushes = pushes_kept s t call pushes

module _ {D : Type 0} (w : Ways D) (v : Visiting) where
  abbrev Kept : SlotSeen D → SlotSeen D → Type 0
  Kept s t = IsKept s.ringer t.ringer

  equal : (s t : SlotSeen D) → t ≡ s → Kept s t
  equal s t e = same s.ringer t.ringer (ap (λ (d : SlotSeen D). d.ringer) e)

  moves_kept : (seen : View) (s t : SlotSeen D) (m : Moved) → MovesBy (commits_of w.commits) (advances_of w.advances) seen s m t → Kept s t
  moves_kept (view.Top top) s t m moves = due_kept moves.0 s.ringer t.ringer moves.1.1
  moves_kept view.Bare s t m moves = due_kept moves.0 s.ringer t.ringer moves.1.1
  moves_kept view.Unshared s t m moves = due_kept moves.0 s.ringer t.ringer moves.1.1

  turn_kept : (s t : SlotSeen D) (m : Moved) → TakesOne w s m t → Kept s t
  turn_kept s t m turn = moves_kept turn.0 s t m turn.1.1

  below_kept : (r : Round) (s t : SlotSeen D) → AfterBelow w v r s t → Kept s t
  below_kept r s t is = elim is [
    | inl advanced ↦ due_kept advanced.1.0.0 s.ringer t.ringer advanced.1.0.1.1
    | inr shared ↦ due_kept shared.2.0 s.ringer t.ringer shared.2.1.1
  ]

  after_kept : (m : Moved) (r : Round) (s t : SlotSeen D) → AfterTurn w m r s t → Kept s t
  after_kept moved.Idle r s t is = same s.ringer t.ringer is.1.0.1
  after_kept moved.Full r s t is = equal s t is.1
  after_kept moved.Ran r s t is = equal s t is.1
  after_kept (moved.Nested n) r s t is = equal s t is.1
  after_kept moved.Freed r s t is = equal s t is.1
  after_kept moved.Left r s t is = equal s t is.1
  after_kept moved.Stale r s t is = equal s t is.1

  round_kept : (r : Round) (s t : SlotSeen D) → TakesRound w v r s t → Kept s t
  round_kept r s t is = elim is.1.1 [
    | inl low ↦ below_kept r s t low.1
    | inr some ↦
        let m = some.1.0 in
        let f = some.1.1 in
        joined s.ringer f.ringer t.ringer (turn_kept s f m some.1.2.0) (after_kept m r f t some.1.2.1)
  ]

  again_kept : (l : Told) (n : ℕ) (s t : SlotSeen D) → GoesAgain w v l n s t → Kept s t
  again_kept l zero s t is = equal s t is
  again_kept l (suc n) s t is = joined s.ringer is.0.ringer t.ringer (again_kept l n s is.0 is.1.0) (round_kept Again is.0 t is.1.1.1)

  ends_kept : (l : Told) (n : ℕ) (s t : SlotSeen D) → EndsVisit w v l n s t → Kept s t
  ends_kept l n s t is = elim is [
    | inl left ↦ round_kept Left s t left.1
    | inr rest ↦ elim rest [
      | inl ended ↦ joined s.ringer ended.0.ringer t.ringer (round_kept Ended s ended.0 ended.1.0.1) (same ended.0.ringer t.ringer ended.1.1.1)
      | inr other ↦ same s.ringer t.ringer other.1.1
    ]
  ]

  visits_kept : (l : Told) (s t : SlotSeen D) → Visits w v l s t → Kept s t
  visits_kept l s t is = joined s.ringer is.1.ringer t.ringer (again_kept l is.0 s is.1 is.2.0) (ends_kept l is.0 is.1 t is.2.1)

  arriving_kept : (l : Told) (answer : Came) (s t : SlotSeen D) → AfterArriving w v l answer s t → Kept s t
  arriving_kept l (came.At row) s t is = visits_kept l s t is
  arriving_kept l came.Nothing s t is = equal s t is
  arriving_kept l came.Full s t is = equal s t is

  popping_kept : (l : Told) (popped : Option Call) (s t : SlotSeen D) → AfterPopping w v l popped s t → Kept s t
  popping_kept l None s t is = equal s t is
  popping_kept l (Some call) s t is = joined s.ringer is.1.ringer t.ringer (due_kept is.2.0.0 s.ringer is.1.ringer is.2.0.1.1) (arriving_kept l is.0 is.1 t is.2.1)

  turns_kept : (l : Told) (n : ℕ) (s t : SlotSeen D) → TakesTurns w v l n s t → Kept s t
  turns_kept l zero s t is = equal s t is
  turns_kept l (suc n) s t is =
      let f = is.0 in
      let g = is.1.1.1 in
      let pops = is.1.1.2.0.1 in
      joined s.ringer f.ringer t.ringer (turns_kept l n s f is.1.0) (joined f.ringer g.ringer t.ringer (pops.0, pops.1, pops.2) (popping_kept l is.1.1.0 g t is.1.1.2.1))

  works_kept : (l : Told) (s t : SlotSeen D) → Works w v l s t → Kept s t
  works_kept l s t is = turns_kept l is.0 s t is.1.0

  works_apart : (l : Told) (s t : SlotSeen D) (q : QueuesSeen) (p : PassSeen) (d : D) → Works w v l s t → t.ringer.queues ≡ q → p ≡ t.ringer.pass → d ≡ t.doors
      → Works w v l s (record { ringer = record { queues = q; pass = p }; doors = d })
  works_apart l s t q p d is eq ep ed =
      let whole : t ≡ record { ringer = record { queues = q; pass = p }; doors = d } = (λ i. record { ringer = record { queues = eq i; pass = sym ep i }; doors = sym ed i }) in
      subst (Works w v l s) whole is

  -- a worker is put together from its pass and doors, works, and is taken apart
  module _ (l : Told) (q : QueuesSeen) (old new : PassSeen) (first last : D) (r : RingerSeen) (s t : SlotSeen D)
      (er : r ≡ record { queues = q; pass = old }) (es : s ≡ record { ringer = r; doors = first }) (works : Works w v l s t) (ep : new ≡ t.ringer.pass) (ed : last ≡ t.doors) where
    abbrev begin : SlotSeen D
    begin = record { ringer = record { queues = q; pass = old }; doors = first }

    begins : Works w v l begin t
    begins =
        let whole : s ≡ begin = es ∙ ap (λ (x : RingerSeen). record { ringer = x; doors = first }) er in
        subst (λ x. Works w v l x t) whole works

    pub worked : Works w v l begin (record { ringer = record { queues = q; pass = new }; doors = last })
    worked = works_apart l begin t q new last begins (works_kept l begin t begins).0 ep ed

    pub pass_kept : (new.queues ≡ old.queues) × (new.number ≡ old.number)
    pass_kept =
        let kept = works_kept l begin t begins in
        (ap (λ (p : PassSeen). p.queues) ep ∙ kept.1, ap (λ (p : PassSeen). p.number) ep ∙ kept.2)

  serves_kept : (l : Told) (called : Bool) (s t : SlotSeen D) → ServesCall w v l called s t → Kept s t
  serves_kept l called s t is =
      let f = is.1 in
      let pops = is.2.1.0.1 in
      joined s.ringer f.ringer t.ringer (pops.0, pops.1, pops.2) (popping_kept l is.0 f t is.2.1.1)

  -- the same of a worker who serves one call
  module _ (l : Told) (called : Bool) (q : QueuesSeen) (old new : PassSeen) (first last : D) (r : RingerSeen) (s t : SlotSeen D)
      (er : r ≡ record { queues = q; pass = old }) (es : s ≡ record { ringer = r; doors = first }) (serves : ServesCall w v l called s t) (ep : new ≡ t.ringer.pass) (ed : last ≡ t.doors) where
    abbrev first_slot : SlotSeen D
    first_slot = record { ringer = record { queues = q; pass = old }; doors = first }

    serves_first : ServesCall w v l called first_slot t
    serves_first =
        let whole : s ≡ first_slot = es ∙ ap (λ (x : RingerSeen). record { ringer = x; doors = first }) er in
        subst (λ x. ServesCall w v l called x t) whole serves

    pub call_served : ServesCall w v l called first_slot (record { ringer = record { queues = q; pass = new }; doors = last })
    call_served =
        let eq = (serves_kept l called first_slot t serves_first).0 in
        let whole : t ≡ record { ringer = record { queues = q; pass = new }; doors = last } = (λ i. record { ringer = record { queues = eq i; pass = sym ep i }; doors = sym ed i }) in
        subst (ServesCall w v l called first_slot) whole serves_first

    pub call_kept : new.queues ≡ old.queues
    call_kept = ap (λ (p : PassSeen). p.queues) ep ∙ (serves_kept l called first_slot t serves_first).1
