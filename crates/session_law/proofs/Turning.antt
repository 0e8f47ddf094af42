-- Turns of an arena's door are advances of its slot.
use Rattle.std.proofs.Common.{◌≡◌, ◌≢◌, ◌∙◌, ◌+◌, ◌≤◌, ◌⊎◌, ℕ, true, false, Option, Some, None, List, [], ◌∷◌, length, refl, sym, ap, arith, inl, inr, subst}
use Rattle.job_language.specs.declared.answers.Answer.TheVariants as answer
use Rattle.job_language.specs.declared.answers.Moved.{Moved}
use Rattle.job_language.specs.declared.answers.Moved.TheVariants as moved
use Rattle.job_language.specs.declared.steps.Step.TheVariants.{Advance}
use Rattle.job_language.specs.declared.tenants.Tenant.{Tenant}
use Rattle.job_language.specs.declared.tenants.TheConstants.{MAX_STEPS}
use Rattle.job_language.specs.Recorded.{is_entry}
use Rattle.job_step.specs.declared.segments.Top.{Top}
use Rattle.job_step.specs.declared.segments.View.{View}
use Rattle.job_step.specs.declared.segments.View.TheVariants as view
use Rattle.tenant_model.specs.State.{State}
use Rattle.tenant_model.specs.Walks.{height, top}
use Rattle.tenant_model.specs.Advance.{advance}
use Rattle.tenant_model.proofs.Advancing.{entry_counted}
use Rattle.nested_wait.specs.Turns.{MovesBy, Turn, TurnFrom}
use Rattle.nested_wait.specs.Runs.{GoesOn, Leads, Ends}
use Rattle.nested_wait.specs.declared.attending.Attended.{Attended}
use Rattle.nested_wait.specs.declared.attending.Attended.TheVariants.{Below, Full, Stopped}
use Rattle.arena_rows.specs.Held.{Held}
use Rattle.arena_steps.proofs.Rooms.{within-open}
use Rattle.arena_core.specs.Stands.{StandsFor, Takes}
use Rattle.arena_core.specs.Views.{IsSeenOf, IsTopmost}
use Rattle.arena_core.specs.Views.{Commits as CommitsIn}
use Rattle.session_law.proofs.Counting.{is_counted}
use Rattle.session_law.specs.SlotDoor.{IsSameDoor, SeesSlot, IsSlotAsHigh, AdvancesSlot, CommitsSlot, PausesSlot}
use Rattle.session_law.specs.AttendedSlot.{advanced, Attends}
use Rattle.session_law.specs.declared.slot_door.ArenaDoor.{ArenaDoor}

pub topmost : (s : State) (slot : ℕ) (o : Option ℕ) (t : Top) → top s.rows slot ≡ o → IsSeenOf s slot o (view.Top t) → IsTopmost s slot t
topmost s slot None t is seen = absurd (grind (arith, seen))
topmost s slot (Some n) t is seen = elim seen [
  | inl same ↦ (n, (is, grind (arith, same)))
  | inr other ↦ absurd (grind (arith, other))
]

takes : (b : Held) (m : Moved) (s t : State) (slot : ℕ) (seen : Top) → IsTopmost s slot seen → CommitsIn true s slot seen m t → StandsFor b t → Takes b m (advance s slot)
takes b m s t slot seen is commits stands = elim commits [
  | inl moved ↦
      let open_step = within-open s (advance s slot) in
      let next : t ≡ (advance s slot).1 = moved.2 ∙ ap (λ (r : Moved × State). r.1) open_step in
      (moved.1 ∙ ap (λ (r : Moved × State). r.0) open_step, subst (StandsFor b) next stands)
  | inr stale ↦ absurd (stale.0 is)
]

moves : (d e : ArenaDoor) (seen : View) (m : Moved) (s : State) → SeesSlot d seen → MovesBy CommitsSlot AdvancesSlot seen d m e → StandsFor d.arena.now s →
    IsSameDoor d e × Takes e.arena.now m (advance s d.slot)
moves d e (view.Top t) m s sees by stands =
    let commits = by.1 s stands in
    (by.0, takes e.arena.now m s commits.0 d.slot t (topmost s d.slot (top s.rows d.slot) t refl (sees s stands)) commits.1.0 commits.1.1)
moves d e view.Bare m s sees by stands = (by.0, by.1 s stands)
moves d e view.Unshared m s sees by stands = (by.0, by.1 s stands)

-- after Idle and Full no turn is counted
goes_counted : (m : Moved) (f g : ArenaDoor) → GoesOn PausesSlot m f g → (m ≢ moved.Idle) × (m ≢ moved.Full)
goes_counted moved.Idle f g goes = absurd (grind (arith, goes.0))
goes_counted moved.Full f g goes = absurd goes
goes_counted moved.Ran f g goes = (λ e. absurd (grind (arith, e)), λ e. absurd (grind (arith, e)))
goes_counted (moved.Nested n) f g goes = (λ e. absurd (grind (arith, e)), λ e. absurd (grind (arith, e)))
goes_counted moved.Freed f g goes = (λ e. absurd (grind (arith, e)), λ e. absurd (grind (arith, e)))
goes_counted moved.Left f g goes = (λ e. absurd (grind (arith, e)), λ e. absurd (grind (arith, e)))
goes_counted moved.Stale f g goes = (λ e. absurd (grind (arith, e)), λ e. absurd (grind (arith, e)))

-- a pause never says to go on
goes_same : (m : Moved) (f g : ArenaDoor) → GoesOn PausesSlot m f g → g ≡ f
goes_same moved.Idle f g goes = absurd (grind (arith, goes.0))
goes_same moved.Full f g goes = absurd goes
goes_same moved.Ran f g goes = goes
goes_same (moved.Nested n) f g goes = goes
goes_same moved.Freed f g goes = goes
goes_same moved.Left f g goes = goes
goes_same moved.Stale f g goes = goes

same_after : (base d e : ArenaDoor) → IsSameDoor base d → IsSameDoor d e → IsSameDoor base e
same_after base d e first then_on = (then_on.0 ∙ first.0, then_on.1 ∙ first.1)

same_moves : (d e : ArenaDoor) (seen : View) (m : Moved) → MovesBy CommitsSlot AdvancesSlot seen d m e → IsSameDoor d e
same_moves d e (view.Top t) m by = by.0
same_moves d e view.Bare m by = by.0
same_moves d e view.Unshared m by = by.0

-- an advance that is no entry changes nothing
unmoved : (a : Held) (s : State) (slot : ℕ) (m : Moved) → StandsFor a s → m ≡ (advance s slot).0 → is_entry (answer.Moved m) ≡ false → advance s slot ≡ (m, s)
unmoved a s slot m stands is none =
    let still : (advance s slot).1 ≡ s = (entry_counted s (Advance slot) stands.rests.holds.steady.formed).none (ap (λ (x : Moved). is_entry (answer.Moved x)) (sym is) ∙ none) in
    ap (λ (x : Moved). (x, (advance s slot).1)) (sym is) ∙ ap (λ (t : State). (m, t)) still

module _ (floor : ℕ) (base : ArenaDoor) where
  abbrev turn : ArenaDoor → Moved → ArenaDoor → Type 0
  turn = TurnFrom (Turn SeesSlot CommitsSlot AdvancesSlot) IsSlotAsHigh floor

  same_turned : (d e : ArenaDoor) (m : Moved) → turn d m e → IsSameDoor base d → IsSameDoor base e
  same_turned d e m is same = same_after base d e same (same_moves d e is.1.2.0 m is.1.2.1.1)

  same_led : (ms : List Moved) (d e : ArenaDoor) → Leads turn PausesSlot ms d e → IsSameDoor base d → IsSameDoor base e
  same_led [] d e leads same = subst (IsSameDoor base) (sym leads) same
  same_led (m ∷ ms) d e leads same =
      let one = same_turned d leads.0 m leads.2.0 same in
      same_led ms leads.1 e leads.2.2 (subst (IsSameDoor base) (sym (goes_same m leads.0 leads.1 leads.2.1)) one)

  -- Attending a door leaves it the same slot's.
  pub ends_same : (how : Attended) (e : ArenaDoor) → Ends turn IsSlotAsHigh PausesSlot floor how base e → IsSameDoor base e
  ends_same Below e is = same_led is.0.answers base e is.0.leads (refl, refl)
  ends_same Full e is = same_turned is.0 e moved.Full is.1.1 (same_led is.1.0.answers base is.0 is.1.0.leads (refl, refl))
  ends_same Stopped e is = elim is [
    | inl idle ↦
        let there = same_turned idle.0 idle.1 moved.Idle idle.2.1 (same_led idle.2.0.answers base idle.0 idle.2.0.leads (refl, refl)) in
        subst (IsSameDoor base) (sym idle.2.2.1) there
    | inr long ↦ same_led long.answers base e long.leads (refl, refl)
  ]

  turned : (d e : ArenaDoor) (m : Moved) (s : State) → turn d m e → IsSameDoor base d → StandsFor d.arena.now s → IsSameDoor base e × Takes e.arena.now m (advance s base.slot)
  turned d e m s is same stands =
      let step = is.1.2 in
      let moved = moves d e step.0 m s step.1.0 step.1.1 stands in
      (same_after base d e same moved.0, subst (λ (slot : ℕ). Takes e.arena.now m (advance s slot)) same.1 moved.1)

  led : (ms : List Moved) (d e : ArenaDoor) (s : State) → Leads turn PausesSlot ms d e → IsSameDoor base d → StandsFor d.arena.now s →
      IsSameDoor base e × StandsFor e.arena.now (advanced s base.slot (length ms))
  led [] d e s leads same stands = subst (λ (x : ArenaDoor). IsSameDoor base x × StandsFor x.arena.now s) (sym leads) (same, stands)
  led (m ∷ ms) d e s leads same stands =
      let one = turned d leads.0 m s leads.2.0 same stands in
      let goes = goes_same m leads.0 leads.1 leads.2.1 in
      let there = subst (λ (x : ArenaDoor). IsSameDoor base x × StandsFor x.arena.now (advance s base.slot).1) (sym goes) (one.0, one.1.1) in
      led ms leads.1 e (advance s base.slot).1 leads.2.2 there.0 there.1

  -- a turn that changes nothing, after others
  stops : (m : Moved) (ms : List Moved) (d e : ArenaDoor) (s : State) → StandsFor base.arena.now s → Leads turn PausesSlot ms base d → turn d m e → is_entry (answer.Moved m) ≡ false
      → IsSameDoor base e × (StandsFor e.arena.now (advanced s base.slot (length ms)) × (advance (advanced s base.slot (length ms)) base.slot ≡ (m, advanced s base.slot (length ms))))
  stops m ms d e s stands leads is none =
      let t = advanced s base.slot (length ms) in
      let there = led ms base d s leads (refl, refl) stands in
      let last = turned d e m t is there.0 there.1 in
      let still = unmoved d.arena.now t base.slot m there.1 last.1.0 none in
      (last.0, (subst (StandsFor e.arena.now) (ap (λ (r : Moved × State). r.1) still) last.1.1, still))

  -- Turns that are counted are entries, so there are no more of them than the history has room for.
  counts : (ms : List Moved) (d e : ArenaDoor) (s : State) → 1 ≤ floor → Leads turn PausesSlot ms d e → IsSameDoor base d → StandsFor d.arena.now s →
      (length ms ≡ 0) ⊎ (s.entries + length ms ≤ s.config.steps)
  counts [] d e s from leads same stands = inl refl
  counts (m ∷ ms) d e s from leads same stands =
      let t = (advance s base.slot).1 in
      let one = turned d leads.0 m s leads.2.0 same stands in
      let on = goes_counted m leads.0 leads.1 leads.2.1 in
      let there = subst (λ (x : ArenaDoor). IsSameDoor base x × StandsFor x.arena.now t) (sym (goes_same m leads.0 leads.1 leads.2.1)) (one.0, one.1.1) in
      let tall : leads.2.0.0 ≡ height s.rows d.slot = leads.2.0.1.0 s stands in
      let here : height s.rows d.slot ≡ height s.rows base.slot = ap (height s.rows) same.1 in
      let high : 1 ≤ height s.rows base.slot = omega (arith, from, leads.2.0.1.1, tall, here) in
      let first = is_counted s base.slot stands.rests.holds.steady.formed high (λ idle. on.0 (one.1.0 ∙ idle)) (λ full. on.1 (one.1.0 ∙ full)) in
      let limit : t.config.steps ≡ s.config.steps = ap (λ (c : Tenant). c.steps) first.config in
      elim (counts ms leads.1 e t from leads.2.2 there.0 there.1) [
        | inl none ↦ inr (omega (arith, none, first.room))
        | inr more ↦ inr (omega (arith, more, first.entries, limit))
      ]

  few : (ms : List Moved) (e : ArenaDoor) (s : State) → 1 ≤ floor → Leads turn PausesSlot ms base e → StandsFor base.arena.now s → s.config.steps ≤ MAX_STEPS → length ms ≤ MAX_STEPS
  few ms e s from leads stands limit = elim (counts ms base e s from leads (refl, refl) stands) [
    | inl none ↦ omega (arith, none)
    | inr more ↦ omega (arith, more, limit)
  ]

  pub ends : (how : Attended) (e : ArenaDoor) (s : State) → 1 ≤ floor → s.config.steps ≤ MAX_STEPS → Ends turn IsSlotAsHigh PausesSlot floor how base e → StandsFor base.arena.now s →
      Attends floor how base.slot s e.arena.now
  ends Below e s from limit is stands =
      let ms = is.0.answers in
      let there = led ms base e s is.0.leads (refl, refl) stands in
      let t = advanced s base.slot (length ms) in
      let high : is.1.0 ≡ height t.rows e.slot = is.1.1.0 t there.1 in
      let here : height t.rows e.slot ≡ height t.rows base.slot = ap (height t.rows) there.0.1 in
      (length ms, (there.1, omega (arith, high, here, is.1.1.1)))
  ends Full e s from limit is stands =
      let ms = is.1.0.answers in
      let there = stops moved.Full ms is.0 e s stands is.1.0.leads is.1.1 refl in
      (length ms, there.1)
  ends Stopped e s from limit is stands = elim is [
    | inl idle ↦
        let ms = idle.2.0.answers in
        let there = stops moved.Idle ms idle.0 idle.1 s stands idle.2.0.leads idle.2.1 refl in
        let last : e ≡ idle.1 = idle.2.2.1 in
        let t = advanced s base.slot (length ms) in
        let here = subst (λ (x : ArenaDoor). StandsFor x.arena.now t) (sym last) there.1.0 in
        (length ms, (here, there.1.1))
    | inr long ↦
        let most = few long.answers e s from long.leads stands limit in
        absurd (omega (arith, most, long.long))
  ]
