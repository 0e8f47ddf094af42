-- Attending the doors' slot is advancing it by the definitions.
use Rattle.std.proofs.Common.{◌≡◌, ◌≢◌, ◌<◌, ◌≤◌, ◌+◌, ◌⊎◌, ◌∙◌, ℕ, suc, Bool, true, false, Option, Some, None, List, [], ◌∷◌, length, length-set, refl, sym, ap, arith, inl, inr, subst}
use Rattle.std.specs.Prelude.{slice_get, slice_set}
use Rattle.std.proofs.lemmas.List.{get_or-set_same}
use Rattle.std.proofs.lemmas.Option.{slice_get_cases, slice_get_within, slice_get-get_or}
use Rattle.job_language.specs.declared.answers.Moved.{Moved}
use Rattle.job_language.specs.declared.answers.Moved.TheVariants as moved
use Rattle.job_language.specs.declared.tenants.Tenant.{Tenant}
use Rattle.job_language.specs.declared.tenants.TheConstants.{MAX_STEPS}
use Rattle.job_step.specs.declared.segments.Top.{Top}
use Rattle.job_step.specs.declared.segments.View.{View}
use Rattle.job_step.specs.declared.segments.View.TheVariants as view
use Rattle.tenant_model.specs.State.{State}
use Rattle.tenant_model.specs.Walks.{height, top}
use Rattle.tenant_model.specs.Advance.{advance}
use Rattle.tenant_model.specs.WellFormed.{IsWellFormed}
use Rattle.nested_wait.specs.Turns.{MovesBy, Turn, TurnFrom}
use Rattle.nested_wait.specs.Runs.{GoesOn, Leads, Attends}
use Rattle.nested_wait.specs.declared.attending.Attended.{Attended}
use Rattle.nested_wait.specs.declared.attending.Attended.TheVariants.{Below, Full, Stopped}
use Rattle.arena_steps.proofs.Rooms.{within-open}
use Rattle.session_law.proofs.Turning.{topmost}
use Rattle.session_law.proofs.Counting.{is_counted}
use Rattle.session_law.specs.Tenants.{Tenants, bound_state, with_state, moved_of, moved_by, height_of, height_in, IsLimited, Works, EndsAs, AttendsSlot}
use Rattle.session_law.specs.Doors.{AreAt, Sees, IsSeenIn, IsAsHigh, Advances, Commits, CommitsOf, Moves, Pauses}
use Rattle.session_law.specs.declared.doors.ArenaDoors.{ArenaDoors}
use Rattle.session_law.proofs.Standing.{bound_at, lacks}

-- A commit of the frame that was seen is an advance.
committed : (ts us : Tenants) (t : Top) (m : Moved) (o : Option State) → IsSeenIn ts.slot (view.Top t) o → CommitsOf t m ts us o → (m ≡ (moved_of ts o).0) × (us ≡ (moved_of ts o).1)
committed ts us t m None seen commits = absurd (grind (arith, seen))
committed ts us t m (Some s) seen commits =
    let is = topmost s ts.slot (top s.rows ts.slot) t refl seen in
    elim commits.1.0 [
      | inl moved ↦
          let open_step = within-open s (advance s ts.slot) in
          let next : commits.0 ≡ (advance s ts.slot).1 = moved.2 ∙ ap (λ (r : Moved × State). r.1) open_step in
          (moved.1 ∙ ap (λ (r : Moved × State). r.0) open_step, commits.1.1 ∙ ap (λ (u : State). with_state ts u) next)
      | inr stale ↦ absurd (stale.0 is)
    ]

moves : (d e : ArenaDoors) (seen : View) (m : Moved) (ts : Tenants) → Sees d seen → MovesBy Commits Advances seen d m e → AreAt d ts → (us : Tenants) × (Moves m ts us × AreAt e us)
moves d e (view.Top t) m ts sees by at =
    let one = by ts at in
    (one.0, (committed ts one.0 t m (bound_state ts) (sees ts at) one.1.0, one.1.1))
moves d e view.Bare m ts sees by at = by ts at
moves d e view.Unshared m ts sees by at = by ts at

abbrev turn : ArenaDoors → Moved → ArenaDoors → Type 0
turn = TurnFrom (Turn Sees Commits Advances) IsAsHigh 1

-- a turn is an advance of a stack that is not empty
turned : (d e : ArenaDoors) (m : Moved) (ts : Tenants) → turn d m e → AreAt d ts → (1 ≤ height_in ts) × (m ≡ (moved_by ts).0) × AreAt e (moved_by ts).1
turned d e m ts is at =
    let step = is.1.2 in
    let one = moves d e step.0 m ts step.1.0 step.1.1 at in
    (subst (λ h. 1 ≤ h) (is.1.0 ts at).0 is.1.1, one.1.0.0, subst (λ us. AreAt e us) one.1.0.1 one.1.1)

-- a pause never says to go on
goes : (m : Moved) (f g : ArenaDoors) → GoesOn Pauses m f g → (g ≡ f) × (m ≢ moved.Idle) × (m ≢ moved.Full)
goes moved.Idle f g on = absurd (grind (arith, on.0))
goes moved.Full f g on = absurd on
goes moved.Ran f g on = (on, λ e. absurd (grind (arith, e)), λ e. absurd (grind (arith, e)))
goes (moved.Nested n) f g on = (on, λ e. absurd (grind (arith, e)), λ e. absurd (grind (arith, e)))
goes moved.Freed f g on = (on, λ e. absurd (grind (arith, e)), λ e. absurd (grind (arith, e)))
goes moved.Left f g on = (on, λ e. absurd (grind (arith, e)), λ e. absurd (grind (arith, e)))
goes moved.Stale f g on = (on, λ e. absurd (grind (arith, e)), λ e. absurd (grind (arith, e)))

led : (ms : List Moved) (d e : ArenaDoors) (ts : Tenants) → Leads turn Pauses ms d e → AreAt d ts → (us : Tenants) × (Works (length ms) ts us × AreAt e us)
led [] d e ts leads at = (ts, (refl, subst (λ x. AreAt x ts) (sym leads) at))
led (m ∷ ms) d e ts leads at =
    let one = turned d leads.0 m ts leads.2.0 at in
    let on = goes m leads.0 leads.1 leads.2.1 in
    let next = (moved_by ts).1 in
    let later = led ms leads.1 e next leads.2.2 (subst (λ x. AreAt x next) (sym on.0) one.2) in
    (later.0, ((one.0, λ idle. on.1 (one.1 ∙ idle), λ full. on.2 (one.1 ∙ full), later.1.0), later.1.1))

-- The bound tenant's state is well formed.
abbrev FormedIn : Option State → Type 0
FormedIn None = Unit {0}
FormedIn (Some s) = IsWellFormed s

formed : (d : ArenaDoors) (ts : Tenants) (s : State) → AreAt d ts → bound_state ts ≡ Some s → IsWellFormed s
formed d ts s at is = elim (slice_get_cases d.arenas.items d.tenant).1 [
  | inl there ↦
      let x = there.0 in
      let bound = bound_at d d x x there.1 (sym there.3) ts at in
      subst FormedIn is (subst FormedIn (sym bound.1.0) bound.1.1.rests.holds.steady.formed)
  | inr past ↦
      let lacking = lacks d.arenas.items ts.states at.stand d.tenant past.0 in
      let none : bound_state ts ≡ None = subst (λ t. slice_get ts.states t ≡ None) at.bound lacking in
      absurd (grind (arith, sym none ∙ is))
]

-- the bound tenant's state after an advance
moved_state : (ts : Tenants) (s : State) → bound_state ts ≡ Some s →
    ((moved_by ts).0 ≡ (advance s ts.slot).0) × (bound_state (moved_by ts).1 ≡ Some (advance s ts.slot).1) × (height_in ts ≡ height s.rows ts.slot)
moved_state ts s is =
    let t = (advance s ts.slot).1 in
    let within = slice_get_within ts.states ts.bound s is in
    let long : ts.bound < length (slice_set ts.states ts.bound t) = omega (arith, within, length-set ts.states ts.bound t) in
    let set : bound_state (with_state ts t) ≡ Some t = slice_get-get_or (slice_set ts.states ts.bound t) ts.bound s long ∙ ap (λ u. Some u) (get_or-set_same ts.states ts.bound t s within) in
    (ap (λ o. (moved_of ts o).0) is, subst (λ o. bound_state (moved_of ts o).1 ≡ Some t) (sym is) set, ap (height_of ts) is)

-- Advances that are counted are entries, so there are no more of them than the history has room for.
counts : (ms : List Moved) (d e : ArenaDoors) (ts : Tenants) (s : State) → bound_state ts ≡ Some s → Leads turn Pauses ms d e → AreAt d ts → (length ms ≡ 0) ⊎ (s.entries + length ms ≤ s.config.steps)
counts [] d e ts s is leads at = inl refl
counts (m ∷ ms) d e ts s is leads at =
    let one = turned d leads.0 m ts leads.2.0 at in
    let on = goes m leads.0 leads.1 leads.2.1 in
    let next = (moved_by ts).1 in
    let t = (advance s ts.slot).1 in
    let moved = moved_state ts s is in
    let high : 1 ≤ height s.rows ts.slot = subst (λ h. 1 ≤ h) moved.2 one.0 in
    let first = is_counted s ts.slot (formed d ts s at is) high (λ idle. on.1 (one.1 ∙ moved.0 ∙ idle)) (λ full. on.2 (one.1 ∙ moved.0 ∙ full)) in
    let limit : t.config.steps ≡ s.config.steps = ap (λ (c : Tenant). c.steps) first.config in
    elim (counts ms leads.1 e next t moved.1 leads.2.2 (subst (λ x. AreAt x next) (sym on.0) one.2)) [
      | inl none ↦ inr (omega (arith, none, first.room))
      | inr more ↦ inr (omega (arith, more, first.entries, limit))
    ]

few : (ms : List Moved) (d e : ArenaDoors) (ts : Tenants) → Leads turn Pauses ms d e → AreAt d ts → length ms ≤ MAX_STEPS
few [] d e ts leads at = omega arith
few (m ∷ ms) d e ts leads at = elim (slice_get_cases ts.states ts.bound).1 [
  | inl there ↦
      let s = there.0 in
      let limit : s.config.steps ≤ MAX_STEPS = subst IsLimited there.2 (leads.2.0.1.0 ts at).1 in
      elim (counts (m ∷ ms) d e ts s there.2 leads at) [
        | inl none ↦ omega (arith, none)
        | inr more ↦ omega (arith, more, limit)
      ]
  | inr past ↦
      let one = turned d leads.0 m ts leads.2.0 at in
      let on = goes m leads.0 leads.1 leads.2.1 in
      absurd (on.1 (one.1 ∙ ap (λ o. (moved_of ts o).0) past.1))
]

pub attends_at : (d e : ArenaDoors) (ts : Tenants) (how : Attended) → AreAt d ts → Attends (Turn Sees Commits Advances) IsAsHigh Pauses 1 how d e →
    (us : Tenants) × (AttendsSlot how ts us × AreAt e us)
attends_at d e ts Below at is =
    let ms = is.0.answers in
    let there = led ms d e ts is.0.leads at in
    let high = (is.1.1.0 there.0 there.1.1).0 in
    (there.0, ((length ms, there.0, (there.1.0, (omega (arith, high, is.1.1.1), refl))), there.1.1))
attends_at d e ts Full at is =
    let ms = is.1.0.answers in
    let there = led ms d is.0 ts is.1.0.leads at in
    let last = turned is.0 e moved.Full there.0 is.1.1 there.1.1 in
    ((moved_by there.0).1, ((length ms, there.0, (there.1.0, (last.0, sym last.1, refl))), last.2))
attends_at d e ts Stopped at is = elim is [
  | inl idle ↦
      let ms = idle.2.0.answers in
      let there = led ms d idle.0 ts idle.2.0.leads at in
      let last = turned idle.0 idle.1 moved.Idle there.0 idle.2.1 there.1.1 in
      let next = (moved_by there.0).1 in
      (next, ((length ms, there.0, (there.1.0, (last.0, sym last.1, refl))), subst (λ x. AreAt x next) (sym idle.2.2.1) last.2))
  | inr long ↦
      let most = few long.answers d e ts long.leads at in
      absurd (omega (arith, most, long.long))
]
