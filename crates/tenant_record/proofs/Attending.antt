-- A slot with rows on it stays out.
use Rattle.std.proofs.Common.{◌≡◌, ◌≢◌, ◌⊎◌, inl, inr, ℕ, ◌==◌, ◌<◌, ◌&&◌, Bool, true, false, List, length, refl, sym, ap, ◌∙◌, arith, subst, Option, Some, None, nat_lt}
use Rattle.std.specs.Prelude.{if◌then◌else◌, not, slice_set, unwrap_or}
use Rattle.std.proofs.lemmas.Bool.{cases_eq, cond_both, and_parts, both_ways}
use Rattle.std.proofs.lemmas.Bool.Decides.{nat_tests}
use Rattle.job_language.specs.Recorded.{is_entry, is_recorded_reply}
use Rattle.job_language.specs.Tenant.{IsValidTenant}
use Rattle.job_language.specs.declared.answers.Answer.{Answer}
use Rattle.job_language.specs.declared.answers.Answer.TheVariants as answer
use Rattle.job_language.specs.declared.answers.Came.{Came}
use Rattle.job_language.specs.declared.answers.Came.TheVariants as came
use Rattle.job_language.specs.declared.answers.Moved.{Moved}
use Rattle.job_language.specs.declared.answers.Moved.TheVariants as moved
use Rattle.job_language.specs.declared.answers.Reply.{Reply}
use Rattle.job_language.specs.declared.requests.Request.{Request}
use Rattle.job_language.specs.declared.steps.Step.{Step}
use Rattle.job_language.specs.declared.steps.Step.TheVariants as steps
use Rattle.job_language.specs.declared.tenants.Tenant.{Tenant}
use Rattle.tenant_model.specs.State.{State, row}
use Rattle.tenant_model.specs.declared.rows.Phase.TheVariants.{Live}
use Rattle.tenant_model.specs.Solo.{step}
use Rattle.tenant_model.specs.Told.{TellsOfSlots, slot_of, placed_on, is_freed, is_left}
use Rattle.tenant_model.specs.Walks.{height}
use Rattle.tenant_model.specs.WellFormed.{IsWellFormed}
use Rattle.tenant_model.specs.Advance.{advance}
use Rattle.tenant_model.proofs.Advancing.{told_of_slots, left_no_entry}
use Rattle.tenant_model.proofs.Within.{either_way}
use Rattle.arena_core.specs.Views.{Commits}
use Rattle.arena_steps.specs.Within.{advance_within}
use Rattle.job_step.specs.declared.segments.Top.{Top}
use Rattle.waiting_law.specs.Waiting.{SomeMoves}
use Rattle.waiting_law.proofs.Waiting.{some_moves_after}
use Rattle.tenant_record.specs.Attended.{HasMover}
use Rattle.tenant_record.specs.Cell.{CellData, first_cell, state_of, has_slot_of, AreAttended, IsAttended, IsRight}
use Rattle.tenant_record.specs.History.{Takes, steps_of}
use Rattle.tenant_record.specs.Locked.{IsMoved, IsArrived, IsAsked, IsHandedOver, given_home, home_arrived}
use Rattle.tenant_record.specs.PassData.{PassData, advanced, goes_home}
use Rattle.tenant_record.specs.Places.{place, is_in, due_place, home_place, woken, returned, taken, arrived_place, first_places}
use Rattle.tenant_record.specs.SeatData.{SeatData}
use Rattle.tenant_record.specs.declared.places.Place.{Place}
use Rattle.tenant_record.specs.declared.places.Place.TheVariants.{Home, Due, Out}
use Rattle.tenant_record.proofs.Freeing.{worker_not_freed}
use Rattle.tenant_record.proofs.Rightness.{IsIn, place_by, place_same, place_other}
use Rattle.tenant_record.proofs.Taking.{advance_taken}

-- Whether a pass is with the tenant, a call for a worker does not change.
due_back : (q : Place) → IsIn (due_place q) → IsIn q
due_back (Home p) is = refl
due_back (Due p) is = refl
due_back Out is = is

home_back : (q : Place) → IsIn (home_place q) → IsIn q
home_back (Home p) is = refl
home_back (Due p) is = refl
home_back Out is = is

-- What is with the tenant after a change of one place was so before, or is at that place.
set_back : (home : List Place) (slot o : ℕ) (q : Place) → (o ≡ slot → IsIn q → IsIn (place home slot)) → IsIn (place (slice_set home slot q) o) → IsIn (place home o)
set_back home slot o q back is = place_by (λ p. IsIn p → IsIn (place home o)) home slot o q (λ same new. subst (λ k. IsIn (place home k)) (sym same) (back same new)) (λ old. old) is

woken_back : (home : List Place) (due : Option ℕ) (o : ℕ) → IsIn (place (woken due home) o) → IsIn (place home o)
woken_back home None o is = is
woken_back home (Some slot) o is = set_back home slot o (due_place (place home slot)) (λ same. due_back (place home slot)) is

-- What a step tells of the heights of slots, by its answer and the next state.
record Heights (s : State) (x : Step) (a : Answer) (t : State) : Type 0 where
  others : (o : ℕ) → slot_of x a ≢ Some o → height t.rows o ≡ height s.rows o
  freed : (slot : ℕ) → slot_of x a ≡ Some slot → slot < s.config.reserved → is_entry a ≡ true → (height t.rows slot == 0) ≡ is_freed a
  left : (slot : ℕ) → slot_of x a ≡ Some slot → is_left a ≡ true → height s.rows slot ≡ 0

heights : (s : State) (x : Step) (a : Answer) (t : State) → IsWellFormed s → step s x ≡ (a, t) → Heights s x a t
heights s x a t is made =
    let its = told_of_slots s x is in
    let P : Answer × State → Type 0 = λ r. Heights s x r.0 r.1 in
    subst P made (record { others = its.others; freed = its.freed; left = λ slot at left. (its.left slot at left).0 })

-- Each place whose pass is with the tenant was so before and is not the step's, or is empty now.
abbrev Keeps : Step → Answer → (home left : List Place) → State → ℕ → Type 0
Keeps x a home left t o = IsIn (place left o) → ((is_entry a ≡ true → slot_of x a ≢ Some o) × IsIn (place home o)) ⊎ (height t.rows o ≡ 0)

attended_by : (s : State) (x : Step) (a : Answer) (t : State) (home left : List Place) → IsWellFormed s → Takes s x a t → ((o : ℕ) → Keeps x a home left t o) → AreAttended s home → AreAttended t left
attended_by s x a t home left formed (inl made) keeps are o is = elim (keeps o is) [
  | inl apart ↦ (heights s x a t formed made.2).others o (apart.0 made.0) ∙ are o apart.1
  | inr empty ↦ empty
]
attended_by s x a t home left formed (inr none) keeps are o is = elim (keeps o is) [
  | inl apart ↦ ap (λ (v : State). height v.rows o) none.1 ∙ are o apart.1
  | inr empty ↦ empty
]

-- An advance that sends the pass home leaves the slot empty.
freed_enters : (m : Moved) → is_freed (answer.Moved m) ≡ true → is_entry (answer.Moved m) ≡ true
freed_enters moved.Freed is = refl
freed_enters moved.Ran is = refl
freed_enters (moved.Nested n) is = refl
freed_enters moved.Left is = absurd (grind (arith, is))
freed_enters moved.Idle is = absurd (grind (arith, is))
freed_enters moved.Stale is = absurd (grind (arith, is))
freed_enters moved.Full is = absurd (grind (arith, is))

empty_freed : (b : Bool) (s t : State) (slot : ℕ) (m : Moved) → IsWellFormed s → m ≡ (advance_within b s slot).0 → Takes s (steps.Advance slot) (answer.Moved m) t → is_freed (answer.Moved m) ≡ true →
    height t.rows slot ≡ 0
empty_freed b s t slot m formed answered (inl made) freed = elim (either_way (nat_lt slot s.config.reserved)) [
  | inl low ↦
      let zero = (heights s (steps.Advance slot) (answer.Moved m) t formed made.2).freed slot refl (grind (arith, nat_tests, low)) made.0 in
      let is : (height t.rows slot == 0) ≡ true = zero ∙ freed in
      grind (arith, nat_tests, is)
  | inr high ↦ absurd (both_ways _ (ap (λ k. is_freed (answer.Moved k)) answered ∙ worker_not_freed b s slot high) freed)
]
empty_freed b s t slot m formed answered (inr none) freed = absurd (both_ways _ none.0 (freed_enters m freed))

-- An advance by which a worker leaves is that of an empty slot, and nothing has changed.
is_left_within : (b : Bool) (s : State) (slot : ℕ) → is_left (answer.Moved (advance_within b s slot).0) ≡ true → is_left (answer.Moved (advance s slot).0) ≡ true
is_left_within b s slot left =
    cond_both (is_entry (answer.Moved (advance s slot).0) && not b) (moved.Full, s) (advance s slot) (λ r. is_left (answer.Moved r.0) ≡ true → is_left (answer.Moved (advance s slot).0) ≡ true)
    (λ _ full. absurd (grind (arith, full))) (λ _ same. same) left

empty_left : (b : Bool) (s t : State) (slot : ℕ) (m : Moved) → IsWellFormed s → m ≡ (advance_within b s slot).0 → Takes s (steps.Advance slot) (answer.Moved m) t → is_left (answer.Moved m) ≡ true →
    height t.rows slot ≡ 0
empty_left b s t slot m formed answered (inl made) left = absurd (left_no_entry m made.0 left)
empty_left b s t slot m formed answered (inr none) left =
    let within : is_left (answer.Moved (advance_within b s slot).0) ≡ true = ap (λ k. is_left (answer.Moved k)) (sym answered) ∙ left in
    ap (λ (v : State). height v.rows slot) none.1 ∙ ((told_of_slots s (steps.Advance slot) formed).left slot refl (is_left_within b s slot within)).0

home_empty : (b : Bool) (s t : State) (slot : ℕ) (m : Moved) → IsWellFormed s → m ≡ (advance_within b s slot).0 → Takes s (steps.Advance slot) (answer.Moved m) t → goes_home m ≡ true →
    height t.rows slot ≡ 0
home_empty b s t slot moved.Freed formed answered takes home = empty_freed b s t slot moved.Freed formed answered takes refl
home_empty b s t slot moved.Left formed answered takes home = empty_left b s t slot moved.Left formed answered takes refl
home_empty b s t slot moved.Ran formed answered takes home = absurd (grind (arith, home))
home_empty b s t slot (moved.Nested n) formed answered takes home = absurd (grind (arith, home))
home_empty b s t slot moved.Idle formed answered takes home = absurd (grind (arith, home))
home_empty b s t slot moved.Stale formed answered takes home = absurd (grind (arith, home))
home_empty b s t slot moved.Full formed answered takes home = absurd (grind (arith, home))

pub advanced_empty : (b : Bool) (s t : State) (slot : ℕ) (m : Moved) → IsWellFormed s → m ≡ (advance_within b s slot).0 → t ≡ (advance_within b s slot).1 → goes_home m ≡ true → height t.rows slot ≡ 0
advanced_empty b s t slot m formed answered led home = home_empty b s t slot m formed answered (advance_taken b s slot m t formed answered led) home

pub committed_empty : (b : Bool) (s t : State) (slot : ℕ) (top : Top) (m : Moved) → IsWellFormed s → Commits b s slot top m t → goes_home m ≡ true → height t.rows slot ≡ 0
committed_empty b s t slot top m formed (inl same) home = advanced_empty b s t slot m formed same.1 same.2 home
committed_empty b s t slot top m formed (inr stale) home = absurd (let no : false ≡ true = ap goes_home (sym stale.1) ∙ home in grind (arith, no))

-- Another slot than that of the pass.
apart : (slot o : ℕ) → o ≢ slot → Some slot ≢ Some o
apart slot o differs same = differs (sym (ap (λ k. unwrap_or k slot) same))

returned_back : (home : List Place) (p : PassData) (m : Moved) (o : ℕ) → o ≢ p.slot → IsIn (place (returned home p m) o) → IsIn (place home o)
returned_back home p m o differs is =
    cond_both (goes_home m) (slice_set home p.slot (Home p)) home (λ l. IsIn (place l o) → IsIn (place home o)) (λ _ there. subst IsIn (place_other home p.slot o (Home p) differs) there)
    (λ _ there. there) is

stayed_back : (home : List Place) (p : PassData) (m : Moved) (o : ℕ) → goes_home m ≡ false → IsIn (place (returned home p m) o) → IsIn (place home o)
stayed_back home p m o stays is = rw stays at is

out_at : (c : CellData) (p : PassData) → has_slot_of c p ≡ true → is_in (place c.home p.slot) ≡ false
out_at c p there =
    grind (arith, there)

-- an advance, or a commit
pub moved_attended : (c d : CellData) (p : PassData) (m : Moved) (due : Option ℕ) (q : Option PassData) → IsWellFormed (state_of c) → IsMoved c p m due q d →
    Takes (state_of c) (steps.Advance p.slot) (answer.Moved m) (state_of d) → (goes_home m ≡ true → height (state_of d).rows p.slot ≡ 0) → has_slot_of c p ≡ true → IsAttended c → IsAttended d
moved_attended c d p m due q formed is takes empty there are =
    let back = advanced p m (length c.history) in
    let left = woken due (returned c.home back m) in
    let keeps : (o : ℕ) → Keeps (steps.Advance p.slot) (answer.Moved m) c.home left (state_of d) o = λ o held.
    let before = woken_back (returned c.home back m) due o held in
    elim (cases_eq o p.slot) [
      | inl same ↦ elim (either_way (goes_home m)) [
        | inl goes ↦ inr (rw same (empty goes))
        | inr stays ↦ absurd (both_ways _ (rw same (out_at c p there)) (stayed_back c.home back m o stays before))
      ]
      | inr other ↦ inl (λ enters. apart p.slot o other, returned_back c.home back m o other before)
    ] in
    subst (λ l. AreAttended (state_of d) l) (sym is.home) (attended_by (state_of c) (steps.Advance p.slot) (answer.Moved m) (state_of d) c.home left formed takes keeps are)

-- an arrival
arrived_out : (home : List Place) (slot : ℕ) (m : Came) → slot < length home → is_entry (answer.Came m) ≡ true → IsIn (place (home_arrived home slot m) slot) → ⊥
arrived_out home slot (came.At n) inside enters is = let no : false ≡ true = sym (ap is_in (place_same home slot Out inside)) ∙ is in grind (arith, no)
arrived_out home slot came.Nothing inside enters is = grind (arith, enters)
arrived_out home slot came.Full inside enters is = grind (arith, enters)

arrived_back : (m : Came) (q : Place) → IsIn (arrived_place m q) → IsIn q
arrived_back (came.At n) q is = absurd (let no : false ≡ true = is in grind (arith, no))
arrived_back came.Nothing q is = home_back q is
arrived_back came.Full q is = home_back q is

pub arrived_attended : (c d : CellData) (slot : ℕ) (m : Came) (due : Option ℕ) (q : Option PassData) → IsWellFormed (state_of c) → slot < length c.home → IsArrived c slot m due q d →
    Takes (state_of c) (steps.Arrive slot) (answer.Came m) (state_of d) → IsAttended c → IsAttended d
arrived_attended c d slot m due q formed inside is takes are =
    let left = woken due (home_arrived c.home slot m) in
    let keeps : (o : ℕ) → Keeps (steps.Arrive slot) (answer.Came m) c.home left (state_of d) o = λ o held.
    let before = woken_back (home_arrived c.home slot m) due o held in
    inl (
      λ enters same. arrived_out c.home slot m inside enters (subst (λ k. IsIn (place (home_arrived c.home slot m) k)) (sym (ap (λ k. unwrap_or k slot) same)) before),
      set_back c.home slot o (arrived_place m (place c.home slot)) (λ same. arrived_back m (place c.home slot)) before,
    ) in
    subst (λ l. AreAttended (state_of d) l) (sym is.home) (attended_by (state_of c) (steps.Arrive slot) (answer.Came m) (state_of d) c.home left formed takes keeps are)

-- an ask
taken_back : (home : List Place) (k : Option ℕ) (o : ℕ) → IsIn (place (taken k home) o) → IsIn (place home o)
taken_back home None o is = is
taken_back home (Some slot) o is = set_back home slot o Out (λ same new. absurd (let no : false ≡ true = new in grind (arith, no))) is

taken_out : (home : List Place) (k : Option ℕ) (o : ℕ) → ((slot : ℕ) → k ≡ Some slot → slot < length home) → IsIn (place (taken k home) o) → k ≢ Some o
taken_out home None o inside is same = absurd (let no : None ≡ Some o = same in grind (arith, no))
taken_out home (Some slot) o inside is same =
    let at : slot ≡ o = ap (λ k. unwrap_or k slot) same in
    let held : IsIn (place (slice_set home slot Out) slot) = subst (λ k. IsIn (place (slice_set home slot Out) k)) (sym at) is in
    absurd (let no : false ≡ true = sym (ap is_in (place_same home slot Out (inside slot refl))) ∙ held in grind (arith, no))

pub asked_attended : (c d : CellData) (s t : SeatData) (a : Request) (y : Reply) (due : Option ℕ) (q : Option PassData) → IsWellFormed (state_of c) →
    ((slot : ℕ) → placed_on y ≡ Some slot → slot < length c.home) → IsAsked c s a y due q d t → Takes (state_of c) (steps.Ask a) (answer.Replied y) (state_of d) → IsAttended c → IsAttended d
asked_attended c d s t a y due q formed inside is takes are =
    let left = woken due (taken (placed_on y) c.home) in
    let keeps : (o : ℕ) → Keeps (steps.Ask a) (answer.Replied y) c.home left (state_of d) o = λ o held.
    let before = woken_back (taken (placed_on y) c.home) due o held in
    inl (λ enters. taken_out c.home (placed_on y) o inside before, taken_back c.home (placed_on y) o before) in
    subst (λ l. AreAttended (state_of d) l) (sym is.home) (attended_by (state_of c) (steps.Ask a) (answer.Replied y) (state_of d) c.home left formed takes keeps are)

-- a pass that goes home
given_attended : (c : CellData) (p : PassData) → height (state_of c).rows p.slot ≡ 0 → IsAttended c → AreAttended (state_of c) (given_home c p).home
given_attended c p empty are o is = elim (cases_eq o p.slot) [
  | inl same ↦ rw same empty
  | inr other ↦ are o (subst IsIn (place_other c.home p.slot o (Home p) other) is)
]

pub home_attended : (c d : CellData) (p : PassData) → d ≡ given_home c p → height (state_of c).rows p.slot ≡ 0 → IsAttended c → IsAttended d
home_attended c d p is empty are = rw is (given_attended c p empty are)

pub handed_attended : (c d : CellData) (p : PassData) (due : Option ℕ) → IsHandedOver c p due d → height (state_of c).rows p.slot ≡ 0 → IsAttended c → IsAttended d
handed_attended c d p due is empty are = rw is.cell (λ o held. given_attended c p empty are o (woken_back (given_home c p).home due o held))

-- a tenant that has done nothing yet
pub first_attended : (tenant : ℕ) (c : Tenant) → IsAttended (first_cell tenant c)
first_attended tenant c o held = refl

-- A slot with rows on it that can move is out.
mover_of : (c : CellData) → IsRight c → IsAttended c → SomeMoves (state_of c) → HasMover c
mover_of c r are some = elim (either_way (is_in (place c.home some.slot))) [
  | inl held ↦ absurd (let empty = are some.slot held in let rows = some.rows in omega (arith, empty, rows))
  | inr out ↦ record {
    slot = some.slot;
    low = subst (λ (k : Tenant). some.slot < k.slots) r.history.config some.low;
    out = out;
    moves = some.moves;
  }
]

pub has_mover : (c : CellData) → IsRight c → IsValidTenant c.config → IsAttended c → (n slot h : ℕ) → (row (state_of c).rows n).phase ≡ Live slot h → HasMover c
has_mover c r valid are n slot h live = mover_of c r are (some_moves_after c.config (steps_of c.history) valid.most_slots valid.reserved n slot h live)
