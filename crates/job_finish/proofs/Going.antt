-- Advances one after another, and where they end.
use Rattle.std.proofs.Common.{◌≡◌, ℕ, ◌+◌, ◌<◌, ◌≤◌, nat_lt, List, [], ◌∷◌, ◌++◌, length, Option, Some, None, Bool, true, false, refl, sym, ap, ap₂, ◌∙◌, arith, inl, inr, subst, append_assoc}
use Rattle.std.proofs.Common.{append-nil, length-append}
use Rattle.std.proofs.lemmas.Bool.{cases_lt}
use Rattle.std.proofs.lemmas.List.Elements.{All-append, All-nil, All-push}
use Rattle.arena_steps.specs.Within.{advance_within}
use Rattle.job_finish.specs.Finished.{GoesOn, IsAdvance, IsAtRest, room_left}
use Rattle.job_language.specs.Recorded.{is_entry}
use Rattle.job_language.specs.declared.answers.Answer.TheVariants as answer
use Rattle.job_language.specs.declared.answers.Moved.{Moved}
use Rattle.job_language.specs.declared.steps.Entry.{Entry}
use Rattle.job_language.specs.declared.steps.Step.TheVariants as step_is
use Rattle.job_language.specs.declared.tenants.Tenant.{Tenant}
use Rattle.job_step.specs.declared.runs.Run.{Run}
use Rattle.tenant_model.specs.Advance.{advance, advance_top, advance_run, after_run, begin, is_idle_wait, nest_pick, run_on, unless_full, would_be_recorded}
use Rattle.tenant_model.specs.Changes.{is_full}
use Rattle.tenant_model.specs.State.{State}
use Rattle.tenant_model.specs.Walks.{pick, top}
use Rattle.tenant_model.proofs.Entries.{after_run_enters, nest_enters, unless_full-room}
use Rattle.tenant_model.proofs.Within.{either_way}
use Rattle.tenant_record.specs.History.{IsHistory, entries_of}
use Rattle.tenant_record.specs.Replayed.{Replayed, state_of}
use Rattle.waiting_law.specs.Waiting.{CanNotMove}

pub goes_nowhere : (r : Replayed) → GoesOn r r
goes_nowhere r = record { config = refl; made = []; history = sym (append-nil r.history); advances = All-nil IsAdvance }

pub goes_then : (a b c : Replayed) → GoesOn a b → GoesOn b c → GoesOn a c
goes_then a b c first next = record {
  config = next.config ∙ first.config;
  made = first.made ++ next.made;
  history = next.history ∙ ap (λ (x : List Entry). x ++ next.made) first.history ∙ append_assoc a.history first.made next.made;
  advances = All-append IsAdvance first.made next.made first.advances next.advances;
}

-- With room for an entry an advance is the plain one.
plain_advance : (s : State) (slot : ℕ) → advance_within true s slot ≡ advance s slot
plain_advance s slot = elim (either_way (is_entry (answer.Moved (advance s slot).0))) [
  | inl enters ↦ rw enters refl
  | inr plain ↦ rw plain refl
]

-- An advance that is no entry, for another reason than that there is no room, would be none.
begin_plain : (s : State) (slot : ℕ) (o : Option ℕ) → is_entry (answer.Moved (begin s slot o).0) ≡ false → would_be_recorded (begin s slot o).0 ≡ false
begin_plain s slot None plain = elim (either_way (nat_lt slot s.config.reserved)) [
  | inl reserved ↦ rw reserved refl
  | inr worker ↦ rw worker refl
]
begin_plain s slot (Some n) plain = elim (either_way (nat_lt slot s.config.reserved)) [
  | inl reserved ↦ rw reserved refl
  | inr worker ↦ absurd (let wrong : true ≡ false = rw worker at plain in grind (arith, wrong))
]

nest_plain : (s : State) (slot n : ℕ) (o : Option ℕ) → is_entry (answer.Moved (nest_pick s slot n o).0) ≡ false → would_be_recorded (nest_pick s slot n o).0 ≡ false
nest_plain s slot n None plain = refl
nest_plain s slot n (Some m) plain = absurd (grind (arith, plain, nest_enters s slot n m))

run_plain : (s : State) (slot n : ℕ) (r : Run) → is_entry (answer.Moved (advance_run s slot n r).0) ≡ false → would_be_recorded (advance_run s slot n r).0 ≡ false
run_plain s slot n r plain = elim (either_way (is_idle_wait s n r.count r.stop)) [
  | inl waits ↦ rw waits (nest_plain s slot n (pick s slot) (rw waits at plain))
  | inr runs ↦
      let at : is_entry (answer.Moved (after_run s slot n r.count r.end r.stop).0) ≡ false = rw runs at plain in
      absurd (grind (arith, at, after_run_enters s slot n r.count r.end r.stop))
]

top_plain : (s : State) (slot : ℕ) (o : Option ℕ) → is_entry (answer.Moved (advance_top s slot o).0) ≡ false → would_be_recorded (advance_top s slot o).0 ≡ false
top_plain s slot None plain = begin_plain s slot (pick s slot) plain
top_plain s slot (Some n) plain = run_plain s slot n (run_on s slot n) plain

can_not_move : (s : State) (slot : ℕ) → slot < s.config.slots → is_full s ≡ false → is_entry (answer.Moved (advance s slot).0) ≡ false → CanNotMove s slot
can_not_move s slot low room plain =
    let yes : nat_lt slot s.config.slots ≡ true = grind (arith, low) in
    let r = advance_top s slot (top s.rows slot) in
    let free : unless_full s r ≡ r = unless_full-room s r room in
    let at : is_entry (answer.Moved r.0) ≡ false = rw (yes, free) at plain in
    rw (yes, free) (top_plain s slot (top s.rows slot) at)

pub at_rest : (s : State) → ((slot : ℕ) → slot < s.config.slots → is_entry (answer.Moved (advance s slot).0) ≡ false) → IsAtRest s
at_rest s none = elim (either_way (is_full s)) [
  | inl full ↦ inl full
  | inr room ↦ inr (λ slot low. can_not_move s slot low room (none slot low))
]

-- an advance of a tenant with a history, as its call says it
pub record IsSeen (a b : Replayed) (slot : ℕ) (m : Moved) : Type 0 where
  pub answered : m ≡ (advance_within true (state_of a) slot).0
  pub config : b.config ≡ a.config
  pub history : b.history ≡ a.history ++ entries_of (step_is.Advance slot) (answer.Moved m)
  pub right : IsHistory b.config b.history

abbrev replayed : Tenant → List Entry → Replayed
replayed c h = record { config = c; history = h }

module _ (a b : Replayed) (slot : ℕ) (m : Moved) (seen : IsSeen a b slot m) where
  module _ (enters : is_entry (answer.Moved m) ≡ true) where
    abbrev e : Entry
    e = record { step = step_is.Advance slot; answer = answer.Moved m }

    longer : b.history ≡ a.history ++ e ∷ []
    longer = rw enters at seen.history

    goes_once : GoesOn a b
    goes_once = record { config = seen.config; made = e ∷ []; history = longer; advances = All-push IsAdvance [] e (All-nil IsAdvance) (slot, refl) }

    pub room_taken : room_left b < room_left a
    room_taken =
        let long : length b.history ≡ length a.history + 1 = ap length longer ∙ length-append a.history (e ∷ []) in
        let steps : b.config.steps ≡ a.config.steps = ap (λ c. c.steps) seen.config in
        let within = seen.right.within in
        omega (arith, long, steps, within)

  module _ (plain : is_entry (answer.Moved m) ≡ false) where
    pub same_tenant : b ≡ a
    same_tenant =
        let history : b.history ≡ a.history ++ [] = rw plain at seen.history in
        let same : b.history ≡ a.history = history ∙ append-nil a.history in
        ap₂ replayed seen.config same

    pub can_not_go : is_entry (answer.Moved (advance (state_of b) slot).0) ≡ false
    can_not_go =
        let answered : m ≡ (advance (state_of a) slot).0 = seen.answered ∙ ap (λ r. r.0) (plain_advance (state_of a) slot) in
        ap (λ (r : Replayed). is_entry (answer.Moved (advance (state_of r) slot).0)) same_tenant ∙ ap (λ (x : Moved). is_entry (answer.Moved x)) (sym answered) ∙ plain

-- what the loop over one slot keeps
pub record IsGoing (o s : Replayed) (has_moved : Bool) : Type 0 where
  pub goes : GoesOn o s
  pub fewer : has_moved ≡ true → room_left s < room_left o
  pub stays : has_moved ≡ false → s ≡ o

pub starts : (o : Replayed) → IsGoing o o false
starts o = record { goes = goes_nowhere o; fewer = λ wrong. absurd (grind (arith, wrong)); stays = λ same. refl }

going_room : (o s : Replayed) (has_moved : Bool) → IsGoing o s has_moved → room_left s ≤ room_left o
going_room o s has_moved is = elim (either_way has_moved) [
  | inl moved_on ↦ let fewer = is.fewer moved_on in omega (arith, fewer)
  | inr stayed ↦ let same : room_left s ≡ room_left o = ap room_left (is.stays stayed) in omega (arith, same)
]

-- It went on, and took room.
going_on : (o s t : Replayed) (has_moved : Bool) → IsGoing o s has_moved → GoesOn s t → room_left t < room_left s → IsGoing o t true
going_on o s t has_moved is goes fewer = record {
  goes = goes_then o s t is.goes goes;
  fewer = λ _. let before = going_room o s has_moved is in omega (arith, fewer, before);
  stays = λ wrong. absurd (grind (arith, wrong));
}

going_still : (o s t : Replayed) (has_moved : Bool) → IsGoing o s has_moved → t ≡ s → IsGoing o t has_moved
going_still o s t has_moved is same = rw same is

module _ (o s t : Replayed) (slot : ℕ) (m : Moved) (has_moved : Bool) (is : IsGoing o s has_moved) (seen : IsSeen s t slot m) where
  pub moves_on : is_entry (answer.Moved m) ≡ true → IsGoing o t true
  moves_on enters = going_on o s t has_moved is (goes_once s t slot m seen enters) (room_taken s t slot m seen enters)

  pub stops : is_entry (answer.Moved m) ≡ false → IsGoing o t has_moved
  stops plain = going_still o s t has_moved is (same_tenant s t slot m seen plain)

-- An advance of the slot would be no entry.
abbrev pub IsStill : Replayed → ℕ → Type 0
IsStill r slot = is_entry (answer.Moved (advance (state_of r) slot).0) ≡ false

-- what the loop over all slots keeps
pub record IsGoingAll (o s : Replayed) (has_moved : Bool) (slot : ℕ) : Type 0 where
  pub going : IsGoing o s has_moved
  pub still : has_moved ≡ false → (k : ℕ) → k < slot → IsStill s k

pub starts_all : (o : Replayed) → IsGoingAll o o false 0
starts_all o = record { going = starts o; still = λ same k below. absurd (omega (arith, below)) }

module _ (o s t : Replayed) (slot : ℕ) (has_moved : Bool) (is : IsGoingAll o s has_moved slot) where
  pub all_more : GoesOn s t → room_left t < room_left s → IsGoingAll o t true (slot + 1)
  all_more goes fewer = record {
    going = going_on o s t has_moved is.going goes fewer;
    still = λ wrong. absurd (grind (arith, wrong));
  }

  pub all_still : t ≡ s → IsStill t slot → IsGoingAll o t has_moved (slot + 1)
  all_still same here = record {
    going = going_still o s t has_moved is.going same;
    still = λ stayed k below. elim (cases_lt k slot) [
      | inl before ↦ ap (λ (r : Replayed). is_entry (answer.Moved (advance (state_of r) k).0)) same ∙ is.still stayed k before
      | inr not_before ↦ let place : slot ≡ k = omega (arith, below, not_before) in subst (IsStill t) place here
    ];
  }

-- If all slots are still, the tenant is at rest.
pub all_at_rest : (o s : Replayed) (has_moved : Bool) (slot : ℕ) → IsGoingAll o s has_moved slot → (state_of o).config ≡ o.config → o.config.slots ≤ slot → has_moved ≡ false → IsAtRest (state_of s)
all_at_rest o s has_moved slot is config last stayed =
    let slots : (state_of s).config.slots ≡ o.config.slots = ap (λ (r : Replayed). (state_of r).config.slots) (is.going.stays stayed) ∙ ap (λ c. c.slots) config in
    at_rest (state_of s) (λ i low. is.still stayed i (omega (arith, low, slots, last)))
