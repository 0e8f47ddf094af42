-- What a step takes: an entry for which the history has room, or nothing.
use Rattle.std.proofs.Common.{◌≡◌, inl, inr, ℕ, ◌<◌, ◌≤◌, ◌&&◌, Bool, true, false, Option, Some, None, refl, sym, ap, ◌∙◌, nat_lt, arith}
use Rattle.std.specs.Prelude.{not, IfSome}
use Rattle.std.proofs.lemmas.Bool.{cond_both}
use Rattle.job_language.specs.Recorded.{is_entry}
use Rattle.job_language.specs.declared.answers.Answer.{Answer}
use Rattle.job_language.specs.declared.answers.Answer.TheVariants as answer
use Rattle.job_language.specs.declared.answers.Moved.{Moved}
use Rattle.job_language.specs.declared.answers.Moved.TheVariants as moved
use Rattle.job_language.specs.declared.answers.Came.{Came}
use Rattle.job_language.specs.declared.answers.Came.TheVariants as came
use Rattle.job_language.specs.declared.answers.Reply.{Reply}
use Rattle.job_language.specs.declared.answers.Reply.TheVariants as reply
use Rattle.job_language.specs.declared.errors.Error.TheVariants.{HistoryFull}
use Rattle.job_language.specs.declared.requests.Request.{Request}
use Rattle.job_language.specs.declared.requests.Request.TheVariants as request
use Rattle.job_language.specs.declared.steps.Step.{Step}
use Rattle.job_step.specs.declared.segments.Top.{Top}
use Rattle.job_language.specs.declared.steps.Step.TheVariants as steps
use Rattle.tenant_model.specs.State.{State}
use Rattle.tenant_model.specs.Changes.{is_full}
use Rattle.tenant_model.specs.Walks.{top, pick}
use Rattle.tenant_model.specs.Advance.{advance, advance_top, would_be_recorded, unless_full, arrive, arrive_at, is_open_to_workers}
use Rattle.tenant_model.specs.Asks.{ask, reply_to, is_hello}
use Rattle.tenant_model.specs.Solo.{step}
use Rattle.tenant_model.specs.WellFormed.{IsWellFormed}
use Rattle.tenant_model.specs.Told.{placed_on}
use Rattle.tenant_model.proofs.Advancing.{IsKept, entries_counted, Asked, asked}
use Rattle.tenant_record.specs.History.{Takes}
use Rattle.tenant_record.specs.Replayed.{ask_within}
use Rattle.arena_steps.specs.Within.{advance_within, arrive_within}
use Rattle.arena_core.specs.Views.{Commits}
use Rattle.arena_core.proofs.Pending.{pending_asked}
use Rattle.job_language.specs.Collecting.{IsCollect}

abbrev HasRoom : State → Answer → Type 0
HasRoom s a = is_entry a ≡ true → is_full s ≡ false

no_entry : (s : State) (a : Answer) → is_entry a ≡ false → HasRoom s a
no_entry s a quiet enters = absurd (grind (arith, quiet, enters))

recorded : (m : Moved) → is_entry (answer.Moved m) ≡ true → would_be_recorded m ≡ true
recorded moved.Ran e = refl
recorded (moved.Nested n) e = refl
recorded moved.Freed e = refl
recorded moved.Left e = absurd (grind (arith, e))
recorded moved.Idle e = absurd (grind (arith, e))
recorded moved.Stale e = refl
recorded moved.Full e = refl

limited : (s : State) (r : Moved × State) → (would_be_recorded r.0 && is_full s) ≡ false → HasRoom s (answer.Moved r.0)
limited s r free enters = let would = recorded r.0 enters in let room : is_full s ≡ false = rw would at free in room

advance_room : (s : State) (slot : ℕ) → HasRoom s (answer.Moved (advance s slot).0)
advance_room s slot =
    let r = advance_top s slot (top s.rows slot) in
    cond_both (nat_lt slot s.config.slots) (unless_full s r) (moved.Idle, s) (λ q. HasRoom s (answer.Moved q.0))
    (λ _. cond_both (would_be_recorded r.0 && is_full s) (moved.Full, s) r (λ q. HasRoom s (answer.Moved q.0)) (λ _. no_entry s (answer.Moved moved.Full) refl) (λ free. limited s r free))
    (λ _. no_entry s (answer.Moved moved.Idle) refl)

arrive_at_room : (s : State) (slot : ℕ) (p : Option ℕ) → HasRoom s (answer.Came (arrive_at s slot p).0)
arrive_at_room s slot None = no_entry s (answer.Came came.Nothing) refl
arrive_at_room s slot (Some n) = cond_both (is_full s) _ _ (λ (q : Came × State). HasRoom s (answer.Came q.0)) (λ _. no_entry s (answer.Came came.Full) refl) (λ room _. room)

arrive_room : (s : State) (slot : ℕ) → HasRoom s (answer.Came (arrive s slot).0)
arrive_room s slot =
    cond_both (is_open_to_workers s slot) (arrive_at s slot (pick s slot)) (came.Nothing, s) (λ q. HasRoom s (answer.Came q.0)) (λ _. arrive_at_room s slot (pick s slot))
    (λ _. no_entry s (answer.Came came.Nothing) refl)

-- A hello is refused, whether the history is full or not.
reply_room : (s : State) (r : Request) → (is_full s && not (is_hello r)) ≡ false → HasRoom s (answer.Replied (reply_to s r).0)
reply_room s (request.Hello name) free enters = absurd (let no : false ≡ true = enters in grind (arith, no))
reply_room s (request.Submit j) free enters = grind (arith, free)
reply_room s (request.Execute j) free enters = grind (arith, free)
reply_room s (request.Poll j) free enters = grind (arith, free)
reply_room s (request.Collect j) free enters = grind (arith, free)
reply_room s (request.Cancel j) free enters = grind (arith, free)
reply_room s (request.Cells k) free enters = grind (arith, free)
reply_room s request.Arena free enters = grind (arith, free)
reply_room s request.Retire free enters = grind (arith, free)
reply_room s (request.Release j) free enters = grind (arith, free)
reply_room s (request.Take j) free enters = grind (arith, free)

ask_room : (s : State) (r : Request) → HasRoom s (answer.Replied (ask s r).0)
ask_room s r =
    cond_both (is_full s && not (is_hello r)) (reply.Refused HistoryFull, s) (reply_to s r) (λ q. HasRoom s (answer.Replied q.0)) (λ _. no_entry s (answer.Replied (reply.Refused HistoryFull)) refl)
    (λ free. reply_room s r free)

step_room : (s : State) (x : Step) → HasRoom s (step s x).0
step_room s (steps.Ask r) = ask_room s r
step_room s (steps.Arrive slot) = arrive_room s slot
step_room s (steps.Advance slot) = advance_room s slot

taken_by : (s : State) (x : Step) → IsKept s (step s x).0 (step s x).1 → HasRoom s (step s x).0 → Takes s x (step s x).0 (step s x).1
taken_by s x (inl enters) room = inl (enters.0, room enters.0, refl)
taken_by s x (inr stays) room = inr stays

-- A step is taken as the definitions say.
pub step_takes : (s : State) (x : Step) → IsWellFormed s → Takes s x (step s x).0 (step s x).1
step_takes s x is = taken_by s x (entries_counted s x is) (step_room s x)

pub advance_takes : (b : Bool) (s : State) (slot : ℕ) → IsWellFormed s → Takes s (steps.Advance slot) (answer.Moved (advance_within b s slot).0) (advance_within b s slot).1
advance_takes b s slot is =
    cond_both (is_entry (answer.Moved (advance s slot).0) && not b) (moved.Full, s) (advance s slot) (λ r. Takes s (steps.Advance slot) (answer.Moved r.0) r.1) (λ _. inr (refl, refl))
    (λ _. step_takes s (steps.Advance slot) is)

pub arrive_takes : (b : Bool) (s : State) (slot : ℕ) → IsWellFormed s → Takes s (steps.Arrive slot) (answer.Came (arrive_within b s slot).0) (arrive_within b s slot).1
arrive_takes b s slot is =
    cond_both (is_entry (answer.Came (arrive s slot).0) && not b) (came.Full, s) (arrive s slot) (λ r. Takes s (steps.Arrive slot) (answer.Came r.0) r.1) (λ _. inr (refl, refl))
    (λ _. step_takes s (steps.Arrive slot) is)

pub ask_takes : (b : Bool) (s : State) (r : Request) → IsWellFormed s → Takes s (steps.Ask r) (answer.Replied (ask_within b s r).0) (ask_within b s r).1
ask_takes b s r is =
    cond_both (not b && not (is_hello r)) (reply.Refused HistoryFull, s) (ask s r) (λ q. Takes s (steps.Ask r) (answer.Replied q.0) q.1) (λ _. inr (refl, refl)) (λ _. step_takes s (steps.Ask r) is)

pub commit_takes : (b : Bool) (s : State) (slot : ℕ) (p : Top) (m : Moved) (t : State) → IsWellFormed s → Commits b s slot p m t → Takes s (steps.Advance slot) (answer.Moved m) t
commit_takes b s slot p m t is (inl same) = rw (same.1, same.2) (advance_takes b s slot is)
commit_takes b s slot p m t is (inr stale) = rw (stale.1, stale.2) (inr (refl, refl))

-- the same, where equations give the answer and the state
pub advance_taken : (b : Bool) (s : State) (slot : ℕ) (m : Moved) (t : State) → IsWellFormed s → m ≡ (advance_within b s slot).0 → t ≡ (advance_within b s slot).1 →
    Takes s (steps.Advance slot) (answer.Moved m) t
advance_taken b s slot m t is answered led = rw (answered, led) (advance_takes b s slot is)

pub arrive_taken : (b : Bool) (s : State) (slot : ℕ) (m : Came) (t : State) → IsWellFormed s → m ≡ (arrive_within b s slot).0 → t ≡ (arrive_within b s slot).1 →
    Takes s (steps.Arrive slot) (answer.Came m) t
arrive_taken b s slot m t is answered led = rw (answered, led) (arrive_takes b s slot is)

pub ask_taken : (b : Bool) (s : State) (r : Request) (y : Reply) (t : State) → IsWellFormed s → y ≡ (ask_within b s r).0 → t ≡ (ask_within b s r).1 → Takes s (steps.Ask r) (answer.Replied y) t
ask_taken b s r y t is answered led = rw (answered, led) (ask_takes b s r is)

-- An idle answer is that of an advance.
pub advance_idle : (b : Bool) (s : State) (slot : ℕ) (m : Moved) → m ≡ (advance_within b s slot).0 → m ≡ moved.Idle → (advance s slot).0 ≡ moved.Idle
advance_idle b s slot m answered idle =
    cond_both (is_entry (answer.Moved (advance s slot).0) && not b) (moved.Full, s) (advance s slot) (λ r. m ≡ r.0 → (advance s slot).0 ≡ moved.Idle)
    (λ _ full. let no : moved.Full ≡ moved.Idle = sym full ∙ idle in cc) (λ _ same. sym same ∙ idle) answered

pub commit_idle : (b : Bool) (s : State) (slot : ℕ) (p : Top) (m : Moved) (t : State) → Commits b s slot p m t → m ≡ moved.Idle → (advance s slot).0 ≡ moved.Idle
commit_idle b s slot p m t (inl same) idle = advance_idle b s slot m same.1 idle
commit_idle b s slot p m t (inr stale) idle = let no : moved.Stale ≡ moved.Idle = sym stale.1 ∙ idle in cc

-- A job is placed on a reserved slot.
if_some : (k : Option ℕ) (P : ℕ → Type 0) → ((slot : ℕ) → k ≡ Some slot → P slot) → IfSome k P
if_some None P each = tt
if_some (Some slot) P each = each slot refl

refused_nowhere : (s : State) → Asked s (reply.Refused HistoryFull, s)
refused_nowhere s = record { config = refl; others = λ o other. refl; placed = λ slot placed. absurd (grind (arith, placed)); kept = inr (refl, refl) }

within_asked : (b : Bool) (s : State) (r : Request) → Asked s (ask_within b s r)
within_asked b s r = cond_both (not b && not (is_hello r)) (reply.Refused HistoryFull, s) (ask s r) (Asked s) (λ _. refused_nowhere s) (λ _. asked s r)

pub placed_fits : (b : Bool) (s : State) (r : Request) (y : Reply) (n : ℕ) → y ≡ (ask_within b s r).0 → s.config.reserved ≤ n → IfSome (placed_on y) (λ slot. slot < n)
placed_fits b s r y n answered few = if_some (placed_on y) (λ slot. slot < n) (λ slot is. let low = ((within_asked b s r).placed slot (ap placed_on (sym answered) ∙ is)).0 in omega (arith, low, few))

pub placed_low : (b : Bool) (s : State) (r : Request) (y : Reply) (n : ℕ) → y ≡ (ask_within b s r).0 → s.config.reserved ≤ n → (slot : ℕ) → placed_on y ≡ Some slot → slot < n
placed_low b s r y n answered few slot is = let low = ((within_asked b s r).placed slot (ap placed_on (sym answered) ∙ is)).0 in omega (arith, low, few)

-- A collect alone can be pending.
pub pending_within : (b : Bool) (s : State) (r : Request) (y : Reply) → y ≡ (ask_within b s r).0 → y ≡ reply.Pending → IsCollect r
pending_within b s r y answered pending =
    cond_both (not b && not (is_hello r)) (reply.Refused HistoryFull, s) (ask s r) (λ (a : Reply × State). y ≡ a.0 → IsCollect r)
    (λ _ full. let no : reply.Refused HistoryFull ≡ reply.Pending = sym full ∙ pending in cc) (λ _ same. pending_asked s r (sym same ∙ pending)) answered
