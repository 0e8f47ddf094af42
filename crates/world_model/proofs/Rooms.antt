-- The rules of the market leave each level its room.
use Rattle.std.proofs.Common.{◌≡◌, Result, Ok, Err, ◌&&◌, ℕ, zero, suc, ◌+◌, ◌-◌, List, [], ◌∷◌, ◌++◌, length, Option, Some, None, Bool, true, false, refl, ap, ◌∙◌, arith, inl, inr}
use Rattle.std.specs.Prelude.{if◌then◌else◌, slice_set, slice_index_or, count_by, replicate, map}
use Rattle.std.proofs.lemmas.Bool.{cases_lt, cond_both}
use Rattle.std.proofs.lemmas.List.{get_or_past}
use Rattle.std.proofs.lemmas.List.Sums.{sum_by-append, sum_by-cons, sum_by-set}
use Rattle.job_language.specs.declared.tenants.Level.{Level}
use Rattle.job_language.specs.declared.tenants.Tenant.{Tenant}
use Rattle.job_language.specs.declared.errors.Error.{Error}
use Rattle.job_language.specs.declared.answers.Answer.{Answer}
use Rattle.job_language.specs.declared.steps.Step.{Step}
use Rattle.job_language.specs.Configuration.{Configuration}
use Rattle.job_language.specs.Recorded.{is_entry}
use Rattle.tenant_model.specs.State.{State}
use Rattle.tenant_model.specs.Solo as solo
use Rattle.tenant_model.specs.Told.{is_left}
use Rattle.tenant_model.specs.Walks.{has_unstarted}
use Rattle.world_model.specs.declared.outcomes.Outcome.{Outcome}
use Rattle.world_model.specs.OwnSteps.{OwnStep, step_of}
use Rattle.world_model.specs.Raw.{Raw}
use Rattle.world_model.specs.Raw as raw
use Rattle.world_model.specs.World.{World, start, first_slots, state_of, own_of, is_in, market_after, wake_after, answer_step, pop_outcome, at_market, step_own, step}
use Rattle.market_config.specs.declared.calls.Call.{Call}
use Rattle.world_model.specs.declared.calls.SlotState.{SlotState}
use Rattle.world_model.specs.declared.calls.SlotState.TheVariants as slot
use Rattle.world_model.specs.Market.{Market, call, slot_at, with_slot, worker_at, level_of, calls_at, is_due, is_free, home_slot, with_due, wake, push, first_call, hold, hand_over, pop, go_home}
use Rattle.world_model.specs.Market.{go_in, came, left, held_by, call_of}
use Rattle.market_config.specs.Config.{is_level}
use Rattle.world_model.specs.Orderly.{is_reserved, is_for_workers, tally, room, worker_slots, IsOrderly}
use Rattle.world_model.proofs.Ruling.{home_at, due_is, held_at, in_at, IsFirst, first_is, first_queued, calls_rest}

abbrev one_if : Bool → ℕ
one_if b = if b then 1 else 0

for_workers : (x : SlotState) → is_reserved x ≡ false → is_for_workers x ≡ true
for_workers slot.Reserved free = absurd (grind (arith, free))
for_workers slot.Home free = refl
for_workers slot.Due free = refl
for_workers slot.Queued free = refl
for_workers (slot.Held k) free = refl
for_workers (slot.In k) free = refl

row_room : (row : List SlotState) (s : ℕ) (x : SlotState) → is_reserved (slice_index_or row s slot.Reserved) ≡ false → is_reserved x ≡ false →
    count_by is_for_workers (slice_set row s x) ≡ count_by is_for_workers row
row_room row s x was is = elim (cases_lt s (length row)) [
  | inl within ↦
      let set = sum_by-set (λ (y : SlotState). one_if (is_for_workers y)) row s x slot.Reserved within in
      let before : one_if (is_for_workers (slice_index_or row s slot.Reserved)) ≡ 1 = ap one_if (for_workers (slice_index_or row s slot.Reserved) was) in
      let after : one_if (is_for_workers x) ≡ 1 = ap one_if (for_workers x is) in
      omega (arith, set, before, after)
  | inr past ↦
      let none : slice_index_or row s slot.Reserved ≡ slot.Reserved = get_or_past row s slot.Reserved past in
      absurd (grind (arith, was, ap is_reserved none))
]

rows_room : (level : Level) (ks : List Level) (rows : List (List SlotState)) (t s : ℕ) (x : SlotState) → is_reserved (slice_index_or (slice_index_or rows t []) s slot.Reserved) ≡ false →
    is_reserved x ≡ false
    → tally is_for_workers level ks (slice_set rows t (slice_set (slice_index_or rows t []) s x)) ≡ tally is_for_workers level ks rows
rows_room level [] rows t s x was is = refl
rows_room level (k ∷ ks) [] t s x was is = refl
rows_room level (k ∷ ks) (row ∷ rows) zero s x was is = ap (λ n. (if is_level level k then n else 0) + tally is_for_workers level ks rows) (row_room row s x was is)
rows_room level (k ∷ ks) (row ∷ rows) (suc t) s x was is = ap (λ n. (if is_level level k then count_by is_for_workers row else 0) + n) (rows_room level ks rows t s x was is)

-- one slot changed, which is for workers
kept_room : (m n : Market) (t s : ℕ) (b : SlotState) → n.levels ≡ m.levels → n.slots ≡ (with_slot m t s b).slots → is_reserved (slot_at m t s) ≡ false → is_reserved b ≡ false → (l : Level) →
    room n l ≡ room m l
kept_room m n t s b levels slots was is l = (λ i. tally is_for_workers l (levels i) (slots i)) ∙ rows_room l m.levels m.slots t s b was is

made_room : (m : Market) (t : ℕ) (o : Option ℕ) → home_slot m t ≡ o → (l : Level) → room (with_due m t o) l ≡ room m l
made_room m t None found l = refl
made_room m t (Some s) found l = kept_room m (with_slot m t s slot.Due) t s slot.Due refl refl (ap is_reserved (home_at m t s found)) refl l

pub wake_room : (m : Market) (t : ℕ) (l : Level) → room (wake m t) l ≡ room m l
wake_room m t l = made_room m t (home_slot m t) refl l

pub push_room : (m : Market) (t s : ℕ) → is_due (slot_at m t s) ≡ true → (l : Level) → room (push m t s) l ≡ room m l
push_room m t s due l =
    let rest = calls_rest (with_slot m t s slot.Queued) (level_of m t) (calls_at m (level_of m t) ++ call t s ∷ []) in
    kept_room m (push m t s) t s slot.Queued rest.2 rest.0 (ap is_reserved (due_is (slot_at m t s) due)) refl l

handed_room : (m : Market) (k : ℕ) (o : Option (Call × Market)) → IsFirst m o → IsOrderly m → (l : Level) → room (hand_over m k o).1 l ≡ room m l
handed_room m k None first is l = refl
handed_room m k (Some p) first is l =
    let rest = calls_rest m first.0 first.1 in
    let levels : (hold p.1 k p.0).levels ≡ m.levels = ap (λ (n : Market). n.levels) first.3 ∙ rest.2 in
    let slots : (hold p.1 k p.0).slots ≡ (with_slot m p.0.tenant p.0.slot (slot.Held k)).slots =
    ap (λ (n : Market). (with_slot n p.0.tenant p.0.slot (slot.Held k)).slots) first.3 ∙ ap (λ rows. (with_slot (record m { slots = rows }) p.0.tenant p.0.slot (slot.Held k)).slots) rest.0 in
    kept_room m (hold p.1 k p.0) p.0.tenant p.0.slot (slot.Held k) levels slots (ap is_reserved (first_queued m k p.0 first.0 first.1 first.2 is)) refl l

pub pop_room : (m : Market) (k : ℕ) → IsOrderly m → (l : Level) → room (pop m k).1 l ≡ room m l
pop_room m k is l = handed_room m k (first_call m m.high m.normal m.low) (first_is m m.high m.normal m.low refl refl refl) is l

in_room : (m : Market) (k : ℕ) (o : Option Call) → held_by (worker_at m k) ≡ o → IsOrderly m → (l : Level) → room (go_in m k o) l ≡ room m l
in_room m k None held is l = refl
in_room m k (Some c) held is l = kept_room m (go_in m k (Some c)) c.tenant c.slot (slot.In k) refl refl (ap is_reserved (held_at m k c is held)) refl l

home_room : (m : Market) (k : ℕ) (o : Option Call) → held_by (worker_at m k) ≡ o → IsOrderly m → (l : Level) → room (go_home m k o) l ≡ room m l
home_room m k None held is l = refl
home_room m k (Some c) held is l = kept_room m (go_home m k (Some c)) c.tenant c.slot slot.Home refl refl (ap is_reserved (held_at m k c is held)) refl l

gone_room : (m : Market) (k : ℕ) (o : Option Call) → call_of (worker_at m k) ≡ o → IsOrderly m → (l : Level) → room (go_home m k o) l ≡ room m l
gone_room m k None within is l = refl
gone_room m k (Some c) within is l = kept_room m (go_home m k (Some c)) c.tenant c.slot slot.Home refl refl (ap is_reserved (in_at m k c is within)) refl l

pub came_room : (m : Market) (k : ℕ) (b : Bool) → IsOrderly m → (l : Level) → room (came m k b) l ≡ room m l
came_room m k true is l = in_room m k (held_by (worker_at m k)) refl is l
came_room m k false is l = home_room m k (held_by (worker_at m k)) refl is l

pub left_room : (m : Market) (k : ℕ) → IsOrderly m → (l : Level) → room (left m k) l ≡ room m l
left_room m k is l = gone_room m k (call_of (worker_at m k)) refl is l

-- a step of the world
woken_room : (m : Market) (u : ℕ) (a : Answer) (s : State) (l : Level) → room (wake_after m u a s) l ≡ room m l
woken_room m u a s l = cond_both (is_entry a && has_unstarted s) _ _ (λ n. room n l ≡ room m l) (λ _. wake_room m u l) (λ _. refl)

after_room : (m : Market) (x : Raw) (a : Answer) → IsOrderly m → (l : Level) → room (market_after m x a) l ≡ room m l
after_room m (raw.line t text) a orderly l = refl
after_room m (raw.master t v) a orderly l = refl
after_room m (raw.push t v) a orderly l = refl
after_room m (raw.pop k) a orderly l = refl
after_room m (raw.arrive k) a orderly l = came_room m k (is_in a) orderly l
after_room m (raw.advance k) a orderly l = cond_both (is_left a) _ _ (λ n. room n l ≡ room m l) (λ _. left_room m k orderly l) (λ _. refl)

answered_room : (w : World) (x : Raw) (u : ℕ) (y : Result Step Error) → IsOrderly w.market → (l : Level) → room (answer_step w x u y).1.market l ≡ room w.market l
answered_room w x u (Err e) orderly l = refl
answered_room w x u (Ok y) orderly l = let a = solo.step (state_of w u) y in woken_room (market_after w.market x a.0) u a.0 a.1 l ∙ after_room w.market x a.0 orderly l

popped_room : (w : World) (r : Option Call × Market) (l : Level) → room r.1 l ≡ room w.market l → room (pop_outcome w r).1.market l ≡ room w.market l
popped_room w (None, m) l now = refl
popped_room w (Some c, m) l now = now

at_market_room : (w : World) (x : Raw) → IsOrderly w.market → (l : Level) → room (at_market w x).1.market l ≡ room w.market l
at_market_room w (raw.line t text) orderly l = refl
at_market_room w (raw.master t v) orderly l = refl
at_market_room w (raw.push t v) orderly l =
    cond_both (is_due (slot_at w.market t v)) _ _ (λ (r : Outcome × World). room r.1.market l ≡ room w.market l) (λ due. push_room w.market t v due l) (λ _. refl)
at_market_room w (raw.pop k) orderly l =
    cond_both (is_free (worker_at w.market k)) _ _ (λ (r : Outcome × World). room r.1.market l ≡ room w.market l) (λ free. popped_room w (pop w.market k) l (pop_room w.market k orderly l)) (λ _. refl)
at_market_room w (raw.arrive k) orderly l = refl
at_market_room w (raw.advance k) orderly l = refl

own_room : (w : World) (x : Raw) (o : Option (ℕ × OwnStep)) → IsOrderly w.market → (l : Level) → room (step_own w x o).1.market l ≡ room w.market l
own_room w x None orderly l = at_market_room w x orderly l
own_room w x (Some o) orderly l = answered_room w x o.0 (step_of o.1) orderly l

pub step_room : (w : World) (x : Raw) → IsOrderly w.market → (l : Level) → room (step w x).1.market l ≡ room w.market l
step_room w x orderly l = own_room w x (own_of w x) orderly l

-- at the start
pub counted_none : (n : ℕ) → count_by is_for_workers (replicate n slot.Reserved) ≡ 0
counted_none zero = refl
counted_none (suc n) = omega (arith, sum_by-cons (λ (y : SlotState). one_if (is_for_workers y)) slot.Reserved (replicate n slot.Reserved), counted_none n)

pub counted_all : (n : ℕ) → count_by is_for_workers (replicate n slot.Home) ≡ n
counted_all zero = refl
counted_all (suc n) = omega (arith, sum_by-cons (λ (y : SlotState). one_if (is_for_workers y)) slot.Home (replicate n slot.Home), counted_all n)

row_counted : (t : Tenant) → count_by is_for_workers (first_slots t) ≡ t.slots - t.reserved
row_counted t = omega (
  arith,
  sum_by-append (λ (y : SlotState). one_if (is_for_workers y)) (replicate t.reserved slot.Reserved) (replicate (t.slots - t.reserved) slot.Home),
  counted_none t.reserved,
  counted_all (t.slots - t.reserved),
)

first_tally : (level : Level) (ts : List Tenant) → tally is_for_workers level (map (λ (t : Tenant). t.priority) ts) (map first_slots ts) ≡ worker_slots ts level
first_tally level [] = refl
first_tally level (t ∷ ts) =
    let here : (if is_level level t.priority then count_by is_for_workers (first_slots t) else 0) ≡ (if is_level level t.priority then t.slots - t.reserved else 0) =
    ap (λ n. if is_level level t.priority then n else 0) (row_counted t) in
    omega (arith, here, first_tally level ts, sum_by-cons (λ (u : Tenant). if is_level level u.priority then u.slots - u.reserved else 0) t ts)

pub start_room : (c : Configuration) (l : Level) → room (start c).market l ≡ worker_slots c.tenants l
start_room c l = first_tally l c.tenants
