-- Each rule keeps what the lists of a market keep.
use Rattle.std.proofs.Common.{◌≡◌, ℕ, ◌+◌, ◌<◌, List, [], ◌∷◌, ◌++◌, length, get_or, Option, Some, None, Bool, true, false, refl, sym, ap, ◌∙◌, arith, subst}
use Rattle.std.specs.Prelude.{if◌then◌else◌, slice_set}
use Rattle.std.proofs.lemmas.Option.{slice_get_within}
use Rattle.std.proofs.lemmas.List.{length_push, get_or_read, set-get_or}
use Rattle.job_language.specs.declared.tenants.Level.{Level}
use Rattle.job_language.specs.declared.tenants.Level.TheVariants.{High, Normal, Low}
use Rattle.market_config.specs.declared.calls.Call.{Call}
use Rattle.world_model.specs.declared.calls.SlotState.{SlotState}
use Rattle.world_model.specs.declared.calls.SlotState.TheVariants as slot
use Rattle.world_model.specs.declared.calls.WorkerState.{WorkerState}
use Rattle.world_model.specs.declared.calls.WorkerState.TheVariants as worker
use Rattle.world_model.specs.Market.{Market, call, slots_of, slot_at, with_slot, with_worker, worker_at, level_of, calls_at, with_calls, is_due, is_free, lowest_home, with_due, wake, push, first_call}
use Rattle.world_model.specs.Market.{hold, hand_over, pop, go_home, go_in, came, left, held_by, call_of}
use Rattle.market_config.specs.Config.{is_level}
use Rattle.world_model.specs.Orderly.{is_reserved, room, IsOrderly}
use Rattle.world_model.proofs.Ruling.{due_is, free_is, held_at, in_at, IsFirst, first_is, first_queued, calls_with, calls_at-slots, wake_orderly, push_orderly, pop_orderly, came_orderly, left_orderly}
use Rattle.world_model.proofs.Counting.{there_is, wake_counted, push_counted, pop_counted, came_counted, left_counted, has_room}
use Rattle.market.specs.declared.waiting.WaitingCalls.{WaitingCalls}
use Rattle.market.specs.Slots.{woken}
use Rattle.market.specs.Waiting.{ring_at, market_of, holding, Fits, IsKept}
use Rattle.world_model.proofs.Rooms.{wake_room, push_room, pop_room, came_room, left_room}

-- the rings have the capacities that they had
abbrev pub AreAsLarge : WaitingCalls → WaitingCalls → Type 0
AreAsLarge v w = (l : Level) → (ring_at w l).capacity ≡ (ring_at v l).capacity

fits_on : (m n : Market) (v w : WaitingCalls) → ((l : Level) → room n l ≡ room m l) → AreAsLarge v w → Fits m v → Fits n w
fits_on m n v w rooms rings fits l = omega (arith, rooms l, rings l, fits l)

pub wake_kept : (m n : Market) (v : WaitingCalls) (t : ℕ) → n ≡ wake m t → IsKept m v → IsKept n v
wake_kept m n v t e is = subst (λ n. IsKept n v) (sym e) (wake_orderly m t is.0, wake_counted m t is.1, fits_on m (wake m t) v v (wake_room m t) (λ l. refl) is.2)

pub push_kept : (m n : Market) (v w : WaitingCalls) (t s : ℕ) → is_due (slot_at m t s) ≡ true → n ≡ push m t s → AreAsLarge v w → IsKept m v → IsKept n w
push_kept m n v w t s due e rings is = subst (λ n. IsKept n w) (sym e) (push_orderly m t s due is.0, push_counted m t s due is.1, fits_on m (push m t s) v w (push_room m t s due) rings is.2)

pub pop_kept : (m n : Market) (v w : WaitingCalls) (k : ℕ) → is_free (worker_at m k) ≡ true → n ≡ (pop m k).1 → AreAsLarge v w → IsKept m v → IsKept n w
pop_kept m n v w k free e rings is = subst (λ n. IsKept n w) (sym e) (pop_orderly m k free is.0, pop_counted m k is.0 is.1, fits_on m (pop m k).1 v w (pop_room m k is.0) rings is.2)

pub came_kept : (m n : Market) (v : WaitingCalls) (k : ℕ) (b : Bool) → n ≡ came m k b → IsKept m v → IsKept n v
came_kept m n v k b e is = subst (λ n. IsKept n v) (sym e) (came_orderly m k b is.0, came_counted m k b is.0 is.1, fits_on m (came m k b) v v (came_room m k b is.0) (λ l. refl) is.2)

pub left_kept : (m n : Market) (v : WaitingCalls) (k : ℕ) → n ≡ left m k → IsKept m v → IsKept n v
left_kept m n v k e is = subst (λ n. IsKept n v) (sym e) (left_orderly m k is.0, left_counted m k is.0 is.1, fits_on m (left m k) v v (left_room m k is.0) (λ l. refl) is.2)

own_level : (l : Level) → is_level l l ≡ true
own_level High = refl
own_level Normal = refl
own_level Low = refl

-- Where a slot is due, the ring of its tenant's level has room for its call.
pub push_fits : (m : Market) (v : WaitingCalls) (t s : ℕ) → is_due (slot_at m t s) ≡ true → IsKept m v → length (calls_at m (level_of m t)) < (ring_at v (level_of m t)).capacity
push_fits m v t s due is =
    let k = level_of m t in
    let n = push m t s in
    let calls : calls_at n k ≡ calls_at m k ++ call t s ∷ [] =
    calls_with (with_slot m t s slot.Queued) k k (calls_at m k ++ call t s ∷ []) ∙ ap (λ b. if b then calls_at m k ++ call t s ∷ [] else calls_at (with_slot m t s slot.Queued) k) (own_level k) in
    let long : length (calls_at n k) ≡ length (calls_at m k) + 1 = ap length calls ∙ length_push (calls_at m k) (call t s) in
    omega (arith, long, has_room n (push_counted m t s due is.1) k, push_room m t s due k, is.2 k)

taken_there : (m : Market) (o : Option (Call × Market)) (c : Call) (n : Market) → o ≡ Some (c, n) → IsFirst m o → IsOrderly m → (c.tenant < length m.slots) × (c.slot < length (slots_of m c.tenant))
taken_there m None c n is first orderly = absurd (grind (arith, is))
taken_there m (Some p) c n is first orderly =
    let same : p.0 ≡ c = ap (λ (o : Option (Call × Market)). (λ (q : Call × Market). q.0) (from o p)) is in
    subst (λ (d : Call). (d.tenant < length m.slots) × (d.slot < length (slots_of m d.tenant))) same
    (there_is m p.0.tenant p.0.slot (ap is_reserved (first_queued m 0 p.0 first.0 first.1 first.2 orderly)))
  where
    from : Option (Call × Market) → Call × Market → Call × Market
    from None q = q
    from (Some p) q = p

-- The slot of the first call that waits is there.
pub pop_there : (m : Market) (c : Call) (n : Market) → first_call m m.high m.normal m.low ≡ Some (c, n) → IsOrderly m → (c.tenant < length m.slots) × (c.slot < length (slots_of m c.tenant))
pop_there m c n is orderly = taken_there m (first_call m m.high m.normal m.low) c n is (first_is m m.high m.normal m.low refl refl refl) orderly

pub worker_there : (m : Market) (k : ℕ) → is_free (worker_at m k) ≡ true → k < length m.workers
worker_there m k free = slice_get_within m.workers k worker.Free (free_is (worker_at m k) free)

pub pop_none : (m : Market) (k : ℕ) → first_call m m.high m.normal m.low ≡ None → pop m k ≡ (None, m)
pop_none m k none = ap (hand_over m k) none

pub pop_some : (m : Market) (k : ℕ) (c : Call) (n : Market) → first_call m m.high m.normal m.low ≡ Some (c, n) → pop m k ≡ (Some c, hold n k c)
pop_some m k c n some = ap (hand_over m k) some

ring_calls : (levels : List Level) (slots : List (List SlotState)) (v : WaitingCalls) (workers : List WorkerState) (k : Level) → calls_at (market_of levels slots v workers) k ≡ (ring_at v k).items
ring_calls levels slots v workers High = refl
ring_calls levels slots v workers Normal = refl
ring_calls levels slots v workers Low = refl

-- the same, of the level that was read
pub ring_fits : (levels : List Level) (slots : List (List SlotState)) (v : WaitingCalls) (workers : List WorkerState) (t s : ℕ) (k : Level) → k ≡ get_or levels t k →
    is_due (slot_at (market_of levels slots v workers) t s) ≡ true → IsKept (market_of levels slots v workers) v
    → length (ring_at v k).items < (ring_at v k).capacity
ring_fits levels slots v workers t s k read due is =
    let m = market_of levels slots v workers in
    let there = there_is m t s (ap is_reserved (due_is (slot_at m t s) due)) in
    let within : t < length levels = omega (arith, there.0, is.1.aligned) in
    let same : k ≡ level_of m t = get_or_read levels t k within read Normal in
    let fits = push_fits m v t s due is in
    let own : length (calls_at m k) < (ring_at v k).capacity = subst (λ l. length (calls_at m l) < (ring_at v l).capacity) (sym same) fits in
    omega (arith, own, ap length (ring_calls levels slots v workers k))

-- a slot of a row that was read
pub there_row : (slots : List (List SlotState)) (t s : ℕ) (row : List SlotState) → row ≡ get_or slots t row → (t < length slots) × (s < length (get_or slots t [])) → s < length row
there_row slots t s row read there = let same : row ≡ get_or slots t [] = get_or_read slots t row there.0 read [] in omega (arith, there.1, ap length same)

-- A slot changed, and a worker, where the slot's row was read.
pub both_set : (levels : List Level) (slots : List (List SlotState)) (v : WaitingCalls) (workers : List WorkerState) (k : ℕ) (c : Call) (x : SlotState) (y : WorkerState) (row new : List SlotState) →
    row ≡ get_or slots c.tenant row → c.tenant < length slots → new ≡ slice_set row c.slot x
    → market_of levels (slice_set slots c.tenant new) v (slice_set workers k y) ≡ with_worker (with_slot (market_of levels slots v workers) c.tenant c.slot x) k y
both_set levels slots v workers k c x y row new read there set =
    let same : row ≡ get_or slots c.tenant [] = get_or_read slots c.tenant row there read [] in
    let changed : new ≡ slice_set (get_or slots c.tenant []) c.slot x = set ∙ ap (λ r. slice_set r c.slot x) same in
    ap (λ r. market_of levels (slice_set slots c.tenant r) v (slice_set workers k y)) changed

-- the call of a due slot was pushed
pub push_is : (levels : List Level) (slots : List (List SlotState)) (v w : WaitingCalls) (workers : List WorkerState) (c : Call) (k : Level) (row new : List SlotState) →
    row ≡ get_or slots c.tenant row → c.tenant < length slots → new ≡ slice_set row c.slot slot.Queued
    → k ≡ get_or levels c.tenant k → c.tenant < length levels → ((m : Market) → holding m w ≡ with_calls (holding m v) k (calls_at (holding m v) k ++ c ∷ []))
    → market_of levels (slice_set slots c.tenant new) w workers ≡ push (market_of levels slots v workers) c.tenant c.slot
push_is levels slots v w workers c k row new read there set level_read level_there pushes =
    let m = market_of levels slots v workers in
    let n = with_slot m c.tenant c.slot slot.Queued in
    let same : row ≡ get_or slots c.tenant [] = get_or_read slots c.tenant row there read [] in
    let changed : new ≡ slice_set (get_or slots c.tenant []) c.slot slot.Queued = set ∙ ap (λ r. slice_set r c.slot slot.Queued) same in
    let mid : market_of levels (slice_set slots c.tenant new) v workers ≡ n = ap (λ r. market_of levels (slice_set slots c.tenant r) v workers) changed in
    let level : k ≡ level_of m c.tenant = get_or_read levels c.tenant k level_there level_read Normal in
    pushes (market_of levels (slice_set slots c.tenant new) v workers)
    ∙ ap (λ (u : Market). with_calls u k (calls_at u k ++ c ∷ [])) mid
    ∙ ap (λ cs. with_calls n k (cs ++ c ∷ [])) (calls_at-slots m k c.tenant c.slot slot.Queued)
    ∙ ap (λ l. with_calls n l (calls_at m l ++ c ∷ [])) level

woken_is : (levels : List Level) (slots : List (List SlotState)) (v : WaitingCalls) (workers : List WorkerState) (t : ℕ) (o : Option ℕ) →
    market_of levels (slice_set slots t (woken (get_or slots t []) o)) v workers ≡ with_due (market_of levels slots v workers) t o
woken_is levels slots v workers t None = ap (λ rows. market_of levels rows v workers) (set-get_or slots t [])
woken_is levels slots v workers t (Some s) = refl

-- a slot of a row that was read became due
pub wake_is : (levels : List Level) (slots : List (List SlotState)) (v : WaitingCalls) (workers : List WorkerState) (t : ℕ) (row new : List SlotState) → row ≡ get_or slots t row → t < length slots →
    new ≡ woken row (lowest_home 0 row)
    → market_of levels (slice_set slots t new) v workers ≡ wake (market_of levels slots v workers) t
wake_is levels slots v workers t row new read there set =
    let same : row ≡ get_or slots t [] = get_or_read slots t row there read [] in
    let changed : new ≡ woken (get_or slots t []) (lowest_home 0 (get_or slots t [])) = set ∙ ap (λ r. woken r (lowest_home 0 r)) same in
    ap (λ r. market_of levels (slice_set slots t r) v workers) changed ∙ woken_is levels slots v workers t (lowest_home 0 (get_or slots t []))

pub came_in : (m : Market) (k : ℕ) (b : Bool) (c : Call) (p : SlotState × WorkerState) → worker_at m k ≡ Some (worker.Holds c) → b ≡ true → p ≡ (slot.In k, worker.In c) →
    with_worker (with_slot m c.tenant c.slot p.0) k p.1 ≡ came m k b
came_in m k b c p at is pair = ap (λ (q : SlotState × WorkerState). with_worker (with_slot m c.tenant c.slot q.0) k q.1) pair ∙ sym (ap (λ o. go_in m k (held_by o)) at) ∙ ap (λ d. came m k d) (sym is)

pub came_home : (m : Market) (k : ℕ) (b : Bool) (c : Call) (p : SlotState × WorkerState) → worker_at m k ≡ Some (worker.Holds c) → b ≡ false → p ≡ (slot.Home, worker.Free) →
    with_worker (with_slot m c.tenant c.slot p.0) k p.1 ≡ came m k b
came_home m k b c p at is pair =
    ap (λ (q : SlotState × WorkerState). with_worker (with_slot m c.tenant c.slot q.0) k q.1) pair ∙ sym (ap (λ o. go_home m k (held_by o)) at) ∙ ap (λ d. came m k d) (sym is)

pub left_home : (m : Market) (k : ℕ) (c : Call) → worker_at m k ≡ Some (worker.In c) → with_worker (with_slot m c.tenant c.slot slot.Home) k worker.Free ≡ left m k
left_home m k c at = sym (ap (λ o. go_home m k (call_of o)) at)

-- The slot that a worker holds, or is in, is there.
pub held_there : (m : Market) (k : ℕ) (c : Call) → IsOrderly m → worker_at m k ≡ Some (worker.Holds c) → (c.tenant < length m.slots) × (c.slot < length (slots_of m c.tenant))
held_there m k c is at = there_is m c.tenant c.slot (ap is_reserved (held_at m k c is (ap held_by at)))

pub in_there : (m : Market) (k : ℕ) (c : Call) → IsOrderly m → worker_at m k ≡ Some (worker.In c) → (c.tenant < length m.slots) × (c.slot < length (slots_of m c.tenant))
in_there m k c is at = there_is m c.tenant c.slot (ap is_reserved (in_at m k c is (ap call_of at)))

pub due_there : (m : Market) (t s : ℕ) → is_due (slot_at m t s) ≡ true → (t < length m.slots) × (s < length (slots_of m t))
due_there m t s due = there_is m t s (ap is_reserved (due_is (slot_at m t s) due))
