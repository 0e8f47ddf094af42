-- What each rule of the market keeps.
use Rattle.std.proofs.Common.{◌≡◌, ℕ, ◌<◌, List, [], ◌∷◌, length, Option, Some, None, Bool, true, false, refl, ap, ◌∙◌, arith, length-set}
use Rattle.std.specs.Prelude.{slice_set}
use Rattle.market_config.specs.declared.calls.Call.{Call}
use Rattle.world_model.specs.declared.calls.SlotState.TheVariants as slot
use Rattle.world_model.specs.Market.{Market, slots_of, slot_at, with_slot, worker_at, level_of, is_due, is_free, home_slot, with_due, wake, push, first_call, hand_over, pop, go_home, go_in, came}
use Rattle.world_model.specs.Market.{left, held_by, call_of}
use Rattle.world_model.specs.Orderly.{is_reserved}
use Rattle.world_model.proofs.Ruling.{held_at, in_at, calls_rest, wake_orderly, push_orderly, pop_orderly, came_orderly, left_orderly}
use Rattle.world_model.proofs.Counting.{there_is}
use Rattle.world_core.specs.WorldData.{WorldData, IsAligned, KeepsOrder}

pub keeps_same : (m : Market) → KeepsOrder m m
keeps_same m = record { orderly = λ is. is; aligned = refl }

pub keeps_both : (m n p : Market) → KeepsOrder m n → KeepsOrder n p → KeepsOrder m p
keeps_both m n p first second = record { orderly = λ is. second.orderly (first.orderly is); aligned = second.aligned ∙ first.aligned }

due_long : (m : Market) (t : ℕ) (o : Option ℕ) → length (with_due m t o).slots ≡ length m.slots
due_long m t None = refl
due_long m t (Some s) = length-set m.slots t (slice_set (slots_of m t) s slot.Due)

pub wake_keeps : (m : Market) (t : ℕ) → KeepsOrder m (wake m t)
wake_keeps m t = record { orderly = wake_orderly m t; aligned = due_long m t (home_slot m t) }

home_long : (m : Market) (k : ℕ) (o : Option Call) → length (go_home m k o).slots ≡ length m.slots
home_long m k None = refl
home_long m k (Some c) = length-set m.slots c.tenant (slice_set (slots_of m c.tenant) c.slot slot.Home)

in_long : (m : Market) (k : ℕ) (o : Option Call) → length (go_in m k o).slots ≡ length m.slots
in_long m k None = refl
in_long m k (Some c) = length-set m.slots c.tenant (slice_set (slots_of m c.tenant) c.slot (slot.In k))

came_long : (m : Market) (k : ℕ) (b : Bool) → length (came m k b).slots ≡ length m.slots
came_long m k true = in_long m k (held_by (worker_at m k))
came_long m k false = home_long m k (held_by (worker_at m k))

pub came_keeps : (m : Market) (k : ℕ) (b : Bool) → KeepsOrder m (came m k b)
came_keeps m k b = record { orderly = came_orderly m k b; aligned = came_long m k b }

pub left_keeps : (m : Market) (k : ℕ) → KeepsOrder m (left m k)
left_keeps m k = record { orderly = left_orderly m k; aligned = home_long m k (call_of (worker_at m k)) }

pub push_keeps : (m : Market) (t s : ℕ) → is_due (slot_at m t s) ≡ true → KeepsOrder m (push m t s)
push_keeps m t s due =
    let queued = with_slot m t s slot.Queued in
    record {
      orderly = push_orderly m t s due;
      aligned = ap length (calls_rest queued (level_of m t) _).0 ∙ length-set m.slots t (slice_set (slots_of m t) s slot.Queued);
    }

pop_long : (m : Market) (k : ℕ) (high normal low : List Call) → length (hand_over m k (first_call m high normal low)).1.slots ≡ length m.slots
pop_long m k (c ∷ cs) normal low = length-set m.slots c.tenant (slice_set (slots_of m c.tenant) c.slot (slot.Held k))
pop_long m k [] (c ∷ cs) low = length-set m.slots c.tenant (slice_set (slots_of m c.tenant) c.slot (slot.Held k))
pop_long m k [] [] (c ∷ cs) = length-set m.slots c.tenant (slice_set (slots_of m c.tenant) c.slot (slot.Held k))
pop_long m k [] [] [] = refl

pub pop_keeps : (m : Market) (k : ℕ) → is_free (worker_at m k) ≡ true → KeepsOrder m (pop m k).1
pop_keeps m k free = record { orderly = pop_orderly m k free; aligned = pop_long m k m.high m.normal m.low }

module _ {A : Type 0} (h : WorldData A) (is : IsAligned h) (k : ℕ) (c : Call) where
  -- A call that a worker holds is of a tenant that has an arena.
  pub held_there : held_by (worker_at h.market k) ≡ Some c → c.tenant < length h.arenas
  held_there held =
      let free : is_reserved (slot_at h.market c.tenant c.slot) ≡ false = ap is_reserved (held_at h.market k c is.orderly held) in
      let there = (there_is h.market c.tenant c.slot free).0 in
      omega (arith, there, is.aligned)

  -- and so is one whose slot a worker is in
  pub served_there : call_of (worker_at h.market k) ≡ Some c → c.tenant < length h.arenas
  served_there within =
      let free : is_reserved (slot_at h.market c.tenant c.slot) ≡ false = ap is_reserved (in_at h.market k c is.orderly within) in
      let there = (there_is h.market c.tenant c.slot free).0 in
      omega (arith, there, is.aligned)

-- What is held is in order after a change of the market.
pub held_market : {A : Type 0} (arenas : List A) (m n : Market) → IsAligned (record { arenas = arenas; market = m }) → KeepsOrder m n → IsAligned (record { arenas = arenas; market = n })
held_market arenas m n is keeps = record { orderly = keeps.orderly is.orderly; aligned = keeps.aligned ∙ is.aligned }
