-- What the calls of a ringer and of a slot's door tell, in the words of their models.
use Rattle.std.proofs.Common.{◌≡◌, Option, MatchOption, refl, subst}
use Rattle.market_config.specs.declared.calls.Call.{Call}
use Rattle.call_queues.specs.Queues.{QueuesSeen, PassSeen, FoundNone, Found}
use Rattle.worker_main.specs.Pushes.{RingerSeen, PushesDue, Pops}
use Rattle.worker_main.specs.Slots.{SlotSeen, PopsAt}

pub pops_of : (s : RingerSeen) (q : QueuesSeen) (old new : PassSeen) (popped : Option Call) → record { queues = q; pass = old } ≡ s → new.number ≡ old.number → new.queues ≡ old.queues
    → MatchOption popped (FoundNone old new.logs) (λ call. Found old new.logs call) → Pops s popped (record { queues = q; pass = new })
pops_of s q old new popped e number queues found = subst (λ x. Pops x popped (record { queues = q; pass = new })) e (refl, queues, number, found)

module _ {D : Type 0} where
  pub pops_at : (s : SlotSeen D) (old new : RingerSeen) (d : D) (popped : Option Call) → record { ringer = old; doors = d } ≡ s → Pops old popped new →
      PopsAt s popped (record { ringer = new; doors = d })
  pops_at s old new d popped e pops = subst (λ x. PopsAt x popped (record { ringer = new; doors = d })) e (refl, pops)

  -- a call of the doors, and the push of the slot that it made due
  pub tells : (calls : D → Option Call → D → Type 0) (s : SlotSeen D) (r u : RingerSeen) (d f : D) (due : Option Call) → record { ringer = r; doors = d } ≡ s → calls d due f → PushesDue r due u
      → (x : Option Call) × (calls s.doors x f × PushesDue s.ringer x u)
  tells calls s r u d f due e told pushes = (due, (subst (λ x. calls x.doors due f) e told, subst (λ x. PushesDue x.ringer due u) e pushes))
