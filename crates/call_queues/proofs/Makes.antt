-- How the passes are made.
use Rattle.std.proofs.Common.{◌≡◌, ℕ, zero, suc, ◌+◌, ◌<◌, List, [], ◌∷◌, ◌++◌, length, get_or, sym, ap, ◌∙◌, inl, inr, arith, length-append}
use Rattle.std.proofs.lemmas.Bool.Decides.{eqb_tells}
use Rattle.std.proofs.lemmas.List.{get_or_append_left}
use Rattle.std.proofs.Math.Seq.{get_or-append_seam}
use Rattle.atomic_table.specs.Seated.{TableId}
use Rattle.call_queues.specs.Order.{no_log}
use Rattle.call_queues.specs.Levels.{LevelPassSeen}
use Rattle.call_queues.specs.Queues.{QueueSet, three, PassSeen, fresh}

pub pass_is : (queues : QueueSet) (x y z : LevelPassSeen) (k : ℕ) → x ≡ record { queue = queues.levels.high; number = k; made = 0; log = no_log } →
    y ≡ record { queue = queues.levels.normal; number = k; made = 0; log = no_log } → z ≡ record { queue = queues.levels.low; number = k; made = 0; log = no_log }
    → record { queues = record { levels = three x.queue y.queue z.queue; passes = queues.passes }; number = k; logs = three x.log y.log z.log } ≡ fresh queues k
pass_is queues x y z k e f g = λ i. record { queues = record { levels = three (e i).queue (f i).queue (g i).queue; passes = queues.passes }; number = k; logs = three (e i).log (f i).log (g i).log }

pub each_more : (queues : QueueSet) (items next : List PassSeen) (n : ℕ) (p : PassSeen) → next ≡ items ++ p ∷ [] → length items + 1 ≡ n →
    ((k : ℕ) (d : PassSeen) → k < length items → get_or items k d ≡ fresh queues (k + 1)) → p ≡ fresh queues n
    → (k : ℕ) (d : PassSeen) → k < length next → get_or next k d ≡ fresh queues (k + 1)
each_more queues items next n p e long each last k d lt =
    let a : length next ≡ length (items ++ p ∷ []) = ap length e in
    let b = length-append items (p ∷ []) in
    elim (eqb_tells k (length items)) [
      | inl t ↦ (let k1 : n ≡ k + 1 = (let q = t.1 in omega arith) in
          ap (λ l. get_or l k d) e ∙ ap (λ m. get_or (items ++ p ∷ []) m d) t.1 ∙ get_or-append_seam items p [] d ∙ last ∙ ap (fresh queues) k1)
      | inr t ↦ (let ne = t.1 in ap (λ l. get_or l k d) e ∙ get_or_append_left items (p ∷ []) d k (omega arith) ∙ each k d (omega arith))
    ]

pub count_more : (items next : List PassSeen) (n : ℕ) (p : PassSeen) → next ≡ items ++ p ∷ [] → length items + 1 ≡ n → length next + 1 ≡ n + 1
count_more items next n p e long = let a : length next ≡ length (items ++ p ∷ []) = ap length e in omega (arith, length-append items (p ∷ []))

-- the first pass before the others
pub each_first : (queues : QueueSet) (items next : List PassSeen) (n : ℕ) (p : PassSeen) → next ≡ p ∷ items → length items + 1 ≡ n →
    ((k : ℕ) (d : PassSeen) → k < length items → get_or items k d ≡ fresh queues (k + 1)) → p ≡ fresh queues 0
    → (k : ℕ) (d : PassSeen) → k < n → get_or next k d ≡ fresh queues k
each_first queues items next n p e long each first zero d lt = ap (λ l. get_or l 0 d) e ∙ first
each_first queues items next n p e long each first (suc k) d lt = ap (λ l. get_or l (suc k) d) e ∙ each k d (omega arith) ∙ ap (fresh queues) (omega arith)

pub made_more : (first now next : LevelPassSeen) (k : ℕ) → now ≡ record first { made = k } → next ≡ record now { made = k + 1 } → next ≡ record first { made = k + 1 }
made_more first now next k e f = f ∙ ap (λ (l : LevelPassSeen). record l { made = k + 1 }) e

pub queue_first : (r first : LevelPassSeen) (q : TableId) (k : ℕ) → r ≡ record { queue = q; number = k; made = 0; log = no_log } → first ≡ record { queue = q; number = 0; made = 1; log = no_log } →
    r ≡ record { queue = first.queue; number = k; made = 0; log = no_log }
queue_first r first q k e f = e ∙ ap (λ (x : TableId). record { queue = x; number = k; made = 0; log = no_log }) (sym (ap (λ (l : LevelPassSeen). l.queue) f))
