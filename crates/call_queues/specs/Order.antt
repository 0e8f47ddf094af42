-- The order of one level: what the passes pushed and popped, and what the queue holds.
use Rattle.std.specs.Prelude.{◌≡◌, ℕ, ◌≤◌, ◌<◌, Bool, ◌&&◌, ◌==◌, List, [], ◌++◌, length, slice_index_or, count_by}
use Rattle.std.specs.List.{filter, list_any, sum_by}
use Rattle.call_queues.specs.declared.marks.Marked.{Marked}
use Rattle.call_queues.specs.declared.marks.PassLog.{PassLog}

-- the call is marked as push number k of the pass p
abbrev pub is_at : ℕ → ℕ → Marked → Bool
is_at p k m = (m.by == p) && (m.at == k)

-- a call with the mark of m is among them
abbrev pub is_in : List Marked → Marked → Bool
is_in xs m = list_any (λ x. is_at x.by x.at m) xs

-- those that the pass p pushed
abbrev pub pushed_by : ℕ → List Marked → List Marked
pushed_by p ys = filter (λ m. m.by == p) ys

-- those that are among xs
abbrev pub members : List Marked → List Marked → List Marked
members xs ys = filter (is_in xs) ys

abbrev pub no_log : PassLog
no_log = record { pushed = []; popped = [] }

-- what the pass p pushed and popped
abbrev pub log_of : List PassLog → ℕ → PassLog
log_of logs p = slice_index_or logs p no_log

-- The rule of a level. `past ++ rest` is the one list; the passes popped `past`, and the rest is left.
pub record LevelOrder (logs : List PassLog) (past rest : List Marked) : Type 0 where
  -- no two calls are marked alike
  pub once : (p k : ℕ) → count_by (is_at p k) (past ++ rest) ≤ 1
  -- each push is marked with the number of pushes that its pass made before
  pub marks : (p k : ℕ) (d : Marked) → k < length (log_of logs p).pushed → (slice_index_or (log_of logs p).pushed k d).at ≡ k
  -- the list filtered to the number of a pass is its pushes
  pub pushes : (p : ℕ) → pushed_by p (past ++ rest) ≡ (log_of logs p).pushed
  -- the list filtered to the members of its pops is its pops
  pub pops : (p : ℕ) → members (log_of logs p).popped (past ++ rest) ≡ (log_of logs p).popped
  -- the members of the past are the pops of all passes, each once
  pub popped : (test : Marked → Bool) → count_by test past ≡ sum_by (λ h. count_by test h.popped) logs
