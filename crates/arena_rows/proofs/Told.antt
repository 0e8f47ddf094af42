-- What the rows and cells that are held tell of the state.
use Rattle.std.proofs.Common.{◌≡◌, ℕ, zero, suc, ◌+◌, ◌==◌, ◌<◌, ◌≤◌, nat_lt, ◌-◌, not, List, [], ◌∷◌, length, Option, Some, is_some, Bool, true, false, refl, sym, ap, ◌∙◌, arith, inl, inr, map}
use Rattle.std.specs.Prelude.{filter, find, count_by}
use Rattle.std.specs.List.{enumerate_from, list_any, range_with_len}
use Rattle.std.proofs.lemmas.Grind.{common_steps}
use Rattle.std.proofs.lemmas.List.{length-map}
use Rattle.std.proofs.lemmas.List.Sums.{count_by-le-length}
use Rattle.job_language.specs.declared.tenants.Tenant.{Tenant}
use Rattle.ready_pool.specs.declared.pool.Waiting.{Waiting}
use Rattle.ready_pool.specs.Ready.{Ready}
use Rattle.tenant_model.specs.declared.rows.Row.{Row}
use Rattle.tenant_model.specs.State.{State}
use Rattle.nest_stack.specs.Nest.{stack}
use Rattle.tenant_model.specs.Walks.{NumberedRow, height, is_open, is_unstarted, has_unstarted}
use Rattle.tenant_model.specs.Changes.{open_rows, is_row_limit_met}
use Rattle.thread_cells.specs.Cells.{Table, cell_sum, cell_count}
use Rattle.tenant_model.specs.Asks.{free_slot}
use Rattle.tenant_model.proofs.Stacking.{one_if}
use Rattle.tenant_model.proofs.Within.{either_way}
use Rattle.arena_rows.specs.declared.rows.OpenRow.{OpenRow}
use Rattle.arena_rows.specs.Held.{Held}
use Rattle.arena_rows.specs.Represents.{waiting, waiting_of, Holds}
use Rattle.arena_rows.specs.HeldReads.{least_empty}
use Rattle.arena_rows.proofs.Alike.{count_cons}
use Rattle.arena_rows.proofs.Counters.{any_counted}
use Rattle.arena_rows.proofs.Tops.{height_is}

any_listed : (k : ℕ) (rows : List Row) → list_any (λ (r : Row). is_unstarted r.phase) rows ≡ nat_lt 0 (length (filter (λ (p : NumberedRow). is_unstarted p.1.phase) (enumerate_from k rows)))
any_listed k [] = refl
any_listed k (x ∷ rows) = elim (either_way (is_unstarted x.phase)) [
  | inl waits ↦ rw waits (grind arith)
  | inr started ↦ rw started (any_listed (k + 1) rows)
]

abbrev listed : (k : ℕ) → List Row → ℕ
listed k rows = length (filter (λ (p : NumberedRow). is_unstarted p.1.phase) (enumerate_from k rows))

counted_listed : (k : ℕ) (rows : List Row) → listed k rows ≡ count_by (λ (r : Row). is_unstarted r.phase) rows
counted_listed k [] = refl
counted_listed k (x ∷ rows) = elim (either_way (is_unstarted x.phase)) [
  | inl waits ↦
      let one : one_if (is_unstarted x.phase) ≡ 1 = rw waits refl in
      let more : listed k (x ∷ rows) ≡ suc (listed (k + 1) rows) = rw waits refl in
      omega (arith, more, counted_listed (k + 1) rows, count_cons (λ (r : Row). is_unstarted r.phase) x rows, one)
  | inr started ↦
      let nothing : one_if (is_unstarted x.phase) ≡ 0 = rw started refl in
      let same : listed k (x ∷ rows) ≡ listed (k + 1) rows = rw started refl in
      omega (arith, same, counted_listed (k + 1) rows, count_cons (λ (r : Row). is_unstarted r.phase) x rows, nothing)
]

some_left : (n : ℕ) → nat_lt 0 n ≡ not (n == 0)
some_left zero = refl
some_left (suc n) = grind arith

find-same : {A : Type 0} (p q : A → Bool) (xs : List A) → ((x : A) → p x ≡ q x) → find p xs ≡ find q xs
find-same p q [] same = refl
find-same p q (x ∷ xs) same = elim (either_way (q x)) [
  | inl is ↦ let its : p x ≡ true = same x ∙ is in rw (its, is) refl
  | inr not_so ↦ let its : p x ≡ false = same x ∙ not_so in rw (its, not_so) (find-same p q xs same)
]

-- A range that is not empty begins with its start.
from_start : (n c : ℕ) → c < n → range_with_len c (n - c) ≡ c ∷ range_with_len (c + 1) (n - (c + 1))
from_start n c below = let e : n - c ≡ suc (n - (c + 1)) = omega arith in rw e (grind (arith, common_steps))

module _ (a : Held) (c : ℕ) (below : c < a.config.reserved) where
  abbrev pub is_empty : ℕ → Bool
  is_empty slot = length (stack a.nests slot) == 0

  pub slot_found : is_empty c ≡ true → find is_empty (range_with_len c (a.config.reserved - c)) ≡ Some c
  slot_found is = rw (from_start a.config.reserved c below, is) refl

  pub slot_passed : is_empty c ≡ false → find is_empty (range_with_len c (a.config.reserved - c)) ≡ find is_empty (range_with_len (c + 1) (a.config.reserved - (c + 1)))
  slot_passed not_so = rw (from_start a.config.reserved c below, not_so) refl

module _ (a : Held) (s : State) (is : Holds a s) where
  pub reserved_low : a.config.reserved ≤ length a.nests
  reserved_low =
      let reserved = ap (λ (t : Tenant). t.reserved) is.config in
      let slots = ap (λ (t : Tenant). t.slots) is.config in
      omega (arith, reserved, slots, is.steady.tended.reserved, is.nests.long)

  pub slot_told : least_empty a ≡ free_slot s
  slot_told =
      let high = height_is s.rows is.places a.config.slots a.nests is.steady.formed.stacked is.nests in
      let reserved = ap (λ (t : Tenant). t.reserved) is.config in
      find-same (λ slot. length (stack a.nests slot) == 0) (λ slot. height s.rows slot == 0) (range_with_len 0 a.config.reserved) (λ slot. ap (λ n. n == 0) (high slot)) ∙
      ap (λ n. find (λ slot. height s.rows slot == 0) (range_with_len 0 n)) reserved

  limit : a.config.rows ≡ s.config.rows
  limit = ap (λ (t : Tenant). t.rows) is.config

  pub limit_told : (count_by is_some a.table == length a.table) ≡ is_row_limit_met s
  limit_told =
      let count = is.free.count in
      let long = is.free.long in
      let most = count_by-le-length (λ (o : Option OpenRow). is_some o) a.table in
      grind (arith, count, long, most, limit)

  pub open_told : count_by is_some a.table ≡ open_rows s.rows
  open_told = sym is.free.count

  pub busy_told : not (count_by is_some a.table == 0) ≡ list_any (λ (r : Row). is_open r.phase) s.rows
  busy_told = ap (λ n. not (n == 0)) (sym is.free.count) ∙ sym (some_left (open_rows s.rows)) ∙ sym (any_counted (λ (r : Row). is_open r.phase) s.rows)

  pool_long : length a.pool.rows ≡ length (waiting s.rows)
  pool_long =
      let rows : a.pool.rows ≡ map (waiting_of s.rows is.places) (waiting s.rows) = ap (λ (p : Ready). p.rows) is.waiting in
      ap (λ (ws : List Waiting). length ws) rows ∙ length-map (waiting s.rows) (waiting_of s.rows is.places)

  pub waiting_told : length a.pool.rows ≡ count_by (λ (r : Row). is_unstarted r.phase) s.rows
  waiting_told = pool_long ∙ counted_listed 1 s.rows

  pub unstarted_told : not (length a.pool.rows == 0) ≡ has_unstarted s
  unstarted_told = ap (λ n. not (n == 0)) pool_long ∙ sym (some_left (length (waiting s.rows))) ∙ sym (any_listed 1 s.rows)

  pub sum_told : (k : ℕ) → cell_sum a.cells k ≡ cell_sum s.cells k
  sum_told k = ap (λ (t : Table). cell_sum t k) is.cells

  pub count_told : (k : ℕ) → cell_count a.cells k ≡ cell_count s.cells k
  count_told k = ap (λ (t : Table). cell_count t k) is.cells
