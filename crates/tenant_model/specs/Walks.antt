-- What the rows say: chains of makers, regions, members of groups, contexts, stacks and picks.
use Rattle.std.specs.Prelude.{ℕ, zero, suc, ◌==◌, nat_lt, ℤ, pos, Bool, true, false, ◌&&◌, ◌||◌, if◌then◌else◌, List, [], ◌∷◌, Option, Some, None, is_some, length, map, filter, find, fold, count_by}
use Rattle.std.specs.Prelude.{slice_index_or}
use Rattle.std.specs.Int.{int_wrapping_add, w64}
use Rattle.std.specs.List.{enumerate_from, list_any}
use Rattle.std.specs.Option.{option_map}
use Rattle.job_language.specs.declared.tenants.Isolation.{Isolation}
use Rattle.job_language.specs.declared.tenants.Isolation.TheVariants.{Exact, Within}
use Rattle.tenant_model.specs.declared.rows.Kind.{Kind}
use Rattle.tenant_model.specs.declared.rows.Kind.TheVariants.{Root, Posted, Spawned, Region}
use Rattle.tenant_model.specs.declared.rows.Phase.{Phase}
use Rattle.tenant_model.specs.declared.rows.Phase.TheVariants.{Unstarted, Live, Done, Dropped}
use Rattle.tenant_model.specs.declared.rows.Mark.{Mark}
use Rattle.tenant_model.specs.declared.rows.Row.{Row}
use Rattle.tenant_model.specs.declared.works.Work.{Work}
use Rattle.tenant_model.specs.State.{State, row, job}

-- a row with its number
abbrev pub NumberedRow : Type 0
NumberedRow = ℕ × Row

abbrev pub numbered_rows : List Row → List NumberedRow
numbered_rows rows = enumerate_from 1 rows

abbrev pub maker_of : Kind → Option ℕ
maker_of Root = None
maker_of Posted = None
maker_of (Spawned m g) = Some m
maker_of (Region m) = Some m

abbrev pub with_makers : ℕ → Option ℕ → (ℕ → List ℕ) → List ℕ
with_makers n None chain_of = n ∷ []
with_makers n (Some m) chain_of = n ∷ chain_of m

abbrev pub chain_for : (left : ℕ) → List Row → ℕ → List ℕ
chain_for zero rows n = []
chain_for (suc left) rows n = with_makers n (maker_of (row rows n).kind) (chain_for left rows)

-- The chain of a row: the row, its maker, that row's maker, and so on. Makers have smaller numbers, so it has at most as many rows as the number says.
abbrev pub chain : List Row → ℕ → List ℕ
chain rows n = chain_for n rows n

abbrev pub is_within : List Row → ℕ → ℕ → Bool
is_within rows n r = list_any (λ m. m == r) (chain rows n)

abbrev pub is_region : Kind → Bool
is_region (Region m) = true
is_region k = false

-- the first region on a row's chain
abbrev pub region_of : List Row → ℕ → Option ℕ
region_of rows n = find (λ m. is_region (row rows m).kind) (chain rows n)

abbrev pub is_unstarted : Phase → Bool
is_unstarted Unstarted = true
is_unstarted p = false

abbrev pub is_open : Phase → Bool
is_open Unstarted = true
is_open (Live s h) = true
is_open p = false

abbrev pub is_spawned_by : ℕ → ℕ → Kind → Bool
is_spawned_by f g (Spawned m h) = (m == f) && (h == g)
is_spawned_by f g k = false

abbrev pub mark : List Row → ℕ → ℕ → Mark
mark rows f g = slice_index_or (row rows f).marks g (record { rows = 0; cancelled = false })

-- the members of group g of row f: the rows spawned into it since its last passed wait
abbrev pub members : List Row → ℕ → ℕ → List NumberedRow
members rows f g = filter (λ p. is_spawned_by f g p.1.kind && nat_lt (mark rows f g).rows p.0) (numbered_rows rows)

abbrev pub is_pending : List Row → ℕ → ℕ → Bool
is_pending rows f g = list_any (λ (p : NumberedRow). is_open p.1.phase) (members rows f g)

abbrev pub value_in : Phase → ℤ
value_in (Done v) = v
value_in p = pos 0

abbrev pub total : List Row → ℕ → ℕ → ℤ
total rows f g = fold (λ sum (p : NumberedRow). int_wrapping_add w64 sum (value_in p.1.phase)) (pos 0) (members rows f g)

abbrev pub is_used : List Row → ℕ → ℕ → Bool
is_used rows f g = nat_lt 0 (length (members rows f g))

-- Was the job cancelled by request, or does it have a fault?
abbrev pub is_job_cancelled : Work → Bool
is_job_cancelled w = w.cancelled || is_some w.fault

-- Was the row spawned into a group that was cancelled since its last passed wait?
abbrev pub is_group_cancelled : List Row → Kind → Bool
is_group_cancelled rows (Spawned m g) = (mark rows m g).cancelled
is_group_cancelled rows k = false

-- The context of a row is cancelled if its job is, or the group of some row on its chain.
abbrev pub is_context_cancelled : State → ℕ → Bool
is_context_cancelled s n = is_job_cancelled (job s.jobs (row s.rows n).job) || list_any (λ m. is_group_cancelled s.rows (row s.rows m).kind) (chain s.rows n)

abbrev pub is_live_on : ℕ → Phase → Bool
is_live_on slot (Live t h) = t == slot
is_live_on slot p = false

abbrev pub is_live_at : ℕ → ℕ → Phase → Bool
is_live_at slot height (Live t h) = (t == slot) && (h == height)
is_live_at slot height p = false

-- how many rows are on a slot's stack
abbrev pub height : List Row → ℕ → ℕ
height rows slot = count_by (λ (r : Row). is_live_on slot r.phase) rows

-- the number of the highest row on a slot's stack
abbrev pub top : List Row → ℕ → Option ℕ
top rows slot = option_map (λ (p : NumberedRow). p.0) (find (λ (p : NumberedRow). is_live_at slot (height rows slot) p.1.phase) (numbered_rows rows))

abbrev pub same_region : Option ℕ → Option ℕ → Bool
same_region None None = true
same_region (Some a) (Some b) = a == b
same_region a b = false

-- May a slot whose topmost row is in this region take the row of that number?
abbrev pub is_allowed : Isolation → List Row → Option ℕ → ℕ → Bool
is_allowed mode rows None n = true
is_allowed Exact rows (Some r) n = same_region (Some r) (region_of rows n)
is_allowed Within rows (Some r) n = is_within rows n r

abbrev pub region_on : List Row → Option ℕ → Option ℕ
region_on rows None = None
region_on rows (Some n) = region_of rows n

-- the rows that the slot may take, oldest first
abbrev pub eligible : Isolation → List Row → ℕ → List NumberedRow
eligible mode rows slot = filter (λ (p : NumberedRow). is_unstarted p.1.phase && is_allowed mode rows (region_on rows (top rows slot)) p.0) (numbered_rows rows)

abbrev pub is_made_on : ℕ → Option ℕ → Bool
is_made_on slot None = false
is_made_on slot (Some t) = t == slot

abbrev pub first_of : List NumberedRow → Option ℕ
first_of [] = None
first_of (p ∷ ps) = Some p.0

abbrev pub last_or : Option ℕ → List NumberedRow → Option ℕ
last_or n [] = n
last_or n (p ∷ ps) = last_or (Some p.0) ps

-- the newest row that the slot may take and that was made on it; if there is none, the oldest that it may take
abbrev pub pick_of : Isolation → List Row → ℕ → Option ℕ
pick_of mode rows slot = last_or (first_of (eligible mode rows slot)) (filter (λ (p : NumberedRow). is_made_on slot p.1.made_on) (eligible mode rows slot))

abbrev pub pick : State → ℕ → Option ℕ
pick s slot = pick_of s.config.isolation s.rows slot

-- An unstarted row is dropped if its context is cancelled.
abbrev pub settled_row : Row → (is_cancelled : Bool) → Row
settled_row r is_cancelled = record r { phase = if is_unstarted r.phase && is_cancelled then Dropped else r.phase }

abbrev pub has_unstarted : State → Bool
has_unstarted s = list_any (λ (r : Row). is_unstarted r.phase) s.rows

abbrev pub settle : State → State
settle s = record s { rows = map (λ (p : NumberedRow). settled_row p.1 (is_context_cancelled s p.0)) (numbered_rows s.rows) }
