-- Worked examples: jobs, and what tenants are answered.
use Rattle.std.specs.Prelude.{ℕ, ◌≡◌, ℤ, pos, Bool, true, false, List, [], ◌∷◌, replicate, count_by}
use Rattle.job_language.specs.declared.errors.Error.TheVariants.{Busy, UnknownJob}
use Rattle.job_language.specs.declared.errors.JobFault.TheVariants.{Fuel, TooDeep}
use Rattle.job_language.specs.declared.instructions.Instr.{Instr}
use Rattle.job_language.specs.declared.instructions.Instr.TheVariants.{Add, Cancel, Isolate, Jz, Load, Lt, Mul, Post, Ret, Set, Spawn, Store, Sub, Wait}
use Rattle.job_language.specs.declared.jobs.Job.{Job}
use Rattle.job_language.specs.declared.requests.Request.TheVariants.{Submit, Execute, Poll, Collect, Cells, Retire, Release, Take}
use Rattle.job_language.specs.declared.answers.Reply.TheVariants as reply
use Rattle.job_language.specs.declared.answers.Status.TheVariants.{Complete, Fault}
use Rattle.job_language.specs.declared.answers.Came.TheVariants as came
use Rattle.job_language.specs.declared.answers.Moved.TheVariants.{Ran, Nested, Freed, Left, Idle}
use Rattle.job_language.specs.declared.answers.Answer.{Answer}
use Rattle.job_language.specs.declared.answers.Answer.TheVariants.{Replied, Came, Moved}
use Rattle.job_language.specs.declared.steps.Step.TheVariants.{Ask, Arrive, Advance}
use Rattle.job_language.specs.declared.tenants.Isolation.{Isolation}
use Rattle.job_language.specs.declared.tenants.Isolation.TheVariants.{Exact, Within}
use Rattle.job_language.specs.declared.tenants.Level.TheVariants.{Normal}
use Rattle.job_language.specs.declared.tenants.Tenant.{Tenant}
use Rattle.tenant_model.specs.State.{empty}
use Rattle.tenant_model.specs.Solo.{answers, after}

-- a tenant of `slots` slots, the first `reserved` of them reserved
abbrev pub tenant : (slots reserved : ℕ) → Isolation → Tenant
tenant slots reserved isolation = record {
  name = [];
  priority = Normal;
  isolation = isolation;
  slots = slots;
  reserved = reserved;
  rows = 200;
  steps = 10000;
}

abbrev pub worked_job : List (List Instr) → (x y : ℤ) → (fuel : ℕ) → Job
worked_job program x y fuel = record { program = program; args = x ∷ y ∷ []; fuel = fuel }

-- returns its first argument
abbrev pub first : Job
first = worked_job ((Ret 0 ∷ []) ∷ []) (pos 7) (pos 0) 10

-- the Fibonacci number of its argument, by two tasks for each number above 1
abbrev pub fib : Job
fib = worked_job (
    (Set 2 (pos 2) ∷ Lt 3 0 2 ∷ Jz 3 4 ∷ Ret 0 ∷ Set 2 (pos 1) ∷ Sub 3 0 2 ∷ Spawn 0 0 3 1 ∷ Sub 3 3 2 ∷ Spawn 0 0 3 1 ∷ Wait 4 5 0 ∷ Ret 4 ∷ []) ∷ []) (pos 6) (pos 0) 1000

-- stores 5 in its cell, waits for a task inside a region, and returns the cell
abbrev pub isolated : Job
isolated = worked_job (
    (Set 2 (pos 5) ∷ Store 0 2 ∷ Isolate 3 1 0 1 ∷ Load 5 0 ∷ Ret 5 ∷ []) ∷
    (Spawn 0 2 0 1 ∷ Wait 2 3 0 ∷ Ret 2 ∷ []) ∷
    (Ret 0 ∷ []) ∷ []) (pos 0) (pos 0) 1000

-- the same without the region
abbrev pub plain : Job
plain = worked_job (
    (Set 2 (pos 5) ∷ Store 0 2 ∷ Spawn 0 1 0 1 ∷ Wait 2 3 0 ∷ Load 5 0 ∷ Ret 5 ∷ []) ∷
    (Ret 0 ∷ []) ∷ []) (pos 0) (pos 0) 1000

-- stores 9 in its cell
abbrev pub nine : Job
nine = worked_job ((Set 2 (pos 9) ∷ Store 0 2 ∷ Ret 2 ∷ []) ∷ []) (pos 0) (pos 0) 1000

-- like the isolated one, with a post inside the region that stores 9
abbrev pub posted : Job
posted = worked_job (
    (Set 2 (pos 5) ∷ Store 0 2 ∷ Isolate 3 1 0 1 ∷ Load 5 0 ∷ Ret 5 ∷ []) ∷
    (Spawn 0 2 0 1 ∷ Post 3 0 1 ∷ Wait 2 3 0 ∷ Ret 2 ∷ []) ∷
    (Ret 0 ∷ []) ∷
    (Set 2 (pos 9) ∷ Store 0 2 ∷ Ret 2 ∷ []) ∷ []) (pos 0) (pos 0) 1000

-- like the isolated one, but the task of the region stores 9
abbrev pub stolen : Job
stolen = worked_job (
    (Set 2 (pos 5) ∷ Store 0 2 ∷ Isolate 3 1 0 1 ∷ Load 5 0 ∷ Ret 5 ∷ []) ∷
    (Spawn 0 2 0 1 ∷ Wait 2 3 0 ∷ Ret 2 ∷ []) ∷
    (Set 2 (pos 9) ∷ Store 0 2 ∷ Ret 2 ∷ []) ∷ []) (pos 0) (pos 0) 1000

-- cancels a group, spawns into it and waits twice: ten times the first status, and the second
abbrev pub cancel_then_wait : Job
cancel_then_wait = worked_job (
    (Cancel 0 ∷ Spawn 0 1 0 1 ∷ Wait 2 3 0 ∷ Wait 4 5 0 ∷ Set 6 (pos 10) ∷ Mul 3 3 6 ∷ Add 3 3 5 ∷ Add 3 3 2 ∷ Add 3 3 4 ∷ Ret 3 ∷ []) ∷
    (Ret 0 ∷ []) ∷ []) (pos 7) (pos 0) 1000

-- as many nested tasks as its first argument says
abbrev pub task_chain : Job
task_chain = worked_job (
    (Jz 0 6 ∷ Set 2 (pos 1) ∷ Sub 3 0 2 ∷ Spawn 0 0 3 1 ∷ Wait 4 5 0 ∷ Ret 4 ∷ Ret 1 ∷ []) ∷ []) (pos 127) (pos 7) 1000

-- a region, whose task on another slot makes a region of its own
abbrev pub nested : Job
nested = worked_job (
    (Isolate 2 1 0 1 ∷ Ret 2 ∷ []) ∷
    (Spawn 0 2 0 1 ∷ Wait 2 3 0 ∷ Ret 2 ∷ []) ∷
    (Isolate 2 3 0 1 ∷ Ret 2 ∷ []) ∷
    (Spawn 0 4 0 1 ∷ Wait 2 3 0 ∷ Ret 2 ∷ []) ∷
    (Set 2 (pos 9) ∷ Ret 2 ∷ []) ∷ []) (pos 0) (pos 0) 1000

abbrev pub is_nested : Answer → Bool
is_nested (Moved (Nested n)) = true
is_nested a = false

-- a tenant of one worker slot answers the first job
unfoldable pub FirstJobIsComplete : Type 0
FirstJobIsComplete =
    answers (empty (tenant 1 0 Exact)) (Ask (Submit first) ∷ Arrive 0 ∷ Advance 0 ∷ Ask (Poll 1) ∷ []) ≡
    Replied (reply.Made 1) ∷ Came (came.At 1) ∷ Moved Ran ∷ Replied (reply.Job 1 (Complete (pos 7))) ∷ []

-- an isolated waiter does not run the job that would overwrite its cell
unfoldable pub IsolatedWaiterKeepsItsCell : Type 0
IsolatedWaiterKeepsItsCell =
    answers (empty (tenant 2 1 Exact)) (Ask (Execute isolated) ∷ Advance 0 ∷ Advance 0 ∷ Advance 0 ∷
    Arrive 1 ∷ Ask (Submit nine) ∷ Advance 0 ∷ Advance 1 ∷ Advance 0 ∷ Advance 0 ∷ Advance 0 ∷ Advance 0 ∷
    Ask (Collect 1) ∷ []) ≡
    Replied (reply.Placed 1 0) ∷ Moved Ran ∷ Moved Ran ∷ Moved Ran ∷ Came (came.At 3) ∷
    Replied (reply.Made 2) ∷ Moved Idle ∷ Moved Ran ∷ Moved Ran ∷ Moved Ran ∷ Moved Ran ∷ Moved Freed ∷
    Replied (reply.Job 1 (Complete (pos 5))) ∷ []

-- nor if waiters may also take the rows of inner regions
unfoldable pub IsolatedWaiterKeepsItsCellWithin : Type 0
IsolatedWaiterKeepsItsCellWithin =
    answers (empty (tenant 2 1 Within)) (Ask (Execute isolated) ∷ Advance 0 ∷ Advance 0 ∷ Advance 0 ∷
    Arrive 1 ∷ Ask (Submit nine) ∷ Advance 0 ∷ Advance 1 ∷ Advance 0 ∷ Advance 0 ∷ Advance 0 ∷ Advance 0 ∷
    Ask (Collect 1) ∷ []) ≡
    Replied (reply.Placed 1 0) ∷ Moved Ran ∷ Moved Ran ∷ Moved Ran ∷ Came (came.At 3) ∷
    Replied (reply.Made 2) ∷ Moved Idle ∷ Moved Ran ∷ Moved Ran ∷ Moved Ran ∷ Moved Ran ∷ Moved Freed ∷
    Replied (reply.Job 1 (Complete (pos 5))) ∷ []

-- a waiter outside all regions may run it
unfoldable pub PlainWaiterMayLoseItsCell : Type 0
PlainWaiterMayLoseItsCell =
    answers (empty (tenant 2 1 Exact)) (Ask (Execute plain) ∷ Advance 0 ∷ Advance 0 ∷ Arrive 1 ∷
    Ask (Submit nine) ∷ Advance 0 ∷ Advance 0 ∷ Advance 0 ∷ Advance 1 ∷ Advance 0 ∷ Advance 0 ∷
    Advance 0 ∷ Ask (Collect 1) ∷ []) ≡
    Replied (reply.Placed 1 0) ∷ Moved Ran ∷ Moved Ran ∷ Came (came.At 2) ∷ Replied (reply.Made 2) ∷
    Moved (Nested 3) ∷ Moved Ran ∷ Moved Ran ∷ Moved Ran ∷ Moved Ran ∷ Moved Ran ∷ Moved Freed ∷
    Replied (reply.Job 1 (Complete (pos 9))) ∷ []

-- a post belongs to no region
unfoldable pub PostLeavesItsRegion : Type 0
PostLeavesItsRegion =
    answers (empty (tenant 2 1 Exact)) (Ask (Execute posted) ∷ Advance 0 ∷ Advance 0 ∷ Advance 0 ∷ Arrive 1 ∷
    Advance 0 ∷ Advance 0 ∷ Advance 1 ∷ Advance 0 ∷ Advance 0 ∷ Advance 0 ∷ Advance 0 ∷ Ask (Collect 1) ∷
    Advance 1 ∷ Advance 1 ∷ Advance 1 ∷ Ask (Collect 1) ∷ Advance 1 ∷ Ask (Cells 0) ∷ []) ≡
    Replied (reply.Placed 1 0) ∷ Moved Ran ∷ Moved Ran ∷ Moved Ran ∷ Came (came.At 3) ∷ Moved Ran ∷
    Moved Idle ∷ Moved Ran ∷ Moved Ran ∷ Moved Ran ∷ Moved Ran ∷ Moved Freed ∷ Replied (reply.Pending) ∷
    Moved (Nested 4) ∷ Moved Ran ∷ Moved Ran ∷ Replied (reply.Job 1 (Complete (pos 5))) ∷ Moved Left ∷
    Replied (reply.Cells 0 2 (pos 14)) ∷ []

-- a task of the region that another slot runs stores there
unfoldable pub StolenTaskKeepsItsRegion : Type 0
StolenTaskKeepsItsRegion =
    answers (empty (tenant 2 1 Exact)) (Ask (Execute stolen) ∷ Advance 0 ∷ Advance 0 ∷ Advance 0 ∷ Arrive 1 ∷
    Advance 1 ∷ Advance 1 ∷ Advance 0 ∷ Advance 0 ∷ Advance 0 ∷ Advance 0 ∷ Ask (Collect 1) ∷
    Ask (Cells 0) ∷ []) ≡
    Replied (reply.Placed 1 0) ∷ Moved Ran ∷ Moved Ran ∷ Moved Ran ∷ Came (came.At 3) ∷ Moved Ran ∷
    Moved Ran ∷ Moved Ran ∷ Moved Ran ∷ Moved Ran ∷ Moved Freed ∷
    Replied (reply.Job 1 (Complete (pos 5))) ∷ Replied (reply.Cells 0 2 (pos 14)) ∷ []

-- the sixth Fibonacci number takes 85 advances of one slot
unfoldable pub FibTakes85Advances : Type 0
FibTakes85Advances =
    answers (after (empty (tenant 1 1 Exact)) (Ask (Execute fib) ∷ replicate 84 (Advance 0))) (Advance 0 ∷
    Ask (Collect 1) ∷ []) ≡ Moved Freed ∷ Replied (reply.Job 1 (Complete (pos 8))) ∷ []

-- of which 24 nest
unfoldable pub FibNests24Times : Type 0
FibNests24Times =
    count_by is_nested (answers (after (empty (tenant 1 0 Exact)) (Ask (Submit fib) ∷ Arrive 0 ∷
    [])) (replicate 85 (Advance 0))) ≡ 24

-- it is complete with fuel 172
unfoldable pub FibCosts172 : Type 0
FibCosts172 =
    answers (after (empty (tenant 1 1 Exact)) (Ask (Execute (record fib { fuel = 172 })) ∷
    replicate 85 (Advance 0))) (Ask (Collect 1) ∷ []) ≡ Replied (reply.Job 1 (Complete (pos 8))) ∷ []

-- and not with 171
unfoldable pub FibNeeds172 : Type 0
FibNeeds172 =
    answers (after (empty (tenant 1 1 Exact)) (Ask (Execute (record fib { fuel = 171 })) ∷
    replicate 85 (Advance 0))) (Ask (Collect 1) ∷ []) ≡ Replied (reply.Job 1 (Fault Fuel)) ∷ []

-- the first wait reports the cancel, the second does not
unfoldable pub CancelledGroupTellsOnce : Type 0
CancelledGroupTellsOnce =
    answers (after (empty (tenant 1 1 Exact)) (Ask (Execute cancel_then_wait) ∷
    replicate 5 (Advance 0))) (Ask (Collect 1) ∷ []) ≡ Replied (reply.Job 1 (Complete (pos 21))) ∷ []

-- a chain of 127 tasks below the root fills the stack of a slot
unfoldable pub ChainReachesHeight128 : Type 0
ChainReachesHeight128 =
    answers (after (empty (tenant 1 1 Exact)) (Ask (Execute task_chain) ∷
    replicate 509 (Advance 0))) (Ask (Collect 1) ∷ []) ≡ Replied (reply.Job 1 (Complete (pos 7))) ∷ []

-- and one more does not fit
unfoldable pub ChainIsTooDeep : Type 0
ChainIsTooDeep =
    answers (after (empty (tenant 1 1 Exact)) (Ask (Execute (record task_chain { args = pos 128 ∷ pos 7 ∷ [] })) ∷
    replicate 510 (Advance 0))) (Ask (Collect 1) ∷ []) ≡ Replied (reply.Job 1 (Fault TooDeep)) ∷ []

-- a waiter leaves the row of an inner region
unfoldable pub WaiterLeavesInnerRegion : Type 0
WaiterLeavesInnerRegion =
    answers (empty (tenant 2 0 Exact)) (Ask (Submit nested) ∷ Arrive 0 ∷ Advance 0 ∷ Advance 0 ∷ Arrive 1 ∷
    Advance 1 ∷ Advance 1 ∷ Advance 0 ∷ []) ≡
    Replied (reply.Made 1) ∷ Came (came.At 1) ∷ Moved Ran ∷ Moved Ran ∷ Came (came.At 3) ∷ Moved Ran ∷
    Moved Ran ∷ Moved Idle ∷ []

-- or takes it, if the tenant's isolation allows it
unfoldable pub WaiterTakesInnerRegion : Type 0
WaiterTakesInnerRegion =
    answers (empty (tenant 2 0 Within)) (Ask (Submit nested) ∷ Arrive 0 ∷ Advance 0 ∷ Advance 0 ∷ Arrive 1 ∷
    Advance 1 ∷ Advance 1 ∷ Advance 0 ∷ Advance 0 ∷ Advance 1 ∷ Advance 1 ∷ Advance 1 ∷ Advance 0 ∷
    Advance 0 ∷ Advance 0 ∷ Ask (Poll 1) ∷ []) ≡
    Replied (reply.Made 1) ∷ Came (came.At 1) ∷ Moved Ran ∷ Moved Ran ∷ Came (came.At 3) ∷ Moved Ran ∷
    Moved Ran ∷ Moved (Nested 5) ∷ Moved Ran ∷ Moved Ran ∷ Moved Ran ∷ Moved Ran ∷ Moved Ran ∷ Moved Ran ∷
    Moved Ran ∷ Replied (reply.Job 1 (Complete (pos 9))) ∷ []

-- retired jobs and their cells are gone
unfoldable pub RetiredJobIsForgotten : Type 0
RetiredJobIsForgotten =
    answers (empty (tenant 1 0 Exact)) (Ask (Submit nine) ∷ Arrive 0 ∷ Ask (Retire) ∷ Advance 0 ∷ Advance 0 ∷
    Ask (Cells 0) ∷ Ask (Retire) ∷ Ask (Poll 1) ∷ Ask (Cells 0) ∷ Ask (Submit first) ∷ Ask (Retire) ∷
    Advance 0 ∷ Advance 0 ∷ Ask (Poll 2) ∷ Ask (Retire) ∷ []) ≡
    Replied (reply.Made 1) ∷ Came (came.At 1) ∷ Replied (reply.Refused Busy) ∷ Moved Ran ∷ Moved Ran ∷
    Replied (reply.Cells 0 1 (pos 9)) ∷ Replied (reply.Epoch 1) ∷ Replied (reply.Refused UnknownJob) ∷
    Replied (reply.Cells 0 0 (pos 0)) ∷ Replied (reply.Made 2) ∷ Replied (reply.Refused Busy) ∷
    Moved (Nested 2) ∷ Moved Ran ∷ Replied (reply.Job 2 (Complete (pos 7))) ∷ Replied (reply.Epoch 2) ∷
    []

-- a job is released by itself, or with its outcome, and its cells stay
unfoldable pub ReleasedJobIsForgotten : Type 0
ReleasedJobIsForgotten =
    answers (empty (tenant 1 0 Exact)) (Ask (Submit nine) ∷ Ask (Release 1) ∷ Ask (Take 1) ∷ Arrive 0 ∷ Advance 0 ∷ Advance 0 ∷
    Ask (Release 1) ∷ Ask (Poll 1) ∷ Ask (Release 1) ∷ Ask (Cells 0) ∷ Ask (Submit first) ∷ Advance 0 ∷ Advance 0 ∷
    Ask (Take 2) ∷ Ask (Collect 2) ∷ Ask (Retire) ∷ []) ≡
    Replied (reply.Made 1) ∷ Replied (reply.Refused Busy) ∷ Replied reply.Pending ∷ Came (came.At 1) ∷ Moved Ran ∷ Moved Ran ∷
    Replied (reply.Released 1) ∷ Replied (reply.Refused UnknownJob) ∷ Replied (reply.Refused UnknownJob) ∷
    Replied (reply.Cells 0 1 (pos 9)) ∷ Replied (reply.Made 2) ∷ Moved (Nested 2) ∷ Moved Ran ∷
    Replied (reply.Job 2 (Complete (pos 7))) ∷ Replied (reply.Refused UnknownJob) ∷ Replied (reply.Epoch 1) ∷
    []
