-- What a dump's lines are has no float, and does not nest deeply.
use Rattle.std.proofs.Common.{◌≡◌, ℕ, ◌≤◌, suc, max, List, [], ◌∷◌, map, ℤ, pos, refl, sym, subst, arith, Option, Some, None, option_map}
use Rattle.std.specs.Prelude.{Bool, true, false, ◌||◌, IfSome, negsuc, codes, if◌then◌else◌}
use Rattle.serde_json.specs.Data.{Data, string, array, object, Items, item, Members, member, no_members, depth, items_depth, members_depth}
use Rattle.serde_json.specs.Read.{max_depth}
use Rattle.serde_json.specs.View.{view, items_of}
use Rattle.serde_json.specs.declared.value.Value.{Value}
use Rattle.serde_json.specs.Written.{has_float, items_have_float, members_have_float}
use Rattle.job_language.specs.declared.answers.Answer.TheVariants as answer
use Rattle.job_language.specs.declared.answers.Answer.{Answer}
use Rattle.job_language.specs.declared.answers.Came.TheVariants.{At, Nothing, Full}
use Rattle.job_language.specs.declared.answers.Moved.{Moved}
use Rattle.job_language.specs.declared.answers.Moved.TheVariants as moved
use Rattle.job_language.specs.declared.answers.Reply.{Reply}
use Rattle.job_language.specs.declared.answers.Reply.TheVariants as reply
use Rattle.job_language.specs.declared.answers.Status.{Status}
use Rattle.job_language.specs.declared.answers.Status.TheVariants.{Running, Cancelled, Complete, Fault}
use Rattle.job_language.specs.declared.instructions.Instr.{Instr}
use Rattle.job_language.specs.declared.jobs.Job.{Job}
use Rattle.job_language.specs.declared.requests.Request.{Request}
use Rattle.job_language.specs.declared.requests.Request.TheVariants as request
use Rattle.job_language.specs.declared.steps.Entry.{Entry}
use Rattle.job_language.specs.declared.steps.Step.{Step}
use Rattle.job_language.specs.declared.steps.Step.TheVariants as step
use Rattle.job_language.specs.declared.tenants.Isolation.{Isolation}
use Rattle.job_language.specs.declared.tenants.Isolation.TheVariants.{Exact, Within}
use Rattle.job_language.specs.declared.tenants.Tenant.{Tenant}
use Rattle.job_language.specs.Recorded.{is_entry}
use Rattle.job_json.specs.TenantData.{with_isolation}
use Rattle.dump_lines.specs.Written.{request_data, status_data, reply_data, job_request, ask_data, advance_data, step_data, entry_data, first_data}
use Rattle.job_json.specs.JobData.{array_of, number_data, instr_data, proc_data, program_data, job_data}

-- No part is a float, and it nests so deep at most.
pub record IsPlain (n : ℕ) (d : Data) : Type 0 where
  pub whole : has_float d ≡ false
  pub shallow : depth d ≤ n

pub record ArePlain (n : ℕ) (ds : Items) : Type 0 where
  pub whole : items_have_float ds ≡ false
  pub shallow : items_depth ds ≤ n

pub record HasPlain (n : ℕ) (ms : Members) : Type 0 where
  pub whole : members_have_float ms ≡ false
  pub shallow : members_depth ms ≤ n

leaf : (n : ℕ) (d : Data) → has_float d ≡ false → depth d ≤ n → IsPlain n d
leaf n d a b = record { whole = a; shallow = b }

max_least : (x y n : ℕ) → x ≤ n → y ≤ n → max x y ≤ n
max_least x y n a b = omega (arith, a, b)

neither : (x y : Bool) → x ≡ false → y ≡ false → (x || y) ≡ false
neither x y a b = rw (a, b) refl

one_more : (n : ℕ) (name : List ℕ) (d : Data) (ms : Members) → IsPlain n d → HasPlain n ms → HasPlain n (member name d ms)
one_more n name d ms p q = record { whole = neither (has_float d) (members_have_float ms) p.whole q.whole; shallow = max_least (depth d) (members_depth ms) n p.shallow q.shallow }

as_object : (n : ℕ) (ms : Members) → HasPlain n ms → IsPlain (suc n) (object ms)
as_object n ms p = leaf (suc n) (object ms) p.whole (omega (arith, p.shallow))

one_item : (n : ℕ) (d : Data) (ds : Items) → IsPlain n d → ArePlain n ds → ArePlain n (item d ds)
one_item n d ds p q = record { whole = neither (has_float d) (items_have_float ds) p.whole q.whole; shallow = max_least (depth d) (items_depth ds) n p.shallow q.shallow }

mapped : {A : Type 0} (n : ℕ) (f : A → Data) → ((x : A) → IsPlain n (f x)) → (xs : List A) → ArePlain n (items_of (map f xs))
mapped n f each [] = record { whole = refl; shallow = omega arith }
mapped n f each (x ∷ xs) = one_item n (f x) (items_of (map f xs)) (each x) (mapped n f each xs)

as_array : (n : ℕ) (ds : Items) → ArePlain n ds → IsPlain (suc n) (array ds)
as_array n ds p = leaf (suc n) (array ds) p.whole (omega (arith, p.shallow))

number_plain : (n : ℕ) (z : ℤ) → IsPlain n (number_data z)
number_plain n (pos k) = leaf _ _ refl (omega arith)
number_plain n (negsuc k) = leaf _ _ refl (omega arith)

string_plain : (n : ℕ) (text : List ℕ) → IsPlain n (string text)
string_plain n text = leaf _ _ refl (omega arith)

instr_plain : (i : Instr) → IsPlain 1 (instr_data i)
instr_plain i = as_array 0 _ (one_item 0 _ _ (string_plain 0 _) (mapped 0 number_data (number_plain 0) _))

proc_plain : (is : List Instr) → IsPlain 2 (proc_data is)
proc_plain is = as_array 1 _ (mapped 1 instr_data instr_plain is)

program_plain : (ps : List (List Instr)) → IsPlain 3 (program_data ps)
program_plain ps = as_array 2 _ (mapped 2 proc_data proc_plain ps)

deeper : (n m : ℕ) (d : Data) → n ≤ m → IsPlain n d → IsPlain m d
deeper n m d more p = leaf m d p.whole (omega (arith, more, p.shallow))

no_more : (n : ℕ) → HasPlain n no_members
no_more n = record { whole = refl; shallow = omega arith }

job_plain : (j : Job) → IsPlain 4 (job_data j)
job_plain j =
    let args : IsPlain 3 (array_of (map number_data j.args)) = deeper 1 3 _ (omega arith) (as_array 0 _ (mapped 0 number_data (number_plain 0) j.args)) in
    as_object 3 _ (one_more 3 _ _ _ args (one_more 3 _ _ _ (leaf _ _ refl (omega arith)) (one_more 3 _ _ _ (program_plain j.program) (no_more 3))))

asked_plain : (op : List ℕ) (job : Data) → IsPlain 4 job → IsPlain 5 (job_request op job)
asked_plain op job p = as_object 4 _ (one_more 4 _ _ _ p (one_more 4 _ _ _ (string_plain 4 op) (no_more 4)))

request_plain : (r : Request) → IfSome (request_data r) (IsPlain 5)
request_plain (request.Hello name) = tt
request_plain (request.Submit job) = asked_plain (codes "submit") _ (job_plain job)
request_plain (request.Execute job) = asked_plain (codes "execute") _ (job_plain job)
request_plain (request.Poll job) = leaf _ _ refl (omega arith)
request_plain (request.Collect job) = leaf _ _ refl (omega arith)
request_plain (request.Cancel job) = leaf _ _ refl (omega arith)
request_plain (request.Cells key) = leaf _ _ refl (omega arith)
request_plain request.Arena = leaf _ _ refl (omega arith)
request_plain request.Retire = leaf _ _ refl (omega arith)
request_plain (request.Release job) = leaf _ _ refl (omega arith)
request_plain (request.Take job) = leaf _ _ refl (omega arith)

status_plain : (job : ℕ) (s : Status) → IsPlain 5 (status_data job s)
status_plain job Running = leaf _ _ refl (omega arith)
status_plain job Cancelled = leaf _ _ refl (omega arith)
status_plain job (Complete value) =
    as_object 4 _ (one_more 4 _ _ _ (leaf _ _ refl (omega arith)) (one_more 4 _ _ _ (leaf _ _ refl (omega arith)) (one_more 4 _ _ _ (number_plain 4 value) (no_more 4))))
status_plain job (Fault fault) = leaf _ _ refl (omega arith)

reply_plain : (r : Reply) → IsPlain 5 (reply_data r)
reply_plain (reply.Bound name) = leaf _ _ refl (omega arith)
reply_plain (reply.Made job) = leaf _ _ refl (omega arith)
reply_plain (reply.Placed job slot) = leaf _ _ refl (omega arith)
reply_plain (reply.Job job status) = status_plain job status
reply_plain (reply.Cancelled job first) = leaf _ _ refl (omega arith)
reply_plain (reply.Cells key count sum) =
    as_object 4 _ (one_more 4 _ _ _ (leaf _ _ refl (omega arith)) (one_more 4 _ _ _ (leaf _ _ refl (omega arith)) (one_more 4 _ _ _ (number_plain 4 sum) (no_more 4))))
reply_plain (reply.Arena level reserved slots) = leaf _ _ refl (omega arith)
reply_plain (reply.Epoch epoch) = leaf _ _ refl (omega arith)
reply_plain (reply.Released job) = leaf _ _ refl (omega arith)
reply_plain (reply.Refused error) = leaf _ _ refl (omega arith)
reply_plain reply.Pending = leaf _ _ refl (omega arith)

ask_plain : (answered : Data) (asked : Option Data) → IsPlain 5 answered → IfSome asked (IsPlain 5) → IfSome (option_map (ask_data answered) asked) (IsPlain 6)
ask_plain answered None p q = tt
ask_plain answered (Some d) p q = as_object 5 _ (one_more 5 _ _ _ p (one_more 5 _ _ _ q (one_more 5 _ _ _ (string_plain 5 _) (no_more 5))))

advance_plain : (slot : ℕ) (m : Moved) → IfSome (advance_data slot m) (IsPlain 6)
advance_plain slot moved.Ran = leaf _ _ refl (omega arith)
advance_plain slot moved.Freed = leaf _ _ refl (omega arith)
advance_plain slot (moved.Nested row) = leaf _ _ refl (omega arith)
advance_plain slot moved.Left = tt
advance_plain slot moved.Idle = tt
advance_plain slot moved.Stale = tt
advance_plain slot moved.Full = tt

step_plain : (s : Step) (a : Answer) → IfSome (step_data s a) (IsPlain 6)
step_plain (step.Ask r) (answer.Replied reply) = ask_plain (reply_data reply) (request_data r) (reply_plain reply) (request_plain r)
step_plain (step.Ask r) (answer.Came came) = tt
step_plain (step.Ask r) (answer.Moved m) = tt
step_plain (step.Arrive slot) (answer.Came (At row)) = leaf _ _ refl (omega arith)
step_plain (step.Arrive slot) (answer.Came Nothing) = tt
step_plain (step.Arrive slot) (answer.Came Full) = tt
step_plain (step.Arrive slot) (answer.Replied reply) = tt
step_plain (step.Arrive slot) (answer.Moved m) = tt
step_plain (step.Advance slot) (answer.Moved m) = advance_plain slot m
step_plain (step.Advance slot) (answer.Replied reply) = tt
step_plain (step.Advance slot) (answer.Came came) = tt

recorded_plain : (b : Bool) (d : Option Data) → IfSome d (IsPlain 6) → IfSome (if b then d else None) (IsPlain 6)
recorded_plain true d p = p
recorded_plain false d p = tt

pub entry_plain : (e : Entry) → IfSome (entry_data e) (IsPlain 6)
entry_plain e = recorded_plain (is_entry e.answer) (step_data e.step e.answer) (step_plain e.step e.answer)

mode_plain : (i : Isolation) (ms : Members) → HasPlain 0 ms → IsPlain 1 (object (with_isolation i ms))
mode_plain Exact ms p = as_object 0 ms p
mode_plain Within ms p = as_object 0 _ (one_more 0 _ _ _ (string_plain 0 _) p)

pub first_plain : (t : Tenant) → IsPlain 2 (first_data t)
first_plain t = as_object 1 _ (one_more 1 _ _ _ (mode_plain t.isolation _ (record { whole = refl; shallow = omega arith })) (no_more 1))

-- A value that can be written, and read back.
abbrev pub IsWritable : Data → Type 0
IsWritable d = (has_float d ≡ false) × (depth d ≤ max_depth)

writable : (n : ℕ) (d : Data) → n ≤ max_depth → IsPlain n d → IsWritable d
writable n d few p = (p.whole, omega (arith, few, p.shallow))

pub entry_writable : (e : Entry) (o : Option Value) (v : Value) → o ≡ Some v → option_map view o ≡ entry_data e → IsWritable (view v)
entry_writable e o v some is =
    let plain : IfSome (option_map view o) (IsPlain 6) = subst (λ d. IfSome d (IsPlain 6)) (sym is) (entry_plain e) in
    writable 6 (view v) (omega arith) (subst (λ it. IfSome (option_map view it) (IsPlain 6)) some plain)

pub first_writable : (t : Tenant) (v : Value) → view v ≡ first_data t → IsWritable (view v)
first_writable t v is = writable 2 (view v) (omega arith) (subst (IsPlain 2) (sym is) (first_plain t))
