-- No step leaves a row stuck.
use Rattle.std.proofs.Common.{◌≡◌, ℕ, zero, suc, ◌+◌, ◌==◌, ◌<◌, ◌≤◌, List, [], ◌∷◌, length, Option, Some, None, Bool, true, false, ◌&&◌, ◌||◌, nat_lt, refl, ap, arith, ℤ, map}
use Rattle.std.specs.Prelude.{if◌then◌else◌, nat_le, not, slice_set, All, is_some, option_and_then}
use Rattle.std.proofs.lemmas.Option.{slice_get_within}
use Rattle.std.specs.List.{list_any}
use Rattle.std.specs.Option.{option_map_or}
use Rattle.std.proofs.lemmas.Bool.{cond_both}
use Rattle.job_language.specs.Brought.{BringsValid}
use Rattle.job_language.specs.Program.{IsValidProgram, Calls, is_last}
use Rattle.job_language.specs.declared.errors.JobFault.{JobFault}
use Rattle.job_language.specs.declared.errors.JobFault.TheVariants as fault
use Rattle.job_language.specs.declared.instructions.Instr.{Instr}
use Rattle.job_language.specs.declared.instructions.Instr.TheVariants.{Set, Add, Sub, Mul, Div, Lt, Rem, And, Or, Xor, Shl, Shr, Eq, Le, Jz, Jmp, Slot, Width, Spawn, Post, Wait, Cancel, Ask, Isolate}
use Rattle.job_language.specs.declared.instructions.Instr.TheVariants.{Load, Store, Sum, Count, Ret}
use Rattle.job_language.specs.declared.jobs.Job.{Job}
use Rattle.job_language.specs.declared.requests.Request.{Request}
use Rattle.job_language.specs.declared.requests.Request.TheVariants as request
use Rattle.job_language.specs.declared.answers.Reply.{Reply}
use Rattle.job_language.specs.declared.answers.Moved.{Moved}
use Rattle.job_language.specs.declared.answers.Came.{Came}
use Rattle.job_language.specs.declared.answers.Status.{Status}
use Rattle.job_language.specs.declared.answers.Status.TheVariants as status
use Rattle.job_language.specs.declared.steps.Step.{Step}
use Rattle.job_language.specs.declared.steps.Step.TheVariants as steps
use Rattle.job_language.specs.declared.tenants.Tenant.{Tenant}
use Rattle.job_step.specs.declared.frames.Frame.{Frame}
use Rattle.job_step.specs.Frame.{register, write_and_step, instr_at}
use Rattle.job_step.specs.declared.runs.Stop.{Stop}
use Rattle.job_step.specs.declared.runs.Stop.TheVariants.{Shared, Yield, Fault}
use Rattle.tenant_model.specs.declared.rows.Kind.{Kind}
use Rattle.tenant_model.specs.declared.rows.Kind.TheVariants.{Root, Posted, Spawned, Region}
use Rattle.tenant_model.specs.declared.rows.Phase.{Phase}
use Rattle.tenant_model.specs.declared.rows.Phase.TheVariants.{Unstarted, Live, Done}
use Rattle.tenant_model.specs.declared.rows.Row.{Row}
use Rattle.tenant_model.specs.declared.rows.TheConstants.{MAX_HEIGHT}
use Rattle.tenant_model.specs.declared.works.Work.{Work}
use Rattle.tenant_model.specs.declared.works.TheConstants.{MAX_JOBS}
use Rattle.tenant_model.specs.State.{State, row, job, at_number, with_at_number, empty}
use Rattle.tenant_model.specs.Walks.{mark, total, is_open, is_job_cancelled, height, top, pick}
use Rattle.tenant_model.specs.Changes.{on_row, new_row, add_row, is_row_limit_met, is_full, with_frame, nest, with_cells, finish_step, faults, task_height, faulted_row, first_fault}
use Rattle.thread_cells.specs.Cells.{Table, no_cells}
use Rattle.tenant_model.specs.Shared.{next_place, called_frame, group_status, execute, has_used_group, handed_frame, hand_to, hand_back}
use Rattle.tenant_model.specs.Advance.{begin, nest_pick, is_poor, with_fuel, pay, move_on, is_blocked, after_run, is_idle_wait, run_on, advance_run, advance_top, would_be_recorded, advance, arrive_at}
use Rattle.tenant_model.specs.Advance.{is_open_to_workers, arrive}
use Rattle.tenant_model.specs.Asks.{ask, free_slot, unless_limit, submit_placed, collect, cancel_by_request, retire, retired_work, released, reply_to, is_hello, known_job, has_outcome, current_jobs}
use Rattle.tenant_model.specs.Solo.{step, after}
use Rattle.tenant_model.specs.Linked.{IsLinked}
use Rattle.tenant_model.specs.WellFormed.{IsWellFormed}
use Rattle.tenant_model.specs.Naming.{Stands, IsUnstuck, StepBringsValid}
use Rattle.tenant_model.proofs.Changed.{at_number-with_same, length-with}
use Rattle.tenant_model.proofs.Linked.{IsLinked-set, IsLinked-more_jobs}
use Rattle.tenant_model.proofs.Picks.{top_is, pick_is}
use Rattle.tenant_model.proofs.Standing.{standing, in_range, stands_at, stands_next, stands_new, run_ends, EndsWell}
use Rattle.tenant_model.proofs.Unstuck.{program_of, entry_unstuck, on_job_unstuck, on_row_unstuck, add_row_unstuck, faulted_unstuck, add_job_unstuck, retired_unstuck}
use Rattle.tenant_model.proofs.KeptAdvances.{step_kept}

abbrev Keeps : Moved × State → Type 0
Keeps r = IsUnstuck r.1

either : (b : Bool) (r q : Moved × State) → (b ≡ true → Keeps r) → (b ≡ false → Keeps q) → Keeps (if b then r else q)
either b r q if_true if_false = cond_both b r q Keeps if_true if_false

-- row n is there, with its job
record IsThere (s : State) (n : ℕ) : Type 0 where
  from : 1 ≤ n
  to : n ≤ length s.rows
  linked : IsLinked s

module _ (s : State) (n : ℕ) (there : IsThere s n) (is : IsUnstuck s) where
  valid_program : IsValidProgram (program_of s n)
  valid_program = let job = there.linked.jobs n there.from there.to in is.programs (row s.rows n).job job.0 job.1

  faults_unstuck : (slot : ℕ) (f : JobFault) → Keeps (faults slot (row s.rows n).job f s)
  faults_unstuck slot f =
      let job = there.linked.jobs n there.from there.to in
      entry_unstuck _ (on_job_unstuck (record s { rows = map (faulted_row slot (task_height s.rows slot)) s.rows }) (row s.rows n).job (λ w. record w { fault = first_fault w.fault f }) job.0 job.1
      refl (faulted_unstuck s slot (task_height s.rows slot) is))

  set_unstuck : (f : Row → Row) → (f (row s.rows n)).job ≡ (row s.rows n).job → Stands (program_of s n) (f (row s.rows n)).frame → IsUnstuck (on_row s n f)
  set_unstuck f same stands = on_row_unstuck s n f there.from there.to same stands is

  moved_unstuck : (f : Frame) → Stands (program_of s n) f → IsUnstuck (with_frame s n f)
  moved_unstuck f stands = set_unstuck (λ r. record r { frame = f }) refl stands

  limited_unstuck : (slot : ℕ) (r : Moved × State) → Keeps r → Keeps (if is_row_limit_met s then faults slot (row s.rows n).job fault.TaskLimit s else r)
  limited_unstuck slot r made = either (is_row_limit_met s) _ r (λ _. faults_unstuck slot fault.TaskLimit) (λ _. made)

  -- the frame f of row n stands at instruction i
  module _ (slot : ℕ) (f : Frame) (i : Instr) (stands : Stands (program_of s n) f) (at : instr_at (program_of s n) f ≡ Some i) where
    followed : is_last i ≡ false → (d : ℕ) (v : ℤ) → Stands (program_of s n) (write_and_step f d v)
    followed goes_on d v = stands_next (program_of s n) valid_program f i d v stands at goes_on

    next_stands : is_last i ≡ false → Stands (program_of s n) (next_place f)
    next_stands goes_on = stands_at (program_of s n) valid_program f (f.place + 1) stands ((in_range (program_of s n) valid_program f i stands at).2 goes_on)

-- a frame that was handed a value
handed_stands : (procs : List (List Instr)) → IsValidProgram procs → (f : Frame) (i : Instr) (v : ℤ) → Stands procs f → instr_at procs f ≡ Some i → Stands procs (handed_frame (Some i) v f)
handed_stands procs valid f (Isolate d p a b) v stands at = stands_next procs valid f (Isolate d p a b) d v stands at refl
handed_stands procs valid f (Set d x) v stands at = stands
handed_stands procs valid f (Add d a b) v stands at = stands
handed_stands procs valid f (Sub d a b) v stands at = stands
handed_stands procs valid f (Mul d a b) v stands at = stands
handed_stands procs valid f (Div d a b) v stands at = stands
handed_stands procs valid f (Lt d a b) v stands at = stands
handed_stands procs valid f (Rem d a b) v stands at = stands
handed_stands procs valid f (And d a b) v stands at = stands
handed_stands procs valid f (Or d a b) v stands at = stands
handed_stands procs valid f (Xor d a b) v stands at = stands
handed_stands procs valid f (Shl d a b) v stands at = stands
handed_stands procs valid f (Shr d a b) v stands at = stands
handed_stands procs valid f (Eq d a b) v stands at = stands
handed_stands procs valid f (Le d a b) v stands at = stands
handed_stands procs valid f (Jz a t) v stands at = stands
handed_stands procs valid f (Jmp t) v stands at = stands
handed_stands procs valid f (Slot d) v stands at = stands
handed_stands procs valid f (Width d) v stands at = stands
handed_stands procs valid f (Spawn g p a b) v stands at = stands
handed_stands procs valid f (Post p a b) v stands at = stands
handed_stands procs valid f (Wait d e g) v stands at = stands
handed_stands procs valid f (Cancel g) v stands at = stands
handed_stands procs valid f (Ask d) v stands at = stands
handed_stands procs valid f (Load d k) v stands at = stands
handed_stands procs valid f (Store k a) v stands at = stands
handed_stands procs valid f (Sum d k) v stands at = stands
handed_stands procs valid f (Count d k) v stands at = stands
handed_stands procs valid f (Ret a) v stands at = stands

handed_to : (t : State) (m : ℕ) (v : ℤ) → IsThere t m → IsUnstuck t → IsUnstuck (hand_to t m v)
handed_to t m v there is =
    let procs = program_of t m in
    let valid = valid_program t m there is in
    let f = (row t.rows m).frame in
    let stands = is.frames m there.from there.to in
    let its = standing procs valid f stands in
    let goes : Stands procs (handed_frame (instr_at procs f) v f) = rw its.1 (handed_stands procs valid f its.0 v stands its.1) in
    set_unstuck t m there is (λ r. record r { frame = handed_frame (instr_at (job t.jobs r.job).program r.frame) v r.frame }) refl goes

module _ (s : State) (n : ℕ) (there : IsThere s n) (is : IsUnstuck s) where
  ended : (f : Frame) (v : ℤ) → Stands (program_of s n) f → IsUnstuck (on_row s n (λ r. record r { frame = f; phase = Done v }))
  ended f v stands = set_unstuck s n there is (λ r. record r { frame = f; phase = Done v }) refl stands

  handed_unstuck : (f : Frame) (v : ℤ) (k : Kind) → (row s.rows n).kind ≡ k → Stands (program_of s n) f → IsUnstuck (hand_back (on_row s n (λ r. record r { frame = f; phase = Done v })) k v)
  handed_unstuck f v Root kind stands = ended f v stands
  handed_unstuck f v Posted kind stands = ended f v stands
  handed_unstuck f v (Spawned m g) kind stands = ended f v stands
  handed_unstuck f v (Region m) kind stands =
      let r = record (row s.rows n) { frame = f; phase = Done v } in
      let maker : (1 ≤ m) × (m < n) = rw kind at (there.linked.makers n there.from there.to) in
      handed_to (on_row s n (λ r. record r { frame = f; phase = Done v })) m v (record {
        from = maker.0;
        to = omega (arith, maker, there.to, length-with s.rows n r);
        linked = IsLinked-set s n r there.from there.to refl refl there.linked;
      }) (ended f v stands)

  with_cells_unstuck : (f : Frame) (t : Table) → Stands (program_of s n) f → IsUnstuck (with_cells (with_frame s n f) t)
  with_cells_unstuck f t stands =
      let moved = moved_unstuck s n there is f stands in
      record { programs = moved.programs; frames = moved.frames }

  made_unstuck : (slot : ℕ) (f g : Frame) (k : Kind) (made_on : Option ℕ) (phase : Phase) → Stands (program_of s n) f → Stands (program_of s n) g →
      Keeps (finish_step slot (add_row (with_frame s n f) (new_row k (row s.rows n).job made_on g phase)))
  made_unstuck slot f g k made_on phase stands new = entry_unstuck _ (add_row_unstuck (with_frame s n f) (new_row k (row s.rows n).job made_on g phase) new (moved_unstuck s n there is f stands))

  learned : (slot : ℕ) (f : Frame) → Stands (program_of s n) f → Keeps (finish_step slot (with_frame s n f))
  learned slot f stands = entry_unstuck _ (moved_unstuck s n there is f stands)

  called_stands : (f : Frame) (p a b : ℕ) → p < length (program_of s n) → Stands (program_of s n) (called_frame f p a b)
  called_stands f p a b low = stands_new (program_of s n) (valid_program s n there is) p _ _ low

  calls : (f : Frame) (i : Instr) → Stands (program_of s n) f → instr_at (program_of s n) f ≡ Some i → Calls (length (program_of s n)) i
  calls f i stands at = (in_range (program_of s n) (valid_program s n there is) f i stands at).1

  execute_unstuck : (slot : ℕ) (f : Frame) (i : Instr) → Stands (program_of s n) f → instr_at (program_of s n) f ≡ Some i → Keeps (execute s slot n f i)
  execute_unstuck slot f (Spawn g p a b) stands at =
      limited_unstuck s n there is slot _
      (made_unstuck slot (next_place f) (called_frame f p a b) (Spawned n g) (Some slot) Unstarted (next_stands s n there is slot f (Spawn g p a b) stands at refl)
      (called_stands f p a b (calls f (Spawn g p a b) stands at)))
  execute_unstuck slot f (Post p a b) stands at =
      limited_unstuck s n there is slot _
      (made_unstuck slot (next_place f) (called_frame f p a b) Posted None Unstarted (next_stands s n there is slot f (Post p a b) stands at refl)
      (called_stands f p a b (calls f (Post p a b) stands at)))
  execute_unstuck slot f (Isolate d p a b) stands at =
      either (height s.rows slot == MAX_HEIGHT) _ _ (λ _. faults_unstuck s n there is slot fault.TooDeep)
      (λ _. limited_unstuck s n there is slot _
      (made_unstuck slot f (called_frame f p a b) (Region n) (Some slot) (Live slot (height s.rows slot + 1)) stands (called_stands f p a b (calls f (Isolate d p a b) stands at))))
  execute_unstuck slot f (Wait d e g) stands at = entry_unstuck _ (set_unstuck s n there is (λ r. record r {
    frame = write_and_step (record f { registers = slice_set f.registers d (total s.rows n g) }) e (group_status s n g);
    marks = slice_set r.marks g (record { rows = length s.rows; cancelled = false });
  }) refl (let next = next_stands s n there is slot f (Wait d e g) stands at refl in record { procedure = next.procedure; place = next.place }))
  execute_unstuck slot f (Cancel g) stands at = entry_unstuck _ (set_unstuck s n there is (λ r. record r {
    frame = next_place f;
    marks = slice_set r.marks g (record (mark s.rows n g) { cancelled = true });
  }) refl (next_stands s n there is slot f (Cancel g) stands at refl))
  execute_unstuck slot f (Ask d) stands at = learned slot _ (followed s n there is slot f (Ask d) stands at refl d _)
  execute_unstuck slot f (Load d k) stands at = entry_unstuck _ (with_cells_unstuck _ _ (followed s n there is slot f (Load d k) stands at refl d _))
  execute_unstuck slot f (Store k a) stands at = entry_unstuck _ (with_cells_unstuck _ _ (next_stands s n there is slot f (Store k a) stands at refl))
  execute_unstuck slot f (Sum d k) stands at = learned slot _ (followed s n there is slot f (Sum d k) stands at refl d _)
  execute_unstuck slot f (Count d k) stands at = learned slot _ (followed s n there is slot f (Count d k) stands at refl d _)
  execute_unstuck slot f (Ret a) stands at =
      either (has_used_group s n) _ _ (λ _. faults_unstuck s n there is slot fault.MissingWait) (λ _. entry_unstuck _ (handed_unstuck f (register f a) (row s.rows n).kind refl stands))
  execute_unstuck slot f (Set d v) stands at = learned slot f stands
  execute_unstuck slot f (Add d a b) stands at = learned slot f stands
  execute_unstuck slot f (Sub d a b) stands at = learned slot f stands
  execute_unstuck slot f (Mul d a b) stands at = learned slot f stands
  execute_unstuck slot f (Div d a b) stands at = learned slot f stands
  execute_unstuck slot f (Lt d a b) stands at = learned slot f stands
  execute_unstuck slot f (Rem d a b) stands at = learned slot f stands
  execute_unstuck slot f (And d a b) stands at = learned slot f stands
  execute_unstuck slot f (Or d a b) stands at = learned slot f stands
  execute_unstuck slot f (Xor d a b) stands at = learned slot f stands
  execute_unstuck slot f (Shl d a b) stands at = learned slot f stands
  execute_unstuck slot f (Shr d a b) stands at = learned slot f stands
  execute_unstuck slot f (Eq d a b) stands at = learned slot f stands
  execute_unstuck slot f (Le d a b) stands at = learned slot f stands
  execute_unstuck slot f (Jz a t) stands at = learned slot f stands
  execute_unstuck slot f (Jmp t) stands at = learned slot f stands
  execute_unstuck slot f (Slot d) stands at = learned slot f stands
  execute_unstuck slot f (Width d) stands at = learned slot f stands

module _ (s : State) (n : ℕ) (there : IsThere s n) (is : IsUnstuck s) where
  fueled : (fuel : ℕ) → IsUnstuck (with_fuel s n fuel)
  fueled fuel =
      let job = there.linked.jobs n there.from there.to in
      on_job_unstuck s (row s.rows n).job (λ w. record w { fuel = fuel }) job.0 job.1 refl is

  fueled_there : (fuel : ℕ) → IsThere (with_fuel s n fuel) n
  fueled_there fuel = record {
    from = there.from;
    to = there.to;
    linked =
        IsLinked-more_jobs s (with_at_number s.jobs (row s.rows n).job (record (job s.jobs (row s.rows n).job) { fuel = fuel }))
        (omega (arith, length-with s.jobs (row s.rows n).job (record (job s.jobs (row s.rows n).job) { fuel = fuel }))) there.linked;
  }

  same_program : (fuel : ℕ) → program_of (with_fuel s n fuel) n ≡ program_of s n
  same_program fuel =
      let job_there = there.linked.jobs n there.from there.to in
      ap (λ (w : Work). w.program) (at_number-with_same s.jobs _ (row s.rows n).job (record (job s.jobs (row s.rows n).job) { fuel = fuel }) job_there.0 job_there.1)

  pay_unstuck : (slot cost : ℕ) (next : State → Moved × State) → ((fuel : ℕ) → Keeps (next (with_fuel s n fuel))) → Keeps (pay s slot n cost next)
  pay_unstuck slot cost next kept = either (is_poor s n cost) _ _ (λ _. faults_unstuck (with_fuel s n 0) n (fueled_there 0) (fueled 0) slot fault.Fuel) (λ _. kept _)

  move_on_unstuck : (slot count : ℕ) (f : Frame) → Stands (program_of s n) f → Keeps (move_on s slot n count f)
  move_on_unstuck slot count f stands =
      pay_unstuck slot count (λ t. finish_step slot (with_frame t n f))
      (λ fuel. let stands_too : Stands (program_of (with_fuel s n fuel) n) f = rw (same_program fuel) stands in
      entry_unstuck _ (moved_unstuck (with_fuel s n fuel) n (fueled_there fuel) (fueled fuel) f stands_too))

  after_run_unstuck : (slot count : ℕ) (f : Frame) (stop : Stop) → Stands (program_of s n) f → ((i : Instr) → stop ≡ Shared i → instr_at (program_of s n) f ≡ Some i) →
      Keeps (after_run s slot n count f stop)
  after_run_unstuck slot count f Yield stands at = move_on_unstuck slot count f stands
  after_run_unstuck slot count f Fault stands at =
      pay_unstuck slot count (λ t. faults slot (row t.rows n).job fault.Division t) (λ fuel. faults_unstuck (with_fuel s n fuel) n (fueled_there fuel) (fueled fuel) slot fault.Division)
  after_run_unstuck slot count f (Shared i) stands at =
      either (is_blocked s n i) _ _ (λ _. move_on_unstuck slot count f stands)
      (λ _. pay_unstuck slot (count + 1) (λ t. execute t slot n f i) (λ fuel.
      let stands_too : Stands (program_of (with_fuel s n fuel) n) f = rw (same_program fuel) stands in
      let at_too : instr_at (program_of (with_fuel s n fuel) n) f ≡ Some i = rw (same_program fuel) (at i refl) in
      execute_unstuck (with_fuel s n fuel) n (fueled_there fuel) (fueled fuel) slot f i stands_too at_too))

nest_unstuck : (s : State) (slot m : ℕ) → 1 ≤ m → m ≤ length s.rows → IsUnstuck s → IsUnstuck (nest s slot m)
nest_unstuck s slot m from to is = on_row_unstuck s m (λ r. record r { phase = Live slot (height s.rows slot + 1) }) from to refl (is.frames m from to) is

blocked_unstuck : (s : State) (slot n : ℕ) (o : Option ℕ) → IsThere s n → IsUnstuck s → pick s slot ≡ o → Keeps (nest_pick s slot n o)
blocked_unstuck s slot n None there is picked = is
blocked_unstuck s slot n (Some m) there is picked =
    let its = pick_is s.config.isolation s.rows slot m picked in
    either (height s.rows slot == MAX_HEIGHT) _ _ (λ _. faults_unstuck s n there is slot fault.TooDeep) (λ _. entry_unstuck _ (nest_unstuck s slot m its.0 its.1 is))

begin_unstuck : (s : State) (slot : ℕ) (o : Option ℕ) → IsUnstuck s → pick s slot ≡ o → Keeps (begin s slot o)
begin_unstuck s slot None is picked = is
begin_unstuck s slot (Some m) is picked =
    let its = pick_is s.config.isolation s.rows slot m picked in
    either (nat_lt slot s.config.reserved) _ _ (λ _. is) (λ _. entry_unstuck _ (nest_unstuck s slot m its.0 its.1 is))

run_unstuck : (s : State) (slot n : ℕ) → IsThere s n → IsUnstuck s → Keeps (advance_run s slot n (run_on s slot n))
run_unstuck s slot n there is =
    let r = run_on s slot n in
    let ends : EndsWell (program_of s n) (valid_program s n there is) r =
    run_ends (program_of s n) (valid_program s n there is) slot s.config.slots (row s.rows n).frame (is.frames n there.from there.to) in
    either (is_idle_wait s n r.count r.stop) _ _ (λ _. blocked_unstuck s slot n (pick s slot) there is refl) (λ _. after_run_unstuck s n there is slot r.count r.end r.stop ends.end ends.stop)

top_unstuck : (s : State) (slot : ℕ) (o : Option ℕ) → IsLinked s → IsUnstuck s → top s.rows slot ≡ o → Keeps (advance_top s slot o)
top_unstuck s slot None linked is none = begin_unstuck s slot (pick s slot) is refl
top_unstuck s slot (Some n) linked is some =
    let there = top_is s.rows slot n some in
    run_unstuck s slot n (record { from = there.0; to = there.1; linked = linked }) is

pub advance_unstuck : (s : State) (slot : ℕ) → IsLinked s → IsUnstuck s → Keeps (advance s slot)
advance_unstuck s slot linked is =
    either (nat_lt slot s.config.slots) _ _ (λ _.
    let r = advance_top s slot (top s.rows slot) in
    either (would_be_recorded r.0 && is_full s) _ r (λ _. is) (λ _. top_unstuck s slot (top s.rows slot) linked is refl)) (λ _. is)

arrived_unstuck : (s : State) (slot : ℕ) (o : Option ℕ) → IsUnstuck s → pick s slot ≡ o → IsUnstuck (arrive_at s slot o).1
arrived_unstuck s slot None is picked = is
arrived_unstuck s slot (Some m) is picked =
    let its = pick_is s.config.isolation s.rows slot m picked in
    cond_both (is_full s) _ _ (λ (r : Came × State). IsUnstuck r.1) (λ _. is) (λ _. entry_unstuck _ (nest_unstuck s slot m its.0 its.1 is))

pub arrive_unstuck : (s : State) (slot : ℕ) → IsUnstuck s → IsUnstuck (arrive s slot).1
arrive_unstuck s slot is = cond_both (is_open_to_workers s slot) _ _ (λ (r : Came × State). IsUnstuck r.1) (λ _. arrived_unstuck s slot (pick s slot) is refl) (λ _. is)

abbrev KeepsReply : Reply × State → Type 0
KeepsReply r = IsUnstuck r.1

either_reply : (b : Bool) (r q : Reply × State) → (b ≡ true → KeepsReply r) → (b ≡ false → KeepsReply q) → KeepsReply (if b then r else q)
either_reply b r q if_true if_false = cond_both b r q KeepsReply if_true if_false

limited_reply : (s : State) (r : Reply × State) → IsUnstuck s → KeepsReply r → KeepsReply (unless_limit s r)
limited_reply s r is made = either_reply (nat_le MAX_JOBS (current_jobs s)) _ _ (λ _. entry_unstuck s is) (λ _. either_reply (is_row_limit_met s) _ r (λ _. entry_unstuck s is) (λ _. made))

executed_unstuck : (s : State) (j : Job) (o : Option ℕ) → IsLinked s → IsValidProgram j.program → IsUnstuck s → KeepsReply (submit_placed s j o)
executed_unstuck s j None linked valid is = entry_unstuck _ (add_job_unstuck s j Unstarted linked valid is)
executed_unstuck s j (Some slot) linked valid is = entry_unstuck _ (add_job_unstuck s j (Live slot 1) linked valid is)

of_job_unstuck : (o : Option Work) (next : Work → Reply × State) (r : Reply × State) → KeepsReply r → ((w : Work) → o ≡ Some w → KeepsReply (next w)) → KeepsReply (option_map_or next o r)
of_job_unstuck None next r none some = none
of_job_unstuck (Some w) next r none some = some w refl

collected_unstuck : (s : State) (j : ℕ) (how : Status) → IsUnstuck s → KeepsReply (collect s j how)
collected_unstuck s j status.Running is = is
collected_unstuck s j status.Cancelled is = entry_unstuck s is
collected_unstuck s j (status.Complete v) is = entry_unstuck s is
collected_unstuck s j (status.Fault f) is = entry_unstuck s is

-- The number of a job that is known is in range.
numbered_there : (jobs : List Work) (n : ℕ) (w : Work) → at_number jobs n ≡ Some w → (1 ≤ n) × (n ≤ length jobs)
numbered_there jobs zero w is = absurd (grind (arith, ap is_some is))
numbered_there jobs (suc n) w is = (omega arith, slice_get_within jobs n w is)

pub known_there : (jobs : List Work) (n : ℕ) (o : Option Work) (w : Work) → at_number jobs n ≡ o → option_and_then (λ (v : Work). if v.retired then None else Some v) o ≡ Some w →
    (1 ≤ n) × (n ≤ length jobs)
known_there jobs n None w is known = absurd (grind (arith, ap is_some known))
known_there jobs n (Some v) w is known = numbered_there jobs n v is

cancelled_unstuck : (s : State) (j : ℕ) (w : Work) → known_job s j ≡ Some w → IsUnstuck s → KeepsReply (cancel_by_request s j w)
cancelled_unstuck s j w known is =
    let there = known_there s.jobs j (at_number s.jobs j) w refl known in
    either_reply (is_job_cancelled w || has_outcome s.rows j) _ _ (λ _. entry_unstuck s is) (λ _. entry_unstuck _ (on_job_unstuck s j (λ v. record v { cancelled = true }) there.0 there.1 refl is))

retired_reply : (s : State) → IsUnstuck s → KeepsReply (retire s)
retired_reply s is = either_reply (list_any (λ (r : Row). is_open r.phase) s.rows) _ _ (λ _. entry_unstuck s is) (λ _.
    let done = retired_unstuck s is in
    entry_unstuck (record s { jobs = map retired_work s.jobs; cells = no_cells; epoch = s.epoch + 1 }) (record { programs = done.programs; frames = done.frames }))

released_reply : (s : State) (j : ℕ) (w : Work) → known_job s j ≡ Some w → IsUnstuck s → IsUnstuck (released s j)
released_reply s j w known is =
    let there = known_there s.jobs j (at_number s.jobs j) w refl known in
    entry_unstuck _ (on_job_unstuck s j retired_work there.0 there.1 refl is)

reply_unstuck : (s : State) (r : Request) → IsLinked s → BringsValid r → IsUnstuck s → KeepsReply (reply_to s r)
reply_unstuck s (request.Hello name) linked valid is = is
reply_unstuck s (request.Submit j) linked valid is = limited_reply s _ is (entry_unstuck _ (add_job_unstuck s j Unstarted linked valid is))
reply_unstuck s (request.Execute j) linked valid is = limited_reply s _ is (executed_unstuck s j (free_slot s) linked valid is)
reply_unstuck s (request.Poll j) linked valid is = of_job_unstuck (known_job s j) _ _ (entry_unstuck s is) (λ w known. entry_unstuck s is)
reply_unstuck s (request.Collect j) linked valid is = of_job_unstuck (known_job s j) _ _ (entry_unstuck s is) (λ w known. collected_unstuck s j _ is)
reply_unstuck s (request.Cancel j) linked valid is = of_job_unstuck (known_job s j) _ _ (entry_unstuck s is) (λ w known. cancelled_unstuck s j w known is)
reply_unstuck s (request.Cells k) linked valid is = entry_unstuck s is
reply_unstuck s request.Arena linked valid is = entry_unstuck s is
reply_unstuck s request.Retire linked valid is = retired_reply s is
reply_unstuck s (request.Release j) linked valid is =
    of_job_unstuck (known_job s j) _ _ (entry_unstuck s is) (λ w known. either_reply (has_outcome s.rows j) _ _ (λ _. released_reply s j w known is) (λ _. entry_unstuck s is))
reply_unstuck s (request.Take j) linked valid is =
    of_job_unstuck (known_job s j) _ _ (entry_unstuck s is) (λ w known. either_reply (has_outcome s.rows j) _ _ (λ _. released_reply s j w known is) (λ _. is))

-- No ask, arrival or advance leaves a row stuck.
pub ask_unstuck : (s : State) (r : Request) → IsLinked s → BringsValid r → IsUnstuck s → IsUnstuck (ask s r).1
ask_unstuck s r linked valid is = either_reply (is_full s && not (is_hello r)) _ _ (λ _. is) (λ _. reply_unstuck s r linked valid is)

pub step_unstuck : (s : State) (x : Step) → IsLinked s → StepBringsValid x → IsUnstuck s → IsUnstuck (step s x).1
step_unstuck s (steps.Ask r) linked valid is = ask_unstuck s r linked valid is
step_unstuck s (steps.Arrive slot) linked valid is = arrive_unstuck s slot is
step_unstuck s (steps.Advance slot) linked valid is = advance_unstuck s slot linked is

-- nor do steps one after another
pub after_unstuck : (s : State) (xs : List Step) → IsWellFormed s → All StepBringsValid xs → IsUnstuck s → IsUnstuck (after s xs)
after_unstuck s [] well valid is = is
after_unstuck s (x ∷ xs) well valid is =
    let first : StepBringsValid x = valid 0 x (omega arith) in
    let rest : All StepBringsValid xs = λ k d within. valid (suc k) d (omega arith) in
    after_unstuck (step s x).1 xs (step_kept s x well) rest (step_unstuck s x well.linked first is)

pub empty_unstuck : (c : Tenant) → IsUnstuck (empty c)
empty_unstuck c = record { programs = λ j from to. absurd (omega (arith, from, to)); frames = λ n from to. absurd (omega (arith, from, to)) }
