-- Each step is a few changes and then an entry: what all of these keep, every step keeps.
use Rattle.std.proofs.Common.{◌≡◌, ℕ, ◌+◌, ◌==◌, ◌<◌, ◌≤◌, length, Option, Some, None, Bool, true, false, ◌&&◌, ◌||◌, refl, ap, ◌∙◌, arith, nat_lt, length-set, map, List, ℤ}
use Rattle.std.specs.Prelude.{if◌then◌else◌, slice_set, nat_le, not}
use Rattle.std.specs.List.{list_any, range_with_len}
use Rattle.std.specs.Option.{option_map_or}
use Rattle.std.proofs.lemmas.Bool.{cond_both}
use Rattle.job_language.specs.declared.errors.JobFault.{JobFault}
use Rattle.job_language.specs.declared.errors.JobFault.TheVariants as fault
use Rattle.job_language.specs.declared.instructions.Instr.{Instr}
use Rattle.job_language.specs.declared.instructions.Instr.TheVariants.{Set, Add, Sub, Mul, Div, Lt, Rem, And, Or, Xor, Shl, Shr, Eq, Le, Jz, Jmp, Slot, Width, Spawn, Post, Wait, Cancel, Ask, Isolate}
use Rattle.job_language.specs.declared.instructions.Instr.TheVariants.{Load, Store, Sum, Count, Ret}
use Rattle.job_language.specs.declared.answers.Moved.{Moved}
use Rattle.job_language.specs.declared.answers.Came.{Came}
use Rattle.job_language.specs.declared.answers.Reply.{Reply}
use Rattle.job_language.specs.declared.answers.Status.{Status}
use Rattle.job_language.specs.declared.answers.Status.TheVariants as status
use Rattle.job_language.specs.declared.jobs.Job.{Job}
use Rattle.job_language.specs.declared.requests.Request.{Request}
use Rattle.job_language.specs.declared.requests.Request.TheVariants as request
use Rattle.job_step.specs.declared.frames.Frame.{Frame}
use Rattle.job_step.specs.Frame.{register, write_and_step, instr_at}
use Rattle.job_step.specs.declared.runs.Stop.{Stop}
use Rattle.job_step.specs.declared.runs.Stop.TheVariants.{Shared, Yield, Fault}
use Rattle.tenant_model.specs.declared.rows.Kind.TheVariants.{Posted, Spawned, Region}
use Rattle.tenant_model.specs.declared.rows.Phase.TheVariants.{Unstarted, Live, Done}
use Rattle.tenant_model.specs.declared.rows.Row.{Row}
use Rattle.tenant_model.specs.declared.rows.TheConstants.{MAX_HEIGHT}
use Rattle.tenant_model.specs.declared.works.Work.{Work}
use Rattle.tenant_model.specs.declared.works.TheConstants.{MAX_JOBS}
use Rattle.tenant_model.specs.State.{State, row, job}
use Rattle.thread_cells.specs.Cells.{Table, with_cell, no_cells}
use Rattle.tenant_model.specs.Walks.{is_open, is_pending, is_job_cancelled, mark, total, height, top, pick}
use Rattle.tenant_model.specs.Changes.{on_row, on_job, new_row, add_row, is_row_limit_met, is_full, entry, open_rows, with_frame, with_cells, nest, finish_step, faults, task_height, faulted_row}
use Rattle.tenant_model.specs.Changes.{first_fault}
use Rattle.tenant_model.specs.Shared.{next_place, called_frame, group_status, execute, has_used_group, hand_back}
use Rattle.tenant_model.specs.Advance.{begin, nest_pick, is_poor, with_fuel, pay, move_on, is_blocked, after_run, is_idle_wait, run_on, advance_run, advance_top, would_be_recorded, advance, arrive_at}
use Rattle.tenant_model.specs.Advance.{is_open_to_workers, arrive}
use Rattle.tenant_model.specs.Asks.{add_job, free_slot, unless_limit, submit, submit_placed, collect, cancel_by_request, retire, retired_work, reply_to, ask, is_hello, known_job, has_outcome}
use Rattle.tenant_model.specs.Asks.{current_jobs}
use Rattle.tenant_model.specs.Asks as asks
use Rattle.tenant_model.specs.WellFormed.{IsTable, IsWellFormed}
use Rattle.std.specs.Prelude.{All}
use Rattle.std.proofs.lemmas.List.Elements.{All-from_get_or}
use Rattle.std.proofs.lemmas.List.FromFn.{get_or-range_with_len, length-range_with_len}
use Rattle.tenant_model.proofs.Changed.{at_number-with_same}
use Rattle.tenant_model.proofs.Picks.{top_is, top_none, found_holds}
use Rattle.tenant_model.proofs.Keeping.{on_job_kept}
use Rattle.tenant_model.proofs.KeptSteps.{with_cell_kept}
use Rattle.tenant_model.proofs.Running.{SameRegisters, written_same, EndsAt, run_ends_at}

-- the program of a row's job
abbrev pub program_of : State → ℕ → List (List Instr)
program_of s n = (job s.jobs (row s.rows n).job).program

-- Row n is on top of a slot of the tenant, in a well-formed state.
pub record IsAt (s : State) (slot n : ℕ) : Type 0 where
  pub well : IsWellFormed s
  pub slots : slot < s.config.slots
  pub from : 1 ≤ n
  pub to : n ≤ length s.rows
  pub live : (row s.rows n).phase ≡ Live slot (height s.rows slot)

-- the slot's rows down to the first that is no region are faulted, and so is the job of row n
abbrev pub faulted_at : State → (slot n : ℕ) → JobFault → State
faulted_at s slot n e = on_job (record s { rows = map (faulted_row slot (task_height s.rows slot)) s.rows }) (row s.rows n).job (λ w. record w { fault = first_fault w.fault e })

abbrev pub waited_at : State → (n : ℕ) → Frame → (g : ℕ) → State
waited_at s n f g = on_row s n (λ r. record r { frame = f; marks = slice_set r.marks g (record { rows = length s.rows; cancelled = false }) })

abbrev pub cancelled_at : State → (n : ℕ) → Frame → (g : ℕ) → State
cancelled_at s n f g = on_row s n (λ r. record r { frame = f; marks = slice_set r.marks g (record (mark s.rows n g) { cancelled = true }) })

abbrev pub done_at : State → (n : ℕ) → Frame → (a : ℕ) → State
done_at s n f a = hand_back (on_row s n (λ r. record r { frame = f; phase = Done (register f a) })) (row s.rows n).kind (register f a)

-- What an advance of a slot keeps: P and K hold before it, J after its change, and K again once the entry is counted and the state has settled.
pub record KeepsAdvances (P K J : State → Type 0) (slot : ℕ) : Type 0 where
  pub fueled : (s : State) (n f : ℕ) → IsAt s slot n → P s → P (with_fuel s n f)
  pub fuel : (s : State) (n f : ℕ) → IsAt s slot n → P s → K s → K (with_fuel s n f)
  pub fault : (s : State) (n : ℕ) (e : JobFault) → IsAt s slot n → P s → K s → J (faulted_at s slot n e)
  pub frame : (s : State) (n : ℕ) (f : Frame) → IsAt s slot n → P s → SameRegisters (row s.rows n).frame f → K s → J (with_frame s n f)
  pub cells : (s : State) (t : Table) → IsTable t → J s → J (with_cells s t)
  pub spawn : (s : State) (n : ℕ) (f : Frame) (g p a b : ℕ) → IsAt s slot n → P s → SameRegisters (row s.rows n).frame f → instr_at (program_of s n) f ≡ Some (Spawn g p a b) →
      open_rows s.rows < s.config.rows → K s →
      J (add_row (with_frame s n (next_place f)) (new_row (Spawned n g) (row s.rows n).job (Some slot) (called_frame f p a b) Unstarted))
  pub post : (s : State) (n : ℕ) (f : Frame) (p a b : ℕ) → IsAt s slot n → P s → SameRegisters (row s.rows n).frame f → open_rows s.rows < s.config.rows → K s →
      J (add_row (with_frame s n (next_place f)) (new_row Posted (row s.rows n).job None (called_frame f p a b) Unstarted))
  pub isolate : (s : State) (n : ℕ) (f : Frame) (d p a b : ℕ) → IsAt s slot n → P s → SameRegisters (row s.rows n).frame f → instr_at (program_of s n) f ≡ Some (Isolate d p a b) →
      open_rows s.rows < s.config.rows → height s.rows slot < MAX_HEIGHT → K s →
      J (add_row (with_frame s n f) (new_row (Region n) (row s.rows n).job (Some slot) (called_frame f p a b) (Live slot (height s.rows slot + 1))))
  pub wait : (s : State) (n : ℕ) (f : Frame) (g : ℕ) → IsAt s slot n → P s → SameRegisters (row s.rows n).frame f → is_pending s.rows n g ≡ false → K s → J (waited_at s n f g)
  pub cancel : (s : State) (n : ℕ) (f : Frame) (g : ℕ) → IsAt s slot n → P s → SameRegisters (row s.rows n).frame f → K s → J (cancelled_at s n f g)
  pub done : (s : State) (n : ℕ) (f : Frame) (a : ℕ) → IsAt s slot n → P s → SameRegisters (row s.rows n).frame f → has_used_group s n ≡ false → K s → J (done_at s n f a)
  pub nest : (s : State) (m : ℕ) → IsWellFormed s → slot < s.config.slots → P s → pick s slot ≡ Some m → height s.rows slot < MAX_HEIGHT → K s → J (nest s slot m)
  pub enter : (s : State) → J s → K (entry s)

either : (K : State → Type 0) (b : Bool) (r q : Moved × State) → (b ≡ true → K r.1) → (b ≡ false → K q.1) → K (if b then r else q).1
either K b r q if_true if_false = cond_both b r q (λ (x : Moved × State). K x.1) if_true if_false

module _ (P K J : State → Type 0) (slot : ℕ) (keeps : KeepsAdvances P K J slot) where
  finished : (t : State) → J t → K (finish_step slot t).1
  finished t is = keeps.enter t is

  module _ (s : State) (n : ℕ) (at : IsAt s slot n) (p : P s) (k : K s) where
    faulted_keeps : (e : JobFault) → K (faults slot (row s.rows n).job e s).1
    faulted_keeps e = keeps.enter (faulted_at s slot n e) (keeps.fault s n e at p k)

    limited_keeps : (r : Moved × State) → (open_rows s.rows < s.config.rows → K r.1) → K (if is_row_limit_met s then faults slot (row s.rows n).job fault.TaskLimit s else r).1
    limited_keeps r made = either K (is_row_limit_met s) _ r (λ _. faulted_keeps fault.TaskLimit) (λ unmet. made (grind (arith, unmet)))

    moved_keeps : (f : Frame) → SameRegisters (row s.rows n).frame f → K (finish_step slot (with_frame s n f)).1
    moved_keeps f same = keeps.enter (with_frame s n f) (keeps.frame s n f at p same k)

    touched_keeps : (f : Frame) (q : ℕ) (v : ℤ) → SameRegisters (row s.rows n).frame f → K (finish_step slot (with_cells (with_frame s n f) (with_cell s.cells q slot v))).1
    touched_keeps f q v same = keeps.enter _ (keeps.cells (with_frame s n f) (with_cell s.cells q slot v) (with_cell_kept s.cells q slot v at.well.table) (keeps.frame s n f at p same k))

    execute_keeps : (f : Frame) (i : Instr) → SameRegisters (row s.rows n).frame f → instr_at (program_of s n) f ≡ Some i → is_blocked s n i ≡ false → K (execute s slot n f i).1
    execute_keeps f (Spawn g q a b) same here ready = limited_keeps _ (λ room. keeps.enter _ (keeps.spawn s n f g q a b at p same here room k))
    execute_keeps f (Post q a b) same here ready = limited_keeps _ (λ room. keeps.enter _ (keeps.post s n f q a b at p same room k))
    execute_keeps f (Isolate d q a b) same here ready =
        either K (height s.rows slot == MAX_HEIGHT) _ _ (λ _. faulted_keeps fault.TooDeep)
        (λ low. limited_keeps _ (λ room. keeps.enter _ (keeps.isolate s n f d q a b at p same here room (grind (arith, low, at.well.stacked.low slot)) k)))
    execute_keeps f (Wait d e g) same here ready =
        let v = total s.rows n g in
        keeps.enter _ (keeps.wait s n (write_and_step (record f { registers = slice_set f.registers d v }) e (group_status s n g)) g at p
        (written_same (record f { registers = slice_set f.registers d v }) e (group_status s n g) ∙ length-set f.registers d v ∙ same) ready k)
    execute_keeps f (Cancel g) same here ready = keeps.enter _ (keeps.cancel s n (next_place f) g at p same k)
    execute_keeps f (Ask d) same here ready = moved_keeps _ (written_same f d _ ∙ same)
    execute_keeps f (Load d q) same here ready = touched_keeps _ q _ (written_same f d _ ∙ same)
    execute_keeps f (Store q a) same here ready = touched_keeps (next_place f) q (register f a) same
    execute_keeps f (Sum d q) same here ready = moved_keeps _ (written_same f d _ ∙ same)
    execute_keeps f (Count d q) same here ready = moved_keeps _ (written_same f d _ ∙ same)
    execute_keeps f (Ret a) same here ready = either K (has_used_group s n) _ _ (λ _. faulted_keeps fault.MissingWait) (λ unused. keeps.enter _ (keeps.done s n f a at p same unused k))
    execute_keeps f (Set d v) same here ready = moved_keeps f same
    execute_keeps f (Add d a b) same here ready = moved_keeps f same
    execute_keeps f (Sub d a b) same here ready = moved_keeps f same
    execute_keeps f (Mul d a b) same here ready = moved_keeps f same
    execute_keeps f (Div d a b) same here ready = moved_keeps f same
    execute_keeps f (Lt d a b) same here ready = moved_keeps f same
    execute_keeps f (Rem d a b) same here ready = moved_keeps f same
    execute_keeps f (And d a b) same here ready = moved_keeps f same
    execute_keeps f (Or d a b) same here ready = moved_keeps f same
    execute_keeps f (Xor d a b) same here ready = moved_keeps f same
    execute_keeps f (Shl d a b) same here ready = moved_keeps f same
    execute_keeps f (Shr d a b) same here ready = moved_keeps f same
    execute_keeps f (Eq d a b) same here ready = moved_keeps f same
    execute_keeps f (Le d a b) same here ready = moved_keeps f same
    execute_keeps f (Jz a t) same here ready = moved_keeps f same
    execute_keeps f (Jmp t) same here ready = moved_keeps f same
    execute_keeps f (Slot d) same here ready = moved_keeps f same
    execute_keeps f (Width d) same here ready = moved_keeps f same

  module _ (s : State) (n : ℕ) (at : IsAt s slot n) (p : P s) (k : K s) where
    fueled_at : (f : ℕ) → IsAt (with_fuel s n f) slot n
    fueled_at f = record { well = on_job_kept s (row s.rows n).job (λ w. record w { fuel = f }) at.well; slots = at.slots; from = at.from; to = at.to; live = at.live }

    same_program : (f : ℕ) → program_of (with_fuel s n f) n ≡ program_of s n
    same_program f =
        let there = at.well.linked.jobs n at.from at.to in
        ap (λ (w : Work). w.program) (at_number-with_same s.jobs _ (row s.rows n).job (record (job s.jobs (row s.rows n).job) { fuel = f }) there.0 there.1)

    pay_keeps : (cost : ℕ) (next : State → Moved × State) → ((f : ℕ) → K (next (with_fuel s n f)).1) → K (pay s slot n cost next).1
    pay_keeps cost next kept = either K (is_poor s n cost) _ _ (λ _. faulted_keeps (with_fuel s n 0) n (fueled_at 0) (keeps.fueled s n 0 at p) (keeps.fuel s n 0 at p k) fault.Fuel) (λ _. kept _)

    move_on_keeps : (count : ℕ) (f : Frame) → SameRegisters (row s.rows n).frame f → K (move_on s slot n count f).1
    move_on_keeps count f same = pay_keeps count (λ t. finish_step slot (with_frame t n f))
        (λ fuel. moved_keeps (with_fuel s n fuel) n (fueled_at fuel) (keeps.fueled s n fuel at p) (keeps.fuel s n fuel at p k) f same)

    after_run_keeps : (count : ℕ) (f : Frame) (stop : Stop) → SameRegisters (row s.rows n).frame f → ((i : Instr) → stop ≡ Shared i → instr_at (program_of s n) f ≡ Some i) →
        K (after_run s slot n count f stop).1
    after_run_keeps count f Yield same here = move_on_keeps count f same
    after_run_keeps count f Fault same here =
        pay_keeps count (λ t. faults slot (row t.rows n).job fault.Division t)
        (λ fuel. faulted_keeps (with_fuel s n fuel) n (fueled_at fuel) (keeps.fueled s n fuel at p) (keeps.fuel s n fuel at p k) fault.Division)
    after_run_keeps count f (Shared i) same here =
        either K (is_blocked s n i) _ _ (λ _. move_on_keeps count f same)
        (λ ready. pay_keeps (count + 1) (λ t. execute t slot n f i) (λ fuel.
        let here_too : instr_at (program_of (with_fuel s n fuel) n) f ≡ Some i = rw (same_program fuel) (here i refl) in
        execute_keeps (with_fuel s n fuel) n (fueled_at fuel) (keeps.fueled s n fuel at p) (keeps.fuel s n fuel at p k) f i same here_too (is_blocked-same fuel i ready)))
      where
        is_blocked-same : (fuel : ℕ) (i : Instr) → is_blocked s n i ≡ false → is_blocked (with_fuel s n fuel) n i ≡ false
        is_blocked-same fuel i ready = ready

    nest_pick_keeps : (o : Option ℕ) → pick s slot ≡ o → K (nest_pick s slot n o).1
    nest_pick_keeps None picked = k
    nest_pick_keeps (Some m) picked =
        either K (height s.rows slot == MAX_HEIGHT) _ _ (λ _. faulted_keeps s n at p k fault.TooDeep)
        (λ low. keeps.enter _ (keeps.nest s m at.well at.slots p picked (grind (arith, low, at.well.stacked.low slot)) k))

    run_keeps : K (advance_run s slot n (run_on s slot n)).1
    run_keeps =
        let r = run_on s slot n in
        let ends : EndsAt (program_of s n) (row s.rows n).frame r = run_ends_at (program_of s n) slot s.config.slots (row s.rows n).frame in
        either K (is_idle_wait s n r.count r.stop) _ _ (λ _. nest_pick_keeps (pick s slot) refl) (λ _. after_run_keeps r.count r.end r.stop ends.registers ends.stop)

  module _ (s : State) (well : IsWellFormed s) (p : P s) (k : K s) where
    begin_keeps : (o : Option ℕ) → slot < s.config.slots → pick s slot ≡ o → height s.rows slot ≡ 0 → K (begin s slot o).1
    begin_keeps None low picked empty = k
    begin_keeps (Some m) low picked empty = either K (nat_lt slot s.config.reserved) _ _ (λ _. k) (λ _. keeps.enter _ (keeps.nest s m well low p picked (omega (arith, empty)) k))

    top_keeps : (o : Option ℕ) → slot < s.config.slots → top s.rows slot ≡ o → K (advance_top s slot o).1
    top_keeps None low none = begin_keeps (pick s slot) low refl (top_none s.rows slot well.stacked none)
    top_keeps (Some n) low some =
        let there = top_is s.rows slot n some in
        run_keeps s n (record { well = well; slots = low; from = there.0; to = there.1; live = there.2 }) p k

    -- an advance
    pub advance_keeps : K (advance s slot).1
    advance_keeps =
        either K (nat_lt slot s.config.slots) _ _ (λ low.
        let r = advance_top s slot (top s.rows slot) in
        either K (would_be_recorded r.0 && is_full s) _ r (λ _. k) (λ _. top_keeps (top s.rows slot) (grind (arith, low)) refl)) (λ _. k)

    arrive_at_keeps : (o : Option ℕ) → slot < s.config.slots → pick s slot ≡ o → height s.rows slot ≡ 0 → K (arrive_at s slot o).1
    arrive_at_keeps None low picked empty = k
    arrive_at_keeps (Some m) low picked empty = cond_both (is_full s) _ _ (λ (r : Came × State). K r.1) (λ _. k) (λ _. keeps.enter _ (keeps.nest s m well low p picked (omega (arith, empty)) k))

    -- an arrival
    pub arrive_keeps : K (arrive s slot).1
    arrive_keeps = cond_both (is_open_to_workers s slot) _ _ (λ (r : Came × State). K r.1) (λ opened. arrive_at_keeps (pick s slot) (grind (arith, opened)) refl (grind (arith, opened))) (λ _. k)

-- What an ask keeps.
pub record KeepsAsks (P K J : State → Type 0) : Type 0 where
  pub none : (s : State) → K s → J s
  pub add : (s : State) (j : Job) → IsWellFormed s → P s → open_rows s.rows < s.config.rows → K s → J (add_job s j Unstarted)
  pub place : (s : State) (j : Job) (slot : ℕ) → IsWellFormed s → P s → open_rows s.rows < s.config.rows → slot < s.config.reserved → height s.rows slot ≡ 0 → K s → J (add_job s j (Live slot 1))
  pub cancel : (s : State) (j : ℕ) (w : Work) → IsWellFormed s → P s → known_job s j ≡ Some w → (is_job_cancelled w || has_outcome s.rows j) ≡ false → K s →
      J (on_job s j (λ v. record v { cancelled = true }))
  pub retire : (s : State) → IsWellFormed s → P s → list_any (λ (r : Row). is_open r.phase) s.rows ≡ false → K s →
      J (record s { jobs = map retired_work s.jobs; cells = no_cells; epoch = s.epoch + 1 })
  pub release : (s : State) (j : ℕ) (w : Work) → IsWellFormed s → P s → known_job s j ≡ Some w → has_outcome s.rows j ≡ true → K s → J (on_job s j retired_work)
  pub enter : (s : State) → J s → K (entry s)

either_reply : (K : State → Type 0) (b : Bool) (r q : Reply × State) → (b ≡ true → K r.1) → (b ≡ false → K q.1) → K (if b then r else q).1
either_reply K b r q if_true if_false = cond_both b r q (λ (x : Reply × State). K x.1) if_true if_false

-- the slot that is free is reserved, and empty
pub free_slot_is : (s : State) (slot : ℕ) → free_slot s ≡ Some slot → (slot < s.config.reserved) × (height s.rows slot ≡ 0)
free_slot_is s slot free =
    let low : All (λ t. t < s.config.reserved) (range_with_len 0 s.config.reserved) = All-from_get_or (λ t. t < s.config.reserved) (range_with_len 0 s.config.reserved) 0 (λ i within.
    let there : i < s.config.reserved = omega (arith, within, length-range_with_len 0 s.config.reserved) in
    omega (arith, get_or-range_with_len 0 s.config.reserved i 0 there, there)) in
    let found = found_holds (λ t. t < s.config.reserved) (λ t. height s.rows t == 0) (range_with_len 0 s.config.reserved) slot low free in
    (found.0, grind (arith, found.1))

module _ (P K J : State → Type 0) (keeps : KeepsAsks P K J) (s : State) (well : IsWellFormed s) (p : P s) (k : K s) where
  same_keeps : K (entry s)
  same_keeps = keeps.enter s (keeps.none s k)

  placed_keeps : (j : Job) (o : Option ℕ) → free_slot s ≡ o → open_rows s.rows < s.config.rows → K (submit_placed s j o).1
  placed_keeps j None free room = keeps.enter _ (keeps.add s j well p room k)
  placed_keeps j (Some slot) free room = let is = free_slot_is s slot free in keeps.enter _ (keeps.place s j slot well p room is.0 is.1 k)

  unless_limit_keeps : (r : Reply × State) → (open_rows s.rows < s.config.rows → K r.1) → K (unless_limit s r).1
  unless_limit_keeps r made = either_reply K (nat_le MAX_JOBS (current_jobs s)) _ _ (λ _. same_keeps)
      (λ _. either_reply K (is_row_limit_met s) _ r (λ _. same_keeps) (λ unmet. made (grind (arith, unmet))))

  of_job_keeps : (o : Option Work) (next : Work → Reply × State) (r : Reply × State) → K r.1 → ((w : Work) → o ≡ Some w → K (next w).1) → K (option_map_or next o r).1
  of_job_keeps None next r none some = none
  of_job_keeps (Some w) next r none some = some w refl

  collect_keeps : (j : ℕ) (x : Status) → K (collect s j x).1
  collect_keeps j status.Running = k
  collect_keeps j status.Cancelled = same_keeps
  collect_keeps j (status.Complete v) = same_keeps
  collect_keeps j (status.Fault f) = same_keeps

  released_keeps : (j : ℕ) (w : Work) → known_job s j ≡ Some w → has_outcome s.rows j ≡ true → K (entry (on_job s j retired_work))
  released_keeps j w known over = keeps.enter _ (keeps.release s j w well p known over k)

  reply_keeps : (r : Request) → K (reply_to s r).1
  reply_keeps (request.Hello name) = k
  reply_keeps (request.Submit j) = unless_limit_keeps _ (λ room. keeps.enter _ (keeps.add s j well p room k))
  reply_keeps (request.Execute j) = unless_limit_keeps _ (placed_keeps j (free_slot s) refl)
  reply_keeps (request.Poll j) = of_job_keeps (known_job s j) _ _ same_keeps (λ w known. same_keeps)
  reply_keeps (request.Collect j) = of_job_keeps (known_job s j) _ _ same_keeps (λ w known. collect_keeps j (asks.status s.rows j w))
  reply_keeps (request.Cancel j) =
      of_job_keeps (known_job s j) _ _ same_keeps
      (λ w known. either_reply K (is_job_cancelled w || has_outcome s.rows j) _ _ (λ _. same_keeps) (λ first. keeps.enter _ (keeps.cancel s j w well p known first k)))
  reply_keeps (request.Cells q) = same_keeps
  reply_keeps request.Arena = same_keeps
  reply_keeps request.Retire = either_reply K (list_any (λ (r : Row). is_open r.phase) s.rows) _ _ (λ _. same_keeps) (λ closed. keeps.enter _ (keeps.retire s well p closed k))
  reply_keeps (request.Release j) = of_job_keeps (known_job s j) _ _ same_keeps (λ w known. either_reply K (has_outcome s.rows j) _ _ (λ over. released_keeps j w known over) (λ _. same_keeps))
  reply_keeps (request.Take j) = of_job_keeps (known_job s j) _ _ same_keeps (λ w known. either_reply K (has_outcome s.rows j) _ _ (λ over. released_keeps j w known over) (λ _. k))

  -- an ask
  pub ask_keeps : (r : Request) → K (ask s r).1
  ask_keeps r = either_reply K (is_full s && not (is_hello r)) _ _ (λ _. k) (λ _. reply_keeps r)
