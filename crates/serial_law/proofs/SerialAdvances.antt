-- Each advance and arrival keeps what is known of a serial job.
use Rattle.std.proofs.Common.{◌≡◌, ◌≢◌, ℕ, ◌+◌, ◌-◌, ◌==◌, ◌<◌, ◌≤◌, length, Option, Some, None, Bool, true, false, ◌&&◌, nat_lt, refl, sym, ap, ◌∙◌, arith, inl, inr, pos}
use Rattle.std.specs.Prelude.{if◌then◌else◌, IfSome}
use Rattle.std.proofs.lemmas.Bool.{cases_eq, cond_both}
use Rattle.job_language.proofs.Groups.{group_of}
use Rattle.job_language.specs.Serial.{is_serial_instr, is_serial}
use Rattle.job_language.specs.declared.errors.JobFault.{JobFault}
use Rattle.job_language.specs.declared.errors.JobFault.TheVariants as fault
use Rattle.job_language.specs.declared.instructions.Instr.{Instr}
use Rattle.job_language.specs.declared.instructions.Instr.TheVariants.{Set, Add, Sub, Mul, Div, Lt, Rem, And, Or, Xor, Shl, Shr, Eq, Le, Jz, Jmp, Slot, Width, Spawn, Post, Wait, Cancel, Ask, Isolate}
use Rattle.job_language.specs.declared.instructions.Instr.TheVariants.{Load, Store, Sum, Count, Ret}
use Rattle.job_language.specs.declared.instructions.TheConstants.{GROUPS}
use Rattle.job_language.specs.declared.answers.Moved.{Moved}
use Rattle.job_language.specs.declared.answers.Came.{Came}
use Rattle.job_step.specs.declared.frames.Frame.{Frame}
use Rattle.job_step.specs.declared.runs.Stop.{Stop}
use Rattle.job_step.specs.declared.runs.Stop.TheVariants.{Shared, Yield, Fault}
use Rattle.job_step.specs.Frame.{instr_at}
use Rattle.tenant_model.specs.declared.rows.Phase.{Phase}
use Rattle.tenant_model.specs.declared.rows.Phase.TheVariants.{Unstarted, Live, Done, Dropped, Faulted}
use Rattle.tenant_model.specs.declared.rows.Row.{Row}
use Rattle.tenant_model.specs.declared.rows.TheConstants.{MAX_HEIGHT}
use Rattle.tenant_model.specs.declared.works.Work.{Work}
use Rattle.tenant_model.specs.State.{State, row, job, with_at_number}
use Rattle.tenant_model.specs.Walks.{is_open, is_unstarted, is_job_cancelled, value_in, height, top, pick}
use Rattle.tenant_model.specs.Changes.{is_row_limit_met, is_full, with_frame, nest, finish_step, faults}
use Rattle.tenant_model.specs.Shared.{execute, has_used_group}
use Rattle.tenant_model.specs.Advance.{begin, nest_pick, work_of, is_poor, with_fuel, with_fuel_paid, pay, move_on, is_blocked, after_run, is_idle_wait, run_on, advance_run, advance_top}
use Rattle.tenant_model.specs.Advance.{would_be_recorded, advance, arrive_at, is_open_to_workers, arrive}
use Rattle.tenant_model.specs.WellFormed.{IsWellFormed}
use Rattle.tenant_model.proofs.Changed.{at_number-with_same, row-with_same, row-with_other, length-with}
use Rattle.tenant_model.proofs.Linked.{SameSources-set, IsLinked-set, IsLinked-more_jobs}
use Rattle.tenant_model.proofs.Picks.{top_is, pick_is}
use Rattle.tenant_model.proofs.Unstuck.{program_of}
use Rattle.serial_law.proofs.SerialGiving.{GoesBack, is_fault, serial_at, run_back, run_stops}
use Rattle.tenant_model.proofs.Running.{NamesGroups}
use Rattle.serial_law.proofs.SerialMoves.{SameJob}
use Rattle.serial_law.proofs.SerialFollows.{Origin, Good, OneJob-same, Follows-same, same_work, entry_good}
use Rattle.serial_law.proofs.SerialFaults.{faults_good, other_work}
use Rattle.serial_law.proofs.SerialOthers.{OnTop, set_other, execute_other}
use Rattle.serial_law.proofs.SerialOwn.{HasRun, moved_own, waited_own, spawned_own, isolated_own, done_own}

-- what an advance leaves
abbrev Keeps : Origin → Moved × State → Type 0
Keeps o r = Good o r.1 0

either : (o : Origin) (b : Bool) (r q : Moved × State) → (b ≡ true → Keeps o r) → (b ≡ false → Keeps o q) → Keeps o (if b then r else q)
either o b r q if_true if_false = cond_both b r q (Keeps o) if_true if_false

-- The topmost row, of the serial job, executes a shared instruction.
module _ (o : Origin) (serial : is_serial o.program ≡ true) (s : State) (slot n count : ℕ) (f : Frame) (run : HasRun o s slot n count f) (is : Good o s (count + 1)) where
  own_faults : (g : JobFault) → Keeps o (faults slot (row s.rows n).job g s)
  own_faults g = faults_good o s slot n (count + 1) g run.top.from run.top.to run.top.live run.top.stacked run.top.on_makers is

  own_limited : (r : Moved × State) → Keeps o r → Keeps o (if is_row_limit_met s then faults slot (row s.rows n).job fault.TaskLimit s else r)
  own_limited r made = either o (is_row_limit_met s) _ r (λ _. own_faults fault.TaskLimit) (λ _. made)

  own_moved : Keeps o (finish_step slot (with_frame s n f))
  own_moved = entry_good o (with_frame s n f) 0 (moved_own o s slot n count (count + 1) f run is (omega arith))

  not_serial : (i : Instr) → instr_at o.program f ≡ Some i → is_serial_instr i ≡ false → ⊥
  not_serial i at refused = grind (arith, serial_at o.program serial f i at, refused)

  pub execute_own : (i : Instr) → instr_at o.program f ≡ Some i → IfSome (group_of i) (λ g. g < GROUPS) → is_blocked s n i ≡ false → Keeps o (execute s slot n f i)
  execute_own (Spawn g p a b) at low open_way = own_limited _ (entry_good o _ 0 (spawned_own o s slot n count (count + 1) f run is g p a b (omega arith) at low))
  execute_own (Isolate d p a b) at low open_way =
      either o (height s.rows slot == MAX_HEIGHT) _ _ (λ _. own_faults fault.TooDeep)
      (λ _. own_limited _ (entry_good o _ 0 (isolated_own o s slot n count (count + 1) f run is d p a b (omega arith) at)))
  execute_own (Wait d e g) at low open_way = entry_good o _ 0 (waited_own o s slot n count (count + 1) f run is d e g (omega arith) at low open_way)
  execute_own (Ret a) at low open_way =
      either o (has_used_group s n) _ _ (λ _. own_faults fault.MissingWait)
      (λ unused. entry_good o _ 0 (done_own o s slot n count (count + 1) f run is a (row s.rows n).kind (omega arith) at unused refl))
  execute_own (Post p a b) at low open_way = absurd (not_serial (Post p a b) at refl)
  execute_own (Cancel g) at low open_way = absurd (not_serial (Cancel g) at refl)
  execute_own (Ask d) at low open_way = absurd (not_serial (Ask d) at refl)
  execute_own (Load d k) at low open_way = absurd (not_serial (Load d k) at refl)
  execute_own (Store k a) at low open_way = absurd (not_serial (Store k a) at refl)
  execute_own (Sum d k) at low open_way = absurd (not_serial (Sum d k) at refl)
  execute_own (Count d k) at low open_way = absurd (not_serial (Count d k) at refl)
  execute_own (Set d v) at low open_way = own_moved
  execute_own (Add d a b) at low open_way = own_moved
  execute_own (Sub d a b) at low open_way = own_moved
  execute_own (Mul d a b) at low open_way = own_moved
  execute_own (Div d a b) at low open_way = own_moved
  execute_own (Lt d a b) at low open_way = own_moved
  execute_own (Rem d a b) at low open_way = own_moved
  execute_own (And d a b) at low open_way = own_moved
  execute_own (Or d a b) at low open_way = own_moved
  execute_own (Xor d a b) at low open_way = own_moved
  execute_own (Shl d a b) at low open_way = own_moved
  execute_own (Shr d a b) at low open_way = own_moved
  execute_own (Eq d a b) at low open_way = own_moved
  execute_own (Le d a b) at low open_way = own_moved
  execute_own (Jz a t) at low open_way = own_moved
  execute_own (Jmp t) at low open_way = own_moved
  execute_own (Slot d) at low open_way = own_moved
  execute_own (Width d) at low open_way = own_moved

-- the fuel of row n's job changed
module _ (o : Origin) (s : State) (n fuel : ℕ) (from : 1 ≤ n) (to : n ≤ length s.rows) (is : Good o s 0) where
  abbrev work : Work
  work = record (job s.jobs (row s.rows n).job) { fuel = fuel }

  fuel_linked : length (with_fuel s n fuel).jobs ≡ length s.jobs
  fuel_linked = length-with s.jobs (row s.rows n).job work

  fuel_other : (row s.rows n).job ≢ o.number → Good o (with_fuel s n fuel) 0
  fuel_other other = record {
    linked = IsLinked-more_jobs s (with_at_number s.jobs (row s.rows n).job work) (omega (arith, fuel_linked)) is.linked;
    one = is.one;
    follows = Follows-same o s.rows s.rows s.jobs _ 0 (omega (arith, fuel_linked)) (other_work s.jobs (row s.rows n).job o.number work (is.linked.jobs n from to).0 (λ e. other (sym e)))
        (λ clear before. same_rows) is.follows;
  }
    where
      same_rows : SameJob o.number s.rows s.rows
      same_rows = record {
        long = omega arith;
        kinds = λ k f t. refl;
        jobs = λ k f t. refl;
        frames = λ k f t own. refl;
        marks = λ k f t own. refl;
        opens = λ k f t own. refl;
        values = λ k f t own. refl;
        news = λ k after t. absurd (omega (arith, after, t));
      }

  fuel_own : (debt : ℕ) → (row s.rows n).job ≡ o.number → fuel + debt ≤ (work_of s n).fuel → Good o (with_fuel s n fuel) debt
  fuel_own debt own enough =
      let there = is.linked.jobs n from to in
      let here : job (with_at_number s.jobs (row s.rows n).job work) o.number ≡ work =
      ap (job (with_at_number s.jobs (row s.rows n).job work)) (sym own) ∙ at_number-with_same s.jobs _ (row s.rows n).job work there.0 there.1 in
      let old : job s.jobs (row s.rows n).job ≡ job s.jobs o.number = ap (job s.jobs) own in
      record {
        linked = IsLinked-more_jobs s (with_at_number s.jobs (row s.rows n).job work) (omega (arith, fuel_linked)) is.linked;
        one = is.one;
        follows = record {
          to = omega (arith, fuel_linked, is.follows.to);
          program = ap (λ (w : Work). w.program) here ∙ ap (λ (w : Work). w.program) old ∙ is.follows.program;
          root = ap (λ (w : Work). w.root) here ∙ ap (λ (w : Work). w.root) old ∙ is.follows.root;
          follows = λ some clear.
              let before : is_job_cancelled (job s.jobs o.number) ≡ false = ap is_job_cancelled (sym old) ∙ ap is_job_cancelled (sym here) ∙ clear in
              let its = is.follows.follows some before in
              let left : (job (with_at_number s.jobs (row s.rows n).job work) o.number).fuel ≡ fuel = ap (λ (w : Work). w.fuel) here in
              let had : (work_of s n).fuel ≡ (job s.jobs o.number).fuel = ap (λ (w : Work). w.fuel) old in
              record { from = its.from; to = its.to; own = its.own; marks = its.marks; groups = its.groups; spent = its.spent; fuel = omega (arith, its.fuel, left, had, enough); leads = its.leads };
        };
      }

module _ (o : Origin) (serial : is_serial o.program ≡ true) (s : State) (slot n : ℕ) (top : OnTop s.rows slot n) (is : Good o s 0) where
  fuel_faults : (fuel debt : ℕ) (g : JobFault) → Good o (with_fuel s n fuel) debt → Keeps o (faults slot (row s.rows n).job g (with_fuel s n fuel))
  fuel_faults fuel debt g good = faults_good o (with_fuel s n fuel) slot n debt g top.from top.to top.live top.stacked top.on_makers good

  pay_good : (cost : ℕ) (next : State → Moved × State) → ((row s.rows n).job ≡ o.number → Good o (with_fuel_paid s n cost) cost → Keeps o (next (with_fuel_paid s n cost))) →
      ((row s.rows n).job ≢ o.number → Good o (with_fuel_paid s n cost) 0 → Keeps o (next (with_fuel_paid s n cost))) →
      Keeps o (pay s slot n cost next)
  pay_good cost next own other = elim (cases_eq (row s.rows n).job o.number) [
    | inl mine ↦ either o (is_poor s n cost) _ _ (λ _. fuel_faults 0 0 fault.Fuel (fuel_own o s n 0 top.from top.to is 0 mine (omega arith)))
        (λ rich. own mine (fuel_own o s n ((work_of s n).fuel - cost) top.from top.to is cost mine (let enough : cost ≤ (work_of s n).fuel = grind (arith, rich) in omega (arith, enough))))
    | inr apart ↦ either o (is_poor s n cost) _ _ (λ _. fuel_faults 0 0 fault.Fuel (fuel_other o s n 0 top.from top.to is apart))
        (λ _. other apart (fuel_other o s n ((work_of s n).fuel - cost) top.from top.to is apart))
  ]

  move_on_good : (count : ℕ) (f : Frame) → ((row s.rows n).job ≡ o.number → GoesBack o.program (row s.rows n).frame f count) → Keeps o (move_on s slot n count f)
  move_on_good count f back = pay_good count (λ t. finish_step slot (with_frame t n f))
      (λ own good. entry_good o _ 0 (moved_own o (with_fuel_paid s n count) slot n count count f (record { top = top; own = own; back = back own }) good (omega arith)))
      (λ other good. entry_good o _ 0 (set_other o (with_fuel_paid s n count) n 0 (λ r. record r { frame = f }) top.from top.to refl refl other good))

  after_run_good : (count : ℕ) (f : Frame) (stop : Stop) → ((row s.rows n).job ≡ o.number → is_fault stop ≡ false → GoesBack o.program (row s.rows n).frame f count) →
      ((row s.rows n).job ≡ o.number → (i : Instr) → stop ≡ Shared i → (instr_at o.program f ≡ Some i) × IfSome (group_of i) (λ g. g < GROUPS)) → Keeps o (after_run s slot n count f stop)
  after_run_good count f Yield back at = move_on_good count f (λ own. back own refl)
  after_run_good count f Fault back at = pay_good count (λ t. faults slot (row t.rows n).job fault.Division t)
      (λ own good. fuel_faults ((work_of s n).fuel - count) count fault.Division good) (λ other good. fuel_faults ((work_of s n).fuel - count) 0 fault.Division good)
  after_run_good count f (Shared i) back at =
      either o (is_blocked s n i) _ _ (λ _. move_on_good count f (λ own. back own refl))
      (λ open_way. pay_good (count + 1) (λ t. execute t slot n f i)
      (λ own good. execute_own o serial (with_fuel_paid s n (count + 1)) slot n count f (record { top = top; own = own; back = back own refl }) good i (at own i refl).0 (at own i refl).1
      (same_blocked i open_way))
      (λ other good. execute_other o (with_fuel_paid s n (count + 1)) slot n top good other f i))
    where
      same_blocked : (i : Instr) → is_blocked s n i ≡ false → is_blocked (with_fuel_paid s n (count + 1)) n i ≡ false
      same_blocked (Wait d e g) free = free
      same_blocked (Spawn g p a b) free = refl
      same_blocked (Post p a b) free = refl
      same_blocked (Cancel g) free = refl
      same_blocked (Ask d) free = refl
      same_blocked (Isolate d p a b) free = refl
      same_blocked (Load d k) free = refl
      same_blocked (Store k a) free = refl
      same_blocked (Sum d k) free = refl
      same_blocked (Count d k) free = refl
      same_blocked (Ret a) free = refl
      same_blocked (Set d v) free = refl
      same_blocked (Add d a b) free = refl
      same_blocked (Sub d a b) free = refl
      same_blocked (Mul d a b) free = refl
      same_blocked (Div d a b) free = refl
      same_blocked (Lt d a b) free = refl
      same_blocked (Rem d a b) free = refl
      same_blocked (And d a b) free = refl
      same_blocked (Or d a b) free = refl
      same_blocked (Xor d a b) free = refl
      same_blocked (Shl d a b) free = refl
      same_blocked (Shr d a b) free = refl
      same_blocked (Eq d a b) free = refl
      same_blocked (Le d a b) free = refl
      same_blocked (Jz a t) free = refl
      same_blocked (Jmp t) free = refl
      same_blocked (Slot d) free = refl
      same_blocked (Width d) free = refl

unstarted_is : (p : Phase) → is_unstarted p ≡ true → (is_open p ≡ true) × (value_in p ≡ pos 0)
unstarted_is Unstarted is = (refl, refl)
unstarted_is (Live t h) is = absurd (grind (arith, is))
unstarted_is (Done v) is = absurd (grind (arith, is))
unstarted_is Dropped is = absurd (grind (arith, is))
unstarted_is Faulted is = absurd (grind (arith, is))

-- a row that starts
pub nest_good : (o : Origin) (s : State) (slot m : ℕ) → 1 ≤ m → m ≤ length s.rows → is_unstarted (row s.rows m).phase ≡ true → Good o s 0 → Good o (nest s slot m) 0
nest_good o s slot m from to waits is =
    let r = record (row s.rows m) { phase = Live slot (height s.rows slot + 1) } in
    let here = row-with_same s.rows m r from to in
    let sources = SameSources-set s.rows m r from to refl refl in
    let off = unstarted_is (row s.rows m).phase waits in
    let same : (k : ℕ) → k ≢ m → row (with_at_number s.rows m r) k ≡ row s.rows k = λ k apart. row-with_other s.rows m k r from apart in
    record {
      linked = IsLinked-set s m r from to refl refl is.linked;
      one = OneJob-same s.rows _ sources is.linked.makers is.one;
      follows = Follows-same o s.rows _ s.jobs s.jobs 0 (omega arith) (same_work (job s.jobs o.number)) (λ clear before. record {
        long = omega (arith, sources.long);
        kinds = λ k f t. sources.kinds k;
        jobs = λ k f t. sources.jobs k;
        frames = λ k f t own. elim (cases_eq k m) [
          | inl at ↦ rw at (ap (λ (q : Row). q.frame) here)
          | inr apart ↦ ap (λ (q : Row). q.frame) (same k apart)
        ];
        marks = λ k f t own. elim (cases_eq k m) [
          | inl at ↦ rw at (ap (λ (q : Row). q.marks) here)
          | inr apart ↦ ap (λ (q : Row). q.marks) (same k apart)
        ];
        opens = λ k f t own. elim (cases_eq k m) [
          | inl at ↦ rw at (ap (λ (q : Row). is_open q.phase) here ∙ sym off.0)
          | inr apart ↦ ap (λ (q : Row). is_open q.phase) (same k apart)
        ];
        values = λ k f t own. elim (cases_eq k m) [
          | inl at ↦ rw at (ap (λ (q : Row). value_in q.phase) here ∙ sym off.1)
          | inr apart ↦ ap (λ (q : Row). value_in q.phase) (same k apart)
        ];
        news = λ k after t. absurd (omega (arith, after, t, sources.long));
      }) is.follows;
    }

module _ (o : Origin) (serial : is_serial o.program ≡ true) (names : NamesGroups o.program) (s : State) (slot : ℕ) (well : IsWellFormed s) (is : Good o s 0) where
  picked_good : (m : ℕ) → pick s slot ≡ Some m → Good o (nest s slot m) 0
  picked_good m picked = let its = pick_is s.config.isolation s.rows slot m picked in nest_good o s slot m its.0 its.1 its.2 is

  blocked_good : (n : ℕ) (q : Option ℕ) → OnTop s.rows slot n → pick s slot ≡ q → Keeps o (nest_pick s slot n q)
  blocked_good n None top picked = is
  blocked_good n (Some m) top picked =
      either o (height s.rows slot == MAX_HEIGHT) _ _ (λ _. faults_good o s slot n 0 fault.TooDeep top.from top.to top.live top.stacked top.on_makers is) (λ _. entry_good o _ 0 (picked_good m picked))

  begin_good : (q : Option ℕ) → pick s slot ≡ q → Keeps o (begin s slot q)
  begin_good None picked = is
  begin_good (Some m) picked = either o (nat_lt slot s.config.reserved) _ _ (λ _. is) (λ _. entry_good o _ 0 (picked_good m picked))

  run_good : (n : ℕ) → OnTop s.rows slot n → Keeps o (advance_run s slot n (run_on s slot n))
  run_good n top =
      let r = run_on s slot n in
      let same : (row s.rows n).job ≡ o.number → program_of s n ≡ o.program = λ own. ap (λ j. (job s.jobs j).program) own ∙ is.follows.program in
      either o (is_idle_wait s n r.count r.stop) _ _ (λ _. blocked_good n (pick s slot) top refl)
      (λ _. after_run_good o serial s slot n top is r.count r.end r.stop
      (λ own no_fault. rw (← same own) (run_back (program_of s n) (rw (same own) serial) slot s.config.slots (row s.rows n).frame no_fault))
      (λ own i stop.
      let at : instr_at o.program r.end ≡ Some i = ap (λ procs. instr_at procs r.end) (sym (same own)) ∙ run_stops (program_of s n) slot s.config.slots (row s.rows n).frame i stop in
      (at, names r.end i at)))

  top_good : (q : Option ℕ) → top s.rows slot ≡ q → Keeps o (advance_top s slot q)
  top_good None none = begin_good (pick s slot) refl
  top_good (Some n) some =
      let there = top_is s.rows slot n some in
      run_good n (record { from = there.0; to = there.1; live = there.2; stacked = well.stacked; on_makers = well.on_makers; marked = well.marked })

  pub advance_good : Keeps o (advance s slot)
  advance_good =
      either o (nat_lt slot s.config.slots) _ _ (λ _.
      let r = advance_top s slot (top s.rows slot) in
      either o (would_be_recorded r.0 && is_full s) _ r (λ _. is) (λ _. top_good (top s.rows slot) refl)) (λ _. is)

  arrived_good : (q : Option ℕ) → pick s slot ≡ q → Good o (arrive_at s slot q).1 0
  arrived_good None picked = is
  arrived_good (Some m) picked = cond_both (is_full s) _ _ (λ (r : Came × State). Good o r.1 0) (λ _. is) (λ _. entry_good o _ 0 (picked_good m picked))

  pub arrive_good : Good o (arrive s slot).1 0
  arrive_good = cond_both (is_open_to_workers s slot) _ _ (λ (r : Came × State). Good o r.1 0) (λ _. arrived_good (pick s slot) refl) (λ _. is)
