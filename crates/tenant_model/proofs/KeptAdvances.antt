-- Each advance and arrival keeps a state well formed.
use Rattle.std.proofs.Common.{◌≡◌, ℕ, ◌+◌, ◌==◌, ◌<◌, ◌≤◌, List, [], ◌∷◌, length, Option, Some, None, Bool, true, false, ◌&&◌, nat_lt, refl, arith, ℤ, map}
use Rattle.std.specs.Prelude.{if◌then◌else◌, slice_set, IfSome}
use Rattle.std.proofs.lemmas.Bool.{cond_both}
use Rattle.std.proofs.lemmas.Option.{IfSome_then}
use Rattle.job_language.specs.declared.errors.JobFault.{JobFault}
use Rattle.job_language.specs.declared.errors.JobFault.TheVariants as fault
use Rattle.job_language.specs.declared.instructions.Instr.{Instr}
use Rattle.job_language.specs.declared.instructions.Instr.TheVariants.{Set, Add, Sub, Mul, Div, Lt, Rem, And, Or, Xor, Shl, Shr, Eq, Le, Jz, Jmp, Slot, Width, Spawn, Post, Wait, Cancel, Ask, Isolate}
use Rattle.job_language.specs.declared.instructions.Instr.TheVariants.{Load, Store, Sum, Count, Ret}
use Rattle.job_language.specs.declared.answers.Moved.{Moved}
use Rattle.job_language.specs.declared.answers.Came.{Came}
use Rattle.job_language.specs.declared.steps.Step.{Step}
use Rattle.job_language.specs.declared.steps.Step.TheVariants as step
use Rattle.job_language.specs.declared.tenants.Tenant.{Tenant}
use Rattle.job_language.specs.declared.tenants.TheConstants.{MAX_SLOTS}
use Rattle.job_step.specs.declared.frames.Frame.{Frame}
use Rattle.job_step.specs.Frame.{register, write_and_step, instr_at}
use Rattle.job_step.specs.declared.runs.Run.{Run}
use Rattle.job_step.specs.declared.runs.Stop.{Stop}
use Rattle.job_step.specs.declared.runs.Stop.TheVariants.{Shared, Yield, Fault}
use Rattle.tenant_model.specs.declared.rows.Kind.{Kind}
use Rattle.tenant_model.specs.declared.rows.Kind.TheVariants.{Root, Posted, Spawned, Region}
use Rattle.tenant_model.specs.declared.rows.Phase.TheVariants.{Unstarted, Live, Done}
use Rattle.tenant_model.specs.declared.rows.Row.{Row}
use Rattle.tenant_model.specs.declared.rows.TheConstants.{MAX_HEIGHT}
use Rattle.tenant_model.specs.State.{State, row, job, empty}
use Rattle.tenant_model.specs.Walks.{maker_of, is_region, mark, total, height, top, pick}
use Rattle.tenant_model.specs.Changes.{on_row, new_row, add_row, is_row_limit_met, is_full, open_rows, with_frame, with_cells, finish_step, faults, task_height, faulted_row, first_fault}
use Rattle.thread_cells.specs.Cells.{with_cell}
use Rattle.tenant_model.specs.Shared.{next_place, called_frame, group_status, execute, has_used_group, handed_frame, hand_back}
use Rattle.tenant_model.specs.Advance.{begin, nest_pick, is_poor, with_fuel, pay, move_on, is_blocked, after_run, is_idle_wait, run_on, advance_run, advance_top, would_be_recorded, advance, arrive_at}
use Rattle.tenant_model.specs.Advance.{is_open_to_workers, arrive}
use Rattle.tenant_model.specs.Solo.{step, after}
use Rattle.tenant_model.specs.WellFormed.{IsWellFormed}
use Rattle.tenant_model.proofs.Changed.{row-with_same, length-with}
use Rattle.tenant_model.proofs.Stacked.{AreSame-set}
use Rattle.tenant_model.proofs.Parts.{open-set}
use Rattle.tenant_model.proofs.Insides.{live_low, live_there}
use Rattle.tenant_model.proofs.Picks.{top_is, top_none}
use Rattle.tenant_model.proofs.Nesting.{nest_first_kept, nest_top_kept}
use Rattle.tenant_model.proofs.Marked.{mark_in, mark_fits, AreMarked-none}
use Rattle.tenant_model.proofs.OnMakers.{no_row_waits}
use Rattle.tenant_model.proofs.Keeping.{entry_kept, on_job_kept, on_row_kept, done_kept, add_row_kept, add_region_kept, faulted_kept}
use Rattle.tenant_model.proofs.KeptSteps.{with_cell_kept, no_cells_kept, unstarted_off, ask_kept}

-- what an advance leaves
abbrev Keeps : Moved × State → Type 0
Keeps r = IsWellFormed r.1

either : (b : Bool) (r q : Moved × State) → (b ≡ true → Keeps r) → (b ≡ false → Keeps q) → Keeps (if b then r else q)
either b r q if_true if_false = cond_both b r q Keeps if_true if_false

ran_kept : (slot : ℕ) (s : State) → IsWellFormed s → Keeps (finish_step slot s)
ran_kept slot s is = entry_kept s is

faults_kept : (slot j : ℕ) (f : JobFault) (s : State) → IsWellFormed s → Keeps (faults slot j f s)
faults_kept slot j f s is =
    let t = record s { rows = map (faulted_row slot (task_height s.rows slot)) s.rows } in
    entry_kept _ (on_job_kept t j (λ w. record w { fault = first_fault w.fault f }) (faulted_kept s slot is))

-- row n is on top of the slot
pub record IsTop (s : State) (slot n : ℕ) : Type 0 where
  pub from : 1 ≤ n
  pub to : n ≤ length s.rows
  pub live : (row s.rows n).phase ≡ Live slot (height s.rows slot)

module _ (s : State) (slot n : ℕ) (is : IsWellFormed s) (top : IsTop s slot n) where
  -- a frame moved on, with its marks
  pub set_kept : (f : Row → Row) → (f (row s.rows n)).kind ≡ (row s.rows n).kind → (f (row s.rows n)).job ≡ (row s.rows n).job → (f (row s.rows n)).phase ≡ (row s.rows n).phase →
      ((g : ℕ) → (mark_in (f (row s.rows n)).marks g).rows ≤ length s.rows) → IsWellFormed (on_row s n f)
  set_kept f kind job phase marks = on_row_kept s n f top.from top.to kind job marks phase is

  pub moved_kept : (f : Frame) → IsWellFormed (with_frame s n f)
  moved_kept f = set_kept (λ r. record r { frame = f }) refl refl refl (is.marked n)

  moved_long : (f : Frame) → length (with_frame s n f).rows ≡ length s.rows
  moved_long f = length-with s.rows n (record (row s.rows n) { frame = f })

  moved_room : (f : Frame) → open_rows s.rows < s.config.rows → open_rows (with_frame s n f).rows < s.config.rows
  moved_room f room = omega (arith, room, open-set s.rows n (record (row s.rows n) { frame = f }) top.from top.to refl (omega arith))

  pub spawned_kept : (f g : Frame) (k : Kind) (made_on : Option ℕ) → is_region k ≡ false → IfSome (maker_of k) (λ m. m ≡ n) → open_rows s.rows < s.config.rows →
      IsWellFormed (add_row (with_frame s n f) (new_row k (row s.rows n).job made_on g Unstarted))
  spawned_kept f g k made_on no_region maker room =
      let job = is.linked.jobs n top.from top.to in
      add_row_kept (with_frame s n f) (new_row k (row s.rows n).job made_on g Unstarted)
      (IfSome_then (maker_of k) maker (λ m same. (omega (arith, same, top.from), omega (arith, same, top.to, moved_long f)))) job (moved_room f room) refl no_region unstarted_off (moved_kept f)

  pub region_kept : (f g : Frame) → height s.rows slot < MAX_HEIGHT → open_rows s.rows < s.config.rows →
      IsWellFormed (add_row (with_frame s n f) (new_row (Region n) (row s.rows n).job (Some slot) g (Live slot (height s.rows slot + 1))))
  region_kept f g low room =
      let job = is.linked.jobs n top.from top.to in
      let moved = record (row s.rows n) { frame = f } in
      let same : height (with_frame s n f).rows slot ≡ height s.rows slot = (AreSame-set s.rows n moved top.from top.to refl).on slot in
      let here : row (with_frame s n f).rows n ≡ moved = row-with_same s.rows n moved top.from top.to in
      add_region_kept (with_frame s n f) (new_row (Region n) (row s.rows n).job (Some slot) g (Live slot (height s.rows slot + 1)))
      (top.from, omega (arith, top.to, moved_long f)) job (moved_room f room) refl slot n (rw same refl) (omega (arith, same, low)) refl (rw (here, same) top.live) (moved_kept f)

  cells_kept : (f : Frame) (k : ℕ) (v : ℤ) → IsWellFormed (with_cells (with_frame s n f) (with_cell s.cells k slot v))
  cells_kept f k v =
      let moved = moved_kept f in
      record {
        linked = record { makers = moved.linked.makers; jobs = moved.linked.jobs; epoch = moved.linked.epoch };
        stacked = moved.stacked;
        inside = moved.inside;
        on_makers = moved.on_makers;
        marked = moved.marked;
        limit = moved.limit;
        table = with_cell_kept s.cells k slot v is.table;
        slots = is.slots;
      }

  pub ended_kept : (f : Frame) (v : ℤ) → IsWellFormed (on_row s n (λ r. record r { frame = f; phase = Done v }))
  ended_kept f v =
      let low = live_low s.rows is.stacked n slot (height s.rows slot) top.live in
      done_kept s n (λ r. record r { frame = f; phase = Done v }) top.from top.to refl refl (is.marked n) slot top.live (record { on = λ t. refl; at = λ t h. refl }) refl low.0 is

  pub handed_kept : (f : Frame) (v : ℤ) (k : Kind) → (row s.rows n).kind ≡ k → IsWellFormed (hand_back (on_row s n (λ r. record r { frame = f; phase = Done v })) k v)
  handed_kept f v Root kind = ended_kept f v
  handed_kept f v Posted kind = ended_kept f v
  handed_kept f v (Spawned m g) kind = ended_kept f v
  handed_kept f v (Region m) kind =
      let t = on_row s n (λ r. record r { frame = f; phase = Done v }) in
      let maker : (1 ≤ m) × (m < n) = rw kind at (is.linked.makers n top.from top.to) in
      on_row_kept t m (λ r. record r { frame = handed_frame (instr_at (job t.jobs r.job).program r.frame) v r.frame }) maker.0
      (omega (arith, maker, top.to, length-with s.rows n (record (row s.rows n) { frame = f; phase = Done v }))) refl refl ((ended_kept f v).marked m) refl (ended_kept f v)

  limited_kept : (r : Moved × State) → (open_rows s.rows < s.config.rows → Keeps r) → Keeps (if is_row_limit_met s then faults slot (row s.rows n).job fault.TaskLimit s else r)
  limited_kept r made = either (is_row_limit_met s) _ r (λ _. faults_kept slot (row s.rows n).job fault.TaskLimit s is) (λ unmet. made (grind (arith, unmet)))

  execute_kept : (f : Frame) (i : Instr) → Keeps (execute s slot n f i)
  execute_kept f (Spawn g p a b) = limited_kept _ (λ room. ran_kept slot _ (spawned_kept (next_place f) (called_frame f p a b) (Spawned n g) (Some slot) refl refl room))
  execute_kept f (Post p a b) = limited_kept _ (λ room. ran_kept slot _ (spawned_kept (next_place f) (called_frame f p a b) Posted None refl tt room))
  execute_kept f (Isolate d p a b) =
      either (height s.rows slot == MAX_HEIGHT) _ _ (λ _. faults_kept slot (row s.rows n).job fault.TooDeep s is)
      (λ low. limited_kept _ (λ room. ran_kept slot _ (region_kept f (called_frame f p a b) (grind (arith, low, is.stacked.low slot)) room)))
  execute_kept f (Wait d e g) = ran_kept slot _ (set_kept (λ r. record r {
    frame = write_and_step (record f { registers = slice_set f.registers d (total s.rows n g) }) e (group_status s n g);
    marks = slice_set r.marks g (record { rows = length s.rows; cancelled = false });
  }) refl refl refl (mark_fits (row s.rows n).marks g (record { rows = length s.rows; cancelled = false }) (length s.rows) (omega arith) (is.marked n)))
  execute_kept f (Cancel g) = ran_kept slot _ (set_kept (λ r. record r {
    frame = next_place f;
    marks = slice_set r.marks g (record (mark s.rows n g) { cancelled = true });
  }) refl refl refl (mark_fits (row s.rows n).marks g (record (mark s.rows n g) { cancelled = true }) (length s.rows) (is.marked n g) (is.marked n)))
  execute_kept f (Ask d) = ran_kept slot _ (moved_kept _)
  execute_kept f (Load d k) = ran_kept slot _ (cells_kept _ k _)
  execute_kept f (Store k a) = ran_kept slot _ (cells_kept _ k _)
  execute_kept f (Sum d k) = ran_kept slot _ (moved_kept _)
  execute_kept f (Count d k) = ran_kept slot _ (moved_kept _)
  execute_kept f (Ret a) = either (has_used_group s n) _ _ (λ _. faults_kept slot (row s.rows n).job fault.MissingWait s is)
      (λ _. ran_kept slot _ (handed_kept f (register f a) (row s.rows n).kind refl))
  execute_kept f (Set d v) = ran_kept slot _ (moved_kept f)
  execute_kept f (Add d a b) = ran_kept slot _ (moved_kept f)
  execute_kept f (Sub d a b) = ran_kept slot _ (moved_kept f)
  execute_kept f (Mul d a b) = ran_kept slot _ (moved_kept f)
  execute_kept f (Div d a b) = ran_kept slot _ (moved_kept f)
  execute_kept f (Lt d a b) = ran_kept slot _ (moved_kept f)
  execute_kept f (Rem d a b) = ran_kept slot _ (moved_kept f)
  execute_kept f (And d a b) = ran_kept slot _ (moved_kept f)
  execute_kept f (Or d a b) = ran_kept slot _ (moved_kept f)
  execute_kept f (Xor d a b) = ran_kept slot _ (moved_kept f)
  execute_kept f (Shl d a b) = ran_kept slot _ (moved_kept f)
  execute_kept f (Shr d a b) = ran_kept slot _ (moved_kept f)
  execute_kept f (Eq d a b) = ran_kept slot _ (moved_kept f)
  execute_kept f (Le d a b) = ran_kept slot _ (moved_kept f)
  execute_kept f (Jz a t) = ran_kept slot _ (moved_kept f)
  execute_kept f (Jmp t) = ran_kept slot _ (moved_kept f)
  execute_kept f (Slot d) = ran_kept slot _ (moved_kept f)
  execute_kept f (Width d) = ran_kept slot _ (moved_kept f)

  pay_kept : (cost : ℕ) (next : State → Moved × State) → ((f : ℕ) → Keeps (next (with_fuel s n f))) → Keeps (pay s slot n cost next)
  pay_kept cost next kept = either (is_poor s n cost) _ _ (λ _. faults_kept slot (row s.rows n).job fault.Fuel (with_fuel s n 0) (on_job_kept s (row s.rows n).job (λ w. record w { fuel = 0 }) is))
      (λ _. kept _)

module _ (s : State) (slot n : ℕ) (is : IsWellFormed s) (on_top : IsTop s slot n) where
  fueled : (f : ℕ) → IsWellFormed (with_fuel s n f)
  fueled f = on_job_kept s (row s.rows n).job (λ w. record w { fuel = f }) is

  fueled_top : (f : ℕ) → IsTop (with_fuel s n f) slot n
  fueled_top f = record { from = on_top.from; to = on_top.to; live = on_top.live }

  move_on_kept : (count : ℕ) (f : Frame) → Keeps (move_on s slot n count f)
  move_on_kept count f = pay_kept s slot n is on_top count (λ t. finish_step slot (with_frame t n f))
      (λ fuel. ran_kept slot _ (moved_kept (with_fuel s n fuel) slot n (fueled fuel) (fueled_top fuel) f))

  after_run_kept : (count : ℕ) (f : Frame) (stop : Stop) → Keeps (after_run s slot n count f stop)
  after_run_kept count f Yield = move_on_kept count f
  after_run_kept count f Fault =
      pay_kept s slot n is on_top count (λ t. faults slot (row t.rows n).job fault.Division t) (λ fuel. faults_kept slot (row s.rows n).job fault.Division (with_fuel s n fuel) (fueled fuel))
  after_run_kept count f (Shared i) =
      either (is_blocked s n i) _ _ (λ _. move_on_kept count f)
      (λ _. pay_kept s slot n is on_top (count + 1) (λ t. execute t slot n f i) (λ fuel. execute_kept (with_fuel s n fuel) slot n (fueled fuel) (fueled_top fuel) f i))

  blocked_kept : (o : Option ℕ) → pick s slot ≡ o → top s.rows slot ≡ Some n → Keeps (nest_pick s slot n o)
  blocked_kept None picked top = is
  blocked_kept (Some m) picked top =
      either (height s.rows slot == MAX_HEIGHT) _ _ (λ _. faults_kept slot (row s.rows n).job fault.TooDeep s is)
      (λ low. entry_kept _ (nest_top_kept s slot m is picked n top (grind (arith, low, is.stacked.low slot))))

  run_kept : (r : Run) → top s.rows slot ≡ Some n → Keeps (advance_run s slot n r)
  run_kept r top = either (is_idle_wait s n r.count r.stop) _ _ (λ _. blocked_kept (pick s slot) refl top) (λ _. after_run_kept r.count r.end r.stop)

begin_kept : (s : State) (slot : ℕ) (o : Option ℕ) → IsWellFormed s → pick s slot ≡ o → height s.rows slot ≡ 0 → Keeps (begin s slot o)
begin_kept s slot None is picked empty = is
begin_kept s slot (Some m) is picked empty = either (nat_lt slot s.config.reserved) _ _ (λ _. is) (λ _. entry_kept _ (nest_first_kept s slot m is picked empty))

top_kept : (s : State) (slot : ℕ) (o : Option ℕ) → IsWellFormed s → top s.rows slot ≡ o → Keeps (advance_top s slot o)
top_kept s slot None is none = begin_kept s slot (pick s slot) is refl (top_none s.rows slot is.stacked none)
top_kept s slot (Some n) is some =
    let there = top_is s.rows slot n some in
    run_kept s slot n is (record { from = there.0; to = there.1; live = there.2 }) (run_on s slot n) some

-- an advance
pub advance_kept : (s : State) (slot : ℕ) → IsWellFormed s → IsWellFormed (advance s slot).1
advance_kept s slot is =
    either (nat_lt slot s.config.slots) _ _ (λ _.
    let r = advance_top s slot (top s.rows slot) in
    either (would_be_recorded r.0 && is_full s) _ r (λ _. is) (λ _. top_kept s slot (top s.rows slot) is refl)) (λ _. is)

arrived_kept : (s : State) (slot : ℕ) (o : Option ℕ) → IsWellFormed s → pick s slot ≡ o → height s.rows slot ≡ 0 → IsWellFormed (arrive_at s slot o).1
arrived_kept s slot None is picked empty = is
arrived_kept s slot (Some m) is picked empty = cond_both (is_full s) _ _ (λ (r : Came × State). IsWellFormed r.1) (λ _. is) (λ _. entry_kept _ (nest_first_kept s slot m is picked empty))

-- an arrival
pub arrive_kept : (s : State) (slot : ℕ) → IsWellFormed s → IsWellFormed (arrive s slot).1
arrive_kept s slot is = cond_both (is_open_to_workers s slot) _ _ (λ (r : Came × State). IsWellFormed r.1) (λ opened. arrived_kept s slot (pick s slot) is refl (grind (arith, opened))) (λ _. is)

-- any step
pub step_kept : (s : State) (x : Step) → IsWellFormed s → IsWellFormed (step s x).1
step_kept s (step.Ask r) is = ask_kept s r is
step_kept s (step.Arrive slot) is = arrive_kept s slot is
step_kept s (step.Advance slot) is = advance_kept s slot is

-- any steps
pub after_kept : (s : State) (xs : List Step) → IsWellFormed s → IsWellFormed (after s xs)
after_kept s [] is = is
after_kept s (x ∷ xs) is = after_kept (step s x).1 xs (step_kept s x is)

-- a tenant that has done nothing yet
pub empty_kept : (c : Tenant) → c.slots ≤ MAX_SLOTS → IsWellFormed (empty c)
empty_kept c slots = record {
  linked = record { makers = λ n from to. absurd (omega (arith, from, to)); jobs = λ n from to. absurd (omega (arith, from, to)); epoch = omega arith };
  stacked = record {
    one_at_each = λ slot h from to. absurd (omega (arith, from, to));
    none_below = λ slot. refl;
    none_above = λ slot h above. refl;
    low = λ slot. omega arith;
  };
  inside = λ a b slot low high q a_live b_live le is_one within. let there = live_there [] a slot low a_live in absurd (omega (arith, there));
  on_makers = record {
    started = λ n m kind. no_row_waits n;
    below = λ n m slot h kind live. let there = live_there [] n slot h live in absurd (omega (arith, there));
  };
  marked = AreMarked-none;
  limit = omega arith;
  table = no_cells_kept;
  slots = slots;
}
