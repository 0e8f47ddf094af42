-- Each step keeps that rows do what tasks do, with one more answer to those that it answers.
use Rattle.std.proofs.Common.{◌≡◌, ◌≢◌, ℕ, ◌+◌, ◌-◌, ◌==◌, ◌<◌, ◌≤◌, ◌^◌, List, length, Option, Some, None, option_and_then, option_map, Bool, true, false, ◌&&◌, ◌||◌, nat_lt, refl, ap, sym}
use Rattle.std.proofs.Common.{subst, ◌∙◌, arith, ℤ, pos, map, inl, inr}
use Rattle.std.specs.Prelude.{if◌then◌else◌, nat_le, not, slice_set, slice_index_or, unwrap_or, FitsSigned}
use Rattle.std.specs.Int.{w64}
use Rattle.std.specs.List.{list_any}
use Rattle.std.specs.Option.{option_map_or}
use Rattle.std.proofs.lemmas.Bool.{and_parts, cond_both, cases_eq}
use Rattle.std.proofs.lemmas.Bool.Decides.{nat_tests}
use Rattle.job_language.specs.Brought.{BringsValid}
use Rattle.job_language.specs.Program.{IsValidProgram, Calls}
use Rattle.job_language.specs.declared.errors.JobFault.{JobFault}
use Rattle.job_language.specs.declared.errors.JobFault.TheVariants as fault
use Rattle.job_language.specs.declared.instructions.Instr.{Instr}
use Rattle.job_language.specs.declared.instructions.Instr.TheVariants.{Spawn, Post, Wait, Cancel, Ask, Isolate, Load, Store, Sum, Count, Ret}
use Rattle.job_language.specs.declared.jobs.Job.{Job}
use Rattle.job_language.specs.declared.requests.Request.{Request}
use Rattle.job_language.specs.declared.requests.Request.TheVariants as request
use Rattle.job_language.specs.declared.answers.Reply.{Reply}
use Rattle.job_language.specs.declared.answers.Moved.{Moved}
use Rattle.job_language.specs.declared.answers.Came.{Came}
use Rattle.job_language.specs.declared.answers.Status.{Status}
use Rattle.job_language.specs.declared.answers.Status.TheVariants as status
use Rattle.job_language.specs.declared.steps.Step.{Step}
use Rattle.job_language.specs.declared.steps.Step.TheVariants as steps
use Rattle.job_step.specs.declared.effects.Effect.TheVariants.{IsShared}
use Rattle.job_step.specs.declared.frames.Frame.{Frame}
use Rattle.job_step.specs.Frame.{register, write_and_step, instr_at, effect, new_frame}
use Rattle.job_step.specs.declared.runs.Stop.{Stop}
use Rattle.job_step.specs.declared.runs.Stop.TheVariants.{Shared, Yield, Fault}
use Rattle.source_language.specs.declared.syntax.Function.{Function}
use Rattle.source_language.specs.Meaning.{Operation, Spawns, Posts, Isolates, Waits, Cancels, Asks, Loads, Sums, Counts, Stores}
use Rattle.job_compiler.specs.Operations.{operation_of, resumed}
use Rattle.job_compiler.specs.Traces.{is_return}
use Rattle.job_compiler.proofs.Numbers.{small_fits}
use Rattle.thread_cells.specs.Cells.{no_cells, cell, with_cell, cell_sum, cell_count}
use Rattle.tenant_model.specs.declared.rows.Kind.{Kind}
use Rattle.tenant_model.specs.declared.rows.Kind.TheVariants.{Root, Posted, Spawned, Region}
use Rattle.tenant_model.specs.declared.rows.Phase.{Phase}
use Rattle.tenant_model.specs.declared.rows.Phase.TheVariants.{Unstarted, Live, Done}
use Rattle.tenant_model.specs.declared.rows.Row.{Row}
use Rattle.tenant_model.specs.declared.rows.TheConstants.{MAX_HEIGHT}
use Rattle.tenant_model.specs.declared.works.Work.{Work}
use Rattle.tenant_model.specs.declared.works.TheConstants.{MAX_JOBS}
use Rattle.tenant_model.specs.State.{State, row, job, at_number}
use Rattle.tenant_model.specs.Walks.{NumberedRow, chain, mark, members, total, value_in, is_open, is_unstarted, is_group_cancelled, is_job_cancelled, is_context_cancelled, height, top, pick}
use Rattle.tenant_model.specs.Changes.{on_row, new_row, add_row, is_row_limit_met, is_full, with_frame, nest, with_cells, finish_step, faults, task_height, faulted_row, first_fault}
use Rattle.tenant_model.specs.Shared.{next_place, called_frame, group_status, execute, has_used_group, handed_frame, hand_to, hand_back}
use Rattle.tenant_model.specs.Advance.{begin, nest_pick, is_poor, with_fuel, pay, move_on, is_blocked, after_run, is_idle_wait, run_on, advance_run, advance_top, would_be_recorded}
use Rattle.tenant_model.specs.Advance.{unless_full, advance, arrive_at, is_open_to_workers, arrive}
use Rattle.tenant_model.specs.Asks.{ask, add_job, free_slot, unless_limit, submit_placed, collect, cancel_by_request, retire, retired_work, released, reply_to, is_hello, known_job}
use Rattle.tenant_model.specs.Asks.{has_outcome, current_jobs}
use Rattle.tenant_model.specs.Solo.{step, after}
use Rattle.tenant_model.specs.WellFormed.{IsWellFormed}
use Rattle.tenant_model.specs.Sound.{IsSound}
use Rattle.tenant_model.specs.Naming.{Stands, IsUnstuck, StepBringsValid}
use Rattle.tenant_model.proofs.Changed.{at_number-with_same, length-with, row-with_other}
use Rattle.tenant_model.proofs.Entries.{after_run_recorded}
use Rattle.tenant_model.proofs.Invariance.{IsAt, free_slot_is}
use Rattle.tenant_model.proofs.Keeping.{on_job_kept}
use Rattle.tenant_model.proofs.Picks.{top_is, pick_is}
use Rattle.tenant_model.proofs.Standing.{in_range, run_ends, EndsWell}
use Rattle.tenant_model.proofs.Unstuck.{program_of}
use Rattle.tenant_model.proofs.UnstuckSteps.{known_there}
use Rattle.source_serial.proofs.Turns.{RegsFit, regs_set, nought_fits, one_fits}
use Rattle.source_rows.specs.Tasks.{Answer, Past, with_answer}
use Rattle.source_rows.specs.Answering.{answer_to, with_numbers, answer_at, value_at, answer_by_region, is_region_of, answer_when, answer_after, answer_by, answer_in}
use Rattle.source_rows.specs.SourceRows.{BringsNumbers, StepBringsNumbers}
use Rattle.source_rows.proofs.Fitting.{fold_fits, with_cell_fits, no_cells_fit, sum_fits, count_fits}
use Rattle.source_rows.proofs.Following.{Follows, Begins, begins, started, ends_following, goes_on, returns}
use Rattle.source_rows.proofs.Sourced.{past_or, RowFollows, IsSourced, live_follows, unstarted_follows, follows_live, starts_live, programs_stay, sourced_so, entry_sourced, on_job_sourced}
use Rattle.source_rows.proofs.Sourced.{on_row_sourced, add_row_sourced, faulted_sourced, add_job_sourced, retired_sourced, with_cells_sourced}

waits : (p : Phase) → is_unstarted p ≡ true → p ≡ Unstarted
waits Unstarted is = refl
waits p is = absurd (grind (arith, is))

-- the status that a wait stores, and what an ask learns
status_fits : (b : Bool) → FitsSigned w64 (if b then pos 2 else pos 1)
status_fits true = small_fits 2 (omega arith)
status_fits false = one_fits

bit_fits : (b : Bool) → FitsSigned w64 (if b then pos 1 else pos 0)
bit_fits true = one_fits
bit_fits false = nought_fits

-- a frame that was handed a value
handed_follows : (fs : List Function) (procs : List (List Instr)) (slot width : ℕ) (f : Frame) (before : Past) (now : Option Past) → Follows fs procs slot width f before → (o : Option Instr)
    → instr_at procs f ≡ o → (v : ℤ) → FitsSigned w64 v → (answer_by_region f o (Some v) ≡ None → Some before ≡ now)
    → ((a : Answer) → answer_by_region f o (Some v) ≡ Some a → Some (with_answer before a) ≡ now) → Follows fs procs slot width (handed_frame o v f) (past_or now (handed_frame o v f))
handed_follows fs procs slot width f before now is (Some (Isolate d p a b)) here v fv none some =
    let answer : Answer = with_numbers (Isolates p (register f a) (register f b)) (v, pos 0) in
    let g = write_and_step f d v in
    subst (λ o. Follows fs procs slot width g (past_or o g)) (some answer refl)
    (goes_on fs procs slot width f before is (Isolate d p a b) here refl answer refl refl fv nought_fits refl (regs_set f.registers d v fv is.fit))
handed_follows fs procs slot width f before now is o here v fv none some = subst (λ o. Follows fs procs slot width f (past_or o f)) (none refl) is

abbrev IsNone : Option Answer → Type 0
IsNone o = o ≡ None

-- no value, no answer
no_value : (f : Frame) (o : Option Instr) → answer_by_region f o None ≡ None
no_value f (Some (Isolate d p a b)) = refl
no_value f o = refl

module _ (s : State) (slot n : ℕ) (f : Frame) (i : Instr) where
  when_own : answer_when s slot n f i n ≡ answer_at s slot n f i
  when_own = let same : (n == n) ≡ true = grind (arith, nat_tests) in rw same refl

  when_other : (m : ℕ) → m ≢ n → value_at s n f i ≡ None → answer_when s slot n f i m ≡ None
  when_other m other none =
      let apart : (n == m) ≡ false = grind (arith, nat_tests, other) in
      rw (apart, none) (cond_both (is_region_of m (row s.rows n).kind) _ _ IsNone (λ _. no_value (row s.rows m).frame _) (λ _. refl))

  when_none : answer_at s slot n f i ≡ None → value_at s n f i ≡ None → (m : ℕ) → answer_when s slot n f i m ≡ None
  when_none own none m = elim (cases_eq m n) [
    | inl here ↦ rw here (when_own ∙ own)
    | inr other ↦ when_other m other none
  ]

  -- a row that is no region, or another one's
  when_no_maker : (m : ℕ) → answer_at s slot n f i ≡ None → is_region_of m (row s.rows n).kind ≡ false → answer_when s slot n f i m ≡ None
  when_no_maker m own none = cond_both (n == m) _ _ IsNone (λ _. own) (λ _. rw none refl)

-- L is what rows have been through before a step, and M after it.
module _ (fs : List Function) (L M : ℕ → Option Past) where
  abbrev Keeps : Moved × State → Type 0
  Keeps r = IsSourced fs M r.1

  either : (b : Bool) (r q : Moved × State) → (b ≡ true → Keeps r) → (b ≡ false → Keeps q) → Keeps (if b then r else q)
  either b r q if_true if_false = cond_both b r q Keeps if_true if_false

  abbrev Nothing : Type 0
  Nothing = (m : ℕ) → L m ≡ M m

  -- Row n is on top of a slot, with a valid program.
  record Here (s : State) (slot n : ℕ) : Type 0 where
    at : IsAt s slot n
    valid : IsValidProgram (program_of s n)
    was : IsSourced fs L s
    old : (m : ℕ) → m ≤ length s.rows → (p : Past) × (L m ≡ Some p)

  -- What row n executes answers rows.
  record Adds (s : State) (slot n : ℕ) (f : Frame) (i : Instr) : Type 0 where
    none : (m : ℕ) → answer_when s slot n f i m ≡ None → L m ≡ M m
    some : (m : ℕ) (a : Answer) (p : Past) → answer_when s slot n f i m ≡ Some a → L m ≡ Some p → Some (with_answer p a) ≡ M m
    new : (m : ℕ) → length s.rows < m → M m ≡ None

  module _ (s : State) (slot n : ℕ) (here : Here s slot n) where
    low_width : s.config.slots < 2 ^ 8
    low_width = let few = here.at.well.slots in omega (arith, few)

    low_slot : slot < 2 ^ 8
    low_slot = let low = here.at.slots in omega (arith, low, low_width)

    job_there : (1 ≤ (row s.rows n).job) × ((row s.rows n).job ≤ length s.jobs)
    job_there = here.at.well.linked.jobs n here.at.from here.at.to

    faults_sourced : Nothing → (f : JobFault) → Keeps (faults slot (row s.rows n).job f s)
    faults_sourced nothing f =
        let rows = map (faulted_row slot (task_height s.rows slot)) s.rows in
        entry_sourced fs M _ (on_job_sourced fs M (record s { rows = rows }) (row s.rows n).job
        (λ w. record w { fault = first_fault w.fault f }) job_there.0 job_there.1 refl (faulted_sourced fs M s slot (task_height s.rows slot) (sourced_so fs L M s nothing here.was)))

    limited : (is_row_limit_met s ≡ true → Nothing) → (r : Moved × State) → (is_row_limit_met s ≡ false → Keeps r)
        → Keeps (if is_row_limit_met s then faults slot (row s.rows n).job fault.TaskLimit s else r)
    limited nothing r made = either (is_row_limit_met s) _ r (λ met. faults_sourced (nothing met) fault.TaskLimit) made

    abbrev Goes : Frame → Type 0
    Goes g = Follows fs (program_of s n) slot s.config.slots g (past_or (M n) g)

    -- Row n stays on top, and others are answered nothing.
    module _ (others : (m : ℕ) → m ≢ n → L m ≡ M m) where
      set_sourced : (f : Row → Row) → (f (row s.rows n)).job ≡ (row s.rows n).job → (f (row s.rows n)).phase ≡ (row s.rows n).phase → Goes (f (row s.rows n)).frame → IsSourced fs M (on_row s n f)
      set_sourced f job phase is =
          on_row_sourced fs L M s n f here.at.from here.at.to job others
          (live_follows fs (M n) (program_of s n) s.config.slots (f (row s.rows n)) slot (height s.rows slot) (phase ∙ here.at.live) is) here.was

      moved : (f : Frame) → Goes f → IsSourced fs M (with_frame s n f)
      moved f is = set_sourced (λ r. record r { frame = f }) refl refl is

      learned : (f : Frame) → Goes f → Keeps (finish_step slot (with_frame s n f))
      learned f is = entry_sourced fs M _ (moved f is)

      touched : (f : Frame) (k : ℕ) (v : ℤ) → FitsSigned w64 v → Goes f → Keeps (finish_step slot (with_cells (with_frame s n f) (with_cell s.cells k slot v)))
      touched f k v fv is = entry_sourced fs M _
          (with_cells_sourced fs M (with_frame s n f) (with_cell s.cells k slot v) (with_cell_fits s.cells k slot v fv here.was.cells) (moved f is))

      made : ((m : ℕ) → length s.rows < m → M m ≡ None) → (f g : Frame) (k : Kind) (made_on : Option ℕ) (phase : Phase) → Goes f
          → ((o : Option Past) → o ≡ None → RowFollows fs o (program_of s n) s.config.slots (new_row k (row s.rows n).job made_on g phase))
          → Keeps (finish_step slot (add_row (with_frame s n f) (new_row k (row s.rows n).job made_on g phase)))
      made unborn f g k made_on phase is new =
          let after : length s.rows < length (with_frame s n f).rows + 1 = omega (arith, length-with s.rows n (record (row s.rows n) { frame = f })) in
          entry_sourced fs M _ (add_row_sourced fs M (with_frame s n f) (new_row k (row s.rows n).job made_on g phase) (new _ (unborn _ after)) (moved f is))

    module _ (f : Frame) (p : Past) (known : L n ≡ Some p) (is : Follows fs (program_of s n) slot s.config.slots f p) (stands : Stands (program_of s n) f) where
      called : (q a b : ℕ) → q < length (program_of s n) → Begins fs (program_of s n) s.config.slots (called_frame f q a b)
      called q a b low = begins fs (program_of s n) here.valid s.config.slots low_width q (register f a) (register f b) low (is.fit a) (is.fit b)

      calls : (i : Instr) → instr_at (program_of s n) f ≡ Some i → Calls (length (program_of s n)) i
      calls i at = (in_range (program_of s n) here.valid f i stands at).1

      -- where no row is answered
      stays_so : Nothing → Goes f
      stays_so nothing = subst (λ o. Follows fs (program_of s n) slot s.config.slots f (past_or o f)) (sym known ∙ nothing n) is

      module _ (i : Instr) (at : instr_at (program_of s n) f ≡ Some i) (adds : Adds s slot n f i) where
        -- an instruction that is not answered
        unanswered : answer_at s slot n f i ≡ None → value_at s n f i ≡ None → Nothing
        unanswered own none m = adds.none m (when_none s slot n f i own none m)

        -- and one that is
        others : value_at s n f i ≡ None → (m : ℕ) → m ≢ n → L m ≡ M m
        others none m other = adds.none m (when_other s slot n f i m other none)

        follows_on : effect i slot s.config.slots f ≡ IsShared → (a : Answer) → operation_of i f ≡ Some a.operation → is_return a.operation ≡ false
            → answer_to s slot n a.operation ≡ Some (a.first, a.second) → FitsSigned w64 a.first → FitsSigned w64 a.second → (resumed i a.first a.second f).procedure ≡ f.procedure
            → RegsFit (resumed i a.first a.second f).registers → Goes (resumed i a.first a.second f)
        follows_on shared a asks not_last answers fx fy there fit =
            let own : answer_at s slot n f i ≡ Some a = rw (asks, answers) refl in
            let g = resumed i a.first a.second f in
            subst (λ o. Follows fs (program_of s n) slot s.config.slots g (past_or o g)) (adds.some n a p (when_own s slot n f i ∙ own) known)
            (goes_on fs (program_of s n) slot s.config.slots f p is i at shared a asks not_last fx fy there fit)

      -- the value of register a is returned
      module _ (a : ℕ) (at : instr_at (program_of s n) f ≡ Some (Ret a)) (adds : Adds s slot n f (Ret a)) (unused : has_used_group s n ≡ false) where
        ended : (N : ℕ → Option Past) → ((m : ℕ) → L m ≡ N m) → IsSourced fs N (on_row s n (λ r. record r { frame = f; phase = Done (register f a) }))
        ended N so =
            let procs = program_of s n in
            let r = record (row s.rows n) { frame = f; phase = Done (register f a) } in
            let done : RowFollows fs (Some p) procs s.config.slots r =
            record { fit = is.fit; does = λ compiled. returns fs procs slot s.config.slots f p here.at.slots (is.does compiled) a at } in
            on_row_sourced fs L N s n (λ r. record r { frame = f; phase = Done (register f a) }) here.at.from here.at.to refl (λ m _. so m)
            (subst (λ o. RowFollows fs o procs s.config.slots r) (sym known ∙ so n) done) here.was

        -- it is no region's
        alone : (k : Kind) → (row s.rows n).kind ≡ k → ((m : ℕ) → is_region_of m k ≡ false) → IsSourced fs M (on_row s n (λ r. record r { frame = f; phase = Done (register f a) }))
        alone k kind none = ended M (λ m. adds.none m (when_no_maker s slot n f (Ret a) m refl (ap (is_region_of m) kind ∙ none m)))

        module _ (m : ℕ) (kind : (row s.rows n).kind ≡ Region m) where
          maker : (1 ≤ m) × (m < n)
          maker = rw kind at (here.at.well.linked.makers n here.at.from here.at.to)

          -- what the maker is answered
          told : answer_when s slot n f (Ret a) m ≡ answer_by_region (row s.rows m).frame (instr_at (program_of s m) (row s.rows m).frame) (Some (register f a))
          told =
              let apart : (n == m) ≡ false = grind (arith, nat_tests, maker) in
              let same : (m == m) ≡ true = grind (arith, nat_tests) in
              rw (apart, kind, same, unused) refl

          maker_follows : RowFollows fs (M m) (program_of s m) s.config.slots
              (record (row s.rows m) { frame = handed_frame (instr_at (program_of s m) (row s.rows m).frame) (register f a) (row s.rows m).frame })
          maker_follows =
              let below = here.at.well.on_makers.below n m slot (height s.rows slot) kind here.at.live in
              let to = here.at.to in
              let g = (row s.rows m).frame in
              let procs = program_of s m in
              let its = here.old m (omega (arith, maker, to)) in
              let was = subst (λ o. Follows fs procs slot s.config.slots g (past_or o g)) its.1
              (follows_live fs (L m) procs s.config.slots (row s.rows m) slot (height s.rows slot - 1) below (here.was.rows m maker.0 (omega (arith, maker, to)))) in
              live_follows fs (M m) procs s.config.slots _ slot (height s.rows slot - 1) below
              (handed_follows fs procs slot s.config.slots g its.0 (M m) was (instr_at procs g) refl (register f a) (is.fit a)
              (λ none. sym its.1 ∙ adds.none m (told ∙ none)) (λ answer some. adds.some m answer its.0 (told ∙ some) its.1))

          region_ended : IsSourced fs M (hand_to (on_row s n (λ r. record r { frame = f; phase = Done (register f a) })) m (register f a))
          region_ended =
              let v = register f a in
              let r = record (row s.rows n) { frame = f; phase = Done v } in
              let apart : m ≢ n = omega (arith, maker) in
              let to = here.at.to in
              let t = on_row s n (λ r. record r { frame = f; phase = Done v }) in
              let kept = subst
              (λ (q : Row). RowFollows fs (M m) (job s.jobs q.job).program s.config.slots (record q { frame = handed_frame (instr_at (job s.jobs q.job).program q.frame) v q.frame }))
              (sym (row-with_other s.rows n m r here.at.from apart)) maker_follows in
              on_row_sourced fs L M t m (λ r. record r { frame = handed_frame (instr_at (job t.jobs r.job).program r.frame) v r.frame }) maker.0
              (omega (arith, maker, to, length-with s.rows n r)) refl others_than kept (ended L (λ k. refl))
            where
              others_than : (k : ℕ) → k ≢ m → L k ≡ M k
              others_than k other =
                  let apart : (m == k) ≡ false = grind (arith, nat_tests, other) in
                  adds.none k (when_no_maker s slot n f (Ret a) k refl (ap (is_region_of k) kind ∙ apart))

        handed : (k : Kind) → (row s.rows n).kind ≡ k → IsSourced fs M (hand_back (on_row s n (λ r. record r { frame = f; phase = Done (register f a) })) k (register f a))
        handed Root kind = alone Root kind (λ m. refl)
        handed Posted kind = alone Posted kind (λ m. refl)
        handed (Spawned m g) kind = alone (Spawned m g) kind (λ k. refl)
        handed (Region m) kind = region_ended m kind

      waited : (d e g : ℕ) → instr_at (program_of s n) f ≡ Some (Wait d e g) → Adds s slot n f (Wait d e g)
          → Goes (write_and_step (record f { registers = slice_set f.registers d (total s.rows n g) }) e (group_status s n g))
      waited d e g at adds =
          let sum : FitsSigned w64 (total s.rows n g) = fold_fits (λ (p : NumberedRow). value_in p.1.phase) (pos 0) nought_fits (members s.rows n g) in
          let how : FitsSigned w64 (group_status s n g) = status_fits ((mark s.rows n g).cancelled || is_context_cancelled s n) in
          follows_on (Wait d e g) at adds refl (with_numbers (Waits g) (total s.rows n g, group_status s n g)) refl refl refl sum how refl
          (regs_set (slice_set f.registers d (total s.rows n g)) e (group_status s n g) how (regs_set f.registers d (total s.rows n g) sum is.fit))

      execute_sourced : (i : Instr) → instr_at (program_of s n) f ≡ Some i → Adds s slot n f i → Keeps (execute s slot n f i)
      execute_sourced (Spawn g p a b) at adds =
          let does = Spawns g p (register f a) (register f b) in
          limited (λ met. unanswered (Spawn g p a b) at adds (rw met refl) refl) _
          (λ unmet. made (others (Spawn g p a b) at adds refl) adds.new (next_place f) (called_frame f p a b) (Spawned n g) (Some slot) Unstarted
          (follows_on (Spawn g p a b) at adds refl (with_numbers does (pos 0, pos 0)) refl refl (rw unmet refl) nought_fits nought_fits refl is.fit)
          (λ o none. unstarted_follows fs o (program_of s n) s.config.slots _ refl none (called p a b (calls (Spawn g p a b) at))))
      execute_sourced (Post p a b) at adds =
          let does = Posts p (register f a) (register f b) in
          limited (λ met. unanswered (Post p a b) at adds (rw met refl) refl) _
          (λ unmet. made (others (Post p a b) at adds refl) adds.new (next_place f) (called_frame f p a b) Posted None Unstarted
          (follows_on (Post p a b) at adds refl (with_numbers does (pos 0, pos 0)) refl refl (rw unmet refl) nought_fits nought_fits refl is.fit)
          (λ o none. unstarted_follows fs o (program_of s n) s.config.slots _ refl none (called p a b (calls (Post p a b) at))))
      execute_sourced (Isolate d p a b) at adds =
          let nothing = unanswered (Isolate d p a b) at adds refl refl in
          let g = called_frame f p a b in
          either (height s.rows slot == MAX_HEIGHT) _ _ (λ _. faults_sourced nothing fault.TooDeep)
          (λ _. limited (λ _. nothing) _ (λ _. made (λ m _. nothing m) adds.new f g (Region n) (Some slot) (Live slot (height s.rows slot + 1)) (stays_so nothing)
          (λ o none. live_follows fs o (program_of s n) s.config.slots _ slot (height s.rows slot + 1) refl
          (subst (λ x. Follows fs (program_of s n) slot s.config.slots g (past_or x g)) (sym none)
          (started fs (program_of s n) here.valid s.config.slots low_width slot low_slot g (called p a b (calls (Isolate d p a b) at)))))))
      execute_sourced (Wait d e g) at adds = entry_sourced fs M _ (set_sourced (others (Wait d e g) at adds refl) (λ r. record r {
        frame = write_and_step (record f { registers = slice_set f.registers d (total s.rows n g) }) e (group_status s n g);
        marks = slice_set r.marks g (record { rows = length s.rows; cancelled = false });
      }) refl refl (waited d e g at adds))
      execute_sourced (Cancel g) at adds = entry_sourced fs M _ (set_sourced (others (Cancel g) at adds refl) (λ r. record r {
        frame = next_place f;
        marks = slice_set r.marks g (record (mark s.rows n g) { cancelled = true });
      }) refl refl (follows_on (Cancel g) at adds refl (with_numbers (Cancels g) (pos 0, pos 0)) refl refl refl nought_fits nought_fits refl is.fit))
      execute_sourced (Ask d) at adds =
          let v = if is_context_cancelled s n then pos 1 else pos 0 in
          let fv = bit_fits (is_context_cancelled s n) in
          learned (others (Ask d) at adds refl) _ (follows_on (Ask d) at adds refl (with_numbers Asks (v, pos 0)) refl refl refl fv nought_fits refl (regs_set f.registers d v fv is.fit))
      execute_sourced (Load d k) at adds =
          let v = unwrap_or (cell s.cells k slot) (pos 0) in
          let fv = here.was.cells k slot in
          touched (others (Load d k) at adds refl) _ k v fv
          (follows_on (Load d k) at adds refl (with_numbers (Loads k) (v, pos 0)) refl refl refl fv nought_fits refl (regs_set f.registers d v fv is.fit))
      execute_sourced (Store k a) at adds =
          touched (others (Store k a) at adds refl) (next_place f) k (register f a) (is.fit a)
          (follows_on (Store k a) at adds refl (with_numbers (Stores k (register f a)) (pos 0, pos 0)) refl refl refl nought_fits nought_fits refl is.fit)
      execute_sourced (Sum d k) at adds =
          let fv = sum_fits s.cells k in
          learned (others (Sum d k) at adds refl) _
          (follows_on (Sum d k) at adds refl (with_numbers (Sums k) (cell_sum s.cells k, pos 0)) refl refl refl fv nought_fits refl (regs_set f.registers d _ fv is.fit))
      execute_sourced (Count d k) at adds =
          let fv = count_fits s.cells k here.at.well.table in
          learned (others (Count d k) at adds refl) _
          (follows_on (Count d k) at adds refl (with_numbers (Counts k) (pos (cell_count s.cells k), pos 0)) refl refl refl fv nought_fits refl (regs_set f.registers d _ fv is.fit))
      execute_sourced (Ret a) at adds =
          either (has_used_group s n) _ _ (λ used. faults_sourced (unanswered (Ret a) at adds refl (rw used refl)) fault.MissingWait)
          (λ unused. entry_sourced fs M _ (handed a at adds unused (row s.rows n).kind refl))
      execute_sourced i at adds = learned (λ m other. unanswered i at adds refl refl m) f (stays_so (unanswered i at adds refl refl))

  module _ (s : State) (slot n : ℕ) (here : Here s slot n) where
    -- the programs of jobs, where the job of row n has other fuel
    same_programs : (fuel k : ℕ) → (job (with_fuel s n fuel).jobs k).program ≡ (job s.jobs k).program
    same_programs fuel k =
        let there = job_there s slot n here in
        programs_stay s.jobs (row s.rows n).job (record (job s.jobs (row s.rows n).job) { fuel = fuel }) there.0 there.1 refl k

    same_context : (fuel : ℕ) → is_context_cancelled (with_fuel s n fuel) n ≡ is_context_cancelled s n
    same_context fuel =
        let there = job_there s slot n here in
        ap (λ (w : Work). is_job_cancelled w || list_any (λ m. is_group_cancelled s.rows (row s.rows m).kind) (chain s.rows n))
        (at_number-with_same s.jobs _ (row s.rows n).job (record (job s.jobs (row s.rows n).job) { fuel = fuel }) there.0 there.1)

    same_answer : (fuel : ℕ) (o : Operation) → answer_to (with_fuel s n fuel) slot n o ≡ answer_to s slot n o
    same_answer fuel (Waits g) = ap (λ (b : Bool). Some (total s.rows n g, if (mark s.rows n g).cancelled || b then pos 2 else pos 1)) (same_context fuel)
    same_answer fuel Asks = ap (λ (b : Bool). Some (if b then pos 1 else pos 0, pos 0)) (same_context fuel)
    same_answer fuel o = refl

    same_when : (fuel : ℕ) (f : Frame) (i : Instr) (m : ℕ) → answer_when (with_fuel s n fuel) slot n f i m ≡ answer_when s slot n f i m
    same_when fuel f i m = own (operation_of i f) ∙ by_region
      where
        rest : Option Answer
        rest = if is_region_of m (row s.rows n).kind
            then answer_by_region (row s.rows m).frame (instr_at (program_of (with_fuel s n fuel) m) (row s.rows m).frame) (value_at s n f i)
            else None

        own : (o : Option Operation)
            → (if n == m then option_and_then (λ o. option_map (with_numbers o) (answer_to (with_fuel s n fuel) slot n o)) o else rest)
            ≡ (if n == m then option_and_then (λ o. option_map (with_numbers o) (answer_to s slot n o)) o else rest)
        own None = refl
        own (Some o) = rw (same_answer fuel o) refl

        by_region : (if n == m then answer_at s slot n f i else rest) ≡ answer_when s slot n f i m
        by_region = ap (λ (procs : List (List Instr)). if n == m then answer_at s slot n f i
            else if is_region_of m (row s.rows n).kind then answer_by_region (row s.rows m).frame (instr_at procs (row s.rows m).frame) (value_at s n f i) else None)
            (same_programs fuel (row s.rows m).job)

    fueled : (fuel : ℕ) → Here (with_fuel s n fuel) slot n
    fueled fuel =
        let there = job_there s slot n here in
        record {
          at = record {
            well = on_job_kept s (row s.rows n).job (λ w. record w { fuel = fuel }) here.at.well;
            slots = here.at.slots;
            from = here.at.from;
            to = here.at.to;
            live = here.at.live;
          };
          valid = rw (same_programs fuel (row s.rows n).job) here.valid;
          was = on_job_sourced fs L s (row s.rows n).job (λ w. record w { fuel = fuel }) there.0 there.1 refl here.was;
          old = here.old;
        }

    pay_sourced : (cost : ℕ) (next : State → Moved × State) → (is_poor s n cost ≡ true → Nothing) → (is_poor s n cost ≡ false → (fuel : ℕ) → Keeps (next (with_fuel s n fuel)))
        → Keeps (pay s slot n cost next)
    pay_sourced cost next nothing kept =
        either (is_poor s n cost) _ _ (λ poor. faults_sourced (with_fuel s n 0) slot n (fueled 0) (nothing poor) fault.Fuel) (λ paid. kept paid _)

    module _ (f : Frame) (p : Past) (known : L n ≡ Some p) (is : Follows fs (program_of s n) slot s.config.slots f p) (stands : Stands (program_of s n) f) where
      fueled_too : (fuel : ℕ) → Follows fs (program_of (with_fuel s n fuel) n) slot s.config.slots f p
      fueled_too fuel = rw (same_programs fuel (row s.rows n).job) is

      stands_too : (fuel : ℕ) → Stands (program_of (with_fuel s n fuel) n) f
      stands_too fuel = rw (same_programs fuel (row s.rows n).job) stands

      move_on_sourced : Nothing → (count : ℕ) → Keeps (move_on s slot n count f)
      move_on_sourced nothing count =
          pay_sourced count (λ t. finish_step slot (with_frame t n f)) (λ _. nothing)
          (λ _ fuel. learned (with_fuel s n fuel) slot n (fueled fuel) (λ m _. nothing m) f
          (stays_so (with_fuel s n fuel) slot n (fueled fuel) f p known (fueled_too fuel) (stands_too fuel) nothing))

      executed_sourced : (fuel : ℕ) (i : Instr) → instr_at (program_of s n) f ≡ Some i → Adds s slot n f i → Keeps (execute (with_fuel s n fuel) slot n f i)
      executed_sourced fuel i at adds =
          let at_too : instr_at (program_of (with_fuel s n fuel) n) f ≡ Some i = rw (same_programs fuel (row s.rows n).job) at in
          execute_sourced (with_fuel s n fuel) slot n (fueled fuel) f p known (fueled_too fuel) (stands_too fuel) i at_too (record {
            none = λ m none. adds.none m (sym (same_when fuel f i m) ∙ none);
            some = λ m a q some its. adds.some m a q (sym (same_when fuel f i m) ∙ some) its;
            new = adds.new;
          })

      -- what follows the run, where rows are answered what it answers
      module _ (count : ℕ) (new : (m : ℕ) → length s.rows < m → M m ≡ None) where
        after_run_sourced : (stop : Stop) → ((i : Instr) → stop ≡ Shared i → instr_at (program_of s n) f ≡ Some i) → ((m : ℕ) → answer_after s slot n count f stop m ≡ None → L m ≡ M m)
            → ((m : ℕ) (a : Answer) (q : Past) → answer_after s slot n count f stop m ≡ Some a → L m ≡ Some q → Some (with_answer q a) ≡ M m) → Keeps (after_run s slot n count f stop)
        after_run_sourced Yield at none some = move_on_sourced (λ m. none m refl) count
        after_run_sourced Fault at none some =
            pay_sourced count (λ t. faults slot (row t.rows n).job fault.Division t) (λ _ m. none m refl)
            (λ _ fuel. faults_sourced (with_fuel s n fuel) slot n (fueled fuel) (λ m. none m refl) fault.Division)
        after_run_sourced (Shared i) at none some =
            either (is_blocked s n i) _ _ (λ blocked. move_on_sourced (λ m. none m (rw blocked refl)) count)
            (λ ready. pay_sourced (count + 1) (λ t. execute t slot n f i) (λ poor m. none m (rw (ready, poor) refl))
            (λ paid fuel. executed_sourced fuel i (at i refl) (record {
              none = λ m is_none. none m (rw (ready, paid) is_none);
              some = λ m a q is_some its. some m a q (rw (ready, paid) is_some) its;
              new = new;
            })))

  -- a row picked by a slot
  nest_sourced : (s : State) (slot m : ℕ) → IsWellFormed s → IsUnstuck s → slot < s.config.slots → pick s slot ≡ Some m → IsSourced fs M s → IsSourced fs M (nest s slot m)
  nest_sourced s slot m well unstuck low picked is =
      let its = pick_is s.config.isolation s.rows slot m picked in
      let few = well.slots in
      let low_width : s.config.slots < 2 ^ 8 = omega (arith, few) in
      let low_slot : slot < 2 ^ 8 = omega (arith, low, low_width) in
      let there = well.linked.jobs m its.0 its.1 in
      let valid : IsValidProgram (program_of s m) = unstuck.programs (row s.rows m).job there.0 there.1 in
      let new = starts_live fs (M m) (program_of s m) s.config.slots (row s.rows m) slot low_width low_slot valid (waits (row s.rows m).phase its.2) (is.rows m its.0 its.1) in
      on_row_sourced fs M M s m (λ r. record r { phase = Live slot (height s.rows slot + 1) }) its.0 its.1 refl (λ k _. refl)
      (live_follows fs (M m) (program_of s m) s.config.slots _ slot (height s.rows slot + 1) refl new) is

  module _ (s : State) (slot : ℕ) (well : IsWellFormed s) (unstuck : IsUnstuck s) (was : IsSourced fs L s) (old : (m : ℕ) → m ≤ length s.rows → (p : Past) × (L m ≡ Some p))
      (new : (m : ℕ) → length s.rows < m → M m ≡ None) where
    nested : Nothing → (m : ℕ) → slot < s.config.slots → pick s slot ≡ Some m → IsSourced fs M (nest s slot m)
    nested nothing m low picked = nest_sourced s slot m well unstuck low picked (sourced_so fs L M s nothing was)

    blocked_sourced : Nothing → (n : ℕ) (o : Option ℕ) → Here s slot n → pick s slot ≡ o → Keeps (nest_pick s slot n o)
    blocked_sourced nothing n None here picked = sourced_so fs L M s nothing was
    blocked_sourced nothing n (Some m) here picked =
        either (height s.rows slot == MAX_HEIGHT) _ _ (λ _. faults_sourced s slot n here nothing fault.TooDeep) (λ _. entry_sourced fs M _ (nested nothing m here.at.slots picked))

    begin_sourced : Nothing → (o : Option ℕ) → slot < s.config.slots → pick s slot ≡ o → Keeps (begin s slot o)
    begin_sourced nothing None low picked = sourced_so fs L M s nothing was
    begin_sourced nothing (Some m) low picked = either (nat_lt slot s.config.reserved) _ _ (λ _. sourced_so fs L M s nothing was) (λ _. entry_sourced fs M _ (nested nothing m low picked))

    -- the topmost row of the slot
    on_top : (n : ℕ) → slot < s.config.slots → top s.rows slot ≡ Some n → Here s slot n
    on_top n low some =
        let there = top_is s.rows slot n some in
        let job = well.linked.jobs n there.0 there.1 in
        record {
          at = record { well = well; slots = low; from = there.0; to = there.1; live = there.2 };
          valid = unstuck.programs (row s.rows n).job job.0 job.1;
          was = was;
          old = old;
        }

    -- at a wait for pending members, no row is answered
    idle_none : (n count : ℕ) (f : Frame) (stop : Stop) → is_idle_wait s n count stop ≡ true → (m : ℕ) → answer_after s slot n count f stop m ≡ None
    idle_none n count f Yield idle m = refl
    idle_none n count f Fault idle m = refl
    idle_none n count f (Shared i) idle m = let blocked : is_blocked s n i ≡ true = (and_parts (is_blocked s n i) (count == 0) idle).0 in rw blocked refl

    -- M are the answers that an advance gives.
    module _ (low : slot < s.config.slots) (none : (m : ℕ) → answer_in s (steps.Advance slot) m ≡ None → L m ≡ M m)
        (some : (m : ℕ) (a : Answer) (p : Past) → answer_in s (steps.Advance slot) m ≡ Some a → L m ≡ Some p → Some (with_answer p a) ≡ M m) where
      -- in a history that has no room
      full_none : is_full s ≡ true → Nothing
      full_none full m = none m (cond_both (nat_lt slot s.config.slots) _ _ IsNone (λ _. rw full refl) (λ _. refl))

      -- and in one that has
      has_room : is_full s ≡ false → (o : Option ℕ) → top s.rows slot ≡ o → (m : ℕ) → answer_in s (steps.Advance slot) m ≡ answer_by s slot o m
      has_room room o is m = let yes : nat_lt slot s.config.slots ≡ true = grind (arith, low) in rw (yes, room, is) refl

      quiet : (o : Option ℕ) → top s.rows slot ≡ o → ((m : ℕ) → answer_by s slot o m ≡ None) → Nothing
      quiet o is nothing = by_room (is_full s) refl
        where
          by_room : (b : Bool) → is_full s ≡ b → Nothing
          by_room true full m = full_none full m
          by_room false room m = none m (has_room room o is m ∙ nothing m)

      run_sourced : (n : ℕ) → top s.rows slot ≡ Some n → (would_be_recorded (advance_run s slot n (run_on s slot n)).0 && is_full s) ≡ false → Keeps (advance_run s slot n (run_on s slot n))
      run_sourced n is_top room =
          let here = on_top n low is_top in
          let r = run_on s slot n in
          let f = (row s.rows n).frame in
          let procs = program_of s n in
          let ends : EndsWell procs here.valid r = run_ends procs here.valid slot s.config.slots f (unstuck.frames n here.at.from here.at.to) in
          let its = old n here.at.to in
          let first = subst (λ o. Follows fs procs slot s.config.slots f (past_or o f)) its.1
          (follows_live fs (L n) procs s.config.slots (row s.rows n) slot (height s.rows slot) here.at.live (was.rows n here.at.from here.at.to)) in
          let follows = ends_following fs procs here.valid s.config.slots (low_width s slot n here) slot (low_slot s slot n here) f its.0 first in
          either (is_idle_wait s n r.count r.stop) _ _ (λ idle. blocked_sourced (quiet (Some n) is_top (idle_none n r.count r.end r.stop idle)) n (pick s slot) here refl) (λ runs.
          let recorded : (would_be_recorded (after_run s slot n r.count r.end r.stop).0 && is_full s) ≡ false = rw runs at room in
          let free : is_full s ≡ false = grind (arith, recorded, after_run_recorded s slot n r.count r.end r.stop) in
          after_run_sourced s slot n here r.end its.0 its.1 follows ends.end r.count new r.stop ends.stop (λ m is_none. none m (has_room free (Some n) is_top m ∙ is_none))
          (λ m a p is_some known. some m a p (has_room free (Some n) is_top m ∙ is_some) known))

      top_sourced : (o : Option ℕ) → top s.rows slot ≡ o → (would_be_recorded (advance_top s slot o).0 && is_full s) ≡ false → Keeps (advance_top s slot o)
      top_sourced None is room = begin_sourced (quiet None is (λ m. refl)) (pick s slot) low refl
      top_sourced (Some n) is room = run_sourced n is room

      low_sourced : Keeps (unless_full s (advance_top s slot (top s.rows slot)))
      low_sourced =
          let r = advance_top s slot (top s.rows slot) in
          either (would_be_recorded r.0 && is_full s) _ r (λ full. sourced_so fs L M s (full_none (and_parts _ _ full).1) was) (λ room. top_sourced (top s.rows slot) refl room)

    advance_sourced : ((m : ℕ) → answer_in s (steps.Advance slot) m ≡ None → L m ≡ M m)
        → ((m : ℕ) (a : Answer) (p : Past) → answer_in s (steps.Advance slot) m ≡ Some a → L m ≡ Some p → Some (with_answer p a) ≡ M m) → Keeps (advance s slot)
    advance_sourced none some =
        either (nat_lt slot s.config.slots) _ _ (λ low. low_sourced (grind (arith, low)) none some)
        (λ high. sourced_so fs L M s (λ m. none m (rw high refl)) was)

    arrived_sourced : Nothing → (o : Option ℕ) → slot < s.config.slots → pick s slot ≡ o → IsSourced fs M (arrive_at s slot o).1
    arrived_sourced nothing None low picked = sourced_so fs L M s nothing was
    arrived_sourced nothing (Some m) low picked =
        cond_both (is_full s) _ _ (λ (r : Came × State). IsSourced fs M r.1) (λ _. sourced_so fs L M s nothing was) (λ _. entry_sourced fs M _ (nested nothing m low picked))

    arrive_sourced : Nothing → IsSourced fs M (arrive s slot).1
    arrive_sourced nothing =
        cond_both (is_open_to_workers s slot) _ _ (λ (r : Came × State). IsSourced fs M r.1) (λ opened. arrived_sourced nothing (pick s slot) (grind (arith, opened)) refl)
        (λ _. sourced_so fs L M s nothing was)

-- A job has a valid program and arguments that fit.
record IsGood (j : Job) : Type 0 where
  valid : IsValidProgram j.program
  numbers : (k : ℕ) → FitsSigned w64 (slice_index_or j.args k (pos 0))

module _ (fs : List Function) (M : ℕ → Option Past) where
  abbrev KeepsReply : Reply × State → Type 0
  KeepsReply r = IsSourced fs M r.1

  either_reply : (b : Bool) (r q : Reply × State) → (b ≡ true → KeepsReply r) → (b ≡ false → KeepsReply q) → KeepsReply (if b then r else q)
  either_reply b r q if_true if_false = cond_both b r q KeepsReply if_true if_false

  module _ (s : State) (sound : IsSound s) (is : IsSourced fs M s) (new : M (length s.rows + 1) ≡ None) where
    root_begins : (j : Job) → IsGood j → Begins fs j.program s.config.slots (new_frame 0 (slice_index_or j.args 0 (pos 0)) (slice_index_or j.args 1 (pos 0)))
    root_begins j good =
        let few = sound.well_formed.slots in
        begins fs j.program good.valid s.config.slots (omega (arith, few)) 0 _ _ good.valid.some (good.numbers 0) (good.numbers 1)

    submitted : (j : Job) → IsGood j → IsSourced fs M (add_job s j Unstarted)
    submitted j good =
        add_job_sourced fs M s j Unstarted sound.well_formed.linked (unstarted_follows fs (M (length s.rows + 1)) j.program s.config.slots _ refl new (root_begins j good)) is

    placed : (j : Job) (slot : ℕ) → slot < s.config.reserved → IsGood j → IsSourced fs M (add_job s j (Live slot 1))
    placed j slot low good =
        let few = sound.well_formed.slots in
        let more = sound.tended.reserved in
        let g = new_frame 0 (slice_index_or j.args 0 (pos 0)) (slice_index_or j.args 1 (pos 0)) in
        let starts = started fs j.program good.valid s.config.slots (omega (arith, few)) slot (omega (arith, few, more, low)) g (root_begins j good) in
        add_job_sourced fs M s j (Live slot 1) sound.well_formed.linked
        (live_follows fs (M (length s.rows + 1)) j.program s.config.slots _ slot 1 refl (subst (λ o. Follows fs j.program slot s.config.slots g (past_or o g)) (sym new) starts)) is

    executed : (j : Job) (o : Option ℕ) → free_slot s ≡ o → IsGood j → KeepsReply (submit_placed s j o)
    executed j None free good = entry_sourced fs M _ (submitted j good)
    executed j (Some slot) free good = entry_sourced fs M _ (placed j slot (free_slot_is s slot free).0 good)

    limited_reply : (r : Reply × State) → KeepsReply r → KeepsReply (unless_limit s r)
    limited_reply r made = either_reply (nat_le MAX_JOBS (current_jobs s)) _ _ (λ _. entry_sourced fs M s is) (λ _. either_reply (is_row_limit_met s) _ r (λ _. entry_sourced fs M s is) (λ _. made))

    of_job_sourced : (o : Option Work) (next : Work → Reply × State) (r : Reply × State) → KeepsReply r → ((w : Work) → o ≡ Some w → KeepsReply (next w)) → KeepsReply (option_map_or next o r)
    of_job_sourced None next r none some = none
    of_job_sourced (Some w) next r none some = some w refl

    collected : (j : ℕ) (how : Status) → KeepsReply (collect s j how)
    collected j status.Running = is
    collected j status.Cancelled = entry_sourced fs M s is
    collected j (status.Complete v) = entry_sourced fs M s is
    collected j (status.Fault f) = entry_sourced fs M s is

    cancelled : (j : ℕ) (w : Work) → known_job s j ≡ Some w → KeepsReply (cancel_by_request s j w)
    cancelled j w known =
        let there = known_there s.jobs j (at_number s.jobs j) w refl known in
        either_reply (is_job_cancelled w || has_outcome s.rows j) _ _ (λ _. entry_sourced fs M s is)
        (λ _. entry_sourced fs M _ (on_job_sourced fs M s j (λ v. record v { cancelled = true }) there.0 there.1 refl is))

    retired : KeepsReply (retire s)
    retired = either_reply (list_any (λ (r : Row). is_open r.phase) s.rows) _ _ (λ _. entry_sourced fs M s is)
        (λ _. entry_sourced fs M _ (retired_sourced fs M s no_cells (s.epoch + 1) sound.well_formed.linked no_cells_fit is))

    released_sourced : (j : ℕ) (w : Work) → known_job s j ≡ Some w → IsSourced fs M (released s j)
    released_sourced j w known =
        let there = known_there s.jobs j (at_number s.jobs j) w refl known in
        entry_sourced fs M _ (on_job_sourced fs M s j retired_work there.0 there.1 refl is)

    reply_sourced : (r : Request) → BringsValid r → BringsNumbers r → KeepsReply (reply_to s r)
    reply_sourced (request.Hello name) valid numbers = is
    reply_sourced (request.Submit j) valid numbers = limited_reply _ (entry_sourced fs M _ (submitted j (record { valid = valid; numbers = numbers })))
    reply_sourced (request.Execute j) valid numbers = limited_reply _ (executed j (free_slot s) refl (record { valid = valid; numbers = numbers }))
    reply_sourced (request.Poll j) valid numbers = of_job_sourced (known_job s j) _ _ (entry_sourced fs M s is) (λ w known. entry_sourced fs M s is)
    reply_sourced (request.Collect j) valid numbers = of_job_sourced (known_job s j) _ _ (entry_sourced fs M s is) (λ w known. collected j _)
    reply_sourced (request.Cancel j) valid numbers = of_job_sourced (known_job s j) _ _ (entry_sourced fs M s is) (λ w known. cancelled j w known)
    reply_sourced (request.Cells k) valid numbers = entry_sourced fs M s is
    reply_sourced request.Arena valid numbers = entry_sourced fs M s is
    reply_sourced request.Retire valid numbers = retired
    reply_sourced (request.Release j) valid numbers =
        of_job_sourced (known_job s j) _ _ (entry_sourced fs M s is) (λ w known. either_reply (has_outcome s.rows j) _ _ (λ _. released_sourced j w known) (λ _. entry_sourced fs M s is))
    reply_sourced (request.Take j) valid numbers =
        of_job_sourced (known_job s j) _ _ (entry_sourced fs M s is) (λ w known. either_reply (has_outcome s.rows j) _ _ (λ _. released_sourced j w known) (λ _. is))

    ask_sourced : (r : Request) → BringsValid r → BringsNumbers r → IsSourced fs M (ask s r).1
    ask_sourced r valid numbers = either_reply (is_full s && not (is_hello r)) _ _ (λ _. is) (λ _. reply_sourced r valid numbers)

-- Each step keeps it, where M is what rows have been through then.
pub step_sourced : (fs : List Function) (L M : ℕ → Option Past) (s : State) (x : Step) → IsSound s → IsUnstuck s → StepBringsValid x → StepBringsNumbers x
    → ((m : ℕ) → m ≤ length s.rows → (p : Past) × (L m ≡ Some p)) → ((m : ℕ) → answer_in s x m ≡ None → L m ≡ M m)
    → ((m : ℕ) (a : Answer) (p : Past) → answer_in s x m ≡ Some a → L m ≡ Some p → Some (with_answer p a) ≡ M m) → ((m : ℕ) → length s.rows < m → M m ≡ None)
    → IsSourced fs L s → IsSourced fs M (step s x).1
step_sourced fs L M s (steps.Ask r) sound unstuck valid numbers old none some new was =
    ask_sourced fs M s sound (sourced_so fs L M s (λ m. none m refl) was) (new (length s.rows + 1) (omega arith)) r valid numbers
step_sourced fs L M s (steps.Arrive slot) sound unstuck valid numbers old none some new was =
    arrive_sourced fs L M s slot sound.well_formed unstuck was old new (λ m. none m refl)
step_sourced fs L M s (steps.Advance slot) sound unstuck valid numbers old none some new was =
    advance_sourced fs L M s slot sound.well_formed unstuck was old new none some

-- no step answers a row that is not made yet
pub unborn_none : (s : State) (x : Step) → IsWellFormed s → (m : ℕ) → length s.rows < m → answer_in s x m ≡ None
unborn_none s (steps.Ask r) well m after = refl
unborn_none s (steps.Arrive slot) well m after = refl
unborn_none s (steps.Advance slot) well m after =
    cond_both (nat_lt slot s.config.slots) _ _ IsNone (λ _. cond_both (is_full s) _ _ IsNone (λ _. refl) (λ _. by_top (top s.rows slot) refl)) (λ _. refl)
  where
    no_region : (n : ℕ) (k : Kind) → (row s.rows n).kind ≡ k → 1 ≤ n → n ≤ length s.rows → is_region_of m k ≡ false
    no_region n (Region j) kind from to =
        let maker : (1 ≤ j) × (j < n) = rw kind at (well.linked.makers n from to) in
        let apart : j ≢ m = omega (arith, maker, to, after) in
        grind (arith, nat_tests, apart)
    no_region n k kind from to = refl

    by_stop : (n count : ℕ) (f : Frame) → 1 ≤ n → n ≤ length s.rows → (stop : Stop) → answer_after s slot n count f stop m ≡ None
    by_stop n count f from to Yield = refl
    by_stop n count f from to Fault = refl
    by_stop n count f from to (Shared i) =
        let apart : (n == m) ≡ false = grind (arith, nat_tests, to, after) in
        let other = no_region n (row s.rows n).kind refl from to in
        cond_both (is_blocked s n i) _ _ IsNone (λ _. refl) (λ _. cond_both (is_poor s n (count + 1)) _ _ IsNone (λ _. refl) (λ _. rw (apart, other) refl))

    by_top : (o : Option ℕ) → top s.rows slot ≡ o → answer_by s slot o m ≡ None
    by_top None is = refl
    by_top (Some n) is =
        let there = top_is s.rows slot n is in
        let r = run_on s slot n in
        by_stop n r.count r.end there.0 there.1 r.stop
