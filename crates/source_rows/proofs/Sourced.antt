-- Changes after which each row still does what a task does.
use Rattle.std.proofs.Common.{◌≡◌, ◌≢◌, ℕ, ◌+◌, ◌==◌, ◌<◌, ◌≤◌, ◌^◌, List, [], ◌∷◌, ◌++◌, length, Option, None, Bool, refl, sym, ap, subst, ◌∙◌, arith, inl, inr, map, pos, nat_le, ◌&&◌}
use Rattle.std.specs.Prelude.{slice_index_or, unwrap_or}
use Rattle.std.proofs.lemmas.Bool.{cond_both, cases_eq, cases_lt}
use Rattle.std.proofs.lemmas.List.{length_push, length-map}
use Rattle.job_language.specs.declared.instructions.Instr.{Instr}
use Rattle.job_language.specs.declared.jobs.Job.{Job}
use Rattle.job_language.specs.Program.{IsValidProgram}
use Rattle.job_step.specs.declared.frames.Frame.{Frame}
use Rattle.job_step.specs.Frame.{new_frame}
use Rattle.source_language.specs.declared.syntax.Function.{Function}
use Rattle.job_compiler.specs.Programs.{IsCompiledProgram}
use Rattle.thread_cells.specs.Cells.{Table}
use Rattle.tenant_model.specs.declared.rows.Kind.TheVariants.{Root}
use Rattle.tenant_model.specs.declared.rows.Phase.{Phase}
use Rattle.tenant_model.specs.declared.rows.Phase.TheVariants.{Unstarted, Live, Dropped, Faulted}
use Rattle.tenant_model.specs.declared.rows.Row.{Row}
use Rattle.tenant_model.specs.declared.works.Work.{Work}
use Rattle.tenant_model.specs.State.{State, row, job, with_at_number}
use Rattle.tenant_model.specs.Walks.{is_unstarted, is_context_cancelled, settled_row, settle}
use Rattle.tenant_model.specs.Changes.{on_row, on_job, add_row, entry, new_row, with_cells, faulted_phase, faulted_row}
use Rattle.tenant_model.specs.Asks.{add_job, new_job, retired_work}
use Rattle.tenant_model.specs.Linked.{IsLinked}
use Rattle.tenant_model.proofs.Changed.{row-with_same, row-with_other, row-push_old, row-push_new, row-map, at_number-with_same, at_number-with_other, at_number-push_old, at_number-push_new}
use Rattle.tenant_model.proofs.Changed.{length-with}
use Rattle.tenant_model.proofs.Parts.{SameSources-settle, row-settle}
use Rattle.tenant_model.proofs.Later.{later-retired}
use Rattle.tenant_model.proofs.Unstuck.{program_of}
use Rattle.source_serial.proofs.Turns.{RegsFit}
use Rattle.source_rows.specs.Tasks.{Past, new_past, DoesTask}
use Rattle.source_rows.specs.SourceRows.{FollowsSource}
use Rattle.source_rows.proofs.Fitting.{CellsFit}
use Rattle.source_rows.proofs.Following.{Follows, Begins, started}

-- what a row has been through; a new one has its frame
abbrev pub past_or : Option Past → Frame → Past
past_or o f = unwrap_or o (new_past f)

-- A row has numbers that fit, and follows the source if its program is compiled.
pub record RowFollows (fs : List Function) (o : Option Past) (procs : List (List Instr)) (width : ℕ) (r : Row) : Type 0 where
  pub fit : RegsFit r.frame.registers
  pub does : IsCompiledProgram fs procs → FollowsSource fs procs width r.frame (past_or o r.frame) r.phase

-- Each row does so, where L is what it has been through, and the cells have numbers that fit.
pub record IsSourced (fs : List Function) (L : ℕ → Option Past) (s : State) : Type 0 where
  pub rows : (n : ℕ) → 1 ≤ n → n ≤ length s.rows → RowFollows fs (L n) (job s.jobs (row s.rows n).job).program s.config.slots (row s.rows n)
  pub cells : CellsFit s.cells

module _ (fs : List Function) (o : Option Past) (procs : List (List Instr)) (width : ℕ) (r : Row) where
  pub live_follows : (slot h : ℕ) → r.phase ≡ Live slot h → Follows fs procs slot width r.frame (past_or o r.frame) → RowFollows fs o procs width r
  live_follows slot h live is = record { fit = is.fit; does = λ compiled. rw live (is.does compiled) }

  pub unstarted_follows : r.phase ≡ Unstarted → o ≡ None → Begins fs procs width r.frame → RowFollows fs o procs width r
  unstarted_follows waits none is = record { fit = is.fit; does = λ compiled. rw waits (is.does compiled, ap (λ x. past_or x r.frame) none) }

  pub follows_live : (slot h : ℕ) → r.phase ≡ Live slot h → RowFollows fs o procs width r → Follows fs procs slot width r.frame (past_or o r.frame)
  follows_live slot h live is = record { fit = is.fit; does = λ compiled. let d : FollowsSource fs procs width r.frame (past_or o r.frame) (Live slot h) = rw live at (is.does compiled) in d }

  -- a row that starts on a slot
  pub starts_live : (slot : ℕ) → width < 2 ^ 8 → slot < 2 ^ 8 → IsValidProgram procs → r.phase ≡ Unstarted → RowFollows fs o procs width r → Follows fs procs slot width r.frame (past_or o r.frame)
  starts_live slot low_width low_slot valid waits is = record {
    fit = is.fit;
    does = λ compiled.
        let d : FollowsSource fs procs width r.frame (past_or o r.frame) Unstarted = rw waits at (is.does compiled) in
        let new : Begins fs procs width r.frame = record { fit = is.fit; does = λ again. d.0 } in
        subst (DoesTask fs procs slot width r.frame) (sym d.1) ((started fs procs valid width low_width slot low_slot r.frame new).does compiled);
  }

  settled_follows : (b : Bool) → RowFollows fs o procs width r → RowFollows fs o procs width (settled_row r b)
  settled_follows b is = record {
    fit = is.fit;
    does = λ compiled. cond_both (is_unstarted r.phase && b) Dropped r.phase (FollowsSource fs procs width r.frame (past_or o r.frame)) (λ _. tt) (λ _. is.does compiled);
  }

  faulted_does : (slot from : ℕ) (p : Phase) → FollowsSource fs procs width r.frame (past_or o r.frame) p → FollowsSource fs procs width r.frame (past_or o r.frame) (faulted_phase slot from p)
  faulted_does slot from (Live t h) does = cond_both ((t == slot) && nat_le from h) Faulted (Live t h) (FollowsSource fs procs width r.frame (past_or o r.frame)) (λ _. tt) (λ _. does)
  faulted_does slot from p does = does

  faulted_follows : (slot from : ℕ) → RowFollows fs o procs width r → RowFollows fs o procs width (faulted_row slot from r)
  faulted_follows slot from is = record { fit = is.fit; does = λ compiled. faulted_does slot from r.phase (is.does compiled) }

-- a job's program stays where a job is changed that keeps its own
pub programs_stay : (jobs : List Work) (j : ℕ) (w : Work) → 1 ≤ j → j ≤ length jobs → w.program ≡ (job jobs j).program → (k : ℕ) → (job (with_at_number jobs j w) k).program ≡ (job jobs k).program
programs_stay jobs j w from to same k = elim (cases_eq k j) [
  | inl here ↦ rw here (ap (λ (v : Work). v.program) (at_number-with_same jobs _ j w from to) ∙ same)
  | inr other ↦ ap (λ (v : Work). v.program) (at_number-with_other jobs _ j k w from other)
]

module _ (fs : List Function) (L : ℕ → Option Past) where
  -- the state settles
  settle_sourced : (s : State) → IsSourced fs L s → IsSourced fs L (settle s)
  settle_sourced s is = record {
    rows = λ n from to.
        let within : n ≤ length s.rows = omega (arith, to, (SameSources-settle s).long) in
        rw (row-settle s n from within) (settled_follows fs (L n) (program_of s n) s.config.slots (row s.rows n) (is_context_cancelled s n) (is.rows n from within));
    cells = is.cells;
  }

  pub entry_sourced : (s : State) → IsSourced fs L s → IsSourced fs L (entry s)
  entry_sourced s is = settle_sourced (record s { entries = s.entries + 1 }) (record { rows = is.rows; cells = is.cells })

  -- a job changed, with the same program
  pub on_job_sourced : (s : State) (j : ℕ) (f : Work → Work) → 1 ≤ j → j ≤ length s.jobs → (f (job s.jobs j)).program ≡ (job s.jobs j).program → IsSourced fs L s → IsSourced fs L (on_job s j f)
  on_job_sourced s j f from to same is =
      record { rows = λ n least most. rw (programs_stay s.jobs j (f (job s.jobs j)) from to same (row s.rows n).job) (is.rows n least most); cells = is.cells }

  -- a new row
  pub add_row_sourced : (s : State) (r : Row) → RowFollows fs (L (length s.rows + 1)) (job s.jobs r.job).program s.config.slots r → IsSourced fs L s → IsSourced fs L (add_row s r)
  add_row_sourced s r follows is = record {
    rows = λ m least most. elim (cases_lt (length s.rows) m) [
      | inl after ↦
          let place : m ≡ length s.rows + 1 = omega (arith, after, most, length_push s.rows r) in
          let new : row (s.rows ++ r ∷ []) m ≡ r = row-push_new s.rows m r place in
          rw (new, place) follows
      | inr before ↦ rw (row-push_old s.rows m r before) (is.rows m least before)
    ];
    cells = is.cells;
  }

  -- rows faulted
  pub faulted_sourced : (s : State) (slot from : ℕ) → IsSourced fs L s → IsSourced fs L (record s { rows = map (faulted_row slot from) s.rows })
  faulted_sourced s slot from is = record {
    rows = λ n least most.
        let within : n ≤ length s.rows = omega (arith, most, length-map s.rows (faulted_row slot from)) in
        rw (row-map (faulted_row slot from) s.rows n least within) (faulted_follows fs (L n) (program_of s n) s.config.slots (row s.rows n) slot from (is.rows n least within));
    cells = is.cells;
  }

  -- a new job, with its root
  pub add_job_sourced : (s : State) (j : Job) (phase : Phase) → IsLinked s
      → RowFollows fs (L (length s.rows + 1)) j.program s.config.slots
      (new_row Root (length s.jobs + 1) None (new_frame 0 (slice_index_or j.args 0 (pos 0)) (slice_index_or j.args 1 (pos 0))) phase) → IsSourced fs L s
      → IsSourced fs L (add_job s j phase)
  add_job_sourced s j phase linked follows is =
      let w = new_job s j in
      let jobs = s.jobs ++ w ∷ [] in
      let new : job jobs (length s.jobs + 1) ≡ w = at_number-push_new s.jobs _ (length s.jobs + 1) w refl in
      let t = record s { jobs = jobs } in
      let more : IsSourced fs L t = record {
        rows = λ n least most. rw (at_number-push_old s.jobs _ (row s.rows n).job w (linked.jobs n least most).1) (is.rows n least most);
        cells = is.cells;
      } in
      add_row_sourced t (new_row Root (length s.jobs + 1) None (new_frame 0 (slice_index_or j.args 0 (pos 0)) (slice_index_or j.args 1 (pos 0))) phase) (rw new follows) more

  -- all jobs retired, and other cells
  pub retired_sourced : (s : State) (cells : Table) (epoch : ℕ) → IsLinked s → CellsFit cells → IsSourced fs L s
      → IsSourced fs L (record s { jobs = map retired_work s.jobs; cells = cells; epoch = epoch })
  retired_sourced s cells epoch linked fit is = record {
    rows = λ n least most. rw ((later-retired s).jobs (row s.rows n).job (linked.jobs n least most).1).program (is.rows n least most);
    cells = fit;
  }

  -- other cells
  pub with_cells_sourced : (s : State) (cells : Table) → CellsFit cells → IsSourced fs L s → IsSourced fs L (with_cells s cells)
  with_cells_sourced s cells fit is = record { rows = is.rows; cells = fit }

-- the same with equal pasts
pub sourced_so : (fs : List Function) (L M : ℕ → Option Past) (s : State) → ((n : ℕ) → L n ≡ M n) → IsSourced fs L s → IsSourced fs M s
sourced_so fs L M s same is = record {
  rows = λ n from to. subst (λ o. RowFollows fs o (program_of s n) s.config.slots (row s.rows n)) (same n) (is.rows n from to);
  cells = is.cells;
}

-- a row changed, with the same job, and it alone with another past
pub on_row_sourced : (fs : List Function) (L M : ℕ → Option Past) (s : State) (n : ℕ) (f : Row → Row) → 1 ≤ n → n ≤ length s.rows → (f (row s.rows n)).job ≡ (row s.rows n).job
    → ((m : ℕ) → m ≢ n → L m ≡ M m) → RowFollows fs (M n) (program_of s n) s.config.slots (f (row s.rows n)) → IsSourced fs L s → IsSourced fs M (on_row s n f)
on_row_sourced fs L M s n f from to same others follows is =
    let r = f (row s.rows n) in
    record {
      rows = λ m least most. elim (cases_eq m n) [
        | inl here ↦ rw (here, row-with_same s.rows n r from to) (subst (λ (k : ℕ). RowFollows fs (M n) (job s.jobs k).program s.config.slots r) (sym same) follows)
        | inr other ↦
            let old = is.rows m least (omega (arith, most, length-with s.rows n r)) in
            rw (row-with_other s.rows n m r from other) (subst (λ o. RowFollows fs o (program_of s m) s.config.slots (row s.rows m)) (others m other) old)
      ];
      cells = is.cells;
    }
