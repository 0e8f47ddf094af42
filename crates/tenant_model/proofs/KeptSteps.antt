-- Each step keeps a state well formed: cells, jobs and asks.
use Rattle.std.proofs.Common.{◌≡◌, ℕ, ◌+◌, ◌==◌, ◌<◌, [], length, Option, Some, None, Bool, true, false, ◌&&◌, ◌||◌, refl, ◌∙◌, arith, inl, inr, map, length-set, get_or, ℤ, pos, replicate}
use Rattle.std.specs.Prelude.{slice_set, slice_index_or, nat_le, not, if◌then◌else◌}
use Rattle.std.specs.List.{list_any, range_with_len}
use Rattle.std.proofs.lemmas.Bool.{cases_eq, cond_both}
use Rattle.std.proofs.lemmas.List.Elements.{All-replicate}
use Rattle.std.proofs.lemmas.List.{length-map, get_or-set_same, get_or-set_other}
use Rattle.job_language.specs.declared.instructions.TheConstants.{KEYS}
use Rattle.job_language.specs.declared.tenants.TheConstants.{MAX_SLOTS}
use Rattle.job_language.specs.declared.jobs.Job.{Job}
use Rattle.job_language.specs.declared.requests.Request.{Request}
use Rattle.job_language.specs.declared.requests.Request.TheVariants.{Hello, Submit, Execute, Poll, Collect, Cancel, Cells, Arena, Retire, Release, Take}
use Rattle.job_language.specs.declared.answers.Reply.{Reply}
use Rattle.job_language.specs.declared.answers.Status.{Status}
use Rattle.job_language.specs.declared.answers.Status.TheVariants.{Running, Cancelled, Complete, Fault}
use Rattle.tenant_model.specs.declared.rows.Phase.{Phase}
use Rattle.tenant_model.specs.declared.rows.Phase.TheVariants.{Unstarted, Live}
use Rattle.tenant_model.specs.declared.rows.Kind.TheVariants.{Root, Region}
use Rattle.tenant_model.specs.declared.rows.Row.{Row}
use Rattle.tenant_model.specs.declared.works.Work.{Work}
use Rattle.tenant_model.specs.declared.works.TheConstants.{MAX_JOBS}
use Rattle.job_step.specs.Frame.{new_frame}
use Rattle.std.specs.Option.{option_map_or}
use Rattle.tenant_model.specs.State.{State}
use Rattle.tenant_model.specs.Walks.{height, is_open}
use Rattle.tenant_model.specs.Changes.{open_rows, is_row_limit_met, new_row, on_job, is_full}
use Rattle.thread_cells.specs.Cells.{Table, with_cell, no_cells}
use Rattle.tenant_model.specs.WellFormed.{IsTable, IsWellFormed}
use Rattle.tenant_model.specs.Asks.{add_job, new_job, free_slot, unless_limit, submit, submit_placed, collect, cancel_by_request, retire, retired_work, released, reply_to, ask, is_hello, known_job}
use Rattle.tenant_model.specs.Asks.{has_outcome, current_jobs, status}
use Rattle.tenant_model.specs.Walks.{is_job_cancelled}
use Rattle.tenant_model.proofs.Linked.{IsLinked-job, IsLinked-more_jobs}
use Rattle.tenant_model.proofs.Stacking.{count-push, AreStacked-same, AreStacked-pushed}
use Rattle.tenant_model.proofs.Stacked.{IsOff, AreSame-push, IsPushed-push}
use Rattle.tenant_model.proofs.Parts.{AreInside-push, AreInside-push_first}
use Rattle.tenant_model.proofs.Marked.{AreMarked-push}
use Rattle.tenant_model.proofs.OnMakers.{StandOnMakers-push}
use Rattle.tenant_model.proofs.Picks.{found_holds}
use Rattle.tenant_model.proofs.Keeping.{one_at_most, no_such_region, settle_kept, entry_kept, on_job_kept}

pub with_cell_kept : (t : Table) (k slot : ℕ) (v : ℤ) → IsTable t → IsTable (with_cell t k slot v)
with_cell_kept t k slot v is =
    let cells = slice_set (slice_index_or t k []) slot (Some v) in
    record {
      keys = length-set t k cells ∙ is.keys;
      slots = λ i d within.
          let there : i < length t = omega (arith, within, length-set t k cells) in
          elim (cases_eq i k) [
            | inl same ↦
                let found : get_or (slice_set t k cells) i d ≡ cells = rw same (get_or-set_same t k cells d (omega (arith, there, same))) in
                rw found (length-set (slice_index_or t k []) slot (Some v) ∙ is.slots k [] (omega (arith, there, same)))
            | inr other ↦ rw (get_or-set_other t k i cells d other) (is.slots i d there)
          ];
    }

pub no_cells_kept : IsTable no_cells
no_cells_kept = record { keys = refl; slots = All-replicate (λ cells. length cells ≡ MAX_SLOTS) KEYS (replicate MAX_SLOTS None) refl }

abbrev new_root : State → Job → Phase → Row
new_root s j phase = new_row Root (length s.jobs + 1) None (new_frame 0 (slice_index_or j.args 0 (pos 0)) (slice_index_or j.args 1 (pos 0))) phase

pub unstarted_off : IsOff Unstarted
unstarted_off = record { on = λ slot. refl; at = λ slot h. refl }

root_no_region : (m : ℕ) → Root ≡ Region m → ⊥
root_no_region m is = no_such_region Root m refl is

-- a new job with its root, not started or on an empty slot
module _ (s : State) (j : Job) (room : open_rows s.rows < s.config.rows) where
  pub add_job_kept : IsWellFormed s → IsWellFormed (add_job s j Unstarted)
  add_job_kept is =
      let r = new_root s j Unstarted in
      let linked = IsLinked-job s (new_job s j) r is.linked refl refl in
      record {
        linked = linked;
        stacked = AreStacked-same s.rows _ (AreSame-push s.rows r unstarted_off) is.stacked;
        inside = AreInside-push s.rows r is.linked.makers linked.makers is.stacked unstarted_off is.inside;
        on_makers = StandOnMakers-push s.rows r (λ m kind. absurd (root_no_region m kind)) (λ m slot h kind live. absurd (root_no_region m kind)) is.on_makers;
        marked = AreMarked-push s.rows r refl is.marked;
        limit = omega (arith, room, count-push (λ (x : Row). is_open x.phase) s.rows r, one_at_most (is_open r.phase));
        table = is.table;
        slots = is.slots;
      }

  pub place_job_kept : (slot : ℕ) → height s.rows slot ≡ 0 → IsWellFormed s → IsWellFormed (add_job s j (Live slot 1))
  place_job_kept slot free is =
      let r = new_root s j (Live slot 1) in
      let linked = IsLinked-job s (new_job s j) r is.linked refl refl in
      let live : r.phase ≡ Live slot (height s.rows slot + 1) = rw free refl in
      record {
        linked = linked;
        stacked = AreStacked-pushed s.rows _ slot (IsPushed-push s.rows r slot live) (omega (arith, free)) is.stacked;
        inside = AreInside-push_first s.rows r is.linked.makers linked.makers slot is.stacked refl free is.inside;
        on_makers = StandOnMakers-push s.rows r (λ m kind. absurd (root_no_region m kind)) (λ m t h kind live. absurd (root_no_region m kind)) is.on_makers;
        marked = AreMarked-push s.rows r refl is.marked;
        limit = omega (arith, room, count-push (λ (x : Row). is_open x.phase) s.rows r, one_at_most (is_open r.phase));
        table = is.table;
        slots = is.slots;
      }

-- what a reply leaves
abbrev Keeps : Reply × State → Type 0
Keeps r = IsWellFormed r.1

either : (b : Bool) (r q : Reply × State) → (b ≡ true → Keeps r) → (b ≡ false → Keeps q) → Keeps (if b then r else q)
either b r q if_true if_false = cond_both b r q Keeps if_true if_false

submitted_kept : (s : State) (j : Job) → open_rows s.rows < s.config.rows → IsWellFormed s → Keeps (submit s j)
submitted_kept s j room is = entry_kept (add_job s j Unstarted) (add_job_kept s j room is)

executed_kept : (s : State) (j : Job) (o : Option ℕ) → free_slot s ≡ o → open_rows s.rows < s.config.rows → IsWellFormed s → Keeps (submit_placed s j o)
executed_kept s j None free room is = submitted_kept s j room is
executed_kept s j (Some slot) free room is =
    let test : ℕ → Bool = λ t. height s.rows t == 0 in
    let found = found_holds (λ t. ℕ) test (range_with_len 0 s.config.reserved) slot (λ k d within. 0) free in
    entry_kept (add_job s j (Live slot 1)) (place_job_kept s j room slot (grind (arith, found.1)) is)

limited_kept : (s : State) (r : Reply × State) → (open_rows s.rows < s.config.rows → Keeps r) → IsWellFormed s → Keeps (unless_limit s r)
limited_kept s r made is = either (nat_le MAX_JOBS (current_jobs s)) _ _ (λ _. entry_kept s is) (λ _. either (is_row_limit_met s) _ _ (λ _. entry_kept s is) (λ unmet. made (grind (arith, unmet))))

of_job_kept : (s : State) (o : Option Work) (next : Work → Reply × State) (r : Reply × State) → Keeps r → ((w : Work) → Keeps (next w)) → Keeps (option_map_or next o r)
of_job_kept s None next r none some = none
of_job_kept s (Some w) next r none some = some w

collected_kept : (s : State) (j : ℕ) (status : Status) → IsWellFormed s → Keeps (collect s j status)
collected_kept s j Running is = is
collected_kept s j Cancelled is = entry_kept s is
collected_kept s j (Complete v) is = entry_kept s is
collected_kept s j (Fault f) is = entry_kept s is

retired_kept : (s : State) → IsWellFormed s → Keeps (retire s)
retired_kept s is = either (list_any (λ (r : Row). is_open r.phase) s.rows) _ _ (λ _. entry_kept s is) (λ _.
    let jobs = map retired_work s.jobs in
    let linked = IsLinked-more_jobs s jobs (omega (arith, length-map s.jobs retired_work)) is.linked in
    settle_kept (record s { jobs = jobs; cells = no_cells; entries = s.entries + 1; epoch = s.epoch + 1 }) (record {
      linked = record { makers = linked.makers; jobs = linked.jobs; epoch = omega (arith, is.linked.epoch) };
      stacked = is.stacked;
      inside = is.inside;
      on_makers = is.on_makers;
      marked = is.marked;
      limit = is.limit;
      table = no_cells_kept;
      slots = is.slots;
    }))

cancelled_kept : (s : State) (j : ℕ) (w : Work) → IsWellFormed s → Keeps (cancel_by_request s j w)
cancelled_kept s j w is = either (is_job_cancelled w || has_outcome s.rows j) _ _ (λ _. entry_kept s is)
    (λ _. entry_kept (on_job s j (λ v. record v { cancelled = true })) (on_job_kept s j (λ v. record v { cancelled = true }) is))

released_kept : (s : State) (j : ℕ) → IsWellFormed s → IsWellFormed (released s j)
released_kept s j is = entry_kept (on_job s j retired_work) (on_job_kept s j retired_work is)

reply_kept : (s : State) (r : Request) → IsWellFormed s → Keeps (reply_to s r)
reply_kept s (Hello name) is = is
reply_kept s (Submit j) is = limited_kept s _ (λ room. submitted_kept s j room is) is
reply_kept s (Execute j) is = limited_kept s _ (λ room. executed_kept s j (free_slot s) refl room is) is
reply_kept s (Poll j) is = of_job_kept s (known_job s j) _ _ (entry_kept s is) (λ w. entry_kept s is)
reply_kept s (Collect j) is = of_job_kept s (known_job s j) _ _ (entry_kept s is) (λ w. collected_kept s j (status s.rows j w) is)
reply_kept s (Cancel j) is = of_job_kept s (known_job s j) _ _ (entry_kept s is) (λ w. cancelled_kept s j w is)
reply_kept s (Cells k) is = entry_kept s is
reply_kept s Arena is = entry_kept s is
reply_kept s Retire is = retired_kept s is
reply_kept s (Release j) is = of_job_kept s (known_job s j) _ _ (entry_kept s is) (λ w. either (has_outcome s.rows j) _ _ (λ _. released_kept s j is) (λ _. entry_kept s is))
reply_kept s (Take j) is = of_job_kept s (known_job s j) _ _ (entry_kept s is) (λ w. either (has_outcome s.rows j) _ _ (λ _. released_kept s j is) (λ _. is))

-- an ask
pub ask_kept : (s : State) (r : Request) → IsWellFormed s → IsWellFormed (ask s r).1
ask_kept s r is = either (is_full s && not (is_hello r)) _ _ (λ _. is) (λ _. reply_kept s r is)
