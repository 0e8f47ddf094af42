-- A row that ended, taken off its slot or out of the pool: what is held stands for the state without it.
use Rattle.std.proofs.Common.{◌≡◌, ℕ, ◌≤◌, ℤ, pos, List, length, Some, IsSome, true, false, refl, sym, ap, ◌∙◌, arith, subst, map}
use Rattle.job_step.specs.declared.frames.Frame.{Frame}
use Rattle.ready_pool.specs.declared.pool.Waiting.{Waiting}
use Rattle.ready_pool.specs.Ready.{Ready}
use Rattle.ready_pool.specs.Ready as ready
use Rattle.tenant_model.specs.declared.rows.Phase.TheVariants.{Live, Done, Dropped, Faulted}
use Rattle.tenant_model.specs.declared.rows.Row.{Row}
use Rattle.tenant_model.specs.State.{State, row, job, with_at_number}
use Rattle.tenant_model.specs.Walks.{is_open, is_unstarted, value_in, top, height}
use Rattle.tenant_model.specs.Changes.{on_row}
use Rattle.tenant_model.specs.Shared.{has_used_group}
use Rattle.tenant_model.specs.Sound.{IsSteady, IsSettled}
use Rattle.tenant_model.proofs.Contexts.{is_context_cancelled-same}
use Rattle.tenant_model.proofs.AttendedSteps.{open_there}
use Rattle.tenant_model.proofs.Picks.{top_is}
use Rattle.tenant_model.proofs.Steady.{steady_over, steady_faulted, steady_dropped}
use Rattle.tenant_model.proofs.Tended.{unstarted_open}
use Rattle.arena_rows.specs.declared.rows.OpenRow.{OpenRow}
use Rattle.arena_rows.specs.Held.{Held}
use Rattle.arena_rows.specs.Represents.{id_of, waiting, waiting_of, Holds}
use Rattle.arena_rows.specs.Endings.{HasEnded, IsLoose, popped}
use Rattle.arena_rows.proofs.Closed.{row_new, row_old, contexts_same, still}
use Rattle.arena_rows.proofs.Ended.{closed_holds}
use Rattle.arena_rows.proofs.Grouped.{IsEntry}
use Rattle.arena_rows.proofs.NestsPopped.{AreNests-off, AreNests-popped}
use Rattle.arena_rows.proofs.TableClosed.{pool_live, pool_dropped}
use Rattle.arena_rows.proofs.TopRows.{top_at, top_there, on_slot}

module _ (a b : Held) (s : State) (is : Holds a s) (n : ℕ) (e : OpenRow) (entry : IsEntry a s is n e) (loose : IsLoose a s is.assigned n) where
  abbrev pool_of : List Waiting → Ready
  pool_of ws = record { isolation = a.config.isolation; limit = a.config.rows; slots = a.config.slots; rows = ws }

  -- the topmost row of a slot
  module _ (slot : ℕ) (on_top : top s.rows slot ≡ Some n) where
    from : 1 ≤ n
    from = (top_there a s is slot n on_top).0

    to : n ≤ length s.rows
    to = (top_there a s is slot n on_top).1

    live : (row s.rows n).phase ≡ Live slot (height s.rows slot)
    live = (top_is s.rows slot n on_top).2

    ended_on_top : (r : Row) (kind : r.kind ≡ (row s.rows n).kind) (same_job : r.job ≡ (row s.rows n).job) (marks : r.marks ≡ (row s.rows n).marks) (closed : is_open r.phase ≡ false) (v : ℤ) →
        value_in r.phase ≡ v → HasEnded a b (id_of is.places n) e v → IsSteady (record s { rows = with_at_number s.rows n r }) → Holds (popped b slot) (record s { rows = with_at_number s.rows n r })
    ended_on_top r kind same_job marks closed v value over steady =
        let rows' = with_at_number s.rows n r in
        let same_nests : b.nests ≡ a.nests = ap (λ (x : Held). x.nests) over.rest in
        let same_pool : b.pool ≡ a.pool = ap (λ (x : Held). x.pool) over.rest in
        let ended : is_open (row rows' n).phase ≡ false = ap (λ (q : Row). is_open q.phase) (row_new s.rows n r from to kind same_job marks) ∙ closed in
        let nests = AreNests-popped s.rows rows' is.places a.config.slots a.nests n is.nests ended (row_old s.rows n r from to kind same_job marks) is.steady.formed.stacked slot
        (on_slot a s is slot n on_top) on_top in
        let pool : b.pool ≡ pool_of (map (waiting_of rows' is.places) (waiting rows')) =
        same_pool ∙ is.waiting ∙ ap pool_of (pool_live s.rows is.places n r from to kind same_job marks entry.opened closed (rw live refl)) in
        let all = closed_holds a b s is n e entry loose r kind same_job marks closed v value over b.pool (popped a slot).nests nests pool steady in
        subst (λ ns. Holds (record b { nests = ns }) (record s { rows = rows' })) (ap (λ ns. (popped (record b { nests = ns }) slot).nests) (sym same_nests)) all

    pub done_holds : (f : Frame) (v : ℤ) → HasEnded a b (id_of is.places n) e v → length f.registers ≡ length (row s.rows n).frame.registers → has_used_group s n ≡ false →
        Holds (popped b slot) (on_row s n (λ r. record r { frame = f; phase = Done v }))
    done_holds f v over same unused =
        ended_on_top (record (row s.rows n) { frame = f; phase = Done v }) refl refl refl refl v refl over (steady_over s slot n (top_at a s is slot n on_top) is.steady f v same unused)

    pub faulted_holds : HasEnded a b (id_of is.places n) e (pos 0) → IsSome (job s.jobs (row s.rows n).job).fault → Holds (popped b slot) (on_row s n (λ r. record r { phase = Faulted }))
    faulted_holds over fault = ended_on_top (record (row s.rows n) { phase = Faulted }) refl refl refl refl (pos 0) refl over (steady_faulted s slot n (top_at a s is slot n on_top) is.steady fault)

  -- a row that waited
  pub dropped_holds : HasEnded a b (id_of is.places n) e (pos 0) → is_unstarted (row s.rows n).phase ≡ true →
      Holds (record b { pool = ready.without b.pool (id_of is.places n) }) (on_row s n (λ r. record r { phase = Dropped }))
  dropped_holds over waits =
      let r = record (row s.rows n) { phase = Dropped } in
      let there = open_there s.rows n entry.opened in
      let rows' = with_at_number s.rows n r in
      let same_nests : b.nests ≡ a.nests = ap (λ (x : Held). x.nests) over.rest in
      let same_pool : b.pool ≡ a.pool = ap (λ (x : Held). x.pool) over.rest in
      let ended : is_open (row rows' n).phase ≡ false = ap (λ (q : Row). is_open q.phase) (row_new s.rows n r there.0 there.1 refl refl refl) in
      let nests = AreNests-off s.rows rows' is.places a.config.slots a.nests n is.nests ended (row_old s.rows n r there.0 there.1 refl refl refl)
      (λ t h live. let started : is_unstarted (row s.rows n).phase ≡ false = rw live refl in grind (arith, started, waits)) in
      let pool : ready.without b.pool (id_of is.places n) ≡ pool_of (map (waiting_of rows' is.places) (waiting rows')) =
      ap (λ p. ready.without p (id_of is.places n)) (same_pool ∙ is.waiting) ∙ ap pool_of (pool_dropped s.rows is.places n r there.0 there.1 refl refl refl entry.opened refl) in
      let all = closed_holds a b s is n e entry loose r refl refl refl refl (pos 0) refl over (ready.without b.pool (id_of is.places n)) a.nests nests pool
      (steady_dropped s is.steady n there.0 there.1 waits) in
      subst (λ ns. Holds (record b { pool = ready.without b.pool (id_of is.places n); nests = ns }) (record s { rows = rows' })) (sym same_nests) all

-- A row without a mark on others: what waited has the same contexts.
pub ended_settled : (s : State) (n : ℕ) (r : Row) → 1 ≤ n → n ≤ length s.rows → r.kind ≡ (row s.rows n).kind → r.job ≡ (row s.rows n).job → r.marks ≡ (row s.rows n).marks →
    is_open (row s.rows n).phase ≡ true → is_open r.phase ≡ false → IsSettled s → IsSettled (record s { rows = with_at_number s.rows n r })
ended_settled s n r from to kind same_job marks opened closed settled m waits =
    let t = record s { rows = with_at_number s.rows n r } in
    let it = still s.rows n r from to kind same_job marks opened closed m (unstarted_open (row t.rows m).phase waits) in
    is_context_cancelled-same s t (contexts_same s.rows n r from to kind same_job marks) refl m ∙
    settled m (ap (λ (q : Row). is_unstarted q.phase) (sym (row_old s.rows n r from to kind same_job marks m it.0)) ∙ waits)
