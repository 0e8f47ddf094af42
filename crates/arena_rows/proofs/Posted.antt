-- A row that was posted: of a job, in no group and no region.
use Rattle.std.proofs.Common.{◌≡◌, ◌&&◌, ℕ, zero, suc, ◌+◌, ◌-◌, ◌==◌, ◌<◌, ◌≤◌, List, [], ◌∷◌, ◌++◌, length, Option, Some, None, Bool, true, false, refl, sym, ap, ◌∙◌, arith, map, subst}
use Rattle.std.specs.Prelude.{slice_index_or, slice_set, replicate}
use Rattle.job_language.specs.declared.instructions.TheConstants.{GROUPS}
use Rattle.job_step.specs.declared.frames.Frame.{Frame}
use Rattle.ready_pool.specs.declared.pool.Waiting.{Waiting}
use Rattle.ready_pool.specs.Ready.{Ready, with_row}
use Rattle.tenant_model.specs.declared.rows.Kind.TheVariants as kind
use Rattle.tenant_model.specs.declared.rows.Phase.TheVariants.{Unstarted}
use Rattle.tenant_model.specs.declared.rows.Row.{Row}
use Rattle.tenant_model.specs.State.{State, row}
use Rattle.tenant_model.specs.Walks.{is_open, region_of}
use Rattle.tenant_model.specs.Changes.{new_row, add_row, open_rows}
use Rattle.tenant_model.specs.Linked.{MakersPrecede}
use Rattle.tenant_model.specs.Sound.{IsSteady}
use Rattle.tenant_model.proofs.Changed.{row-push_new}
use Rattle.std.specs.Option.{option_map}
use Rattle.std.proofs.lemmas.List.{length_push}
use Rattle.tenant_model.proofs.Stacking.{one_if, count-cons}
use Rattle.tenant_model.proofs.Within.{region_of-none}
use Rattle.tenant_model.proofs.AttendedSteps.{open_there}
use Rattle.arena_rows.specs.declared.rows.OpenRow.{OpenRow}
use Rattle.arena_rows.specs.declared.rows.CurrentJob.{CurrentJob}
use Rattle.arena_rows.specs.Held.{Held, HasFreePlace}
use Rattle.arena_rows.specs.Represents.{id_of, waiting, waiting_of, Assigned, IsRowContext, AreContexts, open_of, Holds, IsFree}
use Rattle.arena_rows.specs.HeldChanges.{next_id, index_of, entered, job_counted, posted_entry, put}
use Rattle.arena_rows.proofs.Making.{IsNext, is_next}
use Rattle.arena_rows.proofs.Made.{IsFresh, IsJoined, IsJoined-alone, made_holds}
use Rattle.arena_rows.proofs.Pushing.{AreNests-waiting, waiting-one}
use Rattle.arena_rows.proofs.Spawned.{joined, AreContexts-joined}
use Rattle.arena_rows.specs.HeldJobs.{IsCurrent}
use Rattle.arena_rows.proofs.JobPlaces.{held_is}

abbrev no_group_contexts : List (Option ℕ)
no_group_contexts = replicate GROUPS None

pub no_contexts : (h : ℕ) → slice_index_or no_group_contexts h None ≡ None
no_contexts zero = refl
no_contexts (suc zero) = refl
no_contexts (suc (suc zero)) = refl
no_contexts (suc (suc (suc zero))) = refl
no_contexts (suc (suc (suc (suc h)))) = refl

module _ (a : Held) (s : State) (is : Holds a s) (place : ℕ) (placed : is.places (length s.rows + 1) ≡ place) (j ctx : ℕ) (f : Frame)
    (kept : IsSteady (add_row s (new_row kind.Posted j None f Unstarted))) (vacant : IsFree a.table place) (current : IsCurrent a.jobs j) (context : ctx ≡ is.assigned.of_job j) where
  abbrev r : Row
  r = new_row kind.Posted j None f Unstarted

  abbrev e : OpenRow
  e = posted_entry a j ctx f

  precede : MakersPrecede s.rows
  precede = is.steady.formed.linked.makers

  precede' : MakersPrecede (s.rows ++ r ∷ [])
  precede' = kept.formed.linked.makers

  next : IsNext a place
  next = is_next a s is place vacant

  fresh : IsFresh a is.places r e
  fresh = record { number = refl; source = refl; job = refl; made_on = refl; stage = refl; groups = refl; contexts = refl }

  table_joined : IsJoined a s is.places r a.table
  table_joined = IsJoined-alone a s is r precede precede' (λ m g few. refl)

  abbrev at : Assigned
  at = joined s (length a.jobs) a.table a.contexts is.assigned ctx place r e precede precede' is.contexts refl refl (λ m h. refl)

  new_context : IsRowContext (add_row s r) a.contexts at (length s.rows + 1) (row (add_row s r).rows (length s.rows + 1)).kind
  new_context =
      let N = length s.rows + 1 in
      let it : (N == N) ≡ true = grind arith in
      let here : row (add_row s r).rows N ≡ r = row-push_new s.rows N r refl in
      let its : at.of_row N ≡ at.of_job (row (add_row s r).rows N).job = rw it (context ∙ ap is.assigned.of_job (sym (ap (λ (q : Row). q.job) here))) in
      subst (λ k. IsRowContext (add_row s r) a.contexts at N k) (sym (ap (λ (q : Row). q.kind) here)) its

  contexts : AreContexts (add_row s r) (length a.jobs) (slice_set a.table place (Some e)) a.contexts at
  contexts = AreContexts-joined s (length a.jobs) a.table a.contexts is.assigned ctx place r e precede precede' is.contexts refl refl (λ m h. refl) new_context
      (λ q x here. (open_there s.rows x.number (is.table.only q x here).0).1) refl (ap (λ k. k + 1) is.made) no_contexts refl next.within next.vacant

  abbrev w : Waiting
  w = record { row = next_id a place; made_on = None; region = None }

  pool : with_row a.pool w ≡ record { isolation = a.config.isolation; limit = a.config.rows; slots = a.config.slots; rows = map (waiting_of (s.rows ++ r ∷ []) is.places) (waiting (s.rows ++ r ∷ [])) }
  pool =
      let N = length s.rows + 1 in
      let rows' = s.rows ++ r ∷ [] in
      let here : row rows' N ≡ r = row-push_new s.rows N r refl in
      let no_region : region_of rows' N ≡ None = region_of-none rows' precede' N (omega arith) (omega (arith, length_push s.rows r)) (rw here refl) (rw here refl) in
      let number : a.made + 1 ≡ N = ap (λ k. k + 1) is.made in
      let waiting_at : ℕ → ℕ → Option ℕ → Waiting = λ k p region. record { row = record { number = k; place = p }; made_on = None; region = option_map (id_of is.places) region } in
      let w_is : w ≡ waiting_at N (is.places N) (region_of rows' N) =
      ap (λ k. waiting_at k place None) number ∙ ap (λ p. waiting_at N p None) (sym placed) ∙ ap (waiting_at N (is.places N)) (sym no_region) in
      let p : List Waiting → Ready = λ ws. record { isolation = a.config.isolation; limit = a.config.rows; slots = a.config.slots; rows = ws } in
      ap (λ q. with_row q w) is.waiting ∙ ap p (ap (λ v. map (waiting_of s.rows is.places) (waiting s.rows) ++ v ∷ []) w_is ∙ sym (waiting-one s.rows r precede precede' is.places refl))

  pub posted_holds : (d : CurrentJob) → Holds (put (job_counted (entered a place e) j d) w) (add_row s r)
  posted_holds d = made_holds a s is place r e kept vacant placed refl refl fresh a.table table_joined a.contexts at d (index_of a j) (with_row a.pool w) a.nests (λ c. sym (current.number c))
      current.within refl (λ k. refl) tt (λ none. refl) contexts (AreNests-waiting s.rows r precede precede' is.places a.config.slots a.nests refl is.nests) pool

one_both : (p q : Bool) → one_if (p && q) ≤ one_if q
one_both true q = omega arith
one_both false q = omega arith

open_of_le : (j : ℕ) (rows : List Row) → open_of rows j ≤ open_rows rows
open_of_le j [] = omega arith
open_of_le j (x ∷ rows) = omega
    (arith, open_of_le j rows, one_both (x.job == j) (is_open x.phase), count-cons (λ (r : Row). (r.job == j) && is_open r.phase) x rows, count-cons (λ (r : Row). is_open r.phase) x rows)

-- While a place is free, a job has fewer open rows than there are places.
pub few_open : (a : Held) (s : State) (is : Holds a s) (j : ℕ) → IsCurrent a.jobs j → HasFreePlace a → (d : CurrentJob) → (slice_index_or a.jobs (index_of a j) d).open_rows < length a.table
few_open a s is j current some d =
    let its = (held_is a s is j current d).opened in
    omega (arith, its, open_of_le j s.rows, is.free.count, is.free.long, some)
