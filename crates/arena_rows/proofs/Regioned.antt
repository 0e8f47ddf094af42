-- A region on top of its maker.
use Rattle.std.proofs.Common.{◌≡◌, ◌≢◌, ℕ, ◌+◌, ◌-◌, ◌==◌, ◌<◌, ◌≤◌, List, [], ◌∷◌, ◌++◌, length, Some, true, false, refl, sym, ap, ◌∙◌, arith, inl, inr, map, subst}
use Rattle.std.specs.Prelude.{slice_set}
use Rattle.std.proofs.lemmas.Bool.{cases_lt}
use Rattle.std.proofs.lemmas.List.{length_push}
use Rattle.job_step.specs.declared.frames.Frame.{Frame}
use Rattle.ready_pool.specs.Ready.{Ready}
use Rattle.nest_stack.specs.declared.stack.Nested.{Nested}
use Rattle.nest_stack.specs.Nest.{stack, with_stack}
use Rattle.tenant_model.specs.declared.rows.Kind.TheVariants as kind
use Rattle.tenant_model.specs.declared.rows.Phase.TheVariants.{Live}
use Rattle.tenant_model.specs.declared.rows.Row.{Row}
use Rattle.tenant_model.specs.State.{State, row}
use Rattle.tenant_model.specs.Walks.{is_open, is_region, height, top}
use Rattle.tenant_model.specs.Changes.{new_row, add_row}
use Rattle.tenant_model.specs.Linked.{MakersPrecede}
use Rattle.tenant_model.specs.Sound.{IsSteady}
use Rattle.tenant_model.proofs.Changed.{row-push_new, row-push_old, row-past}
use Rattle.tenant_model.proofs.AttendedSteps.{open_there}
use Rattle.arena_rows.specs.declared.rows.OpenRow.{OpenRow}
use Rattle.arena_rows.specs.declared.rows.CurrentJob.{CurrentJob}
use Rattle.arena_rows.specs.Held.{Held}
use Rattle.arena_rows.specs.Represents.{id_of, tag_of, nested_of, waiting, waiting_of, AreNests, Assigned, IsRowContext, AreContexts, Holds, IsFree}
use Rattle.arena_rows.specs.HeldChanges.{next_id, outer_of, index_of, entered, job_counted, region_entry, region_pushed}
use Rattle.arena_rows.proofs.Making.{IsNext, is_next, tag_there}
use Rattle.arena_rows.proofs.Made.{IsFresh, IsJoined, IsJoined-alone, made_holds}
use Rattle.arena_rows.proofs.Pushing.{waiting-none}
use Rattle.arena_rows.proofs.Pushed.{AreNests-pushed}
use Rattle.arena_rows.proofs.Started.{some_none}
use Rattle.arena_rows.proofs.Tops.{height_is}
use Rattle.arena_rows.proofs.TopRows.{top_open, top_there, on_slot, top_job}
use Rattle.arena_rows.proofs.Spawned.{joined, AreContexts-joined}
use Rattle.arena_rows.proofs.Posted.{no_contexts}
use Rattle.arena_rows.specs.HeldJobs.{IsCurrent}

module _ (a : Held) (s : State) (is : Holds a s) (place : ℕ) (placed : is.places (length s.rows + 1) ≡ place) (slot n ctx : ℕ) (f : Frame) (on_top : top s.rows slot ≡ Some n)
    (kept : IsSteady (add_row s (new_row (kind.Region n) (row s.rows n).job (Some slot) f (Live slot (height s.rows slot + 1))))) (vacant : IsFree a.table place)
    (context : ctx ≡ is.assigned.of_row n) where
  abbrev r : Row
  r = new_row (kind.Region n) (row s.rows n).job (Some slot) f (Live slot (height s.rows slot + 1))

  abbrev rows' : List Row
  rows' = s.rows ++ r ∷ []

  abbrev N : ℕ
  N = length s.rows + 1

  abbrev e : OpenRow
  e = region_entry a (id_of is.places n) (row s.rows n).job ctx slot

  precede : MakersPrecede s.rows
  precede = is.steady.formed.linked.makers

  precede' : MakersPrecede rows'
  precede' = kept.formed.linked.makers

  next : IsNext a place
  next = is_next a s is place vacant

  high : length (stack a.nests slot) ≡ height s.rows slot
  high = height_is s.rows is.places a.config.slots a.nests is.steady.formed.stacked is.nests slot

  maker_there : (1 ≤ n) × (n ≤ length s.rows)
  maker_there = top_there a s is slot n on_top

  maker_open : is_open (row s.rows n).phase ≡ true
  maker_open = top_open a s is slot n on_top

  current : IsCurrent a.jobs (row s.rows n).job
  current = top_job a s is slot n on_top

  fresh : IsFresh a is.places r e
  fresh = record { number = refl; source = refl; job = refl; made_on = refl; stage = rw high refl; groups = refl; contexts = refl }

  here : row rows' N ≡ r
  here = row-push_new s.rows N r refl

  others : (m : ℕ) → m ≢ N → row rows' m ≡ row s.rows m
  others m other = elim (cases_lt (length s.rows) m) [
    | inl after ↦ row-past rows' m (omega (arith, after, other, length_push s.rows r)) ∙ sym (row-past s.rows m after)
    | inr before ↦ row-push_old s.rows m r (omega (arith, before))
  ]

  table_joined : IsJoined a s is.places r a.table
  table_joined = IsJoined-alone a s is r precede precede' (λ m g few. refl)

  abbrev at : Assigned
  at = joined s (length a.jobs) a.table a.contexts is.assigned ctx place r e precede precede' is.contexts refl refl (λ m h. refl)

  new_context : IsRowContext (add_row s r) a.contexts at N (row (add_row s r).rows N).kind
  new_context =
      let it : (N == N) ≡ true = grind arith in
      let older : (n == N) ≡ false = grind (arith, maker_there) in
      let its : at.of_row N ≡ at.of_row n = rw (it, older) context in
      subst (λ k. IsRowContext (add_row s r) a.contexts at N k) (sym (ap (λ (q : Row). q.kind) here)) its

  contexts : AreContexts (add_row s r) (length a.jobs) (slice_set a.table place (Some e)) a.contexts at
  contexts = AreContexts-joined s (length a.jobs) a.table a.contexts is.assigned ctx place r e precede precede' is.contexts refl refl (λ m h. refl) new_context
      (λ q x there. (open_there s.rows x.number (is.table.only q x there).0).1) refl (ap (λ k. k + 1) is.made) no_contexts refl next.within next.vacant

  nested_is : nested_of rows' is.places N ≡ record { frame = f; row = next_id a place; is_region = true }
  nested_is =
      let at_number : ℕ → ℕ → Nested = λ k p. record { frame = f; row = record { number = k; place = p }; is_region = true } in
      ap (λ (q : Row). let x : Nested = record { frame = q.frame; row = id_of is.places N; is_region = is_region q.kind } in x) here ∙ ap (at_number N) placed ∙
      ap (λ k. at_number k place) (sym (ap (λ k. k + 1) is.made))

  nests : AreNests rows' is.places a.config.slots (region_pushed a slot f (next_id a place)).nests
  nests = subst (λ x. AreNests rows' is.places a.config.slots (with_stack a.nests slot (stack a.nests slot ++ x ∷ []))) nested_is
      (AreNests-pushed s.rows rows' is.places a.config.slots a.nests N slot is.nests (on_slot a s is slot n on_top)
      (λ t h live. absurd (let opened : is_open (row s.rows N).phase ≡ true = rw live refl in omega (arith, open_there s.rows N opened))) (rw (here, high) refl) others)

  pool : a.pool ≡ record { isolation = a.config.isolation; limit = a.config.rows; slots = a.config.slots; rows = map (waiting_of rows' is.places) (waiting rows') }
  pool = is.waiting ∙ ap (λ ws. let p : Ready = record { isolation = a.config.isolation; limit = a.config.rows; slots = a.config.slots; rows = ws } in p)
      (sym (waiting-none s.rows r precede precede' is.places refl))

  outer_is : outer_of a.regions e.source ≡ tag_of s.rows is.places n
  outer_is = tag_there a s is n maker_open

  pub region_holds : (d : CurrentJob) → Holds (region_pushed (job_counted (entered a place e) (row s.rows n).job d) slot f (next_id a place)) (add_row s r)
  region_holds d = made_holds a s is place r e kept vacant placed refl refl fresh a.table table_joined a.contexts at d (index_of a (row s.rows n).job) a.pool
      (region_pushed a slot f (next_id a place)).nests (λ c. sym (current.number c)) current.within refl (λ k. refl)
      (maker_there.1, outer_is) (λ none. absurd (some_none n none)) contexts nests pool
