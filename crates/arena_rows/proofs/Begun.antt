-- A job more whose root waits, or is on a slot with nothing on it.
use Rattle.std.proofs.Common.{◌≡◌, ◌≢◌, ℕ, ◌+◌, ◌<◌, List, [], ◌∷◌, ◌++◌, length, Option, None, true, false, refl, sym, ap, ◌∙◌, arith, inl, inr, map, subst}
use Rattle.std.specs.Option.{option_map}
use Rattle.std.proofs.lemmas.Bool.{cases_lt}
use Rattle.std.proofs.lemmas.List.{length_push}
use Rattle.job_language.specs.declared.jobs.Job.{Job}
use Rattle.job_language.specs.declared.tenants.Tenant.{Tenant}
use Rattle.cancel_context.specs.Forest.{binding, held_count, with_bound}
use Rattle.ready_pool.specs.declared.pool.Waiting.{Waiting}
use Rattle.ready_pool.specs.Ready.{Ready, with_row}
use Rattle.nest_stack.specs.declared.stack.Nested.{Nested}
use Rattle.nest_stack.specs.Nest.{stack, with_stack}
use Rattle.tenant_model.specs.declared.rows.Phase.TheVariants.{Unstarted, Live}
use Rattle.tenant_model.specs.declared.rows.Row.{Row}
use Rattle.tenant_model.specs.declared.works.TheConstants.{MAX_JOBS}
use Rattle.tenant_model.specs.State.{State, row}
use Rattle.tenant_model.specs.Walks.{is_open, is_region, region_of, height}
use Rattle.tenant_model.specs.Asks.{add_job}
use Rattle.tenant_model.specs.Linked.{MakersPrecede}
use Rattle.tenant_model.proofs.AttendedSteps.{open_there}
use Rattle.tenant_model.proofs.Changed.{row-push_old, row-push_new, row-past}
use Rattle.tenant_model.proofs.Steady.{steady_added, steady_placed}
use Rattle.tenant_model.proofs.Within.{region_of-none}
use Rattle.tenant_model.specs.Sound.{IsSteady}
use Rattle.arena_rows.specs.declared.rows.Stage.TheVariants as stage
use Rattle.arena_rows.specs.Held.{Held, HasFreePlace}
use Rattle.arena_rows.specs.Represents.{id_of, nested_of, waiting, waiting_of, AreNests, Holds, Rests, IsFree}
use Rattle.arena_rows.specs.HeldChanges.{next_id, root_frame, job_begun, root_pushed, put}
use Rattle.arena_rows.proofs.Making.{free_room}
use Rattle.arena_rows.proofs.NewSettled.{added_settled}
use Rattle.arena_rows.proofs.Placed.{IsPlaced, next_placed}
use Rattle.arena_rows.proofs.Pushed.{AreNests-pushed}
use Rattle.arena_rows.proofs.Pushing.{AreNests-waiting, waiting-none, waiting-one}
use Rattle.arena_rows.proofs.Submitted.{begun_holds, r}
use Rattle.arena_rows.proofs.Tops.{height_is}

module _ (a : Held) (s : State) (is : Holds a s) (place : ℕ) (placed : is.places (length s.rows + 1) ≡ place) (j : Job) (c : ℕ)
    (vacant : IsFree a.table place) (room : length a.jobs < MAX_JOBS) (free : binding a.contexts c ≡ None) (inside : c < length a.contexts)
    (count : held_count (with_bound a.contexts c None) ≡ held_count a.contexts + 1) where
  abbrev N : ℕ
  N = length s.rows + 1

  precede : MakersPrecede s.rows
  precede = is.steady.formed.linked.makers

  number : a.made + 1 ≡ N
  number = ap (λ k. k + 1) is.made

  abbrev pool_of : List Waiting → Ready
  pool_of ws = record { isolation = a.config.isolation; limit = a.config.rows; slots = a.config.slots; rows = ws }

  module _ (kept : IsSteady (add_job s j Unstarted)) where
    abbrev w : Waiting
    w = record { row = next_id a place; made_on = None; region = None }

    abbrev new : Row
    new = r a s is place placed j Unstarted (stage.Waiting (root_frame j)) c refl refl refl kept vacant room free inside count

    abbrev rows1 : List Row
    rows1 = s.rows ++ new ∷ []

    precede1 : MakersPrecede rows1
    precede1 = kept.formed.linked.makers

    pool : with_row a.pool w ≡ pool_of (map (waiting_of rows1 is.places) (waiting rows1))
    pool =
        let here : row rows1 N ≡ new = row-push_new s.rows N new refl in
        let no_region : region_of rows1 N ≡ None = region_of-none rows1 precede1 N (omega arith) (omega (arith, length_push s.rows new)) (rw here refl) (rw here refl) in
        let waiting_at : ℕ → ℕ → Option ℕ → Waiting = λ k q region. record { row = record { number = k; place = q }; made_on = None; region = option_map (id_of is.places) region } in
        let w_is : w ≡ waiting_at N (is.places N) (region_of rows1 N) =
        ap (λ k. waiting_at k place None) number ∙ ap (λ q. waiting_at N q None) (sym placed) ∙ ap (waiting_at N (is.places N)) (sym no_region) in
        ap (λ q. with_row q w) is.waiting ∙ ap pool_of (ap (λ v. map (waiting_of s.rows is.places) (waiting s.rows) ++ v ∷ []) w_is ∙ sym (waiting-one s.rows new precede precede1 is.places refl))

    pub submitted_holds : Holds (put (job_begun a place j (stage.Waiting (root_frame j)) c) w) (add_job s j Unstarted)
    submitted_holds = begun_holds a s is place placed j Unstarted (stage.Waiting (root_frame j)) c refl refl refl kept vacant room free inside count (with_row a.pool w) a.nests
        (AreNests-waiting s.rows new precede precede1 is.places a.config.slots a.nests refl is.nests) pool

  module _ (slot : ℕ) (kept : IsSteady (add_job s j (Live slot 1))) (low : slot < a.config.slots) (bare : length (stack a.nests slot) ≡ 0) where
    abbrev new_live : Row
    new_live = r a s is place placed j (Live slot 1) (stage.Live slot 1) c refl refl refl kept vacant room free inside count

    abbrev rows2 : List Row
    rows2 = s.rows ++ new_live ∷ []

    precede2 : MakersPrecede rows2
    precede2 = kept.formed.linked.makers

    here2 : row rows2 N ≡ new_live
    here2 = row-push_new s.rows N new_live refl

    others : (m : ℕ) → m ≢ N → row rows2 m ≡ row s.rows m
    others m other = elim (cases_lt (length s.rows) m) [
      | inl after ↦ row-past rows2 m (omega (arith, after, other, length_push s.rows new_live)) ∙ sym (row-past s.rows m after)
      | inr before ↦ row-push_old s.rows m new_live (omega (arith, before))
    ]

    nested_is : nested_of rows2 is.places N ≡ record { frame = root_frame j; row = next_id a place; is_region = false }
    nested_is =
        let at_number : ℕ → ℕ → Nested = λ k q. record { frame = root_frame j; row = record { number = k; place = q }; is_region = false } in
        ap (λ (q : Row). let x : Nested = record { frame = q.frame; row = id_of is.places N; is_region = is_region q.kind } in x) here2 ∙ ap (at_number N) placed ∙
        ap (λ k. at_number k place) (sym number)

    nests : AreNests rows2 is.places a.config.slots (root_pushed a slot (root_frame j) (next_id a place)).nests
    nests =
        let first : length (stack a.nests slot) + 1 ≡ 1 = omega (arith, bare) in
        subst (λ x. AreNests rows2 is.places a.config.slots (with_stack a.nests slot (stack a.nests slot ++ x ∷ []))) nested_is
        (AreNests-pushed s.rows rows2 is.places a.config.slots a.nests N slot is.nests low
        (λ t h live. absurd (let opened : is_open (row s.rows N).phase ≡ true = rw live refl in omega (arith, open_there s.rows N opened)))
        (ap (λ (q : Row). q.phase) here2 ∙ ap (Live slot) (sym first)) others)

    live_pool : a.pool ≡ pool_of (map (waiting_of rows2 is.places) (waiting rows2))
    live_pool = is.waiting ∙ ap pool_of (sym (waiting-none s.rows new_live precede precede2 is.places refl))

    pub placed_holds : Holds (root_pushed (job_begun a place j (stage.Live slot 1) c) slot (root_frame j) (next_id a place)) (add_job s j (Live slot 1))
    placed_holds = begun_holds a s is place placed j (Live slot 1) (stage.Live slot 1) c refl refl refl kept vacant room free inside count a.pool
        (root_pushed a slot (root_frame j) (next_id a place)).nests nests live_pool

module _ (a : Held) (s : State) (rests : Rests a s) (place : ℕ) (j : Job) (c : ℕ)
    (vacant : IsFree a.table place) (some : HasFreePlace a) (room : length a.jobs < MAX_JOBS) (free : binding a.contexts c ≡ None) (inside : c < length a.contexts)
    (count : held_count (with_bound a.contexts c None) ≡ held_count a.contexts + 1) where
  next : IsPlaced a s rests.holds place
  next = next_placed a s rests.holds place

  limit : a.config.rows ≡ s.config.rows
  limit = ap (λ (t : Tenant). t.rows) rests.holds.config

  -- what is held after a job was submitted
  pub submitted_rests : Rests (put (job_begun a place j (stage.Waiting (root_frame j)) c) (record { row = next_id a place; made_on = None; region = None })) (add_job s j Unstarted)
  submitted_rests =
      let is = rests.holds in
      let kept = steady_added s is.steady j (omega (arith, free_room a s is some, limit)) in
      record { holds = submitted_holds a s next.holds place next.placed j c vacant room free inside count kept; settled = added_settled s j Unstarted is.steady.formed.linked rests.settled }

  -- and after one was placed
  pub placed_rests : (slot : ℕ) → slot < a.config.reserved → length (stack a.nests slot) ≡ 0 →
      Rests (root_pushed (job_begun a place j (stage.Live slot 1) c) slot (root_frame j) (next_id a place)) (add_job s j (Live slot 1))
  placed_rests slot low bare =
      let is = rests.holds in
      let reserved = ap (λ (t : Tenant). t.reserved) is.config in
      let slots = ap (λ (t : Tenant). t.slots) is.config in
      let empty : height s.rows slot ≡ 0 = sym (height_is s.rows is.places a.config.slots a.nests is.steady.formed.stacked is.nests slot) ∙ bare in
      let kept = steady_placed s is.steady j slot (omega (arith, free_room a s is some, limit)) (omega (arith, low, reserved)) empty in
      record {
        holds = placed_holds a s next.holds place next.placed j c vacant room free inside count slot kept (omega (arith, low, reserved, slots, is.steady.tended.reserved)) bare;
        settled = added_settled s j (Live slot 1) is.steady.formed.linked rests.settled;
      }
