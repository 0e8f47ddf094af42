-- All jobs retired, where no row is open.
use Rattle.std.proofs.Common.{◌≡◌, ◌≢◌, ℕ, zero, suc, ◌+◌, ◌-◌, ◌<◌, nat_lt, List, [], ◌∷◌, length, Option, Some, None, true, false, refl, sym, ap, ◌∙◌, arith, inl, inr, get_or, map, not, ◌≤◌}
use Rattle.std.specs.Prelude.{All, count_by, is_some, sum_by}
use Rattle.std.proofs.Math.ListN.{get_or-map}
use Rattle.std.proofs.lemmas.Bool.{cases_eq}
use Rattle.std.proofs.lemmas.List.{length-map, get_or-set_other, get_or_default}
use Rattle.std.proofs.lemmas.List.Sums.{sum_by-cons}
use Rattle.cancel_context.specs.Forest.{Forest, Binding, binding, parent_in, parent, IsHeld, held_count, leaving, without_parent, without}
use Rattle.cancel_context.proofs.Chains.{IsHeld-within}
use Rattle.cancel_context.proofs.Released.{binding-without}
use Rattle.tenant_model.specs.declared.rows.Row.{Row}
use Rattle.tenant_model.specs.declared.works.Work.{Work}
use Rattle.tenant_model.specs.State.{State, row, job}
use Rattle.thread_cells.specs.Cells.{no_cells}
use Rattle.tenant_model.specs.Walks.{is_open, is_job_cancelled}
use Rattle.tenant_model.specs.Changes.{open_rows, entry}
use Rattle.tenant_model.specs.Asks.{retired_work}
use Rattle.tenant_model.specs.Sound.{IsSettled}
use Rattle.tenant_model.proofs.AttendedSteps.{open_there}
use Rattle.tenant_model.proofs.Changed.{row-get_or, numbered_or}
use Rattle.tenant_model.proofs.Steady.{steady_retired}
use Rattle.arena_rows.specs.declared.rows.OpenRow.{OpenRow}
use Rattle.arena_rows.specs.declared.rows.CurrentJob.{CurrentJob}
use Rattle.arena_rows.specs.Held.{Held}
use Rattle.arena_rows.specs.Represents.{Owner, Nobody, OfJob, OfRow, OfGroup, at_place, held_by, IsOwned, Holds, Rests, IsKept}
use Rattle.arena_rows.specs.Retiring.{HoldJobs, all_retired, IsIdle}
use Rattle.arena_rows.proofs.NewSettled.{counted_there}
use Rattle.arena_rows.proofs.Picking.{unstarted_open}
use Rattle.arena_rows.proofs.Started.{some_none}
use Rattle.arena_rows.proofs.Starts.{settled_entry}
use Rattle.arena_rows.proofs.Counters.{any_counted}
use Rattle.arena_rows.proofs.JobPlaces.{numbers-apart}

pub nothing_summed : {A : Type 0} (f : A → ℕ) (xs : List A) (d : A) → ((i : ℕ) → i < length xs → f (get_or xs i d) ≡ 0) → sum_by f xs ≡ 0
nothing_summed f [] d each = refl
nothing_summed f (x ∷ xs) d each =
    let first : f x ≡ 0 = each 0 (omega arith) in
    omega (arith, sum_by-cons f x xs, first, nothing_summed f xs d (λ i below. each (suc i) (omega (arith, below))))

all_gone : (ws : List Work) → All (λ (w : Work). w.retired ≡ true) (map retired_work ws)
all_gone [] k d below = absurd (omega (arith, below))
all_gone (w ∷ ws) zero d below = refl
all_gone (w ∷ ws) (suc k) d below = all_gone ws k d (omega (arith, below))

nothing_current : (ws : List Work) → count_by (λ (w : Work). not w.retired) (map retired_work ws) ≡ 0
nothing_current [] = refl
nothing_current (w ∷ ws) = nothing_current ws

abbrev pub job_in : Owner → ℕ
job_in Nobody = 0
job_in (OfJob j) = j
job_in (OfRow n) = 0
job_in (OfGroup n g) = 0

-- Where no context is bound to another, none is after one is released.
module _ (forest : Forest) (c : ℕ) (held : IsHeld forest c) (bare : (d p : ℕ) → parent forest d ≡ Some p → ⊥) where
  by_parent : (d p : ℕ) (b : Binding) (o : Option ℕ) → binding forest d ≡ Some b → b.parent ≡ o → (leaving c b o).parent ≡ Some p → ⊥
  by_parent d p b None here none is = some_none p (sym is ∙ none)
  by_parent d p b (Some q) here some is = bare d q (ap parent_in here ∙ some)

  by_binding : (d p : ℕ) (o : Option Binding) → binding forest d ≡ o → parent_in (without_parent c o) ≡ Some p → ⊥
  by_binding d p None here is = some_none p (sym is)
  by_binding d p (Some b) here is = by_parent d p b b.parent here refl is

  pub bare-without : (d p : ℕ) → parent (without forest c) d ≡ Some p → ⊥
  bare-without d p is = elim (cases_eq d c) [
    | inl same ↦ some_none p (sym is ∙ ap (λ k. parent (without forest c) k) same ∙ ap parent_in (binding-without forest c held))
    | inr other ↦ by_binding d p (binding forest d) refl (sym (ap parent_in (get_or-set_other (map (without_parent c) forest) c d None None other ∙ get_or-map (without_parent c) forest d None)) ∙ is)
  ]

-- What is held after the next job's context was released.
pub hold-released : (forest after : Forest) (jobs : List CurrentJob) (from : ℕ) (it : CurrentJob) → it ≡ get_or jobs from it → from < length jobs → HoldJobs forest jobs from →
    after ≡ without forest it.context →
    ((c : ℕ) → c ≢ it.context → IsHeld forest c → IsHeld after c) → held_count after + 1 ≡ held_count forest → HoldJobs after jobs (from + 1)
hold-released forest after jobs from it item within hold released keeps count =
    let context : it.context ≡ (get_or jobs from it).context = ap (λ (x : CurrentJob). x.context) item in
    let held : IsHeld forest it.context = ap (λ c. is_some (binding forest c)) context ∙ hold.each from it (omega arith) within in
    record {
      each = λ i d low below.
          let apart : (get_or jobs i d).context ≢ it.context =
          λ same. hold.apart from i d (omega arith) (omega (arith, low)) below (ap (λ (x : CurrentJob). x.context) (get_or_default jobs from d it within) ∙ sym context ∙ sym same) in
          keeps (get_or jobs i d).context apart (hold.each i d (omega (arith, low)) below);
      apart = λ i k d low order below. hold.apart i k d (omega (arith, low)) order below;
      bare = λ c p bound. bare-without forest it.context held hold.bare c p (sym (ap (λ f. parent f c) released) ∙ bound);
      count = omega (arith, count, hold.count);
    }

module _ (a : Held) (s : State) (is : Holds a s) (idle : count_by is_some a.table ≡ 0) where
  none_counted : open_rows s.rows ≡ 0
  none_counted = omega (arith, is.free.count, idle)

  none_open : (n : ℕ) → is_open (row s.rows n).phase ≡ true → ⊥
  none_open n opened =
      let there = open_there s.rows n opened in
      let d = row s.rows n in
      let place : n - 1 + 1 ≡ n = omega (arith, there) in
      let here : get_or s.rows (n - 1) d ≡ row s.rows n = row-get_or s.rows (n - 1) d (omega (arith, there)) ∙ ap (row s.rows) place in
      let one = counted_there (λ (r : Row). is_open r.phase) s.rows (n - 1) d (omega (arith, there)) (rw here opened) in
      omega (arith, one, none_counted)

  no_entry : (p : ℕ) (e : OpenRow) → at_place a.table p ≡ Some e → ⊥
  no_entry p e here = none_open e.number (is.table.only p e here).0

  by_entry : (p : ℕ) (o : Option OpenRow) → at_place a.table p ≡ o → held_by o ≡ 0
  by_entry p None here = refl
  by_entry p (Some e) here = absurd (no_entry p e here)

  no_held : sum_by held_by a.table ≡ 0
  no_held = nothing_summed held_by a.table None (λ i below. by_entry i (at_place a.table i) refl)

  told : (i : ℕ) (d : CurrentJob) → i < length a.jobs → (get_or a.jobs i d).context ≡ is.assigned.of_job (get_or a.jobs i d).number
  told i d below = (is.jobs.each i d below).context

  its_context : (i : ℕ) (d : CurrentJob) → i < length a.jobs → let j = (get_or a.jobs i d).number in
      (is.assigned.owner (is.assigned.of_job j) ≡ OfJob j) ×
      (binding a.contexts (is.assigned.of_job j) ≡ Some (record { parent = None; is_asked = is_job_cancelled (job s.jobs j); is_orphan = false }))
  its_context i d below =
      let known = is.jobs.there i d below in
      is.contexts.of_jobs (get_or a.jobs i d).number (record { from = known.0; kept = ap (λ (w : Work). w.retired) (is.jobs.works i d below) ∙ (is.jobs.each i d below).current }) known.1

  by_owner : (c p : ℕ) (o : Owner) → IsOwned s is.assigned c o → parent a.contexts c ≡ Some p → ⊥
  by_owner c p Nobody owned bound = owned
  by_owner c p (OfJob j) owned bound =
      let there = (is.contexts.of_jobs j owned.1 owned.2).1 in
      some_none p (sym bound ∙ ap parent_in (ap (binding a.contexts) (sym owned.0) ∙ there))
  by_owner c p (OfRow n) owned bound = none_open n owned.1
  by_owner c p (OfGroup n g) owned bound = none_open n owned.1

  bound_held : (c p : ℕ) (o : Option Binding) → binding a.contexts c ≡ o → parent_in o ≡ Some p → is_some o ≡ true
  bound_held c p None here bound = absurd (some_none p (sym bound))
  bound_held c p (Some b) here bound = refl

  -- Only jobs hold contexts.
  pub hold_jobs : HoldJobs a.contexts a.jobs 0
  hold_jobs = record {
    each = λ i d from below.
        let there = (its_context i d below).1 in
        ap is_some (ap (binding a.contexts) (told i d below) ∙ there);
    apart = λ i k d from order below same.
        let low : i < length a.jobs = omega (arith, order, below) in
        let one : (get_or a.jobs i d).number ≡ (get_or a.jobs k d).number =
        ap job_in (sym (its_context i d low).0 ∙ ap is.assigned.owner (sym (told i d low) ∙ same ∙ told k d below) ∙ (its_context k d below).0) in
        numbers-apart a.jobs i k d is.jobs.order low below (omega (arith, order)) one;
    bare = λ c p bound. by_owner c p (is.assigned.owner c) (is.contexts.owned c (bound_held c p (binding a.contexts c) refl bound)) bound;
    count = omega (arith, is.contexts.count, no_held);
  }

  module _ (forest : Forest) (none : held_count forest ≡ 0) (long : length forest ≡ length a.contexts) where
    abbrev more : State
    more = record s { jobs = map retired_work s.jobs; cells = no_cells; epoch = s.epoch + 1 }

    not_held : (c : ℕ) → IsHeld forest c → ⊥
    not_held c held = omega (arith, counted_there (λ (b : Option Binding). is_some b) forest c None (IsHeld-within forest c held) held, none)

    settled : IsSettled more
    settled n waits = absurd (none_open n (unstarted_open (row s.rows n).phase waits))

    none_kept : (j : ℕ) → IsKept (map retired_work s.jobs) j → j ≤ length (map retired_work s.jobs) → ⊥
    none_kept j kept to =
        let d : Work = job [] 0 in
        let from = kept.from in
        let within : j - 1 < length (map retired_work s.jobs) = omega (arith, from, to) in
        let here : job (map retired_work s.jobs) j ≡ get_or (map retired_work s.jobs) (j - 1) d = numbered_or (map retired_work s.jobs) d j from in
        let gone : (get_or (map retired_work s.jobs) (j - 1) d).retired ≡ true = all_gone s.jobs (j - 1) d within in
        let its = kept.kept in
        let both : true ≡ false = sym gone ∙ ap (λ (w : Work). w.retired) (sym here) ∙ its in
        grind (arith, both)

    none_current : count_by (λ (w : Work). not w.retired) (map retired_work s.jobs) ≡ 0
    none_current = nothing_current s.jobs

    pub ended_holds : Holds (all_retired a forest) (record more { entries = s.entries + 1 })
    ended_holds = record {
      config = is.config;
      places = is.places;
      assigned = is.assigned;
      made = is.made;
      made_jobs = is.made_jobs ∙ sym (length-map s.jobs retired_work);
      table = is.table;
      free = is.free;
      nests = is.nests;
      tags = is.tags;
      waiting = is.waiting;
      contexts = record {
        of_jobs = λ j kept to. absurd (none_kept j kept to);
        of_rows = λ n opened. absurd (none_open n opened);
        of_groups = λ n g opened few. absurd (none_open n opened);
        bare = λ n g waits. absurd (none_open n (unstarted_open (row s.rows n).phase waits));
        owned = λ c held. absurd (not_held c held);
        in_table = λ p e here. absurd (no_entry p e here);
        count = omega (arith, none, no_held);
      };
      room = long ∙ is.room;
      jobs = record {
        order = λ i k d low below. absurd (omega (arith, below));
        there = λ i d below. absurd (omega (arith, below));
        works = λ i d below. absurd (omega (arith, below));
        all = λ j kept to. absurd (none_kept j kept to);
        many = none_current;
        each = λ i d below. absurd (omega (arith, below));
        later = λ n opened. absurd (none_open n opened);
        few = omega arith;
      };
      cells = refl;
      entries = ap (λ k. k + 1) is.entries;
      epoch = ap (λ k. k + 1) is.epoch;
      steady = steady_retired s is.steady;
    }

    pub ended_rests : Rests (all_retired a forest) (entry more)
    ended_rests = rw (settled_entry more settled) (record { holds = ended_holds; settled = settled })

-- While nothing is open, all places are free.
pub all_free : (a : Held) → IsIdle a → count_by is_some a.table ≡ 0
all_free a idle =
    let is = idle.1.holds in
    let none : nat_lt 0 (open_rows idle.0.rows) ≡ false = sym (any_counted (λ (r : Row). is_open r.phase) idle.0.rows) ∙ idle.2 in
    let zero_open : open_rows idle.0.rows ≡ 0 = grind (arith, none) in
    omega (arith, is.free.count, zero_open)
