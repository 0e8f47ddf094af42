-- A slot's topmost row has faulted, and the one below it follows where it was a region.
use Rattle.std.proofs.Common.{◌≡◌, ◌≢◌, ℕ, ◌-◌, ◌<◌, ◌≤◌, length, Some, IsSome, true, false, refl, sym, ap, ◌∙◌, arith, map, subst}
use Rattle.std.specs.Prelude.{IfSome}
use Rattle.tenant_model.specs.declared.rows.Kind.{Kind}
use Rattle.tenant_model.specs.declared.rows.Kind.TheVariants.{Root, Posted, Spawned, Region}
use Rattle.tenant_model.specs.declared.rows.Phase.TheVariants.{Live, Faulted}
use Rattle.tenant_model.specs.declared.rows.Row.{Row}
use Rattle.tenant_model.specs.State.{State, row, job}
use Rattle.tenant_model.specs.Walks.{maker_of, is_region, height, top}
use Rattle.tenant_model.specs.Changes.{on_row, task_height, faulted_row}
use Rattle.tenant_model.proofs.Changed.{row-with_other}
use Rattle.tenant_model.proofs.Picks.{top_is}
use Rattle.arena_rows.specs.Held.{Held}
use Rattle.arena_rows.specs.Represents.{Holds}
use Rattle.arena_rows.specs.Endings.{HasFaulty, faulted_rows}
use Rattle.arena_rows.proofs.FaultedRows.{task_low, task_is_top, task_below, faults_top, faults_below, lower_by_one, top_there}

region_maker : (k : Kind) → is_region k ≡ true → (m : ℕ) × (k ≡ Region m)
region_maker Root is = absurd (grind (arith, is))
region_maker Posted is = absurd (grind (arith, is))
region_maker (Spawned m g) is = absurd (grind (arith, is))
region_maker (Region m) is = (m, refl)

module _ (a b : Held) (s : State) (is : Holds a s) (slot n : ℕ) (on_top : top s.rows slot ≡ Some n) where
  abbrev pub s1 : State
  s1 = on_row s n (λ r. record r { phase = Faulted })

  its : (1 ≤ n) × (n ≤ length s.rows) × ((row s.rows n).phase ≡ Live slot (height s.rows slot))
  its = top_is s.rows slot n on_top

  -- A task: it alone faults.
  pub task_faulted : is_region (row s.rows n).kind ≡ false → Holds b s1 → Holds b (faulted_rows s slot)
  task_faulted task holds =
      let same : map (faulted_row slot (task_height s.rows slot)) s.rows ≡ s1.rows =
      ap (λ k. map (faulted_row slot k) s.rows) (task_is_top slot s.rows is.steady.formed.stacked n on_top task) ∙ faults_top slot s.rows is.steady.formed.stacked n on_top in
      subst (λ rows. Holds b (record s { rows = rows })) (sym same) holds

  -- A region: its maker is on top now, and faults next.
  module _ (region : is_region (row s.rows n).kind ≡ true) (holds : Holds b s1) where
    pub found : (m : ℕ) × ((row s.rows n).kind ≡ Region m)
    found = region_maker (row s.rows n).kind region

    abbrev m : ℕ
    m = found.0

    made : maker_of (row s.rows n).kind ≡ Some m
    made = ap maker_of found.1

    apart : m ≢ n
    apart same = let before : IfSome (Some m) (λ x. (1 ≤ x) × (x < n)) = rw made at (is.steady.formed.linked.makers n its.0 its.1) in omega (arith, before, same)

    old : row s1.rows m ≡ row s.rows m
    old = row-with_other s.rows n m (record (row s.rows n) { phase = Faulted }) its.0 apart

    below : (row s.rows m).phase ≡ Live slot (height s.rows slot - 1)
    below = is.steady.formed.on_makers.below n m slot (height s.rows slot) found.1 its.2

    lower : height s1.rows slot ≡ height s.rows slot - 1
    lower = omega (arith, lower_by_one slot s.rows is.steady.formed.stacked n on_top)

    pub next_top : top s1.rows slot ≡ Some m
    next_top = top_there s1.rows slot m holds.steady.formed.stacked (ap (λ (r : Row). r.phase) old ∙ below ∙ ap (Live slot) (sym lower))

    pub next_fault : IsSome (job s.jobs (row s.rows n).job).fault → IsSome (job s1.jobs (row s1.rows m).job).fault
    next_fault fault =
        let same : (row s1.rows m).job ≡ (row s.rows n).job = ap (λ (r : Row). r.job) old ∙ sym (is.steady.tended.shared n m made) in
        subst (λ j. IsSome (job s.jobs j).fault) (sym same) fault

    pub next_faulty : IsSome (job s.jobs (row s.rows n).job).fault → HasFaulty b slot
    next_faulty fault = (s1, m, holds, next_top, next_fault fault)

    pub region_faulted : (c : Held) → Holds c (faulted_rows s1 slot) → Holds c (faulted_rows s slot)
    region_faulted c all =
        let k = task_height s.rows slot in
        let low = task_low slot s.rows is.steady.formed.stacked n on_top in
        let same : map (faulted_row slot (task_height s1.rows slot)) s1.rows ≡ map (faulted_row slot k) s.rows =
        ap (λ i. map (faulted_row slot i) s1.rows) (task_below slot s.rows is.steady.formed.stacked n on_top region) ∙ faults_below slot s.rows is.steady.formed.stacked n on_top k low in
        subst (λ rows. Holds c (record s { rows = rows })) same all
