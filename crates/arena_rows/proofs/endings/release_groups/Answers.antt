use Rattle.std.proofs.Common.{◌≡◌, ◌≢◌, ◌+◌, ◌<◌, ℕ, List, Option, Some, None, refl, sym, ap, ◌∙◌, arith, subst, length}
use Rattle.std.specs.Prelude.{slice_index_or}
use Rattle.std.proofs.lemmas.List.{get_or_default}
use Rattle.cancel_context.specs.Forest.{Forest, IsForest, without, held_count, is_cancelled}
use Rattle.arena_rows.specs.declared.rows.OpenRow.{OpenRow}
use Rattle.arena_rows.specs.OpenRows.{OpenRows}
use Rattle.arena_rows.specs.Endings.{Left, below}
use Rattle.arena_rows.proofs.Left.{Left-none, next_held, next_ends, next_left, next_none}
use Rattle.arena_rows.proofs.endings.release_groups.Goals.{in-Some, in_default}
use Rattle.arena_rows.proofs.endings.release_groups.Goals as goal

-- what is left once the contexts of the groups below a number are released
abbrev Kept : Forest → List (Option OpenRow) → List (Option ℕ) → OpenRows → ℕ → Type 0
Kept start table groups rows number = record {
  left : Left start rows.contexts (below groups number);
  table : rows.table ≡ table;
}

pub loop-number-init : goal.loop-number-init
loop-number-init c = record { left = Left-none c.args.rows.now.contexts; table = refl }

pub release-requires-clause-held : goal.release-requires-clause-held
release-requires-clause-held c =
    next_held c.args.rows.now.contexts c.loop-number.rows.contexts c.args.groups.now c.loop-number.number c.in-Some.context c.requires c.loop-number-test.true
    (get_or_default c.args.groups.now c.loop-number.number None _ (omega (arith, c.loop-number-test.true, c.type_inv.groups)) ∙ c.in-Some.is) c.loop-number.invariant.left

pub release-requires-clause-ends : goal.release-requires-clause-ends
release-requires-clause-ends c =
    next_ends c.args.rows.now.contexts c.loop-number.rows.contexts c.args.groups.now c.loop-number.number c.in-Some.context c.requires c.loop-number-test.true
    (get_or_default c.args.groups.now c.loop-number.number None _ (omega (arith, c.loop-number-test.true, c.type_inv.groups)) ∙ c.in-Some.is) c.loop-number.invariant.left

pub loop-number-preserved : goal.loop-number-preserved
loop-number-preserved c =
    let start = c.args.rows.now.contexts in
    let groups = c.args.groups.now in
    let before = c.loop-number.rows.contexts in
    let number = c.loop-number.number in
    let within : c.loop-number.number < length groups = omega (arith, c.loop-number-test.true, c.type_inv.groups) in
    elim c.match-groups-number.branch [
      | in-Some w ↦
          let here : slice_index_or groups number None ≡ Some w.in-Some.context = get_or_default groups number None _ within ∙ w.in-Some.is in
          let released : w.release.new.self.contexts ≡ without before w.in-Some.context = ap (λ (r : OpenRows). r.contexts) w.release.ensures.released in
          let count : held_count (without before w.in-Some.context) + 1 ≡ held_count before = ap (λ f. held_count f + 1) (sym released) ∙ w.release.ensures.count in
          let others : (d : ℕ) → d ≢ w.in-Some.context → is_cancelled (without before w.in-Some.context) d ≡ is_cancelled before d =
          λ d apart. ap (λ f. is_cancelled f d) (sym released) ∙ w.release.ensures.others d apart in
          let after = subst (λ f. Left start f (below groups (number + 1))) (sym released)
          (next_left start before groups number w.in-Some.context c.requires c.loop-number-test.true here c.loop-number.invariant.left count others
          (subst IsForest released w.release.ensures.forest)) in
          subst (λ (r : OpenRows). Kept start c.args.rows.now.table groups r (number + 1)) (sym w.rows-is)
          (record { left = after; table = ap (λ (r : OpenRows). r.table) w.release.ensures.released ∙ c.loop-number.invariant.table })
      | in_default w ↦
          let none : slice_index_or groups number None ≡ None = get_or_default groups number None _ within ∙ w.in_default.is in
          subst (λ (r : OpenRows). Kept start c.args.rows.now.table groups r (number + 1)) (sym w.rows-is)
          (record { left = next_none start before groups number none c.loop-number.invariant.left; table = c.loop-number.invariant.table })
    ]

pub returns-clause-left : goal.returns-clause-left
returns-clause-left c = let all : c.loop-number.number ≡ 4 = omega (arith, c.loop-number-test.false, c.loop-number.auto.number-end) in
    subst (λ k. Left c.args.rows.now.contexts c.loop-number.rows.contexts (below c.args.groups.now k)) all c.loop-number.invariant.left
