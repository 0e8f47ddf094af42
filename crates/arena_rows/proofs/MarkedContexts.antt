-- Contexts where a row has another mark of a group.
use Rattle.std.proofs.Common.{◌≡◌, ℕ, ◌+◌, ◌<◌, ◌≤◌, List, [], ◌∷◌, length, Option, Some, None, true, false, refl, sym, ap, ◌∙◌, arith, inl, inr, get_or}
use Rattle.std.specs.Prelude.{slice_index_or, sum_by}
use Rattle.std.specs.List.{list_any}
use Rattle.job_language.specs.declared.instructions.TheConstants.{GROUPS}
use Rattle.cancel_context.specs.Forest.{Forest, binding, IsHeld, held_count}
use Rattle.tenant_model.specs.declared.rows.Kind.{Kind}
use Rattle.tenant_model.specs.declared.rows.Kind.TheVariants.{Root, Posted, Spawned, Region}
use Rattle.tenant_model.specs.declared.rows.Mark.{Mark}
use Rattle.tenant_model.specs.declared.rows.Row.{Row}
use Rattle.tenant_model.specs.State.{State, row, job}
use Rattle.tenant_model.specs.Walks.{is_open, is_unstarted, is_used, mark, is_job_cancelled, is_group_cancelled, chain, value_in}
use Rattle.tenant_model.specs.Sound.{IsSettled}
use Rattle.arena_rows.specs.declared.rows.OpenRow.{OpenRow}
use Rattle.arena_rows.specs.declared.rows.CurrentJob.{CurrentJob}
use Rattle.arena_rows.specs.MarkedGroups.{marked}
use Rattle.arena_rows.specs.Represents.{at_place, Assigned, Owner, Nobody, OfJob, OfRow, OfGroup, bound, IsRowContext, IsGroupContext, IsOwned, AreContexts, held_by, IsJob, AreJobs}
use Rattle.arena_rows.proofs.Ends.{is_group, row_in, group_in}
use Rattle.arena_rows.proofs.MarkedRows.{part, kinds, opens, sources, mark_here, mark_cases, used-marked, chain-marked, open_of-marked}

-- the forest where the request of a group's context is as its mark says
pub record IsRequested (forest forest' : Forest) (at : Assigned) (n g : ℕ) (m : Mark) : Type 0 where
  pub others : (d : ℕ) → (at.owner d ≡ OfGroup n g → ⊥) → binding forest' d ≡ binding forest d
  pub here : (c : ℕ) → at.of_group n g ≡ Some c → binding forest' c ≡ Some (bound (at.of_row n) m.cancelled)
  pub none : at.of_group n g ≡ None → m.cancelled ≡ false
  pub held : (d : ℕ) → IsHeld forest' d → IsHeld forest d
  pub count : held_count forest' ≡ held_count forest

module _ (s : State) (n g : ℕ) (m : Mark) (from : 1 ≤ n) (to : n ≤ length s.rows) (few : g < length (row s.rows n).marks) where
  abbrev t : State
  t = marked s n g m

  opened : (x : ℕ) → is_open (row t.rows x).phase ≡ true → is_open (row s.rows x).phase ≡ true
  opened x is = sym (opens s.rows n g m from to few x) ∙ is

  still_open : (x : ℕ) → is_open (row s.rows x).phase ≡ true → is_open (row t.rows x).phase ≡ true
  still_open x is = opens s.rows n g m from to few x ∙ is

  module _ (current : ℕ) (table : List (Option OpenRow)) (forest forest' : Forest) (at : Assigned) (are : AreContexts s current table forest at) (asked : IsRequested forest forest' at n g m) where
    -- what is of no group
    rest : (d : ℕ) → is_group (at.owner d) ≡ false → binding forest' d ≡ binding forest d
    rest d none = asked.others d (λ same. let no : is_group (at.owner d) ≡ true = ap is_group same in grind (arith, no, none))

    row_context : (x : ℕ) (k : Kind) → IsRowContext s forest at x k → IsRowContext t forest' at x k
    row_context x Root is = is ∙ sym (ap at.of_job ((sources s.rows n g m from to few).jobs x))
    row_context x Posted is = is ∙ sym (ap at.of_job ((sources s.rows n g m from to few).jobs x))
    row_context x (Region h) is = is
    row_context x (Spawned h f) is =
        let own = rest (at.of_row x) (ap is_group is.0) in (
          is.0,
          elim is.1 [
            | inl held ↦ inl (still_open h held.0, (held.1.0, held.1.1, own ∙ held.1.2))
            | inr gone ↦ inr (opens s.rows n g m from to few h ∙ gone.0, own ∙ gone.1)
          ],
        )

    -- another group's context
    other_context : (x h : ℕ) (o : Option ℕ) → ((x ≡ n) → (h ≡ g) → ⊥) → mark t.rows x h ≡ mark s.rows x h → IsGroupContext s forest at x h o → IsGroupContext t forest' at x h o
    other_context x h None apart same is = (used-marked s.rows n g m from to few x h (ap (λ (k : Mark). k.rows) same) ∙ is.0, ap (λ (k : Mark). k.cancelled) same ∙ is.1)
    other_context x h (Some d) apart same is =
        let its = asked.others d (λ owner. let both : OfGroup x h ≡ OfGroup n g = sym is.0 ∙ owner in apart (ap row_in both) (ap group_in both)) in
        (is.0, its ∙ is.1 ∙ ap (λ (k : Mark). Some (bound (at.of_row x) k.cancelled)) (sym same))

    -- and its own
    own_context : (o : Option ℕ) → at.of_group n g ≡ o → (o ≡ None → is_used t.rows n g ≡ false) → IsGroupContext s forest at n g o → IsGroupContext t forest' at n g o
    own_context None given unused is = (unused refl, ap (λ (k : Mark). k.cancelled) (mark_here s.rows n g m from to few) ∙ asked.none given)
    own_context (Some c) given unused is = (is.0, asked.here c given ∙ ap (λ (k : Mark). Some (bound (at.of_row n) k.cancelled)) (sym (mark_here s.rows n g m from to few)))

    owned_still : (d : ℕ) (o : Owner) → IsOwned s at d o → IsOwned t at d o
    owned_still d Nobody is = is
    owned_still d (OfJob j) is = is
    owned_still d (OfRow x) is = (is.0, still_open x is.1, (is.2.0, is.2.1, kinds s.rows n g m from to few x ∙ is.2.2))
    owned_still d (OfGroup x h) is = (is.0, still_open x is.1, is.2)

    pub AreContexts-marked : (table' : List (Option OpenRow)) →
        ((p : ℕ) (e : OpenRow) → at_place table' p ≡ Some e → (e.context ≡ at.of_row e.number) × ((h : ℕ) → h < GROUPS → slice_index_or e.group_contexts h None ≡ at.of_group e.number h)) →
        sum_by held_by table' ≡ sum_by held_by table →
        (at.of_group n g ≡ None → is_used t.rows n g ≡ false) → AreContexts t current table' forest' at
    AreContexts-marked table' in_table held unused = record {
      of_jobs = λ j above most. let its = are.of_jobs j above most in (its.0, rest (at.of_job j) (ap is_group its.0) ∙ its.1);
      of_rows = λ x is. let kind = kinds s.rows n g m from to few x in rw kind (row_context x (row s.rows x).kind (are.of_rows x (opened x is)));
      of_groups = λ x h is low. elim (mark_cases s.rows n g m from to few x h) [
        | inl both ↦
            let its : IsGroupContext s forest at n g (at.of_group n g) = rw (both.0, both.1) at (are.of_groups x h (opened x is) low) in
            rw (both.0, both.1) (own_context (at.of_group n g) refl unused its)
        | inr apart ↦ other_context x h (at.of_group x h) apart.0 apart.1 (are.of_groups x h (opened x is) low)
      ];
      bare = λ x h waits. are.bare x h (sym (part s.rows n g m from to few (λ (q : Row). is_unstarted q.phase) refl x) ∙ waits);
      owned = λ d is. owned_still d (at.owner d) (are.owned d (asked.held d is));
      in_table = in_table;
      count = asked.count ∙ are.count ∙ ap (λ k. k + current) (sym held);
    }

  IsJob-marked : (at : Assigned) (j : ℕ) (it : CurrentJob) → IsJob s.rows at j it → IsJob t.rows at j it
  IsJob-marked at j it is = record {
    current = is.current;
    value = is.value ∙ sym (part s.rows n g m from to few (λ (q : Row). value_in q.phase) refl it.work.root);
    opened = is.opened ∙ sym (open_of-marked s.rows n g m from to few j);
    context = is.context;
  }

  pub AreJobs-marked : (at : Assigned) (jobs : List CurrentJob) → AreJobs s at jobs → AreJobs t at jobs
  AreJobs-marked at jobs are = record {
    order = are.order;
    there = are.there;
    works = are.works;
    each = λ i d below. IsJob-marked at (get_or jobs i d).number (get_or jobs i d) (are.each i d below);
    all = are.all;
    many = are.many;
    later = λ x is. let same = (sources s.rows n g m from to few).jobs x in rw same (are.later x (opened x is));
    few = are.few;
  }

  -- A mark that is not cancelled cancels nothing.
  module _ (fine : m.cancelled ≡ false) where
    group_fine : (k : Kind) → is_group_cancelled s.rows k ≡ false → is_group_cancelled t.rows k ≡ false
    group_fine Root is = is
    group_fine Posted is = is
    group_fine (Region x) is = is
    group_fine (Spawned x h) is = elim (mark_cases s.rows n g m from to few x h) [
      | inl both ↦ rw (both.0, both.1) (ap (λ (k : Mark). k.cancelled) (mark_here s.rows n g m from to few) ∙ fine)
      | inr apart ↦ ap (λ (k : Mark). k.cancelled) apart.1 ∙ is
    ]

    all_fine : (xs : List ℕ) → list_any (λ x. is_group_cancelled s.rows (row s.rows x).kind) xs ≡ false → list_any (λ x. is_group_cancelled t.rows (row t.rows x).kind) xs ≡ false
    all_fine [] is = refl
    all_fine (x ∷ xs) is =
        let first : is_group_cancelled s.rows (row s.rows x).kind ≡ false = grind (arith, is) in
        let later : list_any (λ x. is_group_cancelled s.rows (row s.rows x).kind) xs ≡ false = grind (arith, is) in
        let now : is_group_cancelled t.rows (row t.rows x).kind ≡ false = ap (is_group_cancelled t.rows) (kinds s.rows n g m from to few x) ∙ group_fine (row s.rows x).kind first in
        rw now (all_fine xs later)

    pub IsSettled-marked : IsSettled s → IsSettled t
    IsSettled-marked settled x waits =
        let before = settled x (sym (part s.rows n g m from to few (λ (q : Row). is_unstarted q.phase) refl x) ∙ waits) in
        let job_fine : is_job_cancelled (job s.jobs (row s.rows x).job) ≡ false = grind (arith, before) in
        let chain_fine : list_any (λ y. is_group_cancelled s.rows (row s.rows y).kind) (chain s.rows x) ≡ false = grind (arith, before) in
        let same_job : is_job_cancelled (job s.jobs (row t.rows x).job) ≡ false = ap (λ j. is_job_cancelled (job s.jobs j)) ((sources s.rows n g m from to few).jobs x) ∙ job_fine in
        let same_chain : list_any (λ y. is_group_cancelled t.rows (row t.rows y).kind) (chain t.rows x) ≡ false =
        ap (list_any (λ y. is_group_cancelled t.rows (row t.rows y).kind)) (chain-marked s.rows n g m from to few x) ∙ all_fine (chain s.rows x) chain_fine in
        rw (same_job, same_chain) refl
