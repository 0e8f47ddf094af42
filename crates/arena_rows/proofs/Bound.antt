-- A group of an open row has a context from now on, bound to the row's.
use Rattle.std.proofs.Common.{◌≡◌, ◌≢◌, ℕ, ◌+◌, ◌==◌, ◌<◌, List, length, Option, Some, None, true, false, ◌&&◌, refl, sym, ap, ◌∙◌, arith, inl, inr, unwrap_or}
use Rattle.std.specs.Prelude.{is_some, slice_index_or, slice_set, count_by, if◌then◌else◌}
use Rattle.std.proofs.lemmas.Bool.{cases_eq}
use Rattle.std.proofs.lemmas.List.{get_or-set_same, get_or-set_other}
use Rattle.std.proofs.lemmas.List.Sums.{sum_by-set}
use Rattle.job_language.specs.declared.instructions.TheConstants.{GROUPS}
use Rattle.cancel_context.specs.Forest.{Forest, Binding, binding, held_count, with_bound}
use Rattle.tenant_model.specs.declared.rows.Kind.{Kind}
use Rattle.tenant_model.specs.declared.rows.Kind.TheVariants.{Root, Posted, Spawned, Region}
use Rattle.tenant_model.specs.State.{State, row}
use Rattle.tenant_model.specs.Walks.{is_open, is_unstarted, mark}
use Rattle.tenant_model.proofs.Within.{either_way}
use Rattle.arena_rows.specs.declared.rows.OpenRow.{OpenRow}
use Rattle.arena_rows.specs.Represents.{at_place, Assigned, Owner, Nobody, OfJob, OfRow, OfGroup, bound, IsRowContext, IsGroupContext, IsOwned, AreContexts, held_by, one_if}
use Rattle.arena_rows.specs.HeldChanges.{with_group}

-- one more of the contexts of an entry
more_contexts : (cs : List (Option ℕ)) (g c : ℕ) → g < length cs → slice_index_or cs g None ≡ None →
    count_by (λ (o : Option ℕ). is_some o) (slice_set cs g (Some c)) ≡ count_by (λ (o : Option ℕ). is_some o) cs + 1
more_contexts cs g c within none =
    let change = sum_by-set (λ (o : Option ℕ). one_if (is_some o)) cs g (Some c) None within in
    let before : one_if (is_some (slice_index_or cs g None)) ≡ 0 = rw none refl in
    omega (arith, change, before)

module _ (s : State) (current : ℕ) (table : List (Option OpenRow)) (forest : Forest) (at : Assigned) (are : AreContexts s current table forest at) (n g c p : ℕ) (e : OpenRow) (few : g < GROUPS)
    (opened : is_open (row s.rows n).phase ≡ true) (started : is_unstarted (row s.rows n).phase ≡ false)
    (within : p < length table) (there : at_place table p ≡ Some e) (number : e.number ≡ n) (only_place : (q : ℕ) (x : OpenRow) → at_place table q ≡ Some x → x.number ≡ n → q ≡ p)
    (no_context : at.of_group n g ≡ None) (long : length e.group_contexts ≡ GROUPS) (free : binding forest c ≡ None) (room : c < length forest) (context : ℕ)
    (context_is : context ≡ at.of_row n) where
  abbrev pub group_forest : Forest
  group_forest = with_bound forest c (Some context)

  abbrev pub with_group_at : Assigned
  with_group_at = record {
    of_row = at.of_row;
    of_group = λ m h. if (m == n) && (h == g) then Some c else at.of_group m h;
    of_job = at.of_job;
    owner = λ d. if d == c then OfGroup n g else at.owner d;
  }

  pub group_here : with_group_at.of_group n g ≡ Some c
  group_here =
      let same_row : (n == n) ≡ true = grind arith in
      let same_group : (g == g) ≡ true = grind arith in
      rw (same_row, same_group) refl

  group_else : (m h : ℕ) → ((m == n) && (h == g)) ≡ false → with_group_at.of_group m h ≡ at.of_group m h
  group_else m h other = rw other refl

  is_here : (m h : ℕ) → ((m == n) && (h == g)) ≡ true → (m ≡ n) × (h ≡ g)
  is_here m h same = (grind (arith, same), grind (arith, same))

  not_new : (d : ℕ) (b : Binding) → binding forest d ≡ Some b → d ≢ c
  not_new d b held same = let no : Some b ≡ None = sym held ∙ rw same free in grind (arith, ap is_some no)

  owner_old : (d : ℕ) → d ≢ c → with_group_at.owner d ≡ at.owner d
  owner_old d other = let apart : (d == c) ≡ false = grind (arith, other) in rw apart refl

  owner_new : with_group_at.owner c ≡ OfGroup n g
  owner_new = let same : (c == c) ≡ true = grind arith in rw same refl

  binding_old : (d : ℕ) → d ≢ c → binding group_forest d ≡ binding forest d
  binding_old d other = get_or-set_other forest c d (Some (bound context false)) None other

  binding_new : binding group_forest c ≡ Some (bound (at.of_row n) false)
  binding_new = get_or-set_same forest c (Some (bound context false)) None room ∙ ap (λ k. Some (bound k false)) context_is

  -- what is held for a group stays
  given_still : (m h d : ℕ) → at.of_group m h ≡ Some d → with_group_at.of_group m h ≡ Some d
  given_still m h d given = elim (either_way ((m == n) && (h == g))) [
    | inl same ↦
        let its = is_here m h same in
        let none : at.of_group m h ≡ None = rw (its.0, its.1) no_context in
        absurd (grind (arith, ap is_some (sym none ∙ given)))
    | inr other ↦ group_else m h other ∙ given
  ]

  context_still : (x : ℕ) (k : Kind) → IsRowContext s forest at x k → IsRowContext s group_forest with_group_at x k
  context_still x Root is = is
  context_still x Posted is = is
  context_still x (Region m) is = is
  context_still x (Spawned m h) is = elim is.1 [
    | inl held ↦
        let other = not_new (at.of_row x) _ held.1.2 in
        (owner_old (at.of_row x) other ∙ is.0, inl (held.0, (held.1.0, given_still m h held.1.0 held.1.1, binding_old (at.of_row x) other ∙ held.1.2)))
    | inr gone ↦
        let other = not_new (at.of_row x) _ gone.1 in
        (owner_old (at.of_row x) other ∙ is.0, inr (gone.0, binding_old (at.of_row x) other ∙ gone.1))
  ]

  group_still : (x h : ℕ) (o : Option ℕ) → IsGroupContext s forest at x h o → IsGroupContext s group_forest with_group_at x h o
  group_still x h None is = is
  group_still x h (Some d) is = let other = not_new d _ is.1 in (owner_old d other ∙ is.0, binding_old d other ∙ is.1)

  owned_still : (d : ℕ) (o : Owner) → IsOwned s at d o → IsOwned s with_group_at d o
  owned_still d Nobody is = is
  owned_still d (OfJob j) is = is
  owned_still d (OfRow x) is = is
  owned_still d (OfGroup x h) is = (given_still x h d is.0, is.1, is.2)

  before_mark : (mark s.rows n g).cancelled ≡ false
  before_mark = let its : IsGroupContext s forest at n g None = rw no_context at (are.of_groups n g opened few) in its.1

  own_group : IsGroupContext s group_forest with_group_at n g (Some c)
  own_group = (owner_new, rw before_mark binding_new)

  held_more : held_by (Some (with_group g c e)) ≡ held_by (Some e) + 1
  held_more =
      let its = are.in_table p e there in
      let none : slice_index_or e.group_contexts g None ≡ None = its.1 g few ∙ rw number no_context in
      let more = more_contexts e.group_contexts g c (omega (arith, few, long)) none in
      omega (arith, more)

  pub AreContexts-bound : held_count group_forest ≡ held_count forest + 1 → AreContexts s current (slice_set table p (Some (with_group g c e))) group_forest with_group_at
  AreContexts-bound count = record {
    of_jobs = λ j above most. let its = are.of_jobs j above most in let other = not_new _ _ its.1 in (owner_old _ other ∙ its.0, binding_old _ other ∙ its.1);
    of_rows = λ x opened_x. context_still x (row s.rows x).kind (are.of_rows x opened_x);
    of_groups = λ x h opened_x few_h. elim (either_way ((x == n) && (h == g))) [
      | inl same ↦ let its = is_here x h same in rw (its.0, its.1) (rw group_here own_group)
      | inr other ↦ rw other (group_still x h (at.of_group x h) (are.of_groups x h opened_x few_h))
    ];
    bare = λ x h waits. elim (either_way ((x == n) && (h == g))) [
      | inl same ↦ absurd (let its : is_unstarted (row s.rows n).phase ≡ true = ap (λ k. is_unstarted (row s.rows k).phase) (sym (is_here x h same).0) ∙ waits in grind (arith, its, started))
      | inr other ↦ group_else x h other ∙ are.bare x h waits
    ];
    owned = λ d held. elim (cases_eq d c) [
      | inl same ↦ rw (same, owner_new) (group_here, opened, few)
      | inr other ↦ rw (owner_old d other) (owned_still d (at.owner d) (are.owned d (rw (binding_old d other) at held)))
    ];
    in_table = λ q x at_q. elim (cases_eq q p) [
      | inl same ↦
          let x_is : with_group g c e ≡ x =
          ap (λ o. unwrap_or o x) (sym (get_or-set_same table p (Some (with_group g c e)) None within) ∙ ap (at_place (slice_set table p (Some (with_group g c e)))) (sym same) ∙ at_q) in
          let its = are.in_table p e there in
          rw (← x_is) (
            its.0,
            λ h few_h. elim (cases_eq h g) [
              | inl here ↦ rw (here, number) (get_or-set_same e.group_contexts g (Some c) None (omega (arith, few, long)) ∙ sym group_here)
              | inr else_where ↦
                  let apart : ((e.number == n) && (h == g)) ≡ false = grind (arith, else_where) in
                  get_or-set_other e.group_contexts g h (Some c) None else_where ∙ its.1 h few_h ∙ sym (group_else e.number h apart)
            ],
          )
      | inr other ↦
          let before : at_place table q ≡ Some x = sym (get_or-set_other table p q (Some (with_group g c e)) None other) ∙ at_q in
          let its = are.in_table q x before in (
            its.0,
            λ h few_h.
                let not_it : x.number ≢ n = λ same. other (only_place q x before same) in
                let apart : ((x.number == n) && (h == g)) ≡ false = grind (arith, not_it) in
                its.1 h few_h ∙ sym (group_else x.number h apart),
          )
    ];
    count = count ∙ omega (arith, are.count, sum_by-set held_by table p (Some (with_group g c e)) None within, ap held_by there, held_more);
  }
