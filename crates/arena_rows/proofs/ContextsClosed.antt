-- The contexts of an arena after a row has ended: those that it held are released.
use Rattle.std.proofs.Common.{◌≡◌, ◌≢◌, ℕ, ◌+◌, ◌<◌, ◌≤◌, List, length, Option, Some, None, true, false, ◌⊎◌, refl, sym, ap, ◌∙◌, arith, inl, inr}
use Rattle.std.specs.Prelude.{is_some, slice_index_or, sum_by}
use Rattle.std.proofs.lemmas.Bool.{cases_eq}
use Rattle.job_language.specs.declared.instructions.TheConstants.{GROUPS}
use Rattle.cancel_context.specs.Forest.{Forest, binding, parent_in}
use Rattle.tenant_model.specs.declared.rows.Kind.{Kind}
use Rattle.tenant_model.specs.declared.rows.Kind.TheVariants.{Root, Posted, Spawned, Region}
use Rattle.tenant_model.specs.declared.rows.Row.{Row}
use Rattle.tenant_model.specs.State.{State, row, job, with_at_number}
use Rattle.tenant_model.specs.Walks.{is_open, is_unstarted, is_job_cancelled}
use Rattle.tenant_model.specs.Sound.{IsSteady}
use Rattle.tenant_model.proofs.Tended.{unstarted_open}
use Rattle.tenant_model.proofs.Within.{either_way}
use Rattle.arena_rows.specs.declared.rows.OpenRow.{OpenRow}
use Rattle.arena_rows.specs.Represents.{at_place, Assigned, Owner, Nobody, OfJob, OfRow, OfGroup, bound, IsRowContext, IsGroupContext, IsOwned, AreContexts, held_by}
use Rattle.arena_rows.proofs.Closed.{row_old, kinds_same, mark_same, used_same, still}
use Rattle.arena_rows.proofs.Ends.{row_in}
use Rattle.arena_rows.specs.Endings.{is_in, Left}
use Rattle.arena_rows.proofs.Left.{held_before}
use Rattle.arena_rows.proofs.Started.{some_is, some_none}

-- a context is of a row: of one of its groups, or its own
abbrev pub IsOf : Assigned → (spawned : Type 0) → (n d : ℕ) → Type 0
IsOf at spawned n d = ((g : ℕ) × (g < GROUPS) × (at.of_group n g ≡ Some d)) ⊎ ((at.of_row n ≡ d) × spawned)

-- a row spawned, by some row into some group
abbrev pub IsSpawned : Kind → Type 0
IsSpawned k = (m : ℕ) × (g : ℕ) × (k ≡ Spawned m g)

module _ (s : State) (current : ℕ) (table table' : List (Option OpenRow)) (forest forest' : Forest) (at : Assigned) (are : AreContexts s current table forest at) (steady : IsSteady s)
    (n : ℕ) (r : Row) (from : 1 ≤ n) (to : n ≤ length s.rows) (kind : r.kind ≡ (row s.rows n).kind) (same_job : r.job ≡ (row s.rows n).job) (marks : r.marks ≡ (row s.rows n).marks)
    (opened : is_open (row s.rows n).phase ≡ true) (closed : is_open r.phase ≡ false)
    (cs : List ℕ) (left : Left forest forest' cs) (whose : (d : ℕ) → is_in d cs ≡ true → IsOf at (IsSpawned (row s.rows n).kind) n d)
    (all : (d : ℕ) → IsOf at (IsSpawned (row s.rows n).kind) n d → is_in d cs ≡ true)
    (unshared : (x : ℕ) → is_open (row s.rows x).phase ≡ true → x ≢ n → is_in (at.of_row x) cs ≡ false) where
  abbrev t : State
  t = record s { rows = with_at_number s.rows n r }

  owner_is : (d : ℕ) → IsOf at (IsSpawned (row s.rows n).kind) n d → row_in (at.owner d) ≡ n
  owner_is d (inl of_group) =
      let its : IsGroupContext s forest at n of_group.0 (Some d) = rw of_group.2 at (are.of_groups n of_group.0 opened of_group.1) in
      ap row_in its.0
  owner_is d (inr own) =
      let its : IsRowContext s forest at n (Spawned own.1.0 own.1.1) = rw own.1.2 at (are.of_rows n opened) in
      ap (λ c. row_in (at.owner c)) (sym own.0) ∙ ap row_in its.0

  apart : (d : ℕ) → row_in (at.owner d) ≢ n → is_in d cs ≡ false
  apart d other = elim (either_way (is_in d cs)) [
    | inl is ↦ absurd (other (owner_is d (whose d is)))
    | inr out ↦ out
  ]

  old : (x : ℕ) → x ≢ n → row t.rows x ≡ row s.rows x
  old x other = row_old s.rows n r from to kind same_job marks x other

  stays : (x : ℕ) → is_open (row t.rows x).phase ≡ true → (x ≢ n) × (is_open (row s.rows x).phase ≡ true)
  stays x opened_x = still s.rows n r from to kind same_job marks opened closed x opened_x

  job_there : (j : ℕ) → (at.owner (at.of_job j) ≡ OfJob j) × (binding forest (at.of_job j) ≡ Some (record { parent = None; is_asked = is_job_cancelled (job s.jobs j); is_orphan = false })) →
      (at.owner (at.of_job j) ≡ OfJob j) × (binding forest' (at.of_job j) ≡ Some (record { parent = None; is_asked = is_job_cancelled (job s.jobs j); is_orphan = false }))
  job_there j its =
      let no_row : row_in (at.owner (at.of_job j)) ≡ 0 = ap row_in its.0 in
      (its.0, left.kept (at.of_job j) (apart (at.of_job j) (omega (arith, no_row, from))) (λ c its_parent. absurd (some_none c (sym its_parent ∙ ap parent_in its.1))) ∙ its.1)

  row_there : (x : ℕ) (k : Kind) → x ≢ n → (row s.rows x).kind ≡ k → IsRowContext s forest at x k → IsRowContext t forest' at x k
  row_there x Root other is_k is = is ∙ ap at.of_job (ap (λ (q : Row). q.job) (sym (old x other)))
  row_there x Posted other is_k is = is ∙ ap at.of_job (ap (λ (q : Row). q.job) (sym (old x other)))
  row_there x (Region m) other is_k is = is
  row_there x (Spawned m g) other is_k is =
      let own : row_in (at.owner (at.of_row x)) ≡ x = ap row_in is.0 in
      let out : is_in (at.of_row x) cs ≡ false = apart (at.of_row x) (λ same. other (sym own ∙ same)) in
      let few : g < GROUPS = steady.stay.groups x m g is_k in (
        is.0,
        elim is.1 [
          | inl held ↦
              let c = held.1.0 in
              elim (cases_eq m n) [
                | inl same ↦
                    let given : at.of_group n g ≡ Some c = ap (λ i. at.of_group i g) (sym same) ∙ held.1.1 in
                    let now : is_open (row t.rows m).phase ≡ false = elim (either_way (is_open (row t.rows m).phase)) [ inl opened_m ↦ absurd ((stays m opened_m).0 same) | inr fine ↦ fine ] in
                    inr (now, left.orphans (at.of_row x) c (bound c false) out held.1.2 refl (all c (inl (g, few, given))))
                | inr maker ↦
                    let group : IsGroupContext s forest at m g (Some c) = rw held.1.1 at (are.of_groups m g held.0 few) in
                    let owner_c : row_in (at.owner c) ≡ m = ap row_in group.0 in
                    let fine : is_in c cs ≡ false = apart c (λ same. maker (sym owner_c ∙ same)) in
                    inl (
                      ap (λ (q : Row). is_open q.phase) (old m maker) ∙ held.0,
                      (c, held.1.1, left.kept (at.of_row x) out (λ p its. let p_is : p ≡ c = some_is p c (sym its ∙ ap parent_in held.1.2) in ap (λ i. is_in i cs) p_is ∙ fine) ∙ held.1.2),
                    )
              ]
          | inr gone ↦
              let maker : m ≢ n = λ same. let no : is_open (row s.rows n).phase ≡ false = ap (λ i. is_open (row s.rows i).phase) (sym same) ∙ gone.0 in grind (arith, no, opened) in
              inr (ap (λ (q : Row). is_open q.phase) (old m maker) ∙ gone.0, left.kept (at.of_row x) out (λ p its. absurd (some_none p (sym its ∙ ap parent_in gone.1))) ∙ gone.1)
        ],
      )

  group_there : (x h : ℕ) (o : Option ℕ) → x ≢ n → is_open (row s.rows x).phase ≡ true → IsGroupContext s forest at x h o → IsGroupContext t forest' at x h o
  group_there x h None other opened_x is = (used_same s.rows n r from to kind same_job marks x h ∙ is.0, ap (λ m. m.cancelled) (mark_same s.rows n r from to kind same_job marks x h) ∙ is.1)
  group_there x h (Some d) other opened_x is =
      let owner_d : row_in (at.owner d) ≡ x = ap row_in is.0 in
      let fine : is_in d cs ≡ false = apart d (λ same. other (sym owner_d ∙ same)) in
      let marked = mark_same s.rows n r from to kind same_job marks x h in (
        is.0,
        left.kept d fine (λ p its. let p_is : p ≡ at.of_row x = some_is p (at.of_row x) (sym its ∙ ap parent_in is.1) in ap (λ i. is_in i cs) p_is ∙ unshared x opened_x other) ∙ is.1 ∙
            ap (λ m. Some (bound (at.of_row x) m.cancelled)) (sym marked),
      )

  owned_there : (d : ℕ) (o : Owner) → is_in d cs ≡ false → IsOwned s at d o → IsOwned t at d o
  owned_there d Nobody out is = is
  owned_there d (OfJob j) out is = is
  owned_there d (OfRow x) out is =
      let other : x ≢ n = λ same.
      let own : at.of_row n ≡ d = ap at.of_row (sym same) ∙ is.0 in
      let its_kind : IsSpawned (row s.rows n).kind = (is.2.0, is.2.1, ap (λ i. (row s.rows i).kind) (sym same) ∙ is.2.2) in
      grind (arith, all d (inr (own, its_kind)), out) in
      (is.0, ap (λ (q : Row). is_open q.phase) (old x other) ∙ is.1, (is.2.0, is.2.1, ap (λ (q : Row). q.kind) (old x other) ∙ is.2.2))
  owned_there d (OfGroup x h) out is =
      let other : x ≢ n = λ same.
      let given : at.of_group n h ≡ Some d = ap (λ i. at.of_group i h) (sym same) ∙ is.0 in
      grind (arith, all d (inl (h, is.2, given)), out) in
      (is.0, ap (λ (q : Row). is_open q.phase) (old x other) ∙ is.1, is.2)

  pub AreContexts-closed : ((p : ℕ) (e : OpenRow) → at_place table' p ≡ Some e →
      (e.context ≡ at.of_row e.number) × ((g : ℕ) → g < GROUPS → slice_index_or e.group_contexts g None ≡ at.of_group e.number g)) →
      sum_by held_by table' + length cs ≡ sum_by held_by table → AreContexts t current table' forest' at
  AreContexts-closed in_table held = record {
    of_jobs = λ j above most. job_there j (are.of_jobs j above most);
    of_rows = λ x opened_x. let it = stays x opened_x in rw (kinds_same s.rows n r from to kind same_job marks x) (row_there x (row s.rows x).kind it.0 refl (are.of_rows x it.1));
    of_groups = λ x h opened_x few. let it = stays x opened_x in group_there x h (at.of_group x h) it.0 it.1 (are.of_groups x h it.1 few);
    bare = λ x h waits.
        let it = stays x (unstarted_open (row t.rows x).phase waits) in
        are.bare x h (ap (λ (q : Row). is_unstarted q.phase) (sym (old x it.0)) ∙ waits);
    owned = λ d held_d. elim (either_way (is_in d cs)) [
      | inl is ↦ absurd (let no : is_some (binding forest' d) ≡ false = ap is_some (left.gone d is) in grind (arith, no, held_d))
      | inr out ↦ owned_there d (at.owner d) out (are.owned d (held_before forest forest' cs left d held_d))
    ];
    in_table = in_table;
    count = omega (arith, held, are.count, left.count);
  }
