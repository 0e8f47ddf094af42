-- What is bound to a context that is to be released.
use Rattle.std.proofs.Common.{◌≡◌, ℕ, zero, suc, ◌<◌, ◌≤◌, List, length, Option, Some, None, Bool, true, false, ◌⊎◌, refl, sym, ap, ◌∙◌, arith, inl, inr, unwrap_or}
use Rattle.std.specs.Prelude.{IfSome, is_some}
use Rattle.cancel_context.specs.Forest.{Forest, Binding, binding, IsHeld, parent, parent_in}
use Rattle.tenant_model.specs.declared.rows.Kind.{Kind}
use Rattle.tenant_model.specs.declared.rows.Kind.TheVariants.{Root, Posted, Spawned, Region}
use Rattle.tenant_model.specs.State.{State, row, job}
use Rattle.tenant_model.specs.Walks.{maker_of, is_open, is_unstarted, is_job_cancelled}
use Rattle.tenant_model.specs.Sound.{IsSteady}
use Rattle.arena_rows.specs.declared.rows.OpenRow.{OpenRow}
use Rattle.arena_rows.specs.Represents.{IsKept, Assigned, Owner, Nobody, OfJob, OfRow, OfGroup, bound, orphan, IsRowContext, IsGroupContext, IsOwned, AreContexts}
use Rattle.arena_rows.proofs.Contexts.{live_open}

abbrev pub is_job : Owner → Bool
is_job (OfJob j) = true
is_job o = false

abbrev pub is_group : Owner → Bool
is_group (OfGroup n g) = true
is_group o = false

abbrev pub row_in : Owner → ℕ
row_in (OfRow n) = n
row_in (OfGroup n g) = n
row_in o = 0

abbrev pub group_in : Owner → ℕ
group_in (OfGroup n g) = g
group_in o = 0

pub has_some : (o : Option Binding) (gc : ℕ) → parent_in o ≡ Some gc → is_some o ≡ true
has_some None gc is = absurd (grind (arith, ap is_some is))
has_some (Some b) gc is = refl

module _ (s : State) (current : ℕ) (table : List (Option OpenRow)) (forest : Forest) (at : Assigned) (steady : IsSteady s)
    (later : (n : ℕ) → is_open (row s.rows n).phase ≡ true → IsKept s.jobs (row s.rows n).job) (are : AreContexts s current table forest at) where
  -- who holds the context of an open row: its job, or a row that has started, or itself
  abbrev pub HasContext : ℕ → Type 0
  HasContext n = ((j : ℕ) × (at.owner (at.of_row n) ≡ OfJob j)) ⊎ ((x : ℕ) × (at.owner (at.of_row n) ≡ OfRow x) × ((x ≡ n) ⊎ (is_unstarted (row s.rows x).phase ≡ false)))

  by_kind : (n : ℕ) (kind : Kind) → (row s.rows n).kind ≡ kind → ((m : ℕ) → m < n → 1 ≤ m → m ≤ length s.rows → is_open (row s.rows m).phase ≡ true → HasContext m) → 1 ≤ n → n ≤ length s.rows →
      is_open (row s.rows n).phase ≡ true → HasContext n
  by_kind n Root kind ih from to opened =
      let its : IsRowContext s forest at n Root = rw kind at (are.of_rows n opened) in
      inl ((row s.rows n).job, rw its (are.of_jobs (row s.rows n).job (later n opened) (steady.formed.linked.jobs n from to).1).0)
  by_kind n Posted kind ih from to opened =
      let its : IsRowContext s forest at n Posted = rw kind at (are.of_rows n opened) in
      inl ((row s.rows n).job, rw its (are.of_jobs (row s.rows n).job (later n opened) (steady.formed.linked.jobs n from to).1).0)
  by_kind n (Spawned m g) kind ih from to opened =
      let its : IsRowContext s forest at n (Spawned m g) = rw kind at (are.of_rows n opened) in
      inr (n, its.0, inl refl)
  by_kind n (Region m) kind ih from to opened =
      let its : at.of_row n ≡ at.of_row m = let all : IsRowContext s forest at n (Region m) = rw kind at (are.of_rows n opened) in all in
      let made : maker_of (row s.rows n).kind ≡ Some m = rw kind refl in
      let before : (1 ≤ m) × (m < n) = let all : IfSome (Some m) (λ x. (1 ≤ x) × (x < n)) = rw made at (steady.formed.linked.makers n from to) in all in
      let live = live_open (row s.rows n).phase opened (steady.formed.on_makers.started n m kind) in
      let below = steady.formed.on_makers.below n m live.0 live.1 kind live.2 in
      elim (ih m before.1 before.0 (omega (arith, before)) (rw below refl)) [
        | inl job ↦ inl (job.0, rw its job.1)
        | inr held ↦ inr (
          held.0,
          rw its held.1,
          inr (elim held.2 [
            | inl same ↦ rw (same, below) refl
            | inr started ↦ started
          ]),
        )
      ]

  pub go : (k n : ℕ) → n ≤ k → 1 ≤ n → n ≤ length s.rows → is_open (row s.rows n).phase ≡ true → HasContext n
  go zero n enough from to opened = absurd (omega arith)
  go (suc k) n enough from to opened = by_kind n (row s.rows n).kind refl (λ m before least most opened_m. go k m (omega arith) least most opened_m) from to opened

  pub not_group : (n m g : ℕ) → 1 ≤ n → n ≤ length s.rows → is_open (row s.rows n).phase ≡ true → at.owner (at.of_row n) ≡ OfGroup m g → ⊥
  not_group n m g from to opened is = elim (go n n (omega arith) from to opened) [
    | inl job ↦ grind (arith, ap is_group (sym is ∙ job.1))
    | inr held ↦ grind (arith, ap is_group (sym is ∙ held.1))
  ]

  pub parent_of : (d : ℕ) (b : Binding) → binding forest d ≡ Some b → parent forest d ≡ b.parent
  parent_of d b there = rw there refl

  -- Where no member of a group is open, nothing is bound to its context.
  by_owner : (there : (n : ℕ) → is_open (row s.rows n).phase ≡ true → (1 ≤ n) × (n ≤ length s.rows)) → (m g gc d : ℕ) (o : Owner) → at.owner gc ≡ OfGroup m g →
      ((n : ℕ) → (row s.rows n).kind ≡ Spawned m g → is_open (row s.rows n).phase ≡ true → ⊥) → parent forest d ≡ Some gc → IsOwned s at d o → ⊥
  by_owner there m g gc d Nobody owner none bound_to is = is
  by_owner there m g gc d (OfJob j) owner none bound_to is =
      let its = are.of_jobs j is.1 is.2 in
      let its_d : binding forest d ≡ Some (record { parent = None; is_asked = is_job_cancelled (job s.jobs j); is_orphan = false }) = rw (← is.0) its.1 in
      grind (arith, ap is_some (sym (parent_of d _ its_d) ∙ bound_to))
  by_owner there m g gc d (OfRow n) owner none bound_to is =
      let kind = is.2.2 in
      let its : IsRowContext s forest at n (Spawned is.2.0 is.2.1) = rw kind at (are.of_rows n is.1) in
      elim its.1 [
        | inl held ↦
            let c = held.1.0 in
            let its_d : binding forest d ≡ Some (bound c false) = rw (← is.0) held.1.2 in
            let same : c ≡ gc = ap (λ o. unwrap_or o c) (sym (parent_of d (bound c false) its_d) ∙ bound_to) in
            let group : IsGroupContext s forest at is.2.0 is.2.1 (Some c) = rw held.1.1 at (are.of_groups is.2.0 is.2.1 held.0 (steady.stay.groups n is.2.0 is.2.1 kind)) in
            let owners : OfGroup is.2.0 is.2.1 ≡ OfGroup m g = sym group.0 ∙ ap at.owner same ∙ owner in
            let m_is : is.2.0 ≡ m = ap row_in owners in
            let g_is : is.2.1 ≡ g = ap group_in owners in
            none n (kind ∙ rw (m_is, g_is) refl) is.1
        | inr gone ↦
            let its_d : binding forest d ≡ Some orphan = rw (← is.0) gone.1 in
            grind (arith, ap is_some (sym (parent_of d orphan its_d) ∙ bound_to))
      ]
  by_owner there m g gc d (OfGroup n h) owner none bound_to is =
      let group : IsGroupContext s forest at n h (Some d) = rw is.0 at (are.of_groups n h is.1 is.2) in
      let same : at.of_row n ≡ gc = ap (λ o. unwrap_or o (at.of_row n)) (sym (parent_of d _ group.1) ∙ bound_to) in
      let its = there n is.1 in
      not_group n m g its.0 its.1 is.1 (ap at.owner same ∙ owner)

  pub held_child : (d gc : ℕ) → parent forest d ≡ Some gc → IsHeld forest d
  held_child d gc bound_to = has_some (binding forest d) gc bound_to

  pub nothing_bound : (there : (n : ℕ) → is_open (row s.rows n).phase ≡ true → (1 ≤ n) × (n ≤ length s.rows)) → (m g gc : ℕ) → at.owner gc ≡ OfGroup m g →
      ((n : ℕ) → (row s.rows n).kind ≡ Spawned m g → is_open (row s.rows n).phase ≡ true → ⊥) → (d : ℕ) → parent forest d ≡ Some gc → ⊥
  nothing_bound there m g gc owner none d bound_to = by_owner there m g gc d (at.owner d) owner none bound_to (are.owned d (held_child d gc bound_to))
