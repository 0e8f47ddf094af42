-- The context of a row is cancelled where the definition says so.
use Rattle.std.proofs.Common.{◌≡◌, ℕ, zero, suc, ◌<◌, ◌≤◌, List, length, Option, Some, None, Bool, true, false, ◌||◌, refl, ◌∙◌, arith, inl, inr}
use Rattle.std.specs.Prelude.{IfSome, is_some, IsSome}
use Rattle.std.specs.Option.{option_map_or}
use Rattle.job_language.specs.declared.errors.JobFault.{JobFault}
use Rattle.job_language.specs.declared.instructions.TheConstants.{GROUPS}
use Rattle.cancel_context.specs.Forest.{Forest, Binding, binding, is_cancelled, asks_in, IsForest}
use Rattle.tenant_model.specs.declared.rows.Kind.{Kind}
use Rattle.tenant_model.specs.declared.rows.Kind.TheVariants.{Root, Posted, Spawned, Region}
use Rattle.tenant_model.specs.declared.rows.Phase.{Phase}
use Rattle.tenant_model.specs.declared.rows.Phase.TheVariants.{Unstarted, Live, Done, Dropped, Faulted}
use Rattle.tenant_model.specs.State.{State, row, job}
use Rattle.tenant_model.specs.Walks.{maker_of, is_open, is_unstarted, is_job_cancelled, is_group_cancelled, is_context_cancelled, mark}
use Rattle.tenant_model.specs.Linked.{MakersPrecede}
use Rattle.tenant_model.specs.Sound.{IsSteady}
use Rattle.tenant_model.proofs.Chains.{chain_goes_on, chain_ends}
use Rattle.arena_rows.specs.declared.rows.OpenRow.{OpenRow}
use Rattle.arena_rows.specs.Represents.{IsKept, Assigned, IsRowContext, IsGroupContext, AreContexts}

pub has_fault : (o : Option JobFault) → IsSome o → is_some o ≡ true
has_fault None some = grind (arith, some)
has_fault (Some f) some = refl

pub live_open : (p : Phase) → is_open p ≡ true → is_unstarted p ≡ false → (slot : ℕ) × (h : ℕ) × (p ≡ Live slot h)
live_open Unstarted opened started = absurd (grind (arith, started))
live_open (Live t h) opened started = (t, h, refl)
live_open (Done v) opened started = absurd (grind (arith, opened))
live_open Dropped opened started = absurd (grind (arith, opened))
live_open Faulted opened started = absurd (grind (arith, opened))

or_none : (b x : Bool) → ((b || false) || x) ≡ (b || x)
or_none true x = refl
or_none false x = refl

module _ (forest : Forest) (is : IsForest forest) where
  -- what a binding says of its context
  by_binding : (c : ℕ) (b : Binding) → binding forest c ≡ Some b → is_cancelled forest c ≡ (asks_in (Some b) || option_map_or (is_cancelled forest) b.parent false)
  by_binding c b there = is.walk c ∙ rw there refl

module _ (s : State) (current : ℕ) (table : List (Option OpenRow)) (forest : Forest) (at : Assigned) (steady : IsSteady s)
    (later : (n : ℕ) → is_open (row s.rows n).phase ≡ true → IsKept s.jobs (row s.rows n).job) (are : AreContexts s current table forest at) (is : IsForest forest) where
  precede : MakersPrecede s.rows
  precede = steady.formed.linked.makers

  job_context : (n : ℕ) → 1 ≤ n → n ≤ length s.rows → is_open (row s.rows n).phase ≡ true → is_cancelled forest (at.of_job (row s.rows n).job) ≡ is_job_cancelled (job s.jobs (row s.rows n).job)
  job_context n from to opened = let its = are.of_jobs (row s.rows n).job (later n opened) (steady.formed.linked.jobs n from to).1 in
      by_binding forest is (at.of_job (row s.rows n).job) _ its.1 ∙ grind arith

  -- the definition, by a row's maker
  by_maker : (n m : ℕ) → 1 ≤ n → n ≤ length s.rows → maker_of (row s.rows n).kind ≡ Some m → is_context_cancelled s n ≡ (is_group_cancelled s.rows (row s.rows n).kind || is_context_cancelled s m)
  by_maker n m from to made = rw (chain_goes_on s.rows precede n m from to made, steady.tended.shared n m made) (grind arith)

  abbrev Agrees : ℕ → Type 0
  Agrees n = is_cancelled forest (at.of_row n) ≡ is_context_cancelled s n

  alone : (n : ℕ) → 1 ≤ n → n ≤ length s.rows → is_open (row s.rows n).phase ≡ true → maker_of (row s.rows n).kind ≡ None → is_group_cancelled s.rows (row s.rows n).kind ≡ false →
      at.of_row n ≡ at.of_job (row s.rows n).job → Agrees n
  alone n from to opened none no_group context = rw (context, chain_ends s.rows n from none, no_group) (job_context n from to opened ∙ grind arith)

  -- the context of a group that has one
  pub group_is : (m g c : ℕ) → is_open (row s.rows m).phase ≡ true → g < GROUPS → at.of_group m g ≡ Some c → Agrees m →
      is_cancelled forest c ≡ ((mark s.rows m g).cancelled || is_context_cancelled s m)
  group_is m g c opened few given agrees =
      let its : IsGroupContext s forest at m g (Some c) = rw given at (are.of_groups m g opened few) in
      by_binding forest is c _ its.1 ∙ rw agrees (or_none (mark s.rows m g).cancelled (is_context_cancelled s m))

  by_kind : (n : ℕ) (kind : Kind) → (row s.rows n).kind ≡ kind → ((m : ℕ) → m < n → 1 ≤ m → is_open (row s.rows m).phase ≡ true → Agrees m) → 1 ≤ n → n ≤ length s.rows →
      is_open (row s.rows n).phase ≡ true → Agrees n
  by_kind n Root kind ih from to opened = let its : IsRowContext s forest at n Root = rw kind at (are.of_rows n opened) in alone n from to opened (rw kind refl) (rw kind refl) its
  by_kind n Posted kind ih from to opened = let its : IsRowContext s forest at n Posted = rw kind at (are.of_rows n opened) in alone n from to opened (rw kind refl) (rw kind refl) its
  by_kind n (Region m) kind ih from to opened =
      let its : at.of_row n ≡ at.of_row m = let all : IsRowContext s forest at n (Region m) = rw kind at (are.of_rows n opened) in all in
      let made : maker_of (row s.rows n).kind ≡ Some m = rw kind refl in
      let before : (1 ≤ m) × (m < n) = let all : IfSome (Some m) (λ x. (1 ≤ x) × (x < n)) = rw made at (precede n from to) in all in
      let live = live_open (row s.rows n).phase opened (steady.formed.on_makers.started n m kind) in
      let maker : is_open (row s.rows m).phase ≡ true = rw (steady.formed.on_makers.below n m live.0 live.1 kind live.2) refl in
      rw (its, ih m before.1 before.0 maker, by_maker n m from to made, kind) refl
  by_kind n (Spawned m g) kind ih from to opened =
      let its : IsRowContext s forest at n (Spawned m g) = rw kind at (are.of_rows n opened) in
      let made : maker_of (row s.rows n).kind ≡ Some m = rw kind refl in
      let before : (1 ≤ m) × (m < n) = let all : IfSome (Some m) (λ x. (1 ≤ x) × (x < n)) = rw made at (precede n from to) in all in
      elim its.1 [
        | inl held ↦
            let c = held.1.0 in
            let group = group_is m g c held.0 (steady.stay.groups n m g kind) held.1.1 (ih m before.1 before.0 held.0) in
            by_binding forest is (at.of_row n) _ held.1.2 ∙ rw (group, by_maker n m from to made, kind) refl
        | inr gone ↦
            let orphan : is_cancelled forest (at.of_row n) ≡ true = by_binding forest is (at.of_row n) _ gone.1 ∙ grind arith in
            elim (steady.stay.makers n m opened made) [
              | inl still ↦ absurd (grind (arith, still, gone.0))
              | inr fault ↦
                  let cancelled : is_job_cancelled (job s.jobs (row s.rows n).job) ≡ true = rw (has_fault _ fault) (grind arith) in
                  rw (orphan, cancelled) refl
            ]
      ]

  go : (k n : ℕ) → n ≤ k → 1 ≤ n → n ≤ length s.rows → is_open (row s.rows n).phase ≡ true → Agrees n
  go zero n enough from to opened = absurd (omega arith)
  go (suc k) n enough from to opened = by_kind n (row s.rows n).kind refl (λ m before least opened_m. go k m (omega arith) least (omega arith) opened_m) from to opened

  -- The context of an open row is cancelled where the definition says so.
  pub context_is : (n : ℕ) → 1 ≤ n → n ≤ length s.rows → is_open (row s.rows n).phase ≡ true → is_cancelled forest (at.of_row n) ≡ is_context_cancelled s n
  context_is n from to opened = go n n (omega arith) from to opened
