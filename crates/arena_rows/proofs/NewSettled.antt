-- A job more cancels nothing, and there are no more jobs than rows.
use Rattle.std.proofs.Common.{◌≡◌, ℕ, zero, suc, ◌+◌, ◌-◌, ◌==◌, ◌<◌, ◌≤◌, nat_le, List, [], ◌∷◌, length, Option, Some, None, Bool, true, false, ◌||◌, refl, sym, ap, ◌∙◌, arith, inl, inr, get_or}
use Rattle.std.proofs.Common.{subst}
use Rattle.std.specs.Prelude.{IfSome, slice_index_or, count_by}
use Rattle.std.specs.List.{list_any}
use Rattle.std.proofs.lemmas.Bool.{cases_eq, cases_lt}
use Rattle.std.proofs.lemmas.List.{length_push}
use Rattle.std.proofs.lemmas.List.Sums.{count_by-le-length}
use Rattle.job_language.specs.declared.jobs.Job.{Job}
use Rattle.tenant_model.specs.declared.rows.Kind.{Kind}
use Rattle.tenant_model.specs.declared.rows.Kind.TheVariants.{Root, Posted, Spawned, Region}
use Rattle.tenant_model.specs.declared.rows.Mark.{Mark}
use Rattle.tenant_model.specs.declared.rows.Phase.{Phase}
use Rattle.tenant_model.specs.declared.rows.Row.{Row}
use Rattle.tenant_model.specs.declared.works.Work.{Work}
use Rattle.tenant_model.specs.State.{State, row, job}
use Rattle.tenant_model.specs.Walks.{maker_of, with_makers, chain_for, chain, is_unstarted, is_group_cancelled, is_job_cancelled, is_context_cancelled}
use Rattle.tenant_model.specs.Changes.{new_row}
use Rattle.tenant_model.specs.Asks.{new_job, add_job}
use Rattle.tenant_model.specs.Linked.{IsLinked}
use Rattle.tenant_model.specs.Sound.{IsSettled}
use Rattle.tenant_model.proofs.AttendedSteps.{open_there}
use Rattle.tenant_model.proofs.Changed.{row-push_old, row-push_new, row-get_or, at_number-push_old, at_number-push_new}
use Rattle.tenant_model.proofs.Stacking.{one_if, count-split}
use Rattle.arena_rows.specs.Held.{Held}
use Rattle.arena_rows.specs.HeldChanges.{root_frame}
use Rattle.arena_rows.specs.Represents.{Holds}
use Rattle.arena_rows.proofs.Alike.{count_cons}
use Rattle.arena_rows.proofs.Picking.{unstarted_open}

module _ (s : State) (j : Job) (p : Phase) (linked : IsLinked s) where
  abbrev t : State
  t = add_job s j p

  abbrev N : ℕ
  N = length s.rows + 1

  abbrev r : Row
  r = new_row Root (length s.jobs + 1) None (root_frame j) p

  abbrev old_group : ℕ → Bool
  old_group m = is_group_cancelled s.rows (row s.rows m).kind

  abbrev new_group : ℕ → Bool
  new_group m = is_group_cancelled t.rows (row t.rows m).kind

  by_kind : (k : Kind) → IfSome (maker_of k) (λ m. m ≤ length s.rows) → is_group_cancelled t.rows k ≡ is_group_cancelled s.rows k
  by_kind Root old = refl
  by_kind Posted old = refl
  by_kind (Region m) old = refl
  by_kind (Spawned m g) old = ap (λ (q : Row). (slice_index_or {A = Mark} q.marks g (record { rows = 0; cancelled = false })).cancelled) (row-push_old s.rows m r old)

  maker_old : (n : ℕ) (o : Option ℕ) → 1 ≤ n → n ≤ length s.rows → maker_of (row s.rows n).kind ≡ o → IfSome o (λ m. (1 ≤ m) × (m ≤ length s.rows))
  maker_old n None from to made = tt
  maker_old n (Some m) from to made = let before : (1 ≤ m) × (m < n) = rw made at (linked.makers n from to) in (before.0, omega (arith, before, to))

  low : (o : Option ℕ) → IfSome o (λ m. (1 ≤ m) × (m ≤ length s.rows)) → IfSome o (λ m. m ≤ length s.rows)
  low None its = tt
  low (Some m) its = its.1

  same_group : (n : ℕ) → 1 ≤ n → n ≤ length s.rows → new_group n ≡ old_group n
  same_group n from to =
      ap (λ (q : Row). is_group_cancelled t.rows q.kind) (row-push_old s.rows n r to) ∙
      by_kind (row s.rows n).kind (low (maker_of (row s.rows n).kind) (maker_old n (maker_of (row s.rows n).kind) from to refl))

  abbrev IsSameFrom : ℕ → Type 0
  IsSameFrom k = (n : ℕ) → 1 ≤ n → n ≤ length s.rows → list_any new_group (chain_for k t.rows n) ≡ list_any old_group (chain_for k s.rows n)

  from_maker : (k n : ℕ) (o : Option ℕ) → IsSameFrom k → 1 ≤ n → n ≤ length s.rows → IfSome o (λ m. (1 ≤ m) × (m ≤ length s.rows)) →
      list_any new_group (with_makers n o (chain_for k t.rows)) ≡ list_any old_group (with_makers n o (chain_for k s.rows))
  from_maker k n None rest from to its = ap (λ b. b || false) (same_group n from to)
  from_maker k n (Some m) rest from to its = ap (λ b. b || list_any new_group (chain_for k t.rows m)) (same_group n from to) ∙ ap (λ b. old_group n || b) (rest m its.0 its.1)

  same_chain : (k : ℕ) → IsSameFrom k
  same_chain zero = λ n from to. refl
  same_chain (suc k) = λ n from to.
      ap (λ (q : Row). list_any new_group (with_makers n (maker_of q.kind) (chain_for k t.rows))) (row-push_old s.rows n r to) ∙
      from_maker k n (maker_of (row s.rows n).kind) (same_chain k) from to (maker_old n (maker_of (row s.rows n).kind) from to refl)

  same_context : (n : ℕ) → 1 ≤ n → n ≤ length s.rows → is_context_cancelled t n ≡ is_context_cancelled s n
  same_context n from to =
      ap (λ (q : Row). is_job_cancelled (job t.jobs q.job) || list_any new_group (chain t.rows n)) (row-push_old s.rows n r to) ∙
      ap (λ (w : Work). is_job_cancelled w || list_any new_group (chain t.rows n)) (at_number-push_old s.jobs _ (row s.rows n).job (new_job s j) (linked.jobs n from to).1) ∙
      ap (λ b. is_job_cancelled (job s.jobs (row s.rows n).job) || b) (same_chain n n from to)

  new_context : is_context_cancelled t N ≡ false
  new_context =
      let here : row t.rows N ≡ r = row-push_new s.rows N r refl in
      let long : N ≡ suc (length s.rows) = omega arith in
      let alone : chain t.rows N ≡ N ∷ [] = ap (λ k. chain_for k t.rows N) long ∙ ap (λ (q : Row). with_makers N (maker_of q.kind) (chain_for (length s.rows) t.rows)) here in
      let none : list_any new_group (chain t.rows N) ≡ false = ap (list_any new_group) alone ∙ ap (λ (q : Row). is_group_cancelled t.rows q.kind || false) here in
      let job_fine : is_job_cancelled (job t.jobs (row t.rows N).job) ≡ false =
      ap (λ (q : Row). is_job_cancelled (job t.jobs q.job)) here ∙ ap is_job_cancelled (at_number-push_new s.jobs _ (length s.jobs + 1) (new_job s j) refl) in
      ap (λ b. b || list_any new_group (chain t.rows N)) job_fine ∙ none

  -- So no row waits that is cancelled.
  pub added_settled : IsSettled s → IsSettled t
  added_settled settled n waits =
      let there = open_there t.rows n (unstarted_open (row t.rows n).phase waits) in
      elim (cases_eq n N) [
        | inl same ↦ subst (λ k. is_context_cancelled t k ≡ false) (sym same) new_context
        | inr other ↦
            let to : n ≤ length s.rows = omega (arith, there, other, length_push s.rows r) in
            same_context n there.0 to ∙ settled n (ap (λ (q : Row). is_unstarted q.phase) (sym (row-push_old s.rows n r to)) ∙ waits)
      ]

pub counted_there : {A : Type 0} (p : A → Bool) (xs : List A) (i : ℕ) (d : A) → i < length xs → p (get_or xs i d) ≡ true → 1 ≤ count_by p xs
counted_there p [] i d within is = absurd (omega (arith, within))
counted_there p (x ∷ xs) zero d within is = let one : one_if (p x) ≡ 1 = rw is refl in omega (arith, count_cons p x xs, one)
counted_there p (x ∷ xs) (suc i) d within is = omega (arith, count_cons p x xs, counted_there p xs i d (omega (arith, within)) is)

module _ (rows : List Row) where
  abbrev up_to : ℕ → ℕ
  up_to k = count_by (λ (r : Row). nat_le r.job k) rows

  one_more : (k n : ℕ) → one_if (nat_le n (suc k)) ≡ one_if (nat_le n k) + one_if (n == suc k)
  one_more k n = elim (cases_lt k n) [
    | inl above ↦ elim (cases_eq n (suc k)) [
      | inl same ↦ let a : nat_le n (suc k) ≡ true = grind (arith, same) in let b : nat_le n k ≡ false = grind (arith, above) in let c : (n == suc k) ≡ true = grind (arith, same) in rw (a, b, c) refl
      | inr other ↦ let a : nat_le n (suc k) ≡ false = grind (arith, above, other) in let b : nat_le n k ≡ false = grind (arith, above) in let c : (n == suc k) ≡ false = grind (arith, other) in
          rw (a, b, c) refl
    ]
    | inr below ↦ let a : nat_le n (suc k) ≡ true = grind (arith, below) in let b : nat_le n k ≡ true = grind (arith, below) in let c : (n == suc k) ≡ false = grind (arith, below) in rw (a, b, c) refl
  ]

  rooted : (k : ℕ) → ((j : ℕ) → 1 ≤ j → j ≤ k → (n : ℕ) × (1 ≤ n) × (n ≤ length rows) × ((row rows n).job ≡ j)) → k ≤ up_to k
  rooted zero roots = omega arith
  rooted (suc k) roots =
      let rest = rooted k (λ j from to. roots j from (omega (arith, to))) in
      let root = roots (suc k) (omega arith) (omega arith) in
      let n = root.0 in
      let place : n - 1 + 1 ≡ n = omega (arith, root.1) in
      let d = row rows n in
      let here : get_or rows (n - 1) d ≡ row rows n = row-get_or rows (n - 1) d (omega (arith, root.1, root.2)) ∙ ap (row rows) place in
      let its : ((get_or rows (n - 1) d).job == suc k) ≡ true = let number = root.3 in rw here (grind (arith, number)) in
      let one = counted_there (λ (r : Row). r.job == suc k) rows (n - 1) d (omega (arith, root.1, root.2)) its in
      omega (arith, rest, one, count-split (λ (r : Row). nat_le r.job (suc k)) (λ (r : Row). nat_le r.job k) (λ (r : Row). r.job == suc k) (λ x. one_more k x.job) rows)

pub jobs_most : (a : Held) (s : State) (is : Holds a s) → a.made_jobs ≤ a.made
jobs_most a s is =
    let most = rooted s.rows (length s.jobs) (λ j from to. let root = is.steady.tended.roots j from to in ((job s.jobs j).root, root.from, root.to, root.job)) in
    omega (arith, most, count_by-le-length (λ (r : Row). nat_le r.job (length s.jobs)) s.rows, is.made, is.made_jobs)
