-- What a context depends on: makers, jobs and marks, and no phase.
use Rattle.std.proofs.Common.{◌≡◌, ℕ, zero, suc, List, [], ◌∷◌, Option, Some, None, Bool, false, ◌||◌, refl, ap}
use Rattle.std.specs.Prelude.{slice_index_or}
use Rattle.std.specs.List.{list_any}
use Rattle.tenant_model.specs.declared.rows.Kind.{Kind}
use Rattle.tenant_model.specs.declared.rows.Kind.TheVariants.{Root, Posted, Spawned, Region}
use Rattle.tenant_model.specs.declared.rows.Mark.{Mark}
use Rattle.tenant_model.specs.declared.rows.Row.{Row}
use Rattle.tenant_model.specs.State.{State, row, job}
use Rattle.tenant_model.specs.Walks.{maker_of, with_makers, chain_for, chain, is_group_cancelled, is_context_cancelled, is_job_cancelled}
use Rattle.tenant_model.proofs.Linked.{SameSources}

-- the rows of two lists differ in frames and phases alone
pub record SameContexts (a b : List Row) : Type 0 where
  pub sources : SameSources a b
  pub marks : (n : ℕ) → (row b n).marks ≡ (row a n).marks

-- a test that holds of the same items
list_any-same : {A : Type 0} (p q : A → Bool) (xs : List A) → ((x : A) → p x ≡ q x) → list_any p xs ≡ list_any q xs
list_any-same p q [] same = refl
list_any-same p q (x ∷ xs) same = rw (same x) (ap (λ b. q x || b) (list_any-same p q xs same))

module _ (a b : List Row) (same : SameContexts a b) where
  with_makers-same : (n : ℕ) (o : Option ℕ) (f g : ℕ → List ℕ) → ((m : ℕ) → f m ≡ g m) → with_makers n o f ≡ with_makers n o g
  with_makers-same n None f g each = refl
  with_makers-same n (Some m) f g each = ap (λ ms. n ∷ ms) (each m)

  chain_for-same : (k n : ℕ) → chain_for k b n ≡ chain_for k a n
  chain_for-same zero n = refl
  chain_for-same (suc k) n = rw same.sources.kinds (with_makers-same n (maker_of (row a n).kind) (chain_for k b) (chain_for k a) (chain_for-same k))

  pub chain-same : (n : ℕ) → chain b n ≡ chain a n
  chain-same n = chain_for-same n n

  is_group_cancelled-same : (k : Kind) → is_group_cancelled b k ≡ is_group_cancelled a k
  is_group_cancelled-same Root = refl
  is_group_cancelled-same Posted = refl
  is_group_cancelled-same (Spawned m g) = ap (λ ms. (slice_index_or {A = Mark} ms g (record { rows = 0; cancelled = false })).cancelled) (same.marks m)
  is_group_cancelled-same (Region m) = refl

  pub has_cancelled_group-same : (n : ℕ) → list_any (λ m. is_group_cancelled b (row b m).kind) (chain b n) ≡ list_any (λ m. is_group_cancelled a (row a m).kind) (chain a n)
  has_cancelled_group-same n =
      rw (chain-same n) (list_any-same (λ m. is_group_cancelled b (row b m).kind) (λ m. is_group_cancelled a (row a m).kind) (chain a n)
      (λ m. rw same.sources.kinds (is_group_cancelled-same (row a m).kind)))

pub is_context_cancelled-same : (s t : State) → SameContexts s.rows t.rows → t.jobs ≡ s.jobs → (n : ℕ) → is_context_cancelled t n ≡ is_context_cancelled s n
is_context_cancelled-same s t same jobs n =
    rw (jobs, same.sources.jobs) (ap (λ b. is_job_cancelled (job s.jobs (row s.rows n).job) || b) (has_cancelled_group-same s.rows t.rows same n))
