-- Chains of makers.
use Rattle.std.proofs.Common.{◌≡◌, ℕ, zero, suc, ◌<◌, ◌≤◌, List, [], ◌∷◌, length, Option, Some, None, refl, ap, arith}
use Rattle.std.specs.Prelude.{IfSome}
use Rattle.std.proofs.lemmas.Option.{IfSome_then}
use Rattle.tenant_model.specs.declared.rows.Row.{Row}
use Rattle.tenant_model.specs.State.{row}
use Rattle.tenant_model.specs.Walks.{maker_of, with_makers, chain_for, chain}
use Rattle.tenant_model.specs.Linked.{MakersPrecede}

with_makers-agree : (n : ℕ) (o : Option ℕ) (f g : ℕ → List ℕ) → IfSome o (λ m. f m ≡ g m) → with_makers n o f ≡ with_makers n o g
with_makers-agree n None f g same = refl
with_makers-agree n (Some m) f g same = ap (λ ms. n ∷ ms) same

-- A chain has no more rows than its first one's number, so more are not met.
chain_for-agree : (rows : List Row) → MakersPrecede rows → (j k n : ℕ) → 1 ≤ n → n ≤ length rows → n ≤ j → n ≤ k → chain_for j rows n ≡ chain_for k rows n
chain_for-agree rows precede zero k n from to j-enough k-enough = absurd (omega arith)
chain_for-agree rows precede (suc j) zero n from to j-enough k-enough = absurd (omega arith)
chain_for-agree rows precede (suc j) (suc k) n from to j-enough k-enough =
    with_makers-agree n (maker_of (row rows n).kind) _ _ (IfSome_then (maker_of (row rows n).kind) (precede n from to)
    (λ m before. chain_for-agree rows precede j k m before.0 (omega arith) (omega arith) (omega arith)))

-- A chain continues with the chain of the maker,
pub chain_goes_on : (rows : List Row) → MakersPrecede rows → (n m : ℕ) → 1 ≤ n → n ≤ length rows → maker_of (row rows n).kind ≡ Some m → chain rows n ≡ n ∷ chain rows m
chain_goes_on rows precede zero m from to is = absurd (omega arith)
chain_goes_on rows precede (suc n) m from to is =
    let before : IfSome (Some m) (λ k. (1 ≤ k) × (k < suc n)) = rw is at (precede (suc n) from to) in
    rw is (ap (λ ms. suc n ∷ ms) (chain_for-agree rows precede n m m before.0 (omega arith) (omega arith) (omega arith)))

-- and ends if there is none.
pub chain_ends : (rows : List Row) (n : ℕ) → 1 ≤ n → maker_of (row rows n).kind ≡ None → chain rows n ≡ n ∷ []
chain_ends rows zero from is = absurd (omega arith)
chain_ends rows (suc n) from is = rw is refl
