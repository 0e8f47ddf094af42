-- Two things that are so of the item at a place.
use Rattle.std.proofs.Common.{◌<◌, ℕ, List, length, inl, inr, subst, arith}
use Rattle.std.specs.Prelude.{IfSome, slice_get}
use Rattle.std.proofs.lemmas.Option.{slice_get_cases}

pub record Both {X : Type 0} (P Q : X → Type 0) : Type 0 where
  pub it : X
  pub one : P it
  pub other : Q it

pub both_there : {X : Type 0} (xs : List X) (i : ℕ) (P Q : X → Type 0) → i < length xs → IfSome (slice_get xs i) P → IfSome (slice_get xs i) Q → Both P Q
both_there xs i P Q within one other = elim (slice_get_cases xs i).1 [
  | inl k ↦ record { it = k.0; one = subst (λ o. IfSome o P) k.2 one; other = subst (λ o. IfSome o Q) k.2 other }
  | inr k ↦ absurd (omega (arith, within, k.0))
]
