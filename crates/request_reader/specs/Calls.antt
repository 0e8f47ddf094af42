-- How often a reader was called.
use Rattle.std.specs.Prelude.{ℕ, zero, suc, ◌≡◌, ◌+◌}

-- That many calls, each of which leads a reader on as `called` says, lead from one reader to the other.
abbrev pub Calls : {X : Type 0} → (called : X → X → Type 0) → ℕ → X → X → Type 0
Calls called zero old new = new ≡ old
Calls {X = X} called (suc n) old new = (mid : X) × (called old mid × Calls called n mid new)

-- Each turn that is gone was a call of the reader, and there was no other call.
pub record AreCalls {X : Type 0} (called : X → X → Type 0) (before after : ℕ) (old new : X) : Type 0 where
  pub count : ℕ
  pub gone : count + after ≡ before
  pub calls : Calls called count old new
