-- Why a script ended by a device.
use Rattle.std.proofs.Common.{ℕ, ◌≡◌, ◌⊎◌, inl, inr, Result, Ok, Err, subst}
use Rattle.std.specs.Prelude.{IfErr}
use Rattle.request_reader.specs.Calls.{AreCalls}
use Rattle.request_reader.proofs.Calling.{calls_then}
use Rattle.arena_script.specs.Faults.{HasCause}
use Rattle.arena_script.specs.declared.ends.ScriptEnd.{ScriptEnd}
use Rattle.arena_script.specs.declared.ends.ScriptEnd.TheVariants.{Done, BadLine, Words, Config, History, Device, Memory}

-- The reader failed, or no call is left.
pub lost : {X : Type 0} (called : X → X → Type 0) (n m : ℕ) (a b : X) (failed written : Type 0) → AreCalls called n m a b → failed ⊎ (m ≡ 0) → HasCause failed (AreCalls called n 0 a b) written Device
lost called n m a b failed written first (inl is) = inl is
lost called n m a b failed written first (inr none) = inr (inl (subst (λ k. AreCalls called n k a b) none first))

-- A result that says so.
pub lost_with : {T : Type 0} {X : Type 0} (result : Result T ScriptEnd) (called : X → X → Type 0) (n m : ℕ) (a b : X) (failed written : Type 0) → result ≡ Err Device → AreCalls called n m a b →
    failed ⊎ (m ≡ 0) → IfErr result (HasCause failed (AreCalls called n 0 a b) written)
lost_with result called n m a b failed written is first why = rw is (lost called n m a b failed written first why)

-- The same after calls that were made before.
pub cause_after : {X : Type 0} (called : X → X → Type 0) (n m : ℕ) (a b c : X) (failed written : Type 0) (end : ScriptEnd) → AreCalls called n m a b →
    HasCause failed (AreCalls called m 0 b c) written end → HasCause failed (AreCalls called n 0 a c) written end
cause_after called n m a b c failed written Device first (inl is) = inl is
cause_after called n m a b c failed written Device first (inr (inl spent)) = inr (inl (calls_then called n m 0 a b c first spent))
cause_after called n m a b c failed written Device first (inr (inr is)) = inr (inr is)
cause_after called n m a b c failed written Done first is = tt
cause_after called n m a b c failed written BadLine first is = tt
cause_after called n m a b c failed written Words first is = tt
cause_after called n m a b c failed written Config first is = tt
cause_after called n m a b c failed written History first is = tt
cause_after called n m a b c failed written Memory first is = tt

-- Each error of a result has it.
pub causes_after : {T : Type 0} {X : Type 0} (result : Result T ScriptEnd) (called : X → X → Type 0) (n m : ℕ) (a b c : X) (failed written : Type 0) → AreCalls called n m a b →
    IfErr result (HasCause failed (AreCalls called m 0 b c) written) → IfErr result (HasCause failed (AreCalls called n 0 a c) written)
causes_after (Ok it) called n m a b c failed written first is = is
causes_after (Err end) called n m a b c failed written first is = cause_after called n m a b c failed written end first is
