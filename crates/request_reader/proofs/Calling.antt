-- Calls of a reader, one after another.
use Rattle.std.proofs.Common.{ℕ, zero, suc, ◌≡◌, ◌+◌, refl, subst, arith}
use Rattle.request_reader.specs.Calls.{Calls, AreCalls}

pub Calls-then : {X : Type 0} (called : X → X → Type 0) (n m : ℕ) (a b c : X) → Calls called n a b → Calls called m b c → Calls called (n + m) a c
Calls-then {X = X} called zero m a b c before after =
    let none : m ≡ zero + m = omega arith in
    let here : Calls called (zero + m) b c = subst (λ k. Calls called k b c) none after in
    subst (λ (x : X). Calls called (zero + m) x c) before here
Calls-then called (suc n) m a b c before after =
    let more : suc (n + m) ≡ suc n + m = omega arith in
    let all : Calls called (suc (n + m)) a c = (before.0, (before.1.0, Calls-then called n m before.0 b c before.1.1 after)) in
    subst (λ k. Calls called k a c) more all

-- No turn is gone, and the reader is the same.
pub no_calls : {X : Type 0} (called : X → X → Type 0) (before after : ℕ) (a b : X) → after ≡ before → b ≡ a → AreCalls called before after a b
no_calls called before after a b same is = record { count = zero; gone = omega (arith, same); calls = is }

-- One turn is gone.
pub one_call : {X : Type 0} (called : X → X → Type 0) (before after : ℕ) (a b : X) → after + 1 ≡ before → called a b → AreCalls called before after a b
one_call called before after a b one is = record { count = suc zero; gone = omega (arith, one); calls = (b, (is, refl)) }

pub calls_then : {X : Type 0} (called : X → X → Type 0) (before mid after : ℕ) (a b c : X) → AreCalls called before mid a b → AreCalls called mid after b c → AreCalls called before after a c
calls_then called before mid after a b c first last = record {
  count = first.count + last.count;
  gone = omega (arith, first.gone, last.gone);
  calls = Calls-then called first.count last.count a b c first.calls last.calls;
}
