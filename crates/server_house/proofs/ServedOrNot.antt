-- What a session that was served, or not, leaves.
use Rattle.std.proofs.Common.{Result, Ok, Err}
use Rattle.std.specs.Prelude.{IfOk, OnErr}

-- what follows with an answer, and without one
pub either_way : {A E : Type 0} {S : A → Type 0} {N X : Type 0} (r : Result A E) → IfOk r S → OnErr r N → ((a : A) → S a → X) → (N → X) → X
either_way (Ok a) served refused some none = some a served
either_way (Err e) served refused some none = none refused

-- what follows without one alone
pub if_none : {A E : Type 0} {N M : Type 0} (r : Result A E) → (N → M) → OnErr r N → OnErr r M
if_none (Ok a) follows refused = tt
if_none (Err e) follows refused = follows refused
