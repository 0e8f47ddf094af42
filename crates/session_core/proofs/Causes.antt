-- Why a session ended by a device.
use Rattle.std.proofs.Common.{◌≡◌, Result, Ok, Err, subst}
use Rattle.std.specs.Prelude.{IfErr}
use Rattle.session_core.specs.Sessions.{HasCause}
use Rattle.session_core.specs.declared.serving.SessionEnd.{SessionEnd}
use Rattle.session_core.specs.declared.serving.SessionEnd.TheVariants.{Ended, ReadFault, WriteFault, TurnLimit, Stopped}

-- Who has no reader has not failed by it.
written_alone : (failed spent written : Type 0) (end : SessionEnd) → HasCause ⊥ ⊥ written end → HasCause failed spent written end
written_alone failed spent written Ended is = tt
written_alone failed spent written ReadFault none = absurd none
written_alone failed spent written (WriteFault sent) is = is
written_alone failed spent written TurnLimit none = absurd none
written_alone failed spent written Stopped is = tt

-- The end of an answer that failed.
pub cause_of_answer : (failed spent written : Type 0) (answered : Result (Unit {0}) SessionEnd) (end : SessionEnd) → answered ≡ Err end → IfErr answered (HasCause ⊥ ⊥ written) →
    HasCause failed spent written end
cause_of_answer failed spent written answered end is cause =
    written_alone failed spent written end (subst (λ (r : Result (Unit {0}) SessionEnd). IfErr r (HasCause ⊥ ⊥ written)) is cause)
