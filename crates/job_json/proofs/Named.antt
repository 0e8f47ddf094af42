-- An instruction by its operation is the one by its name.
use Rattle.std.proofs.Common.{◌≡◌, ℕ, List, Option, Some, None, Bool, true, false, refl, sym, ap, ◌∙◌}
use Rattle.std.specs.Prelude.{if◌then◌else◌}
use Rattle.serde_json.specs.Data.{Data}
use Rattle.job_json.specs.declared.operations.Operation.{Operation}
use Rattle.job_json.specs.InsideOperation.{operation_named, made_of}
use Rattle.job_json.specs.Instruction.{instr_from}
use Rattle.job_json.specs.Json.{◌>>=◌}

if-then : {A B : Type 0} (b : Bool) (x y : Option A) (f : A → Option B) → ((if b then x else y) >>= f) ≡ (if b then (x >>= f) else (y >>= f))
if-then true x y f = refl
if-then false x y f = refl

by_operation : (name : List ℕ) (procs instrs : ℕ) (ds : List Data) → (operation_named name >>= λ operation. made_of operation procs instrs ds) ≡ instr_from name procs instrs ds
unfolding instr_from made_of
by_operation name procs instrs ds = simp if-then

pub instr_found : (name : List ℕ) (operation : Operation) (procs instrs : ℕ) (ds : List Data) → operation_named name ≡ Some operation →
    made_of operation procs instrs ds ≡ instr_from name procs instrs ds
instr_found name operation procs instrs ds its =
    sym (ap (λ o. o >>= λ operation. made_of operation procs instrs ds) its) ∙ by_operation name procs instrs ds

pub instr_missing : (name : List ℕ) (procs instrs : ℕ) (ds : List Data) → operation_named name ≡ None → instr_from name procs instrs ds ≡ None
instr_missing name procs instrs ds its =
    sym (by_operation name procs instrs ds) ∙ ap (λ o. o >>= λ operation. made_of operation procs instrs ds) its
