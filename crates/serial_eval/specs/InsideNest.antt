-- The result of a nest of tasks, each of which waits for the next.
use Rattle.std.specs.Prelude.{ℕ, suc, ◌≡◌, ℤ, List, [], ◌∷◌, Option}
use Rattle.std.specs.Option.{option_map}
use Rattle.job_language.specs.declared.instructions.Instr.{Instr}
use Rattle.tenant_model.specs.declared.serials.SerialMaker.{SerialMaker}
use Rattle.tenant_model.specs.Serial.{Given, given_then, given_of, with_value}
use Rattle.serial_eval.specs.declared.serials.Nest.{Nest}
use Rattle.serial_eval.specs.declared.serials.Turned.{Turned}
use Rattle.serial_eval.specs.declared.serials.Turned.TheVariants.{GoesOn, Ends}

-- the result of the outermost maker if the innermost one's child returns `given`
abbrev pub given_to : List (List Instr) → List SerialMaker → Given → Given
given_to procs [] given = given
given_to procs (m ∷ makers) given = given_then (given_to procs makers given) (λ v rest. given_of procs rest (with_value m v))

abbrev pub value_given : Given → Option ℤ
value_given given = option_map (λ (p : ℤ × ℕ). p.0) given

-- the value of the root with `left` instructions
abbrev pub nest_value : List (List Instr) → (left : ℕ) → Nest → Option ℤ
nest_value procs left nest = value_given (given_to procs nest.makers.items (given_of procs left nest.task))

-- A turn takes one instruction, and leaves the result of the root unchanged.
abbrev pub Turns : List (List Instr) → Nest → Turned → Nest → Type 0
Turns procs old GoesOn new = (left : ℕ) → nest_value procs (suc left) old ≡ nest_value procs left new
Turns procs old (Ends value) new = (left : ℕ) → nest_value procs (suc left) old ≡ value
