-- What a nest of tasks gives, by the turn of the task at work.
use Rattle.std.specs.Prelude.{ℕ, suc, ◌≡◌, ℤ, List, [], ◌∷◌, ◌++◌, Some, None}
use Rattle.std.proofs.Common.{refl, sym, ◌∙◌, ap}
use Rattle.job_language.specs.declared.instructions.Instr.{Instr}
use Rattle.job_step.specs.Frame.{instr_at}
use Rattle.tenant_model.specs.declared.serials.SerialMaker.{SerialMaker}
use Rattle.tenant_model.specs.declared.serials.SerialTask.{SerialTask}
use Rattle.tenant_model.specs.declared.serials.SerialTurn.{SerialTurn}
use Rattle.tenant_model.specs.declared.serials.SerialTurn.TheVariants.{Goes, Makes, Gives, Fails}
use Rattle.tenant_model.specs.Serial.{Given, given_then, given_by, given_of, turn_at, with_value}
use Rattle.tenant_model.proofs.SerialRule.{given_of-zero, given_of-suc}
use Rattle.serial_eval.specs.declared.serials.Nest.{Nest}
use Rattle.serial_eval.specs.InsideNest.{given_to, value_given, nest_value}

-- the result with one more maker, innermost
given_to-append : (procs : List (List Instr)) (makers : List SerialMaker) (m : SerialMaker) (given : Given) →
    given_to procs (makers ++ m ∷ []) given ≡ given_to procs makers (given_then given (λ v rest. given_of procs rest (with_value m v)))
given_to-append procs [] m given = refl
given_to-append procs (o ∷ makers) m given =
    ap (λ (first : Given). given_then first (λ v rest. given_of procs rest (with_value o v))) (given_to-append procs makers m given)

given_to-none : (procs : List (List Instr)) (makers : List SerialMaker) → given_to procs makers None ≡ None
given_to-none procs [] = refl
given_to-none procs (m ∷ makers) =
    ap (λ (first : Given). given_then first (λ v rest. given_of procs rest (with_value m v))) (given_to-none procs makers)

-- what the root gives by the turn of the task at work
turn-gives : (procs : List (List Instr)) (makers : List SerialMaker) (t : SerialTask) (turn : SerialTurn) → turn ≡ turn_at (instr_at procs t.frame) t → (left : ℕ) →
    given_to procs makers (given_of procs (suc left) t) ≡ given_to procs makers (given_by (given_of procs) left turn)
turn-gives procs makers t turn is left =
    ap (λ (given : Given). given_to procs makers given) (given_of-suc procs left t ∙ ap (λ (next : SerialTurn). given_by (given_of procs) left next) (sym is))

pub nest_goes : (procs : List (List Instr)) (makers : List SerialMaker) (t u : SerialTask) → Goes u ≡ turn_at (instr_at procs t.frame) t → (left : ℕ) →
    value_given (given_to procs makers (given_of procs (suc left) t)) ≡ value_given (given_to procs makers (given_of procs left u))
nest_goes procs makers t u is left = ap value_given (turn-gives procs makers t (Goes u) is left)

pub nest_makes : (procs : List (List Instr)) (makers : List SerialMaker) (t u : SerialTask) (m : SerialMaker) → Makes u m ≡ turn_at (instr_at procs t.frame) t → (left : ℕ) →
    value_given (given_to procs makers (given_of procs (suc left) t)) ≡ value_given (given_to procs (makers ++ m ∷ []) (given_of procs left u))
nest_makes procs makers t u m is left =
    ap value_given (turn-gives procs makers t (Makes u m) is left ∙ sym (given_to-append procs makers m (given_of procs left u)))

pub nest_gives : (procs : List (List Instr)) (makers : List SerialMaker) (m : SerialMaker) (t : SerialTask) (v : ℤ) → Gives v ≡ turn_at (instr_at procs t.frame) t → (left : ℕ) →
    value_given (given_to procs (makers ++ m ∷ []) (given_of procs (suc left) t)) ≡ value_given (given_to procs makers (given_of procs left (with_value m v)))
nest_gives procs makers m t v is left =
    ap value_given (turn-gives procs (makers ++ m ∷ []) t (Gives v) is left ∙ given_to-append procs makers m (Some (v, left)))

pub root_gives : (procs : List (List Instr)) (t : SerialTask) (v : ℤ) → Gives v ≡ turn_at (instr_at procs t.frame) t → (left : ℕ) →
    value_given (given_to procs [] (given_of procs (suc left) t)) ≡ Some v
root_gives procs t v is left = ap value_given (turn-gives procs [] t (Gives v) is left)

pub nest_fails : (procs : List (List Instr)) (makers : List SerialMaker) (t : SerialTask) → Fails ≡ turn_at (instr_at procs t.frame) t → (left : ℕ) →
    value_given (given_to procs makers (given_of procs (suc left) t)) ≡ None
nest_fails procs makers t is left = ap value_given (turn-gives procs makers t Fails is left ∙ given_to-none procs makers)

pub nest_value-zero : (procs : List (List Instr)) (nest : Nest) → nest_value procs 0 nest ≡ None
nest_value-zero procs nest =
    ap (λ (given : Given). value_given (given_to procs nest.makers.items given)) (given_of-zero procs nest.task) ∙ ap value_given (given_to-none procs nest.makers.items)
