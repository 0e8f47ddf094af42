-- The canonical text of a job, with what stands after it.
use Rattle.std.specs.Prelude.{ℕ, ℤ, List, [], ◌∷◌, ◌++◌, codes, decimal}
use Rattle.std.specs.Fmt.{signed_decimal}
use Rattle.job_language.specs.declared.instructions.Instr.{Instr}
use Rattle.job_language.specs.declared.jobs.Job.{Job}
use Rattle.job_json.specs.JobData.{operation_of, operands_of}
use Rattle.job_json.specs.Operation.{name_of}

-- the items of a list that goes on, each after a comma, and the closing bracket
unfoldable pub more_then : {A : Type 0} → (A → List ℕ → List ℕ) → List A → List ℕ → List ℕ
more_then item_then [] rest = 93 ∷ rest
more_then item_then (x ∷ xs) rest = 44 ∷ item_then x (more_then item_then xs rest)

-- the items of a list, and the closing bracket
unfoldable pub listed : {A : Type 0} → (A → List ℕ → List ℕ) → List A → List ℕ → List ℕ
listed item_then [] rest = 93 ∷ rest
listed item_then (x ∷ xs) rest = item_then x (more_then item_then xs rest)

abbrev pub number_then : ℤ → List ℕ → List ℕ
number_then z rest = signed_decimal z ++ rest

abbrev pub operands_then : List ℤ → List ℕ → List ℕ
operands_then = more_then number_then

abbrev pub instr_then : Instr → List ℕ → List ℕ
instr_then i rest = 91 ∷ 34 ∷ (name_of (operation_of i) ++ 34 ∷ operands_then (operands_of i) rest)

abbrev pub proc_then : List Instr → List ℕ → List ℕ
proc_then is rest = 91 ∷ listed instr_then is rest

abbrev pub program_then : List (List Instr) → List ℕ → List ℕ
program_then ps rest = 91 ∷ listed proc_then ps rest

abbrev pub job_then : Job → List ℕ → List ℕ
job_then j rest =
    codes "{\"args\":[" ++ listed number_then j.args (codes ",\"fuel\":" ++ (decimal j.fuel ++ (codes ",\"procs\":" ++ program_then j.program (125 ∷ rest))))
