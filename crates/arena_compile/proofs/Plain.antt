-- The JSON of a job has no float.
use Rattle.std.proofs.Common.{◌≡◌, List, [], ◌∷◌, map, ℤ, pos, refl}
use Rattle.std.specs.Prelude.{Bool, true, false, ◌||◌, negsuc}
use Rattle.serde_json.specs.Data.{Data, array, object, Items, item, Members, member, no_members}
use Rattle.serde_json.specs.View.{items_of}
use Rattle.serde_json.specs.Written.{has_float, items_have_float, members_have_float}
use Rattle.job_language.specs.declared.instructions.Instr.{Instr}
use Rattle.job_language.specs.declared.jobs.Job.{Job}
use Rattle.job_json.specs.JobData.{array_of, number_data, operands_of, instr_data, proc_data, program_data, job_data}

neither : (x y : Bool) → x ≡ false → y ≡ false → (x || y) ≡ false
neither x y a b = rw (a, b) refl

mapped : {A : Type 0} (f : A → Data) → ((x : A) → has_float (f x) ≡ false) → (xs : List A) → items_have_float (items_of (map f xs)) ≡ false
mapped f each [] = refl
mapped f each (x ∷ xs) = neither (has_float (f x)) (items_have_float (items_of (map f xs))) (each x) (mapped f each xs)

number_whole : (z : ℤ) → has_float (number_data z) ≡ false
number_whole (pos k) = refl
number_whole (negsuc k) = refl

instr_whole : (i : Instr) → has_float (instr_data i) ≡ false
instr_whole i = mapped number_data number_whole (operands_of i)

proc_whole : (is : List Instr) → has_float (proc_data is) ≡ false
proc_whole is = mapped instr_data instr_whole is

program_whole : (ps : List (List Instr)) → has_float (program_data ps) ≡ false
program_whole ps = mapped proc_data proc_whole ps

pub job_whole : (j : Job) → has_float (job_data j) ≡ false
job_whole j =
    let args : has_float (array_of (map number_data j.args)) ≡ false = mapped number_data number_whole j.args in
    let program : has_float (program_data j.program) ≡ false = program_whole j.program in
    rw (args, program) refl
