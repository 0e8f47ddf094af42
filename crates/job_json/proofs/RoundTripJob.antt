-- A job is what its JSON spells.
use Rattle.std.proofs.Common.{◌≡◌, ℕ, ◌+◌, ◌-◌, ◌<◌, ◌≤◌, suc, List, [], ◌∷◌, ℤ, true, refl, arith, length, Some, Ok, Err, map, ap, ◌∙◌, leb}
use Rattle.std.specs.Prelude.{All, false, IfSome, IsTrue, slice_get, ◌||◌, nat_lt, Bool}
use Rattle.std.specs.List.{list_all}
use Rattle.std.proofs.lemmas.Bool.{lt-ltb, le-leb}
use Rattle.std.proofs.lemmas.List.{length-map}
use Rattle.std.proofs.lemmas.List.Elements.{All-head, All-tail}
use Rattle.std.specs.Option.{option_map_or}
use Rattle.serde_json.specs.Data.{Data}
use Rattle.job_json.specs.declared.errors.Place.TheVariants.{Head}
use Rattle.job_language.specs.declared.instructions.Instr.{Instr}
use Rattle.job_language.specs.declared.jobs.Job.{Job}
use Rattle.job_language.specs.declared.jobs.TheConstants.{MAX_FUEL}
use Rattle.job_json.specs.Json.{items_of, result_map}
use Rattle.job_json.specs.Job.{instr_at, instrs_from, proc_at, procs_from, is_proc, are_procs, args_of, outline_of, procs_of, job_in, job_of}
use Rattle.job_json.specs.JobData.{number_data, array_of, instr_data, proc_data, program_data, job_object, job_data}
use Rattle.job_language.specs.Program.{IsInRange, Calls, is_last, IsValidProc, IsValidProgram}
use Rattle.job_json.proofs.Items.{list_of-items_of}
use Rattle.job_json.proofs.RoundTripInstr.{instr_of-instr_data}

abbrev Ends : List Instr → Type 0
Ends is = IfSome (slice_get is (length is - 1)) (λ i. IsTrue (is_last i))

Ends-tail : (i j : Instr) (is : List Instr) → Ends (i ∷ j ∷ is) → Ends (j ∷ is)
Ends-tail i j is h =
    let e : length (i ∷ j ∷ is) - 1 ≡ suc (length (j ∷ is) - 1) = omega arith in
    rw e at h

or_true : (x y : Bool) → y ≡ true → (x || y) ≡ true
or_true true y h = refl
or_true false y h = h

items_of-array_of : (ds : List _) → items_of (array_of ds) ≡ Some ds
items_of-array_of ds = ap Some (list_of-items_of ds)

instr_at-instr_data : (procs instrs place : ℕ) (i : Instr) → IsInRange instrs i → Calls procs i → (is_last i || nat_lt (place + 1) instrs) ≡ true → instr_at procs instrs place (instr_data i) ≡ Some i
instr_at-instr_data procs instrs place i h calls ends = rw (instr_of-instr_data procs instrs i h calls, ends) refl

instrs_from-map : (procs number instrs place : ℕ) (is : List Instr) → All (IsInRange instrs) is → All (Calls procs) is → Ends is → place + length is ≡ instrs →
    instrs_from procs number instrs place (map instr_data is) ≡ Ok is
instrs_from-map procs number instrs place [] h calls ends at = refl
instrs_from-map procs number instrs place (i ∷ []) h calls ends at =
    let is_last_one : (is_last i || nat_lt (place + 1) instrs) ≡ true = rw ends refl in
    rw (instr_at-instr_data procs instrs place i (All-head (IsInRange instrs) i [] h) (All-head (Calls procs) i [] calls) is_last_one) refl
instrs_from-map procs number instrs place (i ∷ j ∷ is) h calls ends at =
    let below : place + 1 < instrs = omega arith in
    let goes_on : (is_last i || nat_lt (place + 1) instrs) ≡ true = or_true (is_last i) _ (lt-ltb _ _ below) in
    let rest : instrs_from procs number instrs (place + 1) (map instr_data (j ∷ is)) ≡ Ok (j ∷ is) =
    instrs_from-map procs number instrs (place + 1) (j ∷ is) (All-tail (IsInRange instrs) i (j ∷ is) h) (All-tail (Calls procs) i (j ∷ is) calls) (Ends-tail i j is ends) (omega arith) in
    rw (instr_at-instr_data procs instrs place i (All-head (IsInRange instrs) i (j ∷ is) h) (All-head (Calls procs) i (j ∷ is) calls) goes_on) (ap (result_map (λ xs. i ∷ xs)) rest)

proc_at-proc_data : (procs number : ℕ) (is : List Instr) → IsValidProc is → All (Calls procs) is → proc_at procs number (proc_data is) ≡ Ok is
proc_at-proc_data procs number is v calls =
    let all : instrs_from procs number (length is) 0 (map instr_data is) ≡ Ok is = instrs_from-map procs number (length is) 0 is v.each calls v.ends (omega arith) in
    rw (list_of-items_of (map instr_data is), length-map) all

procs_from-map : (procs number : ℕ) (ps : List (List Instr)) → All IsValidProc ps → All (All (Calls procs)) ps → procs_from procs number (map proc_data ps) ≡ Ok ps
procs_from-map procs number [] v calls = refl
procs_from-map procs number (p ∷ ps) v calls =
    let rest : procs_from procs (number + 1) (map proc_data ps) ≡ Ok ps = procs_from-map procs (number + 1) ps (All-tail IsValidProc p ps v) (All-tail (All (Calls procs)) p ps calls) in
    rw (proc_at-proc_data procs number p (All-head IsValidProc p ps v) (All-head (All (Calls procs)) p ps calls)) (ap (result_map (λ xs. p ∷ xs)) rest)

is_proc-proc_data : (is : List Instr) → IsValidProc is → is_proc (proc_data is) ≡ true
is_proc-proc_data is v =
    rw (list_of-items_of (map instr_data is), length-map) (rw (le-leb _ _ v.some, le-leb _ _ v.most) refl)

all_procs-map : (ps : List (List Instr)) → All IsValidProc ps → list_all is_proc (map proc_data ps) ≡ true
all_procs-map [] v = refl
all_procs-map (p ∷ ps) v = rw (is_proc-proc_data p (All-head IsValidProc p ps v)) (all_procs-map ps (All-tail IsValidProc p ps v))

procs_of-program_data : (ps : List (List Instr)) → IsValidProgram ps → procs_of (program_data ps) ≡ Some (map proc_data ps)
procs_of-program_data ps v =
    let are : are_procs (map proc_data ps) ≡ true = rw (length-map, all_procs-map ps v.each) (rw (le-leb _ _ v.some, le-leb _ _ v.most) refl) in
    rw (list_of-items_of (map proc_data ps)) (rw are refl)

outline_of-job_object : (a p : Data) (fuel : ℕ) (args : List ℤ) (procs : List Data) → args_of a ≡ Some args → leb 1 fuel ≡ true → leb fuel MAX_FUEL ≡ true → procs_of p ≡ Some procs →
    outline_of (job_object a fuel p) ≡ Some (record { args = args; fuel = fuel; procs = procs })
outline_of-job_object a p fuel args procs has_args some most has_procs = rw (has_args, some, most, has_procs) refl

pub job_of-job_data : (j : Job) → args_of (array_of (map number_data j.args)) ≡ Some j.args → 1 ≤ j.fuel → j.fuel ≤ MAX_FUEL → IsValidProgram j.program → job_of (job_data j) ≡ Ok j
job_of-job_data j args some most v =
    let outline : outline_of (job_data j) ≡ Some (record { args = j.args; fuel = j.fuel; procs = map proc_data j.program }) =
    outline_of-job_object (array_of (map number_data j.args)) (program_data j.program) j.fuel j.args (map proc_data j.program) args (le-leb _ _ some) (le-leb _ _ most)
    (procs_of-program_data j.program v) in
    let procs : procs_from (length j.program) 0 (map proc_data j.program) ≡ Ok j.program = procs_from-map (length j.program) 0 j.program v.each v.calls in
    ap (λ o. option_map_or job_in o (Err Head)) outline ∙ rw length-map (ap (result_map (λ ps. record { program = ps; args = j.args; fuel = j.fuel })) procs)
