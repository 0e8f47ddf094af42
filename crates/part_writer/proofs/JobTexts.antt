-- The texts of jobs and of instructions, from the parts that were added.
use Rattle.std.proofs.Common.{◌≡◌, ℕ, ℤ, List, [], ◌∷◌, ◌++◌, ap, append_assoc, codes, get_or, length, pos, ◌∙◌, FitsSigned, of_z, to_z, w64, Result}
use Rattle.std.specs.Fmt.{signed_decimal}
use Rattle.std.specs.Result.{OnOk}
use Rattle.std.proofs.lemmas.Int.{to_z-of_z}
use Rattle.std.proofs.lemmas.Result.{on_ok_weaker}
use Rattle.job_language.specs.declared.instructions.Instr.{Instr}
use Rattle.job_json.specs.CanonicalText.{instr_then, listed, more_then, number_then, operands_then}
use Rattle.job_json.specs.JobData.{operands_of, operation_of}
use Rattle.job_json.specs.Operation.{name_of}
use Rattle.part_writer.specs.Added.{Adds}

-- a number that was read from its bits
pub signed_added : (z : ℤ) (old new before : List ℕ) → FitsSigned w64 z
    → Adds old new (λ rest. before ++ (signed_decimal (to_z w64 (of_z w64 z)) ++ rest)) → Adds old new (λ rest. before ++ (signed_decimal z ++ rest))
signed_added z old new before fits added = λ rest. added rest ∙ ap (λ (n : ℤ). old ++ (before ++ (signed_decimal n ++ rest))) (to_z-of_z w64 z fits)

-- two numbers in brackets
pub two_added : (zs : List ℤ) (t0 t1 t2 t3 : List ℕ) → length zs ≡ 2 → Adds t0 t1 (λ rest. codes "[" ++ (signed_decimal (get_or zs 0 (pos 0)) ++ rest))
    → Adds t1 t2 (λ rest. codes "," ++ (signed_decimal (get_or zs 1 (pos 0)) ++ rest)) → Adds t2 t3 (λ rest. codes "]" ++ rest) → Adds t0 t3 (λ rest. 91 ∷ listed number_then zs rest)
unfolding listed more_then
two_added [] t0 t1 t2 t3 long one two three = λ rest. cc
two_added (x ∷ []) t0 t1 t2 t3 long one two three = λ rest. cc
two_added (x ∷ y ∷ []) t0 t1 t2 t3 long one two three = λ rest. three rest ∙ two (93 ∷ rest) ∙ one (44 ∷ (signed_decimal y ++ 93 ∷ rest))
two_added (x ∷ y ∷ z ∷ zs) t0 t1 t2 t3 long one two three = λ rest. cc

-- what stands before an instruction's operands
abbrev pub begin_of : Instr → List ℕ
begin_of i = 91 ∷ 34 ∷ (name_of (operation_of i) ++ 34 ∷ [])

instr_is : (i : Instr) (rest : List ℕ) → begin_of i ++ operands_then (operands_of i) rest ≡ instr_then i rest
instr_is i rest = ap (λ (t : List ℕ). 91 ∷ 34 ∷ t) (append_assoc (name_of (operation_of i)) (34 ∷ []) (operands_then (operands_of i) rest))

-- an instruction's beginning and its operands are its text
pub instr_added : {T E : Type 0} (result : Result T E) (i : Instr) (old new begin : List ℕ) (operands : List ℤ) → OnOk result (Adds old new (λ rest. begin ++ operands_then operands rest))
    → begin ≡ begin_of i → operands ≡ operands_of i → OnOk result (Adds old new (instr_then i))
instr_added result i old new begin operands added begins has =
    on_ok_weaker result (λ (h : Adds old new (λ rest. begin ++ operands_then operands rest)). λ (rest : List ℕ).
    h rest ∙ ap (λ (t : List ℕ). old ++ (t ++ operands_then operands rest)) begins ∙ ap (λ (ns : List ℤ). old ++ (begin_of i ++ operands_then ns rest)) has
    ∙ ap (λ (t : List ℕ). old ++ t) (instr_is i rest)) added
