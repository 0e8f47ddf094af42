-- What was emitted part by part is the code of the whole.
use Rattle.std.proofs.Common.{◌≡◌, ℕ, ◌+◌, List, [], ◌∷◌, ◌++◌, length, ◌∙◌, arith, append_assoc, length-append}
use Rattle.job_language.specs.declared.instructions.Instr.{Instr}
use Rattle.job_language.specs.declared.instructions.Instr.TheVariants as ins
use Rattle.std.proofs.Common.{pos, Option, Some, None, Box, Global}
use Rattle.source_language.specs.declared.syntax.Expr.{Expr}
use Rattle.source_language.specs.declared.syntax.Expr.TheVariants.{Two'}
use Rattle.source_language.specs.declared.syntax.Operator.{Operator}
use Rattle.source_language.specs.declared.syntax.Function.{Function}
use Rattle.job_compiler.specs.Registers.{AreBothLow, IsWantedLow}
use Rattle.job_compiler.specs.Wanted.{wanted_code}
use Rattle.job_compiler.specs.Code.{op_instr, both_code, left_of, right_of, register_for, stmt_size, stmt_code, function_code}
use Rattle.job_compiler.proofs.Stands.{stmt_length}

pub two_size : (op : Operator) (p : Box (Unit {0}) Global) (a : Expr) (q : Box (Unit {0}) Global) (b : Expr) (into : Option ℕ) (t : ℕ)
    → length (wanted_code (Two' op p a q b) into t) ≡ length (both_code a b t) + 1
two_size op p a q b None t = length-append (both_code a b t) (op_instr op t (left_of a b t) (right_of a b t) ∷ [])
two_size op p a q b (Some d) t = length-append (both_code a b t) (op_instr op d (left_of a b t) (right_of a b t) ∷ [])

pub two_low : (m : ℕ) (op : Operator) (p : Box (Unit {0}) Global) (a : Expr) (q : Box (Unit {0}) Global) (b : Expr) (into : Option ℕ) (t : ℕ) → IsWantedLow m (Two' op p a q b) into t
    → AreBothLow m a b t
two_low m op p a q b None t h = (h.0, h.1)
two_low m op p a q b (Some d) t h = h

pub emitted_two : (op : Operator) (p : Box (Unit {0}) Global) (a : Expr) (q : Box (Unit {0}) Global) (b : Expr) (into : Option ℕ) (t d left right : ℕ) (c0 c1 c2 : List Instr)
    → c1 ≡ c0 ++ both_code a b t → d ≡ register_for into t → left ≡ left_of a b t → right ≡ right_of a b t
    → c2 ≡ c1 ++ op_instr op d left right ∷ [] → c2 ≡ c0 ++ wanted_code (Two' op p a q b) into t
emitted_two op p a q b None t d left right c0 c1 c2 e1 ed el er e2 =
    e2 ∙ rw (e1, ed, el, er) (append_assoc c0 (both_code a b t) (op_instr op t (left_of a b t) (right_of a b t) ∷ []))
emitted_two op p a q b (Some z) t d left right c0 c1 c2 e1 ed el er e2 =
    e2 ∙ rw (e1, ed, el, er) (append_assoc c0 (both_code a b t) (op_instr op z (left_of a b t) (right_of a b t) ∷ []))

pub function_length : (f : Function) → length (function_code f) ≡ stmt_size f.body f.variables + 2
function_length f =
    let end = stmt_size f.body f.variables in
    let code = stmt_code f.body f.variables 0 [] end in
    omega (arith, length-append code (ins.Set 0 (pos 0) ∷ ins.Ret 0 ∷ []), stmt_length f.body f.variables 0 [] end)
