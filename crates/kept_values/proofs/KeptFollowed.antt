-- A function that keeps a value gives it to a variable that nobody reads, and then reads that in place of the value.
use Rattle.std.proofs.Common.{ℕ, List, None, refl, arith}
use Rattle.job_language.specs.declared.instructions.Instr.{Instr}
use Rattle.source_language.specs.declared.syntax.Stmt.{Stmt}
use Rattle.source_language.specs.declared.syntax.Stmt.TheVariants.{Then', Assign, If', Loop', Repeat'}
use Rattle.source_language.specs.declared.syntax.Function.{Function}
use Rattle.job_compiler.specs.Compiled.{IsFunction, IsCompiled}
use Rattle.values_again.specs.Again.{IsAgain, ReadsAgain, Sets, Thens, Ifs, Loops, Repeats}
use Rattle.values_again.proofs.Same.{same}
use Rattle.values_again.proofs.Followed.{again_followed}
use Rattle.kept_values.specs.Given as given
use Rattle.kept_values.specs.Kept.{IsKept, KeepsValue, Stays, Keeps, InThen, InIf, InLoop, InRepeat}
use Rattle.kept_values.proofs.Unread.{given_compiled}

-- the function that gives the variable the value, and does not read it yet
between : {v : ℕ} {s s' : Stmt} → IsKept v s s' → (t : Stmt) × given.IsGiven v s t × IsAgain v None t s'
between {v} (Stays {s = s}) = (s, given.Same, same v None s)
between {v} (Keeps {p = p} {q = q} {e = e} {s = s} total free under again) = (Then' p (Assign v e) q s, given.Gives total given.Same, Sets free under again)
between (InThen {p = p} {q = q} one two) =
    let a = between one in
    let b = between two in
    (Then' p a.0 q b.0, given.Thens a.1 b.1, Thens a.2 b.2)
between (InIf {c = c} {p = p} {q = q} one two) =
    let a = between one in
    let b = between two in
    (If' c p a.0 q b.0, given.Ifs a.1 b.1, Ifs (λ slot width vars h. refl) a.2 b.2)
between (InLoop {c = c} {p = p} {q = q} one two) =
    let a = between one in
    let b = between two in
    (Loop' c p a.0 q b.0, given.Loops a.1 b.1, Loops (λ slot width vars h. refl) a.2 b.2)
between (InRepeat {c = c} {p = p} {q = q} one two) =
    let a = between one in
    let b = between two in
    (Repeat' c p a.0 q b.0, given.Repeats a.1 b.1, Repeats (λ slot width vars h. refl) a.2 b.2)

pub kept_value_compiled : (f f' : Function) (instrs : List Instr) → IsFunction f → KeepsValue f f' → IsCompiled f' instrs → IsCompiled f instrs
kept_value_compiled f f' instrs good keeps compiled =
    let found = between keeps.body in
    let g : Function = record { variables = f'.variables; body = found.0 } in
    let reads : ReadsAgain f.variables g f' = record { low = omega (arith, keeps.variables); variables = refl; body = found.2 } in
    given_compiled f g instrs good (omega (arith, keeps.variables)) found.1 (again_followed f.variables g f' instrs (omega (arith, keeps.variables, good.parameters)) reads compiled)
