-- The procedures of the functions of a program.
use Rattle.std.proofs.Common.{◌≡◌, ℕ, zero, suc, List, [], ◌∷◌, length, All, Some, refl, sym, ap, subst, ◌∙◌, arith}
use Rattle.std.specs.Prelude.{MatchOption, IsSomeAnd, slice_get, slice_index_or}
use Rattle.std.specs.List.{AllZip}
use Rattle.std.proofs.lemmas.Slice.Zip.{AllZip-long}
use Rattle.job_language.specs.declared.instructions.Instr.{Instr}
use Rattle.job_language.specs.Program.{Calls, IsValidProc}
use Rattle.source_language.specs.declared.syntax.Function.{Function}
use Rattle.job_compiler.specs.Code.{function_code}
use Rattle.job_compiler.specs.Compiled.{IsCompiled}
use Rattle.job_compiler.specs.Refusals.{HasCode}
use Rattle.job_compiler.specs.Programs.{HasCount, IsCompiledProgram}
use Rattle.register_choice.specs.declared.programs.ChoiceProgramError.{ChoiceProgramError}
use Rattle.register_choice.specs.declared.programs.ChoiceProgramError.TheVariants.{NoMemory, Count, Refused, NoProcedure}
use Rattle.register_choice.specs.Programs.{IsNoProgram, IsWrong}
use Rattle.register_choice.specs.Refusals.{IsWithoutChoice}

pub wrong_one : (fs : List Function) (k : ℕ) (f : Function) (e : ChoiceProgramError) → slice_get fs k ≡ Some f → IsWrong (length fs) f k e → IsNoProgram fs e
wrong_one fs k f NoMemory is h = tt
wrong_one fs k f Count is h = absurd h
wrong_one fs k f (Refused j r) is h = subst (λ o. IsSomeAnd o (λ g. IsWithoutChoice g r)) (sym (ap (slice_get fs) h.0 ∙ is)) h.1
wrong_one fs k f (NoProcedure j) is h = subst (λ o. IsSomeAnd o (λ g. HasCode g × (All (Calls (length fs)) (function_code g) → ⊥))) (sym (ap (slice_get fs) h.0 ∙ is)) (h.1, h.2)

each_of : (fs : List Function) (ps : List (List Instr)) → AllZip IsCompiled fs ps → (p : ℕ) → MatchOption (slice_get fs p) (slice_index_or ps p [] ≡ []) (λ f. IsCompiled f (slice_index_or ps p []))
each_of [] [] h p = refl
each_of [] (y ∷ ys) h p = absurd h
each_of (x ∷ xs) [] h p = absurd h
each_of (x ∷ xs) (y ∷ ys) h zero = h.0
each_of (x ∷ xs) (y ∷ ys) h (suc p) = each_of xs ys h.1 p

pub whole_program : (fs : List Function) (ps : List (List Instr)) → HasCount fs → AllZip IsCompiled fs ps → All IsValidProc ps → All (All (Calls (length fs))) ps → IsCompiledProgram fs ps
whole_program fs ps count zip valid calls =
    let len : length ps ≡ length fs = AllZip-long IsCompiled fs ps zip in
    record {
      each = each_of fs ps zip;
      valid = record { some = omega (arith, len, count.0); most = omega (arith, len, count.1); each = valid; calls = subst (λ n. All (All (Calls n)) ps) (sym len) calls };
    }
