-- From the functions of a program to its procedures.
use Rattle.std.proofs.Common.{◌≡◌, ℕ, zero, suc, ◌+◌, ◌<◌, List, [], ◌∷◌, ◌++◌, length, get_or, map, take, Some, refl, sym, ap, subst, ◌∙◌, arith, All}
use Rattle.std.specs.Prelude.{MatchOption, IsSomeAnd, slice_get, slice_index_or}
use Rattle.std.proofs.lemmas.List.{length-map, map-append, take_more}
use Rattle.job_language.specs.declared.instructions.Instr.{Instr}
use Rattle.job_language.specs.Program.{Calls, IsValidProc, IsValidProgram}
use Rattle.source_language.specs.declared.syntax.Function.{Function}
use Rattle.job_compiler.specs.declared.errors.ProgramError.{ProgramError}
use Rattle.job_compiler.specs.declared.errors.ProgramError.TheVariants.{NoMemory, Count, Refused, NoProcedure}
use Rattle.job_compiler.specs.Code.{function_code}
use Rattle.job_compiler.specs.Compiled.{IsCompiled}
use Rattle.job_compiler.specs.Refusals.{Compiles, IsRefused}
use Rattle.job_compiler.specs.Programs.{IsCompiledProgram, HasCount, FitsProgram, MakeProgram, IsRefusedProgram, IsWrong}
use Rattle.job_compiler.proofs.Start.{is_compiled}

each_map : (P : List Instr → Type 0) (fs : List Function) → ((k : ℕ) (d : Function) → k < length fs → P (function_code (get_or fs k d))) → All P (map function_code fs)
each_map P [] h k d low = absurd (omega (arith, low))
each_map P (f ∷ fs) h zero d low = h 0 f (omega arith)
each_map P (f ∷ fs) h (suc k) d low = each_map P fs (λ j x l. h (suc j) x (omega (arith, l))) k d (omega (arith, low))

pub valid_program : (fs : List Function) → MakeProgram fs → IsValidProgram (map function_code fs)
valid_program fs make =
    let len : length (map function_code fs) ≡ length fs = length-map fs function_code in
    record {
      some = omega (arith, len, make.count.0);
      most = omega (arith, len, make.count.1);
      each = each_map IsValidProc fs (λ k d low. (make.each k d low).compiles.valid);
      calls = subst (λ n. All (All (Calls n)) (map function_code fs)) (sym len) (each_map (All (Calls (length fs))) fs (λ k d low. (make.each k d low).calls));
    }

each_compiled : (fs : List Function) → ((k : ℕ) (d : Function) → k < length fs → Compiles (get_or fs k d))
    → (p : ℕ) → MatchOption (slice_get fs p) (slice_index_or (map function_code fs) p [] ≡ []) (λ f. IsCompiled f (slice_index_or (map function_code fs) p []))
each_compiled [] h p = refl
each_compiled (f ∷ fs) h zero = let good : Compiles f = h 0 f (omega arith) in is_compiled f good.function good.valid
each_compiled (f ∷ fs) h (suc p) = each_compiled fs (λ k d low. h (suc k) d (omega (arith, low))) p

pub compiled_program : (fs : List Function) → MakeProgram fs → IsCompiledProgram fs (map function_code fs)
compiled_program fs make = record { each = each_compiled fs (λ k d low. (make.each k d low).compiles); valid = valid_program fs make }

-- the first function that does not fit
pub wrong_refused : (fs : List Function) (k : ℕ) (f : Function) (e : ProgramError) → HasCount fs → All (FitsProgram (length fs)) (take k fs) → slice_get fs k ≡ Some f → IsWrong (length fs) f k e →
    IsRefusedProgram fs e
wrong_refused fs k f NoMemory count fits is h = tt
wrong_refused fs k f Count count fits is h = absurd h
wrong_refused fs k f (Refused j r) count fits is h =
    (count, subst (λ n. All (FitsProgram (length fs)) (take n fs)) (sym h.0) fits, subst (λ o. IsSomeAnd o (λ g. IsRefused g r)) (sym (ap (slice_get fs) h.0 ∙ is)) h.1)
wrong_refused fs k f (NoProcedure j) count fits is h = (
  count,
  subst (λ n. All (FitsProgram (length fs)) (take n fs)) (sym h.0) fits,
  subst (λ o. IsSomeAnd o (λ g. Compiles g × (All (Calls (length fs)) (function_code g) → ⊥))) (sym (ap (slice_get fs) h.0 ∙ is)) (h.1, h.2),
)

-- one more procedure
pub code_more : (fs : List Function) (k : ℕ) (f : Function) (ps qs : List (List Instr)) (p : List Instr) → k < length fs → f ≡ get_or fs k f
    → ps ≡ map function_code (take k fs) → p ≡ function_code f → qs ≡ ps ++ p ∷ [] → qs ≡ map function_code (take (k + 1) fs)
code_more fs k f ps qs p low is eps ep eqs =
    let last : p ≡ function_code (get_or fs k f) = ep ∙ ap function_code is in
    eqs ∙ ap (λ x. x ++ p ∷ []) eps ∙ ap (λ x. map function_code (take k fs) ++ x ∷ []) last
    ∙ sym (map-append function_code (take k fs) (get_or fs k f ∷ [])) ∙ ap (map function_code) (sym (take_more fs k f low))
