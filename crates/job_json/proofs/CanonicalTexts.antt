-- The canonical text of a job is the text, with no space, of its JSON.
use Rattle.std.proofs.Common.{◌≡◌, ℕ, ℤ, pos, negsuc, List, [], ◌∷◌, ◌++◌, map, codes, decimal, true, false, refl, sym, ap, ◌∙◌, append_assoc, append-nil, length, ◌==◌, ne_eqb, arith}
use Rattle.json.specs.Print.{quoted, escape_byte}
use Rattle.serde_json.specs.Data.{Data}
use Rattle.serde_json.specs.View.{items_of}
use Rattle.serde_json.specs.Written.{compact_text, items_text}
use Rattle.job_language.specs.declared.instructions.Instr.{Instr}
use Rattle.job_language.specs.declared.jobs.Job.{Job}
use Rattle.job_json.specs.declared.operations.Operation.{Operation}
use Rattle.job_json.specs.declared.operations.Operation.TheVariants.{Set, Add, Sub, Mul, Div, Lt, Rem, And, Or, Xor, Shl, Shr, Eq, Le, Jz, Jmp, Slot, Width, Spawn, Post, Wait, Cancel, Ask, Isolate}
use Rattle.job_json.specs.declared.operations.Operation.TheVariants.{Load, Store, Sum, Count, Ret}
use Rattle.job_json.specs.CanonicalText.{more_then, listed, number_then, instr_then, proc_then, program_then, job_then}
use Rattle.job_json.specs.JobData.{operation_of, operands_of, number_data, array_of, instr_data, proc_data, program_data, job_data}
use Rattle.job_json.specs.Operation.{name_of}

module _ {A : Type 0} (item_then : A → List ℕ → List ℕ) (data_of : A → Data) (same : (x : A) (rest : List ℕ) → item_then x rest ≡ compact_text (data_of x) ++ rest) where
  more_text : (xs : List A) (rest : List ℕ) → more_then item_then xs rest ≡ items_text true (items_of (map data_of xs)) ++ rest
  unfolding more_then
  more_text [] rest = refl
  more_text (x ∷ xs) rest =
      ap (λ (s : List ℕ). 44 ∷ s) (same x (more_then item_then xs rest) ∙ ap (λ (s : List ℕ). compact_text (data_of x) ++ s) (more_text xs rest) ∙
      sym (append_assoc (compact_text (data_of x)) (items_text true (items_of (map data_of xs))) rest))

  list_text : (xs : List A) (rest : List ℕ) → 91 ∷ listed item_then xs rest ≡ compact_text (array_of (map data_of xs)) ++ rest
  unfolding listed
  list_text [] rest = refl
  list_text (x ∷ xs) rest =
      ap (λ (s : List ℕ). 91 ∷ s) (same x (more_then item_then xs rest) ∙ ap (λ (s : List ℕ). compact_text (data_of x) ++ s) (more_text xs rest) ∙
      sym (append_assoc (compact_text (data_of x)) (items_text true (items_of (map data_of xs))) rest))

number_text : (z : ℤ) (rest : List ℕ) → number_then z rest ≡ compact_text (number_data z) ++ rest
number_text (pos n) rest = refl
number_text (negsuc n) rest = refl

quoted_name : (o : Operation) → quoted (name_of o) ≡ 34 ∷ (name_of o ++ 34 ∷ [])
unfolding escape_byte
quoted_name Set = refl
quoted_name Add = refl
quoted_name Sub = refl
quoted_name Mul = refl
quoted_name Div = refl
quoted_name Lt = refl
quoted_name Rem = refl
quoted_name And = refl
quoted_name Or = refl
quoted_name Xor = refl
quoted_name Shl = refl
quoted_name Shr = refl
quoted_name Eq = refl
quoted_name Le = refl
quoted_name Jz = refl
quoted_name Jmp = refl
quoted_name Slot = refl
quoted_name Width = refl
quoted_name Spawn = refl
quoted_name Post = refl
quoted_name Wait = refl
quoted_name Cancel = refl
quoted_name Ask = refl
quoted_name Isolate = refl
quoted_name Load = refl
quoted_name Store = refl
quoted_name Sum = refl
quoted_name Count = refl
quoted_name Ret = refl

around : (q name operands rest : List ℕ) → q ≡ 34 ∷ (name ++ 34 ∷ []) → 34 ∷ (name ++ 34 ∷ (operands ++ rest)) ≡ (q ++ operands) ++ rest
around q name operands rest e = rw e (simp append_assoc)

instr_text : (i : Instr) (rest : List ℕ) → instr_then i rest ≡ compact_text (instr_data i) ++ rest
instr_text i rest =
    let name = name_of (operation_of i) in
    let operands = items_text true (items_of (map number_data (operands_of i))) in
    ap (λ (s : List ℕ). 91 ∷ 34 ∷ (name ++ 34 ∷ s)) (more_text number_then number_data number_text (operands_of i) rest) ∙
    ap (λ (s : List ℕ). 91 ∷ s) (around (quoted name) name operands rest (quoted_name (operation_of i)))

proc_text : (is : List Instr) (rest : List ℕ) → proc_then is rest ≡ compact_text (proc_data is) ++ rest
proc_text is rest = list_text instr_then instr_data instr_text is rest

program_text : (ps : List (List Instr)) (rest : List ℕ) → program_then ps rest ≡ compact_text (program_data ps) ++ rest
program_text ps rest = list_text proc_then proc_data proc_text ps rest

members_text : (a f p rest : List ℕ) →
    codes "{\"args\":" ++ (a ++ (codes ",\"fuel\":" ++ (f ++ (codes ",\"procs\":" ++ (p ++ 125 ∷ rest))))) ≡
    (codes "{\"args\":" ++ (a ++ (codes ",\"fuel\":" ++ (f ++ (codes ",\"procs\":" ++ (p ++ 125 ∷ [])))))) ++ rest
members_text a f p rest = simp append_assoc

pub job_text : (j : Job) (rest : List ℕ) → job_then j rest ≡ compact_text (job_data j) ++ rest
unfolding escape_byte
job_text j rest =
    let args = compact_text (array_of (map number_data j.args)) in
    let procs = compact_text (program_data j.program) in
    ap (λ (s : List ℕ). codes "{\"args\":" ++ s) (list_text number_then number_data number_text j.args _)
    ∙ ap (λ (s : List ℕ). codes "{\"args\":" ++ (args ++ (codes ",\"fuel\":" ++ (decimal j.fuel ++ (codes ",\"procs\":" ++ s))))) (program_text j.program (125 ∷ rest))
    ∙ members_text args (decimal j.fuel) procs rest

-- the text of a job that nothing follows
pub all_read : (j : Job) (text rest : List ℕ) → text ≡ job_then j rest → true ≡ (length rest == 0) → text ≡ compact_text (job_data j)
all_read j text [] e none = e ∙ job_text j [] ∙ append-nil (compact_text (job_data j))
all_read j text (x ∷ rest) e none = let some : (length (x ∷ rest) == 0) ≡ false = ne_eqb (length (x ∷ rest)) 0 (λ z. omega arith) in absurd (cc)
