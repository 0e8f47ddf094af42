-- A job's JSON reads back from its canonical text.
use Rattle.std.proofs.Common.{◌≡◌, ℕ, suc, ◌<◌, ◌≤◌, ◌^◌, ℤ, pos, negsuc, List, [], ◌∷◌, ◌++◌, map, length, get_or, Some, option_map, option_and_then, refl, sym, ap, ◌∙◌, arith, append-nil}
use Rattle.std.specs.Prelude.{All, FitsSigned}
use Rattle.std.specs.Int.{w64}
use Rattle.std.proofs.lemmas.Int.{ints}
use Rattle.std.specs.List.{AllByRecursion}
use Rattle.std.proofs.lemmas.List.Elements.{recursion_from_All}
use Rattle.json.specs.Json as json
use Rattle.json.specs.Lex.{tokens}
use Rattle.json.specs.Tree as tree
use Rattle.json.proofs.Printed.Decimals.{IsNumber-decimal, IsNumber-signed_decimal}
use Rattle.json.proofs.Printed.Tokens.{tokens-print}
use Rattle.json.proofs.Printed.Trees.{value-json_tokens, ArePrintable-json_tokens}
use Rattle.serde_json.specs.Data.{Data, number, unsigned, string, array}
use Rattle.serde_json.specs.Read.{of_json, of_items, max_depth, read}
use Rattle.serde_json.specs.View.{items_of}
use Rattle.serde_json.specs.Written.{outline, items_outline, compact_text}
use Rattle.serde_json.proofs.Numbers.{number_of-decimal, number_of-negative}
use Rattle.serde_json.proofs.Texts.{print-outline}
use Rattle.job_language.specs.declared.instructions.Instr.{Instr}
use Rattle.job_language.specs.declared.instructions.Instr.TheVariants.{Set, Add, Sub, Mul, Div, Lt, Rem, And, Or, Xor, Shl, Shr, Eq, Le, Jz, Jmp, Slot, Width, Spawn, Post, Wait, Cancel, Ask, Isolate}
use Rattle.job_language.specs.declared.instructions.Instr.TheVariants.{Load, Store, Sum, Count, Ret}
use Rattle.job_language.specs.declared.jobs.Job.{Job}
use Rattle.job_language.specs.Program.{IsInRange, Calls, IsValidProc, IsValidProgram}
use Rattle.job_json.specs.Canonical.{IsCanonical}
use Rattle.job_json.specs.Instruction.{one, two}
use Rattle.job_json.specs.Job.{args_of}
use Rattle.job_json.proofs.RoundTripInstr.{integer-number_data}
use Rattle.job_json.specs.JobData.{operands_of, operation_of, number_data, array_of, instr_data, proc_data, program_data, job_object, job_data}
use Rattle.job_json.specs.Operation.{name_of}

-- what is canonical, and not too deep, reads back
pub read_canonical : (deep : ℕ) (d : Data) → IsCanonical deep d → deep ≤ max_depth → read (compact_text d) ≡ Some d
read_canonical deep d c shallow =
    let j = outline d in
    let text : tokens (compact_text d) ≡ tree.json_tokens j ++ [] =
    ap tokens (sym (print-outline d)) ∙ tokens-print (tree.json_tokens j) (ArePrintable-json_tokens j c.numbers) ∙ sym (append-nil _) in
    ap (λ o. option_and_then of_json (option_and_then (λ p. json.if_last p.0 p.1) o)) (ap (json.value max_depth) text ∙ value-json_tokens j max_depth [] (omega (arith, c.depth))) ∙ c.reads

canonical_unsigned : (n : ℕ) → n < 2 ^ 64 → IsCanonical 0 (number (unsigned n))
canonical_unsigned n fits = record {
  reads = ap (option_map number) (number_of-decimal n fits);
  numbers = IsNumber-decimal n fits;
  depth = omega arith;
}

canonical_number : (z : ℤ) → FitsSigned w64 z → IsCanonical 0 (number_data z)
canonical_number (pos n) fits = canonical_unsigned n (omega (arith, ints))
canonical_number (negsuc n) fits =
    let low : n < 2 ^ 63 = omega (arith, ints) in
    record {
      reads = ap (option_map number) (number_of-negative n low);
      numbers = IsNumber-signed_decimal (negsuc n) (omega (arith, ints));
      depth = omega arith;
    }

pub canonical_string : (s : List ℕ) → IsCanonical 0 (string s)
canonical_string s = record { reads = refl; numbers = tt; depth = omega arith }

deeper : (m n : ℕ) (d : Data) → m ≤ n → IsCanonical m d → IsCanonical n d
deeper m n d more c = record { reads = c.reads; numbers = c.numbers; depth = omega (arith, c.depth) }

-- ---- arrays

items_read : (deep : ℕ) (ds : List Data) → AllByRecursion (IsCanonical deep) ds → of_items (items_outline (items_of ds)) ≡ Some (items_of ds)
items_read deep [] h = refl
items_read deep (d ∷ ds) h = rw (h.0.reads, items_read deep ds h.1) refl

items_numbers : (deep : ℕ) (ds : List Data) → AllByRecursion (IsCanonical deep) ds → tree.ItemsHaveNumbers (items_outline (items_of ds))
items_numbers deep [] h = tt
items_numbers deep (d ∷ ds) h = (h.0.numbers, items_numbers deep ds h.1)

items_depth : (deep : ℕ) (ds : List Data) → AllByRecursion (IsCanonical deep) ds → tree.items_depth (items_outline (items_of ds)) ≤ deep
items_depth deep [] h = omega arith
items_depth deep (d ∷ ds) h = omega (arith, h.0.depth, items_depth deep ds h.1)

canonical_array : (deep : ℕ) (ds : List Data) → AllByRecursion (IsCanonical deep) ds → IsCanonical (suc deep) (array_of ds)
canonical_array deep ds h = record {
  reads = ap (option_map array) (items_read deep ds h);
  numbers = items_numbers deep ds h;
  depth = omega (arith, items_depth deep ds h);
}

each_mapped : {A : Type 0} (P : A → Type 0) (deep : ℕ) (data_of : A → Data) → ((x : A) → P x → IsCanonical deep (data_of x)) → (xs : List A) → AllByRecursion P xs →
    AllByRecursion (IsCanonical deep) (map data_of xs)
each_mapped P deep data_of f [] h = tt
each_mapped P deep data_of f (x ∷ xs) h = (f x h.0, each_mapped P deep data_of f xs h.1)

-- ---- instructions, procedures and programs

small : (n : ℕ) → n < 2 ^ 63 → FitsSigned w64 (pos n)
small n h = omega (arith, ints)

operands_fit : (procs instrs : ℕ) (i : Instr) → procs ≤ 256 → instrs ≤ 256 → IsInRange instrs i → Calls procs i → AllByRecursion (FitsSigned w64) (operands_of i)
operands_fit procs instrs (Set d n) most_procs most_instrs h calls = (small d (omega arith), (h.1, tt))
operands_fit procs instrs (Add d a b) most_procs most_instrs h calls = (small d (omega arith), (small a (omega arith), (small b (omega arith), tt)))
operands_fit procs instrs (Sub d a b) most_procs most_instrs h calls = (small d (omega arith), (small a (omega arith), (small b (omega arith), tt)))
operands_fit procs instrs (Mul d a b) most_procs most_instrs h calls = (small d (omega arith), (small a (omega arith), (small b (omega arith), tt)))
operands_fit procs instrs (Div d a b) most_procs most_instrs h calls = (small d (omega arith), (small a (omega arith), (small b (omega arith), tt)))
operands_fit procs instrs (Lt d a b) most_procs most_instrs h calls = (small d (omega arith), (small a (omega arith), (small b (omega arith), tt)))
operands_fit procs instrs (Rem d a b) most_procs most_instrs h calls = (small d (omega arith), (small a (omega arith), (small b (omega arith), tt)))
operands_fit procs instrs (And d a b) most_procs most_instrs h calls = (small d (omega arith), (small a (omega arith), (small b (omega arith), tt)))
operands_fit procs instrs (Or d a b) most_procs most_instrs h calls = (small d (omega arith), (small a (omega arith), (small b (omega arith), tt)))
operands_fit procs instrs (Xor d a b) most_procs most_instrs h calls = (small d (omega arith), (small a (omega arith), (small b (omega arith), tt)))
operands_fit procs instrs (Shl d a b) most_procs most_instrs h calls = (small d (omega arith), (small a (omega arith), (small b (omega arith), tt)))
operands_fit procs instrs (Shr d a b) most_procs most_instrs h calls = (small d (omega arith), (small a (omega arith), (small b (omega arith), tt)))
operands_fit procs instrs (Eq d a b) most_procs most_instrs h calls = (small d (omega arith), (small a (omega arith), (small b (omega arith), tt)))
operands_fit procs instrs (Le d a b) most_procs most_instrs h calls = (small d (omega arith), (small a (omega arith), (small b (omega arith), tt)))
operands_fit procs instrs (Jz a t) most_procs most_instrs h calls = (small a (omega arith), (small t (omega arith), tt))
operands_fit procs instrs (Jmp t) most_procs most_instrs h calls = (small t (omega arith), tt)
operands_fit procs instrs (Slot d) most_procs most_instrs h calls = (small d (omega arith), tt)
operands_fit procs instrs (Width d) most_procs most_instrs h calls = (small d (omega arith), tt)
operands_fit procs instrs (Spawn g p a b) most_procs most_instrs h calls = (small g (omega arith), (small p (omega arith), (small a (omega arith), (small b (omega arith), tt))))
operands_fit procs instrs (Post p a b) most_procs most_instrs h calls = (small p (omega arith), (small a (omega arith), (small b (omega arith), tt)))
operands_fit procs instrs (Wait d e g) most_procs most_instrs h calls = (small d (omega arith), (small e (omega arith), (small g (omega arith), tt)))
operands_fit procs instrs (Cancel g) most_procs most_instrs h calls = (small g (omega arith), tt)
operands_fit procs instrs (Ask d) most_procs most_instrs h calls = (small d (omega arith), tt)
operands_fit procs instrs (Isolate d p a b) most_procs most_instrs h calls = (small d (omega arith), (small p (omega arith), (small a (omega arith), (small b (omega arith), tt))))
operands_fit procs instrs (Load d k) most_procs most_instrs h calls = (small d (omega arith), (small k (omega arith), tt))
operands_fit procs instrs (Store k a) most_procs most_instrs h calls = (small k (omega arith), (small a (omega arith), tt))
operands_fit procs instrs (Sum d k) most_procs most_instrs h calls = (small d (omega arith), (small k (omega arith), tt))
operands_fit procs instrs (Count d k) most_procs most_instrs h calls = (small d (omega arith), (small k (omega arith), tt))
operands_fit procs instrs (Ret a) most_procs most_instrs h calls = (small a (omega arith), tt)

canonical_instr : (procs instrs : ℕ) (i : Instr) → procs ≤ 256 → instrs ≤ 256 → IsInRange instrs i × Calls procs i → IsCanonical 1 (instr_data i)
canonical_instr procs instrs i p q h =
    canonical_array 0 (string (name_of (operation_of i)) ∷ map number_data (operands_of i))
    (canonical_string _, each_mapped (FitsSigned w64) 0 number_data canonical_number (operands_of i) (operands_fit procs instrs i p q h.0 h.1))

both_each : {A : Type 0} (P Q : A → Type 0) (xs : List A) → AllByRecursion P xs → AllByRecursion Q xs → AllByRecursion (λ x. P x × Q x) xs
both_each P Q [] h k = tt
both_each P Q (x ∷ xs) h k = ((h.0, k.0), both_each P Q xs h.1 k.1)

canonical_proc : (procs : ℕ) (is : List Instr) → procs ≤ 256 → IsValidProc is × All (Calls procs) is → IsCanonical 2 (proc_data is)
canonical_proc procs is p h =
    let within : AllByRecursion (λ i. IsInRange (length is) i × Calls procs i) is =
    both_each (IsInRange (length is)) (Calls procs) is (recursion_from_All _ is h.0.each) (recursion_from_All _ is h.1) in
    canonical_array 1 (map instr_data is) (each_mapped (λ i. IsInRange (length is) i × Calls procs i) 1 instr_data (λ i x. canonical_instr procs (length is) i p h.0.most x) is within)

canonical_program : (ps : List (List Instr)) → IsValidProgram ps → IsCanonical 3 (program_data ps)
canonical_program ps v =
    let procs : length ps ≤ 256 = omega (arith, v.most) in
    let each : AllByRecursion (λ is. IsValidProc is × All (Calls (length ps)) is) ps =
    both_each IsValidProc (All (Calls (length ps))) ps (recursion_from_All _ ps v.each) (recursion_from_All _ ps v.calls) in
    canonical_array 2 (map proc_data ps) (each_mapped (λ is. IsValidProc is × All (Calls (length ps)) is) 2 proc_data (λ is x. canonical_proc (length ps) is procs x) ps each)

-- ---- jobs

canonical_object : (deep : ℕ) (args procs : Data) (fuel : ℕ) → fuel < 2 ^ 64 → IsCanonical deep args → IsCanonical deep procs → IsCanonical (suc deep) (job_object args fuel procs)
canonical_object deep args procs fuel fits a p =
    let f = canonical_unsigned fuel fits in
    record {
      reads = rw (a.reads, f.reads, p.reads) refl;
      numbers = (a.numbers, (f.numbers, (p.numbers, tt)));
      depth = omega (arith, a.depth, f.depth, p.depth);
    }

pub canonical_job : (j : Job) → AllByRecursion (FitsSigned w64) j.args → j.fuel < 2 ^ 64 → IsValidProgram j.program → IsCanonical 4 (job_data j)
canonical_job j args fuel program =
    let numbers = canonical_array 0 (map number_data j.args) (each_mapped (FitsSigned w64) 0 number_data canonical_number j.args args) in
    canonical_object 3 (array_of (map number_data j.args)) (program_data j.program) j.fuel fuel (deeper 1 3 _ (omega arith) numbers) (canonical_program j.program program)

-- two arguments of 64 bits are read as they are written
pub two_fit : (zs : List ℤ) → length zs ≡ 2 → FitsSigned w64 (get_or zs 0 (pos 0)) → FitsSigned w64 (get_or zs 1 (pos 0)) →
    (args_of (array_of (map number_data zs)) ≡ Some zs) × AllByRecursion (FitsSigned w64) zs
unfolding one two
two_fit [] len x y = absurd (omega arith)
two_fit (a ∷ []) len x y = absurd (omega arith)
two_fit (a ∷ b ∷ []) len x y = (rw (integer-number_data a x, integer-number_data b y) refl, (x, (y, tt)))
two_fit (a ∷ b ∷ c ∷ zs) len x y = absurd (omega arith)
