-- A new frame stands where its function begins.
use Rattle.std.proofs.Common.{◌≡◌, ℕ, zero, suc, ◌+◌, ◌-◌, ◌<◌, ◌≤◌, ◌^◌, ℤ, pos, Bool, List, [], ◌∷◌, ◌++◌, length, get_or, replicate, Some, refl, sym, ap, subst, ◌∙◌, ⊎_elim, arith, append_assoc}
use Rattle.std.proofs.Common.{length-append, FitsSigned}
use Rattle.std.specs.Prelude.{slice_get, slice_index_or}
use Rattle.std.specs.Int.{w64}
use Rattle.std.proofs.lemmas.List.{get_or_at, length-replicate, get_or-replicate}
use Rattle.std.proofs.lemmas.Option.{slice_get-get_or, slice_get_within, get_or_from_slice_get}
use Rattle.job_language.specs.Program.{IsInRange, IsValidProc}
use Rattle.job_language.specs.declared.instructions.Instr.{Instr}
use Rattle.job_language.specs.declared.instructions.Instr.TheVariants as ins
use Rattle.job_step.specs.Frame.{new_frame}
use Rattle.source_language.specs.declared.syntax.Function.{Function}
use Rattle.source_language.specs.Meaning.{start}
use Rattle.job_compiler.specs.Code.{stmt_size, stmt_code, function_code}
use Rattle.job_compiler.specs.Compiled.{IsFunction, IsCompiled}
use Rattle.job_compiler.specs.Traces.{DoesTheSame, frame_events}
use Rattle.job_compiler.specs.Colours.{WritesBelow, writes, IsColoured, Same, BeginsWith}
use Rattle.job_step.specs.InsideRun.{frame_of}
use Rattle.std.specs.List.{AllByRecursion}
use Rattle.job_compiler.proofs.Colours.{alike}
use Rattle.job_compiler.proofs.Numbers.{small_fits}
use Rattle.job_compiler.proofs.Steps.{HasAt, has_front, has_back, stays}
use Rattle.job_compiler.proofs.Stands.{stmt_length, Reaches, Stands}
use Rattle.job_compiler.proofs.Follows.{follows}
use Rattle.job_compiler.proofs.Events.{does_the_same}

all_nought : (m j : ℕ) → get_or (replicate m (pos 0)) j (pos 0) ≡ pos 0
all_nought zero j = refl
all_nought (suc m) zero = refl
all_nought (suc m) (suc j) = all_nought m j

abbrev with_two : (m : ℕ) (x y : ℤ) → List ℤ
with_two m x y = x ∷ y ∷ replicate m (pos 0)

two_same : (m l : ℕ) (x y : ℤ) (k : ℕ) → get_or (with_two m x y) k (pos 0) ≡ get_or (with_two l x y) k (pos 0)
two_same m l x y zero = refl
two_same m l x y (suc zero) = refl
two_same m l x y (suc (suc k)) = all_nought m k ∙ sym (all_nought l k)

beyond : (m : ℕ) (x y : ℤ) (k : ℕ) → 2 ≤ k → get_or (with_two m x y) k (pos 0) ≡ pos 0
beyond m x y zero high = absurd (omega (arith, high))
beyond m x y (suc zero) high = absurd (omega (arith, high))
beyond m x y (suc (suc k)) high = all_nought m k

two_fit : (m : ℕ) (x y : ℤ) → FitsSigned w64 x → FitsSigned w64 y → (k : ℕ) → FitsSigned w64 (get_or (with_two m x y) k (pos 0))
two_fit m x y fx fy zero = fx
two_fit m x y fx fy (suc zero) = fy
two_fit m x y fx fy (suc (suc k)) = subst (FitsSigned w64) (sym (all_nought m k)) (small_fits 0 (omega arith))

has_all : (procs : List (List Instr)) (slot width p size : ℕ) (is pre : List Instr) → slice_index_or procs p [] ≡ pre ++ is → HasAt procs slot width p size (length pre) is
has_all procs slot width p size [] pre e = tt
has_all procs slot width p size (i ∷ is) pre e =
    let within : length pre < length (pre ++ i ∷ is) = omega (arith, length-append pre (i ∷ is)) in
    let here : slice_get (slice_index_or procs p []) (length pre) ≡ Some i = ap (λ l. slice_get l (length pre)) e ∙ slice_get-get_or (pre ++ i ∷ is) (length pre) i within
    ∙ ap Some (get_or_at pre i is i (length pre) refl) in
    let n : length (pre ++ i ∷ []) ≡ length pre + 1 = omega (arith, length-append pre (i ∷ [])) in
    let rest = has_all procs slot width p size is (pre ++ i ∷ []) (e ∙ sym (append_assoc pre (i ∷ []) is)) in
    (here, subst (λ m. HasAt procs slot width p size m is) n rest)

within_range : (len : ℕ) (i : Instr) → IsInRange len i → WritesBelow 8 i
within_range len (ins.Set d z) h = (h.0, tt)
within_range len (ins.Add d a b) h = (h.0, tt)
within_range len (ins.Sub d a b) h = (h.0, tt)
within_range len (ins.Mul d a b) h = (h.0, tt)
within_range len (ins.Div d a b) h = (h.0, tt)
within_range len (ins.Lt d a b) h = (h.0, tt)
within_range len (ins.Rem d a b) h = (h.0, tt)
within_range len (ins.And d a b) h = (h.0, tt)
within_range len (ins.Or d a b) h = (h.0, tt)
within_range len (ins.Xor d a b) h = (h.0, tt)
within_range len (ins.Shl d a b) h = (h.0, tt)
within_range len (ins.Shr d a b) h = (h.0, tt)
within_range len (ins.Eq d a b) h = (h.0, tt)
within_range len (ins.Le d a b) h = (h.0, tt)
within_range len (ins.Jz a t) h = tt
within_range len (ins.Jmp t) h = tt
within_range len (ins.Slot d) h = (h, tt)
within_range len (ins.Width d) h = (h, tt)
within_range len (ins.Spawn g p a b) h = tt
within_range len (ins.Post p a b) h = tt
within_range len (ins.Wait d e g) h = (h.0, (h.1, tt))
within_range len (ins.Cancel g) h = tt
within_range len (ins.Ask d) h = (h, tt)
within_range len (ins.Isolate d p a b) h = (h.0, tt)
within_range len (ins.Load d k) h = (h.0, tt)
within_range len (ins.Store k a) h = tt
within_range len (ins.Sum d k) h = (h.0, tt)
within_range len (ins.Count d k) h = (h.0, tt)
within_range len (ins.Ret a) h = tt

pub valid_each : (instrs : List Instr) → IsValidProc instrs → (k : ℕ) (i : Instr) → slice_get instrs k ≡ Some i → WritesBelow 8 i
valid_each instrs valid k i e = within_range (length instrs) i (subst (IsInRange (length instrs)) (get_or_from_slice_get instrs k i i e) (valid.each k i (slice_get_within instrs k i e)))

-- a frame with `size` registers at the beginning of a function's code
pub starts : (f : Function) → IsFunction f → (procs : List (List Instr)) (slot width p size : ℕ) (x y : ℤ) → slice_index_or procs p [] ≡ function_code f
    → ((k : ℕ) (i : Instr) → slice_get (slice_index_or procs p []) k ≡ Some i → WritesBelow size i) → 2 ≤ size → slot < 2 ^ 8 → width < 2 ^ 8 → FitsSigned w64 x → FitsSigned w64 y
    → DoesTheSame procs slot width (start f x y) (frame_of p 0 (with_two (size - 2) x y))
starts f good procs slot width p size x y is each big low_slot low_width fx fy =
    does_the_same procs slot width p size f.variables (stmt_size f.body f.variables)
    (λ g point s. follows procs slot width p size f.variables (stmt_size f.body f.variables) each low_slot low_width ends g point.vars point.todo s)
    (frame_of p 0 (with_two (size - 2) x y)) (start f x y) stands
  where
    all : HasAt procs slot width p size 0 (stmt_code f.body f.variables 0 [] (stmt_size f.body f.variables) ++ (ins.Set 0 (pos 0) ∷ ins.Ret 0 ∷ []))
    all = has_all procs slot width p size (function_code f) [] is

    ends : HasAt procs slot width p size (stmt_size f.body f.variables) (ins.Set 0 (pos 0) ∷ ins.Ret 0 ∷ [])
    ends =
        let c = stmt_code f.body f.variables 0 [] (stmt_size f.body f.variables) in
        let l : 0 + length c ≡ stmt_size f.body f.variables = omega (arith, stmt_length f.body f.variables 0 [] (stmt_size f.body f.variables)) in
        subst (λ k. HasAt procs slot width p size k (ins.Set 0 (pos 0) ∷ ins.Ret 0 ∷ [])) l (has_back procs slot width p size 0 c _ all)

    reach : Reaches procs slot width p size f.variables (stmt_size f.body f.variables) (0 + stmt_size f.body f.variables) (stmt_size f.body f.variables)
    reach = let l : stmt_size f.body f.variables ≡ 0 + stmt_size f.body f.variables = omega arith in subst
        (λ k. Reaches procs slot width p size f.variables (stmt_size f.body f.variables) k (stmt_size f.body f.variables)) l (λ regs. stays procs slot width p size _)

    stands : Stands procs slot width p size f.variables (stmt_size f.body f.variables) (frame_of p 0 (with_two (size - 2) x y)) (start f x y)
    stands = record {
      labels = [];
      q = 0;
      regs = with_two (size - 2) x y;
      comes = stays procs slot width p size (frame_of p 0 (with_two (size - 2) x y));
      is_at = (good.within, has_front procs slot width p size 0 (stmt_code f.body f.variables 0 [] (stmt_size f.body f.variables)) _ all, stmt_size f.body f.variables, reach, (refl, refl));
      agree = record { long = omega (arith, length-replicate (size - 2) (pos 0), big); same = λ k low. two_same (size - 2) (f.variables - 2) x y k; fit = two_fit (f.variables - 2) x y fx fy };
      long = omega (arith, length-replicate (f.variables - 2) (pos 0), good.parameters);
    }

pub is_compiled : (f : Function) → IsFunction f → IsValidProc (function_code f) → IsCompiled f (function_code f)
is_compiled f good valid procs p slot width x y is low_slot low_width fx fy =
    starts f good procs slot width p 8 x y is (valid_each (slice_index_or procs p []) (subst IsValidProc (sym is) valid)) (omega arith) low_slot low_width fx fy

-- the same with registers that were chosen
pub is_compiled_coloured : (f : Function) → IsFunction f → (instrs : List Instr) (size : ℕ) (c : ℕ → ℕ → ℕ) (live : ℕ → ℕ → Bool) → 2 ≤ size → IsColoured size (function_code f) instrs c live
    → BeginsWith c live → IsCompiled f instrs
is_compiled_coloured f good instrs size c live big coloured begins procs p slot width x y is low_slot low_width fx fy =
    record {
      forth = λ answers ok n t e. let m = virtual.forth answers ok n t e in (m.0, sym (same m.0 answers) ∙ m.1);
      back = λ answers ok m t e. virtual.back answers ok m t (same m answers ∙ e);
    }
  where
    vprocs : List (List Instr)
    vprocs = replicate (p + 1) (function_code f)

    found : slice_index_or vprocs p [] ≡ function_code f
    found = get_or-replicate (p + 1) p (function_code f) [] (omega arith)

    both : IsColoured size (slice_index_or vprocs p []) (slice_index_or procs p []) c live
    both = subst (λ v. IsColoured size v (slice_index_or procs p []) c live) (sym found) (subst (λ r. IsColoured size (function_code f) r c live) (sym is) coloured)

    below : (k : ℕ) (i : Instr) → slice_get (slice_index_or vprocs p []) k ≡ Some i → WritesBelow size i
    below k i e = firsts (writes i) (both.low k i e)
      where
        firsts : (ds : List ℕ) → AllByRecursion (λ d. (d < size) × (c (k + 1) d < 8)) ds → AllByRecursion (λ d. d < size) ds
        firsts [] h = tt
        firsts (d ∷ ds) h = (h.0.0, firsts ds h.1)

    virtual : DoesTheSame vprocs slot width (start f x y) (frame_of p 0 (with_two (size - 2) x y))
    virtual = starts f good vprocs slot width p size x y found below big low_slot low_width fx fy

    first : Same c live size 0 (with_two (size - 2) x y) (with_two 6 x y)
    first = record {
      all = omega (arith, length-replicate (size - 2) (pos 0), big);
      long = refl;
      same = λ u l. ⊎_elim (λ own. two_same (size - 2) 6 x y u ∙ ap (λ k. get_or (with_two 6 x y) k (pos 0)) (sym own.1))
          (λ other. beyond (size - 2) x y u other.0 ∙ sym (beyond 6 x y (c 0 u) other.1)) (begins u l);
    }

    same : (n : ℕ) (answers : List (ℤ × ℤ)) → frame_events vprocs slot width n (frame_of p 0 (with_two (size - 2) x y)) answers ≡ frame_events procs slot width n (new_frame p x y) answers
    same n answers = alike vprocs procs slot width p size c live both n 0 (with_two (size - 2) x y) (with_two 6 x y) answers first
