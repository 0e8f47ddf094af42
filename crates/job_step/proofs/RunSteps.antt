-- A private run, an instruction at a time.
use Rattle.std.proofs.Common.{◌≡◌, ℕ, zero, suc, ◌+◌, ◌-◌, ◌<◌, ◌≤◌, List, [], length, get_or, Option, Some, None, false, refl, sym, ap, subst, inl, inr, ◌∙◌, arith}
use Rattle.std.specs.Prelude.{slice_index_or, slice_get}
use Rattle.std.proofs.lemmas.List.{get_or_past}
use Rattle.std.proofs.lemmas.Option.{slice_get-get_or, slice_get_past}
use Rattle.std.proofs.lemmas.Bool.{both_ways, cases_lt}
use Rattle.job_language.specs.Program.{IsValidProc, IsInRange, is_last}
use Rattle.job_language.specs.declared.instructions.Instr.{Instr}
use Rattle.job_step.specs.declared.frames.Frame.{Frame}
use Rattle.job_step.specs.declared.runs.Run.{Run}
use Rattle.job_step.specs.declared.runs.Stop.TheVariants.{Shared, Yield, Fault}
use Rattle.job_step.specs.declared.effects.Effect.{Effect}
use Rattle.job_step.specs.declared.effects.Effect.TheVariants.{Moves, DividesByZero, IsShared}
use Rattle.job_step.specs.Frame.{instr_at, effect}
use Rattle.job_step.specs.Run.{effect_at, run_on, run_for, run_of}

-- one more turn is left
one_more : (n c : ℕ) → c < n → n - c ≡ suc (n - (c + 1))
one_more n c below = omega arith

-- the instruction that the code finds
pub instr_at-found : (procs : List (List Instr)) (is : List Instr) (f : Frame) (k : ℕ) (i : Instr) → slice_index_or procs f.procedure [] ≡ is → k ≡ f.place → k < length is → i ≡ get_or is k i →
    instr_at procs f ≡ Some i
instr_at-found procs is f k i here at within found = rw (here, ← at) (slice_get-get_or is k i within ∙ ap Some (sym found))

-- At a turn c of n, the next instruction is i.
module _ (n : ℕ) (procs : List (List Instr)) (slot width : ℕ) (start : Frame) (c : ℕ) (f : Frame) (i : Instr) (below : c < n) (next : instr_at procs f ≡ Some i) where
  pub run_for-moves : (g : Frame) → effect i slot width f ≡ Moves g → run_for (n - c) procs slot width start c f ≡ run_for (n - (c + 1)) procs slot width start (c + 1) g
  unfolding run_for
  run_for-moves g e = rw (one_more n c below, next, e) refl

  pub run_for-divides : effect i slot width f ≡ DividesByZero → run_for (n - c) procs slot width start c f ≡ record { start = start; end = f; count = c + 1; stop = Fault }
  unfolding run_for
  run_for-divides e = rw (one_more n c below, next, e) refl

  pub run_for-shared : effect i slot width f ≡ IsShared → run_for (n - c) procs slot width start c f ≡ record { start = start; end = f; count = c; stop = Shared i }
  unfolding run_for
  run_for-shared e = rw (one_more n c below, next, e) refl

-- after all turns
pub run_for-end : (n : ℕ) (procs : List (List Instr)) (slot width : ℕ) (start : Frame) (c : ℕ) (f : Frame) → n ≡ c →
    run_for (n - c) procs slot width start c f ≡ record { start = start; end = f; count = n; stop = Yield }
unfolding run_for
run_for-end n procs slot width start c f e =
    let none : n - c ≡ 0 = omega arith in
    rw (none, e) refl

-- a frame that names no instruction
pub run_of-nowhere : (procs : List (List Instr)) (slot width : ℕ) (f : Frame) → instr_at procs f ≡ None → run_of procs slot width f ≡ record { start = f; end = f; count = 0; stop = Yield }
unfolding run_for
run_of-nowhere procs slot width f none = rw none refl

pub instr_at-past_procs : (procs : List (List Instr)) (f : Frame) → length procs ≤ f.procedure → instr_at procs f ≡ None
instr_at-past_procs procs f past = rw (get_or_past procs f.procedure [] past) refl

pub instr_at-past_instrs : (procs : List (List Instr)) (f : Frame) → length (slice_index_or procs f.procedure []) ≤ f.place → instr_at procs f ≡ None
instr_at-past_instrs procs f past = slice_get_past _ _ past

-- an instruction of a valid procedure is in range
pub IsInRange-found : (is : List Instr) (k : ℕ) (i : Instr) → IsValidProc is → k < length is → i ≡ get_or is k i → IsInRange (length is) i
IsInRange-found is k i valid within found = subst (IsInRange (length is)) (sym found) (valid.each k i within)

-- one that may not be the last is not the last
pub follows : (is : List Instr) (k : ℕ) (i : Instr) → IsValidProc is → k < length is → i ≡ get_or is k i → is_last i ≡ false → k + 1 < length is
follows is k i valid within found goes_on =
    let here : slice_get is k ≡ Some i = slice_get-get_or is k i within ∙ ap Some (sym found) in
    elim (cases_lt (k + 1) (length is)) [
      | inl before ↦ before
      | inr after ↦
          let last : length is - 1 ≡ k = omega arith in
          absurd (both_ways (is_last i) goes_on (rw (last, here) at valid.ends))
    ]

-- the instruction that a run stops at
pub stop_instr : {i j : Instr} → Shared i ≡ Shared j → i ≡ j
stop_instr e = cc

run_on-start : (start f : Frame) (c : ℕ) (e : Effect) (i : Option Instr) (next : Frame → Run) → ((g : Frame) → (next g).start ≡ start) → (run_on start f c e i next).start ≡ start
run_on-start start f c (Moves g) i next each = each g
run_on-start start f c DividesByZero i next each = refl
run_on-start start f c IsShared i next each = refl

-- a run keeps the frame that it started from
pub run_for-start : (left : ℕ) (procs : List (List Instr)) (slot width : ℕ) (start : Frame) (c : ℕ) (f : Frame) → (run_for left procs slot width start c f).start ≡ start
unfolding run_for
run_for-start zero procs slot width start c f = refl
run_for-start (suc left) procs slot width start c f =
    run_on-start start f c (effect_at (instr_at procs f) slot width f) (instr_at procs f) (run_for left procs slot width start (c + 1)) (run_for-start left procs slot width start (c + 1))
