-- The end of a private run: it has as many registers as at its start, and is at the instruction that stops it. What an instruction of a valid program names.
use Rattle.std.proofs.Common.{◌≡◌, ℕ, zero, suc, ◌+◌, ◌<◌, List, [], length, get_or, inl, inr, arith, unwrap_or, Option, Some, None, refl, sym, ap, ◌∙◌, length-set, ℤ, pos}
use Rattle.std.specs.Prelude.{int_lt, int_le, int_rem, if◌then◌else◌, is_some, slice_index_or, IfSome}
use Rattle.std.specs.Int.{int_wrapping_add, int_wrapping_sub, int_wrapping_mul, int_wrapping_div, int_bit_and, int_bit_or, int_bit_xor, int_shl, int_shr, w64}
use Rattle.std.specs.Ordering.{int_eq}
use Rattle.std.proofs.lemmas.Bool.{cond_both, cases_lt}
use Rattle.std.proofs.lemmas.Option.{slice_get-get_or, slice_get_within}
use Rattle.job_language.proofs.Groups.{group_of, group-in_range}
use Rattle.job_language.specs.Program.{IsValidProgram, IsInRange}
use Rattle.job_language.specs.declared.instructions.TheConstants.{GROUPS}
use Rattle.job_step.proofs.RunSteps.{instr_at-past_procs}
use Rattle.job_language.specs.declared.instructions.Instr.{Instr}
use Rattle.job_language.specs.declared.instructions.Instr.TheVariants.{Set, Add, Sub, Mul, Div, Lt, Rem, And, Or, Xor, Shl, Shr, Eq, Le, Jz, Jmp, Slot, Width, Spawn, Post, Wait, Cancel, Ask, Isolate}
use Rattle.job_language.specs.declared.instructions.Instr.TheVariants.{Load, Store, Sum, Count, Ret}
use Rattle.job_step.specs.declared.effects.Effect.{Effect}
use Rattle.job_step.specs.declared.effects.Effect.TheVariants.{Moves, DividesByZero, IsShared}
use Rattle.job_step.specs.declared.frames.Frame.{Frame}
use Rattle.job_step.specs.declared.runs.Run.{Run}
use Rattle.job_step.specs.declared.runs.Stop.{Stop}
use Rattle.job_step.specs.declared.runs.Stop.TheVariants.{Shared}
use Rattle.job_step.specs.Frame.{instr_at, write_and_step, register, is_zero, shift_count, effect}
use Rattle.job_step.specs.Run.{effect_at, stop_at, run_on, run_for, run_of}

-- the frames have as many registers
abbrev pub SameRegisters : Frame → Frame → Type 0
SameRegisters f g = length g.registers ≡ length f.registers

abbrev MovesSo : Frame → Effect → Type 0
MovesSo f (Moves g) = SameRegisters f g
MovesSo f DividesByZero = Unit {0}
MovesSo f IsShared = Unit {0}

pub written_same : (f : Frame) (d : ℕ) (v : ℤ) → SameRegisters f (write_and_step f d v)
written_same f d v = length-set f.registers d v

moves_so : (i : Instr) (slot width : ℕ) (f : Frame) → MovesSo f (effect i slot width f)
moves_so (Set d n) slot width f = written_same f d n
moves_so (Add d a b) slot width f = written_same f d (int_wrapping_add w64 (register f a) (register f b))
moves_so (Sub d a b) slot width f = written_same f d (int_wrapping_sub w64 (register f a) (register f b))
moves_so (Mul d a b) slot width f = written_same f d (int_wrapping_mul w64 (register f a) (register f b))
moves_so (Div d a b) slot width f = cond_both (is_zero (register f b)) _ _ (MovesSo f) (λ _. tt) (λ _. written_same f d (int_wrapping_div w64 (register f a) (register f b)))
moves_so (Lt d a b) slot width f = written_same f d (if int_lt (register f a) (register f b) then pos 1 else pos 0)
moves_so (Rem d a b) slot width f = cond_both (is_zero (register f b)) _ _ (MovesSo f) (λ _. tt) (λ _. written_same f d (int_rem (register f a) (register f b)))
moves_so (And d a b) slot width f = written_same f d (int_bit_and w64 (register f a) (register f b))
moves_so (Or d a b) slot width f = written_same f d (int_bit_or w64 (register f a) (register f b))
moves_so (Xor d a b) slot width f = written_same f d (int_bit_xor w64 (register f a) (register f b))
moves_so (Shl d a b) slot width f = written_same f d (int_shl w64 (register f a) (shift_count (register f b)))
moves_so (Shr d a b) slot width f = written_same f d (int_shr (register f a) (shift_count (register f b)))
moves_so (Eq d a b) slot width f = written_same f d (if int_eq (register f a) (register f b) then pos 1 else pos 0)
moves_so (Le d a b) slot width f = written_same f d (if int_le (register f a) (register f b) then pos 1 else pos 0)
moves_so (Jz a t) slot width f = refl
moves_so (Jmp t) slot width f = refl
moves_so (Slot d) slot width f = written_same f d (pos slot)
moves_so (Width d) slot width f = written_same f d (pos width)
moves_so (Spawn g p a b) slot width f = tt
moves_so (Post p a b) slot width f = tt
moves_so (Wait d e g) slot width f = tt
moves_so (Cancel g) slot width f = tt
moves_so (Ask d) slot width f = tt
moves_so (Isolate d p a b) slot width f = tt
moves_so (Load d k) slot width f = tt
moves_so (Store k a) slot width f = tt
moves_so (Sum d k) slot width f = tt
moves_so (Count d k) slot width f = tt
moves_so (Ret a) slot width f = tt

moves_at : (o : Option Instr) (slot width : ℕ) (f : Frame) → MovesSo f (effect_at o slot width f)
moves_at (Some i) slot width f = moves_so i slot width f
moves_at None slot width f = tt

-- a run of a frame ends so
pub record EndsAt (procs : List (List Instr)) (f : Frame) (r : Run) : Type 0 where
  pub registers : SameRegisters f r.end
  pub stop : (i : Instr) → r.stop ≡ Shared i → instr_at procs r.end ≡ Some i

abbrev is_shared : Stop → Option Instr
is_shared (Shared i) = Some i
is_shared s = None

stops_at : (o : Option Instr) (i : Instr) → stop_at o ≡ Shared i → o ≡ Some i
stops_at (Some j) i same = ap is_shared same
stops_at None i same = let no : None ≡ Some i = ap is_shared same in absurd (cc)

turn_ends : (procs : List (List Instr)) (start f : Frame) (c : ℕ) (e : Effect) (o : Option Instr) (next : Frame → Run) → o ≡ instr_at procs f → MovesSo f e → ((g : Frame) → EndsAt procs g (next g)) →
    EndsAt procs f (run_on start f c e o next)
turn_ends procs start f c (Moves g) o next here same ends = record { registers = (ends g).registers ∙ same; stop = (ends g).stop }
turn_ends procs start f c DividesByZero o next here same ends = record { registers = refl; stop = λ i stop. let no : None ≡ Some i = ap is_shared stop in absurd (cc) }
turn_ends procs start f c IsShared o next here same ends = record { registers = refl; stop = λ i stop. sym here ∙ stops_at o i stop }

ends_for : (left : ℕ) (procs : List (List Instr)) (slot width : ℕ) (start : Frame) (c : ℕ) (f : Frame) → EndsAt procs f (run_for left procs slot width start c f)
unfolding run_for
ends_for zero procs slot width start c f = record { registers = refl; stop = λ i stop. let no : None ≡ Some i = ap is_shared stop in absurd (cc) }
ends_for (suc left) procs slot width start c f =
    turn_ends procs start f c (effect_at (instr_at procs f) slot width f) (instr_at procs f) (run_for left procs slot width start (c + 1)) refl (moves_at (instr_at procs f) slot width f)
    (λ g. ends_for left procs slot width start (c + 1) g)

-- the run of a frame
pub run_ends_at : (procs : List (List Instr)) (slot width : ℕ) (f : Frame) → EndsAt procs f (run_of procs slot width f)
run_ends_at procs slot width f = ends_for 1000 procs slot width f 0 f

-- Each group that an instruction names is there.
abbrev pub NamesGroups : List (List Instr) → Type 0
NamesGroups procs = (f : Frame) (i : Instr) → instr_at procs f ≡ Some i → IfSome (group_of i) (λ g. g < GROUPS)

pub names_groups : (procs : List (List Instr)) → IsValidProgram procs → NamesGroups procs
names_groups procs valid f i at = elim (cases_lt f.procedure (length procs)) [
  | inl there ↦
      let proc = slice_index_or procs f.procedure [] in
      let within : f.place < length proc = slice_get_within proc f.place i at in
      let found : get_or proc f.place i ≡ i = ap (λ o. unwrap_or o i) (sym (slice_get-get_or proc f.place i within) ∙ at) in
      let its : IsInRange (length proc) (get_or proc f.place i) = (valid.each f.procedure [] there).each f.place i within in
      let own : IsInRange (length proc) i = rw found at its in
      group-in_range (length proc) i own
  | inr past ↦ absurd (grind (arith, ap is_some (sym (instr_at-past_procs procs f past) ∙ at)))
]
