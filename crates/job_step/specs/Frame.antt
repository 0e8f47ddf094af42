-- Frames, and what one instruction does to a frame by itself.
use Rattle.std.specs.Prelude.{ℕ, zero, suc, ◌+◌, ◌%◌, ℤ, pos, int_lt, int_le, int_rem, Bool, true, false, if◌then◌else◌, List, [], ◌∷◌, slice_get, slice_index_or, slice_set, replicate, Option}
use Rattle.std.specs.Int.{int_wrapping_add, int_wrapping_sub, int_wrapping_mul, int_wrapping_div, int_bit_and, int_bit_or, int_bit_xor, int_shl, int_shr, cast_unsigned, w64}
use Rattle.std.specs.Ordering.{int_eq}
use Rattle.job_language.specs.declared.instructions.Instr.{Instr}
use Rattle.job_language.specs.declared.instructions.Instr.TheVariants.{Set, Add, Sub, Mul, Div, Lt, Rem, And, Or, Xor, Shl, Shr, Eq, Le, Jz, Jmp, Slot, Width}
use Rattle.job_step.specs.declared.effects.Effect.{Effect}
use Rattle.job_step.specs.declared.effects.Effect.TheVariants.{Moves, DividesByZero, IsShared}
use Rattle.job_step.specs.declared.frames.Frame.{Frame}

abbrev pub new_frame : (procedure : ℕ) (first second : ℤ) → Frame
new_frame p x y = record { procedure = p; place = 0; registers = x ∷ y ∷ replicate 6 (pos 0) }

abbrev pub register : Frame → ℕ → ℤ
register f r = slice_index_or f.registers r (pos 0)

-- the instruction that comes next, of a program
abbrev pub instr_at : List (List Instr) → Frame → Option Instr
instr_at procs f = slice_get (slice_index_or procs f.procedure []) f.place

-- the frame at another place of its procedure
abbrev pub at_place : Frame → ℕ → Frame
at_place f t = record f { place = t }

-- the frame at the next place, with one register changed
abbrev pub write_and_step : Frame → ℕ → ℤ → Frame
write_and_step f d v = record f { place = f.place + 1; registers = slice_set f.registers d v }

abbrev pub is_zero : ℤ → Bool
is_zero (pos zero) = true
is_zero (pos (suc n)) = false
is_zero z = false

-- by how many bits a number shifts another: its lowest six bits, in two's complement
abbrev pub shift_count : ℤ → ℕ
shift_count z = cast_unsigned w64 z % 64

-- what an instruction does to a frame by itself, on a slot, in an arena of that width
abbrev pub effect : Instr → (slot width : ℕ) → Frame → Effect
effect (Set d n) slot width f = Moves (write_and_step f d n)
effect (Add d a b) slot width f = Moves (write_and_step f d (int_wrapping_add w64 (register f a) (register f b)))
effect (Sub d a b) slot width f = Moves (write_and_step f d (int_wrapping_sub w64 (register f a) (register f b)))
effect (Mul d a b) slot width f = Moves (write_and_step f d (int_wrapping_mul w64 (register f a) (register f b)))
effect (Div d a b) slot width f = if is_zero (register f b) then DividesByZero else Moves (write_and_step f d (int_wrapping_div w64 (register f a) (register f b)))
effect (Lt d a b) slot width f = Moves (write_and_step f d (if int_lt (register f a) (register f b) then pos 1 else pos 0))
effect (Rem d a b) slot width f = if is_zero (register f b) then DividesByZero else Moves (write_and_step f d (int_rem (register f a) (register f b)))
effect (And d a b) slot width f = Moves (write_and_step f d (int_bit_and w64 (register f a) (register f b)))
effect (Or d a b) slot width f = Moves (write_and_step f d (int_bit_or w64 (register f a) (register f b)))
effect (Xor d a b) slot width f = Moves (write_and_step f d (int_bit_xor w64 (register f a) (register f b)))
effect (Shl d a b) slot width f = Moves (write_and_step f d (int_shl w64 (register f a) (shift_count (register f b))))
effect (Shr d a b) slot width f = Moves (write_and_step f d (int_shr (register f a) (shift_count (register f b))))
effect (Eq d a b) slot width f = Moves (write_and_step f d (if int_eq (register f a) (register f b) then pos 1 else pos 0))
effect (Le d a b) slot width f = Moves (write_and_step f d (if int_le (register f a) (register f b) then pos 1 else pos 0))
effect (Jz a t) slot width f = Moves (at_place f (if is_zero (register f a) then t else f.place + 1))
effect (Jmp t) slot width f = Moves (at_place f t)
effect (Slot d) slot width f = Moves (write_and_step f d (pos slot))
effect (Width d) slot width f = Moves (write_and_step f d (pos width))
effect i slot width f = IsShared
