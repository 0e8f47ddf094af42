-- Worked examples of serial values.
use Rattle.std.specs.Prelude.{◌≡◌, ℕ, ℤ, pos, negsuc, [], ◌∷◌, Option, Some, None}
use Rattle.job_language.specs.declared.instructions.Instr.{Instr}
use Rattle.job_language.specs.declared.instructions.Instr.TheVariants.{Div, Rem, And, Or, Xor, Shl, Shr, Lt, Eq, Le, Jmp, Ret, Spawn, Wait, Isolate}
use Rattle.job_language.specs.declared.jobs.Job.{Job}
use Rattle.tenant_model.specs.Serial.{serial_value}
use Rattle.tenant_model.specs.Worked.{worked_job, fib, task_chain}

-- with its fuel as the number of instructions
abbrev pub serial_value_of : Job → Option ℤ
serial_value_of j = serial_value j.program j.args j.fuel

-- divides by 0
abbrev pub zero_divisor : Job
zero_divisor = worked_job ((Div 2 0 1 ∷ Ret 2 ∷ []) ∷ []) (pos 7) (pos 0) 1000

-- returns although nothing waited for its task
abbrev pub unwaited : Job
unwaited = worked_job ((Spawn 0 1 0 1 ∷ Ret 0 ∷ []) ∷ (Ret 0 ∷ []) ∷ []) (pos 7) (pos 0) 1000

-- jumps to itself
abbrev pub spin : Job
spin = worked_job ((Jmp 0 ∷ []) ∷ []) (pos 0) (pos 0) 1000

-- the value of a task comes back through a region
abbrev pub region : Job
region = worked_job ((Isolate 3 1 0 1 ∷ Ret 3 ∷ []) ∷ (Spawn 0 2 0 1 ∷ Wait 2 3 0 ∷ Ret 2 ∷ []) ∷ (Ret 0 ∷ []) ∷ []) (pos 7) (pos 0) 1000

-- the sixth Fibonacci number
unfoldable pub FibGives8 : Type 0
FibGives8 = serial_value_of fib ≡ Some (pos 8)

-- 172 instructions are enough
unfoldable pub FibGives8With172 : Type 0
FibGives8With172 = serial_value_of (record fib { fuel = 172 }) ≡ Some (pos 8)

-- and 171 are not
unfoldable pub FibGivesNoneWith171 : Type 0
FibGivesNoneWith171 = serial_value_of (record fib { fuel = 171 }) ≡ None

-- tasks nest to any depth
unfoldable pub ChainGives7 : Type 0
ChainGives7 = serial_value_of (record task_chain { args = pos 128 ∷ pos 7 ∷ [] }) ≡ Some (pos 7)

unfoldable pub RegionGives7 : Type 0
RegionGives7 = serial_value_of region ≡ Some (pos 7)

unfoldable pub ZeroDivisorGivesNone : Type 0
ZeroDivisorGivesNone = serial_value_of zero_divisor ≡ None

unfoldable pub UnwaitedGivesNone : Type 0
UnwaitedGivesNone = serial_value_of unwaited ≡ None

unfoldable pub SpinGivesNone : Type 0
SpinGivesNone = serial_value_of spin ≡ None

-- what an instruction of three registers makes of two numbers
abbrev pub made_of : (ℕ → ℕ → ℕ → Instr) → (x y : ℤ) → Option ℤ
made_of instr x y = serial_value_of (worked_job ((instr 2 0 1 ∷ Ret 2 ∷ []) ∷ []) x y 2)

-- the least number and the greatest
abbrev pub least : ℤ
least = negsuc 9223372036854775807

abbrev pub greatest : ℤ
greatest = pos 9223372036854775807

-- -7 and 3 leave -1, 7 and -3 leave 1, the least number and -1 leave 0, and a divisor of 0 is a fault
unfoldable pub RemHasTheSignOfTheDividend : Type 0
RemHasTheSignOfTheDividend =
    made_of Rem (negsuc 6) (pos 3) ∷ made_of Rem (pos 7) (negsuc 2) ∷ made_of Rem least (negsuc 0) ∷ made_of Rem (pos 7) (pos 0) ∷ [] ≡
    Some (negsuc 0) ∷ Some (pos 1) ∷ Some (pos 0) ∷ None ∷ []

-- 12 and 10 are 1100 and 1010; in two's complement -1 has all bits, and the least number the highest one
unfoldable pub BitsAreOfTwosComplement : Type 0
BitsAreOfTwosComplement =
    made_of And (pos 12) (pos 10) ∷ made_of Or (pos 12) (pos 10) ∷ made_of Xor (pos 12) (pos 10) ∷
    made_of And (negsuc 0) least ∷ made_of Or least greatest ∷ made_of Xor (negsuc 0) greatest ∷ [] ≡
    Some (pos 8) ∷ Some (pos 14) ∷ Some (pos 6) ∷ Some least ∷ Some (negsuc 0) ∷ Some least ∷ []

-- by 1, by 63, by 64, which is by 0, and by -1, whose lowest six bits are 63
unfoldable pub ShiftsTakeSixBits : Type 0
ShiftsTakeSixBits =
    made_of Shl (pos 3) (pos 1) ∷ made_of Shl (pos 3) (pos 63) ∷ made_of Shl (pos 3) (pos 64) ∷ made_of Shl (pos 3) (negsuc 0) ∷ [] ≡
    Some (pos 6) ∷ Some least ∷ Some (pos 3) ∷ Some least ∷ []

-- -5 by 1 is -3; the least number by 63 is -1, as by -1, and by 64 itself
unfoldable pub ShiftRightKeepsTheSign : Type 0
ShiftRightKeepsTheSign =
    made_of Shr (pos 5) (pos 1) ∷ made_of Shr (negsuc 4) (pos 1) ∷ made_of Shr least (pos 63) ∷ made_of Shr least (negsuc 0) ∷ made_of Shr least (pos 64) ∷ [] ≡
    Some (pos 2) ∷ Some (negsuc 2) ∷ Some (negsuc 0) ∷ Some (negsuc 0) ∷ Some least ∷ []

-- the least number and the greatest, the two the other way round, and -1 and itself
unfoldable pub ComparisonsGive1Or0 : Type 0
ComparisonsGive1Or0 =
    made_of Lt least greatest ∷ made_of Lt greatest least ∷ made_of Lt (negsuc 0) (negsuc 0) ∷
    made_of Le least greatest ∷ made_of Le greatest least ∷ made_of Le (negsuc 0) (negsuc 0) ∷
    made_of Eq least greatest ∷ made_of Eq greatest least ∷ made_of Eq (negsuc 0) (negsuc 0) ∷ [] ≡
    Some (pos 1) ∷ Some (pos 0) ∷ Some (pos 0) ∷ Some (pos 1) ∷ Some (pos 0) ∷ Some (pos 1) ∷ Some (pos 0) ∷ Some (pos 0) ∷ Some (pos 1) ∷ []
