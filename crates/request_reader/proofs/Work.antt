-- The work that a reader of lines has left, when a line is reported.
use Rattle.std.proofs.Common.{◌≡◌, ℕ, ◌+◌, ◌*◌, ◌≤◌, ◌<◌, length, arith}
use Rattle.std.proofs.Math.Nat.{mul-le-mul_right}
use Rattle.request_reader.specs.declared.lines.LineRead.{LineRead}
use Rattle.request_reader.specs.declared.lines.LineRead.TheVariants as read
use Rattle.request_reader.specs.declared.lines.TheConstants.{BLOCK}
use Rattle.request_reader.specs.LineReads.{LowersWork}
use Rattle.request_reader.specs.Reading.{Reading, work_left}

lowers : (line : LineRead) (old new : Reading) → work_left new < work_left old → LowersWork line old new
lowers read.Line old new h = h
lowers read.TooLong old new h = h
lowers read.End old new h = tt
lowers read.ReadFault old new h = tt
lowers read.TurnLimit old new h = tt

product : (a b s m n : ℕ) → a + 1 ≤ b → m < s → a * s + m < b * s + n
product a b s m n fewer small =
    let most : (a + 1) * s ≤ b * s = mul-le-mul_right s fewer in
    let one_more : (a + 1) * s ≡ a * s + s = omega arith in
    omega (arith, most, one_more)

-- fewer bytes are held
pub lowers-held : (line : LineRead) (old new : Reading) → new.limit ≡ old.limit → new.turns ≡ old.turns → length new.held < length old.held → LowersWork line old new
lowers-held line old new limit turns fewer = lowers line old new (rw (limit, turns) (omega arith))

-- the reader of bytes was called
pub lowers-turns : (line : LineRead) (old new : Reading) → new.limit ≡ old.limit → new.turns < old.turns → length new.held ≤ new.limit + BLOCK → LowersWork line old new
lowers-turns line old new limit turns room =
    lowers line old new (rw limit (product new.turns old.turns (old.limit + BLOCK + 1) (length new.held) (length old.held) (omega arith) (omega (arith, limit))))
