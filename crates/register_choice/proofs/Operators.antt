-- What the instruction of any operator reads and writes, and where it goes on.
use Rattle.std.proofs.Common.{◌≡◌, ℕ, ◌+◌, [], ◌∷◌, refl}
use Rattle.source_language.specs.declared.syntax.Operator.{Operator}
use Rattle.source_language.specs.declared.syntax.Operator.TheVariants.{Plus, Minus, Times, Over, Remainder, BitAnd, BitOr, BitXor, ShiftLeft, ShiftRight, Below, AtMost, Equal}
use Rattle.job_compiler.specs.Code.{op_instr}
use Rattle.job_compiler.specs.Colours.{reads, writes, leads_to, renamed}

pub two_reads : (op : Operator) (d a b : ℕ) → reads (op_instr op d a b) ≡ a ∷ b ∷ []
two_reads Plus d a b = refl
two_reads Minus d a b = refl
two_reads Times d a b = refl
two_reads Over d a b = refl
two_reads Remainder d a b = refl
two_reads Below d a b = refl
two_reads BitAnd d a b = refl
two_reads BitOr d a b = refl
two_reads BitXor d a b = refl
two_reads ShiftLeft d a b = refl
two_reads ShiftRight d a b = refl
two_reads AtMost d a b = refl
two_reads Equal d a b = refl

pub two_writes : (op : Operator) (d a b : ℕ) → writes (op_instr op d a b) ≡ d ∷ []
two_writes Plus d a b = refl
two_writes Minus d a b = refl
two_writes Times d a b = refl
two_writes Over d a b = refl
two_writes Remainder d a b = refl
two_writes Below d a b = refl
two_writes BitAnd d a b = refl
two_writes BitOr d a b = refl
two_writes BitXor d a b = refl
two_writes ShiftLeft d a b = refl
two_writes ShiftRight d a b = refl
two_writes AtMost d a b = refl
two_writes Equal d a b = refl

pub two_leads : (op : Operator) (d a b k : ℕ) → leads_to (op_instr op d a b) k ≡ (k + 1) ∷ []
two_leads Plus d a b k = refl
two_leads Minus d a b k = refl
two_leads Times d a b k = refl
two_leads Over d a b k = refl
two_leads Remainder d a b k = refl
two_leads Below d a b k = refl
two_leads BitAnd d a b k = refl
two_leads BitOr d a b k = refl
two_leads BitXor d a b k = refl
two_leads ShiftLeft d a b k = refl
two_leads ShiftRight d a b k = refl
two_leads AtMost d a b k = refl
two_leads Equal d a b k = refl

pub two_renamed : (c c' : ℕ → ℕ) (op : Operator) (d a b : ℕ) → renamed c c' (op_instr op d a b) ≡ op_instr op (c' d) (c a) (c b)
two_renamed c c' Plus d a b = refl
two_renamed c c' Minus d a b = refl
two_renamed c c' Times d a b = refl
two_renamed c c' Over d a b = refl
two_renamed c c' Remainder d a b = refl
two_renamed c c' Below d a b = refl
two_renamed c c' BitAnd d a b = refl
two_renamed c c' BitOr d a b = refl
two_renamed c c' BitXor d a b = refl
two_renamed c c' ShiftLeft d a b = refl
two_renamed c c' ShiftRight d a b = refl
two_renamed c c' AtMost d a b = refl
two_renamed c c' Equal d a b = refl
