use Rattle.std.proofs.Common.{◌≡◌, drop}
use Rattle.source_reader.specs.Lines.{after_line_ends}
use Rattle.source_reader.proofs.lines.after_line_ends.Given as goal

abbrev pub invariant-loop-place : goal.invariant-loop-place
invariant-loop-place l = after_line_ends (drop l.place l.tokens) ≡ after_line_ends l.tokens
