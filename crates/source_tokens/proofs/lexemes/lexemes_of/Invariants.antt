use Rattle.std.proofs.Common.{◌≡◌, ◌++◌, map, drop}
use Rattle.source_tokens.specs.Lexemes.{view_lexeme, lexemes_at}
use Rattle.source_tokens.proofs.lexemes.lexemes_of.Given as goal

abbrev pub invariant-loop-at : goal.invariant-loop-at
invariant-loop-at l = map view_lexeme l.out.items ++ lexemes_at l.skip l.at (drop l.at l.text) ≡ lexemes_at 0 0 l.text
