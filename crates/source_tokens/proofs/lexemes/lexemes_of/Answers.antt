use Rattle.std.proofs.Common.{map, arith}
use Rattle.source_tokens.specs.Lexemes.{view_lexeme}
use Rattle.source_tokens.proofs.Lexing.{ends}
use Rattle.source_tokens.proofs.lexemes.lexemes_of.Goals as goal

pub returns : goal.returns
returns c = ends (map view_lexeme c.loop-at.out.items) c.loop-at.skip c.loop-at.at c.args.text.now _ (omega arith) c.loop-at.invariant
