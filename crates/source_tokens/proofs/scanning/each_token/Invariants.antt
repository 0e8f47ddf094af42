use Rattle.std.proofs.Common.{◌≡◌, map, take}
use Rattle.std.specs.List.{flat_map}
use Rattle.source_tokens.specs.Lexemes.{view_lexeme}
use Rattle.source_tokens.specs.Tokens.{token_of}
use Rattle.source_tokens.proofs.scanning.each_token.Given as goal

abbrev pub invariant-loop-lexeme : goal.invariant-loop-lexeme
invariant-loop-lexeme l = l.out.items ≡ flat_map (token_of (map view_lexeme l.lexeme-items)) (map view_lexeme (take l.lexeme-index l.lexeme-items))
