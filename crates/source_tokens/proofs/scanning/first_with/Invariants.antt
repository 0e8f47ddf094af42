use Rattle.std.proofs.Common.{◌≡◌, ◌+◌, drop, map}
use Rattle.source_tokens.specs.Lexemes.{view_lexeme}
use Rattle.source_tokens.specs.Tokens.{first_with}
use Rattle.source_tokens.proofs.scanning.first_with.Given as goal

abbrev pub invariant-loop-lexeme : goal.invariant-loop-lexeme
invariant-loop-lexeme l =
    (first_with l.text l.place (map view_lexeme (drop l.lexeme-index l.all)) ≡ first_with l.text l.fn.place (map view_lexeme l.all))
    × (l.place ≡ l.fn.place + l.lexeme-index)
