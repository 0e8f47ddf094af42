use Rattle.std.proofs.Common.{map, ap, sym, ◌∙◌}
use Rattle.source_tokens.specs.Lexemes.{view_lexeme}
use Rattle.source_tokens.proofs.Scanned.{all_scanned, one_scanned}
use Rattle.source_tokens.proofs.scanning.each_token.Goals as goal

pub returns : goal.returns
returns c =
    let ls = c.deref-lexeme-items.result.now in
    all_scanned c.args.text.now ls c.loop-lexeme.lexeme-index c.loop-lexeme.out.items c.loop-lexeme-test.false
    (ap (λ l. map view_lexeme l) c.deref-lexeme-items.ensures.value ∙ c.in_ok-lexemes.ensures) c.loop-lexeme.invariant

pub loop-lexeme-preserved : goal.loop-lexeme-preserved
loop-lexeme-preserved c =
    one_scanned c.deref-lexeme-items.result.now c.as_slice.result.now c.loop-lexeme.lexeme-index _ c.loop-lexeme.out.items c.add_token.new.out.items c.loop-lexeme-test.true
    (c.as_slice.ensures.value ∙ sym c.deref-lexeme-items.ensures.value) c.in_ok-add_token.ensures c.loop-lexeme.invariant
