use Rattle.std.proofs.Common.{◌+◌, ◌++◌, List, drop, sym, ap, ◌∙◌}
use Rattle.source_tokens.specs.declared.tokens.Token.{Token}
use Rattle.source_tokens.specs.Breaks.{unbroken_from}
use Rattle.source_tokens.proofs.Breaking.{here, all_looked_at}
use Rattle.source_tokens.proofs.breaks.unbroken.Goals as goal

pub returns : goal.returns
returns c =
    all_looked_at c.loop-token.out.items c.loop-token.opened.items c.loop-token.before c.loop-token.token-index c.args.tokens.now _ c.loop-token-test.false c.loop-token.invariant

pub loop-token-preserved : goal.loop-token-preserved
loop-token-preserved c =
    let ts = c.args.tokens.now in
    let i = c.loop-token.token-index in
    c.in_ok-before.ensures (drop (i + 1) ts)
    ∙ ap (λ (left : List Token). c.loop-token.out.items ++ unbroken_from c.loop-token.opened.items c.loop-token.before left) (sym (here i ts _ c.loop-token-test.true)) ∙ c.loop-token.invariant
