use Rattle.std.proofs.Common.{◌≡◌, ◌++◌, ◌∷◌, [], sym, ◌∙◌, false, true}
use Rattle.source_tokens.specs.Breaks.{opened_behind, is_break}
use Rattle.source_tokens.proofs.Breaking.{broken, kept}
use Rattle.source_tokens.proofs.breaks.add_unless_broken.Goals as goal

pub returns-then-is_break : goal.returns-then-is_break
returns-then-is_break c =
    λ rest.
    let is : is_break c.args.opened.now.items c.args.before c.args.token.kind ≡ true = rw (sym c.as_slice.ensures.value) (sym c.is_break.ensures ∙ c.if-is_break.true) in
    broken c.args.out.now.items c.args.opened.now.items c.args.before c.args.token rest is

pub returns : goal.returns
returns c =
    λ rest.
    let is : is_break c.args.opened.now.items c.args.before c.args.token.kind ≡ false = rw (sym c.as_slice.ensures.value) (sym c.is_break.ensures ∙ c.if-is_break.false) in
    let items : c.push.new.self.items ≡ c.args.out.now.items ++ c.args.token ∷ [] = c.in_ok-push.ensures.items in
    let opened : c.open_or_close.new.opened.items ≡ opened_behind c.args.token.kind c.args.opened.now.items = c.in_ok-open_or_close.ensures in
    rw (items, opened, c.behind.ensures) (kept c.args.out.now.items c.args.opened.now.items c.args.before c.args.token rest is)
