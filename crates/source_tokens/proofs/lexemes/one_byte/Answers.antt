use Rattle.std.proofs.Common.{◌≡◌, ◌∷◌, ◌++◌, [], map, take, drop, ap, ◌∙◌, arith}
use Rattle.std.proofs.lemmas.List.{map_push}
use Rattle.source_tokens.specs.Lexemes.{view_lexeme, lexeme_len}
use Rattle.source_tokens.proofs.Lexing.{goes_on, starts}
use Rattle.source_tokens.proofs.lexemes.one_byte.Goals as goal

pub returns-then-skip-gt0 : goal.returns-then-skip-gt0
returns-then-skip-gt0 c = goes_on (map view_lexeme c.args.out.now.items) c.args.skip c.args.at c.args.text.now (omega arith) c.requires

pub returns : goal.returns
returns c =
    let text = c.args.text.now in
    let at = c.args.at in
    let front = map view_lexeme c.args.out.now.items in
    let len = c.lexeme_len-len.result in
    let rest : c.split_at.result.1.now ≡ drop at text = c.split_at.ensures.back in
    let n : len ≡ lexeme_len (drop at text) = c.lexeme_len-len.ensures ∙ ap lexeme_len rest in
    let t : c.front.result.now ≡ take len (drop at text) = c.front.ensures ∙ ap (λ x. take len x) rest in
    let items : map view_lexeme c.push.new.self.items ≡ front ++ (at, c.front.result.now) ∷ [] =
    rw c.in_ok-push.ensures.items (map_push _ c.args.out.now.items (record { at = at; text = c.front.result })) in
    rw (items, t, c.saturating_sub.ensures) (starts front c.args.skip at len text (omega arith) c.requires n)
