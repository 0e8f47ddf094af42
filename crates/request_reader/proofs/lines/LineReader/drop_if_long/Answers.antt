use Rattle.std.proofs.Common.{length, sym, ap, ◌∙◌, refl, arith, [], ◌≡◌}
use Rattle.std.proofs.lemmas.List.{drop_all}
use Rattle.request_reader.specs.Reading.{is_long}
use Rattle.request_reader.proofs.Telling.{Tells-dropped}
use Rattle.request_reader.proofs.lines.LineReader.drop_if_long.Goals as goal

pub returns-then-is_long-clause-finds : goal.returns-then-is_long-clause-finds
returns-then-is_long-clause-finds c =
    let held = c.held-len.ensures.value ∙ ap (λ r. r.held) c.self.view_is in
    let none : c.cut.new.self.held ≡ [] = ap (λ w. w.held) c.cut.ensures ∙ drop_all (length c.held-len.result.now) c.self.inside.window.held (omega (arith, ap length c.held-len.ensures.value)) in
    Tells-dropped c.args.self.now _
    (record {
      limit = ap (λ r. r.limit) c.self.view_is;
      turns = ap (λ r. r.turns) c.self.view_is;
      not_ended = c.requires.not_ended;
      goes_on =
          ap (λ r. r.is_ended) c.self.view_is ∙ c.requires.not_ended;
    })
    c.requires.held (ap (λ bytes. is_long c.args.self.now (length bytes)) (sym held) ∙ sym c.is_long.ensures ∙ c.if-is_long.true) refl none (ap (λ w. w.line) c.cut.ensures)
