use Rattle.std.proofs.Common.{◌+◌, drop, take, sym, ap, ◌∙◌, refl}
use Rattle.request_reader.proofs.Telling.{Tells-too_long, Tells-whole, whole-short}
use Rattle.request_reader.proofs.lines.LineReader.tell.Goals as goal

pub returns-then-is_long-clause-finds : goal.returns-then-is_long-clause-finds
returns-then-is_long-clause-finds c = (
  Tells-too_long c.args.self.now _ c.args.place
      (record {
        limit = ap (λ r. r.limit) c.self.view_is;
        turns = ap (λ r. r.turns) c.self.view_is;
        not_ended = c.requires.not_ended;
        goes_on =
            ap (λ r. r.is_ended) c.self.view_is ∙ c.requires.not_ended;
      })
      c.requires.place refl
      (ap (λ w. w.held) c.cut.ensures ∙ ap (λ r. drop (c.args.place + 1) r.held) c.self.view_is)
      (sym c.is_long-is_long.ensures ∙ c.if-is_long.true),
  ap (λ w. w.line) c.cut.ensures,
  ap (λ r. r.turns) c.self.view_is,
)

pub returns-else-is_long-clause-finds : goal.returns-else-is_long-clause-finds
returns-else-is_long-clause-finds c =
    let line = ap (λ w. w.line) c.cut-else-is_long.ensures ∙ ap (λ r. take c.args.place r.held) c.self.view_is in
    let short = sym c.is_long-is_long.ensures ∙ c.if-is_long.false in
    rw line (
      Tells-whole c.args.self.now _ c.args.place
          (record {
            limit = ap (λ r. r.limit) c.self.view_is;
            turns = ap (λ r. r.turns) c.self.view_is;
            not_ended = c.requires.not_ended;
            goes_on =
                ap (λ r. r.is_ended) c.self.view_is ∙ c.requires.not_ended;
          })
          c.requires.place refl
          (ap (λ w. w.held) c.cut-else-is_long.ensures ∙ ap (λ r. drop (c.args.place + 1) r.held) c.self.view_is)
          short,
      whole-short c.args.self.now c.args.place c.self.inside.limit (ap (λ r. r.limit) c.self.view_is) short,
      ap (λ r. r.turns) c.self.view_is,
    )
