use Rattle.std.proofs.Common.{◌≡◌, ◌<◌, [], length, sym, ap, ◌∙◌, refl, arith}
use Rattle.std.proofs.lemmas.List.{drop_all, take_all}
use Rattle.request_reader.proofs.Telling.{Tells-last_long, Tells-last_whole}
use Rattle.request_reader.proofs.lines.LineReader.tell_last.Goals as goal

pub returns-then-was_within_long-clause-finds : goal.returns-then-was_within_long-clause-finds
returns-then-was_within_long-clause-finds c =
    let none : c.cut.new.self.held ≡ [] = ap (λ w. w.held) c.cut.ensures ∙ drop_all (length c.held-len.result.now) c.self.inside.window.held (omega (arith, ap length c.held-len.ensures.value)) in
    record {
      finds = (
        Tells-last_long c.args.self.now _ c.requires (sym (ap (λ r. r.is_within_long) c.self.view_is) ∙ c.if-was_within_long.true) (ap (λ r. r.limit) c.self.view_is) refl none refl,
        ap (λ w. w.line) c.cut.ensures,
        ap (λ r. r.turns) c.self.view_is,
      );
      ended = refl;
    }

pub returns-then-len-gt0-clause-finds : goal.returns-then-len-gt0-clause-finds
returns-then-len-gt0-clause-finds c =
    let held = c.held-len.ensures.value ∙ ap (λ r. r.held) c.self.view_is in
    let none : c.cut-then-len-gt0.new.self.held ≡ [] =
    ap (λ w. w.held) c.cut-then-len-gt0.ensures ∙ drop_all (length c.held-len.result.now) c.self.inside.window.held (omega (arith, ap length c.held-len.ensures.value)) in
    let line : c.cut-then-len-gt0.new.self.line ≡ c.args.self.now.held =
    ap (λ w. w.line) c.cut-then-len-gt0.ensures ∙ take_all (length c.held-len.result.now) c.self.inside.window.held (omega (arith, ap length c.held-len.ensures.value)) ∙
    ap (λ r. r.held) c.self.view_is in
    let some : 0 < length c.args.self.now.held = omega (arith, c.if-len-gt0.true, ap length held) in
    record {
      finds = rw line (
        Tells-last_whole c.args.self.now _ c.requires (sym (ap (λ r. r.is_within_long) c.self.view_is) ∙ c.if-was_within_long.false) some (ap (λ r. r.limit) c.self.view_is) refl none refl,
        omega (arith, c.requires.short, ap (λ r. r.limit) c.self.view_is),
        ap (λ r. r.turns) c.self.view_is,
      );
      ended = refl;
    }
