use Rattle.std.proofs.Common.{◌≡◌, ◌+◌, ◌≤◌, None, length, subst, sym, ◌∙◌, arith, rules, tests}
use Rattle.std.specs.Str.{IsUtf8}
use Rattle.term_life.specs.declared.terms.TheConstants.{MOST_JOBS}
use Rattle.host_folder.proofs.Reading.{no_text}
use Rattle.host_folder.proofs.Spans.{is_span, span_text}
use Rattle.host_folder.proofs.numbers.span_in.Goals as goal

pub returns-in_err-text : goal.returns-in_err-text
returns-in_err-text c =
    let none : c.ok.result ≡ None = search rules in
    record {
      said = search rules;
      found = λ s range e. absurd (no_text c.args.line.now _ c.from_utf8.result c.from_utf8.ensures.cases (sym c.ok.ensures.value ∙ none) (subst IsUtf8 e (span_text s range)));
    }

pub returns-then-room-base : goal.returns-then-room-base
returns-then-room-base c =
    let is : c.in_ok-text.text.now ≡ c.args.line.now = search rules in
    let empty : length c.in_ok-room.rest.now ≡ 0 = search (rules, tests) in
    let most : c.in_ok-base.base + c.in_ok-room.room ≤ MOST_JOBS = omega (arith, c.if-base-le-MOST_JOBS.true, c.if-room-base.true) in
    is_span c.args.line.now c.in_ok-text.text.now c.in_ok-number.rest.now c.in_ok-base.rest.now c.in_ok-room.rest.now c.in_ok-number.number c.in_ok-base.base c.in_ok-room.room
    is c.in_ok-number.ensures c.in_ok-base.ensures c.in_ok-room.ensures empty most
