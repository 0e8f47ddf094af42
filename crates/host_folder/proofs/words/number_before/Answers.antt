use Rattle.std.proofs.Common.{◌≡◌, Ok, Some, None, sym, true≢false, ◌∙◌, rules}
use Rattle.std.proofs.lemmas.Fmt.{parse-decimal}
use Rattle.host_folder.proofs.Reading.{cut_at, no_number, number_found}
use Rattle.host_folder.proofs.words.number_before.Goals as goal

pub returns-in_err-digits : goal.returns-in_err-digits
returns-in_err-digits c = record {
  said = search rules;
  found = λ n rest small e. absurd (cut_at n small c.args.end c.args.text.now rest None c.in_err-digits.ensures.cases c.requires e);
}

pub returns-in_err-number : goal.returns-in_err-number
returns-in_err-number c = record {
  said = search rules;
  found = λ n rest small e.
      let cut = cut_at n small c.args.end c.args.text.now rest (Some (c.in_ok-digits.digits, c.in_ok-digits.rest)) c.in_ok-digits.ensures.cases c.requires e in
      let read = parse-decimal 64 n c.in_ok-digits.digits.now _ small small cut.0 c.parse.ensures.value.0 in
      search rules;
}

pub returns-then-is_plain : goal.returns-then-is_plain
returns-then-is_plain c =
    let read : c.parse.result ≡ Ok c.in_ok-number.number = search rules in
    let plain = c.is_plain.ensures.0 c.if-is_plain.true in
    number_found c.args.end c.args.text.now c.in_ok-digits.digits c.in_ok-digits.rest c.in_ok-digits.ensures.cases c.requires
    c.in_ok-number.number c.parse.result c.parse.ensures.value.0 read plain.0 plain.1

pub returns-else-is_plain : goal.returns-else-is_plain
returns-else-is_plain c =
    no_number c.args.end c.args.text.now c.in_ok-digits.digits c.in_ok-digits.rest c.in_ok-digits.ensures.cases c.requires
    (λ plain. true≢false (sym (c.is_plain.ensures.1 plain) ∙ c.if-is_plain.false))
