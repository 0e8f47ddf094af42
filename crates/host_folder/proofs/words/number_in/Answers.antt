use Rattle.std.proofs.Common.{◌≡◌, Ok, sym, true≢false, ◌∙◌, rules}
use Rattle.std.proofs.lemmas.Fmt.{parse-decimal}
use Rattle.host_folder.proofs.Reading.{number_is, number_is_not}
use Rattle.host_folder.proofs.words.number_in.Goals as goal

pub returns-in_err-number : goal.returns-in_err-number
returns-in_err-number c = record {
  said = search rules;
  found = λ n small e.
      let read = parse-decimal 64 n c.args.text.now _ small small e c.parse.ensures.value.0 in
      search rules;
}

pub returns-then-is_plain : goal.returns-then-is_plain
returns-then-is_plain c =
    let read : c.parse.result ≡ Ok c.in_ok-number.number = search rules in
    let plain = c.is_plain.ensures.0 c.if-is_plain.true in
    number_is c.args.text.now c.in_ok-number.number c.parse.result c.parse.ensures.value.0 read plain.0 plain.1

pub returns-else-is_plain : goal.returns-else-is_plain
returns-else-is_plain c = number_is_not c.args.text.now (λ plain. true≢false (sym (c.is_plain.ensures.1 plain) ∙ c.if-is_plain.false))
