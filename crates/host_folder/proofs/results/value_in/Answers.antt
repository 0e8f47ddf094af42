use Rattle.std.proofs.Common.{codes, Some, ◌++◌, ap, ◌∙◌, arith}
use Rattle.std.specs.Fmt.{signed_decimal}
use Rattle.std.specs.Result.{result_ok}
use Rattle.std.proofs.lemmas.Str.Pattern.{strip_suffix_char}
use Rattle.host_folder.proofs.Reading.{value_read}
use Rattle.host_folder.proofs.results.value_in.Goals as goal

pub returns-in_err-value : goal.returns-in_err-value
returns-in_err-value c v fits e = absurd (c.in_err-value.ensures (signed_decimal v ++ codes "}") e)

pub returns : goal.returns
returns c v fits e =
    let value = c.in_ok-value.value.now in
    let digits = c.in_ok-strip_suffix.field-0 in
    let alone = strip_suffix_char 125 value (Some digits) c.in_ok-strip_suffix.ensures.cases (omega arith) in
    let word = codes "\"status\":\"complete\",\"value\":" in
    let read = value_read v fits word c.args.rest.now value 125 (omega arith) e c.in_ok-value.ensures digits.now c.parse.result alone c.parse.ensures.value.0 in
    c.ok.ensures.value ∙ ap result_ok read
