use Rattle.std.proofs.Common.{arith, rules}
use Rattle.job_json.proofs.Digits.{one_digit}
use Rattle.job_json.proofs.canonical.numbers.Rest.whole_number.Goals as goal

pub returns-in-len1-up : goal.returns-in-len1-up
returns-in-len1-up c =
    let digit = c.is_alone.ensures c.if-is_alone.true in
    one_digit c.args.self.now.bytes.now c.from.result (omega arith) digit.0 digit.1 (search rules)
