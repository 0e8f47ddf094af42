use Rattle.std.proofs.Common.{◌≢◌, rules}
use Rattle.serde_json.specs.View.{view}
use Rattle.job_language.specs.declared.errors.Error.TheVariants.{NoMemory}
use Rattle.request_reader.specs.Answers.{asked_data}
use Rattle.request_reader.specs.Asks.{asked_by_value}
use Rattle.dump_lines.proofs.ReadRequests.{refused_read}
use Rattle.dump_lines.proofs.requests.request_in.Goals as goal

pub returns-in-Err-ready : goal.returns-in-Err-ready
returns-in-Err-ready c =
    let other : c.in-Err-ready.error ≢ NoMemory = search rules in
    record {
      ok = refused_read (asked_by_value (view c.args.value)) (asked_data c.in-Ok.asked) _ c.in-Err-ready.error c.in-Ok.ensures other c.in-Err-ready.ensures;
      takes = tt;
    }
