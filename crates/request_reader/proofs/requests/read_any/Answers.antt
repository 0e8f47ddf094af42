use Rattle.std.proofs.Common.{None}
use Rattle.serde_json.specs.View.{view}
use Rattle.request_reader.proofs.LineAnswers.{asked_by-value, exact-line}
use Rattle.request_reader.proofs.requests.read_any.Goals as goal

pub returns-in-Some : goal.returns-in-Some
returns-in-Some c =
    let reads = rw c.in-Some.is at c.in_ok-value.ensures.ok in
    exact-line c.args.line.now c.requires (view c.in-Some.value) reads c.request_of.result c.request_of.ensures

pub returns-in-None : goal.returns-in-None
returns-in-None c =
    let reads = rw c.in-None.is at c.in_ok-value.ensures.ok in
    asked_by-value c.args.line.now c.requires None reads
