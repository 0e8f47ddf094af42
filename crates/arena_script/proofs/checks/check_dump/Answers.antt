use Rattle.std.proofs.Common.{◌∙◌, ap}
use Rattle.dump_lines.proofs.Parts.{part_all, part_fewer}
use Rattle.arena_script.specs.DumpReads.{came_to}
use Rattle.arena_script.specs.declared.dumps.DumpRead.{DumpRead}
use Rattle.arena_script.proofs.Verdicts.{bad_line_part, bad_line_written, verdict_part, verdict_written}
use Rattle.arena_script.proofs.checks.check_dump.Goals as goal

pub returns-in_err-put-in-Whole-clause-part : goal.returns-in_err-put-in-Whole-clause-part
returns-in_err-put-in-Whole-clause-part g c = λ known.
    let came = c.in_ok-dump.ensures.read known ∙ ap (λ (r : DumpRead). came_to r) c.in-Whole.is in
    let text = c.as_bytes.ensures.value ∙ c.in_ok-verdict_line-in-Whole.ensures in
    verdict_part _ _ _ _ _ _ came c.in_ok-verdict-in-Whole.ensures text (part_fewer _ _ _ c.in_err-put-in-Whole.ensures.part)

pub returns-in_ok-put-in-Whole-clause-part : goal.returns-in_ok-put-in-Whole-clause-part
returns-in_ok-put-in-Whole-clause-part g c = λ known.
    let came = c.in_ok-dump.ensures.read known ∙ ap (λ (r : DumpRead). came_to r) c.in-Whole.is in
    let text = c.as_bytes.ensures.value ∙ c.in_ok-verdict_line-in-Whole.ensures in
    verdict_part _ _ _ _ _ _ came c.in_ok-verdict-in-Whole.ensures text (part_all _ _ _ c.in_ok-put-in-Whole.ensures.ok)

pub returns-in_ok-put-in-Whole-clause-verdict : goal.returns-in_ok-put-in-Whole-clause-verdict
returns-in_ok-put-in-Whole-clause-verdict g c = λ known.
    let came = c.in_ok-dump.ensures.read known ∙ ap (λ (r : DumpRead). came_to r) c.in-Whole.is in
    let text = c.as_bytes.ensures.value ∙ c.in_ok-verdict_line-in-Whole.ensures in
    verdict_written _ _ _ _ _ _ came c.in_ok-verdict-in-Whole.ensures text c.in_ok-put-in-Whole.ensures.ok

pub returns-in_err-put-in-BadLine-clause-part : goal.returns-in_err-put-in-BadLine-clause-part
returns-in_err-put-in-BadLine-clause-part g c = λ known.
    let came = c.in_ok-dump.ensures.read known ∙ ap (λ (r : DumpRead). came_to r) c.in-BadLine.is in
    let text = c.as_bytes-in-BadLine.ensures.value ∙ c.in_ok-bad_line-in-BadLine.ensures in
    bad_line_part _ _ _ _ _ came text (part_fewer _ _ _ c.in_err-put-in-BadLine.ensures.part)

pub returns-in_ok-put-in-BadLine-clause-part : goal.returns-in_ok-put-in-BadLine-clause-part
returns-in_ok-put-in-BadLine-clause-part g c = λ known.
    let came = c.in_ok-dump.ensures.read known ∙ ap (λ (r : DumpRead). came_to r) c.in-BadLine.is in
    let text = c.as_bytes-in-BadLine.ensures.value ∙ c.in_ok-bad_line-in-BadLine.ensures in
    bad_line_part _ _ _ _ _ came text (part_all _ _ _ c.in_ok-put-in-BadLine.ensures.ok)

pub returns-in_ok-put-in-BadLine-clause-bad_line : goal.returns-in_ok-put-in-BadLine-clause-bad_line
returns-in_ok-put-in-BadLine-clause-bad_line g c = λ is known.
    let came = c.in_ok-dump.ensures.read known ∙ ap (λ (r : DumpRead). came_to r) c.in-BadLine.is in
    let text = c.as_bytes-in-BadLine.ensures.value ∙ c.in_ok-bad_line-in-BadLine.ensures in
    bad_line_written _ _ _ _ _ came text c.in_ok-put-in-BadLine.ensures.ok
