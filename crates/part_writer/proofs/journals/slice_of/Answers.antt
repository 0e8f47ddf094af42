use Rattle.std.proofs.Common.{◌∙◌}
use Rattle.part_writer.proofs.Journal.{slice_marks, slice_text}
use Rattle.part_writer.proofs.journals.slice_of.Goals as goal

pub returns-clause-text : goal.returns-clause-text
returns-clause-text c = slice_text c.joined.result c.args.config.now c.args.entries.now c.as_str.result.now c.as_str-2.result.now (c.as_str.ensures.value ∙ c.in_ok-first.ensures.text)
    (c.as_str-2.ensures.value ∙ c.in_ok-rest.ensures.text) c.joined.ensures

pub returns-clause-marks : goal.returns-clause-marks
returns-clause-marks c = slice_marks c.joined.result c.args.config.now c.args.entries.now _ c.in_ok-first.ensures.text c.in_ok-first.ensures.reads_back c.in_ok-rest.ensures.lines
    c.in_ok-rest.ensures.says
