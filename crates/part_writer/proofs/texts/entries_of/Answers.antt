use Rattle.dump_lines.specs.Dumps.{HasLine, SaysItself}
use Rattle.std.proofs.Common.{string_bytes}
use Rattle.part_writer.proofs.Lines.{one_more, text_more}
use Rattle.part_writer.proofs.texts.entries_of.Goals as goal

pub loop-entry-preserved : goal.loop-entry-preserved
loop-entry-preserved c =
    let es = c.args.entries.now in
    let i = c.loop-entry.entry-index in
    let e = c.entry-item.result in
    let within = c.loop-entry-test.true in
    record {
      text = text_more es i e (string_bytes c.loop-entry.text) (string_bytes c.add_line.new.text) within c.entry-item.is c.loop-entry.invariant.text c.in_ok-add_line.ensures.text;
      lines = one_more HasLine es i e within c.entry-item.is c.in_ok-add_line.ensures.line c.loop-entry.invariant.lines;
      says = one_more SaysItself es i e within c.entry-item.is c.in_ok-add_line.ensures.says c.loop-entry.invariant.says;
    }
