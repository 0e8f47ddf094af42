use Rattle.dump_lines.specs.Dumps.{HasLine}
use Rattle.part_writer.proofs.Lines.{one_more, text_more}
use Rattle.part_writer.proofs.parts.lines_of.Goals as goal

pub loop-entry-preserved : goal.loop-entry-preserved
loop-entry-preserved c =
    let es = c.args.entries.now in
    let i = c.loop-entry.entry-index in
    let e = c.entry-item.result in
    let within = c.loop-entry-test.true in
    record {
      text = text_more es i e c.loop-entry.text.items c.add_entry.new.text.items within c.entry-item.is c.loop-entry.invariant.text c.in_ok-add_entry.ensures.text;
      lines = one_more HasLine es i e within c.entry-item.is c.in_ok-add_entry.ensures.line c.loop-entry.invariant.lines;
    }
