use Rattle.dump_lines.specs.Dumps.{entries_text, first_text}
use Rattle.dump_lines.proofs.Appending.{appends_then}
use Rattle.dump_lines.proofs.DumpLines.{read_back}
use Rattle.dump_lines.proofs.Parts.{part_then, part_more}
use Rattle.dump_lines.proofs.whole.write_dump.Goals as goal

pub returns-clause-written : goal.returns-clause-written
returns-clause-written g c = appends_then c.write_entries.result _ _ _ (first_text c.args.config.now) (entries_text c.args.entries.now) c.in_ok-write_first.ensures.written
    c.write_entries.ensures.written

pub returns-in_err-write_first-clause-part : goal.returns-in_err-write_first-clause-part
returns-in_err-write_first-clause-part g c = part_more _ _ (first_text c.args.config.now) (entries_text c.args.entries.now) c.write_first.ensures.part

pub returns-clause-part : goal.returns-clause-part
returns-clause-part g c = part_then _ _ _ (first_text c.args.config.now) (entries_text c.args.entries.now) c.in_ok-write_first.ensures.written c.write_entries.ensures.part

pub returns-clause-reads_back : goal.returns-clause-reads_back
returns-clause-reads_back g c = read_back c.write_entries.result _ _ c.in_ok-write_first.ensures.reads_back c.write_entries.ensures.all c.write_entries.ensures.read_back
