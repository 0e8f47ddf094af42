use Rattle.dump_lines.proofs.DumpLines.{lines_of_dump}
use Rattle.dump_lines.proofs.laws.dumps_have_these_lines.Goals as goal

pub returns : goal.returns
returns c = lines_of_dump
