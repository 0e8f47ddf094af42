use Rattle.request_reader.specs.LineReads.{told_by}
use Rattle.request_reader.proofs.Telling.{Reads-known, Reads-lines}
use Rattle.request_reader.proofs.lines.LineReader.read_line.Goals as goal

pub returns-clause-lines : goal.returns-clause-lines
returns-clause-lines g c = Reads-lines c.args.self.now c.read_on.new.self _ _ (told_by c.read_on.result c.read_on.new.self) c.read_on.ensures.reads

pub returns-clause-known : goal.returns-clause-known
returns-clause-known g c = Reads-known c.args.self.now c.read_on.new.self _ _ (told_by c.read_on.result c.read_on.new.self) c.read_on.ensures.reads
