use Rattle.request_reader.proofs.Parts.{buffered-cut}
use Rattle.request_reader.proofs.windows.Window.cut.Goals as goal

pub returns : goal.returns
returns c = rw (← c.self.view_is) (buffered-cut c.self.inside c.args.len c.args.end c.self.invariant.held c.requires.len (rw (← c.self.view_is) at c.requires.end))
