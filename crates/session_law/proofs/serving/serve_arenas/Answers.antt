use Rattle.session_core.specs.declared.serving.SessionEnd.{SessionEnd}
use Rattle.session_law.proofs.Sessions.{served_at, if_ok}
use Rattle.session_law.proofs.serving.serve_arenas.Goals as goal

pub returns-clause-serves : goal.returns-clause-serves
returns-clause-serves g c = λ ts at.
    let bytes = g.R.Read.remaining c.args.reader.now in
    let left = g.R.Read.remaining c.serve.new.reader in
    let written = g.W.Write.contents c.args.writer.now in
    let out = g.W.Write.contents c.serve.new.writer in
    if_ok _ _ c.serve.result (λ (how : SessionEnd) is. served_at c.args.doors.now c.serve.new.doors ts bytes left written out how at is) c.serve.ensures.serves
