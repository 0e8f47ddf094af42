use Rattle.reply_writer.proofs.Sending.{appends_on, within_rest}
use Rattle.reply_writer.proofs.writes.write_all_of.Goals as goal

pub loop-sent-preserved : goal.loop-sent-preserved
loop-sent-preserved g c =
    let sent = c.loop-sent.invariant in let taken = c.in-Ok.ensures in
    (within_rest _ _ _ sent.0 taken.bound, appends_on _ _ _ _ _ _ sent.1 taken.bytes)
