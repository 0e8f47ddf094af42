use Rattle.dump_lines.proofs.ReplyTexts.{reply_texts}
use Rattle.dump_lines.proofs.laws.replies_have_one_text.Goals as goal

pub returns : goal.returns
returns c = reply_texts
