use Rattle.std.proofs.Common.{◌≡◌, ◌∙◌, sym, true, is_some}
use Rattle.job_language.specs.Recorded.{is_recorded_reply}
use Rattle.dump_lines.specs.Written.{request_data}
use Rattle.part_writer.proofs.AskTexts.{ask_added}
use Rattle.part_writer.proofs.asks.add_replied.Goals as goal

pub returns-clause-ask : goal.returns-clause-ask
returns-clause-ask c = λ _.
    let recorded : is_recorded_reply c.args.reply ≡ true = sym c.is_recorded.ensures ∙ c.if-not-is_recorded.false in
    let some : is_some (request_data c.args.request.now) ≡ true = sym c.has_text.ensures ∙ c.if-not-has_text.false in
    ask_added c.args.request.now c.args.reply
    c.args.text.now.items c.add_bytes.new.text.items c.add_bytes-2.new.text.items c.add_bytes-3.new.text.items c.add_request.new.text.items c.add_bytes-4.new.text.items c.text.result.now recorded some
    (c.text.ensures.value ∙ c.reply_line.ensures ∙ c.replies_have_one_text.ensures c.args.reply recorded)
    c.in_ok-add_bytes.ensures c.in_ok-add_bytes-2.ensures c.in_ok-add_bytes-3.ensures c.in_ok-add_request.ensures c.in_ok-add_bytes-4.ensures
