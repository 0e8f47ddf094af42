-- The text of each answer to a job whose serial value is asked, without its newline.
use Rattle.std.specs.Prelude.{ℕ, List, ◌++◌, codes}
use Rattle.std.specs.Fmt.{signed_decimal}
use Rattle.job_language.specs.declared.answers.Reply.TheVariants as reply
use Rattle.reply_writer.specs.declared.serials.SerialAnswer.{SerialAnswer}
use Rattle.reply_writer.specs.declared.serials.SerialAnswer.TheVariants.{Value, NoValue, NotSerial, Refused}
use Rattle.reply_writer.specs.ReplyText.{reply_text}

abbrev pub serial_text : SerialAnswer → List ℕ
serial_text (Value value) = codes "{\"serial\":" ++ signed_decimal value ++ codes "}"
serial_text NoValue = codes "{\"serial\":\"none\"}"
serial_text NotSerial = codes "{\"serial\":\"not_serial\"}"
serial_text (Refused error) = reply_text (reply.Refused error)
