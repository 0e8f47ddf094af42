-- The text of each answer to a step of a script, without its newline.
use Rattle.std.specs.Prelude.{ℕ, List, ◌++◌, codes, decimal}
use Rattle.job_language.specs.declared.answers.Answer.{Answer}
use Rattle.job_language.specs.declared.answers.Answer.TheVariants as answer
use Rattle.job_language.specs.declared.answers.Came.{Came}
use Rattle.job_language.specs.declared.answers.Came.TheVariants as came
use Rattle.job_language.specs.declared.answers.Moved.{Moved}
use Rattle.job_language.specs.declared.answers.Moved.TheVariants as moved
use Rattle.job_language.specs.declared.answers.Reply.TheVariants.{Pending}
use Rattle.reply_writer.specs.ReplyText.{reply_text}

abbrev pub row_text : List ℕ → ℕ → List ℕ
row_text word row = codes "{\"moved\":\"" ++ word ++ codes "\",\"row\":" ++ decimal row ++ codes "}"

abbrev pub came_text : Came → List ℕ
came_text (came.At row) = row_text (codes "arrived") row
came_text came.Nothing = codes "{\"moved\":\"none\"}"
came_text came.Full = codes "{\"moved\":\"full\"}"

abbrev pub moved_text : Moved → List ℕ
moved_text moved.Ran = codes "{\"moved\":\"ran\"}"
moved_text (moved.Nested row) = row_text (codes "nested") row
moved_text moved.Freed = codes "{\"moved\":\"freed\"}"
moved_text moved.Left = codes "{\"moved\":\"left\"}"
moved_text moved.Idle = codes "{\"moved\":\"idle\"}"
moved_text moved.Stale = codes "{\"moved\":\"stale\"}"
moved_text moved.Full = codes "{\"moved\":\"full\"}"

-- A pending reply has a text here, since a script has a line for each answer.
abbrev pub answer_text : Answer → List ℕ
answer_text (answer.Replied Pending) = codes "{\"moved\":\"pending\"}"
answer_text (answer.Replied reply) = reply_text reply
answer_text (answer.Came c) = came_text c
answer_text (answer.Moved m) = moved_text m
