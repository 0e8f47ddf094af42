-- The answers to lines that ask for the serial values of jobs.
use Rattle.std.specs.Prelude.{ℕ, List, [], ◌∷◌, ◌++◌, Result, Ok, Err, if◌then◌else◌}
use Rattle.std.specs.Option.{option_map_or}
use Rattle.std.specs.Result.{result_flatten, result_map_both}
use Rattle.job_language.specs.declared.errors.Error.{Error}
use Rattle.job_language.specs.declared.errors.Error.TheVariants.{BadProgram, LineTooLong}
use Rattle.job_language.specs.declared.jobs.Job.{Job}
use Rattle.job_json.specs.Job.{job_of}
use Rattle.job_json.specs.Json.{result_map}
use Rattle.job_language.specs.Serial.{is_serial}
use Rattle.request_reader.specs.LineAsks.{value_of}
use Rattle.request_reader.specs.Lines.{Line, whole, too_long, newline}
use Rattle.tenant_model.specs.Serial.{serial_value}
use Rattle.reply_writer.specs.SerialText.{serial_text}
use Rattle.reply_writer.specs.declared.serials.SerialAnswer.{SerialAnswer}
use Rattle.reply_writer.specs.declared.serials.SerialAnswer.TheVariants.{Value, NoValue, NotSerial, Refused}

-- the job that a line spells, or why it spells none
abbrev pub job_in : Line → Result Job Error
job_in (whole text) = result_flatten (result_map (λ d. result_map_both (λ job. job) (λ place. BadProgram) (job_of d)) (value_of text))
job_in too_long = Err LineTooLong

-- with the job's fuel as the number of instructions
abbrev pub serial_answer : Result Job Error → SerialAnswer
serial_answer (Ok job) = if is_serial job.program then option_map_or (λ value. Value value) (serial_value job.program job.args job.fuel) NoValue else NotSerial
serial_answer (Err error) = Refused error

-- the lines that answer these lines, in order
abbrev pub serial_answers : List Line → List ℕ
serial_answers [] = []
serial_answers (line ∷ lines) = serial_text (serial_answer (job_in line)) ++ newline ∷ serial_answers lines
