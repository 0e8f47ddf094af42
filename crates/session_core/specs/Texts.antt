-- The texts that answer the lines of a session.
use Rattle.std.specs.Prelude.{ℕ, ◌≡◌, Bool, List, [], ◌∷◌, ◌++◌, Option, Some, None, MatchBool}
use Rattle.std.specs.List.{list_all}
use Rattle.request_reader.specs.Lines.{Line, whole, too_long}
use Rattle.request_reader.specs.Blank.{is_blank_byte}
use Rattle.job_language.specs.declared.answers.Reply.{Reply}
use Rattle.job_language.specs.declared.answers.Reply.TheVariants.{Refused}
use Rattle.job_language.specs.declared.errors.Error.TheVariants.{LineTooLong}
use Rattle.reply_writer.specs.ReplyText.{reply_text}

-- the reply's text, on a line of its own
abbrev pub reply_bytes : Reply → List ℕ
reply_bytes reply = reply_text reply ++ 10 ∷ []

abbrev pub is_blank_line : List ℕ → Bool
is_blank_line text = list_all is_blank_byte text

-- what is written for a line, and what it leads to: a blank line is skipped, one that is too long is error 1
abbrev pub Says : {S : Type 0} → (replies : List ℕ → S → Option Reply → S → Type 0) → Line → S → List ℕ → S → Type 0
Says {S = S} replies (whole text) s said t = MatchBool (is_blank_line text) ((said ≡ []) × (t ≡ s)) ((reply : Reply) × (replies text s (Some reply) t × (said ≡ reply_bytes reply)))
Says {S = S} replies too_long s said t = (said ≡ reply_bytes (Refused LineTooLong)) × (t ≡ s)

-- what is written for some lines, one after another
abbrev pub SaysAll : {S : Type 0} → (replies : List ℕ → S → Option Reply → S → Type 0) → List Line → S → List ℕ → S → Type 0
SaysAll {S = S} replies [] s said t = (said ≡ []) × (t ≡ s)
SaysAll {S = S} replies (line ∷ lines) s said t = (mid : S) × (first : List ℕ) × (rest : List ℕ) × (Says replies line s first mid × SaysAll replies lines mid rest t × (said ≡ first ++ rest))

-- a line whose reply is not there when waiting for it is stopped
abbrev pub Stops : {S : Type 0} → (replies : List ℕ → S → Option Reply → S → Type 0) → List ℕ → S → S → Type 0
Stops {S = S} replies text s t = MatchBool (is_blank_line text) ⊥ (replies text s None t)
