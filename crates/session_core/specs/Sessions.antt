-- How a session ends, and what holds then.
use Rattle.std.specs.Prelude.{ℕ, ◌≡◌, ◌<◌, Bool, false, List, [], ◌∷◌, ◌++◌, length, take, Option, Result, Ok, Err}
use Rattle.std.specs.Io.KnownBytes.{Appends, IsAtEnd}
use Rattle.request_reader.specs.declared.turns.TheConstants.{MAX_TURNS}
use Rattle.request_reader.specs.declared.requests.TheConstants.{MAX_REQUEST}
use Rattle.request_reader.specs.Lines.{Line, whole}
use Rattle.request_reader.specs.Reading.{Reading, Reads, IsDone, IsPending}
use Rattle.job_language.specs.declared.answers.Reply.{Reply}
use Rattle.job_language.specs.declared.answers.Reply.TheVariants.{Refused}
use Rattle.job_language.specs.declared.errors.Error.TheVariants.{LineTooLong}
use Rattle.session_core.specs.Texts.{Says, SaysAll, Stops, reply_bytes}
use Rattle.session_core.specs.declared.serving.SessionEnd.{SessionEnd}
use Rattle.session_core.specs.declared.serving.SessionEnd.TheVariants.{Ended, ReadFault, WriteFault, TurnLimit, Stopped}

-- Nothing is read yet.
abbrev pub unread : Reading
unread = record { limit = MAX_REQUEST; line = []; held = []; is_within_long = false; is_ended = false; turns = MAX_TURNS }

-- These lines were read, and what answers them was written.
pub record Served {S : Type 0} (replies : List ℕ → S → Option Reply → S → Type 0) (now : Reading) (bytes left written out : Option (List ℕ)) (old new : S) : Type 0 where
  pub lines : List Line
  pub said : List ℕ
  pub reads : Reads unread now bytes left lines
  pub says : SaysAll replies lines old said new
  pub wrote : Appends written out said

-- The same of all lines but the last one. Of its answer only the first bytes went out.
pub record Broke {S : Type 0} (replies : List ℕ → S → Option Reply → S → Type 0) (now : Reading) (bytes left written out : Option (List ℕ)) (old new : S) (sent : ℕ) : Type 0 where
  pub lines : List Line
  pub last : Line
  pub said : List ℕ
  pub cut : List ℕ
  pub mid : S
  pub reads : Reads unread now bytes left (lines ++ last ∷ [])
  pub says : SaysAll replies lines old said mid
  pub says_last : Says replies last mid cut new
  pub short : sent < length cut
  pub wrote : Appends written out (said ++ take sent cut)

-- The same of all lines but the last one. Waiting for its reply was stopped.
pub record Waited {S : Type 0} (replies : List ℕ → S → Option Reply → S → Type 0) (now : Reading) (bytes left written out : Option (List ℕ)) (old new : S) : Type 0 where
  pub lines : List Line
  pub last : List ℕ
  pub said : List ℕ
  pub mid : S
  pub reads : Reads unread now bytes left (lines ++ whole last ∷ [])
  pub says : SaysAll replies lines old said mid
  pub stops : Stops replies last mid new
  pub wrote : Appends written out said

-- What holds at each end. At Ended all bytes are read and all lines are answered; at a fault of the reader and at the limit of its calls no whole line is left that was read.
abbrev pub ServesTo : {S : Type 0} → (replies : List ℕ → S → Option Reply → S → Type 0) → (now : Reading) → (bytes left written out : Option (List ℕ)) → (old new : S) → SessionEnd → Type 0
ServesTo {S = S} replies now bytes left written out old new Ended = Served replies now bytes left written out old new × IsDone now × IsAtEnd left
ServesTo {S = S} replies now bytes left written out old new ReadFault = Served replies now bytes left written out old new × IsPending now × (now.turns < MAX_TURNS)
ServesTo {S = S} replies now bytes left written out old new TurnLimit = Served replies now bytes left written out old new × IsPending now × (now.turns ≡ 0)
ServesTo {S = S} replies now bytes left written out old new (WriteFault sent) = Broke replies now bytes left written out old new sent
ServesTo {S = S} replies now bytes left written out old new Stopped = Waited replies now bytes left written out old new

-- A fault of the reader or the writer comes only if a call of it has failed, and the limit of calls only if the reader was called that often.
abbrev pub HasCause : (reader_failed reader_spent writer_failed : Type 0) → SessionEnd → Type 0
HasCause reader_failed reader_spent writer_failed ReadFault = reader_failed
HasCause reader_failed reader_spent writer_failed TurnLimit = reader_spent
HasCause reader_failed reader_spent writer_failed (WriteFault sent) = writer_failed
HasCause reader_failed reader_spent writer_failed end = Unit {0}

-- a session from this start, which leaves its doors so
abbrev pub Serves : {D : Type 0} → (replies : List ℕ → Bool × D → Option Reply → Bool × D → Type 0) → (bytes left written out : Option (List ℕ)) → (old : Bool × D) → (new : D) → SessionEnd → Type 0
Serves {D = D} replies bytes left written out old new end = (now : Reading) × (is_bound : Bool) × ServesTo replies now bytes left written out old (is_bound, new) end

-- a line that is answered, in whole, in part or not at all
abbrev pub Answers : {S : Type 0} → (replies : List ℕ → S → Option Reply → S → Type 0) → (line : List ℕ) → (old new : S) → (written out : Option (List ℕ)) → Result (Unit {0}) SessionEnd → Type 0
Answers {S = S} replies line old new written out (Ok u) = (said : List ℕ) × (Says replies (whole line) old said new × Appends written out said)
Answers {S = S} replies line old new written out (Err (WriteFault sent)) = (said : List ℕ) × (Says replies (whole line) old said new × (sent < length said) × Appends written out (take sent said))
Answers {S = S} replies line old new written out (Err Stopped) = Stops replies line old new × Appends written out []
Answers {S = S} replies line old new written out (Err end) = ⊥

abbrev pub refusal : List ℕ
refusal = reply_bytes (Refused LineTooLong)

-- the refusal of a line that is too long, in whole or in part
abbrev pub RefusesLong : (written out : Option (List ℕ)) → Result (Unit {0}) SessionEnd → Type 0
RefusesLong written out (Ok u) = Appends written out refusal
RefusesLong written out (Err (WriteFault sent)) = (sent < length refusal) × Appends written out (take sent refusal)
RefusesLong written out (Err end) = ⊥
