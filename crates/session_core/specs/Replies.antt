-- The reply to a line, and what it leads to. A session is whether it is bound, and its doors.
use Rattle.std.specs.Prelude.{ℕ, ◌≡◌, ◌⊎◌, Bool, true, false, MatchBool, List, Option, Some, None, Result, Ok, Err}
use Rattle.job_language.specs.declared.answers.Reply.{Reply}
use Rattle.job_language.specs.declared.answers.Reply.TheVariants.{Bound, Refused}
use Rattle.job_language.specs.declared.errors.Error.{Error}
use Rattle.job_language.specs.declared.errors.Error.TheVariants.{BadRequest, UnknownTenant, NoTenant, NoMemory}
use Rattle.job_language.specs.declared.requests.Request.{Request}
use Rattle.job_language.specs.declared.requests.Request.TheVariants.{Hello, Collect, Take, Execute}
use Rattle.request_reader.specs.Asks.{AskedData, plain}
use Rattle.request_reader.specs.LineAsks.{asked_by, IsShortText}
use Rattle.request_reader.specs.Ready.{ready_of}
use Rattle.session_core.specs.Calls.{Finds, Binds, Asks, Waits, AttendsTo}
use Rattle.session_core.specs.Waiting.{Gives, Collects, Executes}

abbrev pub IsRefused : {S : Type 0} → Error → S → Option Reply → S → Type 0
IsRefused {S = S} error s r t = (r ≡ Some (Refused error)) × (t ≡ s)

-- the name that a hello brings, if it can name a tenant
abbrev pub hello_in : AskedData → Option (Option (List ℕ))
hello_in (plain (Hello name)) = Some name
hello_in asked = None

-- a hello whose tenant was found, by how binding it was answered. The doors' error is the reply, and leaves the session as it was
abbrev pub GreetsBinding : {D : Type 0} → Binds D → (name : List ℕ) → (tenant : ℕ) → (answer : Result (Unit {0}) Error) → D → Reply → Bool × D → Type 0
GreetsBinding {D = D} binds name tenant (Ok u) d r t = (r ≡ Bound name) × (t.0 ≡ true) × binds d tenant name (Ok u) t.1
GreetsBinding {D = D} binds name tenant (Err error) d r t = (r ≡ Refused error) × (t ≡ (false, d)) × binds d tenant name (Err error) d

-- a hello on a session that is not bound, after the tenant was looked for
abbrev pub GreetsFound : {D : Type 0} → Binds D → (name : List ℕ) → (tenant : Option ℕ) → D → Reply → Bool × D → Type 0
GreetsFound {D = D} binds name (Some tenant) d r t = (answer : Result (Unit {0}) Error) × GreetsBinding binds name tenant answer d r t
GreetsFound {D = D} binds name None d r t = (r ≡ Refused UnknownTenant) × (t ≡ (false, d))

abbrev pub GreetsFirst : {D : Type 0} → Finds D → Binds D → (name : Option (List ℕ)) → D → Reply → Bool × D → Type 0
GreetsFirst {D = D} finds binds (Some name) d r t = (tenant : Option ℕ) × (finds d name tenant × GreetsFound binds name tenant d r t)
GreetsFirst {D = D} finds binds None d r t = (r ≡ Refused UnknownTenant) × (t ≡ (false, d))

-- a hello: error 3 on a session that is bound
abbrev pub Greets : {D : Type 0} → Finds D → Binds D → (name : Option (List ℕ)) → Bool × D → Reply → Bool × D → Type 0
Greets {D = D} finds binds name s r t = MatchBool s.0 ((r ≡ Refused BadRequest) × (t ≡ s)) (GreetsFirst finds binds name s.1 r t)

-- a request to the tenant that is bound
abbrev pub RepliesTo : {D : Type 0} → Asks D → Waits D → AttendsTo D → Request → Option Reply → D → D → Type 0
RepliesTo {D = D} asks waits attends (Execute job) r d e = Executes asks waits attends job r d e
RepliesTo {D = D} asks waits attends (Collect job) r d e = Collects asks waits false job r d e
RepliesTo {D = D} asks waits attends (Take job) r d e = Collects asks waits true job r d e
RepliesTo {D = D} asks waits attends request r d e = (given : Reply) × ((r ≡ Some given) × Gives asks request given d e)

-- a request whose job was read, or is refused
abbrev pub RepliesReady : {D : Type 0} → Asks D → Waits D → AttendsTo D → Result Request Error → Bool × D → Option Reply → Bool × D → Type 0
RepliesReady {D = D} asks waits attends (Ok request) s r t = (t.0 ≡ s.0) × RepliesTo asks waits attends request r s.1 t.1
RepliesReady {D = D} asks waits attends (Err error) s r t = IsRefused error s r t

-- what is asked: a hello binds the session, and nothing else is answered before one
abbrev pub RepliesAsked : {D : Type 0} → Finds D → Binds D → Asks D → Waits D → AttendsTo D → Option (Option (List ℕ)) → AskedData → Bool × D → Option Reply → Bool × D → Type 0
RepliesAsked {D = D} finds binds asks waits attends (Some name) asked s r t = (given : Reply) × ((r ≡ Some given) × Greets finds binds name s given t)
RepliesAsked {D = D} finds binds asks waits attends None asked s r t = MatchBool s.0 (RepliesReady asks waits attends (ready_of asked) s r t) (IsRefused NoTenant s r t)

abbrev pub RepliesRead : {D : Type 0} → Finds D → Binds D → Asks D → Waits D → AttendsTo D → Result AskedData Error → Bool × D → Option Reply → Bool × D → Type 0
RepliesRead {D = D} finds binds asks waits attends (Ok asked) s r t = RepliesAsked finds binds asks waits attends (hello_in asked) asked s r t
RepliesRead {D = D} finds binds asks waits attends (Err error) s r t = IsRefused error s r t

-- the reply to the text of a line: by what it asks for, or error 9, which leaves the session as it was; None if waiting for a reply was stopped
abbrev pub Replies : {D : Type 0} → Finds D → Binds D → Asks D → Waits D → AttendsTo D → (text : List ℕ) → Bool × D → Option Reply → Bool × D → Type 0
Replies {D = D} finds binds asks waits attends text s r t = RepliesRead finds binds asks waits attends (asked_by text) s r t ⊎ (IsShortText text × IsRefused NoMemory s r t)
