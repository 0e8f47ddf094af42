-- The replies that a dump's entries hold. A reply has exactly the members that are listed. Where its numbers are none
-- that a tenant answers with, there is none inside.
use Rattle.std.specs.Prelude.{◌≡◌, ℕ, ◌==◌, ◌||◌, Bool, false, if◌then◌else◌, List, [], ◌∷◌, Option, Some, None, is_some, option_map, find, fold, codes}
use Rattle.std.specs.Option.{option_map_or, option_or}
use Rattle.std.specs.Str.{bytes_eq}
use Rattle.serde_json.specs.Data.{Data}
use Rattle.serde_json.specs.Find.{as_str, as_bool}
use Rattle.job_language.specs.declared.answers.Reply.{Reply}
use Rattle.job_language.specs.declared.answers.Reply.TheVariants.{Made, Placed, Job, Cells, Arena, Epoch, Released, Refused}
use Rattle.job_language.specs.declared.answers.Reply.TheVariants as reply
use Rattle.job_language.specs.declared.answers.Status.{Status}
use Rattle.job_language.specs.declared.answers.Status.TheVariants.{Running, Cancelled, Complete, Fault}
use Rattle.job_language.specs.declared.errors.Error.{Error}
use Rattle.job_language.specs.declared.errors.Error.TheVariants.{LineTooLong, BadJson, BadRequest, BadProgram, UnknownTenant, UnknownJob, JobLimit, HistoryFull, NoMemory, TaskLimit, NoTenant, Busy}
use Rattle.job_language.specs.declared.errors.Error.TheVariants.{ConnectionLimit}
use Rattle.job_language.specs.declared.errors.JobFault.{JobFault}
use Rattle.job_language.specs.declared.errors.JobFault.TheVariants as fault
use Rattle.job_language.specs.ErrorCodes.{code_of, name_of, fault_code_of}
use Rattle.job_json.specs.Instruction.{below, key}
use Rattle.job_json.specs.Json.{◌>>=◌, get_as, whole, integer, has_members}
use Rattle.job_json.specs.TenantOf.{level_of}

-- what is read of a value, if it has exactly that number of members
abbrev pub only : {A : Type 0} → ℕ → Data → Option A → Option A
only n d it = if has_members n d then it else None

-- Is the member of that name this text?
abbrev pub is_word : (name text : List ℕ) → Data → Bool
is_word name text d = option_map_or (λ it. bytes_eq it text) (get_as name as_str d) false

-- Is it a whole number of 64 bits, with a sign or without?
abbrev pub is_whole : Data → Bool
is_whole d = is_some (whole d) || is_some (integer d)

-- a member that is a whole number of 64 bits, with a sign or without, and inside what it is to a tenant
abbrev pub number : {A : Type 0} → (Data → Option A) → List ℕ → Data → Option (Option A)
number read name d = get_as name (λ it. if is_whole it then Some (read it) else None) d

-- a member that is always one of a tenant's
abbrev pub sure : {A : Type 0} → (Data → Option A) → List ℕ → Data → Option (Option A)
sure read name d = option_map (λ it. Some it) (get_as name read d)

-- what two make, if both are there
abbrev pub two : {A B C : Type 0} → (A → B → C) → Option A → Option B → Option C
two make a b = a >>= λ x. option_map (make x) b

abbrev pub three : {A B C D : Type 0} → (A → B → C → D) → Option A → Option B → Option C → Option D
three make a b c = a >>= λ x. two (make x) b c

abbrev pub errors : List Error
errors = LineTooLong ∷ BadJson ∷ BadRequest ∷ BadProgram ∷ UnknownTenant ∷ UnknownJob ∷ JobLimit ∷ HistoryFull ∷ NoMemory ∷ TaskLimit ∷ NoTenant ∷ Busy ∷ ConnectionLimit ∷ []

-- the error whose code and name stand there
abbrev pub error_in : Data → Option Error
error_in d = get_as (codes "code") whole d >>= (λ code. find (λ e. code_of e == code) errors) >>= λ e. if is_word (codes "error") (name_of e) d then Some e else None

abbrev pub fault_of : Data → Option JobFault
fault_of d = whole d >>= λ code. find (λ f. fault_code_of f == code) (fault.Division ∷ fault.Fuel ∷ fault.TooDeep ∷ fault.TaskLimit ∷ fault.MissingWait ∷ [])

-- a job under the status of that word
abbrev pub job_that : List ℕ → Option (Option Status) → Data → Option (Option Reply)
job_that word status d = if is_word (codes "status") word d then two (two Job) (number whole (codes "job") d) status else None

abbrev pub made_in : Data → Option (Option Reply)
made_in d = only 1 d (option_map (option_map Made) (number whole (codes "job") d))

abbrev pub epoch_in : Data → Option (Option Reply)
epoch_in d = only 1 d (option_map (option_map Epoch) (number whole (codes "epoch") d))

abbrev pub released_in : Data → Option (Option Reply)
released_in d = only 1 d (option_map (option_map Released) (number whole (codes "released") d))

-- A tenant never answers with its name.
abbrev pub named_in : Data → Option (Option Reply)
named_in d = only 1 d (option_map (λ name. None) (get_as (codes "tenant") as_str d))

abbrev pub refusal_in : Data → Option (Option Reply)
refusal_in d = only 2 d (option_map (λ error. Some (Refused error)) (error_in d))

abbrev pub placed_in : Data → Option (Option Reply)
placed_in d = only 2 d (two (two Placed) (number whole (codes "job") d) (number (below 256) (codes "slot") d))

abbrev pub canceled_in : Data → Option (Option Reply)
canceled_in d = only 2 d (two (two reply.Cancelled) (number whole (codes "job") d) (sure as_bool (codes "first") d))

abbrev pub running_in : Data → Option (Option Reply)
running_in d = only 2 d (job_that (codes "running") (Some (Some Running)) d)

abbrev pub job_canceled_in : Data → Option (Option Reply)
job_canceled_in d = only 2 d (job_that (codes "canceled") (Some (Some Cancelled)) d)

abbrev pub complete_in : Data → Option (Option Reply)
complete_in d = only 3 d (job_that (codes "complete") (option_map (option_map Complete) (number integer (codes "value") d)) d)

abbrev pub faulted_in : Data → Option (Option Reply)
faulted_in d = only 3 d (job_that (codes "fault") (option_map (option_map Fault) (number fault_of (codes "fault") d)) d)

abbrev pub arena_in : Data → Option (Option Reply)
arena_in d =
    only 3 d (three (three Arena) (sure level_of (codes "priority") d)
    (number (below 256) (codes "reserved") d) (number (below 256) (codes "slots") d))

abbrev pub cells_in : Data → Option (Option Reply)
cells_in d =
    only 3 d (three (three Cells) (number key (codes "key") d)
    (number whole (codes "count") d) (number integer (codes "sum") d))

-- the first of these shapes that it has
abbrev pub reply_in : Data → Option (Option Reply)
reply_in d = fold option_or None
    (made_in d ∷ epoch_in d ∷ released_in d ∷ named_in d ∷ refusal_in d ∷ placed_in d ∷ canceled_in d
    ∷ running_in d ∷ job_canceled_in d ∷ complete_in d ∷ faulted_in d ∷ arena_in d ∷ cells_in d ∷ [])

-- It is read as this reply.
abbrev pub SpellsReply : Data → Reply → Type 0
SpellsReply d r = reply_in d ≡ Some (Some r)
