-- The lines of a world's script can all be taken and answered.
use Rattle.std.proofs.Common.{◌≡◌, ℕ, List, Option, Some, None, inl, refl}
use Rattle.job_language.specs.Configuration.{Configuration, names_of}
use Rattle.request_reader.specs.LineConfigs.{config_in}
use Rattle.request_reader.specs.Lines.{Line, whole, too_long}
use Rattle.tenant_model.specs.State.{State}
use Rattle.world_model.specs.Raw.{Raw}
use Rattle.world_model.specs.World.{World, start, step}
use Rattle.world_model.specs.Refusals.{next}
use Rattle.world_model.specs.declared.outcomes.Outcome.{Outcome}
use Rattle.world_model.specs.declared.outcomes.Outcome.TheVariants.{NotNow}
use Rattle.world_script.specs.Knowing.{Knows, Named, Starts}
use Rattle.world_script.specs.Named.{raw_of}
use Rattle.world_script.specs.RawLines.{RawData}
use Rattle.world_script.specs.Takes.{TakesRaw, TakesStep, step_in, told}
use Rattle.arena_script.specs.Answered.{AnswersLater, AnswersPart}
use Rattle.arena_script.specs.RunAnswers.{StartsRun, TakesLine, TellsOutcome}
use Rattle.arena_script.proofs.Parts.{TakesAll, starts_from_none}

take_raw : (raw : Option Raw) (w : World) → (o : Outcome) × (v : World) × TakesRaw raw w o v
take_raw None w = (NotNow, w, (refl, refl))
take_raw (Some x) w = ((step w x).0, next w x (step w x).0, (inl refl, refl))

take_step : (names : List (List ℕ)) (it : Option RawData) (w : World) → (o : Option Outcome) × (v : World) × TakesStep names it w o v
take_step names None w = (None, w, refl)
take_step names (Some d) w = let taken = take_raw (raw_of names d) w in (Some taken.0, taken.1, taken.2)

take_line : (names : List (List ℕ)) (line : Line) (w : World) → (o : Option Outcome) × (v : World) × TakesLine names line w o v
take_line names (whole text) w = take_step names (step_in text) w
take_line names too_long w = (None, w, (refl, refl))

-- each line of the script has an answer
pub tells_all : (names : List (List ℕ)) → TakesAll (TellsOutcome names)
tells_all names line w = let taken = take_line names line w in (told names taken.0, taken.1, (taken.0, taken.2, refl))

pub starts_none : (lines : List Line) (known : Option (List ℕ)) → StartsRun lines known known
starts_none = starts_from_none config_in (λ (c : Configuration). TellsOutcome (names_of c.tenants)) start (λ (c : Configuration). tells_all (names_of c.tenants))

-- A world is there only for a configuration, and is its start.
pub started : {A : Type 0} (stands_for : A → State → Type 0) (o : Option Configuration) (held : Named A) → Starts stands_for o (Some held) →
    (c : Configuration) × (o ≡ Some c) × Knows stands_for (names_of c.tenants) (start c) held
started {A = A} stands_for None held is = absurd is
started {A = A} stands_for (Some c) held is = (c, refl, is)

-- A part of what answers the lines after a configuration.
pub later_part : (o : Option Configuration) (c : Configuration) → o ≡ Some c → (lines : List Line) (before after : Option (List ℕ)) →
    AnswersPart (TellsOutcome (names_of c.tenants)) lines (start c) before after →
    AnswersLater (λ (b : Configuration). TellsOutcome (names_of b.tenants)) start o lines before after
later_part o c is lines before after part = rw is part
