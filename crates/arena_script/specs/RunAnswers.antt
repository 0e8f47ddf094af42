-- The bytes that answer the lines of a world's script.
use Rattle.std.specs.Prelude.{◌≡◌, ℕ, List, Option, None}
use Rattle.job_language.specs.Configuration.{Configuration, names_of}
use Rattle.request_reader.specs.LineConfigs.{config_in}
use Rattle.request_reader.specs.Lines.{Line, whole, too_long}
use Rattle.world_model.specs.World.{World, start}
use Rattle.world_model.specs.declared.outcomes.Outcome.{Outcome}
use Rattle.world_script.specs.Takes.{TakesStep, step_in, told}
use Rattle.arena_script.specs.Answered.{AnswersFrom, StartsFrom, HasNoFirst}

abbrev pub TakesLine : List (List ℕ) → Line → World → Option Outcome → World → Type 0
TakesLine names (whole text) old o new = TakesStep names (step_in text) old o new
TakesLine names too_long old o new = (o ≡ None) × (new ≡ old)

-- A line is taken, and its outcome told.
abbrev pub TellsOutcome : List (List ℕ) → World → Line → List ℕ → World → Type 0
TellsOutcome names old line said new = (o : Option Outcome) × TakesLine names line old o new × (said ≡ told names o)

-- the first line is a configuration, and the others are the steps of its world
abbrev pub AnswersRun : List Line → Option (List ℕ) → Option (List ℕ) → Type 0
AnswersRun = AnswersFrom config_in (λ (c : Configuration). TellsOutcome (names_of c.tenants)) start

-- a part of what answers them; nothing if the first line is no configuration
abbrev pub StartsRun : List Line → Option (List ℕ) → Option (List ℕ) → Type 0
StartsRun = StartsFrom config_in (λ (c : Configuration). TellsOutcome (names_of c.tenants)) start

-- no first line, or one that is no configuration
abbrev pub HasNoConfig : List Line → Type 0
HasNoConfig = HasNoFirst config_in
