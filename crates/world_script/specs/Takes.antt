-- What the lines of a script do to a world, and what each is answered.
use Rattle.std.specs.Prelude.{ℕ, ◌≡◌, List, Option, Some, None, slice_get, codes}
use Rattle.std.specs.Option.{option_map_or}
use Rattle.job_json.specs.Json.{◌>>=◌}
use Rattle.request_reader.specs.LineAsks.{value_in}
use Rattle.reply_writer.specs.AnswerText.{answer_text}
use Rattle.reply_writer.specs.MarketText.{market_text}
use Rattle.reply_writer.specs.declared.markets.MarketAnswer.TheVariants as market
use Rattle.market_config.specs.declared.calls.Call.{Call}
use Rattle.world_model.specs.declared.outcomes.Outcome.{Outcome}
use Rattle.world_model.specs.declared.outcomes.Outcome.TheVariants as outcome
use Rattle.world_model.specs.Raw.{Raw}
use Rattle.world_model.specs.Refusals.{IsAnswer, next}
use Rattle.world_model.specs.World.{World}
use Rattle.world_script.specs.Named.{raw_of}
use Rattle.world_script.specs.RawLines.{RawData, raw_line}

-- the step that a line spells
abbrev pub step_in : List ℕ → Option RawData
step_in line = value_in line >>= raw_line

-- A step with this outcome leads from one world to another. If its tenant is not there, it is not allowed now.
abbrev pub TakesRaw : Option Raw → World → Outcome → World → Type 0
TakesRaw None w o v = (o ≡ outcome.NotNow) × (v ≡ w)
TakesRaw (Some x) w o v = IsAnswer w x o × (v ≡ next w x o)

-- A line that is no step has no outcome.
abbrev pub TakesStep : List (List ℕ) → Option RawData → World → Option Outcome → World → Type 0
TakesStep names (Some d) w (Some o) v = TakesRaw (raw_of names d) w o v
TakesStep names None w None v = v ≡ w
TakesStep names d w o v = ⊥

-- the text of a call that a worker was handed, whose tenant is there
abbrev pub held_text : List (List ℕ) → Call → List ℕ
held_text names call = option_map_or (λ name. market_text (market.Held call.slot name)) (slice_get names call.tenant) (market_text market.NotNow)

abbrev pub outcome_text : List (List ℕ) → Outcome → List ℕ
outcome_text names (outcome.Own answer) = answer_text answer
outcome_text names outcome.Queued = market_text market.Queued
outcome_text names (outcome.Held call) = held_text names call
outcome_text names outcome.NoCall = market_text market.NoCall
outcome_text names outcome.NotNow = market_text market.NotNow

-- the text of an outcome, or that of a bad step if there is none
abbrev pub told : List (List ℕ) → Option Outcome → List ℕ
told names (Some o) = outcome_text names o
told names None = codes "{\"moved\":\"bad_step\"}"
