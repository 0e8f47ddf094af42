-- The words of the host, and what is read from them.
use Rattle.std.specs.Prelude.{◌≡◌, ◌⊎◌, ℕ, List, Option, Some, None, false, codes}
use Rattle.clap.specs.Words.{App, Row, Text, app_of, first_of, matches_of, new_app, takes, with_rule}
use Rattle.clap.specs.declared.builder.command.Command.{Command}
use Rattle.program_words.specs.Durable.{IsGivenDurable, IsMisgivenDurable}
use Rattle.program_words.specs.Numbers.{NamesNumber, IsGiven, IsMisgiven}
use Rattle.program_words.specs.declared.numbers.Range.{Range}
use Rattle.program_words.specs.Rules.{option_rule, required_rule}
use Rattle.program_words.specs.declared.host.HostWords.{HostWords}

-- what it must be called with
abbrev pub needed_app : App
needed_app = with_rule (with_rule (new_app (codes "arena-host")) (required_rule (codes "config"))) (required_rule (codes "run"))

-- the same with how it serves
abbrev pub serving_app : App
serving_app = with_rule (with_rule (with_rule (with_rule needed_app
    (option_rule (codes "connections"))) (option_rule (codes "rotate-at"))) (option_rule (codes "keep"))) (option_rule (codes "finish"))

-- the same with how long connections may do nothing, and how many a tenant may have
abbrev pub limiting_app : App
limiting_app = with_rule (with_rule (with_rule serving_app
    (option_rule (codes "hello-seconds"))) (option_rule (codes "idle-seconds"))) (option_rule (codes "tenant-connections"))

-- the host's command
abbrev pub host_app : App
host_app = with_rule (with_rule (with_rule limiting_app (option_rule (codes "durable"))) (option_rule (codes "mode"))) (option_rule (codes "group"))

abbrev pub IsHostCommand : Command → Type 0
IsHostCommand c = app_of c ≡ host_app

-- what the words give to the options
abbrev pub options_in : List Text → List Row
options_in words = matches_of host_app words

-- the values that each number may have
abbrev pub decimal : (least most : ℕ) → Range
decimal least most = record { radix = 10; least = least; most = most }

-- of all connections, and of those of a tenant
abbrev pub connections_range : Range
connections_range = decimal 1 64

abbrev pub rotate_range : Range
rotate_range = decimal 1 100

abbrev pub keep_range : Range
keep_range = decimal 1 999999

abbrev pub finish_range : Range
finish_range = decimal 0 86400

-- of hellos and of idleness
abbrev pub seconds_range : Range
seconds_range = decimal 0 86400

abbrev pub mode_range : Range
mode_range = record { radix = 8; least = 0; most = 511 }

abbrev pub group_range : Range
group_range = decimal 0 4294967294

-- a number, if the option was given one
abbrev pub IsGivenOption : Range → Option Text → Option ℕ → Type 0
IsGivenOption range value None = value ≡ None
IsGivenOption range value (Some n) = (text : Text) × ((value ≡ Some text) × NamesNumber range text n)

-- What was read is what the options were given, or what stands for those that were not given.
pub record AreRead (options : List Row) (w : HostWords) : Type 0 where
  pub config : first_of (codes "config") options ≡ Some w.config.now
  pub run : first_of (codes "run") options ≡ Some w.run.now
  pub connections : IsGiven connections_range 64 (first_of (codes "connections") options) w.connections
  pub tenant_connections : IsGiven connections_range 64 (first_of (codes "tenant-connections") options) w.tenant_connections
  pub rotate_at : IsGiven rotate_range 50 (first_of (codes "rotate-at") options) w.rotate_at
  pub keep : IsGiven keep_range 8 (first_of (codes "keep") options) w.keep
  pub finish : IsGiven finish_range 10 (first_of (codes "finish") options) w.finish
  pub hello_seconds : IsGiven seconds_range 60 (first_of (codes "hello-seconds") options) w.hello_seconds
  pub idle_seconds : IsGiven seconds_range 0 (first_of (codes "idle-seconds") options) w.idle_seconds
  pub durable : IsGivenDurable (first_of (codes "durable") options) w.durable
  pub mode : IsGiven mode_range 384 (first_of (codes "mode") options) w.mode
  pub group : IsGivenOption group_range (first_of (codes "group") options) w.group

-- A value is missing, or names no number of its range.
abbrev pub LackValues : List Row → Type 0
LackValues options = (first_of (codes "config") options ≡ None) ⊎ (first_of (codes "run") options ≡ None)
    ⊎ IsMisgiven connections_range (first_of (codes "connections") options)
    ⊎ IsMisgiven connections_range (first_of (codes "tenant-connections") options)
    ⊎ IsMisgiven rotate_range (first_of (codes "rotate-at") options)
    ⊎ IsMisgiven keep_range (first_of (codes "keep") options)
    ⊎ IsMisgiven finish_range (first_of (codes "finish") options)
    ⊎ IsMisgiven seconds_range (first_of (codes "hello-seconds") options)
    ⊎ IsMisgiven seconds_range (first_of (codes "idle-seconds") options)
    ⊎ IsMisgivenDurable (first_of (codes "durable") options)
    ⊎ IsMisgiven mode_range (first_of (codes "mode") options)
    ⊎ IsMisgiven group_range (first_of (codes "group") options)

-- The command doesn't take the words, or a value is missing or names no number.
abbrev pub AreRefused : List Text → Type 0
AreRefused words = (takes host_app words ≡ false) ⊎ LackValues (options_in words)
