-- The words of the server, and what is read from them.
use Rattle.std.specs.Prelude.{◌≡◌, ◌≤◌, ◌⊎◌, ℕ, List, Option, Some, None, MatchOption, false, codes, option_map}
use Rattle.std.specs.Str.Parse.{IsNumeral, digits_value, without_leading_plus}
use Rattle.clap.specs.Words.{App, Row, Text, app_of, first_of, matches_of, new_app, takes, with_rule}
use Rattle.clap.specs.declared.builder.command.Command.{Command}
use Rattle.program_words.specs.Rules.{option_rule, required_rule}
use Rattle.program_words.specs.declared.server.ServerWords.{ServerWords}

-- the server's command
abbrev pub server_app : App
server_app =
    with_rule (with_rule (with_rule (with_rule (new_app (codes "arena-server"))
    (required_rule (codes "config"))) (required_rule (codes "socket"))) (required_rule (codes "connections"))) (option_rule (codes "dump"))

abbrev pub IsServerCommand : Command → Type 0
IsServerCommand c = app_of c ≡ server_app

-- what the words give to the options
abbrev pub options_in : List Text → List Row
options_in words = matches_of server_app words

-- The text is that number of connections in decimal digits, with or without a plus before them, from 1 to 64.
pub record NamesCount (text : Text) (n : ℕ) : Type 0 where
  pub digits : IsNumeral 10 (without_leading_plus text)
  pub value : n ≡ digits_value 10 (without_leading_plus text)
  pub least : 1 ≤ n
  pub most : n ≤ 64

-- The text names no such number.
abbrev pub NamesNoCount : Text → Type 0
NamesNoCount text = (n : ℕ) → NamesCount text n → ⊥

-- What was read is what the options were given.
pub record AreRead (options : List Row) (w : ServerWords) : Type 0 where
  pub config : first_of (codes "config") options ≡ Some w.config.now
  pub socket : first_of (codes "socket") options ≡ Some w.socket.now
  pub connections : (text : Text) × ((first_of (codes "connections") options ≡ Some text) × NamesCount text w.connections)
  pub dump : first_of (codes "dump") options ≡ option_map (λ path. path.now) w.dump

-- The option has no value that names a number of connections.
abbrev pub LacksCount : Option Text → Type 0
LacksCount value = MatchOption value (Unit {0}) NamesNoCount

-- An option that must have a value has none.
abbrev pub LackValues : List Row → Type 0
LackValues options = (first_of (codes "config") options ≡ None) ⊎ (first_of (codes "socket") options ≡ None)
    ⊎ LacksCount (first_of (codes "connections") options)

-- The command doesn't take the words, or a value is missing.
abbrev pub AreRefused : List Text → Type 0
AreRefused words = (takes server_app words ≡ false) ⊎ LackValues (options_in words)
