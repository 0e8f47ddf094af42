-- What clap knows of an option.
use Rattle.std.specs.Prelude.{Some, true}
use Rattle.clap.specs.Words.{Rule, Text, new_rule}
use Rattle.clap.specs.declared.builder.action.ArgAction.TheVariants.{Set}

-- an option that takes a value
abbrev pub option_rule : Text → Rule
option_rule name = record (new_rule name) { long = Some name; action = Some Set }

-- one that must be there
abbrev pub required_rule : Text → Rule
required_rule name = record (option_rule name) { required = true }
