-- The words for how far what a client was told outlives the host.
use Rattle.std.specs.Prelude.{◌≡◌, ℕ, List, [], ◌∷◌, MatchOption, None, Option, Some, codes, find}
use Rattle.std.specs.Str.{bytes_eq}
use Rattle.clap.specs.Words.{Text}
use Rattle.program_words.specs.declared.durable.Durable.{Durable}
use Rattle.program_words.specs.declared.durable.Durable.TheVariants.{Off, Write, Second, Reply}

abbrev pub durable_word : Durable → List ℕ
durable_word Off = codes "off"
durable_word Write = codes "write"
durable_word Second = codes "second"
durable_word Reply = codes "reply"

abbrev pub durable_named : List ℕ → Option Durable
durable_named word = find (λ durable. bytes_eq word (durable_word durable)) (Off ∷ Write ∷ Second ∷ Reply ∷ [])

-- what an option was given, or what stands for it if it was given nothing
abbrev pub IsGivenDurable : Option Text → Durable → Type 0
IsGivenDurable value durable = MatchOption value (durable ≡ Write) (λ word. durable_named word ≡ Some durable)

-- The option was given another word.
abbrev pub IsMisgivenDurable : Option Text → Type 0
IsMisgivenDurable value = MatchOption value ⊥ (λ word. durable_named word ≡ None)
