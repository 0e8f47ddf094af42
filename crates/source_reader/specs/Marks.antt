-- Parentheses and commas around values.
use Rattle.std.specs.Prelude.{Bool, true, false, List, [], ◌∷◌, Result, Ok, Err}
use Rattle.source_tokens.specs.declared.tokens.Kind.{Kind}
use Rattle.source_tokens.specs.declared.tokens.Kind.TheVariants as kind
use Rattle.source_tokens.specs.declared.tokens.Token.{Token}
use Rattle.source_reader.specs.declared.faults.Fault.{Fault}
use Rattle.source_reader.specs.declared.faults.Wrong.TheVariants as wrong
use Rattle.source_reader.specs.Faults.{fault_at}

abbrev pub unexpected : {A : Type 0} → List Token → Result A Fault
unexpected ts = Err (fault_at ts wrong.Unexpected)

abbrev pub after_open_of : Kind → List Token → List Token → Result (List Token) Fault
after_open_of kind.Open rest ts = Ok rest
after_open_of k rest ts = unexpected ts

abbrev pub after_open : List Token → Result (List Token) Fault
after_open [] = unexpected []
after_open (t ∷ ts) = after_open_of t.kind ts (t ∷ ts)

abbrev pub after_close_of : Kind → List Token → List Token → Result (List Token) Fault
after_close_of kind.Close rest ts = Ok rest
after_close_of k rest ts = unexpected ts

abbrev pub after_close : List Token → Result (List Token) Fault
after_close [] = unexpected []
after_close (t ∷ ts) = after_close_of t.kind ts (t ∷ ts)

abbrev pub is_open_of : Kind → Bool
is_open_of kind.Open = true
is_open_of k = false

abbrev pub is_open : List Token → Bool
is_open [] = false
is_open (t ∷ ts) = is_open_of t.kind

abbrev pub is_close_of : Kind → Bool
is_close_of kind.Close = true
is_close_of k = false

abbrev pub is_close : List Token → Bool
is_close [] = false
is_close (t ∷ ts) = is_close_of t.kind

-- A function has as many arguments as parameters. Otherwise the fault is at its name, which is the first of the tokens `called`.
abbrev pub wrong_count : {A : Type 0} → (called : List Token) → Result A Fault
wrong_count called = Err (fault_at called wrong.ArgumentCount)

abbrev pub after_last_of : Kind → (called rest ts : List Token) → Result (List Token) Fault
after_last_of kind.Close called rest ts = Ok rest
after_last_of kind.Comma called rest ts = wrong_count called
after_last_of k called rest ts = unexpected ts

-- behind the last argument
abbrev pub after_last : (called ts : List Token) → Result (List Token) Fault
after_last called [] = unexpected []
after_last called (t ∷ ts) = after_last_of t.kind called ts (t ∷ ts)

abbrev pub before_next_of : Kind → (called rest ts : List Token) → Result (List Token) Fault
before_next_of kind.Comma called rest ts = Ok rest
before_next_of kind.Close called rest ts = wrong_count called
before_next_of k called rest ts = unexpected ts

-- behind an argument, where another one is wanted
abbrev pub before_next : (called ts : List Token) → Result (List Token) Fault
before_next called [] = unexpected []
before_next called (t ∷ ts) = before_next_of t.kind called ts (t ∷ ts)
