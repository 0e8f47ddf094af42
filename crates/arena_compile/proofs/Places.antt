-- What is so of the function that begins at a place.
use Rattle.std.proofs.Common.{ℕ, List, Option, Some, None}
use Rattle.std.specs.Prelude.{IsSomeAnd, slice_get}
use Rattle.source_language.specs.declared.syntax.Function.{Function}
use Rattle.source_tokens.specs.Givens.{Givens}
use Rattle.source_reader.specs.declared.places.Place.{Place}
use Rattle.arena_compile.specs.Jobs.{IsFunctionAt}

if_some : (P Q : Function → Type 0) → ((f : Function) → P f → Q f) → (o : Option Function) → IsSomeAnd o P → IsSomeAnd o Q
if_some P Q h None has = has
if_some P Q h (Some f) has = h f has

pub has_too : (gs : Givens) (text : List ℕ) (number : ℕ) (place : Place) (P Q : Function → Type 0) → ((f : Function) → P f → Q f) → IsFunctionAt gs text number place P
    → IsFunctionAt gs text number place Q
has_too gs text number place P Q h at = record {
  functions = at.functions;
  said = at.said;
  begins = at.begins;
  has = if_some P Q h (slice_get at.functions number) at.has;
}
