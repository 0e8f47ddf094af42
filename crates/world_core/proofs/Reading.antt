-- What is known of a line from what is read in it.
use Rattle.std.proofs.Common.{◌≡◌, ℕ, List, length, Result, Ok, Err, nat_lt, refl, sym, ◌∙◌, arith, inl, inr}
use Rattle.std.specs.Str.{is_utf8}
use Rattle.tenant_model.proofs.Within.{either_way}
use Rattle.job_language.specs.declared.errors.Error.{Error}
use Rattle.job_language.specs.declared.errors.Error.TheVariants as error
use Rattle.job_language.specs.declared.requests.Request.{Request}
use Rattle.request_reader.specs.Asks.{AskedData}
use Rattle.request_reader.specs.LineAsks.{value_of, asked_in, asked_by, IsText, IsShortText}
use Rattle.request_reader.specs.declared.requests.TheConstants.{MAX_REQUEST}
use Rattle.world_model.specs.OwnSteps.{ready_in, request_of}

ok_is_not_err : (a : AskedData) (e : Error) → Ok a ≡ Err e → ⊥
ok_is_not_err a e same = cc

valued_text : (text : List ℕ) (a : AskedData) → asked_in (value_of text) ≡ Ok a → IsText text
valued_text text a is = elim (either_way (is_utf8 text)) [
  | inl good ↦ good
  | inr bad ↦
      let none : asked_in (value_of text) ≡ Err error.BadJson = rw bad refl in
      absurd (ok_is_not_err a _ (sym is ∙ none))
]

-- A line that asks for something is a text, and not too long.
asked_short : (text : List ℕ) (a : AskedData) → asked_by text ≡ Ok a → IsShortText text
asked_short text a is = elim (either_way (nat_lt MAX_REQUEST (length text))) [
  | inl long ↦
      let none : asked_by text ≡ Err error.LineTooLong = rw long refl in
      absurd (ok_is_not_err a _ (sym is ∙ none))
  | inr short ↦
      let same : asked_by text ≡ asked_in (value_of text) = rw short refl in
      (valued_text text a (sym same ∙ is), grind (arith, short))
]

ready_asked : (r : Result AskedData Error) (request : Request) → ready_in r ≡ Ok request → (a : AskedData) × (r ≡ Ok a)
ready_asked (Ok a) request is = (a, refl)
ready_asked (Err e) request is = cc

-- and so is one that brings a request
pub request_short : (text : List ℕ) (request : Request) → request_of text ≡ Ok request → IsShortText text
request_short text request is = let a = ready_asked (asked_by text) request is in asked_short text a.0 a.1
