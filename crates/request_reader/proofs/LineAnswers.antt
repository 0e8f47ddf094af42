-- The answer to a line, by the JSON value that it is.
use Rattle.std.proofs.Common.{◌≡◌, ℕ, ◌≤◌, List, length, Bool, true, false, Option, Some, None, Result, cond, refl, sym, ap, ◌∙◌}
use Rattle.std.specs.Option.{ok_or}
use Rattle.std.specs.Str.{IsUtf8, is_utf8}
use Rattle.std.proofs.lemmas.Bool.{false_from_ne_true, le-ltb}
use Rattle.std.proofs.lemmas.Str.{IsUtf8-from_is_utf8, is_utf8-from_IsUtf8}
use Rattle.serde_json.specs.Data.{Data}
use Rattle.serde_json.specs.Read.{read}
use Rattle.job_language.specs.declared.errors.Error.{Error}
use Rattle.job_language.specs.declared.errors.Error.TheVariants as error
use Rattle.job_json.specs.Json.{result_map}
use Rattle.request_reader.specs.declared.requests.Asked.{Asked}
use Rattle.request_reader.specs.declared.requests.TheConstants.{MAX_REQUEST}
use Rattle.request_reader.specs.Answers.{asked_data}
use Rattle.request_reader.specs.Exact.{ExactOrNoMemory}
use Rattle.request_reader.proofs.Exactness.{Exact-wanted}
use Rattle.request_reader.specs.LineAsks.{value_in, asked_in, asked_by, request_of, IsShortText, IsText}

pub value_in-not_text : (line : List ℕ) → ¬ IsUtf8 line → None ≡ value_in line
value_in-not_text line h = rw (false_from_ne_true (is_utf8 line) (λ e. h (IsUtf8-from_is_utf8 line e))) refl

pub value_in-text : (line text : List ℕ) (r : Option Data) → (text ≡ line) × IsUtf8 line → read text ≡ r → r ≡ value_in line
value_in-text line text r h e =
    let utf8 : is_utf8 line ≡ true = is_utf8-from_IsUtf8 line h.1 in
    rw utf8 (sym e ∙ ap read h.0)

IsText-from_value : (line : List ℕ) (d : Data) (t : Bool) → is_utf8 line ≡ t → Some d ≡ cond t (read line) None → IsText line
IsText-from_value line d true e h = e
IsText-from_value line d false e h = cc

module _ (line : List ℕ) (short : length line ≤ MAX_REQUEST) where
  pub asked_by-value : (r : Option Data) → r ≡ value_in line → asked_by line ≡ asked_in (ok_or r error.BadJson)
  asked_by-value r is = rw (le-ltb MAX_REQUEST (length line) short) (ap (λ o. asked_in (ok_or o error.BadJson)) (sym is))

  pub exact-line : (d : Data) → Some d ≡ value_in line → (answer : Result Asked Error) → result_map asked_data answer ≡ request_of d →
      ExactOrNoMemory asked_data (IsShortText line) answer (asked_by line)
  exact-line d is answer h = Exact-wanted asked_data (IsShortText line) (asked_by line) (IsText-from_value line d (is_utf8 line) refl is, short) answer (h ∙ sym (asked_by-value (Some d) is))
