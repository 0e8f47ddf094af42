-- What a host writes is ASCII, and a line of it has no newline.
use Rattle.std.proofs.Common.{◌≡◌, ℕ, zero, suc, ◌+◌, ◌<◌, ◌^◌, ℤ, pos, negsuc, Bool, true, false, ◌&&◌, List, [], ◌∷◌, ◌++◌, codes, FitsSigned, refl, arith, w64, ltb-true, ne_eqb, nat_lt}
use Rattle.std.specs.Fmt.{decimal, signed_decimal}
use Rattle.std.specs.List.{All}
use Rattle.std.specs.Str.{IsAscii, IsUtf8}
use Rattle.std.specs.Str.Parse.{AllDigits}
use Rattle.std.proofs.lemmas.Bool.{and_parts}
use Rattle.std.proofs.lemmas.Fmt.{decimal_is_IsNumeral, IsAscii-decimal, IsAscii-signed}
use Rattle.std.proofs.lemmas.List.Elements.{All-append, All-cons, All-nil}
use Rattle.std.proofs.lemmas.Str.{IsAscii-append, IsUtf8-from_ascii}
use Rattle.std.proofs.lemmas.Str.Parse.{digit_from_value}
use Rattle.job_language.specs.ErrorCodes.{fault_code_of}
use Rattle.job_language.specs.declared.answers.Status.{Status}
use Rattle.job_language.specs.declared.answers.Status.TheVariants.{Cancelled, Complete, Fault, Running}
use Rattle.job_language.specs.declared.errors.JobFault.{JobFault}
use Rattle.job_language.specs.declared.errors.JobFault.TheVariants.{Division, Fuel, TooDeep, TaskLimit, MissingWait}
use Rattle.reply_writer.specs.ReplyText.{job_text}
use Rattle.term_life.specs.declared.outcomes.Outcome.{Outcome}
use Rattle.request_reader.specs.Lines.{newline}
use Rattle.host_folder.specs.Reading.{is_newline}
use Rattle.host_folder.specs.Results.{outcome_line, HasValueInRange, IsInRange}
use Rattle.host_folder.proofs.Reading.{size_below}

abbrev Other : ℕ → Type 0
Other b = is_newline b ≡ false

abbrev pub IsPlain : List ℕ → Type 0
IsPlain bytes = IsAscii bytes × All Other bytes

joined : (xs ys : List ℕ) → IsPlain xs → IsPlain ys → IsPlain (xs ++ ys)
joined xs ys h k = (IsAscii-append xs ys h.0 k.0, All-append Other xs ys h.1 k.1)

-- a word, tested byte by byte
abbrev is_word : List ℕ → Bool
is_word [] = true
is_word (b ∷ bytes) = (nat_lt 31 b && nat_lt b 128) && is_word bytes

word_ascii : (bytes : List ℕ) → is_word bytes ≡ true → IsAscii bytes
word_ascii [] h i = omega arith
word_ascii (b ∷ bytes) h zero = ltb-true b 128 (and_parts _ _ (and_parts _ _ h).0).1
word_ascii (b ∷ bytes) h (suc i) = word_ascii bytes (and_parts _ _ h).1 i

word_line : (bytes : List ℕ) → is_word bytes ≡ true → All Other bytes
word_line [] h = All-nil Other
word_line (b ∷ bytes) h =
    let above : 31 < b = ltb-true 31 b (and_parts _ _ (and_parts _ _ h).0).0 in
    All-cons Other b bytes (ne_eqb b newline (λ e. omega arith)) (word_line bytes (and_parts _ _ h).1)

word : (bytes : List ℕ) → is_word bytes ≡ true → IsPlain bytes
word bytes h = (word_ascii bytes h, word_line bytes h)

digits_line : (digits : List ℕ) → AllDigits 10 digits → All Other digits
digits_line [] h = All-nil Other
digits_line (c ∷ digits) h =
    let digit = digit_from_value c h.0 in
    All-cons Other c digits (ne_eqb c newline (λ e. omega (arith, digit))) (digits_line digits h.1)

number : (n : ℕ) → n < 2 ^ 64 → IsPlain (decimal n)
number n small = (IsAscii-decimal n small, digits_line (decimal n) (decimal_is_IsNumeral n small).0.1)

signed_line : (v : ℤ) → FitsSigned w64 v → All Other (signed_decimal v)
signed_line (pos n) fits = (number n (omega (arith, size_below (pos n) fits))).1
signed_line (negsuc n) fits = All-cons Other 45 (decimal (suc n)) (ne_eqb 45 newline (λ e. omega arith)) (number (suc n) (omega (arith, size_below (negsuc n) fits))).1

signed : (v : ℤ) → FitsSigned w64 v → IsPlain (signed_decimal v)
signed v fits = (IsAscii-signed v (size_below v fits), signed_line v fits)

around : (a x b : List ℕ) → is_word a ≡ true → IsPlain x → is_word b ≡ true → IsPlain (a ++ x ++ b)
around a x b h k l = joined (a ++ x) b (joined a x (word a h) k) (word b l)

code : (f : JobFault) → fault_code_of f < 2 ^ 64
code Division = omega arith
code Fuel = omega arith
code TooDeep = omega arith
code TaskLimit = omega arith
code MissingWait = omega arith

job_plain : (n : ℕ) (s : Status) → n < 2 ^ 64 → HasValueInRange s → IsPlain (job_text n s)
job_plain n Running small fits = around (codes "{\"job\":") (decimal n) (codes ",\"status\":\"running\"}") refl (number n small) refl
job_plain n Cancelled small fits = around (codes "{\"job\":") (decimal n) (codes ",\"status\":\"canceled\"}") refl (number n small) refl
job_plain n (Complete v) small fits =
    let front = around (codes "{\"job\":") (decimal n) (codes ",\"status\":\"complete\",\"value\":") refl (number n small) refl in
    joined (codes "{\"job\":" ++ decimal n ++ codes ",\"status\":\"complete\",\"value\":" ++ signed_decimal v) (codes "}")
    (joined (codes "{\"job\":" ++ decimal n ++ codes ",\"status\":\"complete\",\"value\":") (signed_decimal v) front (signed v fits)) (word (codes "}") refl)
job_plain n (Fault f) small fits =
    let front = around (codes "{\"fault\":") (decimal (fault_code_of f)) (codes ",\"job\":") refl (number (fault_code_of f) (code f)) refl in
    joined (codes "{\"fault\":" ++ decimal (fault_code_of f) ++ codes ",\"job\":" ++ decimal n) (codes ",\"status\":\"fault\"}")
    (joined (codes "{\"fault\":" ++ decimal (fault_code_of f) ++ codes ",\"job\":") (decimal n) front (number n small)) (word (codes ",\"status\":\"fault\"}") refl)

pub outcome_line_plain : (o : Outcome) → IsInRange o → All (λ b. is_newline b ≡ false) (outcome_line o)
outcome_line_plain o h = (job_plain o.job o.status h.0 h.1).1

pub outcome_text : (o : Outcome) → IsInRange o → IsUtf8 (outcome_line o)
outcome_text o h = IsUtf8-from_ascii (outcome_line o) (job_plain o.job o.status h.0 h.1).0
