-- Where a number that was written ends, and that it is read again.
use Rattle.std.proofs.Common.{◌≡◌, ◌≢◌, ℕ, ◌<◌, ◌^◌, ℤ, pos, negsuc, List, [], ◌∷◌, ◌++◌, Option, Some, None, Result, Ok, Err, FitsSigned}
use Rattle.std.proofs.Common.{length, get_or, slice_index, zero, suc, sym, ap, ap₂, subst, ◌∙◌, arith, w64}
use Rattle.std.specs.Option.{MatchOption}
use Rattle.std.specs.Fmt.{decimal, signed_decimal}
use Rattle.std.specs.Result.{MatchResult, OkIff, result_ok}
use Rattle.std.specs.Str.{IsUtf8}
use Rattle.std.specs.Str.Parse.{AllDigits, digits_value, ParsesSigned, ParsesUnsigned}
use Rattle.std.proofs.lemmas.Fmt.{decimal_is_IsNumeral, decimal_digit, decimal_injective, decimal_nonempty, decimal-digits_value, first_decimal, parse-signed_decimal}
use Rattle.std.proofs.lemmas.List.{append_cancel_left, append_cancel_right}
use Rattle.std.proofs.lemmas.Str.Parse.{digit_at, numerals_by_value, parse_plain, tells_digits}
use Rattle.std.proofs.lemmas.Str.Pattern.{IsSplitOnceResult, split_after, split_parts}
use Rattle.host_folder.specs.Reading.{IsNumberOf, ReadsNumber}
use denote.Ref.{Bor}
use lib.Signed.{mag}

module _ (n : ℕ) (small : n < 2 ^ 64) where
  -- no digit is a byte below `0`
  no_end : (end i : ℕ) → end < 48 → i < length (decimal n) → get_or (decimal n) i 0 ≢ end
  no_end end i low within e = omega (arith, digit_at (decimal n) i (decimal_is_IsNumeral n small).0.1 within)

  pub cut_at : (end : ℕ) (text rest : List ℕ) (r : Option (Bor (List ℕ) × Bor (List ℕ))) → IsSplitOnceResult end text r → end < 48 → text ≡ decimal n ++ (end ∷ rest)
      → MatchOption r ⊥ (λ x. (x.0.now ≡ decimal n) × (x.1.now ≡ rest))
  cut_at end text rest r h low e = split_after end text (decimal n) rest r h (omega arith) e (λ i within. no_end end i low within)

-- The size of a number of 64 bits.
pub size_below : (v : ℤ) → FitsSigned w64 v → mag v < 2 ^ 63
size_below (pos n) fits = omega (arith, fits.sfits)
size_below (negsuc n) fits = omega (arith, fits.sfits)

-- A value between a word and one more byte is read again.
module _ (v : ℤ) (fits : FitsSigned w64 v) (word text value : List ℕ) (end : ℕ) (low : end < 128) (is : text ≡ word ++ (signed_decimal v ++ end ∷ [])) (cut : text ≡ word ++ value) where
  pub value_there : value ≡ signed_decimal v ++ end ∷ []
  value_there = append_cancel_left word value (signed_decimal v ++ end ∷ []) (sym cut ∙ is)

  pub value_read : {E : Type 0} (digits : List ℕ) (r : Result ℤ E) → value ≡ digits ++ end ∷ [] → ParsesSigned w64 10 digits r → r ≡ Ok v
  value_read digits r alone h = parse-signed_decimal w64 v digits r fits (size_below v fits) (append_cancel_right digits (signed_decimal v) (end ∷ []) (sym alone ∙ value_there)) h

-- Only the number 0 begins with a zero.
zero_alone : (n : ℕ) → n < 2 ^ 64 → slice_index (decimal n) 0 ≡ 48 → length (decimal n) ≡ 1
zero_alone zero small e = ap length (decimal_digit 0 (omega arith))
zero_alone (suc n) small e = absurd (omega (arith, e, first_decimal (suc n) (omega arith) small))

-- A number as it is written has no sign, and no zero before it.
pub is_plain_decimal : (n : ℕ) → n < 2 ^ 64 → (slice_index (decimal n) 0 ≢ 43) × (slice_index (decimal n) 0 ≡ 48 → length (decimal n) ≡ 1)
is_plain_decimal n small = (
  λ e. omega (arith, digit_at (decimal n) 0 (decimal_is_IsNumeral n small).0.1 (decimal_nonempty n small)),
  λ e. zero_alone n small e,
)

-- A number that is read without a sign, and without a zero before it, is written so.
pub plain_read : {E : Type 0} (digits : List ℕ) (r : Result ℕ E) (n : ℕ) → ParsesUnsigned 64 10 digits r → r ≡ Ok n → slice_index digits 0 ≢ 43 → (slice_index digits 0 ≡ 48 → length digits ≡ 1)
    → (n < 2 ^ 64) × (decimal n ≡ digits)
plain_read digits r n h is unsigned alone =
    let own = numerals_by_value (AllDigits 10) tells_digits in
    let k = subst (λ q. OkIff q (AllDigits 10 digits × (0 < length digits) × (digits_value 10 digits < 2 ^ 64)) (digits_value 10 digits)) is (parse_plain own 64 digits r h unsigned) in
    (omega (arith, k.0.2, k.1), ap decimal k.1 ∙ decimal-digits_value own digits k.0.0 k.0.1 alone k.0.2)

-- What is cut off at the end of a number is that number, if it is plain.
module _ (end : ℕ) (text : List ℕ) (digits rest : Bor (List ℕ)) (cut : IsSplitOnceResult end text (Some (digits, rest))) (low : end < 48) where
  pub number_found : {E : Type 0} (n : ℕ) (r : Result ℕ E) → ParsesUnsigned 64 10 digits.now r → r ≡ Ok n → slice_index digits.now 0 ≢ 43 → (slice_index digits.now 0 ≡ 48 → length digits.now ≡ 1)
      → ReadsNumber end text (Some (n, rest.now))
  number_found n r h is unsigned alone =
      let k = plain_read digits.now r n h is unsigned alone in
      let parts = split_parts end text (Some (digits, rest)) cut (omega arith) in
      record {
        said = (k.0, parts.0 ∙ ap (λ ds. ds ++ (end ∷ rest.now)) (sym k.1));
        found = λ m more small e.
            let there = cut_at m small end text more (Some (digits, rest)) cut low e in
            ap₂ (λ (a : ℕ) (b : List ℕ). Some (a, b)) (decimal_injective n m k.0 small (k.1 ∙ there.0)) there.1;
      }

  pub no_number : ((slice_index digits.now 0 ≢ 43) × (slice_index digits.now 0 ≡ 48 → length digits.now ≡ 1) → ⊥) → ReadsNumber end text None
  no_number other = record {
    said = tt;
    found = λ m more small e.
        let there = cut_at m small end text more (Some (digits, rest)) cut low e in
        absurd (other (subst (λ ds. (slice_index ds 0 ≢ 43) × (slice_index ds 0 ≡ 48 → length ds ≡ 1)) (sym there.0) (is_plain_decimal m small)));
  }

pub number_is : {E : Type 0} (text : List ℕ) (n : ℕ) (r : Result ℕ E) → ParsesUnsigned 64 10 text r → r ≡ Ok n
    → slice_index text 0 ≢ 43 → (slice_index text 0 ≡ 48 → length text ≡ 1) → IsNumberOf text (Some n)
number_is text n r h is unsigned alone =
    let k = plain_read text r n h is unsigned alone in
    record { said = (k.0, sym k.1); found = λ m small e. ap (λ v. Some v) (decimal_injective n m k.0 small (k.1 ∙ e)) }

pub number_is_not : (text : List ℕ) → ((slice_index text 0 ≢ 43) × (slice_index text 0 ≡ 48 → length text ≡ 1) → ⊥) → IsNumberOf text None
number_is_not text other = record {
  said = tt;
  found = λ m small e. absurd (other (subst (λ ds. (slice_index ds 0 ≢ 43) × (slice_index ds 0 ≡ 48 → length ds ≡ 1)) (sym e) (is_plain_decimal m small)));
}

-- Bytes of which no text is made are none.
pub no_text : {E : Type 0} (line : List ℕ) (V : E → Type 0) (r : Result (Bor (List ℕ)) E) → MatchResult r (λ s. (s.now ≡ line) × IsUtf8 line) (λ e. ¬ (IsUtf8 line) × V e)
    → result_ok r ≡ None → ¬ (IsUtf8 line)
no_text line V (Ok s) h e u = cc
no_text line V (Err x) h e u = h.0 u
