-- The names of files, written and read.
use Rattle.std.proofs.Common.{◌≡◌, ◌≢◌, ℕ, zero, suc, ◌+◌, ◌-◌, ◌<◌, ◌^◌, true, false, List, [], ◌∷◌, ◌++◌, Option, Result, Ok}
use Rattle.std.proofs.Common.{length, get_or, replicate, codes, refl, sym, ap, subst, ◌∙◌, append-nil, length-append, true≢false, arith}
use Rattle.std.specs.Fmt.{char_count, decimal, format_spec, padded_integral}
use Rattle.std.specs.List.{list_all}
use Rattle.std.specs.Option.{MatchOption}
use Rattle.std.specs.Str.Parse.{AllDigits, digits_value, ParsesUnsigned}
use Rattle.std.proofs.lemmas.Bool.{and_parts}
use Rattle.std.proofs.lemmas.Fmt.{decimal_is_IsNumeral}
use Rattle.std.proofs.lemmas.List.{append_cancel_left, append_cancel_right}
use Rattle.std.proofs.lemmas.Str.Parse.{digit_at, numerals_by_value, parse_gives, tells_digits}
use Rattle.std.proofs.lemmas.Str.Pattern.{IsSplitOnceResult, split_after}
use Rattle.job_language.specs.Name.{is_name, is_name_byte}
use Rattle.host_folder.specs.Paths.{journal_path, term_digits, term_path}
use denote.Ref.{Bor}

-- six digits at least, with zeros before them
pub padded : (digits : List ℕ) → padded_integral (format_spec 32 0 4 6 18446744073709551615) false [] digits ≡ replicate (6 - length digits) 48 ++ digits
unfolding padded_integral char_count
padded digits =
    let pad : 6 - length digits - 0 - 0 ≡ 6 - length digits = omega arith in
    (λ i. replicate (pad i) 48 ++ append-nil digits i)

-- the same with what stands around it in a path
pub term_written : (folder front name : List ℕ) (term : ℕ) → front ≡ folder
    → front ++ (codes "/" ++ (name ++ (codes "." ++ (padded_integral (format_spec 32 0 4 6 18446744073709551615) false [] (decimal term) ++ codes ".jsonl")))) ≡ term_path folder name term
term_written folder front name term is = (λ i. is i ++ (codes "/" ++ (name ++ (codes "." ++ (padded (decimal term) i ++ codes ".jsonl")))))

pub journal_written : (folder front name : List ℕ) (term base : ℕ) → front ≡ folder
    → front ++ (codes "/" ++ (name ++ (codes "." ++ (padded_integral (format_spec 32 0 4 6 18446744073709551615) false [] (decimal term) ++ (codes "." ++ (decimal base ++ codes ".jsonl"))))))
    ≡ journal_path folder name term base
journal_written folder front name term base is = (λ i. is i ++ (codes "/" ++ (name ++ (codes "." ++ (padded (decimal term) i ++ (codes "." ++ (decimal base ++ codes ".jsonl")))))))

zeros_digits : (k : ℕ) (digits : List ℕ) → AllDigits 10 digits → AllDigits 10 (replicate k 48 ++ digits)
zeros_digits zero digits h = h
zeros_digits (suc k) digits h = (omega arith, zeros_digits k digits h)

zeros_value : (k : ℕ) (digits : List ℕ) → digits_value 10 (replicate k 48 ++ digits) ≡ digits_value 10 digits
zeros_value zero digits = refl
zeros_value (suc k) digits = zeros_value k digits

-- The number of a term is read as it was written.
pub term_read : {E : Type 0} (term : ℕ) → term < 2 ^ 64 → (r : Result ℕ E) (digits : List ℕ) → digits ≡ term_digits term → ParsesUnsigned 64 10 digits r → r ≡ Ok term
term_read term small r digits is h =
    let k = decimal_is_IsNumeral term small in
    let zeros : ℕ = 6 - length (decimal term) in
    let value : digits_value 10 (term_digits term) ≡ term = zeros_value zeros (decimal term) ∙ k.1 in
    let long : 0 < length (term_digits term) = omega (arith, length-append (replicate zeros 48) (decimal term), k.0.0) in
    parse_gives (numerals_by_value (AllDigits 10) tells_digits) 64 (term_digits term) r (rw is at h) (zeros_digits zeros (decimal term) k.0.1) long (omega (arith, value)) ∙ ap Ok value

-- A name has no dot.
no_dot_in : (name : List ℕ) → list_all is_name_byte name ≡ true → (i : ℕ) → i < length name → get_or name i 0 ≢ 46
no_dot_in [] h i within e = omega (arith, within)
no_dot_in (b ∷ name) h zero within e =
    let first : is_name_byte b ≡ true = (and_parts (is_name_byte b) (list_all is_name_byte name) h).0 in
    let is : b ≡ 46 = e in
    let dot : is_name_byte 46 ≡ true = subst (λ x. is_name_byte x ≡ true) is first in
    absurd (true≢false (sym dot))
no_dot_in (b ∷ name) h (suc i) within e = no_dot_in name (and_parts (is_name_byte b) (list_all is_name_byte name) h).1 i (omega (arith, within)) e

-- A number of a term has no dot either.
no_dot_in_digits : (term : ℕ) → term < 2 ^ 64 → (i : ℕ) → i < length (term_digits term) → get_or (term_digits term) i 0 ≢ 46
no_dot_in_digits term small i within e =
    let digits = zeros_digits (6 - length (decimal term)) (decimal term) (decimal_is_IsNumeral term small).0.1 in
    omega (arith, digit_at (term_digits term) i digits within)

pub digits_are : (term : ℕ) (rest digits : List ℕ) → rest ≡ term_digits term ++ codes ".jsonl" → rest ≡ digits ++ codes ".jsonl" → digits ≡ term_digits term
digits_are term rest digits h k = append_cancel_right digits (term_digits term) (codes ".jsonl") (sym k ∙ h)

-- what is cut off a path, one after another
module _ (folder path name behind : List ℕ) (valid : is_name name ≡ true) (is : path ≡ folder ++ (codes "/" ++ (name ++ (codes "." ++ behind)))) where
  pub rest_is : (rest : List ℕ) → path ≡ folder ++ rest → rest ≡ codes "/" ++ (name ++ (codes "." ++ behind))
  rest_is rest h = append_cancel_left folder rest (codes "/" ++ (name ++ (codes "." ++ behind))) (sym h ∙ is)

  pub file_is : (rest file : List ℕ) → path ≡ folder ++ rest → rest ≡ codes "/" ++ file → file ≡ name ++ (codes "." ++ behind)
  file_is rest file h k = append_cancel_left (codes "/") file (name ++ (codes "." ++ behind)) (sym k ∙ rest_is rest h)

  pub name_cut : (file : List ℕ) (r : Option (Bor (List ℕ) × Bor (List ℕ))) → file ≡ name ++ (codes "." ++ behind) → IsSplitOnceResult 46 file r
      → MatchOption r ⊥ (λ x. (x.0.now ≡ name) × (x.1.now ≡ behind))
  name_cut file r h k = split_after 46 file name behind r k (omega arith) h (no_dot_in name (and_parts _ _ valid).1)

-- the number of a journal's term, cut off before what follows it
pub term_cut : (term : ℕ) → term < 2 ^ 64 → (end last : List ℕ) (r : Option (Bor (List ℕ) × Bor (List ℕ))) → end ≡ term_digits term ++ (codes "." ++ last) → IsSplitOnceResult 46 end r
    → MatchOption r ⊥ (λ x. (x.0.now ≡ term_digits term) × (x.1.now ≡ last))
term_cut term small end last r h k = split_after 46 end (term_digits term) last r k (omega arith) h (no_dot_in_digits term small)
