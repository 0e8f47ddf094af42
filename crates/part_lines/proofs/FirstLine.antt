-- The first line of some bytes.
use Rattle.std.proofs.Common.{◌≡◌, ◌≢◌, ℕ, zero, suc, ◌+◌, ◌<◌, ◌≤◌, List, [], ◌∷◌, ◌++◌, length, take, drop, get_or, refl, ap, ◌∙◌, arith, ne_eqb, append-nil}
use Rattle.std.proofs.lemmas.List.{drop_more}
use Rattle.request_reader.specs.Lines.{newline}
use Rattle.part_lines.specs.Parts.{hole, before_first, whole_lines}

-- bytes before the first of some lines
abbrev with_before : List ℕ → List (List ℕ) → List (List ℕ)
with_before xs [] = []
with_before xs (text ∷ texts) = (xs ++ text) ∷ texts

none_before : (ls : List (List ℕ)) → ls ≡ with_before [] ls
none_before [] = refl
none_before (text ∷ texts) = refl

one_before : (b : ℕ) (xs : List ℕ) (ls : List (List ℕ)) → before_first b (with_before xs ls) ≡ with_before (b ∷ xs) ls
one_before b xs [] = refl
one_before b xs (text ∷ texts) = refl

-- neither a hole nor a newline
abbrev pub IsPlainByte : ℕ → Type 0
IsPlainByte b = (b ≢ 0) × (b ≢ 10)

plain_before : (n : ℕ) (bytes : List ℕ) → n ≤ length bytes → ((k : ℕ) → k < n → IsPlainByte (get_or bytes k 0)) → whole_lines bytes ≡ with_before (take n bytes) (whole_lines (drop n bytes))
plain_before zero bytes within plain = none_before (whole_lines bytes)
plain_before (suc n) [] within plain = absurd (omega arith)
plain_before (suc n) (b ∷ bytes) within plain =
    let here = plain 0 (omega arith) in
    rw (ne_eqb b hole here.0, ne_eqb b newline here.1)
    (ap (before_first b) (plain_before n bytes (omega (arith, within)) (λ k low. plain (suc k) (omega (arith, low)))) ∙ one_before b (take n bytes) (whole_lines (drop n bytes)))

drop_end : (n : ℕ) (xs : List ℕ) → length xs ≤ n → drop n xs ≡ []
drop_end zero [] short = refl
drop_end zero (x ∷ xs) short = absurd (omega (arith, short))
drop_end (suc n) [] short = refl
drop_end (suc n) (x ∷ xs) short = drop_end n xs (omega (arith, short))

module _ (bytes : List ℕ) (n : ℕ) (plain : (k : ℕ) → k < n → IsPlainByte (get_or bytes k 0)) where
  pub ends_line : n < length bytes → get_or bytes n 0 ≡ 10 → whole_lines bytes ≡ take n bytes ∷ whole_lines (drop (n + 1) bytes)
  ends_line within is =
      plain_before n bytes (omega (arith, within)) plain
      ∙ ap (λ (x : List ℕ). with_before (take n bytes) (whole_lines x)) (drop_more bytes n 0 within ∙ ap (λ (b : ℕ). b ∷ drop (n + 1) bytes) is)
      ∙ ap (λ (x : List ℕ). x ∷ whole_lines (drop (n + 1) bytes)) (append-nil (take n bytes))

  pub has_hole : n < length bytes → get_or bytes n 0 ≡ 0 → whole_lines bytes ≡ []
  has_hole within is =
      plain_before n bytes (omega (arith, within)) plain
      ∙ ap (λ (x : List ℕ). with_before (take n bytes) (whole_lines x)) (drop_more bytes n 0 within ∙ ap (λ (b : ℕ). b ∷ drop (n + 1) bytes) is)

  pub not_ended : n ≤ length bytes → length bytes ≤ n → whole_lines bytes ≡ []
  not_ended within last = plain_before n bytes within plain ∙ ap (λ (x : List ℕ). with_before (take n bytes) (whole_lines x)) (drop_end n bytes last)
