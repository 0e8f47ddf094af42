-- Numbers of one digit.
use Rattle.std.proofs.Common.{◌≡◌, ℕ, ◌+◌, ◌-◌, ◌≤◌, List, [], ◌∷◌, ◌++◌, length, get_or, take, drop, decimal, sym, ap, ◌∙◌, arith}
use Rattle.std.proofs.lemmas.Fmt.{decimal_digit}
use Rattle.std.proofs.lemmas.List.{take_all}

digit_alone : (b n : ℕ) → 48 ≤ b → b ≤ 57 → n ≡ b - 48 → decimal n ≡ b ∷ []
digit_alone b n low high is =
    let same : 48 + n ≡ b = omega arith in
    decimal_digit n (omega arith) ∙ ap (λ (d : ℕ). d ∷ []) same

-- a digit at the front of some bytes is a number, which the other bytes follow
pub one_digit : (bytes : List ℕ) (n : ℕ) → 1 ≤ length bytes → 48 ≤ get_or bytes 0 0 → get_or bytes 0 0 ≤ 57 → n ≡ get_or bytes 0 0 - 48 → bytes ≡ decimal n ++ take (length bytes - 1) (drop 1 bytes)
one_digit [] n some low high is = absurd (omega arith)
one_digit (b ∷ bytes) n some low high is =
    rw (digit_alone b n low high is) (ap (λ (s : List ℕ). b ∷ s) (sym (take_all (length (b ∷ bytes) - 1) bytes (omega arith))))
