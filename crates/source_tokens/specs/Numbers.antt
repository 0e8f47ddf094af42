-- Numbers of a source.
use Rattle.std.specs.Prelude.{ℕ, ◌+◌, ◌-◌, ◌*◌, ◌==◌, ◌&&◌, nat_lt, nat_le, ℤ, Bool, false, List, [], ◌∷◌, drop, Option, Some, None, option_and_then, if◌then◌else◌}
use Rattle.std.specs.Int.{cast_signed, w64}
use Rattle.std.specs.Option.{option_map}
use Rattle.source_tokens.specs.Bytes.{is_digit}

-- what a byte is worth as a digit of base 16; 16 if it is none
abbrev pub digit_worth : ℕ → ℕ
digit_worth b =
    if is_digit b then b - 48
    else if nat_le 97 b && nat_le b 102 then b - 87
    else if nat_le 65 b && nat_le b 70 then b - 55
    else 16

-- a number, if it is below 2^64
abbrev pub if_fits : ℕ → Option ℕ
if_fits n = if nat_lt n 18446744073709551616 then Some n else None

-- a number with one more digit of that base; `_` adds none
abbrev pub digit_added : (base : ℕ) → ℕ → ℕ → Option ℕ
digit_added base n b = if b == 95 then Some n else (if nat_lt (digit_worth b) base then if_fits (n * base + digit_worth b) else None)

abbrev pub with_digits : (base : ℕ) → ℕ → List ℕ → Option ℕ
with_digits base n [] = Some n
with_digits base n (b ∷ bs) = option_and_then (λ m. with_digits base m bs) (digit_added base n b)

-- whether a number begins with `0x` and a digit
abbrev pub is_hex : List ℕ → Bool
is_hex (a ∷ x ∷ b ∷ bs) = (a == 48 && x == 120) && nat_lt (digit_worth b) 16
is_hex bs = false

abbrev pub magnitude_of : List ℕ → Option ℕ
magnitude_of bs = if is_hex bs then with_digits 16 0 (drop 2 bs) else with_digits 10 0 bs

-- From 2^63 on a number stands for the one with a sign that has the same bits.
abbrev pub number_of : List ℕ → Option ℤ
number_of bs = option_map (cast_signed w64) (magnitude_of bs)

-- a digit from 1 on; 0 if it is none
abbrev pub digit_from_one : ℕ → ℕ
digit_from_one b = if nat_le 49 b && nat_le b 57 then b - 48 else 0

-- the number of two digits from 10 to 62; 0 if they write no such number
abbrev pub two_digits : ℕ → ℕ → ℕ
two_digits a b = if (nat_lt 0 (digit_from_one a) && is_digit b) && nat_le (digit_from_one a * 10 + (b - 48)) 62 then digit_from_one a * 10 + (b - 48) else 0

-- the number of bits that digits write, from 1 to 62; 0 if they write none
abbrev pub bits_written : List ℕ → ℕ
bits_written [] = 0
bits_written (a ∷ []) = digit_from_one a
bits_written (a ∷ b ∷ []) = two_digits a b
bits_written (a ∷ b ∷ c ∷ bs) = 0

-- how many bits a width says, which is `u1` to `u62`; 0 if it is none
abbrev pub width_of : List ℕ → ℕ
width_of [] = 0
width_of (b ∷ bs) = if b == 117 then bits_written bs else 0
