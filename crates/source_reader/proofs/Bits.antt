-- Numbers without a sign that are shifted, added to and taken apart.
use Rattle.std.proofs.Common.{◌≡◌, ℕ, zero, suc, ◌+◌, ◌-◌, ◌*◌, ◌/◌, ◌%◌, ◌<◌, ◌≤◌, ◌^◌, ◌==◌, ◌||◌, ℤ, pos, negsuc, Bool, true, false, true≢false, refl, sym, ap, subst, ◌∙◌, arith}
use Rattle.std.specs.Int.{int_wrapping_add, int_wrapping_sub, int_bit_and, int_shl, int_shr, cast_signed, cast_unsigned, w64}
use Rattle.std.proofs.lemmas.Bool.Decides.{Decides-int_eq, nat_tests}
use Rattle.std.proofs.lemmas.Int.{to_z_pos}
use Rattle.std.proofs.Math.IntN.{pos-ne-negsuc}
use Rattle.std.proofs.lemmas.Nat.{and_mask, div-mul-add, mod-mul-add, mul-add-lt, pow-add, pow_pos, shl_whole}
use Rattle.std.proofs.Math.Nat.{mod-eq_of_lt, lt-div-mul-add}
use Rattle.std.proofs.Math.Pow.{pow_mono, shl_lt}
use Rattle.source_language.specs.Meaning.{shift_of}
use Rattle.source_reader.specs.Calls.{does_fit}

pub shift_is : (b : ℕ) → b < 64 → shift_of (pos b) ≡ b
shift_is b low = mod-eq_of_lt low

-- a number of n bits, with b bits behind it
pub shl_is : (x n b : ℕ) → x < 2 ^ n → n + b ≤ 63 → int_shl w64 (pos x) b ≡ pos (x * 2 ^ b)
shl_is x n b low room =
    let small : x * 2 ^ b < 2 ^ 63 = omega (arith, shl_lt n b low, pow_mono room) in
    let whole : (x * 2 ^ b) % 2 ^ 64 ≡ x * 2 ^ b = shl_whole x n b 64 low (omega (arith, room)) in
    ap (cast_signed w64) whole ∙ to_z_pos w64 (x * 2 ^ b) small

pub joined_low : (x n v b : ℕ) → x < 2 ^ n → v < 2 ^ b → x * 2 ^ b + v < 2 ^ (n + b)
joined_low x n v b low fits = subst (λ m. x * 2 ^ b + v < m) (omega (arith, pow-add 2 n b)) (mul-add-lt x (2 ^ b) v (2 ^ n) low fits)

-- the same, with a number of b bits there
pub joined_is : (x n v b : ℕ) → x < 2 ^ n → v < 2 ^ b → n + b ≤ 63 → int_wrapping_add w64 (pos (x * 2 ^ b)) (pos v) ≡ pos (x * 2 ^ b + v)
joined_is x n v b low fits room =
    let small : x * 2 ^ b + v < 2 ^ 63 = omega (arith, joined_low x n v b low fits, pow_mono room) in
    let whole : (x * 2 ^ b + v) % 2 ^ 64 ≡ x * 2 ^ b + v = mod-eq_of_lt (omega (arith, small)) in
    ap (cast_signed w64) whole ∙ to_z_pos w64 (x * 2 ^ b + v) small

pub shr_is : (y k low : ℕ) → low < 2 ^ k → int_shr (pos (y * 2 ^ k + low)) k ≡ pos y
shr_is y k low h = ap pos (div-mul-add y (2 ^ k) low h)

-- so many ones
pub ones_are : (b : ℕ) → b ≤ 62 → int_wrapping_sub w64 (int_shl w64 (pos 1) b) (pos 1) ≡ pos (2 ^ b - 1)
ones_are b low =
    let one : int_shl w64 (pos 1) b ≡ pos (1 * 2 ^ b) = shl_is 1 1 b (omega arith) (omega (arith, low)) in
    let some : 0 < 2 ^ b = pow_pos b in
    let bound : 2 ^ b ≤ 2 ^ 62 = pow_mono low in
    let sum : 1 * 2 ^ b + (2 ^ 64 - 1) ≡ 1 * 2 ^ 64 + (2 ^ b - 1) = omega (arith, some) in
    let rest : (1 * 2 ^ b + (2 ^ 64 - 1)) % 2 ^ 64 ≡ 2 ^ b - 1 = ap (λ m. m % 2 ^ 64) sum ∙ mod-mul-add 1 (2 ^ 64) (2 ^ b - 1) (omega (arith, bound)) in
    ap (λ z. int_wrapping_sub w64 z (pos 1)) one ∙ ap (cast_signed w64) rest ∙ to_z_pos w64 (2 ^ b - 1) (omega (arith, bound))

-- what stands in the lowest b bits
pub masked_is : (x v b : ℕ) → v < 2 ^ b → b ≤ 62 → int_bit_and w64 (pos (x * 2 ^ b + v)) (pos (2 ^ b - 1)) ≡ pos v
masked_is x v b fits low =
    let rest = and_mask (x * 2 ^ b + v) b ∙ mod-mul-add x (2 ^ b) v fits in
    ap (cast_signed w64) rest ∙ to_z_pos w64 v (omega (arith, fits, pow_mono {i = b} {j = 62} low))

-- a value that fits a width
pub record Fitting (v : ℤ) (b : ℕ) : Type 0 where
  pub number : ℕ
  pub is : v ≡ pos number
  pub low : number < 2 ^ b

pub not_bare : (b : ℕ) → 0 < b → (b == 0) ≡ false
not_bare b some = grind (arith, nat_tests, some)

or_else : (c d : Bool) → c ≡ false → c || d ≡ true → d ≡ true
or_else true d e f = absurd (true≢false e)
or_else false d e f = f

nothing_above : (a b : ℕ) → a / 2 ^ b ≡ 0 → a < 2 ^ b
nothing_above a b none = omega (arith, subst (λ q. a < q * 2 ^ b + 2 ^ b) none (lt-div-mul-add {a = a} {b = 2 ^ b} (pow_pos b)))

fitting_above : (v : ℤ) (b : ℕ) → int_shr v b ≡ pos 0 → Fitting v b
fitting_above (pos a) b e = record { number = a; is = refl; low = nothing_above a b (ap (cast_unsigned w64) e) }
fitting_above (negsuc a) b e = absurd (pos-ne-negsuc 0 (a / 2 ^ b) (sym e))

pub fitting : (v : ℤ) (b : ℕ) → 0 < b → b ≤ 62 → does_fit v b ≡ true → Fitting v b
fitting v b some low e =
    let none = (Decides-int_eq (int_shr v (shift_of (pos b))) (pos 0)).0 (or_else (b == 0) _ (not_bare b some) e) in
    fitting_above v b (subst (λ k. int_shr v k ≡ pos 0) (shift_is b (omega (arith, low))) none)
