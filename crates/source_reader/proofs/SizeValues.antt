-- What `abs` is made of has its value.
use Rattle.std.proofs.Common.{◌≡◌, ℕ, zero, suc, pow-suc, ◌+◌, ◌-◌, ◌*◌, ◌/◌, ◌%◌, ◌<◌, ◌≤◌, ◌^◌, ℤ, pos, negsuc, List, Option, Some, None, refl, sym, ap, subst, ◌∙◌, arith, FitsSigned}
use Rattle.std.specs.Int.{int_bit_xor, int_shr, int_wrapping_neg, int_wrapping_sub, cast_signed, cast_unsigned, w64}
use Rattle.std.specs.Int.Bits.{bit_xor, xor_zero_r}
use Rattle.std.proofs.lemmas.Int.{to_z_pos}
use Rattle.std.proofs.lemmas.Nat.{div-add-mod', mod-mul-add, mod_below, xor_block}
use Rattle.std.proofs.Math.Nat.{mod-eq_of_lt}
use Rattle.source_language.specs.declared.syntax.Operator.TheVariants as op
use Rattle.source_language.specs.Meaning.{result_of, on_both, shift_of}
use Rattle.source_reader.specs.BuiltIns.{sign_of, size_of}
use Rattle.source_reader.specs.Folding.{two_of}
use Rattle.source_reader.specs.Trees.{ExprTree, Constant}
use Rattle.source_reader.specs.TreeValues.{size, tree_value}
use Rattle.source_reader.proofs.TreeSteps.{two_value}

bit_turned : (r : ℕ) → r < 2 → bit_xor r 1 ≡ 1 - r
bit_turned zero low = refl
bit_turned (suc zero) low = refl
bit_turned (suc (suc r)) low = absurd (omega (arith, low))

-- Against ones, each of k bits is turned.
all_turned : (k a : ℕ) → a < 2 ^ k → bit_xor a (2 ^ k - 1) ≡ (2 ^ k - 1) - a
all_turned zero a low =
    let none : 0 ≡ a = omega (arith, low) in
    subst (λ b. bit_xor b (2 ^ 0 - 1) ≡ (2 ^ 0 - 1) - b) none refl
all_turned (suc k) a low =
    let q = a / 2 in
    let r = a % 2 in
    let parts : q * 2 + r ≡ a = div-add-mod' a 2 in
    let bit : r < 2 = mod_below a 2 (omega arith) in
    let double : 2 ^ suc k ≡ 2 ^ k * 2 = pow-suc 2 k in
    let few : q < 2 ^ k = omega (arith, parts, bit, double, low) in
    let ones : (2 ^ k - 1) * 2 ^ 1 + 1 ≡ 2 ^ suc k - 1 = omega (arith, double, few) in
    let block = xor_block 1 q (2 ^ k - 1) r 1 bit (omega arith) in
    let same : bit_xor q (2 ^ k - 1) * 2 ^ 1 + bit_xor r 1 ≡ ((2 ^ k - 1) - q) * 2 + (1 - r) =
    ap (λ m. m * 2 + bit_xor r 1) (all_turned k q few) ∙ ap (λ m. ((2 ^ k - 1) - q) * 2 + m) (bit_turned r bit) in
    ap (λ m. bit_xor m (2 ^ suc k - 1)) (sym parts) ∙ ap (bit_xor (q * 2 + r)) (sym ones) ∙ block ∙ same ∙ omega (arith, parts, bit, double, few)

-- the number turned, if it is below 0, and what is 1 more then
abbrev turned : ℤ → ℤ
turned x = int_wrapping_sub w64 (int_bit_xor w64 x (int_shr x 63)) (int_shr x 63)

no_sign : (n : ℕ) → n < 2 ^ 63 → int_shr (pos n) 63 ≡ pos 0
no_sign n low = ap pos (omega (arith, low))

a_sign : (n : ℕ) → n < 2 ^ 63 → int_shr (negsuc n) 63 ≡ negsuc 0
a_sign n low = ap negsuc (omega (arith, low))

turned_is : (x : ℤ) → FitsSigned w64 x → turned x ≡ size x
turned_is (pos n) f =
    let low : n < 2 ^ 63 = omega (arith, f.sfits) in
    let same : int_bit_xor w64 (pos n) (pos 0) ≡ pos n = ap (cast_signed w64) (xor_zero_r n) ∙ to_z_pos w64 n low in
    let sum : n + (2 ^ 64 - 0) ≡ 1 * 2 ^ 64 + n = omega arith in
    ap (λ s. int_wrapping_sub w64 (int_bit_xor w64 (pos n) s) s) (no_sign n low) ∙ ap (λ z. int_wrapping_sub w64 z (pos 0)) same
    ∙ ap (λ m. cast_signed w64 (m % 2 ^ 64)) sum ∙ ap (cast_signed w64) (mod-mul-add 1 (2 ^ 64) n (omega (arith, low))) ∙ to_z_pos w64 n low
turned_is (negsuc n) f =
    let low : n < 2 ^ 63 = omega (arith, f.sfits) in
    let other : bit_xor (2 ^ 64 - suc n) (2 ^ 64 - 1) ≡ n = all_turned 64 (2 ^ 64 - suc n) (omega arith) ∙ omega (arith, low) in
    let same : int_bit_xor w64 (negsuc n) (negsuc 0) ≡ pos n = ap (cast_signed w64) other ∙ to_z_pos w64 n low in
    let more : n + (2 ^ 64 - (2 ^ 64 - 1)) ≡ 2 ^ 64 - (2 ^ 64 - suc n) = omega (arith, low) in
    ap (λ s. int_wrapping_sub w64 (int_bit_xor w64 (negsuc n) s) s) (a_sign n low) ∙ ap (λ z. int_wrapping_sub w64 z (negsuc 0)) same ∙ ap (λ m. cast_signed w64 (m % 2 ^ 64)) more

pub size_value : (slot slots : ℕ) (vars : List ℤ) (e : ExprTree) (x : ℤ) → FitsSigned w64 x → tree_value e slot slots vars ≡ Some x → tree_value (size_of e) slot slots vars ≡ Some (size x)
size_value slot slots vars e x f is =
    let sign : tree_value (sign_of e) slot slots vars ≡ Some (int_shr x 63) =
    two_value slot slots vars op.ShiftRight e (Constant (pos 63)) ∙ ap (λ o. on_both (result_of op.ShiftRight) o (Some (pos 63))) is in
    let other : tree_value (two_of op.BitXor e (sign_of e)) slot slots vars ≡ Some (int_bit_xor w64 x (int_shr x 63)) =
    two_value slot slots vars op.BitXor e (sign_of e) ∙ ap (λ o. on_both (result_of op.BitXor) o (tree_value (sign_of e) slot slots vars)) is ∙ ap (on_both (result_of op.BitXor) (Some x)) sign in
    two_value slot slots vars op.Minus (two_of op.BitXor e (sign_of e)) (sign_of e) ∙ ap (λ o. on_both (result_of op.Minus) o (tree_value (sign_of e) slot slots vars)) other
    ∙ ap (on_both (result_of op.Minus) (Some (int_bit_xor w64 x (int_shr x 63)))) sign ∙ ap Some (turned_is x f)
