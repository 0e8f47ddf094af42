use Rattle.tenant_model.proofs.SerialWorkedProofs.{fib_gives_8_computes, fib_gives_8_with_172_computes, fib_gives_none_with_171_computes, chain_gives_7_computes, region_gives_7_computes}
use Rattle.tenant_model.proofs.SerialWorkedProofs.{zero_divisor_gives_none_computes, unwaited_gives_none_computes, spin_gives_none_computes, rem_has_the_sign_of_the_dividend_computes}
use Rattle.tenant_model.proofs.SerialWorkedProofs.{bits_are_of_twos_complement_computes, shifts_take_six_bits_computes, shift_right_keeps_the_sign_computes, comparisons_give_1_or_0_computes}
use Rattle.tenant_model.proofs.serial_laws.serial_examples.Goals as goal

pub returns-clause-fib_gives_8 : goal.returns-clause-fib_gives_8
returns-clause-fib_gives_8 c = fib_gives_8_computes

pub returns-clause-fib_gives_8_with_172 : goal.returns-clause-fib_gives_8_with_172
returns-clause-fib_gives_8_with_172 c = fib_gives_8_with_172_computes

pub returns-clause-fib_gives_none_with_171 : goal.returns-clause-fib_gives_none_with_171
returns-clause-fib_gives_none_with_171 c = fib_gives_none_with_171_computes

pub returns-clause-chain_gives_7 : goal.returns-clause-chain_gives_7
returns-clause-chain_gives_7 c = chain_gives_7_computes

pub returns-clause-region_gives_7 : goal.returns-clause-region_gives_7
returns-clause-region_gives_7 c = region_gives_7_computes

pub returns-clause-zero_divisor_gives_none : goal.returns-clause-zero_divisor_gives_none
returns-clause-zero_divisor_gives_none c = zero_divisor_gives_none_computes

pub returns-clause-unwaited_gives_none : goal.returns-clause-unwaited_gives_none
returns-clause-unwaited_gives_none c = unwaited_gives_none_computes

pub returns-clause-spin_gives_none : goal.returns-clause-spin_gives_none
returns-clause-spin_gives_none c = spin_gives_none_computes

pub returns-clause-rem_has_the_sign_of_the_dividend : goal.returns-clause-rem_has_the_sign_of_the_dividend
returns-clause-rem_has_the_sign_of_the_dividend c = rem_has_the_sign_of_the_dividend_computes

pub returns-clause-bits_are_of_twos_complement : goal.returns-clause-bits_are_of_twos_complement
returns-clause-bits_are_of_twos_complement c = bits_are_of_twos_complement_computes

pub returns-clause-shifts_take_six_bits : goal.returns-clause-shifts_take_six_bits
returns-clause-shifts_take_six_bits c = shifts_take_six_bits_computes

pub returns-clause-shift_right_keeps_the_sign : goal.returns-clause-shift_right_keeps_the_sign
returns-clause-shift_right_keeps_the_sign c = shift_right_keeps_the_sign_computes

pub returns-clause-comparisons_give_1_or_0 : goal.returns-clause-comparisons_give_1_or_0
returns-clause-comparisons_give_1_or_0 c = comparisons_give_1_or_0_computes
