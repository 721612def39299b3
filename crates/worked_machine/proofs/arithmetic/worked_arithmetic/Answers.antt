use Rattle.std.proofs.Common.{refl}
use Rattle.worked_machine.proofs.Computes.{computes}
use Rattle.worked_machine.proofs.arithmetic.worked_arithmetic.Goals as goal

pub returns-clause-shifts : goal.returns-clause-shifts
returns-clause-shifts c = record {
  shl_by_0 = refl;
  shl_by_1 = refl;
  shl_by_31 = refl;
  shl_by_32 = refl;
  shl_by_33 = refl;
  shl_by_all = refl;
  shr_by_0 = refl;
  shr_by_1 = refl;
  shr_by_31 = refl;
  shr_by_32 = refl;
  shr_by_33 = refl;
  shr_by_all = refl;
  ashr_by_0 = refl;
  ashr_by_1 = refl;
  ashr_by_31 = refl;
  ashr_by_32 = refl;
  ashr_by_33 = refl;
  ashr_by_40 = refl;
  ashr_by_all = refl;
  ashr_of_positive_by_1 = refl;
  ashr_of_positive_by_30 = refl;
  ashr_of_positive_by_31 = refl;
  ashr_of_positive_by_32 = refl;
  ashr_of_positive_by_all = refl;
}

pub returns-clause-parts : goal.returns-clause-parts
returns-clause-parts c = record {
  mkmsk_0 = refl;
  mkmsk_1 = refl;
  mkmsk_8 = refl;
  mkmsk_31 = refl;
  mkmsk_32 = refl;
  mkmsk_33 = refl;
  mkmsk_all = refl;
  zext_by_0 = refl;
  zext_by_1 = refl;
  zext_by_8 = refl;
  zext_by_31 = refl;
  zext_by_32 = refl;
  zext_by_33 = refl;
  zext_by_all = refl;
  sext_by_0 = refl;
  sext_by_1 = refl;
  sext_by_1_of_even = refl;
  sext_by_8 = refl;
  sext_by_8_of_positive = refl;
  sext_by_31 = refl;
  sext_by_31_of_positive = refl;
  sext_by_32 = refl;
  sext_by_33 = refl;
  sext_by_all = refl;
}

pub returns-clause-orders : goal.returns-clause-orders
unfolding computes
returns-clause-orders c = record {
  bitrev_of_0 = refl;
  bitrev_of_1 = refl;
  bitrev_of_highest = refl;
  bitrev_of_half = refl;
  bitrev_of_digits = refl;
  bitrev_of_all = refl;
  byterev_of_0 = refl;
  byterev_of_digits = refl;
  byterev_of_lowest = refl;
  byterev_of_upper = refl;
  clz_of_0 = refl;
  clz_of_1 = refl;
  clz_of_2 = refl;
  clz_of_3 = refl;
  clz_of_half = refl;
  clz_of_positive = refl;
  clz_of_highest = refl;
  clz_of_all = refl;
}

pub returns-clause-signs : goal.returns-clause-signs
returns-clause-signs c = record {
  signed_0 = refl;
  signed_greatest = refl;
  signed_least = refl;
  signed_minus_7 = refl;
  signed_minus_1 = refl;
  word_of_0 = refl;
  word_of_greatest = refl;
  word_of_a_turn = refl;
  word_of_more = refl;
  word_of_minus_1 = refl;
  word_of_minus_7 = refl;
  word_of_least = refl;
  word_of_a_turn_back = refl;
  word_of_less = refl;
  modulo_8 = refl;
  modulo_8_of_minus_1 = refl;
  modulo_8_of_minus_256 = refl;
  modulo_64 = refl;
  modulo_64_of_minus_1 = refl;
}

pub returns-clause-sums : goal.returns-clause-sums
returns-clause-sums c = record {
  sum_turns = refl;
  sum_is_greatest = refl;
  difference_turns = refl;
  difference_is_0 = refl;
  difference_of_greatest = refl;
  difference_of_0 = refl;
  product_is_a_turn = refl;
  product_of_greatest = refl;
  inverted_0 = refl;
  inverted_ones = refl;
  truth_of_true = refl;
  truth_of_false = refl;
  carried_all = refl;
  carried_without = refl;
  carried_by_lowest = refl;
  not_carried = refl;
  lowest_alone = refl;
  borrowed_all = refl;
  borrowed_twice_nothing = refl;
  borrowed_by_lowest = refl;
  borrowed = refl;
  not_borrowed = refl;
  lowest_taken = refl;
}

pub returns-clause-longs : goal.returns-clause-longs
returns-clause-longs c = record {
  long_of_words = refl;
  halves_of_long = refl;
  product_of_all = refl;
  product_alone = refl;
  product_of_halves = refl;
  sum_alone = refl;
  low_alone = refl;
  divided = refl;
  divided_as_high = refl;
  divided_as_higher = refl;
  divided_with_rest = refl;
  divided_greatest = refl;
  divided_by_0 = refl;
  divided_by_1 = refl;
}
