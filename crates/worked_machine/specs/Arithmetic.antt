-- Words worked out by hand, at the edges.
use Rattle.std.specs.Prelude.{◌≡◌, ◌+◌, ◌-◌, ◌^◌, true, false, Some, None, pos, negsuc}
use Rattle.xs_base.specs.Words.{word_sum, word_difference, word_product, inverted, truth, signed, modulo, word_of, shl, shr, ashr, mkmsk, zext, sext, bitrev, byterev, clz, long, halves, add_carry, sub_borrow, mul_long, div_long}

-- By 0, 1, 31, 32, 33 and as many bits as a word can say: from 32 on nothing is left but the sign of `ashr`.
pub record WorkedShifts : Type 0 where
  pub shl_by_0 : shl 0x80000001 0 ≡ 0x80000001
  pub shl_by_1 : shl 0x80000001 1 ≡ 2
  pub shl_by_31 : shl 3 31 ≡ 0x80000000
  pub shl_by_32 : shl 0xffffffff 32 ≡ 0
  pub shl_by_33 : shl 0xffffffff 33 ≡ 0
  pub shl_by_all : shl 0xffffffff 0xffffffff ≡ 0
  pub shr_by_0 : shr 0x80000001 0 ≡ 0x80000001
  pub shr_by_1 : shr 0x80000001 1 ≡ 0x40000000
  pub shr_by_31 : shr 0xc0000000 31 ≡ 1
  pub shr_by_32 : shr 0xffffffff 32 ≡ 0
  pub shr_by_33 : shr 0xffffffff 33 ≡ 0
  pub shr_by_all : shr 0xffffffff 0xffffffff ≡ 0
  pub ashr_by_0 : ashr 0x80000001 0 ≡ 0x80000001
  pub ashr_by_1 : ashr 0x80000001 1 ≡ 0xc0000000
  pub ashr_by_31 : ashr 0x80000000 31 ≡ 0xffffffff
  pub ashr_by_32 : ashr 0x80000000 32 ≡ 0xffffffff
  pub ashr_by_33 : ashr 0x80000000 33 ≡ 0xffffffff
  pub ashr_by_40 : ashr 0x80000000 40 ≡ 0xffffffff
  pub ashr_by_all : ashr 0xfffffffe 0xffffffff ≡ 0xffffffff
  pub ashr_of_positive_by_1 : ashr 0x7fffffff 1 ≡ 0x3fffffff
  pub ashr_of_positive_by_30 : ashr 0x7fffffff 30 ≡ 1
  pub ashr_of_positive_by_31 : ashr 0x7fffffff 31 ≡ 0
  pub ashr_of_positive_by_32 : ashr 0x7fffffff 32 ≡ 0
  pub ashr_of_positive_by_all : ashr 0x7fffffff 0xffffffff ≡ 0

-- A mask of so many bits; the low bits of a word, extended. No bits, 32 and more are no part of a word.
pub record WorkedParts : Type 0 where
  pub mkmsk_0 : mkmsk 0 ≡ 0
  pub mkmsk_1 : mkmsk 1 ≡ 1
  pub mkmsk_8 : mkmsk 8 ≡ 0xff
  pub mkmsk_31 : mkmsk 31 ≡ 0x7fffffff
  pub mkmsk_32 : mkmsk 32 ≡ 0xffffffff
  pub mkmsk_33 : mkmsk 33 ≡ 0xffffffff
  pub mkmsk_all : mkmsk 0xffffffff ≡ 0xffffffff
  pub zext_by_0 : zext 0xfffffffe 0 ≡ 0xfffffffe
  pub zext_by_1 : zext 0xfffffffe 1 ≡ 0
  pub zext_by_8 : zext 0xffffff80 8 ≡ 0x80
  pub zext_by_31 : zext 0xffffffff 31 ≡ 0x7fffffff
  pub zext_by_32 : zext 0xfffffffe 32 ≡ 0xfffffffe
  pub zext_by_33 : zext 0xfffffffe 33 ≡ 0xfffffffe
  pub zext_by_all : zext 0xfffffffe 0xffffffff ≡ 0xfffffffe
  pub sext_by_0 : sext 0x000000ff 0 ≡ 0x000000ff
  pub sext_by_1 : sext 1 1 ≡ 0xffffffff
  pub sext_by_1_of_even : sext 0xfffffffe 1 ≡ 0
  pub sext_by_8 : sext 0x00000080 8 ≡ 0xffffff80
  pub sext_by_8_of_positive : sext 0xffffff7f 8 ≡ 0x0000007f
  pub sext_by_31 : sext 0x40000000 31 ≡ 0xc0000000
  pub sext_by_31_of_positive : sext 0xbfffffff 31 ≡ 0x3fffffff
  pub sext_by_32 : sext 0x80000001 32 ≡ 0x80000001
  pub sext_by_33 : sext 0x80000001 33 ≡ 0x80000001
  pub sext_by_all : sext 0x80000001 0xffffffff ≡ 0x80000001

pub record WorkedOrders : Type 0 where
  pub bitrev_of_0 : bitrev 0 ≡ 0
  pub bitrev_of_1 : bitrev 1 ≡ 0x80000000
  pub bitrev_of_highest : bitrev 0x80000000 ≡ 1
  pub bitrev_of_half : bitrev 0x0000ffff ≡ 0xffff0000
  pub bitrev_of_digits : bitrev 0x12345678 ≡ 0x1e6a2c48
  pub bitrev_of_all : bitrev 0xffffffff ≡ 0xffffffff
  pub byterev_of_0 : byterev 0 ≡ 0
  pub byterev_of_digits : byterev 0x12345678 ≡ 0x78563412
  pub byterev_of_lowest : byterev 0x000000ff ≡ 0xff000000
  pub byterev_of_upper : byterev 0xffffff00 ≡ 0x00ffffff
  pub clz_of_0 : clz 0 ≡ 32
  pub clz_of_1 : clz 1 ≡ 31
  pub clz_of_2 : clz 2 ≡ 30
  pub clz_of_3 : clz 3 ≡ 30
  pub clz_of_half : clz 0x0000ffff ≡ 16
  pub clz_of_positive : clz 0x7fffffff ≡ 1
  pub clz_of_highest : clz 0x80000000 ≡ 0
  pub clz_of_all : clz 0xffffffff ≡ 0

-- `negsuc n` is -(n + 1).
pub record WorkedSigns : Type 0 where
  pub signed_0 : signed 0 ≡ pos 0
  pub signed_greatest : signed 0x7fffffff ≡ pos 0x7fffffff
  pub signed_least : signed 0x80000000 ≡ negsuc 0x7fffffff
  pub signed_minus_7 : signed 0xfffffff9 ≡ negsuc 6
  pub signed_minus_1 : signed 0xffffffff ≡ negsuc 0
  pub word_of_0 : word_of (pos 0) ≡ 0
  pub word_of_greatest : word_of (pos 0x7fffffff) ≡ 0x7fffffff
  pub word_of_a_turn : word_of (pos (2 ^ 32)) ≡ 0
  pub word_of_more : word_of (pos (2 ^ 32 + 5)) ≡ 5
  pub word_of_minus_1 : word_of (negsuc 0) ≡ 0xffffffff
  pub word_of_minus_7 : word_of (negsuc 6) ≡ 0xfffffff9
  pub word_of_least : word_of (negsuc 0x7fffffff) ≡ 0x80000000
  pub word_of_a_turn_back : word_of (negsuc (2 ^ 32 - 1)) ≡ 0
  pub word_of_less : word_of (negsuc (2 ^ 32)) ≡ 0xffffffff
  pub modulo_8 : modulo 8 (pos 0x1ff) ≡ 0xff
  pub modulo_8_of_minus_1 : modulo 8 (negsuc 0) ≡ 0xff
  pub modulo_8_of_minus_256 : modulo 8 (negsuc 255) ≡ 0
  pub modulo_64 : modulo 64 (pos (2 ^ 64 + 1)) ≡ 1
  pub modulo_64_of_minus_1 : modulo 64 (negsuc 0) ≡ 0xffffffffffffffff

pub record WorkedSums : Type 0 where
  pub sum_turns : word_sum 0xffffffff 3 ≡ 2
  pub sum_is_greatest : word_sum 0x7fffffff 0x80000000 ≡ 0xffffffff
  pub difference_turns : word_difference 0 1 ≡ 0xffffffff
  pub difference_is_0 : word_difference 0xffffffff 0xffffffff ≡ 0
  pub difference_of_greatest : word_difference 0 0xffffffff ≡ 1
  pub difference_of_0 : word_difference 7 0 ≡ 7
  pub product_is_a_turn : word_product 0x10000 0x10000 ≡ 0
  pub product_of_greatest : word_product 0xffffffff 0xffffffff ≡ 1
  pub inverted_0 : inverted 0 ≡ 0xffffffff
  pub inverted_ones : inverted 0xfffffff0 ≡ 0x0000000f
  pub truth_of_true : truth true ≡ 1
  pub truth_of_false : truth false ≡ 0
  pub carried_all : add_carry 0xffffffff 0xffffffff 3 ≡ (1, 0xffffffff)
  pub carried_without : add_carry 0xffffffff 0xffffffff 2 ≡ (1, 0xfffffffe)
  pub carried_by_lowest : add_carry 0xffffffff 0 1 ≡ (1, 0)
  pub not_carried : add_carry 0x7fffffff 0x80000000 0 ≡ (0, 0xffffffff)
  pub lowest_alone : add_carry 0 0 0xffffffff ≡ (0, 1)
  pub borrowed_all : sub_borrow 0 0xffffffff 1 ≡ (1, 0)
  pub borrowed_twice_nothing : sub_borrow 0xffffffff 0xffffffff 2 ≡ (0, 0)
  pub borrowed_by_lowest : sub_borrow 5 5 1 ≡ (1, 0xffffffff)
  pub borrowed : sub_borrow 0 1 0 ≡ (1, 0xffffffff)
  pub not_borrowed : sub_borrow 5 4 1 ≡ (0, 0)
  pub lowest_taken : sub_borrow 0xffffffff 0 0xffffffff ≡ (0, 0xfffffffe)

-- The high and the low word of a longer number.
pub record WorkedLongs : Type 0 where
  pub long_of_words : long 1 2 ≡ 0x100000002
  pub halves_of_long : halves 0x100000002 ≡ (1, 2)
  pub product_of_all : mul_long 0xffffffff 0xffffffff 0xffffffff 0xffffffff ≡ (0xffffffff, 0xffffffff)
  pub product_alone : mul_long 0xffffffff 0xffffffff 0 0 ≡ (0xfffffffe, 1)
  pub product_of_halves : mul_long 0x10000 0x10000 5 0 ≡ (1, 5)
  pub sum_alone : mul_long 0 7 0xffffffff 0xffffffff ≡ (1, 0xfffffffe)
  pub low_alone : mul_long 3 4 5 6 ≡ (0, 23)
  pub divided : div_long 1 0 2 ≡ Some (0x80000000, 0)
  pub divided_as_high : div_long 2 0 2 ≡ None
  pub divided_as_higher : div_long 3 0 2 ≡ None
  pub divided_with_rest : div_long 0 7 2 ≡ Some (3, 1)
  pub divided_greatest : div_long 0xfffffffe 0xffffffff 0xffffffff ≡ Some (0xffffffff, 0xfffffffe)
  pub divided_by_0 : div_long 0 0 0 ≡ None
  pub divided_by_1 : div_long 0 0xffffffff 1 ≡ Some (0xffffffff, 0)
