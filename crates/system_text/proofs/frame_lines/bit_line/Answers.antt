use Rattle.std.proofs.Common.{refl, arith}
use Rattle.std.proofs.lemmas.Bool.Decides.{nat_tests}
use Rattle.system_text.proofs.BitForms.{bit_is, bit_short, all_numbers, some_ends, no_ends}
use Rattle.system_text.proofs.Forms.{told}
use Rattle.system_text.proofs.Lists.{suffix}
use Rattle.system_text.proofs.frame_lines.bit_line.Goals as goal

pub returns-in_default : goal.returns-in_default
returns-in_default c = bit_short c.args.words.now (grind (arith, nat_tests))

pub returns-then-is_empty : goal.returns-then-is_empty
returns-then-is_empty c = bit_short c.args.words.now (no_ends c.args.words.now _ c.is_empty.ensures c.if-is_empty.true)

pub returns-in_err-node : goal.returns-in_err-node
returns-in_err-node c =
    let is = bit_is c.args.words.now _ (suffix c.args.words.now 2) (some_ends c.args.words.now _ c.is_empty.ensures c.if-is_empty.false) (omega arith) in
    told _ _ _ c.from_residual.ensures.1 (rw (is, ← c.in_err-node.ensures) refl)

pub returns-in_err-bit : goal.returns-in_err-bit
returns-in_err-bit c =
    let is = bit_is c.args.words.now _ (suffix c.args.words.now 2) (some_ends c.args.words.now _ c.is_empty.ensures c.if-is_empty.false) (omega arith) in
    told _ _ _ c.from_residual-in_err-bit.ensures.1 (rw (is, ← c.in_ok-node.ensures, ← c.in_err-bit.ensures) refl)

pub returns-then-not-are_numbers : goal.returns-then-not-are_numbers
returns-then-not-are_numbers c =
    let is = bit_is c.args.words.now _ (suffix c.args.words.now 2) (some_ends c.args.words.now _ c.is_empty.ensures c.if-is_empty.false) (omega arith) in
    rw (is, ← c.in_ok-node.ensures, ← c.in_ok-bit.ensures, all_numbers, ← c.are_numbers.ensures, c.if-not-are_numbers.true) refl

pub returns-in_err-up_to : goal.returns-in_err-up_to
returns-in_err-up_to c =
    let is = bit_is c.args.words.now _ (suffix c.args.words.now 2) (some_ends c.args.words.now _ c.is_empty.ensures c.if-is_empty.false) (omega arith) in
    told _ _ _ c.from_residual-in_err-up_to.ensures.1 (rw (
      is,
      ← c.in_ok-node.ensures,
      ← c.in_ok-bit.ensures,
      all_numbers,
      ← c.are_numbers.ensures,
      c.if-not-are_numbers.false,
      ← c.in_err-up_to.ensures.value,
    ) refl)

pub returns-in_err-up_to-2 : goal.returns-in_err-up_to-2
returns-in_err-up_to-2 c =
    let is = bit_is c.args.words.now _ (suffix c.args.words.now 2) (some_ends c.args.words.now _ c.is_empty.ensures c.if-is_empty.false) (omega arith) in
    told _ _ _ c.from_residual-in_err-up_to-2.ensures.1 (rw (
      is,
      ← c.in_ok-node.ensures,
      ← c.in_ok-bit.ensures,
      all_numbers,
      ← c.are_numbers.ensures,
      c.if-not-are_numbers.false,
      ← c.in_ok-up_to.ensures.value,
      ← c.in_err-up_to-2.ensures.value,
    ) refl)

pub returns-in_err-end_numbers : goal.returns-in_err-end_numbers
returns-in_err-end_numbers c =
    let is = bit_is c.args.words.now _ (suffix c.args.words.now 2) (some_ends c.args.words.now _ c.is_empty.ensures c.if-is_empty.false) (omega arith) in
    told _ _ _ c.from_residual-in_err-end_numbers.ensures.1 (rw (
      is,
      ← c.in_ok-node.ensures,
      ← c.in_ok-bit.ensures,
      all_numbers,
      ← c.are_numbers.ensures,
      c.if-not-are_numbers.false,
      ← c.in_ok-up_to.ensures.value,
      ← c.in_ok-up_to-2.ensures.value,
      c.in_err-end_numbers.ensures,
    ) refl)

pub returns : goal.returns
returns c =
    let is = bit_is c.args.words.now _ (suffix c.args.words.now 2) (some_ends c.args.words.now _ c.is_empty.ensures c.if-is_empty.false) (omega arith) in
    rw (
      is,
      ← c.in_ok-node.ensures,
      ← c.in_ok-bit.ensures,
      all_numbers,
      ← c.are_numbers.ensures,
      c.if-not-are_numbers.false,
      ← c.in_ok-up_to.ensures.value,
      ← c.in_ok-up_to-2.ensures.value,
      c.in_ok-end_numbers.ensures,
    ) refl
