-- A line adds little more than it is long, so lengths of sections fit 64 bits.
use Rattle.std.proofs.Common.{◌≡◌, ℕ, zero, suc, ◌+◌, ◌-◌, ◌*◌, ◌%◌, ◌≤◌, Bool, true, false, ◌||◌, ◌==◌, if◌then◌else◌, List, [], ◌∷◌, length, Option, Some, None, refl, arith, length-append, take}
use Rattle.std.specs.Prelude.{IfSome, option_and_then, codes, nat_le, not}
use Rattle.std.proofs.Math.Nat.{mod-le, mul-le-mul_left, mul-le-mul_right}
use Rattle.std.proofs.lemmas.Bool.{leb-true}
use Rattle.xs_text.specs.Tokens.{Token, tokens_of, tokens_after, token_at, skip_at, token_of, tail_length, begins_comment}
use Rattle.xs_text.specs.Bytes.{begins_with, is_blank}
use Rattle.xs_text.specs.Numbers.{source_number_of, at_most}
use Rattle.xs_instructions.specs.Table.{find, known}
use Rattle.xs_instructions.specs.declared.rows.Row.{Row}
use Rattle.xs_instructions.specs.Image.{same_name}
use Rattle.source_model.specs.declared.layout.Width.{Width}
use Rattle.source_model.specs.declared.layout.Width.TheVariants.{Byte, Short, Word}
use Rattle.source_model.specs.Each.{put_first}
use Rattle.source_model.specs.Operands.{Amount, Operand, operands_of, shapes_of}
use Rattle.source_model.specs.Values.{values_from, ValueNext, DigitsNext, CommaNext, Next, plain_value, signed_value, width_bytes}
use Rattle.source_model.specs.Statement.{Says, Zeros, Align, Statement, statement, is_name_kind, directive, instruction, of_row, shaped, zeros, aligned, valued, not_zero, lone_number, is_lone_name, is_nothing, after_labels, begins_label, line_of}
use Rattle.source_model.specs.Layout.{added, padding}

one_token : (b : Bool) (t : Token) → length (if b then [] else t ∷ []) ≤ 1
one_token true t = omega arith
one_token false t = omega arith

pub tokens_short : (skip : ℕ) (bytes : List ℕ) → length (tokens_after skip bytes) ≤ length bytes
unfolding tokens_after
tokens_short skip [] = omega arith
tokens_short zero (b ∷ rest) =
    omega (arith, length-append (token_at b rest) (tokens_after (skip_at b rest) rest), one_token (is_blank b || begins_comment b rest) (token_of (b ∷ take (tail_length b rest) rest)), tokens_short (skip_at b rest) rest)
tokens_short (suc skip) (b ∷ rest) = omega (arith, tokens_short skip rest)

chosen_step : (b : Bool) (xs ys : List Token) → length ys ≤ length xs → length (if b then ys else xs) ≤ length xs
chosen_step true xs ys h = h
chosen_step false xs ys h = omega arith

after_labels_short : (ts : List Token) → length (after_labels ts) ≤ length ts
unfolding after_labels
after_labels_short [] = omega arith
after_labels_short (t ∷ []) = omega arith
after_labels_short (t ∷ c ∷ rest) = chosen_step (begins_label t c) (t ∷ c ∷ rest) (after_labels rest) (omega (arith, after_labels_short rest))

-- at most so many values
abbrev Few : ℕ → Option (List Amount) → Type 0
Few n o = IfSome o (λ xs. length xs ≤ n)

few_put : (n : ℕ) (a : Option Amount) (o : Option (List Amount)) → Few n o → Few (suc n) (put_first a o)
few_put n None o h = tt
few_put n (Some x) None h = tt
few_put n (Some x) (Some xs) h = omega (arith, h)

few_more : (n : ℕ) (o : Option (List Amount)) → Few n o → Few (suc n) o
few_more n None h = tt
few_more n (Some xs) h = omega (arith, h)

few_if : (n : ℕ) (b : Bool) (o p : Option (List Amount)) → Few n o → Few n p → Few n (if b then o else p)
few_if n true o p h k = h
few_if n false o p h k = k

few_values : (next : Next) (width : Width) (ts : List Token) → Few (length ts) (values_from next width ts)
unfolding values_from
few_values ValueNext width [] = tt
few_values DigitsNext width [] = tt
few_values CommaNext width [] = omega arith
few_values ValueNext width (t ∷ ts) =
    few_if (suc (length ts)) (same_name (codes "-") t.bytes) _ _
    (few_more (length ts) _ (few_values DigitsNext width ts))
    (few_put (length ts) (plain_value t.kind width t.bytes) _ (few_values CommaNext width ts))
few_values DigitsNext width (t ∷ ts) = few_put (length ts) (signed_value t.kind width t.bytes) _ (few_values CommaNext width ts)
few_values CommaNext width (t ∷ ts) =
    few_if (suc (length ts)) (same_name (codes ",") t.bytes) _ _ (few_more (length ts) _ (few_values ValueNext width ts)) tt

-- what a statement of so many tokens adds
abbrev Adds : ℕ → Says → Type 0
Adds n says = (long : ℕ) → added long says ≤ 65536 + 4 * n

adds_if : (n : ℕ) (b : Bool) (x y : Statement) → Adds n x.says → Adds n y.says → Adds n (if b then x else y).says
adds_if n true x y h k = h
adds_if n false x y h k = k

adds_shaped : (n : ℕ) (b : Bool) → Adds n (shaped b)
adds_shaped n true long = omega arith
adds_shaped n false long = omega arith

width_small : (width : Width) → width_bytes width ≤ 4
width_small Byte = omega arith
width_small Short = omega arith
width_small Word = omega arith

times_small : (w n m : ℕ) → w ≤ 4 → n ≤ m → w * n ≤ 4 * m
times_small w n m h k = omega (arith, mul-le-mul_left w k, mul-le-mul_right m h)

adds_valued : (n : ℕ) (width : Width) (o : Option (List Amount)) → Few n o → Adds n (valued width o)
adds_valued n width None h long = omega arith
adds_valued n width (Some xs) h long = omega (arith, times_small (width_bytes width) (length xs) n (width_small width) h)

limit_step : (b : Bool) (m k : ℕ) → (b ≡ true → k ≤ m) → IfSome (if b then Some k else None) (λ k. k ≤ m)
limit_step true m k h = h refl
limit_step false m k h = tt

at_most_small : (m : ℕ) (o : Option ℕ) → IfSome (at_most m o) (λ k. k ≤ m)
at_most_small m None = tt
at_most_small m (Some k) = limit_step (nat_le k m) m k (λ e. leb-true k m e)

adds_zeros_of : (n : ℕ) (o : Option ℕ) → IfSome o (λ k. k ≤ 65536) → Adds n (Zeros o)
adds_zeros_of n None h long = omega arith
adds_zeros_of n (Some k) h long = omega (arith, h)

adds_zeros : (n : ℕ) (o : Option (List ℕ)) → Adds n (zeros o)
adds_zeros n None long = omega arith
adds_zeros n (Some digits) long = adds_zeros_of n _ (at_most_small 65536 (source_number_of digits)) long

unit_step : (b : Bool) (k : ℕ) → k ≤ 1024 → IfSome (if b then None else Some k) (λ u. u ≤ 1024)
unit_step true k h = tt
unit_step false k h = h

not_zero_small : (k : ℕ) → k ≤ 1024 → IfSome (not_zero k) (λ u. u ≤ 1024)
not_zero_small k h = unit_step (k == 0) k h

and_then_small : (o : Option ℕ) → IfSome o (λ k. k ≤ 1024) → IfSome (option_and_then not_zero o) (λ u. u ≤ 1024)
and_then_small None h = tt
and_then_small (Some k) h = not_zero_small k h

padding_small : (long unit : ℕ) → padding long unit ≤ unit
padding_small long unit = omega (arith, mod-le (unit - long % unit) unit)

adds_aligned_of : (n : ℕ) (o : Option ℕ) → IfSome o (λ u. u ≤ 1024) → Adds n (Align o)
adds_aligned_of n None h long = omega arith
adds_aligned_of n (Some u) h long = omega (arith, padding_small long u, h)

adds_aligned : (n : ℕ) (o : Option (List ℕ)) → Adds n (aligned o)
adds_aligned n None long = omega arith
adds_aligned n (Some digits) long = adds_aligned_of n _ (and_then_small _ (at_most_small 1024 (source_number_of digits))) long

adds_directive : (name : List ℕ) (ts : List Token) → Adds (length ts) (directive name ts).says
adds_directive name ts =
    let n = length ts in
    adds_if n (same_name (codes ".text") name) _ _ (adds_shaped n (is_nothing ts))
    (adds_if n (same_name (codes ".globl") name) _ _ (adds_shaped n (is_lone_name ts))
    (adds_if n (same_name (codes ".align") name) _ _ (adds_aligned n (lone_number ts))
    (adds_if n (same_name (codes ".data") name) _ _ (adds_shaped n (is_nothing ts))
    (adds_if n (same_name (codes ".cp") name) _ _ (adds_shaped n (is_nothing ts))
    (adds_if n (same_name (codes ".word") name) _ _ (adds_valued n Word _ (few_values ValueNext Word ts))
    (adds_if n (same_name (codes ".short") name) _ _ (adds_valued n Short _ (few_values ValueNext Short ts))
    (adds_if n (same_name (codes ".byte") name) _ _ (adds_valued n Byte _ (few_values ValueNext Byte ts))
    (adds_if n (same_name (codes ".space") name) _ _ (adds_zeros n (lone_number ts))
    (λ long. omega arith)))))))))

adds_says_if : (n : ℕ) (b : Bool) (x y : Says) → Adds n x → Adds n y → Adds n (if b then x else y)
adds_says_if n true x y h k = h
adds_says_if n false x y h k = k

adds_of_row : (n : ℕ) (operands : List Operand) (o : Option Row) → Adds n (of_row operands o)
adds_of_row n operands None = λ long. omega arith
adds_of_row n operands (Some row) = λ long. omega arith

adds_instruction : (n : ℕ) (name : List ℕ) (operands : List Operand) → Adds n (instruction name operands)
adds_instruction n name operands = adds_says_if n (known name) _ _ (adds_of_row n operands (option_and_then (find name) (shapes_of operands))) (λ long. omega arith)

adds_more : (n m : ℕ) (says : Says) → n ≤ m → Adds n says → Adds m says
adds_more n m says h k long = omega (arith, k long, h)

adds_statement : (ts : List Token) → Adds (length ts) (statement ts).says
adds_statement [] = λ long. omega arith
adds_statement (t ∷ rest) =
    let n = length (t ∷ rest) in
    adds_if n (not (is_name_kind t.kind)) _ _ (λ long. omega arith)
    (adds_if n (begins_with 46 t.bytes) _ _ (adds_more (length rest) n (directive t.bytes rest).says (omega arith) (adds_directive t.bytes rest)) (adds_instruction n t.bytes (operands_of rest)))

pub line_adds : (bytes : List ℕ) (long : ℕ) → added long (line_of bytes).statement.says ≤ 65536 + 4 * length bytes
line_adds bytes long =
    omega (arith, adds_statement (after_labels (tokens_of bytes)) long, after_labels_short (tokens_of bytes), tokens_short 0 bytes)
