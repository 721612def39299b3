use Rattle.std.proofs.Common.{refl}
use Rattle.worked_texts.proofs.Computes.{computes}
use Rattle.worked_texts.proofs.source_lines.worked_source_lines.Goals as goal

pub returns-clause-bad_bytes : goal.returns-clause-bad_bytes
unfolding computes
returns-clause-bad_bytes c = record { tab = refl; in_a_comment = refl; returns = refl; two_returns = refl; return_at_the_end = refl; no_label = refl; no_bytes = refl; no_section = refl; before_all = refl }

pub returns-clause-unknown_names : goal.returns-clause-unknown_names
unfolding computes
returns-clause-unknown_names c = record { no_row = refl; capitals = refl; register = refl; status_register = refl; label = refl; after_a_reserved_label = refl; malformed_number = refl; after_a_row = refl; two_rows = refl; port_rows = refl }

pub returns-clause-shapes : goal.returns-clause-shapes
unfolding computes
returns-clause-shapes c = record { operand_missing = refl; operand_more = refl; operand_missing_in_a_product = refl; resource_missing = refl; bits_missing = refl; register_for_bits = refl; register_before_resource = refl; number_for_clock = refl; product = refl; commas_missing = refl; no_name = refl; no_label_name = refl; bracket = refl; sign = refl; slash = refl; malformed_number = refl; capital_base = refl; no_digits = refl; two_tokens = refl; signed_number = refl; register_outside = refl; other_register = refl; no_register = refl; status_register = refl; word_for_label = refl; register_for_label = refl; number_for_label = refl; name_in_register = refl; name_in_stack = refl; reserved_in_brackets = refl; register_in_brackets = refl; sign_in_brackets = refl; blanks = refl; reserved_label = refl; reserved_label_twice = refl; data_with_operand = refl; constants_with_operand = refl; text_with_operand = refl; global_missing = refl; global_number = refl; globals = refl; align_name = refl; space_signed = refl; two_signs = refl; signed_name = refl; sum = refl; no_value = refl; comma_more = refl; comma_missing = refl; comma_first = refl; short_of_label = refl; byte_of_label = refl; word_of_register = refl }

pub returns-clause-ranges : goal.returns-clause-ranges
unfolding computes
returns-clause-ranges c = record { short_last = refl; short_past = refl; short_wide = refl; zeros_in_front = refl; small_last = refl; small_past = refl; addend_last = refl; addend_past = refl; bits_last = refl; bits_between = refl; bits_none = refl; transfer_bits = refl; transfer_bits_between = refl; transfer_bits_none = refl; fixed_number = refl; other_fixed_number = refl; call_last = refl; call_past = refl; offset_past = refl; align_0 = refl; align_1025 = refl; space_past = refl; word_edges = refl; word_past = refl; word_below = refl; short_edges = refl; short_value_past = refl; short_value_below = refl; byte_edges = refl; byte_past = refl; byte_below = refl; before_missing = refl; data_target = refl; data_address = refl; code_offset = refl; offsets = refl; offset_uneven = refl }

pub returns-clause-labels : goal.returns-clause-labels
unfolding computes
returns-clause-labels c = record { twice = refl; twice_in_a_line = refl; twice_before_unknown = refl; missing = refl; missing_earlier = refl; missing_offset = refl; missing_word = refl; many = refl; names_of_statements = refl; at_the_end = refl; call_at_the_end = refl; reserved_between = refl; before_a_fault = refl; after_a_fault = refl; first_of_two = refl; global = refl }

pub returns-clause-sizes : goal.returns-clause-sizes
unfolding computes
returns-clause-sizes c = record { value_out_of_range = refl; misshapen = refl; unknown = refl; misplaced = refl; space_out_of_range = refl; reserved_label = refl; data_with_operand = refl; data_with_label_twice = refl }

pub returns-clause-sections : goal.returns-clause-sections
unfolding computes
returns-clause-sections c = record { nothing = refl; text = refl; all = refl; no_constants = refl; constants_start = refl; constants_start_without = refl; constants_alone = refl; label_on_data = refl; instruction_in_data = refl; instruction_in_constants = refl; no_name_in_data = refl; word_in_text = refl; text_in_data = refl; global_in_data = refl; data_twice = refl; constants_twice = refl; data_after_constants = refl; unknown_directive = refl; capitals = refl }

pub returns-clause-padding : goal.returns-clause-padding
unfolding computes
returns-clause-padding c = record { code = refl; code_even = refl; code_empty = refl; bytes = refl; label_before = refl; own_length = refl }

pub returns-clause-order : goal.returns-clause-order
unfolding computes
returns-clause-order c = record { byte_label_twice = refl; label_twice_directive = refl; label_twice_no_directive = refl; label_twice_instruction = refl; label_twice_section = refl; directive_reserved = refl; reserved_range = refl; reserved_missing = refl; reserved_instructions = refl; reserved_bytes = refl; label_twice_instructions = refl; range_instructions = refl; missing_instructions = refl; range_bytes = refl; missing_bytes = refl }

pub returns-clause-offsets : goal.returns-clause-offsets
unfolding computes
returns-clause-offsets c = record { by_dp = refl; by_cp = refl; number = refl; first = refl; second = refl; end = refl; code = refl; uneven = refl; below = refl; in_the_zeros = refl; number_past = refl; missing = refl; not_missing = refl; whole = refl; whole_missing = refl; whole_uneven = refl; whole_below = refl; reserved = refl; last_word = refl; too_far = refl }

pub returns-clause-limits : goal.returns-clause-limits
unfolding computes
returns-clause-limits c = record { most_instructions = refl; most_bytes = refl; most_with_zeros = refl; instructions = refl; padding = refl; padding_past = refl; target = refl; bytes = refl; zeros_of_constants = refl; constants = refl; out_of_range_first = refl; far_target = refl }
