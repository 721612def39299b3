use Rattle.std.proofs.Common.{refl}
use Rattle.worked_machine.proofs.Computes.{computes}
use Rattle.worked_machine.proofs.memory.worked_memory.Goals as goal

pub returns : goal.returns
unfolding computes
returns c = record {
  loads = record {
    word = refl;
    next_word = refl;
    farthest = refl;
    over_its_base = refl;
    at_index = refl;
    at_index_below = refl;
    at_index_beyond = refl;
    over_its_index = refl;
    from_dp = refl;
    over_dp = refl;
    from_sp = refl;
    over_sp = refl;
    from_cp = refl;
    from_far = refl;
    half = refl;
    negative_half = refl;
    half_beyond = refl;
    byte = refl;
    high_byte = refl;
    byte_below = refl;
  };
  bad_loads = record {
    one_above = refl;
    two_above = refl;
    three_above = refl;
    below = refl;
    above = refl;
    wrapped = refl;
    at_index = refl;
    at_code = refl;
    from_dp = refl;
    from_sp = refl;
    from_cp = refl;
    odd_half = refl;
    half_below = refl;
    half_above = refl;
    byte_below = refl;
    byte_above = refl;
  };
  stores = record {
    word = refl;
    farthest = refl;
    its_base = refl;
    at_index = refl;
    at_index_below = refl;
    to_dp = refl;
    sp_to_sp = refl;
    half = refl;
    first_half = refl;
    byte = refl;
    first_byte = refl;
  };
  bad_stores = record {
    unaligned = refl;
    at_the_end = refl;
    above = refl;
    wrapped = refl;
    to_dp = refl;
    to_sp = refl;
    at_code = refl;
    odd_half = refl;
    half_above = refl;
    byte_below = refl;
    byte_above = refl;
  };
  addresses = record {
    words_up = refl;
    words_up_wraps = refl;
    words_up_far = refl;
    words_down = refl;
    words_down_wraps = refl;
    words_down_far = refl;
    no_words_down = refl;
    number_up = refl;
    no_number_up = refl;
    number_down = refl;
    number_down_wraps = refl;
    no_number_down = refl;
    from_dp = refl;
    from_sp = refl;
    from_cp = refl;
    halves_up = refl;
    halves_up_wraps = refl;
    no_halves_up = refl;
    halves_down = refl;
    halves_down_far = refl;
    of_code = refl;
    at_codes_end = refl;
  };
  slots = record {
    stored = refl;
    store_goes_on = refl;
    loaded = refl;
    loaded_sp = refl;
    stored_cp = refl;
    first_bytes = refl;
    last_word = refl;
    last_word_loaded = refl;
    last_half_loaded = refl;
    last_byte_loaded = refl;
    last_word_stored = refl;
    last_half_stored = refl;
    last_byte_stored = refl;
  };
}
