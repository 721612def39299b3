-- Lines of loads, as they were worked out by hand.
use Rattle.std.specs.Prelude.{◌≡◌, [], ◌∷◌, length, codes}
use Rattle.std.specs.List.{slice_range}
use Rattle.serial_model.specs.Serial.{serial}
use Rattle.worked_runs.specs.Systems.{talking_pair}
use Rattle.load_model.specs.Made.{made_line}
use Rattle.load_model.specs.Load.{node_count, link_text, bit_text, data_text, destination_at, first_word_at, load_lines, text_of_lines}

pub record WorkedLoads : Type 0 where
  -- 2 to 16 nodes
  pub fewest : node_count 0 ≡ 2
  pub most : node_count 14 ≡ 16
  pub fewest_again : node_count 15 ≡ 2
  pub greatest : node_count 4294967295 ≡ 2
  -- delays of 1 to 50: 749 is 14 more than 49 times 15, and 4294967295 is 286331153 times 15
  pub first_delay : link_text 0 0 ≡ codes "link 0:0 1:1 delay 1 gap 4"
  pub last_delay : link_text 749 0 ≡ codes "link 0:0 1:1 delay 50 gap 4"
  -- 750 is 50 times 15: the delays come again
  pub delay_again : link_text 750 0 ≡ codes "link 0:0 1:1 delay 1 gap 4"
  pub back : link_text 0 1 ≡ codes "link 1:0 0:1 delay 8 gap 5"
  pub far_on : link_text 14 15 ≡ codes "link 15:0 0:1 delay 6 gap 4"
  pub delay_of_the_greatest : link_text 4294967295 0 ≡ codes "link 0:0 1:1 delay 4 gap 4"
  -- the highest bit that differs: of 0 and 1, of 3 and 4, of 7 and 8, of 15 and 0, of 2 and 0
  pub lowest_bit : bit_text 14 0 ≡ codes "bit 0 0 0"
  pub over_four : bit_text 14 3 ≡ codes "bit 3 2 0"
  pub over_eight : bit_text 14 7 ≡ codes "bit 7 3 0"
  pub round_of_sixteen : bit_text 14 15 ≡ codes "bit 15 3 0"
  pub round_of_three : bit_text 1 2 ≡ codes "bit 2 1 0"
  -- the two words
  pub first_words : data_text (destination_at 1 0) (first_word_at 1 0) ≡ codes "  .word 0x00010002, 0x00000001, 200, 1664525, 1013904223"
  -- 1 + 2 * 40503 is 81007, 0x13c6f
  pub last_words : data_text (destination_at 1 2) (first_word_at 1 2) ≡ codes "  .word 0x00000002, 0x00013c6f, 200, 1664525, 1013904223"
  -- 4294967295 + 40503 is 40502 past 2^32, 0x9e36
  pub past_the_end : data_text (destination_at 4294967295 1) (first_word_at 4294967295 1) ≡ codes "  .word 0x00000002, 0x00009e36, 200, 1664525, 1013904223"
  -- the frame of load 0, and where its first source begins
  pub frame : slice_range (load_lines 0) 0 8
      ≡ codes "xs1 1" ∷ codes "node 0 id 0" ∷ codes "node 1 id 1" ∷ codes "link 0:0 1:1 delay 1 gap 4" ∷ codes "link 1:0 0:1 delay 8 gap 5"
      ∷ codes "bit 0 0 0" ∷ codes "bit 1 0 0" ∷ codes "source 0" ∷ []
  -- the first line; three lines for each node, and 24 of its source with its first and last
  pub lines : length (load_lines 0) ≡ 55
  pub ends : text_of_lines (codes "a" ∷ codes "b" ∷ []) ≡ codes "a\nb\n"
  -- 16 nodes with 27 lines each, and the first line
  pub most_lines : length (load_lines 14) ≡ 433

-- what runs came to, as it was worked out by hand
pub record WorkedLines : Type 0 where
  -- the pair of two nodes of which one sends END to the other: three header bytes and END, a credit for each, and one event
  pub told : made_line 7 talking_pair (serial talking_pair 40) ≡ codes "made 7 nodes 2 tokens 4 credits 4 events 1\n"
  -- 30 slots end before END is delivered, and before the last credit
  pub cut : made_line 4294967295 talking_pair (serial talking_pair 30) ≡ codes "made 4294967295 nodes 2 tokens 4 credits 3 events 0\n"
