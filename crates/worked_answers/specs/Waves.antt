-- Answers to `wave SLOTS` and `pinsof N`, worked out by hand.
use Rattle.std.specs.Prelude.{ℕ, ◌≡◌, true, false, Some, None, List, [], ◌∷◌, ◌++◌, codes}
use Rattle.answer_model.specs.declared.Answer.{Answer}
use Rattle.answer_model.specs.declared.Form.TheVariants.{Wave, PinsOf}
use Rattle.answer_model.specs.Forms.{form_of_words, asks_for_input, form_may_wait}
use Rattle.answer_model.specs.Top.{answer, taken, most_taken, most_reads}
use Rattle.worked_answers.specs.Answers.{lone, done, frame_refused, source_refused}
use Rattle.worked_answers.specs.Pins.{with_script, script_refused}
use Rattle.worked_answers.specs.Snapshots.{told_usage}

abbrev pub wave_for : List ℕ → List (List ℕ)
wave_for slots = codes "wave" ∷ slots ∷ []

abbrev pub pins_for : List ℕ → List (List ℕ)
pins_for node = codes "pinsof" ∷ node ∷ []

-- which form the words have, whether it waits, and how much it takes
pub record WorkedWaveForms : Type 0 where
  pub wave : form_of_words (wave_for (codes "20")) ≡ Some (Wave 20)
  pub no_slots : form_of_words (wave_for (codes "0000000000")) ≡ Some (Wave 0)
  pub most : form_of_words (wave_for (codes "1000000")) ≡ Some (Wave 1000000)
  pub one_more : form_of_words (wave_for (codes "1000001")) ≡ None
  pub pins : form_of_words (pins_for (codes "0")) ≡ Some (PinsOf 0)
  pub last_node : form_of_words (pins_for (codes "99")) ≡ Some (PinsOf 99)
  pub no_node : form_of_words (pins_for (codes "100")) ≡ None
  pub leading_zero : form_of_words (pins_for (codes "07")) ≡ None
  pub two_zeros : form_of_words (pins_for (codes "00")) ≡ None
  pub no_digits : form_of_words (pins_for []) ≡ None
  pub lone_word : answer (codes "wave" ∷ []) (lone []) ≡ told_usage
  pub another_case : answer (codes "pinsOf" ∷ codes "0" ∷ []) (lone []) ≡ told_usage
  pub word_more : answer (codes "wave" ∷ codes "5" ∷ codes "serial" ∷ []) (lone []) ≡ told_usage
  pub goes_on : form_may_wait (form_of_words (wave_for (codes "20"))) ≡ false
  pub asks : asks_for_input (form_of_words (pins_for (codes "0"))) ≡ true
  pub takes : taken (pins_for (codes "0")) (codes "#0\n") ≡ 3
  pub most_bytes : most_taken (form_of_words (pins_for (codes "0"))) ≡ 4194305
  pub reads : most_reads (form_of_words (wave_for (codes "1"))) ≡ 4194305

-- a node that drives the identifier of port 32A on it in slot 10
abbrev pub driver : List ℕ
driver = lone (codes "  ldw r0, dp[0]\n  setc res[r0], 8\n  out res[r0], r0\n  freet\n  .data\n  .word 0x00200000\n")

-- what is declared of its pins, and their levels in slot 0
abbrev pub declared : List ℕ
declared =
    codes "$timescale 1 ns $end\n$scope module n0 $end\n$var wire 1 !! 1A $end\n$var wire 1 !\" 1B $end\n$var wire 1 !# 1C $end\n$var wire 1 !$ 1D $end\n"
    ++ codes "$var wire 1 !% 1E $end\n$var wire 1 !& 1F $end\n$var wire 1 !' 1G $end\n$var wire 1 !( 1H $end\n$var wire 1 !) 1I $end\n$var wire 1 !* 1J $end\n"
    ++ codes "$var wire 1 !+ 1K $end\n$var wire 1 !, 1L $end\n$var wire 1 !- 1M $end\n$var wire 1 !. 1N $end\n$var wire 1 !/ 1O $end\n$var wire 1 !0 1P $end\n"
    ++ codes "$var wire 4 !1 4A $end\n$var wire 4 !2 4B $end\n$var wire 4 !3 4C $end\n$var wire 4 !4 4D $end\n$var wire 4 !5 4E $end\n$var wire 4 !6 4F $end\n"
    ++ codes "$var wire 8 !7 8A $end\n$var wire 8 !8 8B $end\n$var wire 8 !9 8C $end\n$var wire 8 !: 8D $end\n$var wire 16 !; 16A $end\n$var wire 16 !< 16B $end\n"
    ++ codes "$var wire 32 != 32A $end\n$upscope $end\n$enddefinitions $end\n"

abbrev pub at_start : List ℕ
at_start =
    codes "#0\n0!!\n0!\"\n0!#\n0!$\n0!%\n0!&\n0!'\n0!(\n0!)\n0!*\n0!+\n0!,\n0!-\n0!.\n0!/\n0!0\nb0 !1\nb0 !2\nb0 !3\nb0 !4\nb0 !5\nb0 !6\nb0 !7\nb0 !8\nb0 !9\nb0 !:\n"
    ++ codes "b0 !;\nb0 !<\nb0 !=\n"

-- the same without the last of them
abbrev pub nearly_at_start : List ℕ
nearly_at_start =
    codes "#0\n0!!\n0!\"\n0!#\n0!$\n0!%\n0!&\n0!'\n0!(\n0!)\n0!*\n0!+\n0!,\n0!-\n0!.\n0!/\n0!0\nb0 !1\nb0 !2\nb0 !3\nb0 !4\nb0 !5\nb0 !6\nb0 !7\nb0 !8\nb0 !9\nb0 !:\n"
    ++ codes "b0 !;\nb0 !<\n"

-- the script of its levels in slot 0
abbrev pub script_at_start : List ℕ
script_at_start =
    codes "0 0:1A 0\n0 0:1B 0\n0 0:1C 0\n0 0:1D 0\n0 0:1E 0\n0 0:1F 0\n0 0:1G 0\n0 0:1H 0\n0 0:1I 0\n0 0:1J 0\n0 0:1K 0\n0 0:1L 0\n0 0:1M 0\n0 0:1N 0\n0 0:1O 0\n0 0:1P 0\n"
    ++ codes "0 0:4A 0\n0 0:4B 0\n0 0:4C 0\n0 0:4D 0\n0 0:4E 0\n0 0:4F 0\n0 0:8A 0\n0 0:8B 0\n0 0:8C 0\n0 0:8D 0\n0 0:16A 0\n0 0:16B 0\n0 0:32A 0\n"

pub record WorkedWaves : Type 0 where
  pub nothing : answer (wave_for (codes "0")) driver ≡ done (declared ++ codes "#0\n")
  pub one_slot : answer (wave_for (codes "1")) driver ≡ done (declared ++ at_start ++ codes "#1\n")
  -- the change is one of the slot in which it is driven
  pub not_yet : answer (wave_for (codes "10")) driver ≡ done (declared ++ at_start ++ codes "#10\n")
  pub driven : answer (wave_for (codes "11")) driver ≡ done (declared ++ at_start ++ codes "#10\nb1000000000000000000000 !=\n#11\n")
  -- a line of the script tells a level from its slot on, where it is another one
  pub script :
      answer (wave_for (codes "9")) (with_script (codes "freet\n") (codes "3 0:4A 0\n5 0:1B 1\n5 0:4A 6\n7 0:1B 0\n8 0:4A 6\n"))
      ≡ done (declared ++ at_start ++ codes "#5\n1!\"\nb110 !1\n#7\n0!\"\n#9\n")
  pub no_nodes : answer (wave_for (codes "3")) (codes "xs1 1\n") ≡ done (codes "$timescale 1 ns $end\n$enddefinitions $end\n#0\n#3\n")
  pub refused_frame : answer (wave_for (codes "3")) (codes "xs1 3\n") ≡ frame_refused (codes "system line 1: S1 first line is not xs1 1 or xs1 2\n")
  pub refused_source : answer (wave_for (codes "3")) (lone (codes "foo\n")) ≡ source_refused (codes "source 0 line 1: A2 unknown name\n")
  pub refused_script : answer (wave_for (codes "0")) (with_script [] (codes "5 0:4A 16\n")) ≡ script_refused (codes "pins line 1: P4 value too wide\n")

-- what the wave of these lines after those that declare pins gives node 0
abbrev pub pins_after : List ℕ → Answer
pins_after lines = answer (pins_for (codes "0")) (declared ++ lines)

abbrev pub bad_line : List ℕ → Answer
bad_line number = frame_refused (codes "wave line " ++ (number ++ codes ": V1 bad line\n"))

pub record WorkedPinsOf : Type 0 where
  pub nothing : pins_after (codes "#0\n") ≡ done []
  pub one_slot : pins_after (at_start ++ codes "#1\n") ≡ done script_at_start
  pub driven : pins_after (at_start ++ codes "#14\nb1010 !1\n#20\n") ≡ done (script_at_start ++ codes "14 0:4A 10\n")
  -- a level that is told again counts, a carriage return may stand before a line feed, and the last line needs none
  pub again : pins_after (at_start ++ codes "#3\r\n0!!\n#4\n1!!\n#5") ≡ done (script_at_start ++ codes "3 0:1A 0\n4 0:1A 1\n")
  pub no_such_node : answer (pins_for (codes "1")) (declared ++ at_start ++ codes "#20\n") ≡ frame_refused (codes "wave line 0: V2 no such node\n")
  pub no_node_at_all : answer (pins_for (codes "0")) (codes "$timescale 1 ns $end\n$enddefinitions $end\n#0\n#3\n") ≡ frame_refused (codes "wave line 0: V2 no such node\n")
  -- a bad line comes before a node that is not there
  pub both : answer (pins_for (codes "1")) (declared ++ codes "#1\n") ≡ bad_line (codes "34")
  pub empty : answer (pins_for (codes "0")) [] ≡ bad_line (codes "1")
  pub not_declared : answer (pins_for (codes "0")) (codes "$timescale 1 ns $end\n$scope module n0 $end\n") ≡ bad_line (codes "3")
  pub no_slot : pins_after [] ≡ bad_line (codes "34")
  pub empty_line : pins_after (codes "\n#0\n") ≡ bad_line (codes "34")
  pub one_pin_left_out : pins_after (nearly_at_start ++ codes "#1\n") ≡ bad_line (codes "63")
  pub no_end : pins_after at_start ≡ bad_line (codes "64")
  pub empty_slot : pins_after (at_start ++ codes "#5\n#14\n") ≡ bad_line (codes "65")
  pub leading_zero : pins_after (at_start ++ codes "#05\n") ≡ bad_line (codes "64")
  pub value_too_wide : pins_after (at_start ++ codes "#5\nb10000 !1\n#6\n") ≡ bad_line (codes "65")
  pub value_with_zeros : pins_after (at_start ++ codes "#5\nb00 !1\n#6\n") ≡ bad_line (codes "65")
  pub vector_of_one_bit : pins_after (at_start ++ codes "#5\nb1 !!\n#6\n") ≡ bad_line (codes "65")
  pub falling_pin : pins_after (at_start ++ codes "#5\n1!\"\n1!!\n#6\n") ≡ bad_line (codes "66")
  pub same_pin : pins_after (at_start ++ codes "#5\n1!!\n0!!\n#6\n") ≡ bad_line (codes "66")
  pub pin_of_no_node : pins_after (at_start ++ codes "#5\n0!>\n#6\n") ≡ bad_line (codes "65")
  pub same_slot : pins_after (at_start ++ codes "#5\n1!!\n#5\n") ≡ bad_line (codes "66")
  pub last_slot : pins_after (at_start ++ codes "#1000000\n") ≡ done script_at_start
  pub change_in_last_slot : pins_after (at_start ++ codes "#1000000\n1!!\n") ≡ bad_line (codes "65")
  pub slot_too_great : pins_after (at_start ++ codes "#1000001\n") ≡ bad_line (codes "64")
