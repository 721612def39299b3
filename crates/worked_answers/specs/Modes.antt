-- The modes of a run, worked out by hand: which form words with them have, what is answered to them, and which may wait.
use Rattle.std.specs.Prelude.{◌≡◌, true, false, Some, None, List, ℕ, [], ◌∷◌, ◌++◌, codes}
use Rattle.answer_model.specs.declared.Form.TheVariants.{Free, Serial, Rounds, Play}
use Rattle.answer_model.specs.Forms.{form_of_words, asks_for_input, form_may_wait}
use Rattle.answer_model.specs.Modes.{run_words, mode_words}
use Rattle.answer_model.specs.Top.{answer, taken}
use Rattle.worked_answers.specs.Answers.{lone, done, frame_refused, source_refused, no_usage}
use Rattle.worked_answers.specs.Pairs.{joined_pair, sender_source, receiver_source}
use Rattle.worked_answers.specs.Pins.{with_script, script_refused}

abbrev pub in_rounds : List ℕ → List (List ℕ)
in_rounds slots = mode_words slots (codes "rounds")

-- which form the words have
pub record WorkedForms : Type 0 where
  pub usual : form_of_words (run_words (codes "20")) ≡ Some (Free 20)
  pub free : form_of_words (mode_words (codes "20") (codes "free")) ≡ Some (Free 20)
  pub serial : form_of_words (mode_words (codes "20") (codes "serial")) ≡ Some (Serial 20)
  pub rounds : form_of_words (in_rounds (codes "20")) ≡ Some (Rounds 20)
  pub most_slots : form_of_words (in_rounds (codes "16000000")) ≡ Some (Rounds 16000000)
  pub most_usual_slots : form_of_words (run_words (codes "16000000")) ≡ Some (Free 16000000)
  pub most_free_slots : form_of_words (mode_words (codes "16000000") (codes "free")) ≡ Some (Free 16000000)
  pub most_serial_slots : form_of_words (mode_words (codes "16000000") (codes "serial")) ≡ Some (Serial 16000000)
  pub most_play_slots : form_of_words (codes "play" ∷ codes "16000000" ∷ []) ≡ Some (Play 16000000)
  pub ten_digits : form_of_words (in_rounds (codes "0000000020")) ≡ Some (Rounds 20)
  pub too_many_slots : form_of_words (in_rounds (codes "16000001")) ≡ None
  pub too_many_usual_slots : form_of_words (run_words (codes "16000001")) ≡ None
  pub too_many_free_slots : form_of_words (mode_words (codes "16000001") (codes "free")) ≡ None
  pub too_many_serial_slots : form_of_words (mode_words (codes "16000001") (codes "serial")) ≡ None
  pub too_many_play_slots : form_of_words (codes "play" ∷ codes "16000001" ∷ []) ≡ None
  pub eleven_digits : form_of_words (in_rounds (codes "00000000020")) ≡ None
  pub no_slots : form_of_words (run_words (codes "rounds")) ≡ None
  pub empty_slots : form_of_words (in_rounds []) ≡ None
  pub another_case : form_of_words (mode_words (codes "20") (codes "Rounds")) ≡ None
  pub one_round : form_of_words (mode_words (codes "20") (codes "round")) ≡ None
  pub a_blank : form_of_words (mode_words (codes "20") (codes "rounds ")) ≡ None
  pub two_modes : form_of_words (codes "run" ∷ codes "20" ∷ codes "rounds" ∷ codes "serial" ∷ []) ≡ None
  pub another_order : form_of_words (codes "run" ∷ codes "rounds" ∷ codes "20" ∷ []) ≡ None
  pub play_has_no_mode : form_of_words (codes "play" ∷ codes "20" ∷ codes "rounds" ∷ []) ≡ None
  pub make_has_no_mode : form_of_words (codes "make" ∷ codes "1" ∷ codes "rounds" ∷ []) ≡ None
  pub check_has_no_mode : form_of_words (codes "check" ∷ codes "rounds" ∷ []) ≡ None

-- which may wait, and which asks for the input
pub record WorkedWaits : Type 0 where
  pub usual : form_may_wait (form_of_words (run_words (codes "20"))) ≡ true
  pub free : form_may_wait (form_of_words (mode_words (codes "20") (codes "free"))) ≡ true
  pub serial : form_may_wait (form_of_words (mode_words (codes "20") (codes "serial"))) ≡ false
  pub rounds : form_may_wait (form_of_words (in_rounds (codes "20"))) ≡ false
  pub no_form : form_may_wait (form_of_words (in_rounds (codes "16000001"))) ≡ false
  pub rounds_ask : asks_for_input (form_of_words (in_rounds (codes "20"))) ≡ true
  pub rounds_take : taken (in_rounds (codes "20")) (codes "xs1 1\n") ≡ 6

-- what is answered to a run that goes round by round
pub record WorkedRounds : Type 0 where
  pub no_slots : answer (in_rounds (codes "0")) (lone []) ≡ done (codes "end 0\n")
  pub no_nodes : answer (in_rounds (codes "3")) (codes "xs1 1\n") ≡ done (codes "end 3\n")
  -- header bytes at 13, 17, 21 and END at 25; it arrives at 30, and the last credit leaves then
  pub pair : answer (in_rounds (codes "40")) (joined_pair sender_source receiver_source) ≡
      done (codes "30 n1 chan 0 ct 1\nlink 0:0>1:0 tokens 4 credits 0\nlink 1:0>0:0 tokens 0 credits 4\n"
      ++ codes "n0 mem 0x00010000 0x00010002\nend 40\n")
  pub pair_cut : answer (in_rounds (codes "30")) (joined_pair sender_source receiver_source) ≡
      done (codes "link 0:0>1:0 tokens 4 credits 0\nlink 1:0>0:0 tokens 0 credits 3\nn0 mem 0x00010000 0x00010002\nend 30\n")
  pub no_input : answer (in_rounds (codes "1")) [] ≡ frame_refused (codes "system line 1: S1 first line is not xs1 1 or xs1 2\n")
  pub bad_source : answer (in_rounds (codes "1")) (lone (codes "foo\n")) ≡ source_refused (codes "source 0 line 1: A2 unknown name\n")
  pub bad_script : answer (in_rounds (codes "1")) (with_script [] (codes "5 0:4A 16\n")) ≡ script_refused (codes "pins line 1: P4 value too wide\n")
  pub too_many_slots : answer (in_rounds (codes "16000001")) (lone []) ≡ no_usage
