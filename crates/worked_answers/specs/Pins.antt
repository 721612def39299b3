-- Answers for systems with a pin script, worked out by hand.
use Rattle.std.specs.Prelude.{ℕ, ◌≡◌, List, [], ◌++◌, codes}
use Rattle.answer_model.specs.declared.Answer.{Answer}
use Rattle.answer_model.specs.declared.Status.TheVariants.{ScriptFault}
use Rattle.answer_model.specs.Top.{answer}
use Rattle.worked_answers.specs.Answers.{lone, run_for, check, done, frame_refused, source_refused}

-- node 0 with this source, and a pin script behind it
abbrev pub with_script : List ℕ → List ℕ → List ℕ
with_script source script = lone source ++ (codes "pins\n" ++ (script ++ codes "end\n"))

-- what the pins of port 4A show in slot 8, stored; the node's number is not its position
abbrev pub peeking_node : List ℕ → List ℕ
peeking_node script =
    codes "xs1 1\nnode 7 id 0\nsource 7\nldw r0, dp[0]\nsetc res[r0], 8\npeek r1, res[r0]\nstw r1, dp[1]\n.data\n.word 0x00040000\nend\npins\n"
    ++ (script ++ codes "end\n")

abbrev pub script_refused : List ℕ → Answer
script_refused text = record { text = text; status = ScriptFault }

pub record WorkedPins : Type 0 where
  pub no_lines : answer (run_for (codes "0")) (with_script [] []) ≡ done (codes "end 0\n")
  -- the level of a pin that no instruction reads
  pub one_line : answer (run_for (codes "4")) (with_script (codes "freet\n") (codes "2 0:4A 5\n")) ≡ done (codes "end 4\n")
  -- a line counts in its own slot, and until the next one of its pin
  pub seen : answer (run_for (codes "13")) (peeking_node (codes "7 7:4A 5\n8 7:4A 6\n8 7:4B 9\n9 7:4A 7\n")) ≡ done (codes "n7 mem 0x00010000 0x00040000\nn7 mem 0x00010004 0x00000006\nend 13\n")
  pub seen_later : answer (run_for (codes "13")) (peeking_node (codes "2 7:4A 5\n9 7:4A 7\n")) ≡ done (codes "n7 mem 0x00010000 0x00040000\nn7 mem 0x00010004 0x00000005\nend 13\n")
  pub not_yet : answer (run_for (codes "13")) (peeking_node (codes "9 7:4A 7\n")) ≡ done (codes "n7 mem 0x00010000 0x00040000\nend 13\n")
  pub bad_line : answer (run_for (codes "0")) (with_script [] (codes "5 0:4A\n")) ≡ script_refused (codes "pins line 1: P1 bad line\n")
  pub slot_falls : answer (run_for (codes "0")) (with_script [] (codes "9 0:4A 1\n8 0:4A 2\n")) ≡ script_refused (codes "pins line 2: P2 slot falls\n")
  pub no_such_port : answer (run_for (codes "0")) (with_script [] (codes "\n# x\n5 0:4G 1\n")) ≡ script_refused (codes "pins line 3: P3 no such port\n")
  pub value_too_wide : answer (run_for (codes "0")) (with_script [] (codes "5 0:4A 16\n")) ≡ script_refused (codes "pins line 1: P4 value too wide\n")
  pub no_such_node : answer (run_for (codes "0")) (with_script [] (codes "5 1:4A 1\n")) ≡ script_refused (codes "pins line 1: P5 no such node\n")
  pub pin_given_twice : answer (run_for (codes "0")) (with_script [] (codes "5 0:4A 1\n5 0:4A 1\n")) ≡ script_refused (codes "pins line 2: P6 pin given twice\n")
  -- `check` refuses it likewise, and shows nothing of one that is good
  pub check_refuses : answer check (with_script (codes "nop\n") (codes "5 0:4A 16\n")) ≡ script_refused (codes "pins line 1: P4 value too wide\n")
  pub check_takes : answer check (with_script (codes "nop\n") (codes "5 0:4A 15\n")) ≡ done (codes "source 0\n  nop\n.data\n.cp\nend\n")
  -- the frame comes first, then the sources
  pub source_first : answer check (with_script (codes "foo\n") (codes "foo\n")) ≡ source_refused (codes "source 0 line 1: A2 unknown name\n")
  pub frame_first : answer check (with_script (codes "foo\n") (codes "foo\n") ++ codes "pins\n") ≡ frame_refused (codes "system line 9: S3 given twice\n")
  pub not_ended : answer check (lone [] ++ codes "pins\nfoo\n") ≡ frame_refused (codes "system line 5: S9 section not ended\n")
