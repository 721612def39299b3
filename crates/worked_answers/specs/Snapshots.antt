-- Answers to `save SLOTS` and `resume SLOTS`, worked out by hand.
use Rattle.std.specs.Prelude.{ℕ, ◌≡◌, true, false, Some, None, List, [], ◌∷◌, ◌++◌, length, codes}
use Rattle.answer_model.specs.declared.Answer.{Answer}
use Rattle.answer_model.specs.declared.Form.TheVariants.{Save, Resume}
use Rattle.answer_model.specs.declared.Status.TheVariants.{Usage}
use Rattle.answer_model.specs.Forms.{form_of_words, asks_for_input, form_may_wait}
use Rattle.answer_model.specs.Top.{answer, taken, most_taken, most_reads}
use Rattle.worked_answers.specs.Answers.{lone, done, frame_refused, source_refused}
use Rattle.worked_answers.specs.Pins.{with_script, script_refused}

abbrev pub save_for : List ℕ → List (List ℕ)
save_for slots = codes "save" ∷ slots ∷ []

abbrev pub resume_for : List ℕ → List (List ℕ)
resume_for slots = codes "resume" ∷ slots ∷ []

abbrev pub told_usage : Answer
told_usage = record {
  text =
      codes "usage: xs1 run SLOTS [serial|free|rounds] | play SLOTS | make NUMBER | check | save SLOTS | resume SLOTS | routes"
      ++ codes " | wave SLOTS | pinsof N\n";
  status = Usage;
}

-- which form the words have, whether it waits, and how much it takes
pub record WorkedSnapForms : Type 0 where
  pub save : form_of_words (save_for (codes "20")) ≡ Some (Save 20)
  pub resume : form_of_words (resume_for (codes "40")) ≡ Some (Resume 40)
  pub most_saved : form_of_words (save_for (codes "16000000")) ≡ Some (Save 16000000)
  pub most_resumed : form_of_words (resume_for (codes "16000000")) ≡ Some (Resume 16000000)
  pub ten_digits : form_of_words (resume_for (codes "0000000040")) ≡ Some (Resume 40)
  pub too_many_saved : form_of_words (save_for (codes "16000001")) ≡ None
  pub too_many_resumed : form_of_words (resume_for (codes "16000001")) ≡ None
  pub eleven_digits : form_of_words (save_for (codes "00000000020")) ≡ None
  pub no_slots_to_save : form_of_words (codes "save" ∷ []) ≡ None
  pub no_slots_to_resume : form_of_words (codes "resume" ∷ []) ≡ None
  pub save_has_no_mode : form_of_words (codes "save" ∷ codes "20" ∷ codes "serial" ∷ []) ≡ None
  pub resume_has_no_mode : form_of_words (codes "resume" ∷ codes "40" ∷ codes "rounds" ∷ []) ≡ None
  pub another_case : form_of_words (codes "Resume" ∷ codes "40" ∷ []) ≡ None
  pub usage : answer (save_for (codes "+5")) (lone []) ≡ told_usage
  pub usage_of_resume : answer (resume_for (codes "16000001")) [] ≡ told_usage
  pub save_goes_on : form_may_wait (form_of_words (save_for (codes "20"))) ≡ false
  pub resume_goes_on : form_may_wait (form_of_words (resume_for (codes "40"))) ≡ false
  pub save_asks : asks_for_input (form_of_words (save_for (codes "20"))) ≡ true
  pub resume_asks : asks_for_input (form_of_words (resume_for (codes "40"))) ≡ true
  pub save_takes : taken (save_for (codes "20")) (codes "xs1 1\n") ≡ 6
  pub resume_takes : taken (resume_for (codes "40")) (codes "xs1 snapshot 1\n") ≡ 15
  pub most_of_save : most_taken (form_of_words (save_for (codes "20"))) ≡ 4194305
  pub most_of_resume : most_taken (form_of_words (resume_for (codes "40"))) ≡ 8388609
  pub most_of_none : most_taken (form_of_words (codes "resume" ∷ [])) ≡ 0
  pub reads_of_save : most_reads (form_of_words (save_for (codes "20"))) ≡ 4194305
  pub reads_of_resume : most_reads (form_of_words (resume_for (codes "40"))) ≡ 8388609
  pub reads_of_none : most_reads (form_of_words (codes "resume" ∷ [])) ≡ 4194305

-- ---- Snapshots

-- the first line, the length of a text, the text, and what stands after it
abbrev pub snapshot : List ℕ → List ℕ → List ℕ → List ℕ
snapshot count text rest = codes "xs1 snapshot 1\n" ++ (count ++ (text ++ rest))

-- of a system without nodes: after the text there is the slot alone
abbrev pub bare_snap : List ℕ → List ℕ
bare_snap slot = snapshot (6 ∷ 0 ∷ 0 ∷ 0 ∷ []) (codes "xs1 1\n") slot

-- the slots 20, 300, 16,000,000 and 16,000,001, the low byte first
abbrev pub at_20 : List ℕ
at_20 = 20 ∷ 0 ∷ 0 ∷ 0 ∷ []

abbrev pub at_300 : List ℕ
at_300 = 44 ∷ 1 ∷ 0 ∷ 0 ∷ []

abbrev pub at_the_last : List ℕ
at_the_last = 0 ∷ 36 ∷ 244 ∷ 0 ∷ []

abbrev pub past_the_last : List ℕ
past_the_last = 1 ∷ 36 ∷ 244 ∷ 0 ∷ []

-- what is saved
pub record WorkedSaves : Type 0 where
  pub no_nodes : answer (save_for (codes "20")) (codes "xs1 1\n") ≡ done (bare_snap at_20)
  pub two_bytes : answer (save_for (codes "300")) (codes "xs1 1\n") ≡ done (bare_snap at_300)
  pub no_input : answer (save_for (codes "1")) [] ≡ frame_refused (codes "system line 1: S1 first line is not xs1 1 or xs1 2\n")
  pub bad_source : answer (save_for (codes "1")) (lone (codes "foo\n")) ≡ source_refused (codes "source 0 line 1: A2 unknown name\n")
  pub bad_script : answer (save_for (codes "1")) (with_script [] (codes "5 0:4A 16\n")) ≡ script_refused (codes "pins line 1: P4 value too wide\n")

-- what is answered to a snapshot
pub record WorkedResumes : Type 0 where
  pub no_nodes : answer (resume_for (codes "40")) (bare_snap at_20) ≡ done (codes "end 40\n")
  pub at_once : answer (resume_for (codes "20")) (bare_snap at_20) ≡ done (codes "end 20\n")
  pub last_slot : answer (resume_for (codes "16000000")) (bare_snap at_the_last) ≡ done (codes "end 16000000\n")
  pub earlier : answer (resume_for (codes "19")) (bare_snap at_20) ≡ frame_refused (codes "snapshot byte 25: N3 slot out of range\n")
  pub earlier_by_far : answer (resume_for (codes "0")) (bare_snap at_300) ≡ frame_refused (codes "snapshot byte 25: N3 slot out of range\n")
  pub too_late : answer (resume_for (codes "16000000")) (bare_snap past_the_last) ≡ frame_refused (codes "snapshot byte 25: N3 slot out of range\n")
  pub nothing : answer (resume_for (codes "40")) [] ≡ frame_refused (codes "snapshot byte 0: N1 bad snapshot\n")
  pub a_system_text : answer (resume_for (codes "40")) (lone []) ≡ frame_refused (codes "snapshot byte 0: N1 bad snapshot\n")
  pub other_line : answer (resume_for (codes "40")) (codes "xs1 snapshot 2\n") ≡ frame_refused (codes "snapshot byte 0: N1 bad snapshot\n")
  pub returned_line : answer (resume_for (codes "40")) (codes "xs1 snapshot 1\r\n") ≡ frame_refused (codes "snapshot byte 0: N1 bad snapshot\n")
  pub no_length : answer (resume_for (codes "40")) (codes "xs1 snapshot 1\n") ≡ frame_refused (codes "snapshot byte 15: N1 bad snapshot\n")
  pub cut_length : answer (resume_for (codes "40")) (snapshot (6 ∷ 0 ∷ 0 ∷ []) [] []) ≡ frame_refused (codes "snapshot byte 15: N1 bad snapshot\n")
  pub cut_text : answer (resume_for (codes "40")) (snapshot (6 ∷ 0 ∷ 0 ∷ 0 ∷ []) (codes "xs1 1") []) ≡ frame_refused (codes "snapshot byte 19: N1 bad snapshot\n")
  pub no_slot : answer (resume_for (codes "40")) (bare_snap []) ≡ frame_refused (codes "snapshot byte 25: N1 bad snapshot\n")
  pub cut_slot : answer (resume_for (codes "40")) (bare_snap (20 ∷ 0 ∷ 0 ∷ [])) ≡ frame_refused (codes "snapshot byte 25: N1 bad snapshot\n")
  pub one_byte_more : answer (resume_for (codes "40")) (bare_snap (at_20 ++ 0 ∷ [])) ≡ frame_refused (codes "snapshot byte 29: N1 bad snapshot\n")
  -- the slot is tested last
  pub two_faults : answer (resume_for (codes "19")) (bare_snap (at_20 ++ 0 ∷ [])) ≡ frame_refused (codes "snapshot byte 29: N1 bad snapshot\n")
  -- whatever it is that refuses the text, and before anything after it is looked at
  pub bad_frame : answer (resume_for (codes "40")) (snapshot (6 ∷ 0 ∷ 0 ∷ 0 ∷ []) (codes "xs1 3\n") []) ≡ frame_refused (codes "snapshot byte 19: N2 system refused\n")
  pub no_text : answer (resume_for (codes "40")) (snapshot (0 ∷ 0 ∷ 0 ∷ 0 ∷ []) [] at_20) ≡ frame_refused (codes "snapshot byte 19: N2 system refused\n")
  pub bad_source : answer (resume_for (codes "40")) (snapshot (35 ∷ 0 ∷ 0 ∷ 0 ∷ []) (lone (codes "foo\n")) []) ≡ frame_refused (codes "snapshot byte 19: N2 system refused\n")
  pub bad_script : answer (resume_for (codes "40")) (snapshot (50 ∷ 0 ∷ 0 ∷ 0 ∷ []) (with_script [] (codes "5 0:4A 16\n")) []) ≡ frame_refused (codes "snapshot byte 19: N2 system refused\n")
  -- one byte more than a snapshot may have, whatever the bytes
  pub too_long : (bytes : List ℕ) → length bytes ≡ 8388609 → answer (resume_for (codes "40")) bytes ≡ frame_refused (codes "snapshot byte 0: N4 input too long\n")
