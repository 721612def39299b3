-- Answers worked out by hand: what the program writes for small systems.
use Rattle.std.specs.Prelude.{ℕ, ◌≡◌, Some, List, [], ◌∷◌, ◌++◌, codes}
use Rattle.answer_model.specs.declared.Answer.{Answer}
use Rattle.answer_model.specs.declared.Status.TheVariants.{Done, Usage, SystemFault, SourceFault}
use Rattle.answer_model.specs.declared.Form.TheVariants.{Make}
use Rattle.answer_model.specs.Forms.{form_of_words, usage_text}
use Rattle.answer_model.specs.Top.{answer}

-- node 0 with this source
abbrev pub lone : List ℕ → List ℕ
lone source = codes "xs1 1\nnode 0 id 0\nsource 0\n" ++ (source ++ codes "end\n")

abbrev pub run_for : List ℕ → List (List ℕ)
run_for slots = codes "run" ∷ slots ∷ []

abbrev pub done : List ℕ → Answer
done text = record { text = text; status = Done }

abbrev pub frame_refused : List ℕ → Answer
frame_refused text = record { text = text; status = SystemFault }

abbrev pub source_refused : List ℕ → Answer
source_refused text = record { text = text; status = SourceFault }

abbrev pub no_usage : Answer
no_usage = record { text = usage_text; status = Usage }

-- the sum of two constants, stored
abbrev pub sum_source : List ℕ
sum_source = codes "main: ldc r0, 5\n  ldc r1, 7\n  add r2, r0, r1 // 12\n  stw r2, dp[0]\n  freet\n"

-- a count down from 3
abbrev pub countdown_source : List ℕ
countdown_source = codes "main: ldc r0, 3\nldc r1, 1\nloop: sub r0, r0, r1\nbt r0, loop\nstw r1, dp[1]\nfreet\n"

pub record WorkedAnswers : Type 0 where
  pub nothing : answer (run_for (codes "0")) (lone []) ≡ done (codes "end 0\n")
  pub sum : answer (run_for (codes "20")) (lone sum_source) ≡ done (codes "n0 mem 0x00010000 0x0000000c\nend 20\n")
  -- the store is issued in slot 12
  pub before_the_store : answer (run_for (codes "12")) (lone sum_source) ≡ done (codes "end 12\n")
  pub no_code : answer (run_for (codes "1")) (lone []) ≡ done (codes "0 n0.t0 trap 2 pc 0x00040000 data 0x00040000\n0 n0.t0 halt\nn0.t0 halted\nend 1\n")
  pub countdown : answer (run_for (codes "33")) (lone countdown_source) ≡ done (codes "n0 mem 0x00010004 0x00000001\nend 33\n")
  pub countdown_cut : answer (run_for (codes "32")) (lone countdown_source) ≡ done (codes "end 32\n")
  pub bad_address : answer (run_for (codes "1")) (lone (codes "ldw r0, dp[16384]\n")) ≡ done (codes "0 n0.t0 trap 5 pc 0x00040000 data 0x00020000\n0 n0.t0 halt\nn0.t0 halted\nend 1\n")
  pub serial : answer (codes "run" ∷ codes "12" ∷ codes "serial" ∷ []) (lone sum_source) ≡ done (codes "end 12\n")
  pub no_words : answer [] (lone []) ≡ no_usage
  pub one_word_more : answer (codes "check" ∷ codes "x" ∷ []) (lone []) ≡ no_usage
  pub other_case : answer (codes "run" ∷ codes "5" ∷ codes "Serial" ∷ []) (lone []) ≡ no_usage
  pub free : answer (codes "run" ∷ codes "20" ∷ codes "free" ∷ []) (lone sum_source) ≡ done (codes "n0 mem 0x00010000 0x0000000c\nend 20\n")
  pub rounds : answer (codes "run" ∷ codes "20" ∷ codes "rounds" ∷ []) (lone sum_source) ≡ done (codes "n0 mem 0x00010000 0x0000000c\nend 20\n")
  pub free_without_slots : answer (codes "run" ∷ codes "free" ∷ []) (lone []) ≡ no_usage
  pub no_number : answer (codes "make" ∷ []) (lone []) ≡ no_usage
  pub number_too_great : answer (codes "make" ∷ codes "4294967296" ∷ []) (lone []) ≡ no_usage
  pub number_of_eleven_digits : answer (codes "make" ∷ codes "00000000001" ∷ []) (lone []) ≡ no_usage
  pub greatest : form_of_words (codes "make" ∷ codes "4294967295" ∷ []) ≡ Some (Make 4294967295)
  pub too_many_slots : answer (run_for (codes "16000001")) (lone []) ≡ no_usage
  pub eleven_digits : answer (run_for (codes "00000000020")) (lone []) ≡ no_usage
  pub leading_zeros : answer (run_for (codes "0000000000")) (lone []) ≡ done (codes "end 0\n")
  pub no_input : answer (run_for (codes "1")) [] ≡ frame_refused (codes "system line 1: S1 first line is not xs1 1 or xs1 2\n")
  pub other_node : answer (run_for (codes "1")) (codes "xs1 1\nnode 0 id 0\nsource 1\nend\n") ≡ frame_refused (codes "system line 3: S12 no such node or link end\n")
  pub open_section : answer (run_for (codes "1")) (codes "xs1 1\nnode 0 id 0\nsource 0\n") ≡ frame_refused (codes "system line 3: S9 section not ended\n")
  pub comments : answer (run_for (codes "0")) (codes "# a system\r\n\nxs1 1 // edition 1\n  node 007 id 0xFf\nsource 7\n foo: # here\nend # of it\n\n//") ≡ done (codes "end 0\n")
  pub unknown_name : answer (run_for (codes "1")) (lone (codes "foo\n")) ≡ source_refused (codes "source 0 line 1: A2 unknown name\n")
  pub wrong_shape : answer (run_for (codes "1")) (lone (codes "inshr r1\n")) ≡ source_refused (codes "source 0 line 1: A3 wrong operands\n")
  pub no_number_of_bits : answer (run_for (codes "1")) (lone (codes "inpw r1, res[r0], 9\n")) ≡ source_refused (codes "source 0 line 1: A4 number out of range\n")
  pub label_twice : answer (run_for (codes "1")) (lone (codes "a: nop\na: nop\n")) ≡ source_refused (codes "source 0 line 2: A5 label defined twice\n")
  pub no_such_label : answer (run_for (codes "1")) (lone (codes "bu gone\n")) ≡ source_refused (codes "source 0 line 1: A6 label missing\n")
  pub two_labels : answer (run_for (codes "1")) (lone (codes "a: b: nop\n")) ≡ done (codes "end 1\n")
  pub too_wide : answer (run_for (codes "1")) (lone (codes "ldc r0, 65536\n")) ≡ source_refused (codes "source 0 line 1: A4 number out of range\n")
  pub no_nodes : answer (run_for (codes "3")) (codes "xs1 1\n") ≡ done (codes "end 3\n")

-- `check`, and what it writes
abbrev pub check : List (List ℕ)
check = codes "check" ∷ []

-- two nodes that no link joins, the greater number first, their sources too
abbrev pub swapped : List ℕ → List ℕ → List ℕ
swapped lesser greater =
    codes "xs1 1\nnode 7 id 0\nnode 3 id 1\nsource 7\n" ++ (greater ++ (codes "end\nsource 3\n" ++ (lesser ++ codes "end\n")))

pub record WorkedChecks : Type 0 where
  pub no_nodes : answer check (codes "xs1 1\n") ≡ done []
  pub nothing : answer check (lone []) ≡ done (codes "source 0\n.data\n.cp\nend\n")
  pub sum : answer check (lone sum_source) ≡ done (codes "source 0\nmain:\n  ldc r0, 5\n  ldc r1, 7\n  add r2, r0, r1\n  stw r2, dp[0]\n  freet\n.data\n.cp\nend\n")
  -- by number, each source its node's
  pub two_nodes : answer check (swapped (codes "nop\n") (codes "freet\n")) ≡ done (codes "source 3\n  nop\n.data\n.cp\nend\nsource 7\n  freet\n.data\n.cp\nend\n")
  -- labels with one address stand in their order, and a code operand is the first of them
  pub labels : answer check (lone (codes "a: b: bu b\nbu c\nc:\n")) ≡ done (codes "source 0\na:\nb:\n  bu a\n  bu c\nc:\n.data\n.cp\nend\n")
  -- `.align` gives its instructions and bytes; a label at the end of the data stands after `.cp`
  pub sections : answer check (lone (codes "bu z\n.align 3\nz:\n.data\nv: .word z, -1\nw:\n.cp\n.byte 7\n")) ≡
      done (codes "source 0\n  bu z\n  nop\n  nop\nz:\n.data\nv:\n  .byte 12\n  .byte 0\n  .byte 4\n  .byte 0\n  .byte 255\n  .byte 255\n  .byte 255\n  .byte 255\n.cp\nw:\n  .byte 7\nend\n")
  -- a name in brackets is written as its number, and zeros come before the constants
  pub names_in_brackets : answer check (lone (codes "ldw r0, dp[x]\n.data\n.word 1\nx: .byte 2\n.cp\n.byte 3\n")) ≡
      done (codes "source 0\n  ldw r0, dp[1]\n.data\n  .byte 1\n  .byte 0\n  .byte 0\n  .byte 0\nx:\n  .byte 2\n  .byte 0\n  .byte 0\n  .byte 0\n.cp\n  .byte 3\nend\n")
  -- the rows on ports alone
  pub port_rows : answer check (lone (codes "inpw r0, res[r1], 0x8\noutshr res[r2], r3\nsetclk res[r4],r5\n")) ≡
      done (codes "source 0\n  inpw r0, res[r1], 8\n  outshr res[r2], r3\n  setclk res[r4], r5\n.data\n.cp\nend\n")
  pub least_line : answer check (lone (codes "foo r0\na: a:\n")) ≡ source_refused (codes "source 0 line 1: A2 unknown name\n")
  pub wrong_shape : answer check (lone (codes "add r0, r1\n")) ≡ source_refused (codes "source 0 line 1: A3 wrong operands\n")
  pub least_node : answer check (swapped (codes "nop\n\nbu gone\n") (codes "foo\n")) ≡ source_refused (codes "source 3 line 3: A6 label missing\n")
  pub no_source : answer check (codes "xs1 1\nnode 0 id 0\n") ≡ frame_refused (codes "system line 2: S8 node without source\n")
