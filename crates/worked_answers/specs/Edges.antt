-- Answers at the edges, worked out by hand.
use Rattle.std.specs.Prelude.{ℕ, ◌≡◌, List, [], ◌∷◌, ◌++◌, codes}
use Rattle.answer_model.specs.Top.{answer}
use Rattle.worked_answers.specs.Answers.{lone, run_for, done, frame_refused, source_refused, no_usage}

-- at the frame of a system text
pub record WorkedFrames : Type 0 where
  pub end_with_comment : answer (run_for (codes "0")) (codes "xs1 1\nnode 0 id 0\nsource 0\n  end # x\n") ≡ done (codes "end 0\n")
  pub bad_byte_after_end_of_faulty_source : answer (run_for (codes "0")) (codes "xs1 1\nnode 0 id 0\nsource 0\nfoo\nend # " ++ (1 ∷ codes "\n")) ≡
      frame_refused (codes "system line 5: S2 bad line\n")
  pub bad_byte_after_section : answer (run_for (codes "0")) (codes "xs1 1\nnode 0 id 0\nsource 0\nend\n# " ++ (0 ∷ [])) ≡ frame_refused (codes "system line 5: S2 bad line\n")
  pub bad_byte_before_header : answer (run_for (codes "0")) (codes "# " ++ (1 ∷ codes "\nxs1 1\nnode 0 id 0\nsource 0\nend\n")) ≡ frame_refused (codes "system line 1: S2 bad line\n")
  pub two_returns : answer (run_for (codes "0")) (codes "xs1 1\r\r\nnode 0 id 0\nsource 0\nend\n") ≡ frame_refused (codes "system line 1: S1 first line is not xs1 1 or xs1 2\n")
  pub return_at_the_end : answer (run_for (codes "0")) (codes "xs1 1\nnode 0 id 0\nsource 0\nend\r") ≡ frame_refused (codes "system line 3: S9 section not ended\n")
  pub returns_before_feeds : answer (run_for (codes "0")) (codes "xs1 1\r\nnode 0 id 0\r\nsource 0\r\nend\r\n") ≡ done (codes "end 0\n")
  pub no_last_feed : answer (run_for (codes "0")) (codes "xs1 1\nnode 0 id 0\nsource 0\nend") ≡ done (codes "end 0\n")
  pub greatest_numbers : answer (run_for (codes "1")) (codes "xs1 1\nnode 99 id 65535\nsource 0x63\nend") ≡
      done (codes "0 n99.t0 trap 2 pc 0x00040000 data 0x00040000\n0 n99.t0 halt\nn99.t0 halted\nend 1\n")
  pub node_100 : answer (run_for (codes "1")) (codes "xs1 1\nnode 100 id 0\nsource 100\nend") ≡ frame_refused (codes "system line 2: S7 number out of range\n")
  pub id_65536 : answer (run_for (codes "1")) (codes "xs1 1\nnode 0 id 65536\nsource 0\nend") ≡ frame_refused (codes "system line 2: S7 number out of range\n")
  pub binary_number : answer (run_for (codes "1")) (codes "xs1 1\nnode 0b0 id 0\nsource 0\nend") ≡ frame_refused (codes "system line 2: S2 bad line\n")
  pub upper_case_prefix : answer (run_for (codes "1")) (codes "xs1 1\nnode 0X0 id 0\nsource 0\nend") ≡ frame_refused (codes "system line 2: S2 bad line\n")
  pub header_01 : answer (run_for (codes "1")) (codes "xs1 01\nnode 0 id 0\nsource 0\nend") ≡ frame_refused (codes "system line 1: S1 first line is not xs1 1 or xs1 2\n")
  pub second_edition : answer (run_for (codes "1")) (codes "xs1 2\nnode 0 id 0\nsource 0\nnop\nend\n") ≡ done (codes "end 1\n")
  pub header_02 : answer (run_for (codes "1")) (codes "xs1 02\nnode 0 id 0\nsource 0\nnop\nend\n") ≡ frame_refused (codes "system line 1: S1 first line is not xs1 1 or xs1 2\n")
  pub third_edition : answer (run_for (codes "1")) (codes "xs1 3\nnode 0 id 0\nsource 0\nnop\nend\n") ≡ frame_refused (codes "system line 1: S1 first line is not xs1 1 or xs1 2\n")
  pub node_17 : answer (codes "check" ∷ [])
      (codes "xs1 1\nnode 0 id 0\nnode 1 id 1\nnode 2 id 2\nnode 3 id 3\nnode 4 id 4\nnode 5 id 5\nnode 6 id 6\n"
      ++ codes "node 7 id 7\nnode 8 id 8\nnode 9 id 9\nnode 10 id 10\nnode 11 id 11\nnode 12 id 12\nnode 13 id 13\n"
      ++ codes "node 14 id 14\nnode 15 id 15\nnode 16 id 16\n") ≡
      frame_refused (codes "system line 18: S13 too many nodes or links\n")
  pub own_link : answer (codes "check" ∷ []) (codes "xs1 1\nnode 0 id 0\nlink 0:0 0:1 delay 5 gap 4\n") ≡ frame_refused (codes "system line 3: S6 link from a node to itself\n")
  pub link_end_twice : answer (codes "check" ∷ []) (codes "xs1 1\nnode 0 id 0\nnode 1 id 1\nlink 0:5 1:7 delay 5 gap 4\nbit 0 0 5 5\n") ≡ frame_refused (codes "system line 5: S5 link end twice\n")
  pub line_after_section : answer (run_for (codes "1")) (codes "xs1 1\nnode 0 id 0\nsource 0\nend\nend\n") ≡ frame_refused (codes "system line 5: S2 bad line\n")
  pub comments_in_words : answer (run_for (codes "0")) (codes "xs1 1\nnode 0 id 0//x\nsource 0#\nend//") ≡ done (codes "end 0\n")
  pub leading_zeros : answer (run_for (codes "0"))
      (codes "xs1 1\n"
      ++ codes "node 00000000000000000000000000000000000000000000000000000005 id 0x0000000000000000000000000000000000000000001\n"
      ++ codes "source 5\nend\n") ≡
      done (codes "end 0\n")

-- at the lines of a source
pub record WorkedSources : Type 0 where
  pub end_as_label : answer (run_for (codes "8")) (lone (codes "end: nop\nend : bu end\n")) ≡ source_refused (codes "source 0 line 2: A5 label defined twice\n")
  pub end_and_a_blank_colon : answer (run_for (codes "0")) (lone (codes "end : nop\n")) ≡ done (codes "end 0\n")
  pub bad_byte_in_a_comment : answer (run_for (codes "0")) (codes "xs1 1\nnode 0 id 0\nsource 0\nnop # " ++ (127 ∷ codes "\nend\n")) ≡ source_refused (codes "source 0 line 1: A1 bad byte\n")
  pub bad_byte_beside_end : answer (run_for (codes "0")) (codes "xs1 1\nnode 0 id 0\nsource 0\nend " ++ (1 ∷ codes "\nend\n")) ≡ source_refused (codes "source 0 line 1: A1 bad byte\n")
  pub reserved_register : answer (run_for (codes "0")) (lone (codes "r0: nop\n")) ≡ source_refused (codes "source 0 line 1: A3 wrong operands\n")
  pub reserved_t : answer (run_for (codes "0")) (lone (codes "t: nop\n")) ≡ source_refused (codes "source 0 line 1: A3 wrong operands\n")
  pub r12_is_no_register : answer (run_for (codes "0")) (lone (codes "r12: nop\n")) ≡ done (codes "end 0\n")
  pub instruction_name_as_label : answer (run_for (codes "9")) (lone (codes "bu add\nadd: nop\nfreet\n")) ≡ done (codes "end 9\n")
  pub lone_colon : answer (run_for (codes "0")) (lone (codes ": nop\n")) ≡ source_refused (codes "source 0 line 1: A3 wrong operands\n")
  pub comma_too_many : answer (run_for (codes "0")) (lone (codes "nop,\n")) ≡ source_refused (codes "source 0 line 1: A3 wrong operands\n")
  pub upper_case : answer (run_for (codes "0")) (lone (codes "NOP\n")) ≡ source_refused (codes "source 0 line 1: A2 unknown name\n")
  pub text_line : answer (run_for (codes "0")) (lone (codes ".text\n")) ≡ done (codes "end 0\n")
  pub directive_name_as_label : answer (run_for (codes "0")) (lone (codes ".text: nop\n")) ≡ done (codes "end 0\n")
  pub sp_in_add : answer (run_for (codes "0")) (lone (codes "add r0, sp, r1\n")) ≡ source_refused (codes "source 0 line 1: A3 wrong operands\n")
  pub sp_in_ldc : answer (run_for (codes "0")) (lone (codes "ldc sp, 1\n")) ≡ source_refused (codes "source 0 line 1: A3 wrong operands\n")
  pub lone_slash : answer (run_for (codes "0")) (lone (codes "nop / x\n")) ≡ source_refused (codes "source 0 line 1: A3 wrong operands\n")

-- a system with this first line, whose node divides 100 by 7 twice, for the quotient and for the remainder
abbrev pub divided : List ℕ → List ℕ
divided first =
    first ++ codes "\nnode 0 id 0\nsource 0\nldc r0, 100\nldc r1, 7\ndivu r2, r0, r1\nremu r3, r0, r1\nstw r2, dp[0]\nstw r3, dp[1]\nfreet\nend\n"

-- at runs
pub record WorkedRuns : Type 0 where
  pub binary_numbers : answer (run_for (codes "5")) (lone (codes "ldc r0, 0b11\nstw r0, dp[0b0]\n")) ≡ done (codes "n0 mem 0x00010000 0x00000003\nend 5\n")
  pub label_at_the_end : answer (run_for (codes "5")) (lone (codes "bu x\nx:\n")) ≡ done (codes "4 n0.t0 trap 2 pc 0x00040004 data 0x00040004\n4 n0.t0 halt\nn0.t0 halted\nend 5\n")
  pub main_at_the_end : answer (run_for (codes "1")) (lone (codes "nop\nmain:\n")) ≡ done (codes "0 n0.t0 trap 2 pc 0x00040004 data 0x00040004\n0 n0.t0 halt\nn0.t0 halted\nend 1\n")
  pub main_later : answer (run_for (codes "5")) (lone (codes "ldc r0, 1\nmain: ldc r1, 2\nstw r1, dp[0]\n")) ≡ done (codes "n0 mem 0x00010000 0x00000002\nend 5\n")
  pub named_registers : answer (run_for (codes "40"))
      (lone (codes "ldc r0, 65535\nstw sp, dp[0]\nstw dp, dp[1]\nstw cp, dp[2]\nstw lr, dp[3]\nldw lr, dp[0]\nstw lr, dp[3]\n"
      ++ codes "freet\n")) ≡
      done (codes "n0 mem 0x00010000 0x0001fffc\nn0 mem 0x00010004 0x00010000\nn0 mem 0x00010008 0x00010000\n"
      ++ codes "n0 mem 0x0001000c 0x0001fffc\nend 40\n")
  pub address_wraps : answer (run_for (codes "24")) (lone (codes "ldc r0, 0\nldc r1, 4\nsub r0, r0, r1\nstw r0, dp[0]\nldw dp, dp[0]\nldw r2, dp[1]\n")) ≡
      done (codes "20 n0.t0 trap 5 pc 0x00040014 data 0x00000000\n20 n0.t0 halt\nn0.t0 halted\nn0 mem 0x00010000 0xfffffffc\n"
      ++ codes "end 24\n")
  pub unaligned_address : answer (run_for (codes "40"))
      (lone (codes "ldc r0, 2\nstw r0, dp[0]\nldw r3, dp[0]\nstw dp, dp[1]\nldw r1, dp[1]\nadd r1, r1, r3\nstw r1, dp[1]\n"
      ++ codes "ldw dp, dp[1]\nstw r0, dp[0]\n")) ≡
      done (codes "32 n0.t0 trap 5 pc 0x00040020 data 0x00010002\n32 n0.t0 halt\nn0.t0 halted\nn0 mem 0x00010000 0x00000002\n"
      ++ codes "n0 mem 0x00010004 0x00010002\nend 40\n")
  pub branches_and_eq : answer (run_for (codes "40")) (lone (codes "eq r1, r0, r0\nbf r1, no\nstw r1, dp[0]\nno: eq r2, r1, r0\nbf r2, yes\nnop\nyes: freet\n")) ≡
      done (codes "n0 mem 0x00010000 0x00000001\nend 40\n")
  pub last_word : answer (run_for (codes "8")) (lone (codes "ldc r0, 7\nstw r0, dp[16383]\n")) ≡ done (codes "n0 mem 0x0001fffc 0x00000007\nend 8\n")
  pub no_slots : answer (codes "run" ∷ []) [] ≡ no_usage
  pub signed_slots : answer (run_for (codes "+5")) [] ≡ no_usage
  pub empty_slots : answer (run_for []) [] ≡ no_usage
  pub most_slots : answer (run_for (codes "16000000")) ([]) ≡ frame_refused (codes "system line 1: S1 first line is not xs1 1 or xs1 2\n")
  -- the first division is issued in slot 8, and in edition 2 the other may be from slot 40 on, so the second store is issued in slot 48;
  -- in edition 1 it is in slot 20
  pub second_waits : answer (run_for (codes "49")) (divided (codes "xs1 2")) ≡ done (codes "n0 mem 0x00010000 0x0000000e\nn0 mem 0x00010004 0x00000002\nend 49\n")
  pub second_waits_cut : answer (run_for (codes "48")) (divided (codes "xs1 2")) ≡ done (codes "n0 mem 0x00010000 0x0000000e\nend 48\n")
  pub first_waits_not : answer (run_for (codes "21")) (divided (codes "xs1 1")) ≡ done (codes "n0 mem 0x00010000 0x0000000e\nn0 mem 0x00010004 0x00000002\nend 21\n")
  pub first_waits_not_cut : answer (run_for (codes "20")) (divided (codes "xs1 1")) ≡ done (codes "n0 mem 0x00010000 0x0000000e\nend 20\n")
