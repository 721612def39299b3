-- Answers for programs of one thread, worked out by hand: arithmetic, memory, calls and the kernel.
use Rattle.std.specs.Prelude.{ℕ, ◌≡◌, List, ◌++◌, codes}
use Rattle.answer_model.specs.Top.{answer}
use Rattle.worked_answers.specs.Answers.{lone, run_for, done}

-- the product of 1 to 5 by calls: each frame keeps where to return to, and below it the factor
abbrev pub factorial_source : List ℕ
factorial_source =
    codes "main: ldaw r1, dp[16]\nset sp, r1\nldc r0, 5\nbl fact\nstw r0, dp[0]\nfreet\nfact: entsp 2\nstw r0, sp[1]\n"
    ++ codes "sub r0, r0, 1\nbf r0, one\nbl fact\nldw r1, sp[1]\nmul r0, r0, r1\nretsp 2\none: ldc r0, 1\nretsp 2\n"

-- a kernel call, whose handler stands 64 bytes above `kep` and takes the operand
abbrev pub kernel_source : List ℕ
kernel_source = codes "main: ldap r11, kern\nset kep, r11\nkcall 3\nstw r1, dp[0]\nfreet\n.align 32\nkern: nop\n.align 16\nget r11, ed\nadd r1, r11, 0\nkret\n"

-- a load from an odd address, which the handler mends: the load is issued again after the return
abbrev pub mending_source : List ℕ
mending_source = codes "ldap r11, mend\nset kep, r11\nldaw r0, dp[0]\nadd r0, r0, 1\nldw r2, r0[0]\nstw r2, dp[1]\nfreet\n.align 32\nmend: get r11, ed\nsub r0, r11, 1\nkret\n.data\n.word 0x89abcdef\n"

pub record WorkedPrograms : Type 0 where
  pub division_by_0 : answer (run_for (codes "20")) (lone (codes "ldc r0, 5\nldc r1, 0\ndivu r2, r0, r1\n")) ≡
      done (codes "8 n0.t0 trap 7 pc 0x00040008 data 0x00000000\n8 n0.t0 halt\nn0.t0 halted\nend 20\n")
  pub kernel_call : answer (run_for (codes "40")) (lone kernel_source) ≡ done (codes "8 n0.t0 trap 15 pc 0x0004000c data 0x00000003\nn0 mem 0x00010000 0x00000003\nend 40\n")
  -- there is no code 64 bytes above 0
  pub kernel_call_without_handler : answer (run_for (codes "1")) (lone (codes "kcall 65535\n")) ≡ done (codes "0 n0.t0 trap 15 pc 0x00040004 data 0x0000ffff\n0 n0.t0 halt\nn0.t0 halted\nend 1\n")
  -- of 0 it goes on, and then its own pc is shown
  pub exception_call : answer (run_for (codes "9")) (lone (codes "ecallt r0\nldc r0, 9\necallt r0\n")) ≡
      done (codes "8 n0.t0 trap 8 pc 0x00040008 data 0x00000009\n8 n0.t0 halt\nn0.t0 halted\nend 9\n")
  pub load_of_each_size : answer (run_for (codes "29"))
      (lone (codes "ldaw r1, dp[0]\nldc r2, 1\nldw r3, r1[r0]\nld16s r4, r1[r2]\nld8u r5, r1[r2]\nstw r3, dp[1]\nstw r4, dp[2]\n"
      ++ codes "stw r5, dp[3]\n.data\n.word 0xf1e2d3c4\n")) ≡
      done (codes "n0 mem 0x00010000 0xf1e2d3c4\nn0 mem 0x00010004 0xf1e2d3c4\nn0 mem 0x00010008 0xfffff1e2\n"
      ++ codes "n0 mem 0x0001000c 0x000000d3\nend 29\n")
  pub store_of_each_size : answer (run_for (codes "25"))
      (lone (codes "ldaw r1, dp[0]\nldc r2, 7\nldw r3, dp[0]\nst8 r3, r1[r2]\nldc r2, 2\nst16 r3, r1[r2]\nstw r3, r1[2]\n.data\n"
      ++ codes ".word 0xf1e2d3c4\n")) ≡
      done (codes "n0 mem 0x00010000 0xf1e2d3c4\nn0 mem 0x00010004 0xc400d3c4\nn0 mem 0x00010008 0xf1e2d3c4\nend 25\n")
  pub mended_load : answer (run_for (codes "37")) (lone mending_source) ≡
      done (codes "16 n0.t0 trap 5 pc 0x00040010 data 0x00010001\nn0 mem 0x00010000 0x89abcdef\nn0 mem 0x00010004 0x89abcdef\n"
      ++ codes "end 37\n")

pub record WorkedCalls : Type 0 where
  pub factorial : answer (run_for (codes "169")) (lone factorial_source) ≡
      done (codes "n0 mem 0x00010000 0x00000078\nn0 mem 0x0001001c 0x00000001\nn0 mem 0x00010020 0x0004002c\n"
      ++ codes "n0 mem 0x00010024 0x00000002\nn0 mem 0x00010028 0x0004002c\nn0 mem 0x0001002c 0x00000003\n"
      ++ codes "n0 mem 0x00010030 0x0004002c\nn0 mem 0x00010034 0x00000004\nn0 mem 0x00010038 0x0004002c\n"
      ++ codes "n0 mem 0x0001003c 0x00000005\nn0 mem 0x00010040 0x00040010\nend 169\n")
