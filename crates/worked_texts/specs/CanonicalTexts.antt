-- Canonical texts, worked out by hand.
use Rattle.std.specs.Prelude.{ℕ, ◌≡◌, List, [], ◌∷◌, ◌++◌, codes}
use Rattle.xs_instructions.specs.declared.instr.Instr.{Instr}
use Rattle.xs_instructions.specs.declared.instr.Instr.TheVariants.{Words, Memory, Flow, Kernel, Threads, Resources}
use Rattle.xs_instructions.specs.declared.instr.WordIns.TheVariants as words
use Rattle.xs_instructions.specs.declared.instr.MemIns.TheVariants as memory
use Rattle.xs_instructions.specs.declared.instr.FlowIns.TheVariants as flow
use Rattle.xs_instructions.specs.declared.instr.KernelIns.TheVariants as kernel
use Rattle.xs_instructions.specs.declared.instr.ThreadIns.TheVariants as threads
use Rattle.xs_instructions.specs.declared.instr.ResIns.TheVariants as resources
use Rattle.xs_instructions.specs.Image.{ImageRec, Symbol}
use Rattle.source_model.specs.Canonical.{canonical}
use Rattle.source_model.specs.Source.{Assembled, Image, Fault, assembled}

abbrev pub image : List Instr → List ℕ → ℕ → List Symbol → ImageRec
image code bytes cp_at symbols = record { code = code; bytes = bytes; cp_at = cp_at; symbols = symbols }

-- the text of code alone, up to its last line
abbrev pub code_alone : List Instr → List ℕ
code_alone code = canonical (image code [] 0x00010000 [])

-- where the labels lead, and where they stand
pub record WorkedCanonicalTexts : Type 0 where
  pub nothing : canonical (image [] [] 0x00010000 []) ≡ codes ".data\n.cp\n"
  pub labels : canonical (image (Words (words.Ldc 0 3) ∷ Flow (flow.Bt 0 0) ∷ Flow (flow.Bu 2) ∷ []) (1 ∷ 255 ∷ []) 0x00010004
      ((codes "main", 0x00040000) ∷ (codes "loop", 0x00040000) ∷ (codes ".x$", 0x00040008) ∷ (codes "end", 0x0004000c) ∷
      (codes "after", 0x0004000c) ∷ (codes "table", 0x00010000) ∷ (codes "tail", 0x00010002) ∷ (codes "consts", 0x00010004) ∷ [])) ≡
      codes "main:\nloop:\n  ldc r0, 3\n  bt r0, main\n.x$:\n  bu .x$\nend:\nafter:\n.data\ntable:\n  .byte 1\n"
      ++ codes "  .byte 255\ntail:\n.cp\nconsts:\n"
  pub constants : canonical (image [] (1 ∷ 2 ∷ 3 ∷ 4 ∷ 5 ∷ 6 ∷ []) 0x00010004 ((codes "b", 0x00010001) ∷ (codes "k", 0x00010004) ∷
      (codes "l", 0x00010005) ∷ (codes "m", 0x00010006) ∷ (codes "n", 0x00010006) ∷ [])) ≡
      codes ".data\n  .byte 1\nb:\n  .byte 2\n  .byte 3\n  .byte 4\n.cp\nk:\n  .byte 5\nl:\n  .byte 6\nm:\nn:\n"
  pub constants_alone : canonical (image [] (7 ∷ []) 0x00010000 ((codes "x", 0x00010000) ∷ [])) ≡ codes ".data\n.cp\nx:\n  .byte 7\n"
  pub full_data : canonical (image [] (1 ∷ 2 ∷ 3 ∷ 4 ∷ []) 0x00010004 ((codes "e", 0x00010004) ∷ [])) ≡ codes ".data\n  .byte 1\n  .byte 2\n  .byte 3\n  .byte 4\n.cp\ne:\n"
  pub end_of_code : canonical (image (Flow (flow.Bu 1) ∷ []) [] 0x00010000 ((codes "e", 0x00040004) ∷ [])) ≡ codes "  bu e\ne:\n.data\n.cp\n"

-- the spelling of each shape of form
pub record WorkedSpellings : Type 0 where
  pub words : code_alone (Words (words.Add 0 10 11) ∷ Words (words.AddImm 1 2 11) ∷ Words (words.Lmul 0 1 2 3 4 5) ∷
      Words (words.Ldc 9 65535) ∷ Words words.Nop ∷ []) ≡
      codes "  add r0, r10, r11\n  add r1, r2, 11\n  lmul r0, r1, r2, r3, r4, r5\n  ldc r9, 65535\n  nop\n.data\n.cp\n"
  pub memory : code_alone (Memory (memory.LdwImm 0 1 11) ∷ Memory (memory.Stw 0 1 2) ∷ Memory (memory.LdwDp 15 256) ∷
      Memory (memory.StwSp 12 0) ∷ Memory (memory.LdawBack 0 1 2) ∷ Memory (memory.LdawBackImm 0 1 10) ∷ Memory (memory.LdawCp 49152) ∷ []) ≡
      codes "  ldw r0, r1[11]\n  stw r0, r1[r2]\n  ldw lr, dp[256]\n  stw cp, sp[0]\n  ldaw r0, r1[-r2]\n"
      ++ codes "  ldaw r0, r1[-10]\n  ldaw r11, cp[49152]\n.data\n.cp\n"
  pub flow : code_alone (Flow (flow.Bru 8) ∷ Flow (flow.BlaCp 7) ∷ Flow (flow.Entsp 1) ∷ Flow (flow.SetSp 3) ∷ []) ≡ codes "  bru r8\n  bla cp[7]\n  entsp 1\n  set sp, r3\n.data\n.cp\n"
  pub kernel : code_alone (Kernel kernel.Kret ∷ Kernel kernel.SetKep ∷ Kernel kernel.GetId ∷ Kernel (kernel.Getsr 16) ∷
      Kernel kernel.LdwSpc ∷ Kernel kernel.StwEt ∷ []) ≡
      codes "  kret\n  set kep, r11\n  get r11, id\n  getsr r11, 16\n  ldw spc, sp[1]\n  stw et, sp[4]\n.data\n.cp\n"
  pub threads : code_alone (Threads (threads.Getst 1 2) ∷ Threads (threads.InitPc 3 4) ∷ Threads (threads.InitLr 3 4) ∷
      Threads (threads.SetOther 3 2 4) ∷ Threads (threads.Start 5) ∷ []) ≡
      codes "  getst r1, res[r2]\n  init t[r3]:pc, r4\n  init t[r3]:lr, r4\n  set t[r3]:r2, r4\n  start t[r5]\n.data\n.cp\n"
  pub resources : code_alone (Resources (resources.Getr 0 2) ∷ Resources (resources.OutctImm 5 11) ∷ Resources (resources.In 6 0) ∷
      Resources (resources.Setv 0) ∷ Resources (resources.Inpw 1 2 32) ∷ Resources (resources.Outpw 2 1 8) ∷ []) ≡
      codes "  getr r0, 2\n  outct res[r5], 11\n  in r6, res[r0]\n  setv res[r0], r11\n  inpw r1, res[r2], 32\n"
      ++ codes "  outpw res[r2], r1, 8\n.data\n.cp\n"

abbrev pub text_of : Assembled → List ℕ
text_of (Image image) = canonical image
text_of (Fault line kind) = []

-- the canonical text of a source, and that of this text
pub record WorkedRewriting : Type 0 where
  pub source : text_of (assembled (codes "main: ldc r0, 0x10       // sixteen times\n  ldc r1, 1\nagain: loop:\n  sub r0 , r0,r1\n  bt r0, loop\n"
      ++ codes "  ldw r2, dp[limit]\n  .align 4\n  freet\n.data\n  .short 258\n  .align 4\nlimit: .word 5\nafter:\n.cp\n"
      ++ codes "  .byte 0b11\n")) ≡
      codes "main:\n  ldc r0, 16\n  ldc r1, 1\nagain:\nloop:\n  sub r0, r0, r1\n  bt r0, again\n  ldw r2, dp[1]\n  nop\n"
      ++ codes "  nop\n  nop\n  freet\n.data\n  .byte 2\n  .byte 1\n  .byte 0\n  .byte 0\nlimit:\n  .byte 5\n  .byte 0\n"
      ++ codes "  .byte 0\n  .byte 0\n.cp\nafter:\n  .byte 3\n"
  pub nothing : text_of (assembled []) ≡ codes ".data\n.cp\n"
  pub names : text_of (assembled (codes ".data\nx: .cp\n.byte -1\ny: .word x, y")) ≡
      codes ".data\n.cp\nx:\n  .byte 255\ny:\n  .byte 0\n  .byte 0\n  .byte 1\n  .byte 0\n  .byte 1\n  .byte 0\n  .byte 1\n"
      ++ codes "  .byte 0\n"
