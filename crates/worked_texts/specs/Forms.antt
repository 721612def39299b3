-- The printed form of each row, as docs/INSTRUCTIONS.md has it. The table of the program gives these forms.
use Rattle.std.specs.Prelude.{ℕ, ◌≡◌, Bool, Option, Some, None, if◌then◌else◌, List, [], ◌∷◌, codes, map, drop, get_or}
use Rattle.std.specs.List.{list_any}
use Rattle.xs_text.specs.Tokens.{tokens_of}
use Rattle.xs_text.specs.Numbers.{number_of}
use Rattle.xs_instructions.specs.declared.rows.Part.{Part}
use Rattle.xs_instructions.specs.declared.rows.Part.TheVariants.{Common, AnyRegister, Register, Small, Width, Short, Exactly, Label, Word}
use Rattle.xs_instructions.specs.declared.rows.Row.{Row}
use Rattle.xs_instructions.specs.declared.rows.Row.TheVariants as row
use Rattle.xs_instructions.specs.declared.rows.TheConstants.{ROWS}
use Rattle.xs_instructions.specs.Words.{same_name, register_number, fixed}
use Rattle.xs_instructions.specs.Rows.{name_of, parts_of}

abbrev pub is_letter_among : List ℕ → List ℕ → Bool
is_letter_among letters token = list_any (λ letter. same_name (letter ∷ []) token) letters

-- what a token that is no operand's letter and no register stands for: a fixed word or mark, or a number
abbrev pub other_part : Option ℕ → Option ℕ → Part
other_part (Some k) number = Word k
other_part None (Some n) = Exactly n
other_part None None = Word 255

abbrev pub named_part : Option ℕ → Part → Part
named_part (Some r) other = Register r
named_part None other = other

-- what a token of a printed form stands for: a letter for an operand of its class, and all else for itself
abbrev pub printed_part : List ℕ → Part
printed_part token =
    if is_letter_among (codes "dexyvws") token then Common
    else (if is_letter_among (codes "g") token then AnyRegister
    else (if is_letter_among (codes "i") token then Small
    else (if is_letter_among (codes "b") token then Width
    else (if is_letter_among (codes "u") token then Short
    else (if is_letter_among (codes "L") token then Label
    else named_part (register_number token) (other_part (fixed token) (number_of token)))))))

-- the name and the parts of a printed form
abbrev pub read_form : List (List ℕ) → List ℕ × List Part
read_form tokens = (get_or tokens 0 [], map printed_part (drop 1 tokens))

abbrev pub printed_form : List ℕ → List ℕ × List Part
printed_form text = read_form (map (λ token. token.bytes) (tokens_of text))

abbrev pub printed_forms : List (Row × List ℕ)
printed_forms =
    -- Words
    (row.Add, codes "add d, x, y")
    ∷ (row.AddImm, codes "add d, x, i")
    ∷ (row.Sub, codes "sub d, x, y")
    ∷ (row.SubImm, codes "sub d, x, i")
    ∷ (row.Neg, codes "neg d, x")
    ∷ (row.Not, codes "not d, x")
    ∷ (row.And, codes "and d, x, y")
    ∷ (row.Or, codes "or d, x, y")
    ∷ (row.Xor, codes "xor d, x, y")
    ∷ (row.AndNot, codes "andnot d, x")
    ∷ (row.Eq, codes "eq d, x, y")
    ∷ (row.EqImm, codes "eq d, x, i")
    ∷ (row.Lss, codes "lss d, x, y")
    ∷ (row.Lsu, codes "lsu d, x, y")
    ∷ (row.Shl, codes "shl d, x, y")
    ∷ (row.ShlImm, codes "shl d, x, b")
    ∷ (row.Shr, codes "shr d, x, y")
    ∷ (row.ShrImm, codes "shr d, x, b")
    ∷ (row.Ashr, codes "ashr d, x, y")
    ∷ (row.AshrImm, codes "ashr d, x, b")
    ∷ (row.Mul, codes "mul d, x, y")
    ∷ (row.Divu, codes "divu d, x, y")
    ∷ (row.Remu, codes "remu d, x, y")
    ∷ (row.Divs, codes "divs d, x, y")
    ∷ (row.Rems, codes "rems d, x, y")
    ∷ (row.Mkmsk, codes "mkmsk d, x")
    ∷ (row.MkmskImm, codes "mkmsk d, b")
    ∷ (row.Sext, codes "sext d, x")
    ∷ (row.SextImm, codes "sext d, b")
    ∷ (row.Zext, codes "zext d, x")
    ∷ (row.ZextImm, codes "zext d, b")
    ∷ (row.Bitrev, codes "bitrev d, x")
    ∷ (row.Byterev, codes "byterev d, x")
    ∷ (row.Clz, codes "clz d, x")
    ∷ (row.Ladd, codes "ladd d, e, x, y, v")
    ∷ (row.Lsub, codes "lsub d, e, x, y, v")
    ∷ (row.Lmul, codes "lmul d, e, x, y, v, w")
    ∷ (row.Ldivu, codes "ldivu d, e, x, y, v")
    ∷ (row.Maccu, codes "maccu d, e, x, y")
    ∷ (row.Maccs, codes "maccs d, e, x, y")
    ∷ (row.Ldc, codes "ldc d, u")
    ∷ (row.Nop, codes "nop")
    -- Memory
    ∷ (row.LdwImm, codes "ldw d, x[i]")
    ∷ (row.Ldw, codes "ldw d, x[y]")
    ∷ (row.LdwDp, codes "ldw g, dp[u]")
    ∷ (row.LdwSp, codes "ldw g, sp[u]")
    ∷ (row.LdwCp, codes "ldw d, cp[u]")
    ∷ (row.StwImm, codes "stw d, x[i]")
    ∷ (row.Stw, codes "stw d, x[y]")
    ∷ (row.StwDp, codes "stw g, dp[u]")
    ∷ (row.StwSp, codes "stw g, sp[u]")
    ∷ (row.Ld16s, codes "ld16s d, x[y]")
    ∷ (row.Ld8u, codes "ld8u d, x[y]")
    ∷ (row.St16, codes "st16 d, x[y]")
    ∷ (row.St8, codes "st8 d, x[y]")
    ∷ (row.Ldaw, codes "ldaw d, x[y]")
    ∷ (row.LdawBack, codes "ldaw d, x[-y]")
    ∷ (row.LdawImm, codes "ldaw d, x[i]")
    ∷ (row.LdawBackImm, codes "ldaw d, x[-i]")
    ∷ (row.LdawDp, codes "ldaw d, dp[u]")
    ∷ (row.LdawSp, codes "ldaw d, sp[u]")
    ∷ (row.LdawCp, codes "ldaw r11, cp[u]")
    ∷ (row.Lda16, codes "lda16 d, x[y]")
    ∷ (row.Lda16Back, codes "lda16 d, x[-y]")
    ∷ (row.Ldap, codes "ldap r11, L")
    -- Flow
    ∷ (row.Bt, codes "bt s, L")
    ∷ (row.Bf, codes "bf s, L")
    ∷ (row.Bu, codes "bu L")
    ∷ (row.Bru, codes "bru s")
    ∷ (row.Bau, codes "bau s")
    ∷ (row.Bl, codes "bl L")
    ∷ (row.Bla, codes "bla s")
    ∷ (row.BlaCp, codes "bla cp[u]")
    ∷ (row.Entsp, codes "entsp u")
    ∷ (row.Retsp, codes "retsp u")
    ∷ (row.Extsp, codes "extsp u")
    ∷ (row.Extdp, codes "extdp u")
    ∷ (row.SetSp, codes "set sp, s")
    ∷ (row.SetDp, codes "set dp, s")
    ∷ (row.SetCp, codes "set cp, s")
    -- Kernel
    ∷ (row.KcallImm, codes "kcall u")
    ∷ (row.Kcall, codes "kcall s")
    ∷ (row.Kret, codes "kret")
    ∷ (row.Kentsp, codes "kentsp u")
    ∷ (row.Krestsp, codes "krestsp u")
    ∷ (row.Ecallt, codes "ecallt s")
    ∷ (row.Ecallf, codes "ecallf s")
    ∷ (row.SetKep, codes "set kep, r11")
    ∷ (row.GetKep, codes "get r11, kep")
    ∷ (row.GetKsp, codes "get r11, ksp")
    ∷ (row.GetEd, codes "get r11, ed")
    ∷ (row.GetEt, codes "get r11, et")
    ∷ (row.GetId, codes "get r11, id")
    ∷ (row.Setsr, codes "setsr u")
    ∷ (row.Clrsr, codes "clrsr u")
    ∷ (row.Getsr, codes "getsr r11, u")
    ∷ (row.LdwSpc, codes "ldw spc, sp[1]")
    ∷ (row.LdwSsr, codes "ldw ssr, sp[2]")
    ∷ (row.LdwSed, codes "ldw sed, sp[3]")
    ∷ (row.LdwEt, codes "ldw et, sp[4]")
    ∷ (row.StwSpc, codes "stw spc, sp[1]")
    ∷ (row.StwSsr, codes "stw ssr, sp[2]")
    ∷ (row.StwSed, codes "stw sed, sp[3]")
    ∷ (row.StwEt, codes "stw et, sp[4]")
    -- Threads
    ∷ (row.Getst, codes "getst d, res[s]")
    ∷ (row.InitPc, codes "init t[s]:pc, x")
    ∷ (row.InitSp, codes "init t[s]:sp, x")
    ∷ (row.InitDp, codes "init t[s]:dp, x")
    ∷ (row.InitCp, codes "init t[s]:cp, x")
    ∷ (row.InitLr, codes "init t[s]:lr, x")
    ∷ (row.SetOther, codes "set t[s]:d, x")
    ∷ (row.Start, codes "start t[s]")
    ∷ (row.Msync, codes "msync res[s]")
    ∷ (row.Mjoin, codes "mjoin res[s]")
    ∷ (row.Ssync, codes "ssync")
    ∷ (row.Freet, codes "freet")
    -- Resources
    ∷ (row.Getr, codes "getr d, i")
    ∷ (row.Freer, codes "freer res[s]")
    ∷ (row.Out, codes "out res[s], x")
    ∷ (row.Outt, codes "outt res[s], x")
    ∷ (row.Outct, codes "outct res[s], x")
    ∷ (row.OutctImm, codes "outct res[s], i")
    ∷ (row.In, codes "in d, res[s]")
    ∷ (row.Int, codes "int d, res[s]")
    ∷ (row.Inct, codes "inct d, res[s]")
    ∷ (row.Chkct, codes "chkct res[s], x")
    ∷ (row.ChkctImm, codes "chkct res[s], i")
    ∷ (row.Testct, codes "testct d, res[s]")
    ∷ (row.Testwct, codes "testwct d, res[s]")
    ∷ (row.Setd, codes "setd res[s], x")
    ∷ (row.Getd, codes "getd d, res[s]")
    ∷ (row.Setn, codes "setn res[s], x")
    ∷ (row.Getn, codes "getn d, res[s]")
    ∷ (row.SetcImm, codes "setc res[s], u")
    ∷ (row.Setc, codes "setc res[s], x")
    ∷ (row.Setv, codes "setv res[s], r11")
    ∷ (row.Setev, codes "setev res[s], r11")
    ∷ (row.Eeu, codes "eeu res[s]")
    ∷ (row.Edu, codes "edu res[s]")
    ∷ (row.Eet, codes "eet x, res[s]")
    ∷ (row.Eef, codes "eef x, res[s]")
    ∷ (row.Clre, codes "clre")
    ∷ (row.Waiteu, codes "waiteu")
    ∷ (row.Waitet, codes "waitet x")
    ∷ (row.Waitef, codes "waitef x")
    ∷ (row.Inpw, codes "inpw d, res[s], b")
    ∷ (row.Outpw, codes "outpw res[s], x, b")
    ∷ (row.Inshr, codes "inshr d, res[s]")
    ∷ (row.Outshr, codes "outshr res[s], d")
    ∷ (row.Peek, codes "peek d, res[s]")
    ∷ (row.Endin, codes "endin d, res[s]")
    ∷ (row.Syncr, codes "syncr res[s]")
    ∷ (row.Getts, codes "getts d, res[s]")
    ∷ (row.Setpt, codes "setpt res[s], x")
    ∷ (row.Clrpt, codes "clrpt res[s]")
    ∷ (row.Setclk, codes "setclk res[s], x")
    ∷ (row.Setrdy, codes "setrdy res[s], x")
    ∷ (row.Settw, codes "settw res[s], x")
    ∷ []

pub record WorkedForms : Type 0 where
  -- each row has the name and the parts of its printed form
  pub forms : map (λ (p : Row × List ℕ). (name_of p.0, parts_of p.0)) printed_forms ≡ map (λ (p : Row × List ℕ). printed_form p.1) printed_forms
  -- and these are all rows
  pub rows : map (λ (p : Row × List ℕ). p.0) printed_forms ≡ ROWS
