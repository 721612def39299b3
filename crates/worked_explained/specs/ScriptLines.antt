-- What is told of faulty lines of pin scripts.
use Rattle.std.specs.Prelude.{ℕ, ◌≡◌, List, [], ◌∷◌, ◌++◌, codes}
use Rattle.pin_scripts.specs.declared.pin_error.PinKind.{PinKind}
use Rattle.pin_scripts.specs.declared.pin_error.PinKind.TheVariants.{BadLine, SlotFalls, NoSuchPort, ValueTooWide, NoSuchNode, PinGivenTwice}
use Rattle.explain_frame_model.specs.Script.{script_told}

-- what is told of a line of a script, of which the first line has a number in the whole text
abbrev pub told_at : ℕ → PinKind → List (List ℕ) → ℕ → List ℕ
told_at first kind ls line = script_told kind (record { first = first; lines = ls; line = line })

pub record ScriptsTold : Type 0 where
  pub bad_short : told_at 7 BadLine (codes "5 0:4A" ∷ []) 1
      ≡ codes "7 | 5 0:4A\n  |       ^\naccepted here: a number, 0 to 4294967295\n"
  pub bad_many : told_at 7 BadLine (codes "5 0:4A 1 2" ∷ []) 1
      ≡ codes "7 | 5 0:4A 1 2\n  |          ^\naccepted here: the end of the line\n"
  pub bad_first : told_at 10 BadLine (codes "  x 0:4A 1" ∷ []) 1
      ≡ codes "10 |   x 0:4A 1\n   |   ^\naccepted here: a number, 0 to 4294967295; `end`\n"
  pub bad_port : told_at 7 BadLine (codes "5 0:A4 1" ∷ []) 1
      ≡ codes "7 | 5 0:A4 1\n  |   ^\naccepted here: N:P with N a number and P one of 1A to 1P, 4A to 4F, 8A to 8D, 16A, 16B or 32A\n"
  pub bad_value : told_at 7 BadLine (codes "5 0:4A 4294967296" ∷ []) 1
      ≡ codes "7 | 5 0:4A 4294967296\n  |        ^\naccepted here: a number, 0 to 4294967295\n"
  pub bad_end : told_at 7 BadLine (codes "end x" ∷ []) 1
      ≡ codes "7 | end x\n  |     ^\naccepted here: the end of the line\n"
  pub bad_byte : told_at 7 BadLine (codes "5 0:4A 1" ∷ (codes "5 0:4A 1 # " ++ 1 ∷ codes "") ∷ []) 2
      ≡ codes "8 | 5 0:4A 1 # ?\n  |            ^\naccepted here: tab; the characters from space to ~\nbyte 0x01 may not stand in a text, nor in a comment\n"
  pub no_port : told_at 7 NoSuchPort (codes "5 0:2A 1" ∷ []) 1
      ≡ codes "7 | 5 0:2A 1\n  |   ^\naccepted here: N:P with N a number and P one of 1A to 1P, 4A to 4F, 8A to 8D, 16A, 16B or 32A\n"
  pub falls : told_at 7 SlotFalls (codes "9 0:4A 1" ∷ codes "" ∷ codes "50 0:4A 2" ∷ codes " 8 0:1A 1" ∷ []) 4
      ≡ codes "10 |  8 0:1A 1\n   |  ^\naccepted here: a number, 50 to 4294967295\nline 9 has slot 50\n"
  pub wide : told_at 7 ValueTooWide (codes "5 0:4A 16" ∷ []) 1
      ≡ codes "7 | 5 0:4A 16\n  |        ^\naccepted here: a number, 0 to 15\nport 4A has width 4\n"
  pub wide16 : told_at 7 ValueTooWide (codes "5 0:16B 65536" ∷ []) 1
      ≡ codes "7 | 5 0:16B 65536\n  |         ^\naccepted here: a number, 0 to 65535\nport 16B has width 16\n"
  pub no_node : told_at 7 NoSuchNode (codes "5 1:4G 1" ∷ []) 1
      ≡ codes "7 | 5 1:4G 1\n  |   ^\n"
  pub twice : told_at 7 PinGivenTwice (codes "5 0:4A 1" ∷ codes "# x" ∷ codes "5 0:1A 1" ∷ codes "5 00:4A 0" ∷ []) 4
      ≡ codes "10 | 5 00:4A 0\n   |   ^\nline 7 gives it already\n"
  pub twice2 : told_at 7 PinGivenTwice (codes "4 0:4A 1" ∷ codes "5 1:4A 1" ∷ codes "0x5 0:4A 1" ∷ codes "5 00:4A 0" ∷ []) 4
      ≡ codes "10 | 5 00:4A 0\n   |   ^\nline 9 gives it already\n"
