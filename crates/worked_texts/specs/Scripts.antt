-- Pin scripts read by hand.
use Rattle.std.specs.Prelude.{ℕ, ◌≡◌, true, false, Some, List, [], ◌∷◌, ◌++◌, map, codes, get_or}
use Rattle.xs_text.specs.Lines.{lines_of}
use Rattle.pin_scripts.specs.declared.line.PinLine.{PinLine}
use Rattle.pin_scripts.specs.declared.pin_error.PinKind.{PinKind}
use Rattle.pin_scripts.specs.declared.pin_error.PinKind.TheVariants.{BadLine, SlotFalls, NoSuchPort, ValueTooWide, NoSuchNode, PinGivenTwice}
use Rattle.pin_scripts.specs.Script.{pin_at, view_at, changes_in, port_numbers}
use Rattle.pin_scripts.specs.Pins.{PinsRead, Script, Fault, pins_of, port_name, port_of}

-- a text in a system of the nodes 0 and 7
abbrev pub read : List ℕ → PinsRead
read text = pins_of (0 ∷ 7 ∷ []) (lines_of text)

-- texts, and the line and the kind of the refusal of each
abbrev pub Refusals : Type 0
Refusals = List (List ℕ × ℕ × PinKind)

-- each text is refused so
abbrev pub AreRefused : Refusals → Type 0
AreRefused rows =
    map (λ (row : List ℕ × ℕ × PinKind). read row.0) rows ≡ map (λ (row : List ℕ × ℕ × PinKind). Fault row.1 row.2) rows

-- words of no form
abbrev pub bad_forms : Refusals
bad_forms =
    (codes "5", 1, BadLine)
    ∷ (codes "5 0:4A", 1, BadLine)
    ∷ (codes "5 0:4A 1 1", 1, BadLine)
    ∷ (codes "5 0:4A 1\n\nx", 3, BadLine)
    ∷ (codes "5 0 :4A 1", 1, BadLine)
    ∷ (codes "5 0: 4A 1", 1, BadLine)
    ∷ (codes "5 :4A 1", 1, BadLine)
    ∷ (codes "5 0: 1", 1, BadLine)
    ∷ (codes "5 04A 1", 1, BadLine)
    ∷ (codes "5 0:4A:1 1", 1, BadLine)
    ∷ (codes "5 0::4A 1", 1, BadLine)
    ∷ (codes "x 0:4A 1", 1, BadLine)
    ∷ (codes "5 x:4A 1", 1, BadLine)
    ∷ (codes "5 0:4A x", 1, BadLine)
    ∷ (codes "-5 0:4A 1", 1, BadLine)
    ∷ (codes "+5 0:4A 1", 1, BadLine)
    ∷ (codes "5 0:4A 0X1", 1, BadLine)
    ∷ (codes "5 0:4A 0b1", 1, BadLine)
    ∷ (codes "5 0:4A 1 / x", 1, BadLine)
    ∷ (codes "5 0:4A 1/x", 1, BadLine)
    -- no names of the shape of a port's
    ∷ (codes "5 0:A4 1", 1, BadLine)
    ∷ (codes "5 0:A 1", 1, BadLine)
    ∷ (codes "5 0:4 1", 1, BadLine)
    ∷ (codes "5 0:4AA 1", 1, BadLine)
    ∷ (codes "5 0:4A4 1", 1, BadLine)
    ∷ (codes "5 0:0x4A 1", 1, BadLine)
    ∷ (codes "5 0:4_ 1", 1, BadLine)
    ∷ []

-- numbers that are no words, and bytes that are not allowed
abbrev pub bad_numbers_and_bytes : Refusals
bad_numbers_and_bytes =
    (codes "4294967296 0:4A 1", 1, BadLine)
    ∷ (codes "5 0:4A 4294967296", 1, BadLine)
    ∷ (codes "5 0:4A 0x100000000", 1, BadLine)
    ∷ (codes "5 4294967296:4A 1", 1, BadLine)
    ∷ (codes "5 0:4A 99999999999999999999999999999999999999999999", 1, BadLine)
    ∷ (codes "5 0:4A 1 # " ++ (1 ∷ codes "\n"), 1, BadLine)
    ∷ (codes "\n# " ++ (127 ∷ codes "\n"), 2, BadLine)
    ∷ (1 ∷ [], 1, BadLine)
    -- a carriage return that does not end the line is a byte that is not allowed
    ∷ (codes "5 0:4A 1\r", 1, BadLine)
    ∷ (codes "5 0:4A 1\r\r\n", 1, BadLine)
    ∷ (codes "pins", 1, BadLine)
    ∷ []

abbrev pub other_kinds : Refusals
other_kinds =
    (codes "9 0:4A 1\n8 7:1A 1", 2, SlotFalls)
    -- blank lines and comments are not the line before
    ∷ (codes "9 0:4A 1\n\n# 0\n  8 0:4A 1", 4, SlotFalls)
    ∷ (codes "5 0:4G 1", 1, NoSuchPort)
    ∷ (codes "5 0:2A 1", 1, NoSuchPort)
    ∷ (codes "5 0:4a 1", 1, NoSuchPort)
    ∷ (codes "5 0:04A 1", 1, NoSuchPort)
    ∷ (codes "5 0:1Q 1", 1, NoSuchPort)
    ∷ (codes "5 0:32B 1", 1, NoSuchPort)
    ∷ (codes "5 0:99999999999999999999A 1", 1, NoSuchPort)
    ∷ (codes "5 0:1A 2", 1, ValueTooWide)
    ∷ (codes "5 0:4A 16", 1, ValueTooWide)
    ∷ (codes "5 0:8D 0x100", 1, ValueTooWide)
    ∷ (codes "5 0:16B 65536", 1, ValueTooWide)
    ∷ (codes "5 1:4A 1", 1, NoSuchNode)
    ∷ (codes "5 100:4A 1", 1, NoSuchNode)
    ∷ (codes "5 4294967295:4A 1", 1, NoSuchNode)
    -- the least faulty line decides
    ∷ (codes "5 0:4A 1\n5 1:4A 1\nx", 2, NoSuchNode)
    ∷ (codes "5 0:4A 1\n5 0:4A 1", 2, PinGivenTwice)
    ∷ (codes "5 0:4A 1\n5 0:4B 1\n5 7:4A 1\n5 0:4A 2", 4, PinGivenTwice)
    ∷ []

pub record WorkedRefusals : Type 0 where
  pub forms : AreRefused bad_forms
  pub numbers_and_bytes : AreRefused bad_numbers_and_bytes
  pub kinds : AreRefused other_kinds
  pub many_nodes : pins_of [] (lines_of (codes "5 0:4A 1")) ≡ Fault 1 NoSuchNode

-- two faults in one line, of kinds that follow one another in the order
abbrev pub two_faults : Refusals
two_faults =
    (codes "5 100:4A x", 1, BadLine)
    ∷ (codes "5 1:4G 1 # " ++ 1 ∷ [], 1, BadLine)
    ∷ (codes "5 1:4G 1", 1, NoSuchNode)
    ∷ (codes "5 1:4A 16", 1, NoSuchNode)
    ∷ (codes "5 0:4G 4294967295", 1, NoSuchPort)
    ∷ (codes "9 0:4A 1\n8 0:4G 1", 2, NoSuchPort)
    ∷ (codes "9 0:4A 1\n8 0:4A 16", 2, ValueTooWide)
    ∷ (codes "9 0:4A 1\n9 0:4A 16", 2, ValueTooWide)
    -- the slot falls to one in which the pin is given
    ∷ (codes "8 0:4A 1\n9 0:4A 1\n8 0:4A 1", 3, SlotFalls)
    ∷ []

pub record WorkedOrder : Type 0 where
  pub order : AreRefused two_faults

abbrev pub line : ℕ → ℕ → ℕ → ℕ → PinLine
line slot node port value = record { slot = slot; node = node; port = port; value = value }

pub record WorkedScripts : Type 0 where
  pub empty : read [] ≡ Script []
  pub blank : read (codes "\n  \n# nothing\n\t// here\r\n") ≡ Script []
  pub forms : read (codes "0x9 0x0:4A 0x1\n\n 0xA\t07:32A 4294967295# all\r\n4294967295 00:1P 001 // last") ≡ Script (line 9 0 16 1 ∷ line 10 7 28 4294967295 ∷ line 4294967295 0 15 1 ∷ [])
  -- lines of one slot, for other pins
  pub one_slot : read (codes "5 0:4A 15\n5 7:4A 0\n5 0:8A 255\n5 0:16A 65535") ≡ Script (line 5 0 16 15 ∷ line 5 7 16 0 ∷ line 5 0 22 255 ∷ line 5 0 26 65535 ∷ [])
  -- each port has its name
  pub names : map port_name port_numbers
      ≡ codes "1A" ∷ codes "1B" ∷ codes "1C" ∷ codes "1D" ∷ codes "1E" ∷ codes "1F" ∷ codes "1G" ∷ codes "1H" ∷ codes "1I" ∷ codes "1J"
      ∷ codes "1K" ∷ codes "1L" ∷ codes "1M" ∷ codes "1N" ∷ codes "1O" ∷ codes "1P" ∷ codes "4A" ∷ codes "4B" ∷ codes "4C" ∷ codes "4D"
      ∷ codes "4E" ∷ codes "4F" ∷ codes "8A" ∷ codes "8B" ∷ codes "8C" ∷ codes "8D" ∷ codes "16A" ∷ codes "16B" ∷ codes "32A" ∷ []
  pub ports : map (λ port. port_of (port_name port)) port_numbers ≡ map Some port_numbers

-- two pins of node 0 and one of node 7
abbrev pub small_script : List PinLine
small_script = line 5 0 16 9 ∷ line 5 7 16 2 ∷ line 8 0 0 1 ∷ line 10 0 16 4 ∷ line 4294967295 0 0 0 ∷ []

-- A pin is 0 before its first line, has a line's value in the line's own slot, and keeps it until the next one.
pub record WorkedLevels : Type 0 where
  pub before : pin_at small_script 0 16 4 ≡ 0
  pub at : pin_at small_script 0 16 5 ≡ 9
  pub after : pin_at small_script 0 16 9 ≡ 9
  pub at_next : pin_at small_script 0 16 10 ≡ 4
  pub for_good : pin_at small_script 0 16 4294967295 ≡ 4
  pub other_node : pin_at small_script 7 16 10 ≡ 2
  pub other_pin : pin_at small_script 0 17 10 ≡ 0
  pub node_without_lines : pin_at small_script 3 16 10 ≡ 0
  pub high : pin_at small_script 0 0 4294967294 ≡ 1
  pub low_at_last : pin_at small_script 0 0 4294967295 ≡ 0
  -- the same pins among all of the node
  pub view : map (λ port. get_or (view_at small_script 0 9).level port 77) (0 ∷ 1 ∷ 16 ∷ 28 ∷ 29 ∷ []) ≡ 1 ∷ 0 ∷ 9 ∷ 0 ∷ 77 ∷ []
  pub a_line_stands : changes_in small_script 0 8 ≡ true
  pub none_stands : changes_in small_script 7 8 ≡ false
