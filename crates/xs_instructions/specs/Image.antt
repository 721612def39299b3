-- Images: what a source stands for.
use Rattle.std.specs.Prelude.{ℕ, zero, suc, ◌≡◌, ◌+◌, ◌%◌, ◌<◌, ◌≤◌, Bool, ◌||◌, ◌&&◌, not, ◌==◌, nat_le, nat_lt, if◌then◌else◌, List, [], ◌∷◌, ◌++◌, length, codes, Option, Some, None, is_some, IsTrue, IfSome, slice_get, String, string_bytes}
use denote.Ref.{Bor}
use Rattle.std.specs.List.{list_any, AllByRecursion}
use Rattle.xs_base.specs.declared.numbers.TheConstants.{MEMORY_START}
use Rattle.xs_text.specs.Tokens.{is_name}
use Rattle.xs_instructions.specs.declared.instr.Instr.{Instr}
pub use Rattle.xs_instructions.specs.Words.{same_name}
use Rattle.xs_instructions.specs.Instr.{InRange, label_of}
use Rattle.xs_instructions.specs.Code.{code_start, place_address}

-- a name and the address that it stands for
abbrev pub Symbol : Type 0
Symbol = List ℕ × ℕ

-- an entry of a map from names to addresses, as a symbol
abbrev pub symbol_of_entry : {A : Type 0} → String A × ℕ → Symbol
symbol_of_entry entry = (string_bytes entry.0, entry.1)

-- a name that is lent, with its address, as a symbol
abbrev pub symbol_of_pair : Bor (List ℕ) × ℕ → Symbol
symbol_of_pair pair = (pair.0.now, pair.1)

-- the symbol with a number in the order of definition, from 0, and None exactly past the last
abbrev pub symbol_at : ℕ → List Symbol → Option Symbol
symbol_at k symbols = slice_get symbols k

-- labels in the order of their definition, and the number that the hash of their names takes first
pub record SymbolTable : Type 0 where
  pub labels : List Symbol
  pub key : ℕ

-- code, the bytes of both data sections, where the second of them begins, and the labels in the order of
-- their definition
pub record ImageRec : Type 0 where
  pub code : List Instr
  pub bytes : List ℕ
  pub cp_at : ℕ
  pub symbols : List Symbol

-- the address of a name, by the first symbol of that name
abbrev pub address_of : List Symbol → List ℕ → Option ℕ
address_of [] name = None
address_of (s ∷ symbols) name = if same_name s.0 name then Some s.1 else address_of symbols name

-- the number of the first symbol of a name, where the first symbol has the number k
abbrev pub number_from : ℕ → List Symbol → List ℕ → Option ℕ
number_from k [] name = None
number_from k (s ∷ symbols) name = if same_name s.0 name then Some k else number_from (k + 1) symbols name

-- the number of a name in the order of definition, from 0
abbrev pub number_of : List Symbol → List ℕ → Option ℕ
number_of symbols name = number_from 0 symbols name

-- the symbols with one more, where none has its name
abbrev pub defined : List ℕ → ℕ → List Symbol → List Symbol
defined name at symbols = if is_some (address_of symbols name) then symbols else symbols ++ (name, at) ∷ []

-- the symbols with another address for the one with a number
abbrev pub with_address : ℕ → ℕ → List Symbol → List Symbol
with_address k at [] = []
with_address zero at (s ∷ symbols) = (s.0, at) ∷ symbols
with_address (suc k) at (s ∷ symbols) = s ∷ with_address k at symbols

-- names that the assembly language keeps for itself
abbrev pub reserved_names : List (List ℕ)
reserved_names =
    codes "r0" ∷ codes "r1" ∷ codes "r2" ∷ codes "r3" ∷ codes "r4" ∷ codes "r5" ∷ codes "r6" ∷ codes "r7" ∷ codes "r8"
    ∷ codes "r9" ∷ codes "r10" ∷ codes "r11" ∷ codes "cp" ∷ codes "dp" ∷ codes "sp" ∷ codes "lr" ∷ codes "pc" ∷ codes "sr"
    ∷ codes "spc" ∷ codes "ssr" ∷ codes "et" ∷ codes "ed" ∷ codes "sed" ∷ codes "kep" ∷ codes "ksp" ∷ codes "id"
    ∷ codes "res" ∷ codes "t" ∷ []

abbrev pub is_reserved : List ℕ → Bool
is_reserved name = list_any (λ r. same_name r name) reserved_names

-- whether a label may have the name
abbrev pub may_be_label : List ℕ → Bool
may_be_label name = is_name name && not (is_reserved name)

abbrev pub data_start : ℕ
data_start = MEMORY_START

-- whether some symbol has the address
abbrev pub has_symbol_at : List Symbol → ℕ → Bool
has_symbol_at symbols at = list_any (λ (s : Symbol). s.1 == at) symbols

-- the name is a label's, and no symbol after it has it
abbrev pub AreLabels : List Symbol → Type 0
AreLabels [] = Unit {0}
AreLabels (s ∷ symbols) = IsTrue (may_be_label s.0) × (address_of symbols s.0 ≡ None) × AreLabels symbols

-- whether a symbol may stand right after one before it: addresses rise in each group, and code comes before data
abbrev pub may_follow : ℕ → ℕ → Bool
may_follow before after =
    if nat_le code_start before
    then nat_lt after code_start || nat_le before after
    else nat_lt after code_start && nat_le before after

abbrev pub AreInOrder : List Symbol → Type 0
AreInOrder [] = Unit {0}
AreInOrder (s ∷ []) = Unit {0}
AreInOrder (s ∷ t ∷ symbols) = IsTrue (may_follow s.1 t.1) × AreInOrder (t ∷ symbols)

-- an address that a label of the image may have: that of an instruction or the code's end, that of a byte or
-- the bytes' end, or where the second data section begins
abbrev pub is_place : ℕ → ℕ → ℕ → ℕ → Bool
is_place code_length bytes_length cp_at at =
    if nat_le code_start at
    then nat_le at (place_address code_length) && (at % 4 == 0)
    else (at == cp_at) || (nat_le data_start at && nat_le at (data_start + bytes_length))

-- what every image keeps
pub record IsImage (image : ImageRec) : Type 0 where
  pub code_fits : length image.code ≤ 16384
  pub bytes_fit : length image.bytes ≤ 65536
  pub operands : AllByRecursion InRange image.code
  -- each label that an instruction names has a symbol
  pub targets : AllByRecursion (λ ins. IfSome (label_of ins) (λ place. IsTrue (has_symbol_at image.symbols (place_address place)))) image.code
  pub names : AreLabels image.symbols
  pub order : AreInOrder image.symbols
  pub places : AllByRecursion (λ (s : Symbol). IsTrue (is_place (length image.code) (length image.bytes) image.cp_at s.1)) image.symbols
  pub cp_aligned : image.cp_at % 4 ≡ 0
  pub cp_in_data : data_start ≤ image.cp_at
  -- the bytes end past it, or less than a word before it
  pub cp_near_end : image.cp_at < data_start + length image.bytes + 4

-- where thread 0 begins: at the code label main, or at the first place where there is none
abbrev pub entry_from : Option ℕ → ℕ
entry_from None = code_start
entry_from (Some at) = if nat_le code_start at then at else code_start

abbrev pub entry_of : ImageRec → ℕ
entry_of image = entry_from (address_of image.symbols (codes "main"))
