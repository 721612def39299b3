-- What functions of this crate promise one another.
use Rattle.std.specs.Prelude.{ℕ, ◌≡◌, ◌<◌, ◌≤◌, Bool, nat_le, true, false, Option, Some, None, Result, Ok, Err, List, [], ◌∷◌, ◌++◌, map, filter, replicate, IfSome, slice_index_or, slice_set, ◌==◌}
use Rattle.std.specs.List.{AllByRecursion, list_any, position_or_len}
use Rattle.std.specs.List.Sorted.{IsPartitionPoint}
use Rattle.xs_base.specs.Numbers.{Slot, PortNumber}
use Rattle.pin_scripts.specs.declared.line.Change.{Change}
use Rattle.pin_scripts.specs.declared.line.PinForm.{PinForm}
use Rattle.pin_scripts.specs.declared.line.PinLine.{PinLine}
use Rattle.pin_scripts.specs.declared.line.PinSays.{PinSays}
use Rattle.pin_scripts.specs.declared.line.PinSays.TheVariants.{Blank, NoForm, Form}
use Rattle.pin_scripts.specs.declared.pin_error.PinError.{PinError}
use Rattle.pin_scripts.specs.declared.pin_error.PinError.TheVariants as errors
use Rattle.pin_scripts.specs.declared.pin_error.PinKind.{PinKind}
use Rattle.pin_scripts.specs.Script.{NodeNumber, changes_of, IsScript, IsOfNodes}
use Rattle.pin_scripts.specs.Pins.{PinsRead, Script, Fault}

-- a port that is there
abbrev pub IfPort : Option PortNumber → Type 0
IfPort port = IfSome port (λ p. p < 29)

abbrev pub HasPort : PinForm → Type 0
HasPort form = IfPort form.port

abbrev pub SaysPort : PinSays → Type 0
SaysPort Blank = Unit {0}
SaysPort NoForm = Unit {0}
SaysPort (Form form) = HasPort form

-- nothing comes after a slot
abbrev pub IsPast : {X : Type 0} → (X → Slot) → Slot → List X → Type 0
IsPast slot_of slot xs = AllByRecursion (λ x. slot_of x ≤ slot) xs

abbrev pub slot_of_change : Change → Slot
slot_of_change change = change.slot

-- how many of them, the first ones, do not
abbrev pub IsCountUntil : {X : Type 0} → (X → Slot) → Slot → List X → ℕ → Type 0
IsCountUntil slot_of slot xs count = IsPartitionPoint (λ x. nat_le (slot_of x) slot ≡ true) (λ x. nat_le (slot_of x) slot ≡ false) xs count

-- what is kept of a node: its number, the changes of each of its pins, and the slots of all its lines
pub record NodeChangesRec : Type 0 where
  pub number : NodeNumber
  pub pins : List (List Change)
  pub slots : List Slot

abbrev pub node_without_lines : NodeNumber → NodeChangesRec
node_without_lines number = record { number = number; pins = replicate 29 []; slots = [] }

-- one more change of a pin of the node
abbrev pub with_change : NodeChangesRec → PortNumber → Change → NodeChangesRec
with_change node port change = record {
  number = node.number;
  pins = slice_set node.pins port (slice_index_or node.pins port [] ++ change ∷ []);
  slots = node.slots ++ change.slot ∷ [];
}

abbrev pub same_slot : Slot → Slot
same_slot slot = slot

abbrev pub has_slot : List Slot → Slot → Bool
has_slot slots slot = list_any (λ s. s == slot) slots

-- where a node stands by its number, the count of the nodes where it is none of them
abbrev pub place_of : List NodeChangesRec → NodeNumber → ℕ
place_of nodes number = position_or_len (λ (node : NodeChangesRec). node.number == number) nodes

-- what is kept of the node with a number, nothing where there is none
abbrev pub kept_node : List NodeChangesRec → NodeNumber → NodeChangesRec
kept_node nodes number = slice_index_or nodes (place_of nodes number) (record { number = number; pins = []; slots = [] })

abbrev pub kept_pin : List NodeChangesRec → NodeNumber → PortNumber → List Change
kept_pin nodes number port = slice_index_or (kept_node nodes number).pins port []

-- the slots of the lines of a node
abbrev pub slots_of : List PinLine → NodeNumber → List Slot
slots_of script number = map (λ (line : PinLine). line.slot) (filter (λ (line : PinLine). line.node == number) script)

-- what is kept of the nodes is what a script says of them
pub record IsIndex (script : List PinLine) (nodes : List NodeChangesRec) : Type 0 where
  pub pins : (number : NodeNumber) (port : PortNumber) → port < 29 → kept_pin nodes number port ≡ changes_of script number port
  pub slots : (number : NodeNumber) → (kept_node nodes number).slots ≡ slots_of script number

-- the same of one node
pub record KeepsOf (script : List PinLine) (number : NodeNumber) (node : NodeChangesRec) : Type 0 where
  pub pins : (port : PortNumber) → port < 29 → slice_index_or node.pins port [] ≡ changes_of script number port
  pub slots : node.slots ≡ slots_of script number

abbrev pub numbers_of : List NodeChangesRec → List NodeNumber
numbers_of nodes = map (λ (node : NodeChangesRec). node.number) nodes

-- what is kept while a text is read
pub record IsGiven (script : List PinLine) (nodes : List NodeChangesRec) : Type 0 where
  pub script_is : IsScript script
  pub index : IsIndex script nodes
  pub of_nodes : IsOfNodes (numbers_of nodes) script

-- what reading a line returns, by its fault: a fault takes no memory, so that none may be wanting in its place
abbrev pub TellsFault : Option PinKind → ℕ → Result (Unit {0}) PinError → Type 0
TellsFault fault number (Ok u) = fault ≡ None
TellsFault fault number (Err (errors.Fault line kind)) = (line ≡ number) × (fault ≡ Some kind)
TellsFault fault number (Err errors.Memory) = fault ≡ None

-- what reading a text returns
abbrev pub ReadsPins : PinsRead → Result (List PinLine) PinError → Type 0
ReadsPins read (Ok script) = read ≡ Script script
ReadsPins read (Err (errors.Fault line kind)) = read ≡ Fault line kind
ReadsPins read (Err errors.Memory) = Unit {0}

-- this script
abbrev pub GivesScript : List PinLine → Result (List PinLine) PinError → Type 0
GivesScript script (Ok given) = given ≡ script
GivesScript script (Err e) = e ≡ errors.Memory

-- this refusal
abbrev pub Refuses : ℕ → PinKind → Result (List PinLine) PinError → Type 0
Refuses line kind (Ok given) = ⊥
Refuses line kind (Err (errors.Fault l k)) = (l ≡ line) × (k ≡ kind)
Refuses line kind (Err errors.Memory) = Unit {0}
