-- Pin scripts: what drives the pins of nodes from outside. A script is its lines, in the order of the text.
use Rattle.std.specs.Prelude.{ℕ, ◌≡◌, ◌<◌, ◌≤◌, ◌^◌, Bool, true, false, ◌&&◌, ◌==◌, nat_le, Option, Some, None, List, [], ◌∷◌, map, filter}
use Rattle.std.specs.List.{AllByRecursion, list_any}
use Rattle.xs_base.specs.Ids.{port_width}
use Rattle.xs_base.specs.Numbers.{Slot, Word, PortNumber}
use Rattle.xs_model.specs.declared.outside.PinView.{PinView}
use Rattle.pin_scripts.specs.declared.line.PinLine.{PinLine}
use Rattle.pin_scripts.specs.declared.line.Change.{Change}

-- the number by which texts name a node, 0 to 99
abbrev pub NodeNumber : Type 0
NodeNumber = ℕ

abbrev pub is_of_pin : NodeNumber → PortNumber → PinLine → Bool
is_of_pin node port line = (line.node == node) && (line.port == port)

abbrev pub change_of : PinLine → Change
change_of line = record { slot = line.slot; value = line.value }

-- the changes of a pin, in the order of the lines
abbrev pub changes_of : List PinLine → NodeNumber → PortNumber → List Change
changes_of script node port = map change_of (filter (is_of_pin node port) script)

abbrev pub is_at_most : Slot → Change → Bool
is_at_most slot change = nat_le change.slot slot

-- the value that the last of some changes leaves, where it was this before them
abbrev pub value_after : Word → List Change → Word
value_after value [] = value
value_after value (change ∷ changes) = value_after change.value changes

-- what some changes of a pin make it show in a slot: the value of the last one in that slot or before it, else 0
abbrev pub shown : List Change → Slot → Word
shown changes slot = value_after 0 (filter (is_at_most slot) changes)

-- what a pin of a node shows in a slot: the value of its last line in that slot or before it, else 0
abbrev pub pin_at : List PinLine → NodeNumber → PortNumber → Slot → Word
pin_at script node port slot = shown (changes_of script node port) slot

-- the ports by number
abbrev pub port_numbers : List PortNumber
port_numbers =
    0 ∷ 1 ∷ 2 ∷ 3 ∷ 4 ∷ 5 ∷ 6 ∷ 7 ∷ 8 ∷ 9 ∷ 10 ∷ 11 ∷ 12 ∷ 13 ∷ 14 ∷ 15 ∷ 16 ∷ 17 ∷ 18 ∷ 19 ∷ 20 ∷ 21 ∷ 22 ∷ 23 ∷ 24 ∷ 25
    ∷ 26 ∷ 27 ∷ 28 ∷ []

-- what all pins of a node show in a slot
abbrev pub view_at : List PinLine → NodeNumber → Slot → PinView
view_at script node slot = record { level = map (λ port. pin_at script node port slot) port_numbers }

-- whether a line of a node stands in a slot
abbrev pub changes_in : List PinLine → NodeNumber → Slot → Bool
changes_in script node slot = list_any (λ (line : PinLine). (line.node == node) && (line.slot == slot)) script

-- the least slot after a slot for which a test holds, where there is one
abbrev pub IsNextWhere : (Slot → Bool) → Slot → Option Slot → Type 0
IsNextWhere test slot None = (later : Slot) → slot < later → test later ≡ false
IsNextWhere test slot (Some next) =
    (slot < next) × (test next ≡ true) × ((between : Slot) → slot < between → between < next → test between ≡ false)

-- the least slot after a slot in which a line of a node stands, where there is one
abbrev pub IsNextChange : List PinLine → NodeNumber → Slot → Option Slot → Type 0
IsNextChange script node slot next = IsNextWhere (changes_in script node) slot next

-- a slot that the next change has not come to
abbrev pub IsBefore : Slot → Option Slot → Type 0
IsBefore slot None = Unit {0}
IsBefore slot (Some next) = slot < next

-- what the pins of a node show in a slot they show until the next change
abbrev pub IsSteadyUntil : List PinLine → NodeNumber → Slot → Option Slot → Type 0
IsSteadyUntil script node slot next = (later : Slot) → slot ≤ later → IsBefore later next → view_at script node later ≡ view_at script node slot

-- a line names a port, and its value has no more bits than that port has pins
pub record IsPinLine (line : PinLine) : Type 0 where
  pub port : line.port < 29
  pub value : line.value < 2 ^ port_width line.port

-- the slot of nothing is below that of the one before it, nor that of the first below this slot
abbrev pub NeverFall : {X : Type 0} → (X → Slot) → Slot → List X → Type 0
NeverFall slot_of least [] = Unit {0}
NeverFall slot_of least (x ∷ xs) = (least ≤ slot_of x) × NeverFall slot_of (slot_of x) xs

-- what every script keeps
pub record IsScript (script : List PinLine) : Type 0 where
  pub lines : AllByRecursion IsPinLine script
  pub order : NeverFall (λ (line : PinLine). line.slot) 0 script

-- every line of a script is of one of these nodes
abbrev pub IsOfNodes : List NodeNumber → List PinLine → Type 0
IsOfNodes numbers script = AllByRecursion (λ (line : PinLine). list_any (λ n. n == line.node) numbers ≡ true) script
