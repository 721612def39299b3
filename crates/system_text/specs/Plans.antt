-- The plans of a frame's nodes and its pin script as the reader gives them, unless memory was wanting.
use Rattle.std.specs.Prelude.{◌≡◌, Result, Ok, Err, List, Vec, vec_items}
use Rattle.pin_scripts.specs.declared.line.PinLine.{PinLine}
use Rattle.pin_scripts.specs.Pins.{PinsRead, Script, Fault}
use Rattle.sys_plan.specs.declared.NodePlan.{NodePlan}
use Rattle.system_model.specs.System.{SourceFault}
use Rattle.system_text.specs.declared.system_error.SystemError.{SystemError}
use Rattle.system_text.specs.declared.system_error.SystemError.TheVariants.{Frame, Source, Pins, Memory}

-- the plan of a node, or the refusal of its source
abbrev pub GivesNode : Result NodePlan SourceFault → Result NodePlan SystemError → Type 0
GivesNode planned (Ok plan) = planned ≡ Ok plan
GivesNode planned (Err (Frame line kind)) = ⊥
GivesNode planned (Err (Source node line kind)) = planned ≡ Err (record { node = node; line = line; kind = kind })
GivesNode planned (Err (Pins line kind)) = ⊥
GivesNode planned (Err Memory) = Unit {0}

-- the plans of nodes, or the refusal of a source
abbrev pub GivesNodes : {A : Type 0} → Result (List NodePlan) SourceFault → Result (Vec NodePlan A) SystemError → Type 0
GivesNodes plans (Ok given) = plans ≡ Ok (vec_items given)
GivesNodes plans (Err (Frame line kind)) = ⊥
GivesNodes plans (Err (Source node line kind)) = plans ≡ Err (record { node = node; line = line; kind = kind })
GivesNodes plans (Err (Pins line kind)) = ⊥
GivesNodes plans (Err Memory) = Unit {0}

-- the lines of the pin script, or its refusal
abbrev pub GivesScript : PinsRead → Result (List PinLine) SystemError → Type 0
GivesScript read (Ok script) = read ≡ Script script
GivesScript read (Err (Frame line kind)) = ⊥
GivesScript read (Err (Source node line kind)) = ⊥
GivesScript read (Err (Pins line kind)) = read ≡ Fault line kind
GivesScript read (Err Memory) = Unit {0}
