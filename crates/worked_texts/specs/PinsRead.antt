-- Systems with a pin script, read by hand.
use Rattle.std.specs.Prelude.{ℕ, ◌≡◌, List, [], ◌∷◌, ◌++◌, map, codes, replicate}
use Rattle.source_model.specs.declared.AsmKind.TheVariants as asm
use Rattle.pin_scripts.specs.declared.line.PinLine.{PinLine}
use Rattle.pin_scripts.specs.declared.pin_error.PinKind.{PinKind}
use Rattle.pin_scripts.specs.declared.pin_error.PinKind.TheVariants.{BadLine, SlotFalls, NoSuchPort, ValueTooWide, NoSuchNode, PinGivenTwice}
use Rattle.sys_plan.specs.NodePlans.{plain_plan}
use Rattle.sys_plan.specs.Plan.{PlanRec}
use Rattle.system_model.specs.declared.SysKind.TheVariants as sys
use Rattle.system_model.specs.System.{Plan, Frame, Source, Pins, system_of}
use Rattle.worked_texts.specs.SystemsRead.{empty_image}

-- two nodes with these sources, behind the section of the pin script, before it and round it
abbrev pub behind_pins : List ℕ → List ℕ → List ℕ
behind_pins script sources = codes "xs1 1\npins\n" ++ (script ++ (codes "end\nnode 7 id 1\nnode 3 id 0\n" ++ sources))

abbrev pub before_pins : List ℕ → List ℕ → List ℕ
before_pins script sources = codes "xs1 1\nnode 7 id 1\nnode 3 id 0\n" ++ (sources ++ (codes "pins\n" ++ (script ++ codes "end\n")))

abbrev pub round_pins : List ℕ → List ℕ → List ℕ
round_pins script sources = codes "xs1 1\nnode 7 id 1\npins\n" ++ (script ++ (codes "  end # x\nnode 3 id 0\n" ++ sources))

abbrev pub empty_sources : List ℕ
empty_sources = codes "source 7\nend\nsource 3\nend\n"

-- what each of them stands for

abbrev pub scripted : List PinLine → PlanRec
scripted script = record {
  nodes =
      plain_plan 3 0 empty_image (replicate 16 0)
      ∷ plain_plan 7 1 empty_image (replicate 16 0)
      ∷ [];
  links = [];
  script = script;
  steps = [];
  wires = [];
}

-- a script that names the node that the frame gives later
abbrev pub short_script : List ℕ
short_script = codes "# slots\n5 3:4A 15\n\n  0x9 7:1B 1 // last\n"

abbrev pub short_lines : List PinLine
short_lines =
    record { slot = 5; node = 3; port = 16; value = 15 } ∷ record { slot = 9; node = 7; port = 1; value = 1 } ∷ []

pub record WorkedPlansWithPins : Type 0 where
  pub behind : system_of (behind_pins short_script empty_sources) ≡ Plan (scripted short_lines)
  pub before : system_of (before_pins short_script empty_sources) ≡ Plan (scripted short_lines)
  pub round : system_of (round_pins short_script empty_sources) ≡ Plan (scripted short_lines)
  pub empty : system_of (behind_pins [] empty_sources) ≡ Plan (scripted [])
  pub without : system_of (codes "xs1 1\nnode 7 id 1\nnode 3 id 0\n" ++ empty_sources) ≡ Plan (scripted [])
  pub no_node : system_of (codes "xs1 1\npins\nend") ≡ Plan (record { nodes = []; links = []; script = []; steps = []; wires = [] })

-- scripts, and the line and the kind of the refusal of each
abbrev pub Refusals : Type 0
Refusals = List (List ℕ × ℕ × PinKind)

abbrev pub bad_scripts : Refusals
bad_scripts =
    (codes "5 3:4A\n", 1, BadLine)
    ∷ (codes "\n# x\n5 7:4A 16\n", 3, ValueTooWide)
    ∷ (codes "9 3:4A 1\n8 3:4A 2\n", 2, SlotFalls)
    ∷ (codes "5 3:4G 1\n", 1, NoSuchPort)
    ∷ (codes "5 0:4A 1\n", 1, NoSuchNode)
    ∷ (codes "5 3:4A 1\n5 7:4A 1\n5 3:4A 1\n", 3, PinGivenTwice)
    -- lines that are none of the frame's there, and bytes that are not allowed
    ∷ (codes "source 0\n", 1, BadLine)
    ∷ (codes "5 3:4A 1\npins\n", 2, BadLine)
    ∷ (codes "xs1 1\n", 1, BadLine)
    ∷ (codes "end:\n", 1, BadLine)
    ∷ (codes "# " ++ (1 ∷ codes "\n"), 1, BadLine)
    ∷ []

-- each script is refused so, wherever its section stands
abbrev pub AreRefusedIn : (List ℕ → List ℕ → List ℕ) → Refusals → Type 0
AreRefusedIn text rows =
    map (λ (row : List ℕ × ℕ × PinKind). system_of (text row.0 empty_sources)) rows ≡ map (λ (row : List ℕ × ℕ × PinKind). Pins row.1 row.2) rows

pub record WorkedPinRefusals : Type 0 where
  pub behind : AreRefusedIn behind_pins bad_scripts
  pub before : AreRefusedIn before_pins bad_scripts
  pub round : AreRefusedIn round_pins bad_scripts
  pub no_node : system_of (codes "xs1 1\npins\n5 0:4A 1\nend") ≡ Pins 1 NoSuchNode
  -- a source that is refused comes before the script, wherever the section stands, and the frame before both
  pub source_behind : system_of (behind_pins (codes "foo\n") (codes "source 7\nnop\nfoo\nend\nsource 3\nend\n")) ≡ Source 7 2 asm.UnknownName
  pub source_before : system_of (before_pins (codes "foo\n") (codes "source 7\nnop\nfoo\nend\nsource 3\nend\n")) ≡ Source 7 2 asm.UnknownName
  pub pins_in_source : system_of (codes "xs1 1\nnode 0 id 0\nsource 0\npins\nend\n") ≡ Source 0 1 asm.UnknownName
  pub no_source : system_of (behind_pins (codes "foo\n") (codes "source 7\nend\n")) ≡ Frame 6 sys.NodeWithoutSource
  pub later_line : system_of (behind_pins (codes "foo\n") (empty_sources ++ codes "foo")) ≡ Frame 11 sys.BadLine
