-- The rows on resources by which nothing happens.
use Rattle.std.specs.Prelude.{Bool, true, false}
use Rattle.xs_instructions.specs.declared.instr.ResIns.{ResIns}
use Rattle.xs_instructions.specs.declared.instr.ResIns.TheVariants as resources

-- a row that no port takes part in, but by its events
abbrev pub is_quiet : ResIns → Bool
is_quiet (resources.In d s) = false
is_quiet (resources.Out s x) = false
is_quiet (resources.Setd s x) = false
is_quiet (resources.Getd d s) = false
is_quiet (resources.SetcImm s u) = false
is_quiet (resources.Setc s x) = false
is_quiet (resources.Inpw d s b) = false
is_quiet (resources.Outpw s x b) = false
is_quiet (resources.Inshr d s) = false
is_quiet (resources.Outshr s d) = false
is_quiet (resources.Peek d s) = false
is_quiet (resources.Endin d s) = false
is_quiet (resources.Syncr s) = false
is_quiet (resources.Getts d s) = false
is_quiet (resources.Setpt s x) = false
is_quiet (resources.Clrpt s) = false
is_quiet (resources.Setclk s x) = false
is_quiet (resources.Setrdy s x) = false
is_quiet (resources.Settw s x) = false
is_quiet _ = true

-- a row on the events of a resource or of the thread that issues
abbrev pub is_on_events : ResIns → Bool
is_on_events (resources.Setv s) = true
is_on_events (resources.Setev s) = true
is_on_events (resources.Eeu s) = true
is_on_events (resources.Edu s) = true
is_on_events (resources.Eet x s) = true
is_on_events (resources.Eef x s) = true
is_on_events resources.Clre = true
is_on_events resources.Waiteu = true
is_on_events (resources.Waitet x) = true
is_on_events (resources.Waitef x) = true
is_on_events _ = false
