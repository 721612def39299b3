-- What the caller learns of each outcome, from which one stands.
use Rattle.std.proofs.Common.{◌≡◌, ℕ, List, Result, Ok, Err, refl}
use Rattle.pin_scripts.specs.declared.pin_error.PinKind.{PinKind}
use Rattle.source_model.specs.declared.AsmKind.{AsmKind}
use Rattle.sys_plan.specs.Plan.{PlanRec}
use Rattle.system_model.specs.declared.SysKind.{SysKind}
use Rattle.system_model.specs.declared.SysKind.TheVariants.{SectionNotEnded}
use Rattle.system_model.specs.CutText.{IsCutInside}
use Rattle.system_model.specs.System.{System, system_of}
use Rattle.system_model.specs.System as stands
use Rattle.system_model.proofs.CutText.{cut_refused}
use Rattle.system_text.specs.declared.system_error.SystemError.{SystemError}
use Rattle.system_text.specs.declared.system_error.SystemError.TheVariants.{Frame, Source, Pins, Memory}
use Rattle.system_text.specs.Reads.{ReadsSystem, GivesPlan, RefusesFrame, RefusesSource, RefusesPins}

pub gives_plan : (r : Result PlanRec SystemError) (system : System) (plan : PlanRec) → ReadsSystem system r → system ≡ stands.Plan plan → GivesPlan plan r
gives_plan (Ok given) system plan h e = cc
gives_plan (Err Memory) system plan h e = refl
gives_plan (Err (Frame l k)) system plan h e = cc
gives_plan (Err (Source n l k)) system plan h e = cc
gives_plan (Err (Pins l k)) system plan h e = cc

pub refuses_frame : (r : Result PlanRec SystemError) (system : System) (line : ℕ) (kind : SysKind) → ReadsSystem system r → system ≡ stands.Frame line kind → RefusesFrame line kind r
refuses_frame (Ok given) system line kind h e = cc
refuses_frame (Err Memory) system line kind h e = tt
refuses_frame (Err (Frame l k)) system line kind h e = (cc, cc)
refuses_frame (Err (Source n l k)) system line kind h e = cc
refuses_frame (Err (Pins l k)) system line kind h e = cc

pub refuses_source : (r : Result PlanRec SystemError) (system : System) (node line : ℕ) (kind : AsmKind) → ReadsSystem system r → system ≡ stands.Source node line kind → RefusesSource node line kind r
refuses_source (Ok given) system node line kind h e = cc
refuses_source (Err Memory) system node line kind h e = tt
refuses_source (Err (Frame l k)) system node line kind h e = cc
refuses_source (Err (Source n l k)) system node line kind h e = (cc, cc, cc)
refuses_source (Err (Pins l k)) system node line kind h e = cc

pub refuses_pins : (r : Result PlanRec SystemError) (system : System) (line : ℕ) (kind : PinKind) → ReadsSystem system r → system ≡ stands.Pins line kind → RefusesPins line kind r
refuses_pins (Ok given) system line kind h e = cc
refuses_pins (Err Memory) system line kind h e = tt
refuses_pins (Err (Frame l k)) system line kind h e = cc
refuses_pins (Err (Source n l k)) system line kind h e = cc
refuses_pins (Err (Pins l k)) system line kind h e = (cc, cc)

-- the bytes are a text that is cut inside a section
pub refuses_cut : (r : Result PlanRec SystemError) (text bytes : List ℕ) (plan : PlanRec) (line : ℕ) → ReadsSystem (system_of bytes) r → system_of text ≡ stands.Plan plan → IsCutInside text bytes line
    → RefusesFrame line SectionNotEnded r
refuses_cut r text bytes plan line h is cut = refuses_frame r (system_of bytes) line SectionNotEnded h (cut_refused text bytes plan line is cut)

pub ruleset outcomes = (gives_plan, refuses_frame, refuses_source, refuses_pins)
