-- The statuses of the answers to wave texts.
use Rattle.std.proofs.Common.{◌≡◌, ◌↔◌, ℕ, ◌<◌, ◌≤◌, Bool, true, false, if◌then◌else◌, List, length, refl, sym, ap, ◌∙◌, arith}
use Rattle.std.specs.Prelude.{nat_lt}
use Rattle.std.proofs.lemmas.Bool.Decides.{nat_tests}
use Rattle.system_model.specs.System.{longest_input}
use Rattle.wave_model.specs.Reads.{NodePins, Pins, Refused, pins_of}
use Rattle.answer_model.specs.declared.Status.{Status}
use Rattle.answer_model.specs.declared.Status.TheVariants as status
use Rattle.answer_model.specs.PinsForm.{answer_to_pins, pins_answer, too_long}
use Rattle.answer_model.specs.Top.{answer, answer_of_form}
use Rattle.answer_model.specs.PinsStatuses.{GivesScript, IsWaveRefusal, NeverOfPins, TellsPins}
use Rattle.answer_model.proofs.Statuses.{differ}

-- this status is answered exactly where an input, which is too long or not, and what it gives the node are of this kind
abbrev Tells : Status → (List ℕ → NodePins → Type 0) → Type 0
Tells wanted IsOfKind =
    (input : List ℕ) (long : Bool) → long ≡ nat_lt longest_input (length input) → (pins : NodePins)
    → ((if long then too_long else answer_to_pins pins).status ≡ wanted) ↔ IsOfKind input pins

of_pins : (wanted : Status) (IsOfKind : List ℕ → NodePins → Type 0) → Tells wanted IsOfKind → TellsPins wanted IsOfKind
unfolding answer
of_pins wanted IsOfKind tells words input node e =
    let told = tells input (nat_lt longest_input (length input)) refl (pins_of input node) in
    let same : (answer words input).status ≡ (pins_answer node input).status = ap (λ form. (answer_of_form form input).status) e in
    (λ is. told.0 (sym same ∙ is), λ of_kind. same ∙ told.1 of_kind)

is_long : (input : List ℕ) → true ≡ nat_lt longest_input (length input) → longest_input < length input
is_long input long = grind (arith, nat_tests)

is_short : (input : List ℕ) → false ≡ nat_lt longest_input (length input) → length input ≤ longest_input
is_short input short = grind (arith, nat_tests)

script_told : Tells status.Done GivesScript
script_told input true long (Pins text) = let many = is_long input long in (λ e. cc, λ few. absurd (omega (arith, many, few)))
script_told input true long (Refused line kind) = differ _ _ (λ e. cc)
script_told input false short (Pins text) = let few = is_short input short in (λ e. few, λ f. refl)
script_told input false short (Refused line kind) = differ _ _ (λ e. cc)

refusal_told : Tells status.SystemFault IsWaveRefusal
refusal_told input true long (Pins text) = let many = is_long input long in (λ e. many, λ m. refl)
refusal_told input true long (Refused line kind) = (λ e. tt, λ h. refl)
refusal_told input false short (Pins text) = let few = is_short input short in (λ e. cc, λ many. absurd (omega (arith, many, few)))
refusal_told input false short (Refused line kind) = (λ e. tt, λ h. refl)

no_source : Tells status.SourceFault NeverOfPins
no_source input true long pins = differ _ _ (λ e. cc)
no_source input false short (Pins text) = differ _ _ (λ e. cc)
no_source input false short (Refused line kind) = differ _ _ (λ e. cc)

no_script : Tells status.ScriptFault NeverOfPins
no_script input true long pins = differ _ _ (λ e. cc)
no_script input false short (Pins text) = differ _ _ (λ e. cc)
no_script input false short (Refused line kind) = differ _ _ (λ e. cc)

pub exactly_scripts : TellsPins status.Done GivesScript
exactly_scripts = of_pins status.Done GivesScript script_told

pub exactly_refused : TellsPins status.SystemFault IsWaveRefusal
exactly_refused = of_pins status.SystemFault IsWaveRefusal refusal_told

pub never_source : TellsPins status.SourceFault NeverOfPins
never_source = of_pins status.SourceFault NeverOfPins no_source

pub never_script : TellsPins status.ScriptFault NeverOfPins
never_script = of_pins status.ScriptFault NeverOfPins no_script
