-- What is asked of the program and what it answers go together, whatever the words.
use Rattle.std.proofs.Common.{◌≡◌, ℕ, ◌+◌, ◌<◌, Bool, true, false, min, if◌then◌else◌, List, length, take, Option, Some, None, Result, Ok, Err, IfOk, refl, sym, ap, ◌∙◌, subst, arith}
use Rattle.std.specs.Prelude.{codes, nat_lt}
use Rattle.answer_model.specs.declared.Form.{Form}
use Rattle.answer_model.specs.declared.Form.TheVariants.{Free, Serial, Rounds, Play, Make, Check, Save, Resume, Routes, Wave, PinsOf}
use Rattle.answer_model.specs.declared.Answer.{Answer}
use Rattle.answer_model.specs.declared.Status.TheVariants as status
use Rattle.system_model.specs.declared.SysKind.TheVariants.{TooLong}
use Rattle.system_model.specs.System.{longest_input, system_of}
use Rattle.snap_codec.specs.Snaps.{SnapRec, SnapRead, Snap, Fault, snap_of}
use Rattle.snap_model.specs.Rest.{rest_text}
use Rattle.answer_model.specs.Forms.{form_of_words, asks_for_input, reads_input, usage_text}
use Rattle.answer_model.specs.OnSystem.{answer_to}
use Rattle.answer_model.specs.RunForm.{run_text}
use Rattle.answer_model.specs.PlayForm.{played_text}
use Rattle.answer_model.specs.CheckForm.{check_text}
use Rattle.answer_model.specs.SaveForm.{saved_text, save_answer}
use Rattle.answer_model.specs.ResumeForm.{refused, slot_at, is_out_of_range, rest_answer, answer_to_snap}
use Rattle.pin_scripts.specs.Script.{NodeNumber}
use Rattle.wave_model.specs.Reads as wave
use Rattle.wave_model.specs.Reads.{NodePins, pins_of}
use Rattle.answer_model.specs.WaveForm.{waved_text}
use Rattle.answer_model.specs.PinsForm.{answer_to_pins, pins_answer, too_long}
use Rattle.answer_model.specs.RoutesForm as found
use Rattle.answer_model.specs.RoutesForm.{Routes as Found, routes_of, answer_to_routes}
use Rattle.answer_model.specs.Refusals.{frame_text}
use Rattle.load_model.specs.Load.{load_text}
use Rattle.load_model.specs.Made.{made_text}
use Rattle.answer_model.specs.Top.{answer, answer_by, answer_of_form, longest_of, most_taken, most_reads, taken_by}
use Rattle.program_calls.specs.Asked.{Asked, IsCoherent, IsFormStatus}
use Rattle.system_answers.proofs.Statuses.{answer_to-status}
use Rattle.system_answers.proofs.Taken.{of_taken, system_of-long, system_of-taken}
use Rattle.xs1_top.specs.Asked.{asked_of}
use Rattle.xs1_top.proofs.Systems.{snap_of-taken, routes_of-taken, pins_answer-taken}

-- a text is in the snapshot that is answered to it
save_answer-taken : (slots : ℕ) (input : List ℕ) → save_answer slots (take (min (length input) (longest_input + 1)) input) ≡ save_answer slots input
save_answer-taken slots input =
    of_taken (save_answer slots) longest_input (record { text = frame_text 0 TooLong; status = status.SystemFault }) (λ text h. ap (answer_to (saved_text text slots)) (system_of-long text h)) input

-- what each form answers to the bytes taken is what it answers to the input
answer_by-taken : (form : Form) (input : List ℕ) → answer_by form (take (taken_by (Some form) input) input) ≡ answer_by form input
answer_by-taken (Free slots) input = ap (answer_to (run_text slots)) (system_of-taken input)
answer_by-taken (Serial slots) input = ap (answer_to (run_text slots)) (system_of-taken input)
answer_by-taken (Rounds slots) input = ap (answer_to (run_text slots)) (system_of-taken input)
answer_by-taken (Play slots) input = ap (answer_to (played_text slots)) (system_of-taken input)
answer_by-taken (Make number) input = refl
answer_by-taken Check input = ap (answer_to check_text) (system_of-taken input)
answer_by-taken (Save slots) input = save_answer-taken slots input
answer_by-taken (Resume slots) input = ap (answer_to_snap slots) (snap_of-taken input)
answer_by-taken Routes input = ap answer_to_routes (routes_of-taken input)
answer_by-taken (Wave slots) input = ap (answer_to (waved_text slots)) (system_of-taken input)
answer_by-taken (PinsOf node) input = pins_answer-taken node input

ranged-status : (out : Bool) (slots : ℕ) (snap : SnapRec) → IsFormStatus (if out then refused (slot_at snap) (codes "N3 slot out of range") else rest_answer slots snap).status
ranged-status true slots snap = tt
ranged-status false slots snap = answer_to-status (λ plan. rest_text plan snap.body slots) (system_of snap.text)

answer_to_snap-status : (slots : ℕ) (read : SnapRead) → IsFormStatus (answer_to_snap slots read).status
answer_to_snap-status slots (Snap snap) = ranged-status (is_out_of_range slots snap) slots snap
answer_to_snap-status slots (Fault byte kind) = tt

answer_to_routes-status : (routes : Found) → IsFormStatus (answer_to_routes routes).status
answer_to_routes-status (found.Judged plan verdict) = tt
answer_to_routes-status (found.BadRanks line kind) = tt
answer_to_routes-status (found.Frame line kind) = tt
answer_to_routes-status (found.Source node line kind) = tt
answer_to_routes-status (found.Pins line kind) = tt

answer_to_pins-status : (pins : NodePins) → IsFormStatus (answer_to_pins pins).status
answer_to_pins-status (wave.Pins text) = tt
answer_to_pins-status (wave.Refused line kind) = tt

of_length-status : (long : Bool) (pins : NodePins) → IsFormStatus (if long then too_long else answer_to_pins pins).status
of_length-status true pins = tt
of_length-status false pins = answer_to_pins-status pins

pins_answer-status : (node : NodeNumber) (input : List ℕ) → IsFormStatus (pins_answer node input).status
pins_answer-status node input = of_length-status (nat_lt longest_input (length input)) (pins_of input node)

answer_by-status : (form : Form) (input : List ℕ) → IsFormStatus (answer_by form input).status
answer_by-status (Free slots) input = answer_to-status (run_text slots) (system_of input)
answer_by-status (Serial slots) input = answer_to-status (run_text slots) (system_of input)
answer_by-status (Rounds slots) input = answer_to-status (run_text slots) (system_of input)
answer_by-status (Play slots) input = answer_to-status (played_text slots) (system_of input)
answer_by-status (Make number) input = answer_to-status (made_text number) (system_of (load_text number))
answer_by-status Check input = answer_to-status check_text (system_of input)
answer_by-status (Save slots) input = answer_to-status (saved_text input slots) (system_of input)
answer_by-status (Resume slots) input = answer_to_snap-status slots (snap_of input)
answer_by-status Routes input = answer_to_routes-status (routes_of input)
answer_by-status (Wave slots) input = answer_to-status (waved_text slots) (system_of input)
answer_by-status (PinsOf node) input = pins_answer-status node input

-- what words ask that are of this form, or of none
abbrev pub asked_by : Option Form → Asked
asked_by form = record {
  no_form = form ≡ None;
  usage = usage_text;
  asks = asks_for_input form;
  most = most_taken form;
  most_reads = most_reads form;
  answer = answer_of_form form;
}

-- of a form that asks for the input, and of one that doesn't
most_asked : (form : Form) → reads_input form ≡ true → most_taken (Some form) ≡ longest_of form + 1
most_asked form asks = ap (λ asks. if asks then longest_of form + 1 else 0) asks

none_asked : (form : Form) → reads_input form ≡ false → most_taken (Some form) ≡ 0
none_asked form asks = ap (λ asks. if asks then longest_of form + 1 else 0) asks

coherent_by : (form : Option Form) → IsCoherent (asked_by form)
coherent_by None = record {
  enough = λ input. refl;
  form_status = λ some. absurd (some refl);
  refused = λ none input. refl;
  unasked = λ none. refl;
  nothing = λ _. refl;
  some = λ asks. let apart : false ≡ true = asks in absurd cc;
  reads = λ asks. let apart : false ≡ true = asks in absurd cc;
  some_reads = omega arith;
}
coherent_by (Some form) = record {
  enough = answer_by-taken form;
  form_status = λ some. answer_by-status form;
  refused = λ none. let apart : Some form ≡ None = none in absurd cc;
  unasked = λ none. let apart : Some form ≡ None = none in absurd cc;
  nothing = none_asked form;
  some = λ asks. subst (λ most. 0 < most) (sym (most_asked form asks)) (omega arith);
  reads = λ asks. sym (most_asked form asks);
  some_reads = omega arith;
}

pub coherent : (words : List (List ℕ)) → IsCoherent (asked_of words)
unfolding answer
coherent words = coherent_by (form_of_words words)

-- what a form answers is what is answered to its words
answered-form : (words : List (List ℕ)) (form : Form) (input : List ℕ) → Some form ≡ form_of_words words → answer_by form input ≡ answer words input
unfolding answer
answered-form words form input is = ap (λ form. answer_of_form form input) is

pub answers-form : {E : Type 0} (given : Result Answer E) (words : List (List ℕ)) (form : Form) (input : List ℕ) → Some form ≡ form_of_words words
    → IfOk given (λ a. a ≡ answer_by form input) → IfOk given (λ a. a ≡ answer words input)
answers-form (Ok a) words form input is given = given ∙ answered-form words form input is
answers-form (Err e) words form input is given = tt
