-- One call of a program: what its clauses say once the text is written, or not written whole.
use Rattle.std.proofs.Common.{◌≡◌, ◌≢◌, ℕ, ◌<◌, false, List, [], take, Option, Some, None, IfSome, refl, sym, ap, ◌∙◌, subst, arith, inl, inr}
use Rattle.std.specs.Io.KnownBytes.{Appends}
use Rattle.xs_edge.specs.Edge.{AppendsPart, HasRisen}
use Rattle.answer_model.specs.declared.Answer.{Answer}
use Rattle.answer_model.specs.declared.Status.{Status}
use Rattle.answer_model.specs.declared.Status.TheVariants as status
use Rattle.program_calls.specs.Asked.{Asked, IsCoherent, IsFormStatus, taken}
use Rattle.program_calls.specs.Call.{IsWhole, IsRead, IsSilent, IsInput, Answers, AnswersInPart, TookInput, IsAnswerStatus, EndsWhere, Ends, Finishes}
use Rattle.program_calls.specs.Calls.{Calls}
use Rattle.program_calls.specs.Reads.{ReadGives, ReadsAtMost}

-- the answer to an input that the source may have
abbrev pub IsAnswer : Answer → Asked → Option (List ℕ) → Type 0
IsAnswer a asked left = (input : List ℕ) × IsInput left input × (a ≡ asked.answer input)

-- what is answered to every input
pub of_any : (asked : Asked) (left : Option (List ℕ)) (a : Answer) → ((input : List ℕ) → asked.answer input ≡ a) → IsAnswer a asked left
of_any asked None a is = ([], tt, sym (is []))
of_any asked (Some input) a is = (input, refl, sym (is input))

-- what is answered to the bytes that are taken, as they are lent
pub of_bytes : (asked : Asked) (left : Option (List ℕ)) (bytes lent : List ℕ) (a : Answer) → IsCoherent asked
    → IfSome left (λ input. bytes ≡ take (taken asked input) input) → a ≡ asked.answer lent → lent ≡ bytes → IsAnswer a asked left
of_bytes asked None bytes lent a coherent front given same = (bytes, tt, given ∙ ap asked.answer same)
of_bytes asked (Some input) bytes lent a coherent front given same =
    (input, refl, given ∙ (ap asked.answer (same ∙ front) ∙ coherent.enough input))

whole_end : (wanted ended : Status) → Ends wanted ended → IsWhole ended → ended ≡ wanted
whole_end wanted ended (inl e) h = e
whole_end wanted ended (inr e) h = absurd (subst IsWhole e h)

written_end : (wanted ended : Status) → Ends wanted ended → ¬ (ended ≡ status.WriteFault) → ended ≡ wanted
written_end wanted ended (inl e) h = e
written_end wanted ended (inr e) h = absurd (h e)

Answers-given : (a : Answer) (asked : Asked) (left before after : Option (List ℕ)) (text : List ℕ) (ended : Status)
    → IsAnswer a asked left → text ≡ a.text → Ends a.status ended → Appends before after text → IsWhole ended → Answers asked left before after ended
Answers-given a asked left before after text ended (input, is_input, is) t ends wrote whole =
    (input, is_input, subst (Appends before after) (t ∙ ap (λ a. a.text) is) wrote, whole_end a.status ended ends whole ∙ ap (λ a. a.status) is)

AnswersInPart-given : (a : Answer) (asked : Asked) (left before after : Option (List ℕ)) (text : List ℕ)
    → IsAnswer a asked left → text ≡ a.text → AppendsPart before after text → AnswersInPart asked left before after
AnswersInPart-given a asked left before after text (input, is_input, is) t wrote =
    (input, is_input, subst (AppendsPart before after) (t ∙ ap (λ a. a.text) is) wrote)

-- a status that came is the answer's
came : (a : Answer) (asked : Asked) (left : Option (List ℕ)) (ended wanted : Status)
    → IsAnswer a asked left → Ends a.status ended → IsWhole wanted → ended ≡ wanted → IsAnswerStatus wanted asked left
came a asked None ended wanted is ends whole e = tt
came a asked (Some left) ended wanted (input, is_input, is) ends whole e =
    sym (ap (λ input. (asked.answer input).status) is_input) ∙ (sym (ap (λ a. a.status) is) ∙ (sym (whole_end a.status ended ends (subst IsWhole (sym e) whole)) ∙ e))

ends_with : (a : Answer) (asked : Asked) (left : Option (List ℕ)) (ended wanted : Status)
    → IsAnswer a asked left → ended ≡ a.status → EndsWhere wanted asked left ended
ends_with a asked None ended wanted is e = tt
ends_with a asked (Some left) ended wanted (input, is_input, is) e = λ w.
    e ∙ (ap (λ a. a.status) is ∙ (ap (λ input. (asked.answer input).status) is_input ∙ w))

-- and the answer's comes
comes : (a : Answer) (asked : Asked) (left : Option (List ℕ)) (ended wanted : Status)
    → IsAnswer a asked left → Ends a.status ended → IsWhole ended → EndsWhere wanted asked left ended
comes a asked left ended wanted is ends whole = ends_with a asked left ended wanted is (whole_end a.status ended ends whole)

-- also where it is only known that the text was written
comes_written : (a : Answer) (asked : Asked) (left : Option (List ℕ)) (ended wanted : Status)
    → IsAnswer a asked left → Ends a.status ended → ¬ (ended ≡ status.WriteFault) → EndsWhere wanted asked left ended
comes_written a asked left ended wanted is ends written = ends_with a asked left ended wanted is (written_end a.status ended ends written)

form_whole : (s : Status) → IsFormStatus s → IsWhole s
form_whole status.Done h = tt
form_whole status.SystemFault h = tt
form_whole status.SourceFault h = tt
form_whole status.ScriptFault h = tt
form_whole status.Memory h = absurd h
form_whole status.Usage h = absurd h
form_whole status.ReadFault h = absurd h
form_whole status.WriteFault h = absurd h

-- The status is that of usage exactly where the words are of no form
pub record FitsWords (asked : Asked) (wanted : Status) : Type 0 where
  pub whole : IsWhole wanted
  pub usage : wanted ≡ status.Usage → asked.no_form
  pub usage_given : asked.no_form → wanted ≡ status.Usage

pub usage-fits : (asked : Asked) → asked.no_form → FitsWords asked status.Usage
usage-fits asked none = record { whole = tt; usage = λ _. none; usage_given = λ _. refl }

pub form-status : (asked : Asked) (bytes : List ℕ) (a : Answer) → IsCoherent asked → ¬ asked.no_form → a ≡ asked.answer bytes → IsFormStatus a.status
form-status asked bytes a coherent has_form given = subst (λ (b : Answer). IsFormStatus b.status) (sym given) (coherent.form_status has_form bytes)

pub form-whole : (asked : Asked) (bytes : List ℕ) (a : Answer) → IsCoherent asked → ¬ asked.no_form → a ≡ asked.answer bytes → IsWhole a.status
form-whole asked bytes a coherent has_form given = form_whole a.status (form-status asked bytes a coherent has_form given)

pub form-fits : (asked : Asked) (bytes : List ℕ) (a : Answer) → IsCoherent asked → ¬ asked.no_form → a ≡ asked.answer bytes → FitsWords asked a.status
form-fits asked bytes a coherent has_form given =
    record {
      whole = form-whole asked bytes a coherent has_form given;
      usage = λ e. absurd (subst IsFormStatus e (form-status asked bytes a coherent has_form given));
      usage_given = λ none. absurd (has_form none);
    }

-- The whole call

silent_apart : (s : Status) → IsSilent s → IsWhole s → ⊥
silent_apart status.Done h w = h
silent_apart status.Memory h w = w
silent_apart status.Usage h w = h
silent_apart status.SystemFault h w = h
silent_apart status.SourceFault h w = h
silent_apart status.ScriptFault h w = h
silent_apart status.ReadFault h w = w
silent_apart status.WriteFault h w = h

ended_whole : (wanted ended : Status) → IsWhole wanted → ended ≡ wanted → IsWhole ended
ended_whole wanted ended whole e = subst IsWhole (sym e) whole

not_silent : (wanted ended : Status) → IsWhole wanted → Ends wanted ended → IsSilent ended → ⊥
not_silent wanted ended whole (inl e) silent = silent_apart ended silent (ended_whole wanted ended whole e)
not_silent wanted ended whole (inr e) silent = subst IsSilent e silent

risen_shown : (faults faults_after : ℕ) (wanted ended : Status) → IsWhole wanted → Ends wanted ended → (IsWhole ended → faults_after ≡ faults) → faults < faults_after → ended ≡ status.WriteFault
risen_shown faults faults_after wanted ended whole (inl e) calm rose =
    let same : faults_after ≡ faults = calm (ended_whole wanted ended whole e) in
    absurd (omega (arith, same, rose))
risen_shown faults faults_after wanted ended whole (inr e) calm rose = e

to_usage : (wanted ended : Status) → Ends wanted ended → wanted ≡ status.Usage → Ends status.Usage ended
to_usage wanted ended (inl e) is = inl (e ∙ is)
to_usage wanted ended (inr e) is = inr e

from_usage : (wanted ended : Status) → Ends wanted ended → ended ≡ status.Usage → wanted ≡ status.Usage
from_usage wanted ended (inl e) is = sym e ∙ is
from_usage wanted ended (inr e) is = let apart : status.WriteFault ≡ status.Usage = sym e ∙ is in absurd cc

-- an answer was written, or not written whole, after the input was read that is asked for
pub finished_call : {S K : Type 0} (left_in : S → Option (List ℕ)) (read_faults : S → ℕ) (read_gives : ReadGives S) (written_to : K → Option (List ℕ)) (write_faults : K → ℕ)
    (asked : Asked) (source source_after : S) (sink sink_after : K) (ended : Status) (a : Answer) (text : List ℕ)
    → TookInput asked (left_in source) (left_in source_after)
    → ReadsAtMost read_gives asked.most_reads source source_after
    → read_faults source_after ≡ read_faults source
    → (asked.asks ≡ false → source_after ≡ source)
    → IsAnswer a asked (left_in source) → FitsWords asked a.status → text ≡ a.text
    → Finishes (written_to sink) (written_to sink_after) (write_faults sink) (write_faults sink_after) text a.status ended
    → Calls left_in read_faults read_gives written_to write_faults asked source source_after sink sink_after ended
finished_call left_in read_faults read_gives written_to write_faults asked source source_after sink sink_after ended a text took reads calm nothing is fits is_text finish =
    let ends = finish.status in
    let left = left_in source in
    record {
      answered = λ whole. Answers-given a asked left _ _ text ended is is_text ends (finish.whole whole) whole;
      part = λ failed. AnswersInPart-given a asked left _ _ text is is_text (finish.part failed);
      silent = λ silent. absurd (not_silent a.status ended fits.whole ends silent);
      left = λ _. took;
      reads = reads;
      read_fault = λ e. absurd (not_silent a.status ended fits.whole ends (subst IsSilent (sym e) tt));
      read_fault_shown = λ rose. absurd (omega (arith, rose, calm));
      write_fault = finish.fault;
      write_fault_shown = risen_shown _ _ a.status ended fits.whole ends finish.calm;
      usage = λ e. fits.usage (from_usage a.status ended ends e);
      usage_given = λ none. to_usage a.status ended ends (fits.usage_given none);
      reads_nothing = nothing;
      system_fault = came a asked left ended status.SystemFault is ends tt;
      system_fault_given = comes a asked left ended status.SystemFault is ends;
      source_fault = came a asked left ended status.SourceFault is ends tt;
      source_fault_given = comes a asked left ended status.SourceFault is ends;
      script_fault = came a asked left ended status.ScriptFault is ends tt;
      script_fault_given = comes a asked left ended status.ScriptFault is ends;
      done = came a asked left ended status.Done is ends tt;
      done_given = λ _ _ calm. comes_written a asked left ended status.Done is ends (λ failed. calm (finish.fault failed));
    }

-- of the statuses with which nothing is written
silent_unread : (s : Status) → IsSilent s → IsRead s → ⊥
silent_unread status.Done h w = h
silent_unread status.Memory h w = w
silent_unread status.Usage h w = h
silent_unread status.SystemFault h w = h
silent_unread status.SourceFault h w = h
silent_unread status.ScriptFault h w = h
silent_unread status.ReadFault h w = w
silent_unread status.WriteFault h w = h

silent_end : (s : Status) → IsSilent s → s ≢ status.Memory → s ≡ status.ReadFault
silent_end status.Memory h other = absurd (other refl)
silent_end status.ReadFault h other = refl
silent_end status.Done h other = absurd h
silent_end status.Usage h other = absurd h
silent_end status.SystemFault h other = absurd h
silent_end status.SourceFault h other = absurd h
silent_end status.ScriptFault h other = absurd h
silent_end status.WriteFault h other = absurd h

risen_read : (faults faults_after : ℕ) (ended : Status) → IsSilent ended → (ended ≡ status.Memory → faults_after ≡ faults) → faults < faults_after → ended ≡ status.ReadFault
risen_read faults faults_after ended silent memory rose =
    silent_end ended silent (λ e. let same : faults_after ≡ faults = memory e in absurd (omega (arith, same, rose)))

-- memory was wanting, or the input could not be read: words of a form ended so before anything was written
pub stopped_call : {S K : Type 0} (left_in : S → Option (List ℕ)) (read_faults : S → ℕ) (read_gives : ReadGives S) (written_to : K → Option (List ℕ)) (write_faults : K → ℕ)
    (asked : Asked) (source source_after : S) (sink : K) (ended : Status)
    → ¬ asked.no_form → IsSilent ended
    → ReadsAtMost read_gives asked.most_reads source source_after
    → (ended ≡ status.ReadFault → HasRisen (read_faults source) (read_faults source_after))
    → (ended ≡ status.Memory → read_faults source_after ≡ read_faults source)
    → (asked.asks ≡ false → source_after ≡ source)
    → Calls left_in read_faults read_gives written_to write_faults asked source source_after sink sink ended
stopped_call left_in read_faults read_gives written_to write_faults asked source source_after sink ended has_form silent reads failed memory nothing =
    record {
      answered = λ whole. absurd (silent_apart ended silent whole);
      part = λ e. absurd (subst IsSilent e silent);
      silent = λ _. refl;
      left = λ read. absurd (silent_unread ended silent read);
      reads = reads;
      read_fault = failed;
      read_fault_shown = risen_read _ _ ended silent memory;
      write_fault = λ e. absurd (subst IsSilent e silent);
      write_fault_shown = λ rose. absurd (omega (arith, rose));
      usage = λ e. absurd (subst IsSilent e silent);
      usage_given = λ none. absurd (has_form none);
      reads_nothing = nothing;
      system_fault = λ e. absurd (subst IsSilent e silent);
      system_fault_given = λ whole. absurd (silent_apart ended silent whole);
      source_fault = λ e. absurd (subst IsSilent e silent);
      source_fault_given = λ whole. absurd (silent_apart ended silent whole);
      script_fault = λ e. absurd (subst IsSilent e silent);
      script_fault_given = λ whole. absurd (silent_apart ended silent whole);
      done = λ e. absurd (subst IsSilent e silent);
      done_given = λ other calm _. absurd (calm (failed (silent_end ended silent other)));
    }
