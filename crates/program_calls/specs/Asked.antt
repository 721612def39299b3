-- What words ask of a program, and what is answered to them.
use Rattle.std.specs.Prelude.{ℕ, ◌≡◌, ◌<◌, Bool, true, false, min, Option, Some, None, List, length, take}
use Rattle.answer_model.specs.declared.Answer.{Answer}
use Rattle.answer_model.specs.declared.Status.{Status}
use Rattle.answer_model.specs.declared.Status.TheVariants as status

-- What words ask, and what is answered.
pub record Asked : Type 1 where
  -- that the words are of no form, and the line that is written then
  pub no_form : Type 0
  pub usage : List ℕ
  -- whether the input is asked for; how many bytes of it are taken at most, and how many reads are made at most
  pub asks : Bool
  pub most : ℕ
  pub most_reads : ℕ
  -- what is answered to the bytes of the input
  pub answer : List ℕ → Answer

-- how many bytes of the input are taken: all, or as many as are taken at most
abbrev pub taken : Asked → List ℕ → ℕ
taken asked input = min (length input) asked.most

-- at most so many bytes of the input are asked for, or nothing of it
abbrev pub AsksFor : Asked → Option ℕ → Type 0
AsksFor asked (Some most) = (asked.asks ≡ true) × (asked.most ≡ most)
AsksFor asked None = asked.asks ≡ false

-- a status of the answer of a form: it was done, or a text was refused
abbrev pub IsFormStatus : Status → Type 0
IsFormStatus status.Done = Unit {0}
IsFormStatus status.Memory = ⊥
IsFormStatus status.Usage = ⊥
IsFormStatus status.SystemFault = Unit {0}
IsFormStatus status.SourceFault = Unit {0}
IsFormStatus status.ScriptFault = Unit {0}
IsFormStatus status.ReadFault = ⊥
IsFormStatus status.WriteFault = ⊥

-- What is asked and what is answered go together. This is what a program proves of its words.
pub record IsCoherent (asked : Asked) : Type 0 where
  -- what is answered to the bytes that are taken is what is answered to the whole input
  pub enough : (input : List ℕ) → asked.answer (take (taken asked input) input) ≡ asked.answer input
  -- words of a form are answered by a status of forms, others by the usage line, and these don't ask for the input
  pub form_status : ¬ asked.no_form → (input : List ℕ) → IsFormStatus (asked.answer input).status
  pub refused : asked.no_form → (input : List ℕ) → asked.answer input ≡ record { text = asked.usage; status = status.Usage }
  pub unasked : asked.no_form → asked.asks ≡ false
  -- nothing is taken that isn't asked for, and what is asked for is something, which takes at most as many reads as bytes
  pub nothing : asked.asks ≡ false → asked.most ≡ 0
  pub some : asked.asks ≡ true → 0 < asked.most
  pub reads : asked.asks ≡ true → asked.most_reads ≡ asked.most
  pub some_reads : 0 < asked.most_reads
