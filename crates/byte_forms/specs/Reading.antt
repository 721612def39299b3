-- What a reader of the code answers.
use Rattle.std.specs.Prelude.{ℕ, ◌≡◌, List, Result, Ok, Err}
use Rattle.byte_forms.specs.declared.fault.Fault.{Fault}
use Rattle.byte_forms.specs.declared.fault.Fault.TheVariants.{Memory, Wrong}
use Rattle.byte_forms.specs.Forms.{Form}

-- the fault is the form's, or want of memory
abbrev pub Refuses : {A : Type 0} → Form A → List ℕ → Fault → Type 0
Refuses form bytes Memory = Unit {0}
Refuses form bytes (Wrong left) = form.read bytes ≡ Err left

-- The answer, seen by `view`, is what the form reads from the bytes, which leaves `rest`.
abbrev pub Gives : {X A : Type 0} → Form A → (X → A) → List ℕ → Result X Fault → List ℕ → Type 0
Gives form view bytes (Ok x) rest = form.read bytes ≡ Ok (view x, rest)
Gives form view bytes (Err fault) rest = Refuses form bytes fault
