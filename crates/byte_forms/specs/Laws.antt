-- What makes a form serve for reading and writing alike.
use Rattle.std.specs.Prelude.{ℕ, ◌≡◌, ◌≤◌, List, ◌++◌, length, Ok, Err}
use Rattle.byte_forms.specs.Forms.{Form, AreBytes}

pub record Lawful {A : Type 0} (f : Form A) : Type 0 where
  -- what is read was written by the form, and has it
  pub found : (bytes : List ℕ) (a : A) (rest : List ℕ) → AreBytes bytes → f.read bytes ≡ Ok (a, rest) → (bytes ≡ f.write a ++ rest) × f.Holds a
  -- what has the form and is written is read again, whatever follows
  pub again : (a : A) (rest : List ℕ) → f.Holds a → f.read (f.write a ++ rest) ≡ Ok (a, rest)
  -- what is refused is refused within the bytes
  pub within : (bytes : List ℕ) (left : ℕ) → AreBytes bytes → f.read bytes ≡ Err left → left ≤ length bytes
