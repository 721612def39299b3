-- The words of a line as the reader keeps them.
use Rattle.std.specs.Prelude.{ℕ, List, map}
use Rattle.system_text.specs.declared.words.Word.{Word}

-- the bytes of each word
abbrev pub bytes_of : List Word → List (List ℕ)
bytes_of words = map (λ (word : Word). word.bytes.now) words
