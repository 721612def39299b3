-- What a text stands for.
use Rattle.std.specs.Prelude.{◌≡◌, ℕ, List}
use Rattle.xs_instructions.specs.Image.{ImageRec}
use Rattle.source_model.specs.Source.{Image, assembled}

-- the text is a source without faults, and stands for the image
abbrev pub TextStandsFor : List ℕ → ImageRec → Type 0
TextStandsFor text image = assembled text ≡ Image image
