-- The table of names.
use Rattle.std.specs.Prelude.{ℕ, ◌≡◌, List, [], ◌∷◌, length, take}
use Rattle.xs_instructions.specs.Image.{Symbol}
use Rattle.source_model.specs.declared.layout.Place.{Place}
use Rattle.source_model.specs.Layout.{Label}

-- labels in the order of their definition, and the number that the hash of their names takes first
pub record NameTable : Type 0 where
  pub labels : List Label
  pub key : ℕ

-- symbols that have no addresses yet, each with its place
abbrev pub labels_at : List Symbol → List Place → List Label
labels_at [] places = []
labels_at (s ∷ symbols) [] = []
labels_at (s ∷ symbols) (place ∷ places) = (s.0, place) ∷ labels_at symbols places

-- the labels that stand in front of others
abbrev pub IsFront : List Label → List Label → Type 0
IsFront front labels = take (length front) labels ≡ front
