-- What contracts see of a batch of a link's entries.
use Rattle.std.specs.Prelude.{ℕ, List}
use Rattle.xs_base.specs.declared.entry.Entry.{Entry}

-- the entries in their order, and for how many more there is room
pub record BatchRec : Type 0 where
  pub entries : List Entry
  pub spare : ℕ
