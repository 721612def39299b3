-- A warning: the line that it is of, and what is doubted in it.
use Rattle.std.specs.Prelude.{ℕ, Option, Some, None, List, [], ◌∷◌}

-- a line of a node's source, counted from 1
pub record InSource : Type 0 where
  pub node : ℕ
  pub line : ℕ

-- a line: where it stands in a source, None where it is one of the frame, its number in the whole text, from 1, and its bytes
pub record Site : Type 0 where
  pub source : Option InSource
  pub number : ℕ
  pub bytes : List ℕ

-- what is most likely a mistake. Nodes are told by number, and labels and registers by name.
pub data Doubt : Type 0 where
  -- the id of a node differs from that of no other node first in this bit
  NoDifference : (node bit : ℕ) → Doubt
  -- a node has no line for this bit, in which its id differs first from that of another node, to which links lead
  NoWay : (node other bit : ℕ) → Doubt
  -- nothing keeps a thread from running off the end of the code
  CodeEnds : Doubt
  -- a label that is named has no instruction after it
  NothingBehind : (label : List ℕ) → Doubt
  LabelUnnamed : (label : List ℕ) → Doubt
  -- a resource is got into a register that nothing names
  RegisterUnnamed : (register : List ℕ) → Doubt
  -- no node has the id of this identifier of a channel end
  NoSuchId : (value : ℕ) → Doubt

pub record Warning : Type 0 where
  pub site : Site
  pub doubt : Doubt

-- what is doubted in a line, if something is
abbrev pub warn : Site → Option Doubt → List Warning
warn site None = []
warn site (Some doubt) = record { site = site; doubt = doubt } ∷ []
