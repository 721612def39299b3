-- The lines of the section `play` as the reader takes them.
use Rattle.std.specs.Prelude.{nat_le, Option, Some, None, option_map, Result, Err}
use Rattle.system_model.specs.declared.SysKind.{SysKind}
use Rattle.system_model.specs.declared.SysKind.TheVariants.{BadLine}
use Rattle.system_model.specs.declared.frame_line.EndName.{EndName}
use Rattle.system_model.specs.declared.frame_line.FrameLine.{FrameLine}
use Rattle.system_model.specs.declared.frame_line.FrameLine.TheVariants.{Step}
use Rattle.system_model.specs.declared.frame_line.PlayLine.{PlayLine}
use Rattle.system_text.specs.Forms.{ranged, formed}

-- a step by its form
abbrev pub stepped : Option PlayLine → Result FrameLine SysKind
stepped o = formed (option_map Step o)

-- the end of a step by its name
abbrev pub named : Option EndName → Result EndName SysKind
named None = Err BadLine
named (Some name) = ranged (nat_le name.node 99) name
