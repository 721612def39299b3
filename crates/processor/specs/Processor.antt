-- What a processor knows.
use Rattle.std.specs.Prelude.{IfSome}
use Rattle.core_waits.specs.Parts.{AreAble}
use Rattle.processor.specs.declared.processor.Processor.TheInside.{Inside}

-- where it is known which threads are able, it is those
abbrev pub IsProcessor : Inside → Type 0
IsProcessor p = IfSome p.able (AreAble p.units)
