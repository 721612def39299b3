use Rattle.std.proofs.Common.{◌≡◌, ◌++◌, drop}
use Rattle.warning_model.specs.Ways.{warnings_of_ways}
use Rattle.warning_text.specs.Kept.{site_of}
use Rattle.warning_text.proofs.ways.add_ways.Given as goal

abbrev pub invariant-loop-other : goal.invariant-loop-other
invariant-loop-other l = record {
  counted : l.place ≡ l.other-index;
  warnings : l.warnings ++ warnings_of_ways (site_of l.site) l.node l.places l.place (drop l.other-index l.others) ≡ l.initial.warnings ++ warnings_of_ways (site_of l.site) l.node l.places 0 l.others;
}
