use Rattle.std.proofs.Common.{◌≡◌, List, nat_le, subst, rules}
use Rattle.std.proofs.lemmas.List.Sorted.{IsPartitionPoint-from_clause, IsPartitionedBy-leb}
use Rattle.pin_scripts.specs.declared.line.Change.{Change}
use Rattle.pin_scripts.specs.Facts.{IsCountUntil, slot_of_change}
use Rattle.pin_scripts.specs.Script.{NeverFall}
use Rattle.pin_scripts.proofs.Slots.{non-decreasing}
use Rattle.pin_scripts.proofs.changes.PinChanges.count_until.Goals as goal

pub returns-clause-value : goal.returns-clause-value
returns-clause-value c =
    let slot = c.args.slot in
    let list = c.deref.result.now in
    let count = c.partition_point.result in
    let inside : c.self.inside.changes.items ≡ list = cc in
    let same : list ≡ c.args.self.now = cc in
    let order = non-decreasing slot_of_change 0 list (subst (NeverFall slot_of_change 0) inside c.self.invariant) in
    subst (λ (xs : List Change). IsCountUntil slot_of_change slot xs count) same
    (IsPartitionPoint-from_clause (λ (x : Change). nat_le x.slot slot) list count c.partition_point.ensures.partitioned (IsPartitionedBy-leb slot_of_change list slot order) (λ a r f k. search rules))
