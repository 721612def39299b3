use Rattle.std.proofs.Common.{◌≡◌, List, nat_le, subst, rules}
use Rattle.std.proofs.lemmas.List.Sorted.{IsPartitionPoint-from_clause, IsPartitionedBy-leb}
use Rattle.xs_base.specs.Numbers.{Slot}
use Rattle.pin_scripts.specs.Facts.{IsCountUntil, same_slot}
use Rattle.pin_scripts.specs.Script.{NeverFall}
use Rattle.pin_scripts.proofs.Slots.{non-decreasing}
use Rattle.pin_scripts.proofs.node_changes.NodeChanges.count_until.Goals as goal

pub returns-clause-value : goal.returns-clause-value
returns-clause-value c =
    let slot = c.args.slot in
    let list = c.deref.result.now in
    let count = c.partition_point.result in
    let inside : c.self.inside.slots.items ≡ list = cc in
    let same : list ≡ c.args.self.now.slots = cc in
    let order = non-decreasing same_slot 0 list (subst (NeverFall same_slot 0) inside c.self.invariant.1) in
    subst (λ (xs : List Slot). IsCountUntil same_slot slot xs count) same
    (IsPartitionPoint-from_clause (λ (x : Slot). nat_le x slot) list count c.partition_point.ensures.partitioned (IsPartitionedBy-leb same_slot list slot order) (λ a r f k. search rules))
