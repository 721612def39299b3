use Rattle.std.proofs.Common.{ℕ, ◌≡◌, ◌<◌, List, length, map, get_or, sym, subst}
use Rattle.node_runners.specs.declared.wire_inlets.WireInlet.{WireInlet}
use Rattle.node_runners.specs.Wires.{HasLevels, wire_in, wire_after, level_by}
use Rattle.node_runners.proofs.Levels.{none-leaves, none-shows}
use Rattle.node_runners.proofs.wire_inlets.WireInlets.come.Goals as goal

pub returns-then-slot-self-clause-left : goal.returns-then-slot-self-clause-left
returns-then-slot-self-clause-left c =
    let slot = c.args.slot in
    let i = c.self.inside in
    let levels = subst HasLevels (sym c.self.view_is) c.requires.levels in
    subst (λ (ws : List WireInlet). ws ≡ map (wire_after slot) ws) c.self.view_is (sym (none-leaves slot i.next c.if-slot-self.true i.ends.items levels c.self.invariant))

pub returns-then-slot-self-clause-levels : goal.returns-then-slot-self-clause-levels
returns-then-slot-self-clause-levels c =
    let slot = c.args.slot in
    let i = c.self.inside in
    let shown = c.args.pins.now.levels in
    let levels = subst HasLevels (sym c.self.view_is) c.requires.levels in
    subst (λ (ws : List WireInlet). (k : ℕ) → k < length ws → get_or shown (wire_in ws k).port 0 ≡ level_by slot (wire_in ws k) (get_or shown (wire_in ws k).port 0)) c.self.view_is
    (λ k there. none-shows slot i.next c.if-slot-self.true i.ends.items levels c.self.invariant k there (get_or shown (wire_in i.ends.items k).port 0))
