use Rattle.std.proofs.Common.{◌≡◌, List, length, map, take, ap, sym, ◌∙◌, arith}
use Rattle.std.proofs.lemmas.List.{take_all}
use Rattle.pin_scripts.specs.declared.line.Change.{Change}
use Rattle.pin_scripts.specs.Facts.{NodeChangesRec}
use Rattle.pin_scripts.specs.Script.{shown}
use Rattle.pin_scripts.proofs.node_changes.NodeChanges.show.Goals as goal

pub returns-clause-value : goal.returns-clause-value
returns-clause-value c =
    let pins = c.args.self.now.pins in
    let port = c.loop-port.port in
    let level = c.loop-port.out.level in
    let count : length pins ≡ 29 = ap (λ (n : NodeChangesRec). length n.pins) (sym c.self.view_is) ∙ c.self.invariant.0 in
    let whole : take port pins ≡ pins = take_all port pins (omega (arith, count)) in
    let all : take port level ≡ level = take_all port level (omega (arith, c.loop-port.invariant.all)) in
    sym all ∙ c.loop-port.invariant.shown_so_far ∙ ap (λ (xs : List (List Change)). map (λ (changes : List Change). shown changes c.args.slot) xs) whole
