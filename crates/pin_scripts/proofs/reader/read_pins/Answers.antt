use Rattle.std.proofs.Common.{◌≡◌, ◌+◌, [], List, sym, ap, ◌∙◌, subst, arith}
use Rattle.std.proofs.lemmas.Grind.{common_steps}
use Rattle.xs_text.specs.Lines.{lines_of, bytes_left}
use Rattle.pin_scripts.specs.declared.line.PinLine.{PinLine}
use Rattle.pin_scripts.specs.Pins.{Script, Fault, pins_of, pins_from}
use Rattle.pin_scripts.specs.Facts.{IsGiven, NodeChangesRec, numbers_of}
use Rattle.pin_scripts.proofs.Reading.{given-nothing, numbers-are}
use Rattle.pin_scripts.proofs.reader.read_pins.Goals as goal

pub loop-line-init : goal.loop-line-init
unfolding pins_of
loop-line-init c =
    let numbers = c.args.nodes.now in
    let none = sym c.in_ok-given.ensures.lines in
    let nodes = sym c.in_ok-given.ensures.nodes in
    let start = sym c.new-lines.ensures in
    record {
      same_text = cc;
      numbers = ap (λ (ns : List NodeChangesRec). numbers_of ns) c.in_ok-given.ensures.nodes ∙ numbers-are numbers;
      is_given = subst (λ (p : List PinLine × List NodeChangesRec). IsGiven p.0 p.1) (λ i. (none i, nodes i)) (given-nothing numbers);
      whole = λ i. pins_from numbers ((start i).number + 1) (none i) (lines_of (bytes_left (start i)));
    }

pub returns-clause-exact : goal.returns-clause-exact
unfolding pins_from lines_of
returns-clause-exact c =
    let left : bytes_left c.loop-line.lines ≡ [] = grind (arith, common_steps) in
    c.loop-line.invariant.whole
    ∙ (λ i. pins_from c.args.nodes.now (c.loop-line.lines.number + 1) c.loop-line.given.lines.items (lines_of (left i)))
    ∙ ap (λ (ls : List PinLine). Script ls) (sym c.in_ok-of.ensures)

pub returns-clause-taken : goal.returns-clause-taken
returns-clause-taken c = λ script e. let same : Script c.in_ok-of.field-0 ≡ Script script = sym (returns-clause-exact c) ∙ e in cc

pub returns-clause-refused : goal.returns-clause-refused
returns-clause-refused c = λ line kind e. let apart : Script c.in_ok-of.field-0 ≡ Fault line kind = sym (returns-clause-exact c) ∙ e in cc
