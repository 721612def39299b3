use Rattle.std.proofs.Common.{sym, ◌∙◌, arith}
use Rattle.std.proofs.lemmas.Bool.Decides.{nat_tests}
use Rattle.system_text.proofs.FormNames.{node_named, link_named, bit_named, wire_named, source_named, pins_named, play_named, other_named, no_words}
use Rattle.system_text.proofs.Lists.{suffix}
use Rattle.system_text.proofs.frame_lines.form_of.Goals as goal

pub returns-in_default : goal.returns-in_default
returns-in_default c = no_words c.args.edition c.args.words.now (grind (arith, nat_tests))

pub returns-then-same_name : goal.returns-then-same_name
returns-then-same_name c = node_named c.args.edition c.args.words.now _ _ (suffix c.args.words.now 1) (grind (arith, nat_tests)) (sym c.same_name.ensures.value ∙ c.if-same_name.true) c.node_line.ensures

pub returns-then-same_name-2 : goal.returns-then-same_name-2
returns-then-same_name-2 c = link_named c.args.edition c.args.words.now _ _ (suffix c.args.words.now 1) (grind (arith, nat_tests))
    (sym c.same_name-else-same_name.ensures.value ∙ c.if-same_name-2.true) c.link_line.ensures

pub returns-then-same_name-3 : goal.returns-then-same_name-3
returns-then-same_name-3 c = bit_named c.args.edition c.args.words.now _ _ (suffix c.args.words.now 1) (grind (arith, nat_tests))
    (sym c.same_name-else-same_name-2.ensures.value ∙ c.if-same_name-3.true) c.bit_line.ensures

pub returns-then-same_name-4 : goal.returns-then-same_name-4
returns-then-same_name-4 c = wire_named c.args.edition c.args.words.now _ _ (suffix c.args.words.now 1) (grind (arith, nat_tests))
    (sym c.same_name-else-same_name-3.ensures.value ∙ c.if-same_name-4.true) c.wire_line.ensures

pub returns-then-same_name-5 : goal.returns-then-same_name-5
returns-then-same_name-5 c = source_named c.args.edition c.args.words.now _ _ (suffix c.args.words.now 1) (grind (arith, nat_tests))
    (sym c.same_name-else-same_name-4.ensures.value ∙ c.if-same_name-5.true) c.source_line.ensures

pub returns-then-same_name-6 : goal.returns-then-same_name-6
returns-then-same_name-6 c = pins_named c.args.edition c.args.words.now _ _ (suffix c.args.words.now 1) (grind (arith, nat_tests))
    (sym c.same_name-else-same_name-5.ensures.value ∙ c.if-same_name-6.true) c.pins_line.ensures

pub returns-then-same_name-7 : goal.returns-then-same_name-7
returns-then-same_name-7 c = play_named c.args.edition c.args.words.now _ _ (suffix c.args.words.now 1) (grind (arith, nat_tests))
    (sym c.same_name-else-same_name-6.ensures.value ∙ c.if-same_name-7.true) c.play_line.ensures

pub returns-else-same_name-7 : goal.returns-else-same_name-7
returns-else-same_name-7 c =
    other_named c.args.edition c.args.words.now (grind (arith, nat_tests)) (sym c.same_name.ensures.value ∙ c.if-same_name.false)
    (sym c.same_name-else-same_name.ensures.value ∙ c.if-same_name-2.false) (sym c.same_name-else-same_name-2.ensures.value ∙ c.if-same_name-3.false)
    (sym c.same_name-else-same_name-3.ensures.value ∙ c.if-same_name-4.false) (sym c.same_name-else-same_name-4.ensures.value ∙ c.if-same_name-5.false)
    (sym c.same_name-else-same_name-5.ensures.value ∙ c.if-same_name-6.false) (sym c.same_name-else-same_name-6.ensures.value ∙ c.if-same_name-7.false)
