use Rattle.std.proofs.Common.{◌≡◌, List, ℕ, refl, ap, sym, ◌∙◌, subst, arith}
use Rattle.std.proofs.lemmas.Grind.{common_steps}
use Rattle.net_model.specs.Switch.{Routes}
use Rattle.core_step.specs.Core.{SentBefore}
use Rattle.core_step.specs.Network.{NetworkRec, routes_of}
use Rattle.core_step.proofs.Boot.{stands_at_start, sent_before_start, gaps_of_start}
use Rattle.core_step.proofs.node_core.Core.boot.Goals as goal

pub returns-clause-fixed : goal.returns-clause-fixed
returns-clause-fixed c =
    let plan = c.args.plan.now in
    let routes : routes_of c.new-3.result ≡ record { id = plan.id; ways = plan.ways; nets = plan.nets; gaps = c.args.gaps.now } =
    ap routes_of c.new-3.ensures ∙ ap (λ (gaps : List ℕ). let r : Routes = record { id = plan.id; ways = plan.ways; nets = plan.nets; gaps = gaps } in r) (gaps_of_start c.args.gaps.now)
    in
    grind (arith, common_steps, routes)

pub returns-clause-start : goal.returns-clause-start
returns-clause-start c =
    stands_at_start _ c.args.plan.now c.args.gaps.now (grind (arith, common_steps)) refl (ap (λ (n : NetworkRec). n.switch.inputs) c.new-3.ensures) (ap (λ (n : NetworkRec). n.links) c.new-3.ensures)

pub returns-clause-before : goal.returns-clause-before
returns-clause-before c = subst (SentBefore 0) (sym (ap (λ (n : NetworkRec). n.links) c.new-3.ensures)) (sent_before_start c.args.gaps.now)
