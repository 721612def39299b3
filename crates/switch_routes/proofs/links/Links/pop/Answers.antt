use Rattle.std.proofs.Common.{◌∙◌, ap, sym, Some}
use Rattle.link_ends.specs.Counts.{EndCounts}
use Rattle.switch_routes.specs.Rows.{end_gap}
use Rattle.switch_routes.proofs.Rows.{gaps-set}
use Rattle.switch_routes.proofs.links.Links.pop.Goals as goal

pub returns-then-is_none-clause-gaps : goal.returns-then-is_none-clause-gaps
returns-then-is_none-clause-gaps c =
    rw c.self.view_is (gaps-set c.args.self.now c.args.end (Some c.pop.new.self) (ap (λ (w : EndCounts). w.gap) c.pop.ensures.rest ∙ sym (ap end_gap c.in-Some.ensures.cases)))

pub returns-else-is_none-clause-gaps : goal.returns-else-is_none-clause-gaps
returns-else-is_none-clause-gaps c =
    gaps-set c.args.self.now c.args.end (Some c.pop.new.self) (ap (λ (w : EndCounts). w.gap) c.pop.ensures.rest ∙ sym (ap end_gap c.in-Some.ensures.cases))
