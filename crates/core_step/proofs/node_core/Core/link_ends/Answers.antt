use Rattle.std.proofs.Common.{sym, subst, ◌∙◌}
use Rattle.xs_model.specs.Record.{NodeRec}
use Rattle.core_step.specs.Core.{CoreValue, StandsFor}
use Rattle.core_step.proofs.Said.{ends_are}
use Rattle.core_step.proofs.node_core.Core.link_ends.Goals as goal

pub returns : goal.returns
returns c =
    λ rec for.
    c.ends.ensures ∙ ends_are c.self.inside.network.links rec.links (subst (λ (v : CoreValue). StandsFor v rec) (sym c.self.view_is) for).links
