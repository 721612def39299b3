use Rattle.std.proofs.Common.{ap, ◌∙◌}
use Rattle.net_model.specs.Ways.{Way, way_to}
use Rattle.net_model.specs.Switch.{Routes, want_way}
use Rattle.switch_routes.proofs.GoesBy.{goes-as}
use Rattle.switch_routes.proofs.work.Work.want_step.Goals as goal

pub returns-in-Here : goal.returns-in-Here
returns-in-Here c =
    goes-as 1 (λ begun m s. ap (λ (w : Way). want_way begun.routes begun.slot c.args.input c.args.dest w m)
    (c.in-Here.ensures.value ∙ ap (λ (routes : Routes). way_to routes.id routes.ways routes.nets c.args.net c.args.dest.node) s.routes)) c.want_chan.ensures

pub returns-in-Behind : goal.returns-in-Behind
returns-in-Behind c =
    goes-as 1 (λ begun m s. ap (λ (w : Way). want_way begun.routes begun.slot c.args.input c.args.dest w m)
    (c.in-Behind.ensures.value ∙ ap (λ (routes : Routes). way_to routes.id routes.ways routes.nets c.args.net c.args.dest.node) s.routes)) c.want_end.ensures
