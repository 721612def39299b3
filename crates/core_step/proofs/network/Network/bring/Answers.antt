use Rattle.std.proofs.Common.{◌≡◌, ℕ, List, [], sym, ap, ◌∙◌, subst}
use Rattle.xs_model.specs.Record.{ChanRec}
use Rattle.net_model.specs.Links.{arrive}
use Rattle.net_model.specs.Switch.{Routes}
use Rattle.switch_routes.specs.Rows.{SentBy}
use Rattle.switch_routes.specs.Switch.{known_routes, StandsIn}
use Rattle.core_step.specs.Network.{NetworkRec, NetworkStands, Brings, routes_of}
use Rattle.core_step.proofs.Phases.{arrives}
use Rattle.core_step.proofs.network.Network.bring.Goals as goal
use Rattle.core_step.proofs.network.Network.bring.Goals.{After-moves}

pub returns-then-still-clause-sent : goal.returns-then-still-clause-sent
returns-then-still-clause-sent c = λ sent.
    c.take_in.ensures.sent c.args.slot (subst (λ (n : NetworkRec). SentBy c.args.slot n.links) (sym c.self.view_is) sent)

pub returns-clause-sent : goal.returns-clause-sent
returns-clause-sent c = λ sent.
    c.moves.ensures.sent (c.take_in.ensures.sent c.args.slot (subst (λ (n : NetworkRec). SentBy c.args.slot n.links) (sym c.self.view_is) sent))

-- the switch moves by the routes that were known before anything arrived
its_routes : (c : After-moves) → known_routes c.self.inside.switch c.take_in.new.links ≡ routes_of c.args.self.now
its_routes c =
    ap (λ (gaps : List ℕ). let r : Routes = record { id = c.self.inside.switch.id; ways = c.self.inside.switch.ways; nets = c.self.inside.switch.nets; gaps = gaps } in r) c.take_in.ensures.gaps
    ∙ ap routes_of c.self.view_is

pub returns-clause-brings : goal.returns-clause-brings
returns-clause-brings c = λ m at.
    let slot = c.args.slot in
    let before = subst (λ (n : NetworkRec). NetworkStands slot n c.args.units.now.chans c.args.out.now m) (sym c.self.view_is) at in
    let there =
    arrives slot c.args.arrivals.now c.self.inside.switch c.args.units.now.chans c.self.inside.links c.take_in.new.links m (c.take_in.ensures.stands slot) (c.take_in.ensures.credited slot) before.parts
    in
    let w = arrive slot c.args.arrivals.now m in
    let lent = subst (λ (chans : List ChanRec). StandsIn slot c.self.inside.switch chans c.take_in.new.links w.rec) (sym c.chans_mut.ensures.value) there in
    subst (λ (routes : Routes). Brings slot c.args.arrivals.now routes (record { switch = c.moves.new.self; links = c.moves.new.links }) c.moves.new.chans c.moves.new.out m) (its_routes (goal.at.returns-clause-brings c).After-moves)
    (record {
      stands = record { parts = c.moves.ensures.stands [] w lent before.emitted; emitted = c.moves.ensures.emitted [] w lent before.emitted };
      rest = c.moves.ensures.rest [] w lent before.emitted;
    })
