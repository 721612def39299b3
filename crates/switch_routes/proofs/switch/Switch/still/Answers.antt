use Rattle.std.proofs.Common.{◌≡◌, false, true, not, refl, sym, ap, ◌∙◌}
use Rattle.xs_model.specs.Record.{NodeRec}
use Rattle.quiet_model.specs.Still.{network_is_still}
use Rattle.switch_routes.specs.Rows.{AllCountsOf}
use Rattle.switch_routes.specs.Switch.{known_routes}
use Rattle.switch_routes.proofs.StillNetwork.{still-by-parts, network-rests}
use Rattle.switch_routes.proofs.switch.Switch.still.Goals as goal
use Rattle.switch_routes.proofs.switch.Switch.still.Goals.{After-some_alone}

pub returns-then-is_sending-clause-value : goal.returns-then-is_sending-clause-value
returns-then-is_sending-clause-value c =
    let sends = sym c.if-is_sending.true ∙ c.is_sending.ensures.value in
    λ rec i h l. still-by-parts rec c.args.chans.now c.args.links.now c.args.self.now.inputs true _ _ i h l sends refl refl

pub returns-else-not-some_wait-clause-value : goal.returns-else-not-some_wait-clause-value
returns-else-not-some_wait-clause-value c =
    let sends = sym c.if-is_sending.false ∙ c.is_sending.ensures.value in
    let waits = sym c.if-not-some_wait.false ∙ c.some_wait.ensures.value in
    λ rec i h l. ap not c.if-not-some_wait.false ∙ still-by-parts rec c.args.chans.now c.args.links.now c.args.self.now.inputs false true _ i h l sends waits refl

-- no token waits
no_token : (c : After-some_alone) → (rec : NodeRec)
    → c.args.self.now.inputs ≡ rec.inputs → c.args.chans.now ≡ rec.core.chans → AllCountsOf c.args.links.now rec.links
    → not c.some_alone.result ≡ network_is_still rec.core.chans rec.links rec.inputs
no_token c =
    let sends = sym c.if-is_sending.false ∙ c.is_sending.ensures.value in
    let waits = sym c.if-not-some_wait.true ∙ c.some_wait.ensures.value in
    let acts = c.some_alone.ensures.value in
    rw (← c.self.view_is) (λ rec i h l. still-by-parts rec c.args.chans.now c.args.links.now c.self.inside.inputs false false _ i h l sends waits acts)

pub returns-then-not-some_wait-clause-value : goal.returns-then-not-some_wait-clause-value
returns-then-not-some_wait-clause-value c = no_token (goal.at.returns-then-not-some_wait-clause-value c).After-some_alone

pub returns-then-not-some_wait-clause-rests : goal.returns-then-not-some_wait-clause-rests
returns-then-not-some_wait-clause-rests c =
    let value = no_token (goal.at.returns-then-not-some_wait-clause-rests c).After-some_alone in
    λ is slot m s. network-rests (known_routes c.args.self.now c.args.links.now) slot m (sym (value m.rec s.inputs s.chans s.links) ∙ is)
