-- What the edges of the reference clock do at plain ports.
use Rattle.std.proofs.Common.{ℕ, ◌≡◌, Bool, cond, ap, ◌∙◌}
use Rattle.std.proofs.lemmas.Bool.{cond-false}
use Rattle.xs_model.specs.Record.{PortRec}
use Rattle.xs_model.specs.Ports.{rises, lets_sample, sampled, samples_buffered, samples, takes_by_time, takes_level, is_met, emptied, level_of}
use Rattle.single_port.specs.Keeps.{IsPlain}

-- they take the level
pub plain_rises : (width level : ℕ) (high : Bool) (port : PortRec) → IsPlain port → rises width level high port ≡ takes_level width level port
plain_rises width level high port plain =
    cond-false port.output port _ plain.output
    ∙ ap (λ strobe. cond (lets_sample strobe high) (sampled width level port) port) plain.strobe
    ∙ cond-false port.buffered (samples_buffered width level port) (samples width level port) plain.buffered
    ∙ cond-false port.held port (takes_by_time width level port port.time) plain.held
    ∙ ap (takes_by_time width level port) plain.time
    ∙ ap (λ condition. cond (is_met condition port.value level) (takes_level width level port) (emptied port)) plain.condition

-- whose level is that from outside, since they drive nothing
pub plain_level : (width outside : ℕ) (high : Bool) (port : PortRec) → IsPlain port → rises width (level_of port.driven outside) high port ≡ takes_level width outside port
plain_level width outside high port plain =
    ap (λ driven. rises width (level_of driven outside) high port) plain.driven ∙ plain_rises width outside high port plain
