use Rattle.std.proofs.Common.{◌∙◌, ℕ, List, sym, ap, arith}
use Rattle.std.specs.Prelude.{slice_index}
use Rattle.xs_base.specs.declared.token.Token.{Token}
use Rattle.switch_routes.proofs.GoesBy.{goes-then, goes-as, goes-nowhere, waits}
use Rattle.xs_model.specs.Record.{InputRec}
use Rattle.net_model.specs.Switch.{Routes, head_step, head_token, after_header, net_of_end, take_first, to_state}
use Rattle.switch_routes.specs.declared.ways.Ways.{Ways}
use Rattle.switch_routes.specs.Inputs.{state_of}
use Rattle.switch_routes.proofs.work.Work.head_step.Goals as goal

pub returns-in-Byte : goal.returns-in-Byte
returns-in-Byte c =
    let i = c.args.input in
    let state = state_of c.args.state in
    goes-as 0 (λ begun m s.
    ap (λ (after : InputRec). to_state i after (take_first i m))
    (c.after_header.ensures.value
    ∙ ap (λ (net : ℕ). after_header net state c.in-Byte.byte)
    (c.net_of_end-net.ensures.value
    ∙ ap (λ (ways : Ways). slice_index ways.nets i) c.take_first.ensures.goes.on.ways
    ∙ ap (λ (routes : Routes). net_of_end routes i) s.routes))
    ∙ sym (ap (λ (t : Token). head_token begun.routes i state t m) c.in-Byte.is)
    ∙ sym (ap (λ (ts : List Token). head_step begun.routes i state ts m) (sym (waits begun c.args.self.now m s i) ∙ c.in-Some.ensures.cases)))
    (goes-then 0 0 0 (omega arith) c.take_first.ensures.goes c.set.ensures)

pub returns-in-Ctrl : goal.returns-in-Ctrl
returns-in-Ctrl c =
    let i = c.args.input in
    let state = state_of c.args.state in
    goes-as 0 (λ begun m s.
    sym (ap (λ (t : Token). head_token begun.routes i state t m) c.in-Ctrl.is)
    ∙ sym (ap (λ (ts : List Token). head_step begun.routes i state ts m) (sym (waits begun c.args.self.now m s i) ∙ c.in-Some.ensures.cases)))
    c.take_first.ensures.goes

pub returns-in_default : goal.returns-in_default
returns-in_default c =
    let i = c.args.input in
    goes-as 0 (λ begun m s. sym (ap (λ (ts : List Token). head_step begun.routes i (state_of c.args.state) ts m) (sym (waits begun c.args.self.now m s i) ∙ c.in_default.ensures.cases)))
    (goes-nowhere 0 c.args.self.now)
