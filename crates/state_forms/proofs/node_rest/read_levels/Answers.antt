use Rattle.std.proofs.Common.{◌≡◌, ℕ, ◌^◌, length, take, Ok, sym, ap, subst, ◌∙◌, arith}
use Rattle.std.proofs.lemmas.Result.{err_from_is_err_and}
use Rattle.std.proofs.lemmas.List.{length-set, length-take-le, take_all, take_more_set}
use Rattle.xs_base.specs.Ids.{port_width}
use Rattle.byte_forms.specs.Forms.{word, below}
use Rattle.byte_forms.specs.Reading.{Refuses}
use Rattle.byte_forms.proofs.Lists.{reads_on, refuses_all, reads_all}
use Rattle.state_forms.specs.Rest.{level_after, levels}
use Rattle.state_forms.proofs.node_rest.read_levels.Goals as goal

pub returns-in_err-places : goal.returns-in_err-places
unfolding levels
returns-in_err-places c =
    let p = err_from_is_err_and c.from_residual.result c.from_residual.ensures.1 in
    let i = c.loop-port.port in
    let front = take i c.loop-port.places in
    let len : length front ≡ i = length-take-le i c.loop-port.places (omega arith) in
    let fault = c.in_err-places.field-0.0 in
    let limit : c.level_limit.result ≡ 2 ^ port_width (length front) = c.level_limit.ensures ∙ ap (λ (n : ℕ). 2 ^ port_width n) (sym len) in
    let here = subst (λ (n : ℕ). Refuses (below word n) c.loop-port.from fault) limit c.in_err-places.ensures.value in
    rw (p.1, p.2) (record { value = refuses_all level_after 29 i front c.loop-port.from c.args.from.now c.loop-port.invariant.so_far fault (omega arith) here })

pub loop-port-preserved : goal.loop-port-preserved
loop-port-preserved c =
    let i = c.loop-port.port in
    let places = c.loop-port.places in
    let front = take i places in
    let level = c.in_ok-places.field-0 in
    let len : length front ≡ i = length-take-le i places (omega arith) in
    let limit : c.level_limit.result ≡ 2 ^ port_width (length front) = c.level_limit.ensures ∙ ap (λ (n : ℕ). 2 ^ port_width n) (sym len) in
    let here = subst (λ (n : ℕ). (below word n).read c.loop-port.from ≡ Ok (level, c.read_word_below.new.self)) limit c.in_ok-places.ensures.value in
    record {
      len = length-set places i level ∙ c.loop-port.invariant.len;
      so_far = rw (take_more_set places i level (omega arith)) (reads_on level_after 29 i front c.loop-port.from c.args.from.now
          c.loop-port.invariant.so_far level c.read_word_below.new.self (omega arith) here);
    }

pub returns : goal.returns
unfolding levels
returns c =
    let i = c.loop-port.port in
    let all = reads_all level_after 29 i (take i c.loop-port.places) c.loop-port.from c.args.from.now c.loop-port.invariant.so_far (omega arith) in
    record { value = rw (take_all i c.loop-port.places (omega arith)) at all }
