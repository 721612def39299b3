use Rattle.std.proofs.Common.{◌≡◌, List, [], ◌∷◌, ◌++◌, map}
use Rattle.std.proofs.lemmas.Result.{err_from_is_err_and}
use Rattle.std.proofs.lemmas.List.{map_push}
use Rattle.byte_forms.specs.Forms.{Form}
use Rattle.byte_forms.proofs.Lists.{reads_on, refuses_all, reads_all}
use Rattle.state_forms.proofs.field.read_list.Goals as goal

pub returns-in_err-read : goal.returns-in_err-read
returns-in_err-read g c =
    let p = err_from_is_err_and c.from_residual.result c.from_residual.ensures.1 in
    let form : List g.T.Field.Value → Form g.T.Field.Value = λ before. g.T.Field.form in
    let refused = refuses_all form c.args.count c.loop.counter (map g.T.Field.view c.loop.elements.items) c.loop.from c.args.from.now
    c.loop.invariant c.in_err-read.field-0.0 c.loop-test.true c.in_err-read.ensures.value in
    rw (p.1, p.2) (record { value = refused })

pub loop-preserved : goal.loop-preserved
loop-preserved g c =
    let form : List g.T.Field.Value → Form g.T.Field.Value = λ before. g.T.Field.form in
    let x = c.in_ok-read.field-0 in
    let e : map g.T.Field.view c.push.new.self.items ≡ map g.T.Field.view c.loop.elements.items ++ g.T.Field.view x ∷ [] =
    rw c.in_ok-push.ensures.items (map_push g.T.Field.view c.loop.elements.items x) in
    rw e (reads_on form c.args.count c.loop.counter (map g.T.Field.view c.loop.elements.items) c.loop.from c.args.from.now
    c.loop.invariant (g.T.Field.view x) c.read.new.from c.loop-test.true c.in_ok-read.ensures.value)

pub returns : goal.returns
returns g c =
    let form : List g.T.Field.Value → Form g.T.Field.Value = λ before. g.T.Field.form in
    record { value = reads_all form c.args.count c.loop.counter (map g.T.Field.view c.loop.elements.items) c.loop.from c.args.from.now c.loop.invariant c.loop-test.false }
