use Rattle.std.proofs.Common.{◌≡◌, ◌+◌, List, [], ◌∷◌, ◌++◌, length, map, take, set, Ok, subst, ap, ◌∙◌, arith}
use Rattle.std.proofs.lemmas.Result.{err_from_is_err_and}
use Rattle.std.proofs.lemmas.List.{length-set, map_push, take_all, take_more_set}
use Rattle.byte_forms.specs.Forms.{Form, read_chain}
use Rattle.byte_forms.proofs.Lists.{reads_on, refuses_all, reads_all}
use Rattle.state_forms.proofs.field.read_places.Goals as goal

pub returns-in_err-places : goal.returns-in_err-places
returns-in_err-places g c =
    let p = err_from_is_err_and c.from_residual.result c.from_residual.ensures.1 in
    let form : List g.T.Field.Value → Form g.T.Field.Value = λ before. g.T.Field.form in
    let refused = refuses_all form (length c.args.places.now) c.loop-at.at (map g.T.Field.view (take c.loop-at.at c.loop-at.places)) c.loop-at.from c.args.from.now
    c.loop-at.invariant.so_far c.in_err-places.field-0.0 (omega arith) c.in_err-places.ensures.value in
    rw (p.1, p.2) (record { value = refused })

pub loop-at-preserved : goal.loop-at-preserved
loop-at-preserved g c =
    let form : List g.T.Field.Value → Form g.T.Field.Value = λ before. g.T.Field.form in
    let x = c.in_ok-places.field-0 in
    let places = c.loop-at.places in
    let at = c.loop-at.at in
    let e : map g.T.Field.view (take (at + 1) (set places at x)) ≡ map g.T.Field.view (take at places) ++ g.T.Field.view x ∷ [] =
    ap (map g.T.Field.view) (take_more_set places at x (omega arith)) ∙ map_push g.T.Field.view (take at places) x in
    record {
      len = length-set places at x ∙ c.loop-at.invariant.len;
      so_far = rw e (reads_on form (length c.args.places.now) at (map g.T.Field.view (take at places)) c.loop-at.from c.args.from.now
          c.loop-at.invariant.so_far (g.T.Field.view x) c.read.new.from (omega arith) c.in_ok-places.ensures.value);
    }

pub returns : goal.returns
returns g c =
    let form : List g.T.Field.Value → Form g.T.Field.Value = λ before. g.T.Field.form in
    let n = length c.args.places.now in
    let all = reads_all form n c.loop-at.at (map g.T.Field.view (take c.loop-at.at c.loop-at.places)) c.loop-at.from c.args.from.now c.loop-at.invariant.so_far (omega arith) in
    record {
      value = subst (λ (xs : List g.row.T.Denot). read_chain form n [] c.args.from.now ≡ Ok (map g.T.Field.view xs, c.loop-at.from))
          (take_all c.loop-at.at c.loop-at.places (omega arith)) all;
    }
