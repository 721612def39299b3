use Rattle.std.proofs.Common.{◌≡◌, ◌≤◌, length, arith}
use Rattle.xs_instructions.specs.Code.{place_address}
use Rattle.source_model.specs.Canonical.{first_name_at}
use Rattle.xs_printer.proofs.Leads.{within, named}
use Rattle.xs_printer.proofs.statement.append_place.Goals as goal

pub bounds-firsts-place : goal.bounds-firsts-place
bounds-firsts-place c =
    let image = c.args.image.now in
    let p : c.args.place ≤ length image.code = c.labels_stand_in_their_parts.ensures.within image c.args.place c.requires.image c.requires.target in
    omega (arith, p, c.requires.firsts.count)

pub label-requires : goal.label-requires
label-requires c =
    let image = c.args.image.now in
    let p : c.args.place ≤ length image.code = c.labels_stand_in_their_parts.ensures.within image c.args.place c.requires.image c.requires.target in
    within image.symbols (place_address c.args.place) (c.labels_stand_in_order.ensures.here _ image.symbols c.requires.image.order) c.requires.target _ (c.requires.firsts.each c.args.place (omega (arith, p)))

pub returns : goal.returns
returns c =
    let image = c.args.image.now in
    let p : c.args.place ≤ length image.code = c.labels_stand_in_their_parts.ensures.within image c.args.place c.requires.image c.requires.target in
    let e : c.label.result.0.now ≡ first_name_at image.symbols (place_address c.args.place) =
    named image.symbols (place_address c.args.place) (c.labels_stand_in_order.ensures.here _ image.symbols c.requires.image.order) c.requires.target _ (c.requires.firsts.each c.args.place (omega (arith, p))) _ c.label.ensures in
    rw (c.as_bytes.ensures.value, e) at c.append.ensures.ok
