use Rattle.std.proofs.Common.{◌≡◌, ℕ, List, Ok, subst, arith}
use Rattle.byte_forms.specs.Forms.{AreBytes}
use Rattle.byte_forms.proofs.Steps.{bytes_after}
use Rattle.snap_codec.specs.Snaps.{head}
use Rattle.snap_codec.proofs.Heads.{head-lawful}
use Rattle.snap_codec.proofs.snap.read_all.Goals as goal

pub read_after-requires-clause-text : goal.read_after-requires-clause-text
read_after-requires-clause-text c =
    let text = c.in-Ok.text.now in
    let rest = c.read_head.new.from in
    let fit : AreBytes c.args.bytes.now = λ i. omega (arith, c.type_inv.bytes i) in
    let e = subst (λ (bytes : List ℕ). head.read bytes ≡ Ok (text, rest)) c.new-from.ensures.value c.in-Ok.ensures.value in
    (head-lawful.found c.args.bytes.now text rest fit e).1

pub read_after-requires-clause-bytes : goal.read_after-requires-clause-bytes
read_after-requires-clause-bytes c =
    let text = c.in-Ok.text.now in
    let rest = c.read_head.new.from in
    let fit : AreBytes c.args.bytes.now = λ i. omega (arith, c.type_inv.bytes i) in
    let e = subst (λ (bytes : List ℕ). head.read bytes ≡ Ok (text, rest)) c.new-from.ensures.value c.in-Ok.ensures.value in
    bytes_after c.args.bytes.now (head.write text) rest fit (head-lawful.found c.args.bytes.now text rest fit e).0
