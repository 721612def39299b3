use Rattle.std.proofs.Common.{◌≡◌, ◌+◌, ◌<◌, ◌≤◌, length, vec_len, arith, ◌∙◌}
use Rattle.std.proofs.lemmas.List.{length-take}
use Rattle.std.specs.Io.KnownBytes.{Consumes}
use Rattle.program_calls.proofs.Pieces.{Consumes-longer, taken_full, taken_whole, left_none}
use Rattle.program_calls.proofs.RowsOfReads.{Reading-more}
use Rattle.program_calls.proofs.input.read_through.Goals as goal

pub returns-then-count-eq0-clause-front : goal.returns-then-count-eq0-clause-front
returns-then-count-eq0-clause-front g c =
    taken_whole c.args.most _ _ c.loop-bytes.bytes.items c.loop-bytes.invariant.1
    (left_none _ _ c.if-count-eq0.true (c.in_ok-count.ensures.end (omega (arith, length-take c.min-fits.result c.loop-bytes.buffer))))
    (omega (arith, c.loop-bytes.bytes.ok.0))

pub loop-bytes-preserved : goal.loop-bytes-preserved
loop-bytes-preserved g c =
    let had = c.loop-bytes.invariant in
    let took : Consumes (g.S.Source.left c.args.source.now) (g.S.Source.left c.read.new.self) c.extend_from_slice.new.self.items =
    Consumes-longer _ _ _ _ _ _ had.1 c.in_ok-count.ensures.bytes c.in_ok-extend_from_slice.ensures.items in
    let longer : vec_len c.extend_from_slice.new.self ≡ vec_len c.loop-bytes.bytes + c.in_ok-count.count =
    omega (arith, c.in_ok-extend_from_slice.ensures.len, length-take c.in_ok-count.count c.read.new.buf, c.in_ok-count.ensures.fits) in
    let some : 0 < length c.read.new.buf = omega (arith, c.read.auto.buf, c.in_ok-count.ensures.fits, length-take c.min-fits.result c.loop-bytes.buffer) in
    let fits : vec_len c.loop-bytes.bytes + length c.read.new.buf ≤ c.args.most =
    omega (arith, c.read.auto.buf, length-take c.min-fits.result c.loop-bytes.buffer) in
    let reads = Reading-more g.S.Source.read_gives c.args.most (vec_len c.loop-bytes.bytes) c.in_ok-count.count (vec_len c.extend_from_slice.new.self) _ _ _ had.3 (omega arith) longer (length c.read.new.buf, some, fits, c.in_ok-count.ensures.fits, c.in_ok-count.ensures.gives) in
    (omega (arith, c.in_ok-count.ensures.fits, length-take c.min-fits.result c.loop-bytes.buffer), took, c.in_ok-count.ensures.calm ∙ had.2, reads)

pub returns-clause-front : goal.returns-clause-front
returns-clause-front g c =
    taken_full c.args.most _ _ c.loop-bytes.bytes.items c.loop-bytes.invariant.1 (omega (arith, c.loop-bytes.bytes.ok.0))
