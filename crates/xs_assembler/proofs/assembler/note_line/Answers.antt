use Rattle.std.proofs.Common.{refl}
use Rattle.xs_assembler.proofs.Passing.{noted_fits}
use Rattle.xs_assembler.proofs.assembler.note_line.Goals as goal

pub note-requires : goal.note-requires
note-requires c = noted_fits c.args.bytes.now c.args.sofar.now.layout _ c.requires.before c.requires.little refl
