use Rattle.std.proofs.Common.{◌<◌, length, arith}
use Rattle.std.proofs.lemmas.Grind.{common_steps}
use Rattle.pin_scripts.proofs.Reading.{last-slot}
use Rattle.pin_scripts.proofs.reader.last_slot.Goals as goal

pub returns-else-is_empty : goal.returns-else-is_empty
returns-else-is_empty c =
    let some : 0 < length c.args.lines.now = grind (arith, common_steps) in
    last-slot c.args.lines.now _ some
