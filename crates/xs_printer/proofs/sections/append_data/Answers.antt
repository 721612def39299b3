use Rattle.std.proofs.Common.{◌≡◌, ◌+◌, ◌<◌, length, ap, arith}
use Rattle.xs_instructions.specs.Image.{data_start}
use Rattle.xs_printer.proofs.FirstLabels.{first_of_result, next_at}
use Rattle.xs_printer.proofs.sections.append_data.Goals as goal

pub returns-in_ok-next-clause-next : goal.returns-in_ok-next-clause-next
returns-in_ok-next-clause-next c =
    let image = c.args.image.now in
    let bytes = c.args.bytes.now in
    let long : length bytes ≡ length image.bytes = ap length c.requires.bytes in
    let end : data_start + length bytes ≡ data_start + length image.bytes = omega (arith, long) in
    let below : data_start + length image.bytes < image.cp_at = omega (arith, long, c.cp_at.ensures.value, c.if-bytes-room.true) in
    first_of_result image.symbols (data_start + length bytes) image.cp_at _
    (next_at image.symbols _ _ image.cp_at (c.labels_stand_in_order.ensures.constants image c.cp_at.ensures.image below) end) c.append_labels.ensures.next
