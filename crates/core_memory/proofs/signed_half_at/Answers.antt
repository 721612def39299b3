use Rattle.std.proofs.Common.{ℕ, ◌≡◌, ◌+◌, ◌*◌, ◌%◌, ◌<◌, ◌∙◌, sym, ap, drop, get_or, arith, w16, w32, to_z, of_z}
use Rattle.xs_base.specs.Words.{sign_extended}
use Rattle.xs_model.specs.Memory.{half_here}
use Rattle.core_memory.proofs.Words.{half_at, signed_half_word}
use Rattle.core_memory.proofs.signed_half_at.Goals as goal

pub returns : goal.returns
returns c =
    let n : ℕ = get_or c.args.bytes.now c.args.place 0 + get_or c.args.bytes.now (c.args.place + 1) 0 * 256 in
    let half : half_here (drop c.args.place c.args.bytes.now) ≡ n = half_at c.args.place c.args.bytes.now c.requires in
    let bound : n < 65536 = omega (arith, c.type_inv.bytes c.args.place, c.type_inv.bytes (c.args.place + 1)) in
    c.cast_unsigned.ensures ∙ ap (λ z. of_z w32 (to_z w32 (of_z w32 z))) (c.from.ensures ∙ ap (λ z. to_z w16 (of_z w16 z)) c.from_le_bytes-half.ensures) ∙ signed_half_word n bound ∙ ap (λ n. sign_extended 16 (n % 65536)) (sym half)
