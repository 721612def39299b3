use Rattle.std.proofs.Common.{ℕ, ◌≡◌, ◌-◌, ◌++◌, ◌∙◌, ap, length, take, vec_len, arith}
use Rattle.std.proofs.lemmas.List.{take_all}
use Rattle.std.proofs.Math.ListN.{replicate}
use Rattle.xs_base.specs.declared.numbers.TheConstants.{MEMORY_BYTES}
use Rattle.core_memory.proofs.Ram.new.Goals as goal

pub returns : goal.returns
returns c =
    let image : c.extend_from_slice.new.self.items ≡ c.args.bytes.now =
    c.in_ok-extend_from_slice.ensures.items ∙ ap (λ bytes. bytes ++ c.args.bytes.now) c.in_ok-memory.ensures.items
    in
    let whole : take MEMORY_BYTES c.extend_from_slice.new.self.items ≡ c.args.bytes.now =
    ap (λ bytes. take MEMORY_BYTES bytes) image ∙ take_all MEMORY_BYTES c.args.bytes.now c.requires
    in
    let count : vec_len c.extend_from_slice.new.self ≡ length c.args.bytes.now =
    omega (arith, c.in_ok-extend_from_slice.ensures.len, c.in_ok-memory.ensures.len)
    in
    record { image = c.in_ok-resize.ensures.items ∙ ap (λ bytes. bytes ++ replicate {A = ℕ} (MEMORY_BYTES - vec_len c.extend_from_slice.new.self) 0) whole ∙ ap (λ n. c.args.bytes.now ++ replicate {A = ℕ} (MEMORY_BYTES - n) 0) count }
