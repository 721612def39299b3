-- A list of unused channel ends.
use Rattle.std.proofs.Common.{ℕ, ◌≡◌, List, replicate, sym, ◌∙◌, arith, ◌<◌}
use Rattle.std.specs.Array.{AllOfLen}
use Rattle.std.proofs.lemmas.List.{ext_get_or, length-replicate, get_or-replicate}
use Rattle.xs_model.specs.Record.{ChanRec, unused_chan}

pub all_unused : (chans : List ChanRec) (n : ℕ) → AllOfLen (λ chan. chan ≡ unused_chan) chans n → chans ≡ replicate n unused_chan
all_unused chans n all =
    ext_get_or unused_chan chans (replicate n unused_chan) (all.long ∙ sym (length-replicate n unused_chan)) (λ i h. let within : i < n = omega (arith, all.long) in all.at i unused_chan within ∙ sym (get_or-replicate n i unused_chan unused_chan within))
