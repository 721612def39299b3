-- The warnings that are told, as they are kept and as they are.
use Rattle.std.proofs.Common.{◌≡◌, List, length, map, take, sym}
use Rattle.std.proofs.lemmas.List.{take-map, length-map}
use Rattle.warning_model.specs.declared.TheConstants.{MOST_WARNINGS}
use Rattle.warning_text.specs.declared.warning.Warning as kept
use Rattle.warning_text.specs.Kept.{warning_of}

pub take_told : (ws : List kept.Warning) → take MOST_WARNINGS (map warning_of ws) ≡ map warning_of (take MOST_WARNINGS ws)
take_told ws = take-map warning_of MOST_WARNINGS ws

pub count_told : (ws : List kept.Warning) → length ws ≡ length (map warning_of ws)
count_told ws = sym (length-map ws warning_of)
