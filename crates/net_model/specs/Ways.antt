-- The way from a node to another.
use Rattle.std.specs.Prelude.{ℕ, zero, suc, ◌+◌, ◌*◌, ◌==◌, if◌then◌else◌, Option, Some, None, List, [], ◌∷◌, slice_index, bit_and}
use Rattle.std.specs.Int.{bit_at}
use Rattle.xs_base.specs.Numbers.{NodeId}

-- the highest of the lowest count bits in which two ids differ
unfoldable pub first_difference : ℕ → NodeId → NodeId → Option ℕ
first_difference zero a b = None
first_difference (suc k) a b = if bit_at a k == bit_at b k then first_difference k a b else Some k

-- where a node lies from a node: it is the node itself, or behind some of these link ends, as a mask
pub data Way : Type 0 where
  Here : Way
  Behind : (ends : ℕ) → Way

-- the link ends of a network, as a mask, by the networks of all link ends: bit 0 is that of the first of the list
abbrev pub ends_of_net : List ℕ → ℕ → ℕ
ends_of_net [] net = 0
ends_of_net (n ∷ nets) net = (if n == net then 1 else 0) + 2 * ends_of_net nets net

-- behind those of a bit's link ends that are in a mask
abbrev pub way_at : List ℕ → ℕ → Option ℕ → Way
way_at ways ends None = Here
way_at ways ends (Some bit) = Behind (bit_and (slice_index ways bit) ends)

-- The link ends of the highest bit in which the ids differ lead on, those of them whose link is of the packet's network. To the
-- node itself the network says nothing.
abbrev pub way_to : NodeId → List ℕ → List ℕ → ℕ → NodeId → Way
way_to id ways nets net node = way_at ways (ends_of_net nets net) (first_difference 16 id node)
