-- What a switch knows of the ways from its node.
use Rattle.std.specs.Prelude.{ℕ, List, [], ◌∷◌, map}
use Rattle.xs_base.specs.Numbers.{NodeId}
use Rattle.net_model.specs.Ways.{ends_of_net}

-- the id of its node, for each bit of an id the link ends that lead on, as a mask, and for each link end the network of its link
pub record KnownWays : Type 0 where
  pub id : NodeId
  pub ends : List ℕ  -- 16
  pub nets : List ℕ  -- 8

abbrev pub known_ways : NodeId → List ℕ → List ℕ → KnownWays
known_ways id ends nets = record { id = id; ends = ends; nets = nets }

-- for each of the networks 0 to 3 its link ends, as a mask
abbrev pub masks_of : List ℕ → List ℕ
masks_of nets = map (ends_of_net nets) (0 ∷ 1 ∷ 2 ∷ 3 ∷ [])
