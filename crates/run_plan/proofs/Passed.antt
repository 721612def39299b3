-- A slot of all nodes and arcs, pass by pass: what a pass needs, of what those before it left.
use Rattle.std.proofs.Common.{ℕ, ◌+◌, List, length, sym, ◌∙◌, subst, Ok, Err}
use Rattle.std.specs.Prelude.{OnErr, Result}
use Rattle.std.specs.List.{AllByRecursion, AllZip}
use Rattle.xs_base.specs.Numbers.{Word}
use Rattle.node_seats.specs.Shown.{IsShown}
use Rattle.run_plan.specs.declared.track.Track.{Track}
use Rattle.run_plan.specs.declared.wire.Wire.{Wire}
use Rattle.run_plan.specs.declared.station.Station.{Station}
use Rattle.run_plan.specs.Stations.{IsStation, StationSteps}
use Rattle.run_plan.specs.Passes.{SameStation, SameTrack, SameWire, SameButDue, IsReadyTrack, IsShownAt, levels_of}
use Rattle.run_plan.specs.Wires.{AreReadyWires}
use Rattle.run_plan.proofs.Through.{all-zip, zip-second, zip-length}
use Rattle.run_plan.proofs.Systems.{stations-same, tracks-same, wires-same, levels-roomy, levels-stepped, levels-due}

pub on_err : {T E P : Type 0} (r : Result T E) → P → OnErr r P
on_err (Ok v) p = tt
on_err (Err e) p = p

module _ (slot : ℕ) (stations roomy : List Station) (tracks roomy_tracks : List Track) (made : AllZip SameStation stations roomy) (made_tracks : AllZip SameTrack tracks roomy_tracks) where
  -- nodes and directed links with room for a slot are as they were
  pub roomy-stations : AllByRecursion (IsStation slot (length tracks)) stations → AllByRecursion (IsStation slot (length roomy_tracks)) roomy
  roomy-stations are =
      subst (λ n. AllByRecursion (IsStation slot n) roomy) (sym (zip-length SameTrack tracks roomy_tracks made_tracks))
      (stations-same slot (length tracks) stations roomy made are)

  module _ (stepped : List Station) (steps : AllZip (StationSteps slot roomy_tracks) roomy stepped) where
    -- so are the directed links when the nodes have made their steps
    pub stepped-tracks : AllByRecursion (IsReadyTrack slot (length stations)) tracks → AllByRecursion (IsReadyTrack slot (length stepped)) roomy_tracks
    stepped-tracks are =
        subst (λ n. AllByRecursion (IsReadyTrack slot n) roomy_tracks) (sym (zip-length (StationSteps slot roomy_tracks) roomy stepped steps ∙ zip-length SameStation stations roomy made))
        (tracks-same slot (length stations) tracks roomy_tracks made_tracks are)

    -- and the wires
    pub stepped-wires : (wires roomy_wires : List Wire) → AllZip SameWire wires roomy_wires → AreReadyWires slot (levels_of stations) wires → AreReadyWires slot (levels_of stepped) roomy_wires
    stepped-wires wires roomy_wires =
        wires-same slot (levels_of stations) (levels_of stepped) wires roomy_wires (levels-stepped slot roomy_tracks roomy stepped steps ∙ levels-roomy stations roomy made)

    -- the pins are looked at up to the next slot
    pub stepped-shown : AllByRecursion (IsShownAt (slot + 1)) stepped
    stepped-shown = zip-second (StationSteps slot roomy_tracks) (IsShownAt (slot + 1)) (λ x y s. s.shown) roomy stepped steps

-- that is so of the wires and the pins too when it is known which nodes are due
module _ (slot : ℕ) (stepped marked : List Station) (same : AllZip SameButDue stepped marked) where
  pub marked-wires : (wires : List Wire) → AreReadyWires slot (levels_of stepped) wires → AreReadyWires slot (levels_of marked) wires
  marked-wires wires = subst (λ (levels : List (List Word)). AreReadyWires slot levels wires) (sym (levels-due stepped marked same))

  pub marked-shown : AllByRecursion (IsShownAt (slot + 1)) stepped → AllByRecursion (IsShownAt (slot + 1)) marked
  marked-shown = all-zip SameButDue (IsShownAt (slot + 1)) (IsShownAt (slot + 1)) (λ x y s h. subst (IsShown (slot + 1)) (sym s.pins) h) stepped marked same
