use Rattle.std.proofs.Common.{refl}
use Rattle.run_plan.specs.Passes.{SameTrack, SameWire}
use Rattle.run_plan.proofs.Through.{zip-refl}
use Rattle.run_plan.proofs.passes.make_room.Goals as goal

pub returns-in_err-make_event_room-clause-tracks : goal.returns-in_err-make_event_room-clause-tracks
returns-in_err-make_event_room-clause-tracks c = zip-refl SameTrack (λ x. refl) c.args.tracks.now

pub returns-in_err-make_event_room-clause-wires : goal.returns-in_err-make_event_room-clause-wires
returns-in_err-make_event_room-clause-wires c = zip-refl SameWire (λ x. refl) c.args.wires.now

pub returns-in_err-make_entry_room-clause-wires : goal.returns-in_err-make_entry_room-clause-wires
returns-in_err-make_entry_room-clause-wires c = zip-refl SameWire (λ x. refl) c.args.wires.now
