-- All of it together.
use Rattle.step_laws.proofs.Slot.{slot_known}
use Rattle.step_laws.proofs.Threads.{first_known}
use Rattle.xs_instructions.specs.Image.{entry_of}
use Rattle.state_laws.specs.Facts.{MayBeKept}
use Rattle.state_laws.specs.Laws.{IsSoAtFirstWith, StaysSoAsPlanned}
use Rattle.state_laws.proofs.Before.{first_before, slot_before}
use Rattle.state_laws.proofs.Chans.{first_switch, slot_switch}
use Rattle.state_laws.proofs.Links.{first_links, slot_links}
use Rattle.state_laws.proofs.Owners.{first_names, slot_names}
use Rattle.state_laws.proofs.Pins.{first_pins, slot_pins}
use Rattle.state_laws.proofs.Slaves.{first_slaves, slot_slaves}
use Rattle.state_laws.proofs.Threads.{first_waits, slot_waits}

pub first_kept : IsSoAtFirstWith (λ gaps rec. MayBeKept gaps 0 rec)
first_kept plan gaps eight = record {
  known = first_known (entry_of plan.image) plan.image.cp_at;
  waits = first_waits plan gaps;
  before = first_before plan gaps;
  names = first_names plan gaps;
  slaves = first_slaves plan gaps;
  switch = first_switch plan gaps eight;
  links = first_links plan gaps eight;
  pins = first_pins plan gaps;
}

pub slot_kept : StaysSoAsPlanned (λ gaps slot rec. MayBeKept gaps slot rec)
slot_kept fixed rec slot arrivals pins planned fit h = record {
  known = slot_known fixed rec slot arrivals pins h.known;
  waits = slot_waits fixed rec slot arrivals pins h.waits;
  before = slot_before fixed rec slot arrivals pins h.before;
  names = slot_names fixed rec slot arrivals pins h.names;
  slaves = slot_slaves fixed rec slot arrivals pins h.slaves;
  switch = slot_switch fixed rec slot arrivals pins planned fit h.switch;
  links = slot_links fixed rec slot arrivals pins h.links;
  pins = slot_pins fixed rec slot arrivals pins planned fit h.pins;
}
