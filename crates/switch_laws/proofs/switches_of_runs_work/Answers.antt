use Rattle.std.proofs.Common.{◌≡◌, ℕ, List, length, subst, arith}
use Rattle.xs_base.specs.Numbers.{Slot}
use Rattle.xs_base.specs.declared.numbers.TheConstants.{INPUTS}
use Rattle.xs_model.specs.Record.{NodeRec}
use Rattle.sys_plan.specs.Plan.{gaps_of}
use Rattle.step_model.specs.Start.{fixed_of}
use Rattle.serial_model.specs.Serial.{serial, coming_at}
use Rattle.locality_laws.specs.Locality.{node_in}
use Rattle.packet_laws.specs.Flow.{IsSwitch}
use Rattle.state_laws.specs.Facts.{MayBeKept, InputFits, chan_is_used, end_is_there}
use Rattle.switch_laws.proofs.Counts.{has_all, all_step}
use Rattle.switch_laws.proofs.switches_of_runs_work.Goals as goal

is_switch_of : (gaps : List ℕ) (slot : Slot) (rec : NodeRec) → length rec.inputs ≡ INPUTS → MayBeKept gaps slot rec → IsSwitch gaps rec
is_switch_of gaps slot rec all kept = record {
  inputs = all;
  links = kept.links.many;
  used = λ j n local. (subst (InputFits (chan_is_used rec.core) (end_is_there rec) j) local (kept.switch.inputs.each j)).1;
  chans = λ n j k one other. kept.switch.inputs.chans n j k one other;
  ends = λ e j k one other. kept.switch.inputs.ends e j k one other;
  gap = λ e there. omega (arith, (kept.switch.ends e).0 there);
}

pub returns : goal.returns
returns c = record {
  run = λ plan slot n node is code within.
      let coming = coming_at plan (serial plan slot).histories slot n in
      let switch : IsSwitch (gaps_of plan n) (node_in (serial plan slot) n) =
      is_switch_of (gaps_of plan n) slot (node_in (serial plan slot) n) (has_all plan slot n) (c.nodes_of_runs_may_be_kept.ensures.run plan slot n is code within) in
      record {
        is_switch = switch;
        steps = all_step c.switches_keep_tokens.ensures.step (fixed_of node (gaps_of plan n)).routes slot _
            (c.switches_keep_tokens.ensures.slot (fixed_of node (gaps_of plan n)) (node_in (serial plan slot) n) slot coming.arrivals coming.pins switch);
      };
}
