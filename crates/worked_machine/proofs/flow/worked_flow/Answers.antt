use Rattle.std.proofs.Common.{refl}
use Rattle.worked_machine.proofs.Computes.{computes}
use Rattle.worked_machine.proofs.flow.worked_flow.Goals as goal

pub returns : goal.returns
unfolding computes
returns c = record {
  branches = record {
    bt_taken = refl;
    bt_not_taken = refl;
    bf_taken = refl;
    bf_not_taken = refl;
    bu = refl;
    bu_to_itself = refl;
    bru_next = refl;
    bru_over_two = refl;
    bru_to_itself = refl;
    bru_back = refl;
    bru_beyond = refl;
    bau = refl;
    bau_anywhere = refl;
    registers = refl;
    relative_registers = refl;
    absolute_registers = refl;
  };
  calls = record {
    bl = refl;
    bl_to_itself = refl;
    bla = refl;
    bla_anywhere = refl;
    bla_cp = refl;
    bla_cp_far = refl;
    bla_cp_unaligned = refl;
    bla_cp_outside = refl;
  };
  frames = record {
    entsp = refl;
    entsp_most = refl;
    entsp_0 = refl;
    entsp_0_anywhere = refl;
    entsp_unaligned = refl;
    entsp_above = refl;
    retsp = refl;
    retsp_most = refl;
    retsp_0 = refl;
    retsp_0_anywhere = refl;
    retsp_unaligned = refl;
    retsp_above = refl;
    extsp = refl;
    extsp_0 = refl;
    extsp_wraps = refl;
    extdp = refl;
    extdp_wraps = refl;
    set_sp = refl;
    set_dp = refl;
    set_cp = refl;
  };
  slots = record {
    called = refl;
    entered = refl;
    kept = refl;
    returned = refl;
    bad_entry = refl;
    bad_return = refl;
    bad_return_told = refl;
    bad_call = refl;
    branched_away = refl;
    no_code_there = refl;
  };
}
