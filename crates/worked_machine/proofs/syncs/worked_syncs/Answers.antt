use Rattle.std.proofs.Common.{refl}
use Rattle.step_model.specs.ThreadRows.{when_all_in, slaves_go, slaves_are_freed}
use Rattle.worked_machine.specs.Syncs.{msync_0, mjoin_0}
use Rattle.worked_machine.proofs.Computes.{computes}
use Rattle.worked_machine.proofs.ByEffect.{refuses_no_sync}
use Rattle.worked_machine.proofs.syncs.worked_syncs.Goals as goal

pub returns : goal.returns
unfolding computes
returns c = record {
  getr = record {
    got = refl;
    last_got = refl;
    none_free = refl;
    none_stays = refl;
    by_thread_1 = refl;
  };
  msync = record {
    all_in = refl;
    awaits = record {
      one_goes = refl;
      one_pauses = refl;
      one_is_halted = refl;
      none_is_in = refl;
      no_slaves = refl;
      refused = refuses_no_sync msync_0 (λ here core. when_all_in core 0 slaves_go) (λ here core. refl);
    };
    halted_slave = refl;
  };
  mjoin = record {
    all_in = refl;
    awaits = record {
      one_goes = refl;
      one_pauses = refl;
      one_is_halted = refl;
      none_is_in = refl;
      no_slaves = refl;
      refused = refuses_no_sync mjoin_0 (λ here core. when_all_in core 0 slaves_are_freed) (λ here core. refl);
    };
    halted_slave = refl;
  };
  freer = record {
    freed = refl;
    last_freed = refl;
    has_slaves = refl;
    not_its_master = refl;
    unused = refl;
    number_7 = refl;
    upper_half = refl;
  };
  waking = record {
    issues = refl;
    waits = refl;
    is_in = refl;
    master_goes_on = refl;
    slave_goes_on = refl;
  };
  join = record {
    issues = refl;
    waits = refl;
    at_mjoin = refl;
    is_in = refl;
    goes_on = refl;
    slave_is_free = refl;
    sync_stays = refl;
    no_word = refl;
    word = refl;
    no_second_word = refl;
    second_word = refl;
    ends = refl;
  };
}
