use Rattle.std.proofs.Common.{[], refl}
use Rattle.xs_model.specs.Threads.{with_register}
use Rattle.xs_instructions.specs.declared.instr.Instr.TheVariants.{Threads}
use Rattle.xs_instructions.specs.declared.instr.ThreadIns.TheVariants as threads
use Rattle.step_model.specs.Effect.{Done}
use Rattle.step_model.specs.ThreadRows.{slave_got, thread_to_get}
use Rattle.worked_machine.specs.Threads.{getst_10}
use Rattle.worked_machine.proofs.Computes.{computes}
use Rattle.worked_machine.proofs.ByEffect.{refuses_no_sync, sets}
use Rattle.worked_machine.proofs.threads.worked_threads.Goals as goal

pub returns : goal.returns
unfolding computes
returns c = record {
  getst = record {
    got = refl;
    over_its_name = refl;
    last_got = refl;
    none_free = refl;
    none_free_for_it = refl;
    refused = refuses_no_sync getst_10 (λ here core n. Done (slave_got here core 0 1 n (thread_to_get core)) []) (λ here core. refl);
  };
  init = record {
    pc = sets (Threads (threads.InitPc 0 1)) (λ word th. record th { pc = word }) (λ here core. refl) _ refl refl;
    sp = sets (Threads (threads.InitSp 0 1)) (λ word th. record th { sp = word }) (λ here core. refl) _ refl refl;
    dp = sets (Threads (threads.InitDp 0 1)) (λ word th. record th { dp = word }) (λ here core. refl) _ refl refl;
    cp = sets (Threads (threads.InitCp 0 1)) (λ word th. record th { cp = word }) (λ here core. refl) _ refl refl;
    lr = sets (Threads (threads.InitLr 0 1)) (λ word th. record th { lr = word }) (λ here core. refl) _ refl refl;
    r5 = sets (Threads (threads.SetOther 0 5 1)) (λ word th. with_register th 5 word) (λ here core. refl) _ refl refl;
    r0 = refl;
    r11 = refl;
  };
  starts = record {
    started = refl;
    slave = refl;
    slave_of_another = refl;
    at_sync = refl;
    going = refl;
    paused = refl;
    free = refl;
    is_halted = refl;
    refused = record {
      itself = refl;
      going = refl;
      is_halted = refl;
      free = refl;
      paused = refl;
      number_8 = refl;
      upper_half = refl;
      nothing = refl;
      port = refl;
      timer = refl;
      chan_end = refl;
      sync = refl;
      lock = refl;
      clock = refl;
    };
  };
  ssync = record {
    at_sync = refl;
    no_slave = refl;
  };
  freet = record {
    is_free = refl;
    slave = refl;
  };
  getr = record {
    got = refl;
    last_got = refl;
    none_free = refl;
    port = refl;
    timer = refl;
    clock = refl;
    greatest = refl;
  };
  ties = record {
    got_by_0 = refl;
    got_by_3 = refl;
  };
}
