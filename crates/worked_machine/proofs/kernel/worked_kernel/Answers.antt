use Rattle.std.proofs.Common.{refl}
use Rattle.worked_machine.proofs.Computes.{computes}
use Rattle.worked_machine.proofs.kernel.worked_kernel.Goals as goal

pub returns : goal.returns
unfolding computes
returns c = record {
  calls = record {
    kcall_greatest = refl;
    kcall_0 = refl;
    kcall_of_register = refl;
    ecallt = refl;
    ecallt_of_0 = refl;
    ecallf = refl;
    ecallf_of_0 = refl;
    kret = refl;
  };
  stack = record {
    kentsp = refl;
    kentsp_0 = refl;
    kentsp_most = refl;
    kentsp_unaligned = refl;
    kentsp_outside = refl;
    krestsp = refl;
    krestsp_0 = refl;
    krestsp_most = refl;
    krestsp_unaligned = refl;
    krestsp_above = refl;
  };
  registers = record {
    set_kep = refl;
    set_kep_below = refl;
    set_kep_whole = refl;
    get_kep = refl;
    get_ksp = refl;
    get_ed = refl;
    get_et = refl;
    get_id = refl;
    getsr_all = refl;
    getsr_some = refl;
    getsr_none = refl;
    ldw_spc = refl;
    ldw_sed = refl;
    ldw_et = refl;
    ldw_ssr_all = refl;
    ldw_ssr_some = refl;
    ldw_ssr_none = refl;
    stw_spc = refl;
    stw_ssr = refl;
    stw_sed = refl;
    stw_et = refl;
  };
  bad_words = record {
    ldw_spc = refl;
    ldw_ssr = refl;
    ldw_sed = refl;
    ldw_et = refl;
    stw_spc = refl;
    stw_ssr = refl;
    stw_sed = refl;
    stw_et = refl;
  };
  entries = record {
    event = refl;
    event_clears = refl;
    event_sets_nothing = refl;
    interrupt = refl;
    interrupt_clears = refl;
    interrupt_sets = refl;
  };
  slots = record {
    kernel_call = refl;
    kernel_call_told = refl;
    kernel_call_halts = refl;
    halt_told = refl;
    returned = refl;
    return_tells_nothing = refl;
    exception = refl;
    exception_told = refl;
    second_trap = refl;
    second_trap_told = refl;
    id_of_thread_1 = refl;
    stacks = refl;
  };
}
