-- The registers of a thread by their numbers: 0 to 15 as instructions name them, then spc, ssr, sed, et, ed, kep, ksp and sr.
use Rattle.std.specs.Prelude.{ℕ, ◌==◌, nat_lt, if◌then◌else◌, List, [], codes, get_or}
use Rattle.xs_base.specs.Numbers.{Word}
use Rattle.xs_model.specs.declared.thread.Thread.{Thread}
use Rattle.xs_model.specs.Threads.{register}
use Rattle.xs_instructions.specs.Words.{register_names}

abbrev pub kernel_register : Thread → ℕ → Word
kernel_register th i =
    if i == 16 then th.spc
    else (if i == 17 then th.ssr.bits
    else (if i == 18 then th.sed
    else (if i == 19 then th.et
    else (if i == 20 then th.ed
    else (if i == 21 then th.kep
    else (if i == 22 then th.ksp
    else th.sr.bits))))))

abbrev pub value_in : Thread → ℕ → Word
value_in th i = if nat_lt i 16 then register th i else kernel_register th i

abbrev pub kernel_name : ℕ → List ℕ
kernel_name i =
    if i == 16 then codes "spc"
    else (if i == 17 then codes "ssr"
    else (if i == 18 then codes "sed"
    else (if i == 19 then codes "et"
    else (if i == 20 then codes "ed"
    else (if i == 21 then codes "kep"
    else (if i == 22 then codes "ksp"
    else codes "sr"))))))

abbrev pub name_of : ℕ → List ℕ
name_of i = if nat_lt i 16 then get_or register_names i [] else kernel_name i
