-- A thread's registers by their numbers, and how threads begin.
use Rattle.std.specs.Prelude.{if◌then◌else◌, ◌==◌, slice_index, slice_set, replicate}
use Rattle.xs_base.specs.Numbers.{Register, Word}
use Rattle.xs_base.specs.declared.numbers.TheConstants.{MEMORY_START}
use Rattle.xs_model.specs.declared.thread.Thread.{Thread}
use Rattle.xs_model.specs.declared.thread.Run.TheVariants.{Unstarted, Going}
use Rattle.xs_model.specs.Status.{no_status, IsKnown}

-- 0 to 11 are r0 to r11, then cp, dp, sp and lr
abbrev pub register : Thread → Register → Word
register th g =
    if g == 12 then th.cp
    else (if g == 13 then th.dp
    else (if g == 14 then th.sp
    else (if g == 15 then th.lr
    else slice_index th.r g)))

abbrev pub with_register : Thread → Register → Word → Thread
with_register th g v =
    if g == 12 then record th { cp = v }
    else (if g == 13 then record th { dp = v }
    else (if g == 14 then record th { sp = v }
    else (if g == 15 then record th { lr = v }
    else record th { r = slice_set th.r g v })))

-- a thread that was just got: unstarted, all registers 0
abbrev pub fresh_thread : Thread
fresh_thread = record {
  r = replicate 12 0;
  cp = 0;
  dp = 0;
  sp = 0;
  lr = 0;
  pc = 0;
  sr = no_status;
  spc = 0;
  ssr = no_status;
  et = 0;
  ed = 0;
  sed = 0;
  kep = 0;
  ksp = 0;
  run = Unstarted;
}

-- thread 0 as its node starts: going at the entry, dp at the memory's beginning, sp at its last word
abbrev pub first_thread : Word → Word → Thread
first_thread entry cp_at = record fresh_thread { pc = entry; cp = cp_at; dp = MEMORY_START; sp = 0x0001fffc; run = Going }

-- the bits of a thread's status are among the seven, and those of the one to which it returns
pub record HasKnownBits (th : Thread) : Type 0 where
  pub sr : IsKnown th.sr
  pub ssr : IsKnown th.ssr
