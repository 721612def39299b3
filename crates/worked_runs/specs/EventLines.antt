-- Lines worked out by hand.
use Rattle.std.specs.Prelude.{◌≡◌, codes}
use Rattle.xs_base.specs.declared.token.Token.TheVariants.{Byte, Ctrl}
use Rattle.xs_model.specs.declared.event.Happen.TheVariants as happen
use Rattle.trace_model.specs.EventLines.{event_line}

pub record WorkedLines : Type 0 where
  pub trap : event_line 0 (record { slot = 8; what = happen.Trap 0 7 0x0004_0008 0 }) ≡ codes "8 n0.t0 trap 7 pc 0x00040008 data 0x00000000\n"
  pub halt : event_line 0 (record { slot = 8; what = happen.Halt 0 }) ≡ codes "8 n0.t0 halt\n"
  pub drive : event_line 0 (record { slot = 14; what = happen.Drive 16 10 }) ≡ codes "14 n0 pin 4A 0x0000000a\n"
  pub float : event_line 0 (record { slot = 5; what = happen.Float 28 }) ≡ codes "5 n0 pin 32A float\n"
  pub control : event_line 1 (record { slot = 30; what = happen.Chan 0 (Ctrl 1) }) ≡ codes "30 n1 chan 0 ct 1\n"
  pub byte : event_line 1 (record { slot = 34; what = happen.Chan 0 (Byte 7) }) ≡ codes "34 n1 chan 0 dt 7\n"
  pub lost : event_line 1 (record { slot = 27; what = happen.Lost 0x0001_0002 }) ≡ codes "27 n1 lost 0x00010002\n"
