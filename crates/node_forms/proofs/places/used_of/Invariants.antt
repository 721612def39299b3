use Rattle.std.proofs.Common.{◌≡◌, length, take}
use Rattle.std.specs.Prelude.{map}
use Rattle.node_forms.specs.Nodes.{used_of}
use Rattle.node_forms.proofs.places.used_of.Given as goal

-- those below c are told
abbrev pub invariant-loop-c : goal.invariant-loop-c
invariant-loop-c l = record {
  long : length l.used ≡ 32;
  done : take l.c l.used ≡ used_of (take l.c l.chans);
}
