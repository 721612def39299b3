use Rattle.std.proofs.Common.{◌≡◌, [], map, string_bytes, length, drop}
use Rattle.look_forms.specs.Words.{addresses_with}
use Rattle.xs1_look_top.proofs.words.addresses_of.Given as goal

abbrev pub invariant-loop-word : goal.invariant-loop-word
invariant-loop-word l = record {
  count : length l.addresses.items ≡ l.word-index;
  found : addresses_with [] (map string_bytes l.words) ≡ addresses_with l.addresses.items (map string_bytes (drop l.word-index l.words));
}
