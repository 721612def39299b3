use Rattle.std.proofs.Common.{◌≡◌, ◌-◌, [], length, map}
use Rattle.snap_parts.specs.Parts.{seen}
use Rattle.byte_forms.specs.Forms.{read_chain}
use Rattle.snap_codec.specs.Body.{by_number, in_pairs, pair_after}
use Rattle.snap_codec.proofs.logs.read_links.Given as goal

abbrev pub invariant-loop-link : goal.invariant-loop-link
invariant-loop-link l =
    record {
      even : by_number (in_pairs (map seen l.logs.items)) ≡ map seen l.logs.items;
      len : length (in_pairs (map seen l.logs.items)) ≡ l.link-index;
      so_far : read_chain (pair_after l.plan l.slot l.all) (length l.plan.links - l.link-index) (in_pairs (map seen l.logs.items)) l.from
          ≡ read_chain (pair_after l.plan l.slot l.all) (length l.plan.links) [] l.fn.from;
    }
