use Rattle.std.proofs.Common.{◌≡◌, ◌≤◌, ◌-◌, length}
use Rattle.std.specs.Prelude.{find}
use Rattle.xs_instructions.specs.Image.{is_reserved}
use Rattle.explain_model.specs.Placed.{Placed, placed_labels, placed_tokens}
use Rattle.explain_model.specs.Spots.{reserved_label}
use Rattle.placed_tokens.specs.Tokens.{placed_left}
use Rattle.explain_text.proofs.source_line.SourceLine.reserved_label.Given as goal

abbrev pub invariant-loop-name : goal.invariant-loop-name
invariant-loop-name l = record {
  within : l.at ≤ length l.self.bytes.now;
  found : find (λ (p : Placed). is_reserved p.token.bytes) (placed_labels (placed_left l.self.bytes.now l.at)) ≡ reserved_label (placed_tokens l.self.bytes.now);
}

abbrev pub decreases-loop-name : goal.decreases-loop-name
decreases-loop-name l = length l.self.bytes.now - l.at
