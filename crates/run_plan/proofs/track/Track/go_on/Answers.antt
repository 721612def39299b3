use Rattle.std.proofs.Common.{◌+◌, ◌++◌, ap, ◌∙◌, arith, None, false}
use Rattle.std.specs.Prelude.{slice_get, slice_index_or}
use Rattle.serial_model.specs.Serial.{sent_by}
use Rattle.run_plan.specs.declared.track.Track.{Track}
use Rattle.crossings.specs.Crossings.{due_of, seen_of}
use Rattle.run_plan.proofs.Tracks.{goes-on}
use Rattle.run_plan.proofs.track.Track.go_on.Goals as goal

pub see-requires-clause-first : goal.see-requires-clause-first
see-requires-clause-first c = omega (arith, ap (λ (t : Track). t.first) c.append.ensures.rest, c.pass.ensures.most, c.requires.track.few)

pub see-requires-clause-nothing : goal.see-requires-clause-nothing
see-requires-clause-nothing c = ap (λ (t : Track). t.arrived) c.append.ensures.rest ∙ ap (λ (t : Track). t.arrived) c.pass.ensures.passed

pub returns : goal.returns
returns c =
    let before = c.args.self.now in
    let slot = c.args.slot in
    let token = slice_index_or c.args.sent.now.tokens before.from_end None in
    let credit = slice_index_or c.args.sent.now.credits before.from_end false in
    let pass = c.pass.ensures.passed in
    let rest = c.append.ensures.rest in
    let see = c.see.ensures.seen in
    let from = ap (λ (t : Track). t.from) rest ∙ ap (λ (t : Track). t.from) pass in
    let from_end = ap (λ (t : Track). t.from_end) rest ∙ ap (λ (t : Track). t.from_end) pass in
    let to = ap (λ (t : Track). t.to) rest ∙ ap (λ (t : Track). t.to) pass in
    let delay = ap (λ (t : Track). t.delay) rest ∙ ap (λ (t : Track). t.delay) pass in
    let first = ap (λ (t : Track). t.first) rest ∙ ap (λ (t : Track). t.first) pass in
    let entries = c.append.ensures.entries ∙ (λ i. (pass i).history.entries ++ sent_by slot c.args.sent.now (pass i).from_end) in
    record {
      next =
          goes-on slot before c.requires.track token credit _
          (ap (λ (t : Track). t.from) see ∙ from) (ap (λ (t : Track). t.from_end) see ∙ from_end) (ap (λ (t : Track). t.to) see ∙ to) (ap (λ (t : Track). t.delay) see ∙ delay)
          (ap (λ (t : Track). t.history.entries) see ∙ entries) (ap (λ (t : Track). t.first) see ∙ first)
          (ap (λ (t : Track). t.arrived) see
          ∙ (λ i. seen_of (due_of (slot + 1) (delay i) (slice_get (entries i) (first i))) (due_of (slot + 1) (delay i) (slice_get (entries i) (first i + 1)))));
      quiet = c.see.ensures.quiet;
    }
