use Rattle.std.proofs.Common.{◌≡◌, ◌≤◌, ℕ, Some, sym, ◌∙◌, subst}
use Rattle.std.specs.Prelude.{slice_index}
use Rattle.sys_plan.specs.Plan.{outgoing}
use Rattle.serial_model.specs.Serial.{history}
use Rattle.node_runners.specs.Runner.{RunnerRec}
use Rattle.node_runners.proofs.Sends.{leaves_by, is_end, no_entries, nothing_after, takes_back_nothing}
use Rattle.node_runners.proofs.runner.NodeRunner.unsend.Goals as goal

pub bounds-self-inside-end : goal.bounds-self-inside-end
bounds-self-inside-end c = is_end _ _ _ _ _ _ _ _ _ c.self.invariant.1 c.args.end (leaves_by c.args.end c.self.view_is c.requires.there)

pub invariant_of-self : goal.invariant_of-self
invariant_of-self c =
    let end = c.args.end in
    let from = c.args.from in
    let batch = c.args.batch in
    let there = leaves_by end c.self.view_is c.requires.there in
    let last = subst (λ (r : RunnerRec). slice_index r.published end ≡ r.clock) (sym c.self.view_is) c.requires.last in
    let before = subst (λ (r : RunnerRec). from ≤ r.clock) (sym c.self.view_is) c.requires.before in
    let own = subst (λ (r : RunnerRec). (link : ℕ) → outgoing r.plan r.node end ≡ Some link → batch.entries ≡ history r.plan link from r.clock) (sym c.self.view_is) c.requires.own in
    let none = sym c.entries.ensures.value ∙ no_entries c.entries.result.now c.is_empty.result c.is_empty.ensures c.if-is_empty.true in
    (c.self.invariant.0, takes_back_nothing _ _ _ _ _ _ _ _ _ c.self.invariant.1 end there last batch from before own none)

pub keep-requires : goal.keep-requires
keep-requires c = record { empty = nothing_after c.args.self.now c.args.end c.requires.there c.requires.last c.exchange-spare.result.entries c.exchange-spare.ensures.own }
