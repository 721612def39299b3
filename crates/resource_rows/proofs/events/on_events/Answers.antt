use Rattle.std.proofs.Common.{ℕ, ◌≡◌, Bool, sym, subst}
use Rattle.std.specs.Prelude.{not, ◌==◌}
use Rattle.xs_model.specs.declared.thread.Outcome.{Outcome}
use Rattle.xs_model.specs.Record.{CoreRec}
use Rattle.step_model.specs.Effect.{Setting, reg}
use Rattle.step_model.specs.Named.{resource_named}
use Rattle.step_model.specs.EventRows.{enables}
use Rattle.step_model.specs.ResourceRows.{resources_row, named_in}
use Rattle.core_units.specs.Units.{Ends}
use Rattle.resource_rows.proofs.events.on_events.Goals as goal

-- a register says whether the resource is enabled, on the node where the issue is made
module _ (outcome : Outcome) (old new : CoreRec) (here : Setting) (id k s : ℕ) (at : here.id ≡ id) (of_value : ℕ → Bool) (value wanted : ℕ) (same : value ≡ wanted) where
  enables_by : Ends outcome old new (enables old k (reg old k s) (of_value value) (resource_named id (reg old k s))) → Ends outcome old new (enables old k (reg old k s) (of_value wanted) (named_in here old k s))
  enables_by is =
      subst (λ id. Ends outcome old new (enables old k (reg old k s) (of_value wanted) (resource_named id (reg old k s)))) (sym at)
      (subst (λ value. Ends outcome old new (enables old k (reg old k s) (of_value value) (resource_named id (reg old k s)))) same is)

pub returns-in-Eet : goal.returns-in-Eet
returns-in-Eet c = record {
  row =
      λ here id.
      subst (λ ins. Ends c.enable-in-Eet.result c.args.units.now c.enable-in-Eet.new.units (resources_row here c.args.units.now c.args.k ins)) (sym c.in-Eet.is)
      (enables_by c.enable-in-Eet.result c.args.units.now c.enable-in-Eet.new.units here c.args.id c.args.k c.in-Eet.s id (λ value. not (value == 0)) _ _ c.reg-on.ensures c.enable-in-Eet.ensures);
}

pub returns-in-Eef : goal.returns-in-Eef
returns-in-Eef c = record {
  row =
      λ here id.
      subst (λ ins. Ends c.enable-in-Eef.result c.args.units.now c.enable-in-Eef.new.units (resources_row here c.args.units.now c.args.k ins)) (sym c.in-Eef.is)
      (enables_by c.enable-in-Eef.result c.args.units.now c.enable-in-Eef.new.units here c.args.id c.args.k c.in-Eef.s id (λ value. value == 0) _ _ c.reg-on-in-Eef.ensures c.enable-in-Eef.ensures);
}
