-- A name that is near another one, as it is kept.
use Rattle.explain_model.specs.Near.{Near}
use Rattle.marked_lines.specs.declared.near.Near as kept

abbrev pub near_of_kept : kept.Near → Near
near_of_kept near = record { name = near.name.now; how = near.how }
