-- The definitions by which a slot of a node computes. A proof that runs them names `computes` alone.
use Rattle.xs_base.specs.Ids.{port_among}
use Rattle.xs_base.specs.Words.{reversed, leading_zeros}
use Rattle.xs_model.specs.Bits.{bits_of, value_of}
use Rattle.xs_model.specs.Choices.{first_ready}
use Rattle.xs_model.specs.Enabling.{without_threads}
use Rattle.xs_model.specs.Picks.{best_from}
use Rattle.xs_model.specs.Ports.{edges_from}
use Rattle.xs_model.specs.Syncs.{with_slave}
use Rattle.xs_model.specs.Free.{lowest_free}
use Rattle.net_model.specs.Ways.{first_difference}
use Rattle.net_model.specs.Links.{links_after_arrivals}
use Rattle.net_model.specs.Switch.{moves_from, free_end}
use Rattle.step_model.specs.ThreadRows.{with_runs}
use Rattle.step_model.specs.Step.{node_step}

-- names them all on its own line, so that they unfold where it does
unfoldable pub computes : Type 0
unfolding port_among reversed leading_zeros bits_of value_of first_ready without_threads best_from edges_from with_slave lowest_free first_difference links_after_arrivals moves_from free_end with_runs node_step
computes = Unit {0}
