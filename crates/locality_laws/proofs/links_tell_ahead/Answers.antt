use Rattle.locality_laws.proofs.Links.{histories_grow, histories_are_whole, slots_carry_few, seen_arrives, arrives_later, levels_go_on, wires_show_later, levels_come, seen_levels}
use Rattle.locality_laws.proofs.links_tell_ahead.Goals as goal

pub returns-clause-grow : goal.returns-clause-grow
returns-clause-grow c = histories_grow

pub returns-clause-whole : goal.returns-clause-whole
returns-clause-whole c = histories_are_whole

pub returns-clause-seen : goal.returns-clause-seen
returns-clause-seen c = seen_arrives

pub returns-clause-few : goal.returns-clause-few
returns-clause-few c = slots_carry_few

pub returns-clause-later : goal.returns-clause-later
returns-clause-later c = arrives_later

pub returns-clause-levels : goal.returns-clause-levels
returns-clause-levels c = levels_go_on

pub returns-clause-shows : goal.returns-clause-shows
returns-clause-shows c = wires_show_later

pub returns-clause-come : goal.returns-clause-come
returns-clause-come c = levels_come

pub returns-clause-seen_levels : goal.returns-clause-seen_levels
returns-clause-seen_levels c = seen_levels
