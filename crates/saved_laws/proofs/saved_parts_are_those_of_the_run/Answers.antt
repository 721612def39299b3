use Rattle.saved_laws.proofs.Shape.{nodes_are_saved, logs_are_saved, saved_is_whole}
use Rattle.saved_laws.proofs.saved_parts_are_those_of_the_run.Goals as goal

pub returns-clause-nodes : goal.returns-clause-nodes
returns-clause-nodes c = nodes_are_saved

pub returns-clause-logs : goal.returns-clause-logs
returns-clause-logs c = logs_are_saved

pub returns-clause-whole : goal.returns-clause-whole
returns-clause-whole c = saved_is_whole
