use Rattle.log_tests.proofs.plan_cells_tests.ends_are_dealt_and_gathered.Goals as goal

pub logs-requires-clause-ends : goal.logs-requires-clause-ends
logs-requires-clause-ends g c n ends h = (c.in_ok-cells.ensures.ends n ends h).are_ends
