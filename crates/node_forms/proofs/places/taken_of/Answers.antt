use Rattle.std.proofs.Common.{rules, arith, ◌∙◌}
use Rattle.xs_model.specs.Threads.{fresh_thread}
use Rattle.step_model.specs.ThreadRows.{is_taken}
use Rattle.made_lists.proofs.Made.{made_of}
use Rattle.node_forms.proofs.Threads.{taken_alone}
use Rattle.node_forms.proofs.places.taken_of.Goals as goal

pub returns : goal.returns
returns c =
    made_of _ _ (λ th. is_taken th.run) c.args.threads.now c.map.result 8 fresh_thread (omega (arith, c.told-threads)) c.map.ensures.items (λ p x y q called. search rules)
    ∙ taken_alone c.args.threads.now c.args.last.now (omega (arith, c.told-threads, c.told-last))
