use Rattle.std.proofs.Common.{◌∙◌, sym, arith}
use Rattle.rank_model.specs.declared.rank_line.RankLine.{RankLine}
use Rattle.route_ranks.proofs.Lines.{faultless, faulty, not_faulty}
use Rattle.route_ranks.proofs.line_checks.first_fault.Goals as goal

pub returns-in-Some : goal.returns-in-Some
returns-in-Some c =
    let no_line : RankLine = record { line = 0; node = 0; end = 0; rank = 0 } in
    let fault = sym c.fault_of.ensures.value ∙ c.in-Some.is in
    record { value = λ rest. c.loop-index.invariant rest ∙ faulty c.args.plan.now c.args.lines.now c.loop-index.index rest no_line (omega arith) c.in-Some.kind fault }

pub loop-index-preserved : goal.loop-index-preserved
loop-index-preserved c =
    let no_line : RankLine = record { line = 0; node = 0; end = 0; rank = 0 } in
    let none = sym c.fault_of.ensures.value ∙ c.in_default.is in
    λ rest. c.loop-index.invariant rest ∙ not_faulty c.args.plan.now c.args.lines.now c.loop-index.index rest no_line (omega arith) none

pub returns : goal.returns
returns c = record { value = λ rest. c.loop-index.invariant rest ∙ faultless c.args.plan.now c.args.lines.now c.loop-index.index rest (omega arith) }
