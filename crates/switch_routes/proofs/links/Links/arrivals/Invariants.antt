use Rattle.std.proofs.Common.{ℕ, ◌≡◌, ◌<◌, length, Option, List}
use Rattle.xs_model.specs.Record.{LinkRec}
use Rattle.switch_routes.specs.Rows.{AllCountsOf, SentBy, end_gaps}
use Rattle.switch_routes.proofs.Rows.{first_arrivals}
use Rattle.switch_routes.proofs.links.Links.arrivals.Given as goal

-- what arrives at the link ends below this one has arrived
abbrev pub invariant-loop-end : goal.invariant-loop-end
invariant-loop-end l = record {
  stands : (slot : ℕ) (links : List (Option LinkRec)) → AllCountsOf l.fn.self links → AllCountsOf l.self (first_arrivals l.end slot l.arrivals.tokens l.arrivals.credits 0 links);
  count : 0 < l.end → length l.self ≡ 8;
  gaps : end_gaps l.self ≡ end_gaps l.fn.self;
  sent : (slot : ℕ) → SentBy slot l.fn.self → SentBy slot l.self;
}
