use Rattle.std.proofs.Common.{◌≤◌, ◌∙◌, length, refl, arith, add-one}
use Rattle.switch_routes.proofs.Rows.{first_arrivals, next-arrivals, all-arrivals, length-first_arrivals, credited-arrivals, length-same}
use Rattle.switch_routes.proofs.links.Links.arrivals.Goals as goal

pub loop-end-init : goal.loop-end-init
unfolding first_arrivals
loop-end-init c = record { stands = λ slot links of. of; count = λ h. absurd (omega arith); gaps = refl; sent = λ slot by. by }

pub loop-end-preserved : goal.loop-end-preserved
loop-end-preserved c =
    let k = c.loop-end.end in
    record {
      stands = λ slot links of.
          let next = next-arrivals k slot c.args.arrivals.now.tokens c.args.arrivals.now.credits 0 k links (omega arith) in
          let done = c.arrive.ensures.stands slot (first_arrivals k slot c.args.arrivals.now.tokens c.args.arrivals.now.credits 0 links) (c.loop-end.invariant.stands slot links of) in
          rw (add-one, ← next) done;
      count = λ h. c.arrive.ensures.count;
      gaps = c.arrive.ensures.gaps ∙ c.loop-end.invariant.gaps;
      sent = λ slot by. c.arrive.ensures.sent slot (c.loop-end.invariant.sent slot by);
    }

pub returns-clause-stands : goal.returns-clause-stands
returns-clause-stands c =
    λ slot links of.
    let k = c.loop-end.end in
    let done = c.loop-end.invariant.stands slot links of in
    let long : length links ≤ k = omega (arith, length-first_arrivals k slot c.args.arrivals.now.tokens c.args.arrivals.now.credits 0 links, length-same _ _ done, c.loop-end.invariant.count (omega arith)) in
    rw (← all-arrivals k slot c.args.arrivals.now.tokens c.args.arrivals.now.credits 0 links long) done

pub returns-clause-credited : goal.returns-clause-credited
returns-clause-credited c = λ slot links by. credited-arrivals slot c.args.arrivals.now.tokens c.args.arrivals.now.credits 0 links by
