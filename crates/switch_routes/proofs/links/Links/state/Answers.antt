use Rattle.std.proofs.Common.{◌≡◌, ◌∙◌, None, List, length, get_or, refl, sym, subst, arith}
use Rattle.std.specs.Prelude.{map}
use Rattle.std.specs.List.{AllByRecursion}
use Rattle.std.proofs.lemmas.List.{length-set}
use borrow.Author.Count.{below_more}
use Rattle.made_lists.proofs.Filled.{filled_all}
use Rattle.link_ends.specs.States.{IsEndState}
use Rattle.link_ends.specs.declared.state.EndState.{EndState}
use Rattle.switch_routes.specs.Rows.{AllCountsOf}
use Rattle.switch_routes.specs.States.{place_state, link_of}
use Rattle.switch_routes.proofs.States.{placed_more, facts-of-row, row-stands}
use Rattle.switch_routes.proofs.links.Links.state.Goals as goal

pub loop-end-init : goal.loop-end-init
loop-end-init c = record { count = λ h. absurd (omega (arith, h)); long = c.default-states.ensures.long; done = refl; facts = λ k h. absurd (omega (arith, h)) }

pub loop-end-preserved : goal.loop-end-preserved
loop-end-preserved c =
    let row = c.args.self.now in
    let e = c.loop-end.end in
    let count : length row ≡ 8 = c.state_at.ensures.count in
    record {
      count = λ h. count;
      long = length-set c.loop-end.states e c.state_at.result ∙ c.loop-end.invariant.long;
      done = placed_more place_state row c.loop-end.states e None c.state_at.result (omega arith) (omega arith) c.state_at.ensures.value c.loop-end.invariant.done;
      facts =
          below_more (λ k. IsEndState (place_state (get_or row k None))) e c.loop-end.invariant.facts (subst IsEndState c.state_at.ensures.value c.state_at.ensures.facts);
    }

pub returns : goal.returns
returns c =
    let row = c.args.self.now in
    let count : length row ≡ 8 = c.loop-end.invariant.count (omega arith) in
    let value : c.loop-end.states ≡ map place_state row = filled_all place_state row c.loop-end.states c.loop-end.end (omega arith) (omega arith) c.loop-end.invariant.done in
    let facts : AllByRecursion IsEndState (map place_state row) = facts-of-row row 8 (omega arith) (λ k h. c.loop-end.invariant.facts k (omega (arith, h))) in
    record {
      value = value;
      facts = subst (AllByRecursion IsEndState) (sym value) facts;
      stands = subst (λ (states : List EndState). AllCountsOf row (map link_of states)) (sym value) (row-stands row facts);
    }
