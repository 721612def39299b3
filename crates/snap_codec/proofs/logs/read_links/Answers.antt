use Rattle.std.proofs.Common.{◌≡◌, ◌+◌, ◌<◌, ◌≤◌, List, length, map, Ok, ap, subst, ◌∙◌}
use Rattle.std.proofs.lemmas.List.{length_push}
use Rattle.std.proofs.lemmas.Result.{err_from_is_err_and}
use Rattle.sys_plan.specs.declared.LinkPlan.{LinkPlan}
use Rattle.snap_parts.specs.Parts.{LogRec, seen}
use Rattle.byte_forms.specs.Forms.{chain}
use Rattle.byte_forms.specs.Reading.{Refuses}
use Rattle.byte_forms.proofs.Lists.{reads_on, refuses_all, reads_all}
use Rattle.snap_codec.specs.Body.{by_number, in_pairs, link_pair, pair_after}
use Rattle.snap_codec.proofs.Loops.{link_is, two_seen, told_refuses}
use Rattle.snap_codec.proofs.Pairs.{pushed_even, pushed_pairs}
use Rattle.snap_codec.proofs.logs.read_links.Goals as goal

pub returns-in_err-forth : goal.returns-in_err-forth
returns-in_err-forth c =
    let p = err_from_is_err_and c.from_residual.result c.from_residual.ensures.1 in
    let plan = c.args.plan.now in
    let form = pair_after plan c.args.slot c.args.all.now in
    let fault = c.in_err-forth.field-0.0 in
    let i = c.loop-link.link-index in
    let before = in_pairs (map seen c.loop-link.logs.items) in
    let lt = subst (λ (ls : List LinkPlan). i < length ls) c.links-each.ensures.value c.loop-link-test.true in
    let link = link_is plan.links c.links-each.result.now i (length before) _ c.links-each.ensures.value c.loop-link.invariant.len c.loop-link-test.true in
    let here = subst (λ (l : LinkPlan). Refuses (link_pair c.args.slot c.args.all.now l) c.loop-link.from fault) link c.in_err-forth.ensures.value in
    let refused = refuses_all form (length plan.links) i before c.loop-link.from c.args.from.now c.loop-link.invariant.so_far fault lt here in
    rw (p.1, p.2) (record { value = told_refuses (chain (length plan.links) form) by_number in_pairs c.args.from.now fault refused })

pub loop-link-preserved : goal.loop-link-preserved
loop-link-preserved c =
    let plan = c.args.plan.now in
    let form = pair_after plan c.args.slot c.args.all.now in
    let i = c.loop-link.link-index in
    let logs = map seen c.loop-link.logs.items in
    let new = map seen c.push-in-loop-link.new.self.items in
    let forth = seen c.in_ok-forth.forth in
    let back = seen c.in_ok-forth.back in
    let two = two_seen c.loop-link.logs.items c.push.new.self.items c.push-in-loop-link.new.self.items c.in_ok-forth.forth c.in_ok-forth.back c.in_ok-push.ensures.items c.in_ok-push-2.ensures.items in
    let even = c.loop-link.invariant.even in
    let pairs = pushed_pairs logs new forth back even two in
    let lt = subst (λ (ls : List LinkPlan). i < length ls) c.links-each.ensures.value c.loop-link-test.true in
    let link = link_is plan.links c.links-each.result.now i (length (in_pairs logs)) _ c.links-each.ensures.value c.loop-link.invariant.len c.loop-link-test.true in
    let here = subst (λ (l : LinkPlan). (link_pair c.args.slot c.args.all.now l).read c.loop-link.from ≡ Ok ((forth, back), c.read_pair.new.from)) link c.in_ok-forth.ensures.value in
    record {
      even = pushed_even logs new forth back even two;
      len = ap length pairs ∙ length_push (in_pairs logs) (forth, back) ∙ ap (λ n. n + 1) c.loop-link.invariant.len;
      so_far = rw pairs (reads_on form (length plan.links) i (in_pairs logs) c.loop-link.from c.args.from.now c.loop-link.invariant.so_far (forth, back) c.read_pair.new.from lt here);
    }

pub returns : goal.returns
returns c =
    let plan = c.args.plan.now in
    let le = subst (λ (ls : List LinkPlan). length ls ≤ c.loop-link.link-index) c.links-each.ensures.value c.loop-link-test.false in
    let all = reads_all (pair_after plan c.args.slot c.args.all.now) (length plan.links) c.loop-link.link-index (in_pairs (map seen c.loop-link.logs.items)) c.loop-link.from c.args.from.now
    c.loop-link.invariant.so_far le
    in
    record { value = rw all (ap (λ (ls : List LogRec). Ok (ls, c.loop-link.from)) c.loop-link.invariant.even) }
