use Rattle.std.proofs.Common.{◌≡◌, ◌+◌, ◌<◌, ◌≤◌, List, [], ◌∷◌, ◌++◌, length, take, get_or, sym, ap, ◌∙◌, subst, arith}
use Rattle.std.proofs.lemmas.Grind.{common_steps}
use Rattle.std.proofs.lemmas.List.{length-map}
use Rattle.sys_plan.specs.declared.LinkPlan.{LinkPlan}
use Rattle.sys_plan.specs.Plan.{link_arcs}
use Rattle.snap_parts.specs.InFlight.{AreLinkEntries}
use Rattle.snap_parts.specs.Parts.{LogRec, seen, body_of}
use Rattle.run_plan.specs.declared.track.Track.{Track}
use Rattle.run_plan.specs.Begins.{AllBegin, LinkBegins}
use Rattle.run_plan.proofs.Begins.{there-log, back-log, links-so-far, links-whole, seen-here, tracks-grow}
use Rattle.run_plan.proofs.Resumes.{links-ready}
use Rattle.run_plan.proofs.begun.tracks_by.Goals as goal

pub index-there-requires : goal.index-there-requires
index-there-requires c =
    let plan = c.args.plan.now in
    let snap = c.args.snap.now in
    let body = body_of snap in
    let i = c.loop-link.link-index in
    let tracks = c.loop-link.tracks.items in
    let inside : i < length plan.links = omega (arith, ap (λ (xs : List LinkPlan). length xs) c.links-link-items.ensures.value) in
    let so_far = links-so-far plan body c.requires.snap i tracks c.loop-link.invariant.begin inside in
    let count : c.len-k.result ≡ length tracks = c.len-k.ensures ∙ c.loop-link.tracks.ok.0 in
    omega (arith, so_far.1, count, length-map snap.logs.items seen)

pub index-back-requires : goal.index-back-requires
index-back-requires c =
    let plan = c.args.plan.now in
    let snap = c.args.snap.now in
    let body = body_of snap in
    let i = c.loop-link.link-index in
    let tracks = c.loop-link.tracks.items in
    let inside : i < length plan.links = omega (arith, ap (λ (xs : List LinkPlan). length xs) c.links-link-items.ensures.value) in
    let so_far = links-so-far plan body c.requires.snap i tracks c.loop-link.invariant.begin inside in
    let count : c.len-k.result ≡ length tracks = c.len-k.ensures ∙ c.loop-link.tracks.ok.0 in
    omega (arith, so_far.1, count, length-map snap.logs.items seen)

pub track_by-requires-clause-log : goal.track_by-requires-clause-log
track_by-requires-clause-log c =
    let plan = c.args.plan.now in
    let snap = c.args.snap.now in
    let body = body_of snap in
    let i = c.loop-link.link-index in
    let tracks = c.loop-link.tracks.items in
    let inside : i < length plan.links = omega (arith, ap (λ (xs : List LinkPlan). length xs) c.links-link-items.ensures.value) in
    let so_far = links-so-far plan body c.requires.snap i tracks c.loop-link.invariant.begin inside in
    let count : c.len-k.result ≡ length tracks = c.len-k.ensures ∙ c.loop-link.tracks.ok.0 in
    let lent = c.links-link-items.result.now in
    let d : LinkPlan = record { a = 0; a_end = 0; b = 0; b_end = 0; delay = 0; gap = 0; net = 0 } in
    let here : get_or plan.links i d ≡ get_or lent i d = ap (λ (xs : List LinkPlan). get_or xs i d) (sym c.links-link-items.ensures.value) in
    let k = c.len-k.result in
    let log = c.index-there.result.now in
    subst (λ (l : LogRec). AreLinkEntries snap.slot (get_or lent i d).delay l.entries) (seen-here snap.logs.items k log c.index-there.ensures)
    (there-log plan body c.requires.snap i k (get_or lent i d) d (seen log) (omega (arith, so_far.0, count)) inside here)

pub track_by-requires-in-loop-link-clause-log : goal.track_by-requires-in-loop-link-clause-log
track_by-requires-in-loop-link-clause-log c =
    let plan = c.args.plan.now in
    let snap = c.args.snap.now in
    let body = body_of snap in
    let i = c.loop-link.link-index in
    let tracks = c.loop-link.tracks.items in
    let inside : i < length plan.links = omega (arith, ap (λ (xs : List LinkPlan). length xs) c.links-link-items.ensures.value) in
    let so_far = links-so-far plan body c.requires.snap i tracks c.loop-link.invariant.begin inside in
    let count : c.len-k.result ≡ length tracks = c.len-k.ensures ∙ c.loop-link.tracks.ok.0 in
    let lent = c.links-link-items.result.now in
    let d : LinkPlan = record { a = 0; a_end = 0; b = 0; b_end = 0; delay = 0; gap = 0; net = 0 } in
    let here : get_or plan.links i d ≡ get_or lent i d = ap (λ (xs : List LinkPlan). get_or xs i d) (sym c.links-link-items.ensures.value) in
    let k = c.len-k.result + 1 in
    let log = c.index-back.result.now in
    subst (λ (l : LogRec). AreLinkEntries snap.slot (get_or lent i d).delay l.entries) (seen-here snap.logs.items k log c.index-back.ensures)
    (back-log plan body c.requires.snap i k (get_or lent i d) d (seen log) (omega (arith, so_far.0, count)) inside here)

pub loop-link-preserved : goal.loop-link-preserved
loop-link-preserved c =
    let plan = c.args.plan.now in
    let snap = c.args.snap.now in
    let body = body_of snap in
    let i = c.loop-link.link-index in
    let tracks = c.loop-link.tracks.items in
    let inside : i < length plan.links = omega (arith, ap (λ (xs : List LinkPlan). length xs) c.links-link-items.ensures.value) in
    let so_far = links-so-far plan body c.requires.snap i tracks c.loop-link.invariant.begin inside in
    let count : c.len-k.result ≡ length tracks = c.len-k.ensures ∙ c.loop-link.tracks.ok.0 in
    let lent = c.links-link-items.result.now in
    let d : LinkPlan = record { a = 0; a_end = 0; b = 0; b_end = 0; delay = 0; gap = 0; net = 0 } in
    let here : get_or plan.links i d ≡ get_or lent i d = ap (λ (xs : List LinkPlan). get_or xs i d) (sym c.links-link-items.ensures.value) in
    let logs = snap.logs.items in
    let to = c.in_ok-to.to in
    let fro = c.in_ok-fro.fro in
    let first : c.push.new.self.items ≡ tracks ++ to ∷ [] = grind (arith, common_steps) in
    let second : c.push-in-loop-link.new.self.items ≡ c.push.new.self.items ++ fro ∷ [] = grind (arith, common_steps) in
    let there = c.index-there.result.now in
    let again = c.index-back.result.now in
    let one = seen-here logs (length tracks) there (c.index-there.ensures ∙ ap (λ k. get_or logs k there) count) in
    let two = seen-here logs (length tracks + 1) again (c.index-back.ensures ∙ ap (λ k. get_or logs (k + 1) again) count) in
    let grown =
    tracks-grow snap.slot i plan.links body.logs tracks (get_or lent i d) d (seen there) (seen again) to fro c.loop-link.invariant.begin inside so_far.1 here one two
    c.in_ok-to.ensures.begins c.in_ok-fro.ensures.begins in
    record {
      begin =
          subst (λ (ts : List Track). AllBegin (LinkBegins snap.slot) 0 (link_arcs (take (i + 1) plan.links)) (take (length ts) body.logs) ts) (sym (second ∙ ap (λ (ts : List Track). ts ++ fro ∷ []) first)) grown;
    }

pub returns-clause-begin : goal.returns-clause-begin
returns-clause-begin c =
    let plan = c.args.plan.now in
    let snap = c.args.snap.now in
    let body = body_of snap in
    let i = c.loop-link.link-index in
    let tracks = c.loop-link.tracks.items in
    let all : length plan.links ≤ i = omega (arith, ap (λ (xs : List LinkPlan). length xs) c.links-link-items.ensures.value) in
    links-whole snap.slot i plan.links body.logs tracks all c.loop-link.invariant.begin

pub returns-clause-ready : goal.returns-clause-ready
returns-clause-ready c =
    let plan = c.args.plan.now in
    let snap = c.args.snap.now in
    let body = body_of snap in
    let i = c.loop-link.link-index in
    let tracks = c.loop-link.tracks.items in
    let all : length plan.links ≤ i = omega (arith, ap (λ (xs : List LinkPlan). length xs) c.links-link-items.ensures.value) in
    links-ready plan snap.slot (take (length (link_arcs plan.links)) body.logs) tracks c.links-link-items.ensures.plan (links-whole snap.slot i plan.links body.logs tracks all c.loop-link.invariant.begin)
