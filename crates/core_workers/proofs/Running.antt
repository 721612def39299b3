-- A worker's whole run: what turns and a stop leave, one after the other.
use Rattle.std.proofs.Common.{◌≡◌, ◌<◌, List, [], ◌∷◌, refl, sym, ap, ◌∙◌, subst, arith}
use Rattle.std.specs.List.{All, AllByRecursion, AllZip}
use Rattle.std.proofs.lemmas.List.Elements.{All-from_recursion, recursion_from_All}
use Rattle.xs_base.specs.Numbers.{LinkNumber}
use Rattle.sys_plan.specs.Plan.{PlanRec}
use Rattle.link_logs.specs.declared.answers.Cause.{Cause}
use Rattle.link_logs.specs.declared.answers.Cause.TheVariants as cause
use Rattle.link_logs.specs.Logs.{WriteRec}
use Rattle.node_runners.specs.Runner.{RunnerRec}
use Rattle.plan_cells.specs.declared.ends.Outgoing.{Outgoing}
use Rattle.plan_cells.specs.declared.ends.Incoming.{Incoming}
use Rattle.core_workers.specs.Worker.{WorkerRec, IsOpen, StaysIncoming, StaysOutgoing, Stays, IsLeast, Closes, KeepsAllElse, shut_links, closed_with}
use Rattle.core_workers.specs.Run.{KeepsOutgoing, Keeps, IsClosedFor, IsStopped}
use Rattle.core_workers.proofs.Passes.{all_zip_refl, all_zip_then, all_zip_weaker}
use Rattle.core_workers.proofs.Handing.{stays_unread}

-- ---- One end

same_reader : (i : Incoming) → StaysIncoming i i
same_reader i = stays_unread i i refl refl refl refl

reader_then : (a b c : Incoming) → StaysIncoming a b → StaysIncoming b c → StaysIncoming a c
reader_then a b c first then = record {
  end = then.end ∙ first.end;
  link = then.link ∙ first.link;
  table = then.table ∙ first.table;
  run = then.run ∙ first.run;
  number = then.number ∙ first.number;
  got = omega (arith, first.got, then.got);
  looks = omega (arith, first.looks, then.looks);
  shut = λ was. then.shut (first.shut was);
}

same_writer : (o : Outgoing) → KeepsOutgoing o o
same_writer o = record { end = refl; link = refl; table = refl; run = refl; number = refl; published = omega arith }

writer_then : (a b c : Outgoing) → KeepsOutgoing a b → KeepsOutgoing b c → KeepsOutgoing a c
writer_then a b c first then = record {
  end = then.end ∙ first.end;
  link = then.link ∙ first.link;
  table = then.table ∙ first.table;
  run = then.run ∙ first.run;
  number = then.number ∙ first.number;
  published = omega (arith, first.published, then.published);
}

writer_told : (a b : Outgoing) → StaysOutgoing a b → KeepsOutgoing a b
writer_told a b s = record {
  end = s.end;
  link = s.link;
  table = s.table;
  run = ap (λ (w : WriteRec PlanRec). w.run) s.rest;
  number = ap (λ (w : WriteRec PlanRec). w.number) s.rest;
  published = s.published;
}

writer_closed : (cause : Cause) (a b : Outgoing) → Closes cause a b → KeepsOutgoing a b
writer_closed cause a b s =
    let published : b.w.end.published ≡ a.w.end.published = ap (λ (w : WriteRec PlanRec). w.published) s.closed in
    record {
      end = s.end;
      link = s.link;
      table = s.table;
      run = ap (λ (w : WriteRec PlanRec). w.run) s.closed;
      number = ap (λ (w : WriteRec PlanRec). w.number) s.closed;
      published = omega (arith, published);
    }

-- ---- A worker

pub keeps_all : (w : WorkerRec) → Keeps w w
keeps_all w = record {
  cells = refl;
  plan = refl;
  node = refl;
  limit = refl;
  clock = omega arith;
  incoming = all_zip_refl StaysIncoming same_reader w.ends.incoming.items;
  outgoing = all_zip_refl KeepsOutgoing same_writer w.ends.outgoing.items;
}

pub keeps_then : (a b c : WorkerRec) → Keeps a b → Keeps b c → Keeps a c
keeps_then a b c first then = record {
  cells = then.cells ∙ first.cells;
  plan = then.plan ∙ first.plan;
  node = then.node ∙ first.node;
  limit = then.limit ∙ first.limit;
  clock = omega (arith, first.clock, then.clock);
  incoming = all_zip_then StaysIncoming reader_then a.ends.incoming.items b.ends.incoming.items c.ends.incoming.items first.incoming then.incoming;
  outgoing = all_zip_then KeepsOutgoing writer_then a.ends.outgoing.items b.ends.outgoing.items c.ends.outgoing.items first.outgoing then.outgoing;
}

pub turn_keeps : (a b : WorkerRec) → Stays a b → Keeps a b
turn_keeps a b s = record {
  cells = s.cells;
  plan = s.plan;
  node = s.node;
  limit = s.limit;
  clock = s.clock;
  incoming = s.incoming;
  outgoing = all_zip_weaker StaysOutgoing KeepsOutgoing writer_told a.ends.outgoing.items b.ends.outgoing.items s.outgoing;
}

-- ---- A stop

module _ (cause : Cause) where
  pub stop_keeps : (a b : WorkerRec) → AllZip (Closes cause) a.ends.outgoing.items b.ends.outgoing.items → KeepsAllElse a b → Keeps a b
  stop_keeps a b closed rest =
      let clock : b.runner.clock ≡ a.runner.clock = ap (λ (r : RunnerRec). r.clock) rest.runner in
      let readers : b.ends.incoming.items ≡ a.ends.incoming.items = λ i. (rest.incoming i).items in
      record {
        cells = rest.cells;
        plan = ap (λ (r : RunnerRec). r.plan) rest.runner;
        node = ap (λ (r : RunnerRec). r.node) rest.runner;
        limit = ap (λ (r : RunnerRec). r.horizon.limit) rest.runner;
        clock = omega (arith, clock);
        incoming = subst (λ (is : List Incoming). AllZip StaysIncoming a.ends.incoming.items is) (sym readers) (all_zip_refl StaysIncoming same_reader a.ends.incoming.items);
        outgoing = all_zip_weaker (Closes cause) KeepsOutgoing (writer_closed cause) a.ends.outgoing.items b.ends.outgoing.items closed;
      }

  each_closed : (old new : List Outgoing) → AllZip (Closes cause) old new → AllByRecursion IsOpen old → AllByRecursion (IsClosedFor cause) new
  each_closed [] [] all are = tt
  each_closed [] (y ∷ new) all are = absurd all
  each_closed (x ∷ old) [] all are = tt
  each_closed (x ∷ old) (y ∷ new) all are = (ap (λ (w : WriteRec PlanRec). w.cause) all.0.closed ∙ ap (closed_with cause) are.0, each_closed old new all.1 are.1)

  -- where the logs were open, they are closed for this cause now
  pub all_closed : (old new : List Outgoing) → AllZip (Closes cause) old new → All IsOpen old → All (IsClosedFor cause) new
  all_closed old new all are = All-from_recursion (IsClosedFor cause) new (each_closed old new all (recursion_from_All IsOpen old are))

pub stopped_by : (now after : WorkerRec) (link : LinkNumber) → now.runner.clock < now.runner.horizon.limit → IsLeast link (shut_links now.ends.incoming.items) → All IsOpen now.ends.outgoing.items
    → AllZip (Closes (cause.Neighbour link)) now.ends.outgoing.items after.ends.outgoing.items → KeepsAllElse now after → IsStopped after
stopped_by now after link below least are closed rest =
    let clock : after.runner.clock ≡ now.runner.clock = ap (λ (r : RunnerRec). r.clock) rest.runner in
    let limit : after.runner.horizon.limit ≡ now.runner.horizon.limit = ap (λ (r : RunnerRec). r.horizon.limit) rest.runner in
    let readers : after.ends.incoming.items ≡ now.ends.incoming.items = λ i. (rest.incoming i).items in
    record {
      link = link;
      below = omega (arith, below, clock, limit);
      least = subst (λ (is : List Incoming). IsLeast link (shut_links is)) (sym readers) least;
      closed = all_closed (cause.Neighbour link) now.ends.outgoing.items after.ends.outgoing.items closed are;
    }
