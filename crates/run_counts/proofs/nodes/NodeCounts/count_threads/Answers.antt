use Rattle.std.proofs.Common.{ℕ, ◌≡◌, ◌+◌, true, [], length, sym, subst, arith}
use Rattle.std.specs.Prelude.{slice_index_or}
use Rattle.xs_base.specs.declared.numbers.TheConstants.{THREADS}
use Rattle.run_counts.specs.Tallies.{IsOneMore, HasRoom, CountsPlace}
use Rattle.run_counts.proofs.Threads.{char, place, AreShownTo, AreCountedTo, one-shown, one-more-counted, threads-counted, places-counted, thread-room, places-room}
use Rattle.run_counts.proofs.nodes.NodeCounts.count_threads.Goals as goal

pub count_byte-requires : goal.count_byte-requires
count_byte-requires c =
    let a = c.args in
    let plan = a.run.now.plan in
    let k = c.loop-k.k in
    let now = c.loop-k.self.threads in
    record {
      room =
          subst (HasRoom (slice_index_or now k [])) (sym c.char_in-c.ensures)
          (thread-room plan a.slot a.n a.node.now a.self.now.threads now k c.requires.before.threads c.loop-k.invariant.threads (omega (arith, c.loop-k-test.true)) c.ranges.slot.fits);
    }

pub count-requires-clause-room : goal.count-requires-clause-room
count-requires-clause-room c =
    let a = c.args in
    places-room a.run.now.plan a.slot a.n a.node.now a.self.now.places c.loop-k.self.places c.place_in-place.result c.loop-k.k c.requires.before.places c.loop-k.invariant.places (omega (arith, c.loop-k-test.true)) c.ranges.slot.fits

pub loop-k-preserved : goal.loop-k-preserved
loop-k-preserved c =
    let a = c.args in
    let plan = a.run.now.plan in
    let k = c.loop-k.k in
    let kept = c.loop-k.invariant in
    let chars = char plan a.slot a.n a.node.now in
    let places = place plan a.slot a.n a.node.now in
    let now = c.loop-k.self.threads in
    let counted = c.count.ensures.counted in
    record {
      threads =
          one-shown chars k a.self.now.threads now c.count_byte.new.counts kept.threads (omega (arith, kept.rows, c.loop-k-test.true))
          (subst (λ (x : ℕ). IsOneMore true x (slice_index_or now k []) c.count_byte.new.counts) c.char_in-c.ensures c.count_byte.ensures);
      rows = c.count_byte.array_long;
      places =
          one-more-counted places chars k a.self.now.places c.loop-k.self.places c.count.new.self kept.places
          (subst (λ (x : ℕ). CountsPlace (places k) x c.loop-k.self.places c.count.new.self) c.char_in-c.ensures
          (subst (λ (p : ℕ). CountsPlace p c.char_in-c.result c.loop-k.self.places c.count.new.self) c.place_in-place.ensures.value counted));
      long = counted.places (length a.node.now.image.code + 1) kept.long;
      links = kept.links;
    }

pub returns-clause-places : goal.returns-clause-places
returns-clause-places c =
    let a = c.args in
    let plan = a.run.now.plan in
    let kept = c.loop-k.invariant in
    let all : c.loop-k.k ≡ THREADS = omega (arith, c.loop-k-test.false, c.loop-k.auto.k-end) in
    let counted =
    subst (λ (k : ℕ). AreCountedTo (place plan a.slot a.n a.node.now) (char plan a.slot a.n a.node.now) k a.self.now.places c.loop-k.self.places) all kept.places in
    places-counted plan a.slot a.n a.node.now a.self.now.places c.loop-k.self.places c.requires.before.places counted kept.long

pub returns-clause-threads : goal.returns-clause-threads
returns-clause-threads c =
    let a = c.args in
    let plan = a.run.now.plan in
    let all : c.loop-k.k ≡ THREADS = omega (arith, c.loop-k-test.false, c.loop-k.auto.k-end) in
    let shown = subst (λ (k : ℕ). AreShownTo (char plan a.slot a.n a.node.now) k a.self.now.threads c.loop-k.self.threads) all c.loop-k.invariant.threads in
    threads-counted plan a.slot a.n a.node.now a.self.now.threads c.loop-k.self.threads c.requires.before.threads shown
