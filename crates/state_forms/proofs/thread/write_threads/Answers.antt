use Rattle.std.proofs.Common.{◌≡◌, ℕ, ◌+◌, List, [], ◌∷◌, ◌++◌, Option, None, length, get_or, take, drop, refl, arith}
use Rattle.std.proofs.lemmas.List.{length-take, take_more, drop_more, drop_all}
use Rattle.std.specs.List.{zip}
use Rattle.xs_model.specs.declared.thread.Thread.{Thread}
use Rattle.xs_model.specs.declared.thread.Run.TheVariants.{Free}
use Rattle.byte_forms.specs.Forms.{Form, write_chain}
use Rattle.byte_forms.proofs.Lists.{writes_on, writes_all}
use Rattle.state_forms.specs.Threads.{thread}
use Rattle.state_forms.proofs.Zips.{zip_push}
use Rattle.state_forms.proofs.thread.write_threads.Goals as goal

-- what stands for a thread past the end of a list
abbrev blank : Thread
blank = record {
  r = [];
  cp = 0;
  dp = 0;
  sp = 0;
  lr = 0;
  pc = 0;
  sr = record { bits = 0 };
  spc = 0;
  ssr = record { bits = 0 };
  et = 0;
  ed = 0;
  sed = 0;
  kep = 0;
  ksp = 0;
  run = Free;
}

pub loop-k-preserved : goal.loop-k-preserved
loop-k-preserved c slot =
    let form : List (Thread × Option ℕ) → Form (Thread × Option ℕ) = λ before. thread slot in
    let k = c.loop-k.k in
    let threads = c.args.threads.now in
    let last = c.args.last.now in
    let th = get_or threads k blank in
    let its_last = get_or last k None in
    let same : length (take k threads) ≡ length (take k last) = omega (arith, length-take k threads, length-take k last) in
    let front : zip (take (k + 1) threads) (take (k + 1) last) ≡ zip (take k threads) (take k last) ++ (th, its_last) ∷ [] =
    rw (take_more threads k blank (omega arith), take_more last k None (omega arith)) (zip_push (take k threads) (take k last) th its_last same) in
    let rest : zip (drop k threads) (drop k last) ≡ (th, its_last) ∷ zip (drop (k + 1) threads) (drop (k + 1) last) =
    rw (drop_more threads k blank (omega arith), drop_more last k None (omega arith)) refl in
    let so_far = rw rest at (c.loop-k.invariant slot) in
    rw (c.in_ok-write_thread.ensures.value slot, front)
    (writes_on form c.loop-k.out (zip (take k threads) (take k last)) (th, its_last) (zip (drop (k + 1) threads) (drop (k + 1) last))
    (c.args.out.now ++ write_chain form [] (zip threads last)) so_far)

pub returns : goal.returns
returns c =
    record {
      value = λ slot.
          let form : List (Thread × Option ℕ) → Form (Thread × Option ℕ) = λ before. thread slot in
          let k = c.loop-k.k in
          let threads = c.args.threads.now in
          let last = c.args.last.now in
          let so_far = rw (drop_all k threads (omega arith)) at (c.loop-k.invariant slot) in
          writes_all form c.loop-k.out (zip (take k threads) (take k last)) (c.args.out.now ++ write_chain form [] (zip threads last)) so_far;
    }
