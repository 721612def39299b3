-- The law of threads.
use Rattle.std.proofs.Common.{◌≡◌, ℕ, zero, suc, IsTrue, ltb, eqb, List, [], ◌∷◌, length, get_or, refl, arith}
use Rattle.std.proofs.lemmas.Bool.{ltb-true, eqb-true}
use Rattle.xs_model.specs.declared.thread.Run.{Run}
use Rattle.xs_model.specs.declared.thread.Run.TheVariants.{Free, Unstarted, AtSync, Going, Paused, Halted}
use Rattle.xs_model.specs.declared.thread.Wait.{Wait}
use Rattle.xs_model.specs.declared.thread.Wait.TheVariants.{Room, Tokens, PortFull, PortEmpty, PortIdle, Timer, Lock, Slaves, Choice, Divider}
use Rattle.xs_model.specs.Status.{status}
use Rattle.byte_forms.specs.Laws.{Lawful}
use Rattle.byte_forms.proofs.Fields.{byte-lawful, word-lawful}
use Rattle.byte_forms.proofs.Parts.{both-lawful, where-lawful, below-lawful, option_below-lawful, seen-lawful}
use Rattle.byte_forms.proofs.Lists.{repeat-lawful}
use Rattle.state_forms.specs.Threads.{is_status_word, bits_of, status_word, wait_kinds, things_of, wait_numbers, is_wait_count, wait_of, wait_fields, run_of, run_fields, run}
use Rattle.state_forms.specs.Threads.{thread_of, thread_fields, thread_state, thread}

-- ---- Status registers

pub status_word-lawful : Lawful status_word
unfolding status_word
status_word-lawful = seen-lawful status bits_of (where-lawful is_status_word word-lawful) (λ w h. refl) (λ sr. refl)

-- ---- What a thread does

wait_back : (kind number count : ℕ) → IsTrue (ltb kind 10) → IsTrue (ltb number (things_of kind)) → IsTrue (is_wait_count 4 kind count)
    → wait_fields (wait_of kind number count) ≡ (kind, (number, count))
wait_back zero number count h n c = refl
wait_back (suc zero) number count h n c = refl
wait_back (suc (suc zero)) number count h n c = rw (eqb-true count 0 c) refl
wait_back (suc (suc (suc zero))) number count h n c = rw (eqb-true count 0 c) refl
wait_back (suc (suc (suc (suc zero)))) number count h n c = rw (eqb-true count 0 c) refl
wait_back (suc (suc (suc (suc (suc zero))))) number count h n c = rw (eqb-true count 0 c) refl
wait_back (suc (suc (suc (suc (suc (suc zero)))))) number count h n c = rw (eqb-true count 0 c) refl
wait_back (suc (suc (suc (suc (suc (suc (suc zero))))))) number count h n c = rw (eqb-true count 0 c) refl
wait_back (suc (suc (suc (suc (suc (suc (suc (suc zero)))))))) number count h n c =
    let none : number ≡ 0 = omega (arith, ltb-true number 1 n) in
    rw (none, eqb-true count 0 c) refl
wait_back (suc (suc (suc (suc (suc (suc (suc (suc (suc zero))))))))) number count h n c =
    let none : number ≡ 0 = omega (arith, ltb-true number 1 n) in
    rw (none, eqb-true count 0 c) refl
wait_back (suc (suc (suc (suc (suc (suc (suc (suc (suc (suc kind)))))))))) number count h n c =
    absurd (omega (arith, ltb-true (suc (suc (suc (suc (suc (suc (suc (suc (suc (suc kind)))))))))) 10 h))

wait_again : (wait : Wait) → wait_of (wait_fields wait).0 (wait_fields wait).1.0 (wait_fields wait).1.1 ≡ wait
wait_again (Room chan count) = refl
wait_again (Tokens chan count) = refl
wait_again (PortFull port) = refl
wait_again (PortEmpty port) = refl
wait_again (PortIdle port) = refl
wait_again (Timer timer) = refl
wait_again (Lock lock) = refl
wait_again (Slaves sync) = refl
wait_again Choice = refl
wait_again Divider = refl

-- a thread that is not paused waits for nothing
nothing : (tag kind number count : ℕ) → IsTrue (ltb kind 1) → IsTrue (ltb number 1) → IsTrue (eqb count 0)
    → ◌≡◌ {A = ℕ × (ℕ × (ℕ × ℕ))} (tag, (0, (0, 0))) (tag, (kind, (number, count)))
nothing tag kind number count k n c =
    let no_kind : kind ≡ 0 = omega (arith, ltb-true kind 1 k) in
    let no_number : number ≡ 0 = omega (arith, ltb-true number 1 n) in
    rw (no_kind, no_number, eqb-true count 0 c) refl

run_back : (tag kind number count : ℕ) → IsTrue (ltb tag 6) → IsTrue (ltb kind (wait_kinds tag))
    → IsTrue (ltb number (wait_numbers tag kind)) → IsTrue (is_wait_count tag kind count) → run_fields (run_of (tag, (kind, (number, count)))) ≡ (tag, (kind, (number, count)))
run_back zero kind number count t k n c = nothing 0 kind number count k n c
run_back (suc zero) kind number count t k n c = nothing 1 kind number count k n c
run_back (suc (suc zero)) kind number count t k n c = nothing 2 kind number count k n c
run_back (suc (suc (suc zero))) kind number count t k n c = nothing 3 kind number count k n c
run_back (suc (suc (suc (suc zero)))) kind number count t k n c = rw (wait_back kind number count k n c) refl
run_back (suc (suc (suc (suc (suc zero))))) kind number count t k n c = nothing 5 kind number count k n c
run_back (suc (suc (suc (suc (suc (suc tag)))))) kind number count t k n c = absurd (omega (arith, ltb-true (suc (suc (suc (suc (suc (suc tag)))))) 6 t))

run_again : (r : Run) → run_of (run_fields r) ≡ r
run_again Free = refl
run_again Unstarted = refl
run_again AtSync = refl
run_again Going = refl
run_again (Paused wait) = rw (wait_again wait) refl
run_again Halted = refl

pub run-lawful : Lawful run
unfolding run
run-lawful =
    seen-lawful run_of run_fields
    (both-lawful (below-lawful 6 byte-lawful) (λ tag. both-lawful (below-lawful (wait_kinds tag) byte-lawful) (λ kind. both-lawful (below-lawful (wait_numbers tag kind) byte-lawful)
    (λ number. where-lawful (is_wait_count tag kind) byte-lawful))))
    (λ p h. run_back p.0 p.1.0 p.1.1.0 p.1.1.1 h.0.1 h.1.0.1 h.1.1.0.1 h.1.1.1.1) run_again

-- ---- Threads

-- a list of five by its places
five : (xs : List ℕ) → length xs ≡ 5 → get_or xs 0 0 ∷ get_or xs 1 0 ∷ get_or xs 2 0 ∷ get_or xs 3 0 ∷ get_or xs 4 0 ∷ [] ≡ xs
five (a ∷ b ∷ c ∷ d ∷ e ∷ []) len = refl
five [] len = absurd (omega arith)
five (a ∷ []) len = absurd (omega arith)
five (a ∷ b ∷ []) len = absurd (omega arith)
five (a ∷ b ∷ c ∷ []) len = absurd (omega arith)
five (a ∷ b ∷ c ∷ d ∷ []) len = absurd (omega arith)
five (a ∷ b ∷ c ∷ d ∷ e ∷ f ∷ xs) len = absurd (omega arith)

pub thread_state-lawful : Lawful thread_state
unfolding thread_state
thread_state-lawful =
    seen-lawful thread_of thread_fields
    (both-lawful (repeat-lawful 12 word-lawful) (λ r. both-lawful (repeat-lawful 5 word-lawful) (λ pointers. both-lawful status_word-lawful (λ sr. both-lawful word-lawful
    (λ spc. both-lawful status_word-lawful (λ ssr. both-lawful (repeat-lawful 5 word-lawful) (λ traps. run-lawful)))))))
    (λ p h. rw (five p.1.0 h.1.0.0, five p.1.1.1.1.1.0 h.1.1.1.1.1.0.0) refl) (λ th. refl)

pub thread-lawful : (slot : ℕ) → Lawful (thread slot)
unfolding thread
thread-lawful slot = both-lawful thread_state-lawful (λ th. option_below-lawful slot word-lawful)
