-- Synchronisers that have the form are those that a core may have.
use Rattle.std.proofs.Common.{◌≡◌, ℕ, zero, suc, ◌<◌, Bool, true, false, not, IsTrue, List, [], ◌∷◌, length, get_or, take, map, refl, sym, ap, subst, ◌∙◌, arith, inl, inr}
use Rattle.std.specs.Prelude.{slice_index_or}
use Rattle.std.specs.List.{list_any, AllByRecursion}
use Rattle.std.proofs.lemmas.Bool.{eqb-true, eq-eqb, ltb-true, lt-ltb, or_parts, or_from, not_from_true, not_from_false, cases_Bool, cases_order, cases_lt, false≢true}
use Rattle.std.proofs.lemmas.List.{length-take-le, get_or-take, get_or-map, get_or_past, get_or_default}
use Rattle.std.proofs.lemmas.List.Folds.{list_any_at, list_any_none}
use Rattle.xs_model.specs.Masks.{in_mask, members}
use Rattle.sync_locks.specs.declared.state.SyncState.{SyncState}
use Rattle.sync_locks.specs.States.{IsSyncState, unused_state, HaveOneSync, AreSyncStates}
use Rattle.state_forms.specs.Syncs.{is_slave_of, cannot_be_slave, is_master, are_slaves, sync, syncs}
use Rattle.state_forms.proofs.Holding.{flag_holds}
use Rattle.state_forms.proofs.Chains.{chain_at, chain_of, each_at}
use Rattle.state_forms.proofs.Slaves.{in_mask_is, none_by, bit_above, in_none}

not_false : (b : Bool) → not b ≡ false → b ≡ true
not_false true h = refl
not_false false h = absurd cc

not_true : (b : Bool) → not b ≡ true → b ≡ false
not_true true h = absurd cc
not_true false h = refl

-- ---- One

-- what holds of a synchroniser after those before it
pub record IsSync (taken : List Bool) (before : List SyncState) (state : SyncState) : Type 0 where
  pub is : IsSyncState state
  pub fits : state.slaves < 256
  pub not_free : (k : ℕ) → in_mask state.slaves k ≡ true → slice_index_or taken k false ≡ true
  pub alone : (k : ℕ) → in_mask state.slaves k ≡ true → is_slave_of before k ≡ false

module _ (taken : List Bool) (before : List SyncState) where
  abbrev state_of : Bool → ℕ → ℕ → SyncState
  state_of used master slaves = record { used = used; master = master; slaves = slaves }

  can_be : (slaves : ℕ) → slaves < 256 → IsTrue (are_slaves taken before true slaves) → (k : ℕ) → in_mask slaves k ≡ true → (slice_index_or taken k false ≡ true) × (is_slave_of before k ≡ false)
  can_be slaves fits h k its =
      let can : cannot_be_slave taken before k ≡ false =
      in_mask_is taken before slaves (not_true (list_any (cannot_be_slave taken before) (members slaves)) h) k (bit_above slaves k fits its) its in
      let parts = or_parts (not (get_or taken k false)) (is_slave_of before k) can in
      (not_false (get_or taken k false) parts.0, parts.1)

  no_slaves : (slaves k : ℕ) → slaves ≡ 0 → in_mask slaves k ≡ true → ⊥
  no_slaves slaves k none its = in_none k (subst (λ (n : ℕ). in_mask n k ≡ true) none its)

  sync_is : (used : Bool) (master slaves : ℕ) → slaves < 256 → IsTrue (is_master used master) → IsTrue (are_slaves taken before used slaves) → IsSync taken before (state_of used master slaves)
  sync_is true master slaves fits m h = record {
    is = record { master = ltb-true master 8 m; unused = λ never. absurd cc };
    fits = fits;
    not_free = λ k its. (can_be slaves fits h k its).0;
    alone = λ k its. (can_be slaves fits h k its).1;
  }
  sync_is false master slaves fits m h = record {
    is = record { master = let zero = eqb-true master 0 m in omega arith; unused = λ _. (eqb-true master 0 m, eqb-true slaves 0 h) };
    fits = fits;
    not_free = λ k its. absurd (no_slaves slaves k (eqb-true slaves 0 h) its);
    alone = λ k its. absurd (no_slaves slaves k (eqb-true slaves 0 h) its);
  }

  pub sync_holds : (state : SyncState) → (sync taken before).Holds state → IsSync taken before state
  unfolding sync
  sync_holds state h = sync_is state.used state.master state.slaves h.1.1.0 h.1.0.1 h.1.1.1

  sync_by : (used : Bool) (master slaves : ℕ) → IsSync taken before (state_of used master slaves) → IsTrue (is_master used master) × IsTrue (are_slaves taken before used slaves)
  sync_by true master slaves h = (
    lt-ltb master 8 h.is.master,
    not_from_false (list_any (cannot_be_slave taken before) (members slaves)) (none_by taken before slaves (λ k lt its.
        or_from (not (get_or taken k false)) (is_slave_of before k) (not_from_true (get_or taken k false) (h.not_free k its)) (h.alone k its))),
  )
  sync_by false master slaves h = let none = h.is.unused refl in (eq-eqb master 0 none.0, eq-eqb slaves 0 none.1)

  pub sync_of : (state : SyncState) → IsSync taken before state → (sync taken before).Holds state
  unfolding sync
  sync_of state h =
      let tests = sync_by state.used state.master state.slaves h in
      let master = h.is.master in
      (flag_holds state.used, ((omega arith, tests.0), (h.fits, tests.1)))

-- ---- All of them

-- slaves are threads that are not free
abbrev pub SlavesAre : List Bool → List SyncState → Type 0
SlavesAre taken states = (k n : ℕ) → in_mask (slice_index_or states n unused_state).slaves k ≡ true → slice_index_or taken k false ≡ true

-- what holds of the synchronisers of a core on which these threads are not free
pub record AreSyncs (taken : List Bool) (states : List SyncState) : Type 0 where
  pub are : AreSyncStates states
  pub not_free : SlavesAre taken states

module _ (taken : List Bool) (states : List SyncState) where
  abbrev sync_at : ℕ → SyncState
  sync_at i = get_or states i unused_state

  -- only one of them has slaves beyond the list's end
  within : (n k : ℕ) → in_mask (sync_at n).slaves k ≡ true → n < length states
  within n k its =
      elim (cases_lt n (length states)) [
        | inl lt ↦ lt
        | inr le ↦ absurd (in_none k (subst (λ (s : SyncState). in_mask s.slaves k ≡ true) (get_or_past states n unused_state le) its))
      ]

  -- one that is a slave of an earlier one
  earlier : (k m n : ℕ) → m < n → n < length states → in_mask (sync_at m).slaves k ≡ true → is_slave_of (take n states) k ≡ true
  earlier k m n lt long its =
      list_any_at (λ (s : SyncState). in_mask s.slaves k) (take n states) m unused_state (omega (arith, length-take-le n states (omega arith)))
      (ap (λ (s : SyncState). in_mask s.slaves k) (get_or-take n states m unused_state lt) ∙ its)

  module _ (at : (i : ℕ) (d : SyncState) → i < length states → IsSync taken (take i states) (get_or states i d)) where
    not_earlier : (k m n : ℕ) → m < n → in_mask (sync_at m).slaves k ≡ true → in_mask (sync_at n).slaves k ≡ true → ⊥
    not_earlier k m n lt first second =
        let long = within n k second in
        false≢true (sym ((at n unused_state long).alone k second) ∙ earlier k m n lt long first)

    one_sync : HaveOneSync states
    one_sync k m n first second =
        elim (cases_order m n) [
          | inl same ↦ same
          | inr other ↦ elim other [
            | inl lt ↦ absurd (not_earlier k m n lt first second)
            | inr gt ↦ absurd (not_earlier k n m gt second first)
          ]
        ]

    are_syncs : AreSyncs taken states
    are_syncs = record {
      are = record { each = λ i d lt. (at i d lt).is; slaves = one_sync };
      not_free = λ k n its. (at n unused_state (within n k its)).not_free k its;
    }

  pub syncs_hold : (syncs taken).Holds states → AreSyncs taken states
  syncs_hold h = are_syncs (λ i d lt. sync_holds taken (take i states) (get_or states i d) (chain_at (sync taken) [] states h.1 i d lt))

  -- a slave has no earlier synchroniser
  alone_at : AreSyncs taken states → (i : ℕ) → i < length states → (k : ℕ) → in_mask (sync_at i).slaves k ≡ true → is_slave_of (take i states) k ≡ false
  alone_at h i lt k its =
      list_any_none (λ (s : SyncState). in_mask s.slaves k) (take i states) (λ m d within.
      let before : m < i = omega (arith, within, length-take-le i states (omega arith)) in
      let here : get_or (take i states) m d ≡ sync_at m = get_or-take i states m d before ∙ get_or_default states m d unused_state (omega arith) in
      elim (cases_Bool (in_mask (sync_at m).slaves k)) [
        | inl both ↦ let same = h.are.slaves k m i both its in absurd (omega arith)
        | inr none ↦ ap (λ (s : SyncState). in_mask s.slaves k) here ∙ none
      ])

  pub syncs_of : length states ≡ 7 → AllByRecursion (λ state. state.slaves < 256) states → AreSyncs taken states → (syncs taken).Holds states
  syncs_of len fit h = (
    len,
    chain_of (sync taken) unused_state [] states (λ i lt. sync_of taken (take i states) (sync_at i) (record {
      is = h.are.each i unused_state lt;
      fits = each_at (λ (state : SyncState). state.slaves < 256) states fit i unused_state lt;
      not_free = λ k its. h.not_free k i its;
      alone = alone_at h i lt;
    })),
  )

-- ---- Where the threads are told by a test

module _ {T : Type 0} (test : T → Bool) where
  passes_at : (threads : List T) (k : ℕ) (d : T) → get_or (map test threads) k false ≡ true → test (get_or threads k d) ≡ true
  passes_at [] k d h = absurd cc
  passes_at (t ∷ threads) zero d h = h
  passes_at (t ∷ threads) (suc k) d h = passes_at threads k d h

  pub slaves_pass : (threads : List T) (states : List SyncState) (d : T) → SlavesAre (map test threads) states
      → (k n : ℕ) → in_mask (slice_index_or states n unused_state).slaves k ≡ true → test (slice_index_or threads k d) ≡ true
  slaves_pass threads states d h k n its = passes_at threads k d (h k n its)

  slaves_fit : (states : List SyncState) (k n : ℕ) → AllByRecursion (λ state. state.slaves < 256) states → in_mask (get_or states n unused_state).slaves k ≡ true → k < 8
  slaves_fit states k n fit its =
      let long : n < length states = within [] states n k its in
      bit_above (get_or states n unused_state).slaves k (each_at (λ (state : SyncState). state.slaves < 256) states fit n unused_state long) its

  pub slaves_by : (threads : List T) (states : List SyncState) (d : T) → length threads ≡ 8 → AllByRecursion (λ state. state.slaves < 256) states
      → ((k n : ℕ) → in_mask (slice_index_or states n unused_state).slaves k ≡ true → test (slice_index_or threads k d) ≡ true) → SlavesAre (map test threads) states
  slaves_by threads states d len fit h k n its = get_or-map test threads k d false (omega (arith, slaves_fit states k n fit its)) ∙ h k n its
