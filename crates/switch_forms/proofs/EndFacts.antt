-- Link ends that have the form are those that a state may have.
use Rattle.std.proofs.Common.{◌≡◌, ℕ, ◌<◌, ◌≤◌, Bool, true, false, IsTrue, cond, ltb, Option, Some, None, List, [], length, get_or, take, refl, sym, ap, subst, ◌∙◌, arith}
use Rattle.std.proofs.lemmas.Bool.{eqb-true, ltb-true, lt-ltb, eq-eqb}
use Rattle.std.proofs.lemmas.List.{length-take-le}
use Rattle.std.specs.Prelude.{IfSome, slice_index_or}
use Rattle.std.specs.List.{AllByRecursion}
use Rattle.xs_base.specs.declared.token.Token.{Token}
use Rattle.link_ends.specs.declared.state.EndState.{EndState}
use Rattle.link_ends.specs.States.{absent_end, IsEndState}
use Rattle.byte_forms.specs.Forms.{flag_and_value}
use Rattle.state_forms.specs.Buffers.{BufferFits}
use Rattle.switch_forms.specs.Ends.{is_there, may_have_sent, is_last, link_end, link_ends}
use Rattle.state_forms.proofs.Holding.{flag_holds}
use Rattle.state_forms.proofs.Chains.{chain_at, chain_of, each_of, each_at}
use Rattle.state_forms.proofs.BufferFacts.{buffer_holds, buffer_of}

-- ---- One

-- what holds of a link end that the plan has or not, in a snapshot of a slot
pub record IsEnd (there : Bool) (slot : ℕ) (state : EndState) : Type 0 where
  pub is : IsEndState state
  pub present : state.present ≡ there
  pub last : IfSome state.last (λ s. s < slot)

abbrev the_end : Bool → List Token → ℕ → Option ℕ → EndState
the_end present tokens window last = record { present = present; buffer = record { items = tokens }; window = window; last = last }

last_is : (slot : ℕ) (last : Option ℕ) → IsTrue (is_last slot (flag_and_value last).0 (flag_and_value last).1) → IfSome last (λ s. s < slot)
last_is slot None h = tt
last_is slot (Some s) h = ltb-true s slot h

never_is : (window : ℕ) (last : Option ℕ) → IsTrue (may_have_sent true window (flag_and_value last).0) → last ≡ None → window ≡ 0
never_is window None h none = eqb-true window 0 h
never_is window (Some s) h none = absurd cc

is_absent : (tokens : List Token) (window : ℕ) (last : Option ℕ) → tokens ≡ [] → window ≡ 0 → IsTrue (may_have_sent false window (flag_and_value last).0) → the_end false tokens window last ≡ absent_end
is_absent tokens window None empty zero h = ap (λ xs. the_end false xs window None) empty ∙ ap (λ n. the_end false [] n None) zero
is_absent tokens window (Some s) empty zero h = absurd cc

absent_is : IsEndState absent_end
absent_is = record { window = omega arith; never = λ none. refl; absent = λ absent. refl }

end_is : (there : Bool) (slot : ℕ) (present : Bool) (tokens : List Token) (window : ℕ) (last : Option ℕ) → IsTrue (is_there there present) → (there ≡ false → tokens ≡ []) → IsTrue (ltb window (cond there 9 1))
    → IsTrue (may_have_sent there window (flag_and_value last).0) → IsTrue (is_last slot (flag_and_value last).0 (flag_and_value last).1) → IsEnd there slot (the_end present tokens window last)
end_is true slot true tokens window last here empty fits sent before = record {
  is = record { window = let lt = ltb-true window 9 fits in omega arith; never = never_is window last sent; absent = λ never. absurd cc };
  present = refl;
  last = last_is slot last before;
}
end_is true slot false tokens window last here empty fits sent before = absurd cc
end_is false slot true tokens window last here empty fits sent before = absurd cc
end_is false slot false tokens window last here empty fits sent before = record {
  is = subst IsEndState (sym (is_absent tokens window last (empty refl) (let lt = ltb-true window 1 fits in omega arith) sent)) absent_is;
  present = refl;
  last = last_is slot last before;
}

pub end_holds : (there : Bool) (slot : ℕ) (state : EndState) → (link_end there slot).Holds state → IsEnd there slot state
unfolding link_end
end_holds there slot state h =
    end_is there slot state.present state.buffer.items state.window state.last h.0.1 (buffer_holds there state.buffer h.1.0).1 h.1.1.0.1 h.1.1.1.0.1 h.1.1.1.1.1

last_of : (slot : ℕ) (last : Option ℕ) → slot ≤ 4294967296 → IfSome last (λ s. s < slot) → ((flag_and_value last).1 < 4294967296) × IsTrue (is_last slot (flag_and_value last).0 (flag_and_value last).1)
last_of slot None long h = (omega arith, refl)
last_of slot (Some s) long h = (omega arith, lt-ltb s slot h)

sent_of : (window : ℕ) (last : Option ℕ) → (last ≡ None → window ≡ 0) → IsTrue (may_have_sent true window (flag_and_value last).0)
sent_of window None never = eq-eqb window 0 (never refl)
sent_of window (Some s) never = refl

end_by : (there : Bool) (slot : ℕ) (present : Bool) (tokens : List Token) (window : ℕ) (last : Option ℕ) → slot ≤ 4294967296 → BufferFits (record { items = tokens })
    → IsEnd there slot (the_end present tokens window last) → (link_end there slot).Holds (the_end present tokens window last)
unfolding link_end
end_by true slot true tokens window last long fits h =
    let window_fits = h.is.window in (
      (flag_holds true, refl),
      (
        buffer_of true (record { items = tokens }) fits (λ never. absurd cc),
        (
          (omega arith, lt-ltb window 9 (omega arith)),
          ((flag_holds (flag_and_value last).0, sent_of window last h.is.never), last_of slot last long h.last),
        ),
      ),
    )
end_by true slot false tokens window last long fits h = let p = h.present in absurd cc
end_by false slot true tokens window last long fits h = let p = h.present in absurd cc
end_by false slot false tokens window last long fits h =
    subst (link_end false slot).Holds (sym (h.is.absent refl))
    ((flag_holds false, refl), (buffer_of false (record { items = [] }) (record { count = omega arith; tokens = tt }) (λ _. refl), ((omega arith, refl), ((flag_holds false, refl), (omega arith, refl)))))

pub end_of : (there : Bool) (slot : ℕ) (state : EndState) → slot ≤ 4294967296 → BufferFits state.buffer → IsEnd there slot state → (link_end there slot).Holds state
end_of there slot state long fits h = end_by there slot state.present state.buffer.items state.window state.last long fits h

-- ---- All of them

-- what holds of the link ends of a node, of which the plan has these
pub record AreEnds (there : List Bool) (slot : ℕ) (states : List EndState) : Type 0 where
  pub each : AllByRecursion IsEndState states
  pub present : (end : ℕ) → end < 8 → (slice_index_or states end absent_end).present ≡ slice_index_or there end false
  pub last : AllByRecursion (λ state. IfSome state.last (λ s. s < slot)) states

module _ (there : List Bool) (slot : ℕ) (states : List EndState) where
  abbrev end_at : ℕ → EndState
  end_at i = get_or states i absent_end

  pub ends_hold : (link_ends there slot).Holds states → AreEnds there slot states
  ends_hold h =
      let at : (i : ℕ) → i < length states → IsEnd (get_or there i false) slot (end_at i) = λ i lt.
      subst (λ (k : ℕ). IsEnd (get_or there k false) slot (end_at i)) (length-take-le i states (omega (arith, lt)))
      (end_holds (get_or there (length (take i states)) false) slot (end_at i) (chain_at (λ before. link_end (get_or there (length before) false) slot) [] states h.1 i absent_end lt)) in
      let len = h.0 in
      record {
        each = each_of IsEndState absent_end states (λ i lt. (at i lt).is);
        present = λ i lt. (at i (omega (arith, lt, len))).present;
        last = each_of (λ state. IfSome state.last (λ s. s < slot)) absent_end states (λ i lt. (at i lt).last);
      }

  pub ends_of : length states ≡ 8 → slot ≤ 4294967296 → AllByRecursion (λ state. BufferFits state.buffer) states → AreEnds there slot states → (link_ends there slot).Holds states
  ends_of len long fits h = (
    len,
    chain_of (λ before. link_end (get_or there (length before) false) slot) absent_end [] states (λ i lt.
        subst (λ (k : ℕ). (link_end (get_or there k false) slot).Holds (end_at i)) (sym (length-take-le i states (omega (arith, lt))))
        (end_of (get_or there i false) slot (end_at i) long (each_at (λ state. BufferFits state.buffer) states fits i absent_end lt) (record {
          is = each_at IsEndState states h.each i absent_end lt;
          present = h.present i (omega (arith, lt, len));
          last = each_at (λ state. IfSome state.last (λ s. s < slot)) states h.last i absent_end lt;
        }))),
  )
