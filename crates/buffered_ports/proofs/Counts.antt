-- Ports that only count: the slot in which the next transfer of one begins, and what is left of all of them.
use Rattle.std.proofs.Common.{ℕ, suc, ◌≡◌, ◌≢◌, ◌+◌, ◌-◌, ◌^◌, ◌<◌, ◌≤◌, Bool, true, false, not, ◌&&◌, cond, eqb, List, length, set, refl, ap, sym, subst, ◌∙◌, inl, inr, arith}
use Rattle.std.specs.Prelude.{◌⊎◌}
use Rattle.std.proofs.lemmas.Bool.{cases_lt, cases_eq, false≢true, cond-true, cond-false, eq-eqb, ne_eqb, leb-true, leb-false, not-true}
use Rattle.std.proofs.lemmas.List.{ext_get_or, get_or-map, get_or_past, get_or-set_same, get_or-set_other, length-map, length-set}
use Rattle.std.proofs.lemmas.List.Elements.{All-from_get_or}
use Rattle.std.proofs.lemmas.List.Folds.{list_any_at, list_any_none, list_all_at}
use Rattle.std.proofs.lemmas.List.Sums.{list_all-from_AllPass}
use Rattle.std.proofs.lemmas.Nat.Bits.{bit_at-zero, bit_at-trailing_zeros}
use Rattle.std.specs.Int.{w32, trailing_zeros}
use Rattle.xs_model.specs.Masks.{in_mask}
use Rattle.xs_model.specs.Record.{ClockRec, PortRec, off_port}
use Rattle.xs_model.specs.Time.{edge_at}
use Rattle.xs_model.specs.Ports.{counter_after}
use Rattle.xs_model.specs.declared.clock.Clock.{Clock}
use Rattle.quiet_model.specs.Slots.{IsFirst, NoneBefore}
use Rattle.quiet_model.specs.Clocks.{is_fall, falls_in, has_fallen, counter_after_falls, port_counted, ports_counted}
use Rattle.quiet_model.specs.Still.{port_is_still, ports_are_still}
use Rattle.quiet_model.specs.Stirs.{transfer_is_due, port_stirs, ports_stir}
use Rattle.single_port.specs.Begins.{BeginsAt, counted}
use Rattle.single_port.specs.Keeps.{ServesAs}
use Rattle.buffered_ports.specs.Asks.{port_at}
use Rattle.buffered_ports.specs.Counts.{stirs_at}
use Rattle.buffered_ports.specs.Keeps.{AreMoving}
use Rattle.buffered_ports.proofs.InTurn.{on_is_port}

nothing : (b : Bool) → (b && false) ≡ false
nothing true = refl
nothing false = refl

-- ---- What is left of ports

counted_at : (clocks : List ClockRec) (from n : ℕ) (ports : List PortRec) (p : ℕ) → port_at (ports_counted clocks from n ports) p ≡ port_counted clocks from n (port_at ports p)
counted_at clocks from n ports p =
    elim (cases_lt p (length ports)) [
      | inl within ↦ get_or-map (port_counted clocks from n) ports p off_port off_port within
      | inr past ↦
          get_or_past (ports_counted clocks from n ports) p off_port (omega (arith, past, length-map ports (port_counted clocks from n)))
          ∙ ap (port_counted clocks from n) (sym (get_or_past ports p off_port past))
    ]

serves_counted : (on : Bool) (counter : ℕ) (port : PortRec) → ServesAs port (cond on (record port { counter = counter }) port)
serves_counted true counter port = record { output = refl; transfer = refl; shift = refl }
serves_counted false counter port = record { output = refl; transfer = refl; shift = refl }

pub all_serve : (clocks : List ClockRec) (from n : ℕ) (old now : List PortRec) → now ≡ ports_counted clocks from n old → (p : ℕ) → ServesAs (port_at old p) (port_at now p)
all_serve clocks from n old now is p =
    subst (ServesAs (port_at old p)) (sym (ap (λ ports. port_at ports p) is ∙ counted_at clocks from n old p))
    (serves_counted (port_at old p).on (counter_after_falls (falls_in clocks (port_at old p).clock from n) (port_at old p).counter) (port_at old p))

-- the ports of a mask are as they were, and all others counted
pub record Passing (clocks : List ClockRec) (from n : ℕ) (old now : List PortRec) (rest : ℕ) : Type 0 where
  pub count : length now ≡ 29
  pub on : (p : ℕ) → p < 32 → in_mask rest p ≡ true → (port_at old p).on ≡ true
  pub left : (p : ℕ) → p < 32 → in_mask rest p ≡ true → port_at now p ≡ port_at old p
  pub passed : (p : ℕ) → p < 32 → in_mask rest p ≡ false → port_at now p ≡ port_counted clocks from n (port_at old p)

pub none_passed : (clocks : List ClockRec) (from n : ℕ) (old : List PortRec) (rest : ℕ) → length old ≡ 29
    → ((p : ℕ) → p < 32 → in_mask rest p ≡ (port_at old p).on) → Passing clocks from n old old rest
none_passed clocks from n old rest count on = record {
  count = count;
  on = λ p below is. sym (on p below) ∙ is;
  left = λ p below is. refl;
  passed = λ p below is. sym (cond-false (port_at old p).on _ _ (sym (on p below) ∙ is));
}

pub one_passed : (clocks : List ClockRec) (from n : ℕ) (old now new : List PortRec) (rest less p : ℕ) → p < 32 → in_mask rest p ≡ true
    → ((k : ℕ) → k < 32 → in_mask less k ≡ cond (eqb k p) false (in_mask rest k)) → new ≡ set now p (port_counted clocks from n (port_at now p))
    → Passing clocks from n old now rest → Passing clocks from n old new less
one_passed clocks from n old now new rest less p within is written set_so passing =
    let port : p < length now = omega (arith, on_is_port now p (ap (λ (port : PortRec). port.on) (passing.left p within is) ∙ passing.on p within is)) in
    let other_left : (k : ℕ) → k < 32 → in_mask less k ≡ true → k ≢ p =
    λ k below its e. false≢true (sym (written k below ∙ cond-true (eqb k p) _ _ (eq-eqb k p e)) ∙ its)
    in
    let as_before : (k : ℕ) → k < 32 → k ≢ p → in_mask rest k ≡ in_mask less k =
    λ k below other. sym (written k below ∙ cond-false (eqb k p) _ _ (ne_eqb k p other))
    in
    let there : (k : ℕ) → k ≢ p → port_at new k ≡ port_at now k =
    λ k other. ap (λ ports. port_at ports k) set_so ∙ get_or-set_other now p k _ off_port other
    in
    record {
      count = ap length set_so ∙ length-set now p _ ∙ passing.count;
      on = λ k below its. passing.on k below (as_before k below (other_left k below its) ∙ its);
      left = λ k below its. there k (other_left k below its) ∙ passing.left k below (as_before k below (other_left k below its) ∙ its);
      passed = λ k below its. elim (cases_eq k p) [
        | inl e ↦
            ap (λ i. port_at new i) e ∙ ap (λ ports. port_at ports p) set_so ∙ get_or-set_same now p _ off_port port
            ∙ ap (port_counted clocks from n) (passing.left p within is ∙ ap (port_at old) (sym e))
        | inr other ↦ there k other ∙ passing.passed k below (as_before k below other ∙ its)
      ];
    }

pub all_passed : (clocks : List ClockRec) (from n : ℕ) (old now : List PortRec) (rest : ℕ) → length old ≡ 29 → rest ≡ 0 → Passing clocks from n old now rest → now ≡ ports_counted clocks from n old
all_passed clocks from n old now rest count none passing =
    ext_get_or off_port now (ports_counted clocks from n old) (omega (arith, count, passing.count, length-map old (port_counted clocks from n))) (λ p within.
    passing.passed p (omega (arith, within, passing.count)) (ap (λ mask. in_mask mask p) none ∙ ap (λ b. eqb b 1) (bit_at-zero p))
    ∙ sym (counted_at clocks from n old p))

pub counted_on : (clocks : List ClockRec) (from n falls : ℕ) (port : PortRec) → port.on ≡ true → falls ≡ falls_in clocks port.clock from n → counted falls port ≡ port_counted clocks from n port
counted_on clocks from n falls port on is = ap (λ f. counted f port) is ∙ sym (cond-true port.on _ _ on)

-- ---- When the next transfer of one port begins

-- at this edge, if there is one
abbrev with_fall : List ClockRec → ℕ → PortRec → ℕ → Bool
with_fall clocks n port slot = is_fall (edge_at clocks port.clock slot) && transfer_is_due (counter_after_falls (suc n) port.counter) port.transfer

stirs_on : (clocks : List ClockRec) (from slot : ℕ) (port : PortRec) → port.on ≡ true → stirs_at clocks from port slot ≡ with_fall clocks (falls_in clocks port.clock from (slot - from)) port slot
unfolding counter_after_falls
stirs_on clocks from slot port on =
    let n : ℕ = falls_in clocks port.clock from (slot - from) in
    ap (λ is_on. port_stirs clocks slot (cond is_on (record port { counter = counter_after_falls n port.counter }) port)) on
    ∙ ap (λ is_on. is_on && with_fall clocks n port slot) on

-- with the edge of a slot there is one falling edge more, or none
with_edge : (clocks : List ClockRec) (clock : Clock) (from slot : ℕ) (fall : Bool) → from ≤ slot → is_fall (edge_at clocks clock slot) ≡ fall
    → falls_in clocks clock from (suc (slot - from)) ≡ falls_in clocks clock from (slot - from) + cond fall 1 0
unfolding falls_in
with_edge clocks clock from slot fall above is =
    let there : from + (slot - from) ≡ slot = omega (arith, above) in
    ap (λ s. falls_in clocks clock from (slot - from) + cond (is_fall (edge_at clocks clock s)) 1 0) there
    ∙ ap (λ falls. falls_in clocks clock from (slot - from) + cond falls 1 0) is

-- before the slot of the k-th falling edge there are fewer
fewer : (clocks : List ClockRec) (clock : Clock) (from slot k : ℕ) → 0 < k → from ≤ slot → NoneBefore (has_fallen clocks clock from k) from slot → falls_in clocks clock from (slot - from) < k
unfolding falls_in
fewer clocks clock from slot k some above none =
    elim (cases_lt from slot) [
      | inl later ↦
          let last : suc (slot - 1 - from) ≡ slot - from = omega (arith, later) in
          let less : falls_in clocks clock from (suc (slot - 1 - from)) < k = leb-false k _ (none (slot - 1) (omega (arith, later)) (omega (arith, later))) in
          subst (λ n. falls_in clocks clock from n < k) last less
      | inr at ↦
          let nothing : 0 ≡ slot - from = omega (arith, at) in
          subst (λ n. falls_in clocks clock from n < k) nothing some
    ]

-- no transfer begins before the k-th falling edge
early : (clocks : List ClockRec) (from slot k : ℕ) (port : PortRec) (fall : Bool) → from ≤ slot → is_fall (edge_at clocks port.clock slot) ≡ fall
    → BeginsAt port k → has_fallen clocks port.clock from k slot ≡ false
    → with_fall clocks (falls_in clocks port.clock from (slot - from)) port slot ≡ false
early clocks from slot k port false above is begins not_yet = ap (λ fall. fall && transfer_is_due (counter_after_falls (suc (falls_in clocks port.clock from (slot - from))) port.counter) port.transfer) is
early clocks from slot k port true above is begins not_yet =
    let n : ℕ = falls_in clocks port.clock from (slot - from) in
    let less : falls_in clocks port.clock from (suc (slot - from)) < k = leb-false k _ not_yet in
    ap (λ waits. is_fall (edge_at clocks port.clock slot) && waits) (begins.none_before (suc n) (omega arith) (omega (arith, less, with_edge clocks port.clock from slot true above is)))
    ∙ nothing (is_fall (edge_at clocks port.clock slot))

-- with the k-th one it does
in_time : (clocks : List ClockRec) (from slot k : ℕ) (port : PortRec) (fall : Bool) → from ≤ slot → is_fall (edge_at clocks port.clock slot) ≡ fall
    → BeginsAt port k → NoneBefore (has_fallen clocks port.clock from k) from slot → has_fallen clocks port.clock from k slot ≡ true
    → with_fall clocks (falls_in clocks port.clock from (slot - from)) port slot ≡ true
in_time clocks from slot k port false above is begins none now =
    absurd (omega (arith, leb-true k _ now, with_edge clocks port.clock from slot false above is, fewer clocks port.clock from slot k begins.some above none))
in_time clocks from slot k port true above is begins none now =
    let n : ℕ = falls_in clocks port.clock from (slot - from) in
    let its : k ≡ suc n = omega (arith, leb-true k _ now, with_edge clocks port.clock from slot true above is, fewer clocks port.clock from slot k begins.some above none) in
    ap (λ fall. fall && transfer_is_due (counter_after_falls (suc n) port.counter) port.transfer) is
    ∙ ap (λ m. transfer_is_due (counter_after_falls m port.counter) port.transfer) (sym its)
    ∙ begins.there

pub begins_first : (clocks : List ClockRec) (from bound k result : ℕ) (port : PortRec) → port.on ≡ true → BeginsAt port k
    → IsFirst (has_fallen clocks port.clock from k) from bound result → IsFirst (stirs_at clocks from port) from bound result
begins_first clocks from bound k result port on begins first = record {
  none_before = λ slot above less. stirs_on clocks from slot port on ∙ early clocks from slot k port _ above refl begins (first.none_before slot above less);
  there = elim first.there [
    | inl at ↦ inl (at.0, at.1, stirs_on clocks from result port on ∙ in_time clocks from result k port _ at.0 refl begins first.none_before at.2)
    | inr at ↦ inr at
  ];
}

-- of one that is off none does
off_never : (clocks : List ClockRec) (from slot : ℕ) (port : PortRec) → port.on ≡ false → stirs_at clocks from port slot ≡ false
off_never clocks from slot port off =
    let n : ℕ = falls_in clocks port.clock from (slot - from) in
    ap (λ is_on. port_stirs clocks slot (cond is_on (record port { counter = counter_after_falls n port.counter }) port)) off
    ∙ ap (λ is_on. is_on && (is_fall (edge_at clocks port.clock slot) && transfer_is_due (counter_after port.counter) port.transfer)) off

-- ---- When that of some port does

-- all ports but those of a mask were asked: the first slot at which the next transfer of one of them begins
pub record Asking (clocks : List ClockRec) (from bound : ℕ) (ports : List PortRec) (first rest : ℕ) : Type 0 where
  pub on : (p : ℕ) → p < 32 → in_mask rest p ≡ true → (port_at ports p).on ≡ true
  pub none : (p : ℕ) → p < 32 → in_mask rest p ≡ false → NoneBefore (stirs_at clocks from (port_at ports p)) from first
  pub there : ((p : ℕ) × (p < length ports) × (from ≤ first) × (first < bound) × (stirs_at clocks from (port_at ports p) first ≡ true)) ⊎ (first ≡ bound)

pub none_asked : (clocks : List ClockRec) (from bound : ℕ) (ports : List PortRec) (rest : ℕ) → ((p : ℕ) → p < 32 → in_mask rest p ≡ (port_at ports p).on) → Asking clocks from bound ports bound rest
none_asked clocks from bound ports rest on = record {
  on = λ p below is. sym (on p below) ∙ is;
  none = λ p below is slot above less. off_never clocks from slot (port_at ports p) (sym (on p below) ∙ is);
  there = inr refl;
}

pub one_asked : (clocks : List ClockRec) (from bound : ℕ) (ports : List PortRec) (first next rest less p : ℕ) → p < 32 → in_mask rest p ≡ true
    → ((k : ℕ) → k < 32 → in_mask less k ≡ cond (eqb k p) false (in_mask rest k)) → IsFirst (stirs_at clocks from (port_at ports p)) from first next
    → Asking clocks from bound ports first rest → Asking clocks from bound ports next less
one_asked clocks from bound ports first next rest less p within is written its asking =
    let earlier : next ≤ first = elim its.there [ inl at ↦ omega (arith, at.1) | inr at ↦ omega (arith, at) ] in
    let most : first ≤ bound = elim asking.there [ inl at ↦ omega (arith, at.3) | inr at ↦ omega (arith, at) ] in
    record {
      on = λ k below noted. elim (cases_eq k p) [
        | inl e ↦ ap (λ i. (port_at ports i).on) e ∙ asking.on p within is
        | inr other ↦ asking.on k below (sym (written k below ∙ cond-false (eqb k p) _ _ (ne_eqb k p other)) ∙ noted)
      ];
      none = λ k below noted slot above before. elim (cases_eq k p) [
        | inl e ↦ ap (λ i. stirs_at clocks from (port_at ports i) slot) e ∙ its.none_before slot above before
        | inr other ↦ asking.none k below (sym (written k below ∙ cond-false (eqb k p) _ _ (ne_eqb k p other)) ∙ noted) slot above (omega (arith, before, earlier))
      ];
      there = elim its.there [
        | inl at ↦ inl (p, on_is_port ports p (asking.on p within is), at.0, omega (arith, at.1, most), at.2)
        | inr at ↦ elim asking.there [
          | inl was ↦ inl (was.0, was.1, omega (arith, was.2, at), omega (arith, was.3, at), ap (stirs_at clocks from (port_at ports was.0)) at ∙ was.4)
          | inr was ↦ inr (at ∙ was)
        ]
      ];
    }

pub all_asked : (clocks : List ClockRec) (from bound : ℕ) (ports : List PortRec) (first rest : ℕ) → length ports ≡ 29 → rest ≡ 0
    → Asking clocks from bound ports first rest
    → IsFirst (λ slot. ports_stir clocks slot (ports_counted clocks from (slot - from) ports)) from bound first
all_asked clocks from bound ports first rest count none asking = record {
  none_before = λ slot above less.
      list_any_none (port_stirs clocks slot) (ports_counted clocks from (slot - from) ports) (All-from_get_or (λ port. port_stirs clocks slot port ≡ false) _ off_port (λ p within.
      ap (port_stirs clocks slot) (counted_at clocks from (slot - from) ports p)
      ∙ asking.none p (omega (arith, within, count, length-map ports (port_counted clocks from (slot - from))))
      (ap (λ mask. in_mask mask p) none ∙ ap (λ b. eqb b 1) (bit_at-zero p)) slot above less));
  there = elim asking.there [
    | inl at ↦ inl (
      at.2,
      at.3,
      list_any_at (port_stirs clocks first) (ports_counted clocks from (first - from) ports) at.0 off_port (omega (arith, at.1, length-map ports (port_counted clocks from (first - from))))
          (ap (port_stirs clocks first) (counted_at clocks from (first - from) ports at.0) ∙ at.4),
    )
    | inr at ↦ inr at
  ];
}

-- ---- Whether all are still

is_still : (b : Bool) → not b ≡ false → b ≡ true
is_still true e = refl
is_still false e = absurd (false≢true (sym e))

one_moves : (ports : List PortRec) (p : ℕ) → port_is_still (port_at ports p) ≡ false → ports_are_still ports ≡ false
one_moves ports p moves =
    elim (cases_lt p (length ports)) [
      | inl within ↦ list_all_at port_is_still ports p off_port within moves
      | inr past ↦ absurd (false≢true (sym moves ∙ ap port_is_still (get_or_past ports p off_port past)))
    ]

-- where no port moves, and only there
pub none_moves : (mask : ℕ) (ports : List PortRec) → length ports ≤ 32 → mask < 2 ^ 32 → AreMoving mask ports → eqb mask 0 ≡ ports_are_still ports
none_moves mask ports long fits exact =
    elim (cases_lt 0 mask) [
      | inl some ↦
          let p : ℕ = trailing_zeros w32 mask in
          let within : p < 32 = (bit_at-trailing_zeros w32 mask some fits).0 in
          let moves : not (port_is_still (port_at ports p)) ≡ true = sym (exact p within) ∙ ap (λ b. eqb b 1) (bit_at-trailing_zeros w32 mask some fits).1 in
          ne_eqb mask 0 (λ e. omega (arith, some)) ∙ sym (one_moves ports p (not-true (port_is_still (port_at ports p)) moves))
      | inr none ↦
          let e : mask ≡ 0 = omega (arith, none) in
          eq-eqb mask 0 e ∙ sym (list_all-from_AllPass port_is_still ports (All-from_get_or (λ port. port_is_still port ≡ true) ports off_port (λ p within.
          is_still (port_is_still (port_at ports p)) (sym (exact p (omega (arith, within, long))) ∙ ap (λ m. in_mask m p) e ∙ ap (λ b. eqb b 1) (bit_at-zero p)))))
    ]
