-- Ports that are still: in a slot in which the next transfer of none begins they only count, and what else is asked of them stays.
use Rattle.std.proofs.Common.{◌≡◌, ℕ, zero, suc, ◌+◌, Bool, true, false, not, ◌&&◌, ◌||◌, cond, ltb, Option, Some, None, List, [], ◌∷◌, get_or, length, refl, sym, ap, ap₂, ◌∙◌, arith}
use Rattle.std.proofs.lemmas.Bool.{not-true, and_parts, or_parts, cond-true, cond-false}
use Rattle.std.proofs.lemmas.List.{length-map}
use Rattle.xs_base.specs.Ids.{port_width}
use Rattle.xs_base.specs.Numbers.{Slot, Word, PortNumber}
use Rattle.xs_model.specs.declared.clock.Clock.{Clock}
use Rattle.xs_model.specs.declared.clock.Edge.{Edge}
use Rattle.xs_model.specs.declared.clock.Edge.TheVariants as edge
use Rattle.xs_model.specs.Record.{ClockRec, PortRec, TransferRec, off_port}
use Rattle.xs_model.specs.Time.{edge_at}
use Rattle.xs_model.specs.Ports.{PortsEdged, Edged, unchanged, counter_after, next_out, falls, at_edge, edged_before, edge_in_slot, edges_from, level_of, levels_of, is_high}
use Rattle.quiet_model.specs.Clocks.{is_fall, falls_in, counter_after_falls, port_counted, ports_counted}
use Rattle.quiet_model.specs.Still.{port_is_still, ports_are_still}
use Rattle.quiet_model.specs.Stirs.{transfer_is_due, port_stirs, ports_stir}

-- ---- What is counted

abbrev fall_in : List ClockRec → Clock → Slot → ℕ
fall_in clocks clock slot = cond (is_fall (edge_at clocks clock slot)) 1 0

falls_in_one : (clocks : List ClockRec) (clock : Clock) (slot : Slot) → falls_in clocks clock slot 1 ≡ fall_in clocks clock slot
unfolding falls_in
falls_in_one clocks clock slot =
    let here : slot + 0 ≡ slot = omega arith in
    let none : 0 + fall_in clocks clock slot ≡ fall_in clocks clock slot = omega arith in
    ap (λ s. 0 + fall_in clocks clock s) here ∙ none

-- counting on is counting all
counts_on : (a b counter : ℕ) → counter_after_falls b (counter_after_falls a counter) ≡ counter_after_falls (a + b) counter
unfolding counter_after_falls
counts_on a zero counter = let same : a ≡ a + 0 = omega arith in ap (λ n. counter_after_falls n counter) same
counts_on a (suc b) counter = let same : suc (a + b) ≡ a + suc b = omega arith in ap counter_after (counts_on a b counter) ∙ ap (λ n. counter_after_falls n counter) same

abbrev pub with_counter : PortRec → ℕ → PortRec
with_counter port counter = record port { counter = counter }

module _ (clocks : List ClockRec) (from : Slot) where
  unfalling : (clock : Clock) (counter : ℕ) → counter_after_falls (falls_in clocks clock from 0) counter ≡ counter
  unfolding falls_in counter_after_falls
  unfalling clock counter = refl

  port_uncounted : (port : PortRec) → port_counted clocks from 0 port ≡ port
  port_uncounted port = by_on port.on
    where
      by_on : (on : Bool) → cond on (with_counter port (counter_after_falls (falls_in clocks port.clock from 0) port.counter)) port ≡ port
      by_on true = ap (with_counter port) (unfalling port.clock port.counter)
      by_on false = refl

  pub ports_uncounted : (ports : List PortRec) → ports_counted clocks from 0 ports ≡ ports
  ports_uncounted [] = refl
  ports_uncounted (port ∷ ports) = λ i. port_uncounted port i ∷ ports_uncounted ports i

  module _ (n : ℕ) where
    abbrev counter_up : Clock → ℕ → ℕ → ℕ
    counter_up clock counter k = counter_after_falls (falls_in clocks clock from k) counter

    one_more : (clock : Clock) (counter : ℕ) → counter_after_falls (falls_in clocks clock (from + n) 1) (counter_up clock counter n) ≡ counter_up clock counter (suc n)
    unfolding falls_in
    one_more clock counter =
        ap (λ k. counter_after_falls k (counter_up clock counter n)) (falls_in_one clocks clock (from + n))
        ∙ counts_on (falls_in clocks clock from n) (fall_in clocks clock (from + n)) counter

    abbrev counted_up : PortRec → ℕ → PortRec
    counted_up port k = with_counter port (counter_up port.clock port.counter k)

    port_counts_on : (port : PortRec) → port_counted clocks (from + n) 1 (port_counted clocks from n port) ≡ port_counted clocks from (suc n) port
    port_counts_on port = by_on port.on refl
      where
        by_on : (on : Bool) → port.on ≡ on → port_counted clocks (from + n) 1 (cond on (counted_up port n) port) ≡ cond on (counted_up port (suc n)) port
        by_on true on = cond-true port.on _ _ on ∙ ap (with_counter port) (one_more port.clock port.counter)
        by_on false off = cond-false port.on _ _ off

    pub ports_count_on : (ports : List PortRec) → ports_counted clocks (from + n) 1 (ports_counted clocks from n ports) ≡ ports_counted clocks from (suc n) ports
    ports_count_on [] = refl
    ports_count_on (port ∷ ports) = λ i. port_counts_on port i ∷ ports_count_on ports i

-- ---- What stays

module _ (clocks : List ClockRec) (from : Slot) (count : ℕ) where
  -- whatever does not ask for the counter
  pub stays : {B : Type 0} (asks : PortRec → B) → ((port : PortRec) (counter : ℕ) → asks (with_counter port counter) ≡ asks port)
      → (port : PortRec) → asks (port_counted clocks from count port) ≡ asks port
  stays asks same port = by_on port.on
    where
      by_on : (on : Bool) → asks (cond on (with_counter port (counter_after_falls (falls_in clocks port.clock from count) port.counter)) port) ≡ asks port
      by_on true = same port _
      by_on false = refl

  pub ports_stay_still : (ports : List PortRec) → ports_are_still (ports_counted clocks from count ports) ≡ ports_are_still ports
  ports_stay_still [] = refl
  ports_stay_still (port ∷ ports) = λ i. stays port_is_still (λ port counter. refl) port i && ports_stay_still ports i

  pub levels_stay : (ports : List PortRec) (outside : List Word) → levels_of (ports_counted clocks from count ports) outside ≡ levels_of ports outside
  levels_stay [] outside = refl
  levels_stay (port ∷ ports) [] = refl
  levels_stay (port ∷ ports) (level ∷ outside) =
      λ i. level_of (stays (λ port. port.driven) (λ port counter. refl) port i) level ∷ levels_stay ports outside i

  pub port_counted_at : (ports : List PortRec) (p : PortNumber) → get_or (ports_counted clocks from count ports) p off_port ≡ port_counted clocks from count (get_or ports p off_port)
  port_counted_at [] p = refl
  port_counted_at (port ∷ ports) zero = refl
  port_counted_at (port ∷ ports) (suc p) = port_counted_at ports p

  pub as_many : (ports : List PortRec) → length (ports_counted clocks from count ports) ≡ length ports
  as_many ports = length-map ports (port_counted clocks from count)

-- ---- The edge of a port that is still, and whose next transfer does not begin

module _ (width : ℕ) (level : Word) (high : Bool) (port : PortRec) (output : port.output ≡ true) (shifted : ltb 0 (length port.shift) ≡ false) where
  abbrev counted_port : PortRec
  counted_port = with_counter port (counter_after port.counter)

  next_waits : (transfer : Option TransferRec) → transfer_is_due (counter_after port.counter) transfer ≡ false → next_out width counted_port transfer ≡ unchanged counted_port
  next_waits None none = refl
  next_waits (Some t) none = rw none refl

  fall_counts : transfer_is_due (counter_after port.counter) port.transfer ≡ false → falls width port ≡ unchanged counted_port
  fall_counts none = cond-true port.output _ _ output ∙ cond-false (ltb 0 (length port.shift)) _ _ shifted ∙ next_waits port.transfer none

  edge_counts : (e : Edge) → (is_fall e && transfer_is_due (counter_after port.counter) port.transfer) ≡ false
      → at_edge width e level high port ≡ unchanged (with_counter port (counter_after_falls (cond (is_fall e) 1 0) port.counter))
  unfolding counter_after_falls
  edge_counts edge.None none = refl
  edge_counts edge.Rise none = ap unchanged (cond-true port.output _ _ output)
  edge_counts edge.Fall none = fall_counts none

module _ (slot : Slot) (clocks : List ClockRec) (before : List Word) where
  module _ (p : PortNumber) (port : PortRec) (outside : Word) where
    abbrev its_edge : Edge
    its_edge = edge_at clocks port.clock slot

    abbrev does : Edged
    does = at_edge (port_width p) its_edge (level_of port.driven outside) (is_high before port.strobe) port

    abbrev counts : PortRec
    counts = with_counter port (counter_after_falls (falls_in clocks port.clock slot 1) port.counter)

    by_on : (on : Bool) → (not on || (port.output && not (ltb 0 (length port.shift)))) ≡ true
        → (on && (is_fall its_edge && transfer_is_due (counter_after port.counter) port.transfer)) ≡ false
        → cond on does (unchanged port) ≡ unchanged (cond on counts port)
    by_on false still none = refl
    by_on true still none =
        let both = and_parts port.output (not (ltb 0 (length port.shift))) still in
        edge_counts (port_width p) (level_of port.driven outside) (is_high before port.strobe) port both.0 (not-true _ both.1) its_edge none
        ∙ ap (λ n. unchanged (with_counter port (counter_after_falls n port.counter))) (sym (falls_in_one clocks port.clock slot))

    port_only_counts : port_is_still port ≡ true → port_stirs clocks slot port ≡ false → edge_in_slot slot clocks before p port outside ≡ unchanged (port_counted clocks slot 1 port)
    port_only_counts still none = by_on port.on still none

  abbrev only_count : List PortRec → PortsEdged
  only_count ports = record { ports = ports_counted clocks slot 1 ports; happened = [] }

  pub ports_only_count : (p : PortNumber) (ports : List PortRec) (outside : List Word)
      → length outside ≡ length ports → ports_are_still ports ≡ true → ports_stir clocks slot ports ≡ false
      → edges_from slot clocks before p ports outside ≡ only_count ports
  unfolding edges_from
  ports_only_count p [] outside long still none = refl
  ports_only_count p (port ∷ ports) [] long still none = absurd (omega (arith, long))
  ports_only_count p (port ∷ ports) (level ∷ outside) long still none =
      let stills = and_parts (port_is_still port) (ports_are_still ports) still in
      let nones = or_parts (port_stirs clocks slot port) (ports_stir clocks slot ports) none in
      ap₂ (edged_before p) (port_only_counts p port level stills.0 nones.0) (ports_only_count (p + 1) ports outside (omega (arith, long)) stills.1 nones.1)
