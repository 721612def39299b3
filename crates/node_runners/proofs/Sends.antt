-- A node's arcs where the batch of an end by which an arc leaves is another, from another published slot on.
use Rattle.std.proofs.Common.{◌≡◌, ℕ, ◌+◌, Bool, true, false, eqb, ◌<◌, ◌≤◌, Option, Some, None, IsSome, List, [], ◌∷◌, length, refl, sym, ap, ◌∙◌, subst, arith, inl, inr}
use Rattle.std.specs.Prelude.{slice_set, slice_index}
use Rattle.std.proofs.lemmas.Bool.{cases_eq, eqb-true}
use Rattle.std.proofs.lemmas.List.{get_or-set_same, get_or-set_other}
use Rattle.std.proofs.Math.ListN.{length-set}
use Rattle.xs_base.specs.Numbers.{Slot, Position, LinkNumber, EndNumber}
use Rattle.xs_base.specs.Batch.{BatchRec}
use Rattle.xs_base.specs.declared.entry.Entry.{Entry}
use Rattle.sys_plan.specs.Plan.{PlanRec, outgoing}
use Rattle.serial_model.specs.Serial.{serial, history, driven_level}
use Rattle.locality_laws.specs.Locality.{node_in}
use Rattle.locality_laws.proofs.Links.{none_carried}
use Rattle.ahead_limits.specs.Horizon.{HorizonRec}
use Rattle.node_seats.specs.declared.pins.Pins.{Pins}
use Rattle.node_seats.specs.declared.seat.Seat.{Seat}
use Rattle.node_runners.specs.declared.inlets.Inlets.{Inlets}
use Rattle.node_runners.specs.Runner.{RunnerRec}
use Rattle.node_runners.specs.Ends.{IsThere}
use Rattle.node_runners.specs.Sent.{WireOutRec, OutletsRec, wire_out, batch_by, with_batch}
use Rattle.node_runners.specs.Joins.{LeavesFrom}
use Rattle.node_runners.specs.Inside.{IsRunner, Tells}
use Rattle.node_runners.proofs.Ends.{with-here, with-other, with-links, with-wires, with-kept, with-same}
use Rattle.sys_plan.proofs.Routes.{outgoing-end}
use Rattle.sys_plan.specs.declared.system_plan.TheConstants.{ENDS}

some_is : (o : Option LinkNumber) → IsSome o → (link : LinkNumber) × (o ≡ Some link)
some_is (Some link) h = (link, refl)
some_is None h = absurd (apart h)
  where
    apart : false ≡ true → ⊥
    apart e = cc

-- an arc leaves by an end of a node, by what is seen of the node
pub leaves_by : {r seen : RunnerRec} (end : EndNumber) → r ≡ seen → IsSome (outgoing seen.plan seen.node end) → IsSome (outgoing r.plan r.node end)
leaves_by end is = subst (λ (x : RunnerRec). IsSome (outgoing x.plan x.node end)) (sym is)

module _ (plan : PlanRec) (n : Position) (clock : Slot) (horizon : HorizonRec) (seat : Seat) (pins : Pins) (inlets : Inlets) (outlets : OutletsRec) (published : List Slot)
    (is : IsRunner plan n clock horizon seat pins inlets outlets published) (end : EndNumber) (leaves : IsSome (outgoing plan n end)) where
  link_is : (link : LinkNumber) × (outgoing plan n end ≡ Some link)
  link_is = some_is (outgoing plan n end) leaves

  pub has_batch : IsThere end (length outlets.links) (length outlets.wires)
  has_batch = (is.links.tells end link_is.0 link_is.1).there

  pub is_end : end < ENDS
  is_end = outgoing-end plan is.plan_is n end link_is.0 link_is.1

  has_place : end < length published
  has_place = omega (arith, is_end, is.links.all_published)

  module _ (b : BatchRec) (slot : Slot) (behind : slot ≤ clock) (own : (link : LinkNumber) → outgoing plan n end ≡ Some link → b.entries ≡ history plan link slot clock) where
    abbrev outlets' : OutletsRec
    outlets' = with_batch end b outlets

    abbrev published' : List Slot
    published' = slice_set published end slot

    is-there : (e : EndNumber) → IsThere e (length outlets.links) (length outlets.wires) → IsThere e (length outlets'.links) (length outlets'.wires)
    is-there e t = record { link = λ l. omega (arith, t.link l, with-links outlets end b); wire = λ l. omega (arith, t.wire l, with-wires outlets end b) }

    tells_at : (e : EndNumber) (link : LinkNumber) → outgoing plan n e ≡ Some link → Tells plan clock link e outlets' published'
    tells_at e link at = elim (cases_eq e end) [
      | inl same ↦ subst (λ k. Tells plan clock link k outlets' published') (sym same) (record {
        there = is-there end has_batch;
        batch =
            ap (λ (x : BatchRec). x.entries) (with-here outlets end b has_batch) ∙ own link (ap (outgoing plan n) (sym same) ∙ at)
            ∙ ap (λ s. history plan link s clock) (sym (get_or-set_same published end slot 0 has_place));
      })
      | inr ne ↦ let old = is.links.tells e link at in record {
        there = is-there e old.there;
        batch =
            ap (λ (x : BatchRec). x.entries) (with-other outlets end b e ne) ∙ old.batch
            ∙ ap (λ s. history plan link s clock) (sym (get_or-set_other published end e slot 0 ne));
      }
    ]

    behind_at : (e : EndNumber) → slice_index published' e ≤ clock
    behind_at e = elim (cases_eq e end) [
      | inl same ↦ subst (λ k. slice_index published' k ≤ clock) (sym same) (subst (λ s. s ≤ clock) (sym (get_or-set_same published end slot 0 has_place)) behind)
      | inr ne ↦ subst (λ s. s ≤ clock) (sym (get_or-set_other published end e slot 0 ne)) (is.links.behind e)
    ]

    same_port : (k : ℕ) → (wire_out outlets'.wires k).port ≡ (wire_out outlets.wires k).port
    same_port = with-kept outlets end b (λ (w : WireOutRec). w.port) (λ w. refl) has_batch

    same_sent : (k : ℕ) → (wire_out outlets'.wires k).sent ≡ (wire_out outlets.wires k).sent
    same_sent = with-kept outlets end b (λ (w : WireOutRec). w.sent) (λ w. refl) has_batch

    pub publishes : IsRunner plan n clock horizon seat pins inlets outlets' published'
    publishes = record {
      plan_is = is.plan_is;
      within = is.within;
      small = is.small;
      seat_is = is.seat_is;
      pins_are = is.pins_are;
      noted = is.noted;
      links = record {
        all_ends = is.links.all_ends;
        few_inlets = is.links.few_inlets;
        few_batches = omega (arith, is.links.few_batches, with-links outlets end b);
        all_published = length-set published end slot ∙ is.links.all_published;
        hears = is.links.hears;
        reached = is.links.reached;
        tells = tells_at;
        behind = behind_at;
      };
      wires = record {
        come = is.wires.come;
        came = is.wires.came;
        leave = λ k within. subst (LeavesFrom plan n (8 + k)) (sym (same_port k)) (is.wires.leave k (omega (arith, within, with-wires outlets end b)));
        told = λ k within.
            same_sent k ∙ is.wires.told k (omega (arith, within, with-wires outlets end b)) ∙ ap (driven_level (node_in (serial plan clock) n)) (sym (same_port k));
      };
    }

  -- where it has no entries it is published up to the clock, and stays as it is
  module _ (none : (batch_by outlets end).entries ≡ []) where
    pub nothing_carried : (link : LinkNumber) → outgoing plan n end ≡ Some link → [] ≡ history plan link (slice_index published end) clock
    nothing_carried link at = sym none ∙ (is.links.tells end link at).batch

    pub publishes_nothing : IsRunner plan n clock horizon seat pins inlets outlets (slice_set published end clock)
    publishes_nothing =
        subst (λ (o : OutletsRec). IsRunner plan n clock horizon seat pins inlets o (slice_set published end clock)) (with-same outlets end)
        (publishes (batch_by outlets end) clock (omega arith) (λ link at. none ∙ sym (none_carried plan link clock)))

  -- where it is published up to the clock and a batch without entries is taken back, it stays as it is too
  module _ (last : slice_index published end ≡ clock) (b : BatchRec) (slot : Slot) (behind : slot ≤ clock) (own : (link : LinkNumber) → outgoing plan n end ≡ Some link → b.entries ≡ history plan link slot clock) (none : b.entries ≡ []) where
    pub takes_back_nothing : IsRunner plan n clock horizon seat pins inlets outlets (slice_set published end slot)
    takes_back_nothing =
        subst (λ (o : OutletsRec). IsRunner plan n clock horizon seat pins inlets o (slice_set published end slot)) (with-same outlets end)
        (publishes (batch_by outlets end) slot behind
        (λ link at. (is.links.tells end link at).batch ∙ ap (λ s. history plan link s clock) last ∙ none_carried plan link clock ∙ sym none ∙ own link at))

-- what an arc carried from where it is published up to the clock on is nothing
pub nothing_after : (r : RunnerRec) (end : EndNumber) → IsSome (outgoing r.plan r.node end) → slice_index r.published end ≡ r.clock → (entries : List Entry)
    → ((link : LinkNumber) → outgoing r.plan r.node end ≡ Some link → entries ≡ history r.plan link (slice_index r.published end) r.clock) → entries ≡ []
nothing_after r end leaves last entries own =
    let link = some_is (outgoing r.plan r.node end) leaves in
    own link.0 link.1 ∙ ap (λ s. history r.plan link.0 s r.clock) last ∙ none_carried r.plan link.0 r.clock

pub no_entries : (xs : List Entry) (b : Bool) → b ≡ eqb (length xs) 0 → b ≡ true → xs ≡ []
no_entries [] b is h = refl
no_entries (x ∷ xs) b is h = absurd (omega (arith, eqb-true (length (x ∷ xs)) 0 (sym is ∙ h)))
