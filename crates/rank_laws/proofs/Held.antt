-- A link that is held, or waited for, is one by which a packet may go on, so ranks rise along them.
use Rattle.std.proofs.Common.{◌≡◌, ℕ, ◌+◌, ◌*◌, ◌<◌, ◌==◌, Bool, true, false, if◌then◌else◌, Option, Some, None, List, [], ◌∷◌, get_or, slice_get, refl, subst, subst₂, inl, inr, ◌⊎◌, arith}
use Rattle.std.proofs.lemmas.Bool.{and_from, eq-eqb}
use Rattle.std.specs.Prelude.{option_and_then, IfSome}
use Rattle.std.proofs.lemmas.Option.{slice_get-get_or}
use Rattle.xs_base.specs.Numbers.{NodeId, Slot, LinkNumber}
use Rattle.xs_base.specs.declared.token.Token.{Token}
use Rattle.xs_base.specs.declared.token.Token.TheVariants.{Byte, Ctrl}
use Rattle.xs_model.specs.declared.dest.Dest.{Dest}
use Rattle.xs_model.specs.Record.{Want, Out}
use Rattle.net_model.specs.Switch.{ends_packet}
use Rattle.sys_plan.specs.Plan.{PlanRec, IsPlan, link_arcs}
use Rattle.serial_model.specs.Serial.{serial}
use Rattle.rank_model.specs.declared.verdict.Verdict.TheVariants.{Yes}
use Rattle.rank_model.specs.Next.{link_count, arc_at, no_arc, net_of, leads_by, is_next}
use Rattle.rank_model.specs.Lines.{RanksRec}
use Rattle.rank_model.specs.Checks.{Judged, checked, ranks_by_link}
use Rattle.packet_laws.specs.Packets.{Place, Between, AfterOne, AfterTwo, Within, place_after, place_from, place_of}
use Rattle.packet_laws.specs.Whole.{leads, IsAt, IsOnWay}
use Rattle.packet_laws.proofs.Runs.{whole_packets}
use Rattle.rank_laws.specs.Held.{Holds, WaitsFor, IsHeldRow, last_of, HeldRise, HeldRiseWhereYes}
use Rattle.rank_laws.proofs.Rises.{two_each, rises}
use Rattle.rank_laws.proofs.Verdicts.{verdict_is}

-- ---- The id of a packet that has begun passes

module _ (passes : NodeId → Bool) where
  Passes : Place → Type 0
  Passes (Within dest) = passes dest.node ≡ true
  Passes _ = Unit {0}

  begun_passes : (test : Bool) (dest : Dest) → passes dest.node ≡ test → IfSome (if test then Some (Within dest) else None) Passes
  unfolding Passes
  begun_passes true dest is = is
  begun_passes false dest is = tt

  after_passes : (place : Place) (t : Token) → Passes place → IfSome (place_after passes place t) Passes
  unfolding Passes
  after_passes Between (Byte b) is = tt
  after_passes Between (Ctrl c) is = tt
  after_passes (AfterOne high) (Byte b) is = tt
  after_passes (AfterOne high) (Ctrl c) is = tt
  after_passes (AfterTwo high low) (Byte b) is = let dest : Dest = record { node = high * 256 + low; chan = b } in begun_passes (passes dest.node) dest refl
  after_passes (AfterTwo high low) (Ctrl c) is = tt
  after_passes (Within dest) t is = by (ends_packet t)
    where
      by : (ends : Bool) → Passes (if ends then Between else Within dest)
      by true = tt
      by false = is

  -- where tokens end of which some have a place, or none
  option_passes : (place : Option Place) (ts : List Token) (q : Place) → IfSome place Passes → ((p : Place) → Passes p → place_from passes p ts ≡ Some q → Passes q)
      → option_and_then (λ p. place_from passes p ts) place ≡ Some q → Passes q
  option_passes None ts q is each e = cc
  option_passes (Some p) ts q is each e = each p is e

  from_passes : (place : Place) (ts : List Token) (q : Place) → Passes place → place_from passes place ts ≡ Some q → Passes q
  unfolding place_from
  from_passes place [] q is e = subst (λ (o : Option Place). IfSome o Passes) e is
  from_passes place (t ∷ ts) q is e = option_passes (place_after passes place t) ts q (after_passes place t is) (λ p its. from_passes p ts q its) e

  within_passes : (tokens : List Token) (dest : Dest) → place_of passes tokens ≡ Some (Within dest) → passes dest.node ≡ true
  unfolding Passes
  within_passes tokens dest e = from_passes Between tokens (Within dest) tt e

-- ---- What is held

module _ (plan : PlanRec) (is : IsPlan plan) where
  there : (l : LinkNumber) → l < link_count plan → slice_get (link_arcs plan.links) l ≡ Some (arc_at plan l)
  there l less = slice_get-get_or (link_arcs plan.links) l no_arc (omega (arith, less, two_each plan.links))

  -- the destination of a packet for which the way goes on from l to k
  record Leads (l k : LinkNumber) : Type 0 where
    dest : NodeId
    first : is_next plan (arc_at plan l).from (net_of plan l) dest l ≡ true
    second : is_next plan (arc_at plan l).to (net_of plan l) dest k ≡ true

  module _ (slot : Slot) (l k : LinkNumber) (holds : Holds plan (serial plan slot) l k) where
    its_place : (place : Place) (tokens : List Token) → place_of (leads plan l) tokens ≡ Some place
        → IsAt (IsOnWay plan (arc_at plan l).to (net_of plan l)) (net_of plan l) place (Out (arc_at plan k).from_end holds.headers holds.dest) → Leads l k
    its_place Between tokens packets at = absurd at
    its_place (AfterOne high) tokens packets at = absurd at
    its_place (AfterTwo high low) tokens packets at = absurd at
    its_place (Within dest) tokens packets at = record {
      dest = dest.node;
      first = within_passes (leads plan l) tokens dest packets;
      second =
          and_from ((arc_at plan k).from == (arc_at plan l).to) (leads_by plan (arc_at plan l).to (net_of plan l) dest.node (arc_at plan k).from_end)
          (eq-eqb (arc_at plan k).from (arc_at plan l).to holds.same_node) at.1;
    }

    goes_where : Leads l k
    goes_where =
        let taken = (whole_packets plan is l (arc_at plan l) (there l holds.l_there) slot).receiver in
        its_place taken.place _ taken.packets (subst (IsAt (IsOnWay plan (arc_at plan l).to (net_of plan l)) (net_of plan l) taken.place) holds.out taken.at)

  module _ (slot : Slot) (l k : LinkNumber) (waits : WaitsFor plan (serial plan slot) l k) where
    wanted_place : (place : Place) (tokens : List Token) → place_of (leads plan l) tokens ≡ Some place
        → IsAt (IsOnWay plan (arc_at plan l).to (net_of plan l)) (net_of plan l) place (Want waits.dest waits.net) → Leads l k
    wanted_place Between tokens packets at = absurd at
    wanted_place (AfterOne high) tokens packets at = absurd at
    wanted_place (AfterTwo high low) tokens packets at = absurd at
    wanted_place (Within dest) tokens packets at = record {
      dest = dest.node;
      first = within_passes (leads plan l) tokens dest packets;
      second = subst₂ (λ (to : Dest) net. is_next plan (arc_at plan l).to net to.node k ≡ true) at.0 at.1 waits.next;
    }

    wants_where : Leads l k
    wants_where =
        let taken = (whole_packets plan is l (arc_at plan l) (there l waits.l_there) slot).receiver in
        wanted_place taken.place _ taken.packets (subst (IsAt (IsOnWay plan (arc_at plan l).to (net_of plan l)) (net_of plan l) taken.place) waits.want taken.at)

  module _ (ranks : RanksRec) (judged : checked plan ranks ≡ Judged Yes) (slot : Slot) where
    abbrev by_link : List ℕ
    by_link = ranks_by_link plan ranks.lines

    -- where a packet may go on from l to k
    on_rises : (l k : LinkNumber) → l < link_count plan → k < link_count plan → Leads l k → get_or by_link l 0 < get_or by_link k 0
    on_rises l k l_there k_there on =
        rises plan ranks.lines (verdict_is Yes plan ranks judged) (net_of plan l) on.dest (arc_at plan l).from l k
        (record { there = l_there; next = on.first }) (record { there = k_there; next = on.second })

    held_rises : (l k : LinkNumber) → Holds plan (serial plan slot) l k → get_or by_link l 0 < get_or by_link k 0
    held_rises l k holds = on_rises l k holds.l_there holds.k_there (goes_where slot l k holds)

    wait_rises : (l k : LinkNumber) → WaitsFor plan (serial plan slot) l k → get_or by_link l 0 < get_or by_link k 0
    wait_rises l k waits = on_rises l k waits.l_there waits.k_there (wants_where slot l k waits)

    step_rises : (l k : LinkNumber) → Holds plan (serial plan slot) l k ⊎ WaitsFor plan (serial plan slot) l k → get_or by_link l 0 < get_or by_link k 0
    step_rises l k (inl holds) = held_rises l k holds
    step_rises l k (inr waits) = wait_rises l k waits

    row_rises : (l k : LinkNumber) (ks : List LinkNumber) → IsHeldRow plan (serial plan slot) l (k ∷ ks) → get_or by_link l 0 < get_or by_link (last_of l (k ∷ ks)) 0
    row_rises l k [] row = step_rises l k row.0
    row_rises l k (m ∷ ks) row = omega (arith, step_rises l k row.0, row_rises k m ks row.1)

    held : HeldRise plan by_link (serial plan slot)
    held = record {
      rises = held_rises;
      waits = wait_rises;
      no_circle = λ l k ks row back. absurd (omega (arith, subst (λ n. get_or by_link l 0 < get_or by_link n 0) back (row_rises l k ks row)));
    }

pub held_rise_where_yes : HeldRiseWhereYes
held_rise_where_yes plan ranks slot is judged = held plan is ranks judged slot
