-- Where the work begins, and where it ends.
use Rattle.std.proofs.Common.{◌≡◌, List, Option, refl, ap, sym, subst, ◌∙◌}
use Rattle.xs_model.specs.declared.event.Event.{Event}
use Rattle.xs_model.specs.Record.{InputRec, ChanRec}
use Rattle.xs_model.specs.Outside.{Emitted}
use Rattle.xs_model.specs.AtWork.{AtWork}
use Rattle.net_model.specs.Switch.{moves}
use Rattle.link_ends.specs.Counts.{EndCounts}
use Rattle.switch_routes.specs.declared.work.Work.{Work}
use Rattle.switch_routes.specs.Rows.{AllCountsOf, end_gaps}
use Rattle.switch_routes.specs.Switch.{SwitchRec, StandsIn, with_parts, emitted_after, known_routes}
use Rattle.switch_routes.specs.Ways.{routes_with}
use Rattle.switch_routes.specs.Work.{Begun, Stands, GoesBy}

-- a switch as the work has it
abbrev pub switch_at : Work → SwitchRec
switch_at w = record { id = w.ways.id; ways = w.ways.ends; nets = w.ways.nets; inputs = w.inputs.now }

-- what it begins with
abbrev pub begun_at : Work → List Event → AtWork → Begun
begun_at w before m = record { routes = routes_with w.ways (end_gaps w.links.now); slot = w.slot; start = m.rec; before = before }

pub stands-first : (w : Work) (before : List Event) (m : AtWork) → StandsIn w.slot (switch_at w) w.chans.now w.links.now m.rec → w.out.now ≡ emitted_after before w.slot m → Stands (begun_at w before m) w m
stands-first w before m s emitted = record {
  routes = refl;
  slot = refl;
  inputs = s.inputs;
  chans = s.chans;
  links = s.links;
  credited = s.credited;
  events = ap (λ (e : Emitted). e.events) emitted;
  tokens = ap (λ (e : Emitted). e.tokens) emitted;
  credits = ap (λ (e : Emitted). e.credits) emitted;
  rest = refl;
}

-- what it ends with, where the parts that it worked with are these now
module _ {w new : Work} (goes : GoesBy 40 (λ begun. moves begun.routes begun.slot) w new) (before : List Event) (m : AtWork) (s : StandsIn w.slot (switch_at w) w.chans.now w.links.now m.rec) (emitted : w.out.now ≡ emitted_after before w.slot m) where
  abbrev moved : AtWork
  moved = moves (known_routes (switch_at w) w.links.now) w.slot m

  stood : Stands (begun_at w before m) new moved
  stood = goes.by (begun_at w before m) m (stands-first w before m s emitted)

  pub moves-stands : (switch : SwitchRec) (chans : List ChanRec) (links : List (Option EndCounts)) → switch.inputs ≡ new.inputs.now → chans ≡ new.chans.now → links ≡ new.links.now → StandsIn w.slot switch chans links moved.rec
  moves-stands switch chans links inputs_are chans_are links_are = record {
    inputs = inputs_are ∙ stood.inputs;
    chans = chans_are ∙ stood.chans;
    links = subst (λ (row : List (Option EndCounts)). AllCountsOf row moved.rec.links) (sym links_are) stood.links;
    credited = stood.credited;
  }

  pub moves-emitted : (out : Emitted) → out ≡ new.out.now → out ≡ emitted_after before w.slot moved
  moves-emitted out out_is = out_is ∙ (λ i. record { events = stood.events i; tokens = stood.tokens i; credits = stood.credits i })

  pub moves-rest : (inputs : List InputRec) (chans : List ChanRec) → inputs ≡ new.inputs.now → chans ≡ new.chans.now → moved.rec ≡ with_parts m.rec inputs chans moved.rec.links
  moves-rest inputs chans inputs_are chans_are =
      stood.rest
      ∙ ap (λ (xs : List InputRec). with_parts m.rec xs moved.rec.core.chans moved.rec.links) (sym (inputs_are ∙ stood.inputs))
      ∙ ap (λ (cs : List ChanRec). with_parts m.rec inputs cs moved.rec.links) (sym (chans_are ∙ stood.chans))
