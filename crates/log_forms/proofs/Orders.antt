-- Entries that stand in order, each after the one before it.
use Rattle.std.proofs.Common.{◌≡◌, Option, Some, None, List, [], ◌∷◌, true, arith, inl, inr}
use Rattle.std.specs.List.{AllByRecursion}
use Rattle.xs_base.specs.declared.entry.Entry.{Entry}
use Rattle.xs_base.specs.declared.entry.What.{What}
use Rattle.xs_base.specs.declared.entry.What.TheVariants as what
use Rattle.snap_parts.specs.InFlight.{is_token, is_credit}
use Rattle.snap_parts.specs.InFlight.{ComesBefore, IsEarlier, StandSo}

-- an entry after the last one, if there is one
abbrev pub Follows : (Entry → Entry → Type 0) → Option Entry → Entry → Type 0
Follows so None e = Unit {0}
Follows so (Some last) e = so last e

abbrev pub Adjacent : (Entry → Entry → Type 0) → Option Entry → List Entry → Type 0
Adjacent so last [] = Unit {0}
Adjacent so last (e ∷ es) = Follows so last e × Adjacent so (Some e) es

module _ (so : Entry → Entry → Type 0) (through : (e f g : Entry) → so e f → so f g → so e g) where
  all_after : (e f : Entry) (es : List Entry) → so e f → AllByRecursion (so f) es → AllByRecursion (so e) es
  all_after e f [] h all = tt
  all_after e f (g ∷ es) h all = (through e f g h all.0, all_after e f es h all.1)

  from_adjacent : (e : Entry) (es : List Entry) → Adjacent so (Some e) es → AllByRecursion (so e) es × StandSo so es
  from_adjacent e [] h = (tt, tt)
  from_adjacent e (f ∷ es) h =
      let r = from_adjacent f es h.1 in
      ((h.0, all_after e f es h.0 r.0), r)

  pub stand_so : (es : List Entry) → Adjacent so None es → StandSo so es
  stand_so [] h = tt
  stand_so (e ∷ es) h = from_adjacent e es h.1

to_adjacent : (so : Entry → Entry → Type 0) (e : Entry) (es : List Entry) → AllByRecursion (so e) es → StandSo so es → Adjacent so (Some e) es
to_adjacent so e [] h k = tt
to_adjacent so e (f ∷ es) h k = (h.0, to_adjacent so f es k.0 k.1)

pub adjacent : (so : Entry → Entry → Type 0) (es : List Entry) → StandSo so es → Adjacent so None es
adjacent so [] h = tt
adjacent so (e ∷ es) h = (tt, to_adjacent so e es h.0 h.1)

pub earlier_through : (e f g : Entry) → IsEarlier e f → IsEarlier f g → IsEarlier e g
earlier_through e f g h k = omega (arith, h, k)

not_both : (w : What) → is_token w ≡ true → is_credit w ≡ true → ⊥
not_both (what.Token t) h k = absurd cc
not_both what.Credit h k = absurd cc
not_both (what.Level n) h k = absurd cc

pub before_through : (e f g : Entry) → ComesBefore e f → ComesBefore f g → ComesBefore e g
before_through e f g (inl h) (inl k) = inl (omega (arith, h, k))
before_through e f g (inl h) (inr k) = inl (omega (arith, h, k.0))
before_through e f g (inr h) (inl k) = inl (omega (arith, h.0, k))
before_through e f g (inr h) (inr k) = absurd (not_both f.what k.1 h.2)
