-- A link end by its buffer, its window and its last slot.
use Rattle.std.proofs.Common.{◌≡◌, ℕ, zero, suc, ◌<◌, Option, Some, None, List, [], ◌∷◌, replicate, refl, sym, ◌∙◌, arith}
use Rattle.std.specs.List.{AllByRecursion}
use Rattle.std.proofs.lemmas.List.{length-replicate}
use Rattle.xs_base.specs.Numbers.{Slot}
use Rattle.xs_base.specs.declared.token.Token.{Token}
use Rattle.net_model.specs.Links.{latest}
use Rattle.link_laws.specs.Windows.{FitsBefore, LinkOf, EachHasALink, ItsLinksAreAlike}

-- ---- So many tokens that were sent in one slot

latest_of_same : (count : ℕ) (last : Slot) → latest (replicate (suc count) last) ≡ Some last
latest_of_same zero last = refl
latest_of_same (suc count) last = latest_of_same count last

same_before : (slot : Slot) (count : ℕ) (last : Slot) → last < slot → AllByRecursion (λ s. s < slot) (replicate count last)
same_before slot zero last before = tt
same_before slot (suc count) last before = (before, same_before slot count last before)

-- ---- A link end that sent them, and one more that has its credit

link_of : (slot : Slot) (buffer : List Token) (window : ℕ) (last : Option Slot) → FitsBefore slot window last → LinkOf slot (record { buffer = buffer; window = window; last = last })
link_of slot buffer window None fits = record {
  link = record { buffer = buffer; sent = []; credited = [] };
  buffer = refl;
  window = omega (arith, fits);
  last = refl;
  before = record { sent = tt; credited = tt };
}
link_of slot buffer window (Some last) fits = record {
  link = record { buffer = buffer; sent = replicate (suc window) last; credited = last ∷ [] };
  buffer = refl;
  window = length-replicate (suc window) last ∙ omega arith;
  last = latest_of_same window last;
  before = record { sent = same_before slot (suc window) last fits; credited = (fits, tt) };
}

pub each_has_a_link : EachHasALink
each_has_a_link slot kept fits = link_of slot kept.buffer kept.window kept.last fits

pub its_links_are_alike : ItsLinksAreAlike
its_links_are_alike slot kept one other = record {
  buffer = one.buffer ∙ sym other.buffer;
  window = omega (arith, one.window, other.window);
  last = one.last ∙ sym other.last;
}
