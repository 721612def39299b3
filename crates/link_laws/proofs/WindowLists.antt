-- The link ends of two nodes that are alike within a slot, each with the other's of its number.
use Rattle.std.proofs.Common.{◌≡◌, ℕ, zero, suc, ◌+◌, Bool, false, Option, Some, None, IfSome, List, [], ◌∷◌, get_or, slice_set, refl}
use Rattle.std.specs.List.{AllByRecursion, AllZip}
use Rattle.xs_base.specs.Numbers.{Slot, EndNumber}
use Rattle.xs_base.specs.declared.token.Token.{Token}
use Rattle.xs_model.specs.Record.{LinkRec}
use Rattle.net_model.specs.Links.{links_after_arrivals}
use Rattle.net_model.specs.Switch.{Routes, buffer_of_link, link_without_first, sent_in, end_may_send}
use Rattle.net_model.specs.Links.{IsLinkBefore}
use Rattle.link_laws.specs.Windows.{LinksAlike, Paired}
use Rattle.link_laws.proofs.SlotAtEndLists.{changed}
use Rattle.link_laws.proofs.WindowEnds.{AlikeIn, begins, arrives, same_buffer, taken, sent, same_may}

-- ---- Lists whose items are related, place by place

module _ (related : Option LinkRec → Option LinkRec → Type 0) (none : related None None) where
  at : (links others : List (Option LinkRec)) (i : ℕ) → AllZip related links others → related (get_or links i None) (get_or others i None)
  at [] [] i h = none
  at [] (other ∷ others) i h = absurd h
  at (link ∷ links) [] i h = absurd h
  at (link ∷ links) (other ∷ others) zero h = h.0
  at (link ∷ links) (other ∷ others) (suc i) h = at links others i h.1

  with_one : (links others : List (Option LinkRec)) (i : ℕ) (link other : Option LinkRec) →
      related link other → AllZip related links others → AllZip related (slice_set links i link) (slice_set others i other)
  with_one [] [] i link other one h = tt
  with_one [] (o ∷ others) i link other one h = absurd h
  with_one (l ∷ links) [] i link other one h = absurd h
  with_one (l ∷ links) (o ∷ others) zero link other one h = (one, h.1)
  with_one (l ∷ links) (o ∷ others) (suc i) link other one h = (h.0, with_one links others i link other one h.1)

-- ---- Within a slot

abbrev pub AllAlikeIn : Slot → List (Option LinkRec) → List (Option LinkRec) → Type 0
AllAlikeIn slot links others = AllZip (Paired (AlikeIn slot)) links others

module _ (slot : Slot) where
  begins_one : (link other : Option LinkRec) →
      IfSome link (IsLinkBefore slot) → IfSome other (IsLinkBefore slot) → Paired LinksAlike link other → Paired (AlikeIn slot) link other
  begins_one None None one two h = tt
  begins_one None (Some other) one two h = absurd h
  begins_one (Some link) None one two h = absurd h
  begins_one (Some link) (Some other) one two h = begins slot link other one two h

  pub all_begin : (links others : List (Option LinkRec)) →
      AllByRecursion (λ link. IfSome link (IsLinkBefore slot)) links → AllByRecursion (λ link. IfSome link (IsLinkBefore slot)) others →
      AllZip (Paired LinksAlike) links others → AllAlikeIn slot links others
  all_begin [] [] one two h = tt
  all_begin [] (other ∷ others) one two h = absurd h
  all_begin (link ∷ links) [] one two h = absurd h
  all_begin (link ∷ links) (other ∷ others) one two h = (begins_one link other one.0 two.0 h.0, all_begin links others one.1 two.1 h.1)

  pub all_arrive : (tokens : List (Option Token)) (credits : List Bool) (end : EndNumber) (links others : List (Option LinkRec)) →
      AllAlikeIn slot links others → AllAlikeIn slot (links_after_arrivals slot tokens credits end links) (links_after_arrivals slot tokens credits end others)
  unfolding links_after_arrivals
  all_arrive tokens credits end [] [] h = tt
  all_arrive tokens credits end [] (other ∷ others) h = absurd h
  all_arrive tokens credits end (link ∷ links) [] h = absurd h
  all_arrive tokens credits end (link ∷ links) (other ∷ others) h =
      (arrives slot (get_or tokens end None) (get_or credits end false) link other h.0, all_arrive tokens credits (end + 1) links others h.1)

  pair_at : (links others : List (Option LinkRec)) (i : ℕ) → AllAlikeIn slot links others → Paired (AlikeIn slot) (get_or links i None) (get_or others i None)
  pair_at links others i h = at (Paired (AlikeIn slot)) tt links others i h

  pub all_taken : (links others : List (Option LinkRec)) (i : ℕ) →
      AllAlikeIn slot links others → AllAlikeIn slot (changed link_without_first links i) (changed link_without_first others i)
  all_taken links others i h =
      with_one (Paired (AlikeIn slot)) tt links others i _ _ (taken slot (get_or links i None) (get_or others i None) (pair_at links others i h)) h

  pub all_sent : (links others : List (Option LinkRec)) (end : EndNumber) →
      AllAlikeIn slot links others → AllAlikeIn slot (changed (sent_in slot) links end) (changed (sent_in slot) others end)
  all_sent links others end h =
      with_one (Paired (AlikeIn slot)) tt links others end _ _ (sent slot (get_or links end None) (get_or others end None) (pair_at links others end h)) h

  pub all_wait : (links others : List (Option LinkRec)) (i : ℕ) →
      AllAlikeIn slot links others → buffer_of_link (get_or links i None) ≡ buffer_of_link (get_or others i None)
  all_wait links others i h = same_buffer slot (get_or links i None) (get_or others i None) (pair_at links others i h)

  pub all_may : (routes : Routes) (links others : List (Option LinkRec)) (end : EndNumber) →
      AllAlikeIn slot links others → end_may_send routes slot end (get_or links end None) ≡ end_may_send routes slot end (get_or others end None)
  all_may routes links others end h = same_may slot routes end (get_or links end None) (get_or others end None) (pair_at links others end h)

  -- ---- After the slot

  ends_one : (link other : Option LinkRec) → Paired (AlikeIn slot) link other → Paired LinksAlike link other
  ends_one None None h = tt
  ends_one None (Some other) h = absurd h
  ends_one (Some link) None h = absurd h
  ends_one (Some link) (Some other) h = h.alike

  pub all_end : (links others : List (Option LinkRec)) → AllAlikeIn slot links others → AllZip (Paired LinksAlike) links others
  all_end [] [] h = tt
  all_end [] (other ∷ others) h = absurd h
  all_end (link ∷ links) [] h = absurd h
  all_end (link ∷ links) (other ∷ others) h = (ends_one link other h.0, all_end links others h.1)

  one_before : (link other : Option LinkRec) → Paired (AlikeIn slot) link other → IfSome link (IsLinkBefore (slot + 1))
  one_before None None h = tt
  one_before None (Some other) h = absurd h
  one_before (Some link) None h = absurd h
  one_before (Some link) (Some other) h = h.one_before

  pub all_before_next : (links others : List (Option LinkRec)) → AllAlikeIn slot links others → AllByRecursion (λ link. IfSome link (IsLinkBefore (slot + 1))) links
  all_before_next [] [] h = tt
  all_before_next [] (other ∷ others) h = absurd h
  all_before_next (link ∷ links) [] h = absurd h
  all_before_next (link ∷ links) (other ∷ others) h = (one_before link other h.0, all_before_next links others h.1)

-- ---- Each link end is alike itself

itself : (link : Option LinkRec) → Paired LinksAlike link link
itself None = tt
itself (Some link) = record { buffer = refl; window = refl; last = refl }

pub all_themselves : (links : List (Option LinkRec)) → AllZip (Paired LinksAlike) links links
all_themselves [] = tt
all_themselves (link ∷ links) = (itself link, all_themselves links)
