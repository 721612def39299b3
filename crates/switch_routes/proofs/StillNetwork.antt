-- A network that is still: by the row of its link ends, and what its switch does.
use Rattle.std.proofs.Common.{ℕ, zero, suc, ◌≡◌, ◌-◌, ◌&&◌, ◌||◌, not, Bool, true, false, cond, ltb, Option, Some, None, List, [], ◌∷◌, get_or, refl, ap, ◌∙◌}
use Rattle.std.specs.List.{list_any}
use Rattle.std.proofs.lemmas.Bool.{true≢false, false≢true}
use Rattle.xs_base.specs.declared.token.Token.{Token}
use Rattle.xs_model.specs.Record.{NodeRec, LinkRec, ChanRec, InputRec, Idle, chan_of, unused_chan}
use Rattle.xs_model.specs.Choices.{waits_in}
use Rattle.xs_model.specs.AtWork.{AtWork}
use Rattle.net_model.specs.Switch.{Routes, moves, link_at, buffer_of_link}
use Rattle.quiet_model.specs.Still.{acts_alone, link_waits, network_is_still}
use Rattle.chan_ends.specs.Ends.{has_output}
use Rattle.link_ends.specs.Counts.{EndCounts}
use Rattle.switch_routes.specs.Rest.{has_waiting}
use Rattle.switch_routes.specs.Rows.{AllCountsOf}
use Rattle.switch_routes.proofs.CanAct.{is-empty}
use Rattle.switch_routes.proofs.GoesBy.{same-buffer}
use Rattle.switch_routes.proofs.Still.{Still}
use Rattle.switch_routes.proofs.Walk.{moves-still}

by-buffer : (l : Option LinkRec) → waits_in (buffer_of_link l) ≡ link_waits l
by-buffer None = refl
by-buffer (Some link) = refl

-- tokens wait at a row of link ends where they wait in its link records
pub same-waiting : (row : List (Option EndCounts)) (links : List (Option LinkRec)) → AllCountsOf row links → list_any has_waiting row ≡ list_any link_waits links
same-waiting [] [] of = refl
same-waiting [] (l ∷ links) of = absurd of
same-waiting (w ∷ row) [] of = absurd of
same-waiting (w ∷ row) (l ∷ links) of =
    ap (λ (ts : List Token). waits_in ts || list_any has_waiting row) (same-buffer w l of.0)
    ∙ ap (λ (b : Bool). b || list_any has_waiting row) (by-buffer l)
    ∙ ap (λ (b : Bool). link_waits l || b) (same-waiting row links of.1)

neither : (a b : Bool) → (a || b) ≡ false → (a ≡ false) × (b ≡ false)
neither false b is = (refl, is)
neither true b is = absurd (true≢false is)

-- where none passes a test, none in any place does
none-at : {A : Type 0} (test : A → Bool) (d : A) (list : List A) → list_any test list ≡ false → test d ≡ false → (i : ℕ) → test (get_or list i d) ≡ false
none-at test d [] none past i = past
none-at test d (a ∷ list) none past zero = (neither (test a) (list_any test list) none).0
none-at test d (a ∷ list) none past (suc i) = none-at test d list (neither (test a) (list_any test list) none).1 past i

-- each of its parts tells one of the things that make it still
pub still-by-parts : (rec : NodeRec) (chans : List ChanRec) (row : List (Option EndCounts)) (inputs : List InputRec) (sends waits acts : Bool)
    → inputs ≡ rec.inputs → chans ≡ rec.core.chans → AllCountsOf row rec.links
    → sends ≡ list_any has_output chans → waits ≡ list_any has_waiting row → acts ≡ list_any acts_alone inputs
    → (not sends && (not waits && not acts)) ≡ network_is_still rec.core.chans rec.links rec.inputs
still-by-parts rec chans row inputs sends waits acts i c l s w a =
    ap (λ (b : Bool). not b && (not waits && not acts)) (s ∙ ap (list_any has_output) c)
    ∙ ap (λ (b : Bool). not (list_any has_output rec.core.chans) && (not b && not acts)) (w ∙ same-waiting row rec.links l)
    ∙ ap (λ (b : Bool). not (list_any has_output rec.core.chans) && (not (list_any link_waits rec.links) && not b)) (a ∙ ap (list_any acts_alone) i)

none-of-three : (a b c : Bool) → (not a && (not b && not c)) ≡ true → (a ≡ false) × (b ≡ false) × (c ≡ false)
none-of-three false false false is = (refl, refl, refl)
none-of-three false false true is = absurd (false≢true is)
none-of-three false true c is = absurd (false≢true is)
none-of-three true b c is = absurd (false≢true is)

empty-both : (b : Bool) (link chan : List Token) → link ≡ [] → chan ≡ [] → cond b link chan ≡ []
empty-both true link chan l c = l
empty-both false link chan l c = c

-- no token waits at any of its inputs, and none acts alone
inputs-still : (m : AtWork) → network_is_still m.rec.core.chans m.rec.links m.rec.inputs ≡ true → (i : ℕ) → Still i m
inputs-still m is i =
    let parts = none-of-three (list_any has_output m.rec.core.chans) (list_any link_waits m.rec.links) (list_any acts_alone m.rec.inputs) is in
    record {
      alone = none-at acts_alone Idle m.rec.inputs parts.2 refl i;
      waiting =
          empty-both (ltb i 8) (buffer_of_link (link_at m.rec i)) (chan_of m.rec.core (i - 8)).output
          (is-empty _ (by-buffer (link_at m.rec i) ∙ none-at link_waits None m.rec.links parts.1 refl i))
          (is-empty _ (none-at (λ (chan : ChanRec). waits_in chan.output) unused_chan m.rec.core.chans parts.0 refl (i - 8)));
    }

-- the switch does nothing
pub network-rests : (routes : Routes) (slot : ℕ) (m : AtWork) → network_is_still m.rec.core.chans m.rec.links m.rec.inputs ≡ true → moves routes slot m ≡ m
network-rests routes slot m is = moves-still routes slot m (λ i h. inputs-still m is i)
