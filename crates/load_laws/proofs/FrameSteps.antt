-- Each line of a load's frame, after what the lines before it have given, has no fault, and gives the next state.
use Rattle.std.proofs.Common.{◌≡◌, ℕ, suc, ◌+◌, ◌<◌, true, nat_le, ◌&&◌, List, [], ◌∷◌, refl, ap, ◌∙◌, arith}
use Rattle.std.specs.Prelude.{Some, None, ◌==◌}
use Rattle.std.proofs.lemmas.Bool.{or_from, and_from, and_left, not_from_true}
use Rattle.xs_text.specs.Bytes.{all_allowed}
use Rattle.xs_text.specs.Words.{words_of_line}
use Rattle.system_model.specs.declared.frame_line.FrameLine.TheVariants.{Node, Link, Bit}
use Rattle.system_model.specs.declared.frame_line.GivenNode.{GivenNode}
use Rattle.system_model.specs.FrameLines.{frame_line}
use Rattle.system_model.specs.Frame.{Form, given_with, frame_from}
use Rattle.load_model.specs.Load.{node_count, next_node, delay_at, gap_at, route_bit_at}
use Rattle.load_laws.proofs.Counted.{length-firsts}
use Rattle.load_laws.proofs.Ring.{not_onward, next_node_below, most_count, bit_in_range, delay_least, delay_most, gap_least, gap_most, within, beyond}
use Rattle.load_laws.proofs.Taken.{NoFault, form_taken, says_its_form}
use Rattle.load_laws.proofs.States.{node_given, link_given, bit_given, given_of, put_next, no_node, no_id, is_node, first_end_free, second_end_free, first_end_given, no_bit}

-- the line of the next node passes each test
node_has_none : (n at k : ℕ) → k < 16 → NoFault (given_of n at k 0 0 0) (Node (record { number = k; id = k }))
node_has_none n at k h = record {
  range = not_from_true (nat_le k 99 && nat_le k 65535) (and_from _ _ (within k 99 h (omega arith)) (within k 65535 h (omega arith)));
  named = refl;
  once = no_node k;
  id_once = no_id k;
  to_other = refl;
  end_once = refl;
  bit_once = refl;
  two_nodes = refl;
  one_width = refl;
  pin_once = refl;
  few_wires = refl;
  few = ap (λ m. nat_le 16 m) (length-firsts node_given k) ∙ beyond k 16 h (omega arith);
}

-- the line of node k after those of the nodes below it
pub node_step : (n at m k : ℕ) (l : List ℕ) (ls : List (List ℕ)) → k < 16 → m ≡ 2 + k → all_allowed l ≡ true → frame_line 1 (words_of_line l) ≡ Some (Node (record { number = k; id = k }))
    → frame_from m (given_of n at k 0 0 0) (l ∷ ls) ≡ frame_from (m + 1) (given_of n at (suc k) 0 0 0) ls
node_step n at m k l ls h e allowed form =
    form_taken m (given_of n at k 0 0 0) (given_of n at (suc k) 0 0 0) l ls (Node (record { number = k; id = k })) allowed (says_its_form (words_of_line l) _ form) (node_has_none n at k h)
    (ap (λ j. given_with j l (Form (Node (record { number = k; id = k }))) (given_of n at k 0 0 0)) e
    ∙ ap (λ (ns : List GivenNode). record { edition = Some 1; nodes = ns; links = []; bits = []; wires = []; steps = []; sections = []; reading = None }) (put_next k))

-- so does that of the next link
link_has_none : (n at k : ℕ) → k < node_count n → NoFault (given_of n at (node_count n) k 0 0) (Link (link_given n k))
link_has_none n at k l =
    let low : k < 16 = omega (arith, most_count n) in
    let next : next_node n k < 16 = omega (arith, most_count n, next_node_below n k) in
    record {
      range = not_from_true _ (
          and_from (nat_le k 99 && nat_le 0 7) _ (and_from (nat_le k 99) (nat_le 0 7) (within k 99 low (omega arith)) refl) (
          and_from (nat_le (next_node n k) 99 && nat_le 1 7) _ (and_from (nat_le (next_node n k) 99) (nat_le 1 7) (within (next_node n k) 99 next (omega arith)) refl) (
          and_from (nat_le 1 (delay_at n k) && nat_le (delay_at n k) 1000) _ (and_from _ _ (delay_least n k) (delay_most n k)) (
          and_from (nat_le 4 (gap_at k) && nat_le (gap_at k) 1000) _ (and_from _ _ (gap_least k) (gap_most k)) refl))));
      named = not_from_true _ (and_from _ _ (is_node (node_count n) k l) (is_node (node_count n) (next_node n k) (next_node_below n k)));
      once = refl;
      id_once = refl;
      to_other = not_onward n k l;
      end_once = or_from ((k == next_node n k) && (0 == 1)) _ (and_left (k == next_node n k) _ (not_onward n k l)) (or_from _ _ (first_end_free n k) (second_end_free n k l));
      bit_once = refl;
      two_nodes = refl;
      one_width = refl;
      pin_once = refl;
      few_wires = refl;
      few = ap (λ m. nat_le 48 m) (length-firsts (link_given n) k) ∙ beyond k 48 low (omega arith);
    }

-- the line of link k after those before it
pub link_step : (n at m k : ℕ) (l : List ℕ) (ls : List (List ℕ)) → k < node_count n → all_allowed l ≡ true → frame_line 1 (words_of_line l) ≡ Some (Link (link_given n k))
    → frame_from m (given_of n at (node_count n) k 0 0) (l ∷ ls) ≡ frame_from (m + 1) (given_of n at (node_count n) (suc k) 0 0) ls
link_step n at m k l ls h allowed form =
    form_taken m (given_of n at (node_count n) k 0 0) (given_of n at (node_count n) (suc k) 0 0) l ls (Link (link_given n k)) allowed (says_its_form (words_of_line l) _ form) (link_has_none n at k h) refl

-- and that of the next bit
bit_has_none : (n at k : ℕ) → k < node_count n → NoFault (given_of n at (node_count n) (node_count n) k 0) (Bit (bit_given n k))
bit_has_none n at k l =
    let low : k < 16 = omega (arith, most_count n) in
    record {
      range = not_from_true _ (and_from (nat_le k 99) _ (within k 99 low (omega arith)) (and_from (nat_le (route_bit_at n k) 15) _ (bit_in_range n k) refl));
      named = not_from_true _ (and_from _ _ (is_node (node_count n) k l) (and_from _ _ (first_end_given n (node_count n) k l) refl));
      once = refl;
      id_once = refl;
      to_other = refl;
      end_once = refl;
      bit_once = no_bit n k (route_bit_at n k);
      two_nodes = refl;
      one_width = refl;
      pin_once = refl;
      few_wires = refl;
      few = refl;
    }

-- the line of bit k after those before it
pub bit_step : (n at m k : ℕ) (l : List ℕ) (ls : List (List ℕ)) → k < node_count n → all_allowed l ≡ true → frame_line 1 (words_of_line l) ≡ Some (Bit (bit_given n k))
    → frame_from m (given_of n at (node_count n) (node_count n) k 0) (l ∷ ls) ≡ frame_from (m + 1) (given_of n at (node_count n) (node_count n) (suc k) 0) ls
bit_step n at m k l ls h allowed form =
    form_taken m (given_of n at (node_count n) (node_count n) k 0) (given_of n at (node_count n) (node_count n) (suc k) 0) l ls (Bit (bit_given n k)) allowed (says_its_form (words_of_line l) _ form) (bit_has_none n at k h) refl
