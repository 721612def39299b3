-- The plan of the frame that a load's lines have given.
use Rattle.std.proofs.Common.{◌≡◌, ℕ, zero, suc, ◌+◌, ◌<◌, true, false, not, ◌||◌, List, [], ◌∷◌, ◌++◌, map, refl, sym, ap, ◌∙◌, inl, inr, arith}
use Rattle.std.specs.Prelude.{Result, Ok, ◌==◌, replicate}
use Rattle.std.specs.List.{list_any, range_with_len}
use Rattle.std.proofs.lemmas.Bool.{cases_Bool, or_parts, cond-true, cond-false, not-false, eqb-true, eq-eqb, ne_eqb}
use Rattle.xs_instructions.specs.Image.{ImageRec}
use Rattle.source_model.specs.Source.{Assembled, Image, assembled_lines}
use Rattle.pin_scripts.specs.Pins.{Script, pins_from, pins_of}
use Rattle.sys_plan.specs.declared.NodePlan.{NodePlan}
use Rattle.sys_plan.specs.Plan.{link_ends}
use Rattle.sys_plan.specs.NodePlans.{plain_plan}
use Rattle.system_model.specs.declared.frame_line.EndName.{EndName}
use Rattle.system_model.specs.declared.frame_line.GivenNode.{GivenNode}
use Rattle.system_model.specs.declared.frame_line.LinkLine.{LinkLine}
use Rattle.system_model.specs.declared.frame_line.SectionKind.{SectionKind}
use Rattle.system_model.specs.declared.frame_line.SectionKind.TheVariants.{Source, Pins}
use Rattle.system_model.specs.Bits.{BitRec}
use Rattle.system_model.specs.Frame.{SectionText, is_same_end, is_same_kind, has_section}
use Rattle.system_model.specs.System.{SourceFault, section_lines, planned, plan_before, node_plans, net_of_end, nets_of, ways_of, link_plan, position_by_number}
use Rattle.load_model.specs.Load.{node_count, node_numbers, next_node}
use Rattle.load_laws.specs.Accepted.{load_link}
use Rattle.load_laws.proofs.Counted.{firsts, below_or_at, any_none, any_one, firsts_counted, count_below, map-firsts}
use Rattle.load_laws.proofs.Ring.{next_node_below}
use Rattle.load_laws.proofs.States.{node_given, link_given, nodes_of, links_of}

-- ---- The lines of a section

-- a section that is among the first is found there
found_before : (kind : SectionKind) (xs ys : List SectionText) → has_section xs kind ≡ true → section_lines (xs ++ ys) kind ≡ section_lines xs kind
found_before kind [] ys h = cc
found_before kind (x ∷ xs) ys h = elim (cases_Bool (is_same_kind x.kind kind)) [
  | inl e ↦ cond-true (is_same_kind x.kind kind) x.lines (section_lines (xs ++ ys) kind) e ∙ sym (cond-true (is_same_kind x.kind kind) x.lines (section_lines xs kind) e)
  | inr e ↦
      cond-false (is_same_kind x.kind kind) x.lines (section_lines (xs ++ ys) kind) e
      ∙ found_before kind xs ys (sym (ap (λ b. b || has_section xs kind) e) ∙ h)
      ∙ sym (cond-false (is_same_kind x.kind kind) x.lines (section_lines xs kind) e)
]

-- and one that is not is looked for behind them
found_behind : (kind : SectionKind) (xs ys : List SectionText) → has_section xs kind ≡ false → section_lines (xs ++ ys) kind ≡ section_lines ys kind
found_behind kind [] ys h = refl
found_behind kind (x ∷ xs) ys h =
    let parts = or_parts (is_same_kind x.kind kind) (has_section xs kind) h in
    cond-false (is_same_kind x.kind kind) x.lines (section_lines (xs ++ ys) kind) parts.0 ∙ found_behind kind xs ys parts.1

module _ (line : ℕ → ℕ) (lines : ℕ → List (List ℕ)) where
  -- a source of each number
  abbrev source_at : ℕ → SectionText
  source_at i = record { kind = Source i; line = line i; lines = lines i }

  -- each source is found among the sources
  pub source_found : (k i : ℕ) → i < k → section_lines (firsts source_at k) (Source i) ≡ lines i
  source_found zero i l = absurd (omega arith)
  source_found (suc k) i l = elim (below_or_at i k l) [
    | inl low ↦
        found_before (Source i) (firsts source_at k) (source_at k ∷ []) (any_one (λ (s : SectionText). is_same_kind s.kind (Source i)) source_at k i low (eq-eqb i i refl))
        ∙ source_found k i low
    | inr here ↦
        found_behind (Source i) (firsts source_at k) (source_at k ∷ [])
        (any_none (λ (s : SectionText). is_same_kind s.kind (Source i)) source_at k (λ j b. ne_eqb j i (λ e. omega (arith, b, e, here))))
        ∙ cond-true (is_same_kind (Source k) (Source i)) (lines k) [] (eq-eqb k i (sym here))
        ∙ ap lines (sym here)
  ]

  -- and no pin script
  pub no_pins : (k : ℕ) → section_lines (firsts source_at k) Pins ≡ []
  no_pins zero = refl
  no_pins (suc k) =
      found_behind Pins (firsts source_at k) (source_at k ∷ []) (any_none (λ (s : SectionText). is_same_kind s.kind Pins) source_at k (λ j b. refl))

-- no lines are a script with no lines
pub no_lines_no_script : (numbers : List ℕ) → pins_of numbers [] ≡ Script []
unfolding pins_of pins_from
no_lines_no_script numbers = refl

-- ---- The plans of the nodes

-- where each link is of network 0, that at a link end is
nets_0 : (links : List LinkLine) (name : EndName) → list_any (λ (link : LinkLine). not (link.net == 0)) links ≡ false → net_of_end links name ≡ 0
nets_0 [] name h = refl
nets_0 (link ∷ links) name h =
    let parts = or_parts (not (link.net == 0)) (list_any (λ (l : LinkLine). not (l.net == 0)) links) h in
    elim (cases_Bool (is_same_end link.a name || is_same_end link.b name)) [
      | inl e ↦ cond-true (is_same_end link.a name || is_same_end link.b name) link.net (net_of_end links name) e ∙ eqb-true link.net 0 (not-false _ parts.0)
      | inr e ↦ cond-false (is_same_end link.a name || is_same_end link.b name) link.net (net_of_end links name) e ∙ nets_0 links name parts.1
    ]

-- so those of a node are, among the links of a load
pub load_nets : (n k i : ℕ) → nets_of (links_of n k) i ≡ replicate 8 0
load_nets n k i =
    λ j. map (λ end. nets_0 (links_of n k) (record { node = i; end = end }) (any_none _ (link_given n) k (λ m l. refl)) j) link_ends

module _ (bits : List BitRec) (image_at : ℕ → ImageRec) where
  -- a node's plan by its image
  abbrev pub node_plan : ℕ → NodePlan
  node_plan i = plain_plan i i (image_at i) (ways_of bits i)

  -- where each source has its image and each link is of network 0 the nodes have these plans
  pub plans_are : (links : List LinkLine) → ((i : ℕ) → nets_of links i ≡ replicate 8 0)
      → (sections : List SectionText) (c : ℕ) → ((i : ℕ) → i < c → assembled_lines (section_lines sections (Source i)) ≡ Image (image_at i))
      → (a m : ℕ) → a + m ≡ c → node_plans 1 links bits sections (map node_given (range_with_len a m)) ≡ Ok (map node_plan (range_with_len a m))
  unfolding node_plans
  plans_are links nets sections c h a zero e = refl
  plans_are links nets sections c h a (suc m) e =
      let after = node_plans 1 links bits sections (map node_given (range_with_len (a + 1) m)) in
      ap (λ (read : Assembled). plan_before (planned 1 links bits (node_given a) read) after) (h a (omega arith))
      ∙ ap (λ (of_ends : List ℕ). plan_before (Ok (record (node_plan a) { nets = of_ends })) after) (nets a)
      ∙ ap (λ (others : Result (List NodePlan) SourceFault). plan_before (Ok (node_plan a)) others) (plans_are links nets sections c h (a + 1) m (omega arith))

-- ---- The links

-- a node stands at its number
position_is : (c i : ℕ) → i < c → position_by_number (nodes_of c) i ≡ i
position_is c i l = count_below (λ (node : GivenNode). node.number) node_given (λ j. refl) c i ∙ omega (arith, l)

-- so a link line stands for the link of the load
link_is : (n i : ℕ) → i < node_count n → link_plan (nodes_of (node_count n)) (link_given n i) ≡ load_link n i
link_is n i l =
    ap (λ (p : ℕ). record (load_link n i) { a = p; b = position_by_number (nodes_of (node_count n)) (next_node n i) }) (position_is (node_count n) i l)
    ∙ ap (λ (p : ℕ). record (load_link n i) { b = p }) (position_is (node_count n) (next_node n i) (next_node_below n i))

-- lists of the same elements are the same
alike : {X : Type 0} (f g : ℕ → X) (k : ℕ) → ((i : ℕ) → i < k → f i ≡ g i) → firsts f k ≡ firsts g k
alike f g zero h = refl
alike f g (suc k) h = ap (λ xs. xs ++ f k ∷ []) (alike f g k (λ i l. h i (omega arith))) ∙ ap (λ x. firsts g k ++ x ∷ []) (h k (omega arith))

-- the links are those of the load
pub links_are : (n : ℕ) → map (link_plan (nodes_of (node_count n))) (links_of n (node_count n)) ≡ map (load_link n) (node_numbers n)
links_are n =
    map-firsts (link_plan (nodes_of (node_count n))) (link_given n) (node_count n)
    ∙ alike (λ i. link_plan (nodes_of (node_count n)) (link_given n i)) (load_link n) (node_count n) (link_is n)
    ∙ firsts_counted (load_link n) (node_count n)
