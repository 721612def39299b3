-- The plans of nodes.
use Rattle.std.proofs.Common.{◌≡◌, ℕ, ◌+◌, ◌<◌, ◌≤◌, List, [], ◌∷◌, ◌++◌, length, drop, get_or, Result, Ok, Err, refl, ap, sym, ◌∙◌, append-nil, append_assoc, subst}
use Rattle.source_model.specs.Source.{assembled_lines}
use Rattle.sys_plan.specs.declared.NodePlan.{NodePlan}
use Rattle.system_model.specs.Bits.{BitRec}
use Rattle.system_model.specs.declared.frame_line.GivenNode.{GivenNode}
use Rattle.system_model.specs.declared.frame_line.LinkLine.{LinkLine}
use Rattle.system_model.specs.declared.frame_line.SectionKind.TheVariants as section
use Rattle.system_model.specs.Frame.{SectionText}
use Rattle.system_model.specs.System.{SourceFault, planned, plan_before, section_lines, node_plans}
use Rattle.system_text.specs.declared.system_error.SystemError.{SystemError}
use Rattle.system_text.specs.declared.system_error.SystemError.TheVariants.{Frame, Source, Pins, Memory}
use Rattle.system_text.specs.Plans.{GivesNode, GivesNodes}
use Rattle.system_text.proofs.Lists.{none_left, unrolled}

-- plans in front of others
abbrev pub in_front : List NodePlan → Result (List NodePlan) SourceFault → Result (List NodePlan) SourceFault
in_front front (Err fault) = Err fault
in_front front (Ok plans) = Ok (front ++ plans)

pub node_plans-cons : (edition : ℕ) (links : List LinkLine) (bits : List BitRec) (sections : List SectionText) (node : GivenNode) (nodes : List GivenNode) →
    node_plans edition links bits sections (node ∷ nodes) ≡ plan_before (planned edition links bits node (assembled_lines (section_lines sections (section.Source node.number)))) (node_plans edition links bits sections nodes)
unfolding node_plans
node_plans-cons edition links bits sections node nodes = refl

pub node_plans-none : (edition : ℕ) (links : List LinkLine) (bits : List BitRec) (sections : List SectionText) → node_plans edition links bits sections [] ≡ Ok []
unfolding node_plans
node_plans-none edition links bits sections = refl

one_more : (first : Result NodePlan SourceFault) (rest : Result (List NodePlan) SourceFault) (front : List NodePlan) (plan : NodePlan) → first ≡ Ok plan →
    in_front (front ++ plan ∷ []) rest ≡ in_front front (plan_before first rest)
one_more (Err fault) rest front plan h = cc
one_more (Ok p) (Err fault) front plan h = refl
one_more (Ok p) (Ok plans) front plan h = let same : p ≡ plan = cc in rw same (ap (λ (ps : List NodePlan). Ok ps) (append_assoc front (plan ∷ []) plans))

-- what a node's source stands for
abbrev found : ℕ → List LinkLine → List BitRec → List SectionText → GivenNode → Result NodePlan SourceFault
found edition links bits sections node = planned edition links bits node (assembled_lines (section_lines sections (section.Source node.number)))

plans_from : (edition : ℕ) (links : List LinkLine) (bits : List BitRec) (sections : List SectionText) (nodes : List GivenNode) (i : ℕ) (d : GivenNode) → i < length nodes →
    node_plans edition links bits sections (drop i nodes) ≡ plan_before (found edition links bits sections (get_or nodes i d)) (node_plans edition links bits sections (drop (i + 1) nodes))
plans_from edition links bits sections nodes i d h = ap (node_plans edition links bits sections) (unrolled nodes i d h) ∙ node_plans-cons edition links bits sections (get_or nodes i d) (drop (i + 1) nodes)

-- one more node has its plan
pub plans_next : (edition : ℕ) (links : List LinkLine) (bits : List BitRec) (sections : List SectionText) (nodes : List GivenNode) (i : ℕ) (d : GivenNode) →
    (front : List NodePlan) (all : Result (List NodePlan) SourceFault) (plan : NodePlan) →
    in_front front (node_plans edition links bits sections (drop i nodes)) ≡ all → i < length nodes → found edition links bits sections (get_or nodes i d) ≡ Ok plan →
    in_front (front ++ plan ∷ []) (node_plans edition links bits sections (drop (i + 1) nodes)) ≡ all
plans_next edition links bits sections nodes i d front all plan h k e =
    one_more (found edition links bits sections (get_or nodes i d)) (node_plans edition links bits sections (drop (i + 1) nodes)) front plan e
    ∙ (ap (in_front front) (sym (plans_from edition links bits sections nodes i d k)) ∙ h)

-- every node has its plan
pub plans_done : (edition : ℕ) (links : List LinkLine) (bits : List BitRec) (sections : List SectionText) (nodes : List GivenNode) (i : ℕ) (front : List NodePlan) (all : Result (List NodePlan) SourceFault) →
    in_front front (node_plans edition links bits sections (drop i nodes)) ≡ all → length nodes ≤ i → all ≡ Ok front
plans_done edition links bits sections nodes i front all h k =
    sym h ∙ (ap (λ ns. in_front front (node_plans edition links bits sections ns)) (none_left nodes i k)
    ∙ (ap (in_front front) (node_plans-none edition links bits sections) ∙ ap (λ (ps : List NodePlan). Ok ps) (append-nil front)))

refused_by : (A : Type 0) (first : Result NodePlan SourceFault) (rest : Result (List NodePlan) SourceFault) (front : List NodePlan) (e : SystemError) →
    GivesNode first (Err e) → GivesNodes {A = A} (in_front front (plan_before first rest)) (Err e)
refused_by A first rest front (Frame line kind) h = h
refused_by A first rest front (Source n line kind) h = ap (λ f. in_front front (plan_before f rest)) h
refused_by A first rest front (Pins line kind) h = h
refused_by A first rest front Memory h = tt

-- a node's source is refused
pub plans_refused : (A : Type 0) (edition : ℕ) (links : List LinkLine) (bits : List BitRec) (sections : List SectionText) (nodes : List GivenNode) (i : ℕ) (d : GivenNode) →
    (front : List NodePlan) (all : Result (List NodePlan) SourceFault) (e : SystemError) →
    in_front front (node_plans edition links bits sections (drop i nodes)) ≡ all → i < length nodes → GivesNode (found edition links bits sections (get_or nodes i d)) (Err e) →
    GivesNodes {A = A} all (Err e)
plans_refused A edition links bits sections nodes i d front all e h k r =
    subst (λ (plans : Result (List NodePlan) SourceFault). GivesNodes {A = A} plans (Err e)) (ap (in_front front) (sym (plans_from edition links bits sections nodes i d k)) ∙ h)
    (refused_by A (found edition links bits sections (get_or nodes i d)) (node_plans edition links bits sections (drop (i + 1) nodes)) front e r)
