-- What `profile SLOTS` writes.
use Rattle.std.specs.Prelude.{ℕ, zero, suc, ◌+◌, ◌==◌, ◌&&◌, nat_lt, if◌then◌else◌, List, [], ◌∷◌, ◌++◌, length, get_or, slice_index_or, codes, decimal}
use Rattle.xs_base.specs.Numbers.{Position, ThreadNumber, EndNumber}
use Rattle.xs_base.specs.declared.numbers.TheConstants.{THREADS, LINK_ENDS}
use Rattle.xs_instructions.specs.Code.{place_address}
use Rattle.xs_instructions.specs.Image.{ImageRec}
use Rattle.sys_plan.specs.declared.NodePlan.{NodePlan}
use Rattle.sys_plan.specs.Plan.{PlanRec}
use Rattle.trace_model.specs.Trace.{by_position, end_line}
use Rattle.look_model.specs.Places.{place_text}
use Rattle.look_model.specs.Waits.{thread_name}
use Rattle.profile_model.specs.declared.TheConstants.{ISSUES, PAUSES, WAITS, KINDS}
use Rattle.profile_model.specs.Counts.{slots_shown, times_at, tokens_sent, slots_full}

-- `nN`
abbrev pub node_name : NodePlan → List ℕ
node_name node = codes "n" ++ decimal node.number

-- ---- Instructions

-- ` at PC line L LABEL+D: INSTRUCTION`, or ` at no instruction` for the place past the last
abbrev pub where_text : List ℕ → ImageRec → ℕ → List ℕ
where_text lines image place =
    if nat_lt place (length image.code) then place_text lines image (place_address place) else codes " at no instruction"

-- `nN issues I pauses P waits W`, and where, of a place at which a thread issued or waited
abbrev pub place_line : NodePlan → List ℕ → ℕ → ℕ → ℕ → ℕ → List ℕ
place_line node lines place issues pauses waits =
    if (issues == 0) && (waits == 0) then []
    else node_name node ++ (codes " issues " ++ (decimal issues ++ (codes " pauses " ++ (decimal pauses ++ (codes " waits " ++ (decimal waits ++ (where_text lines node.image place ++ codes "\n")))))))

-- the lines of so many places of a node, by how often of each
abbrev pub places_text : NodePlan → List ℕ → (ℕ → ℕ) → (ℕ → ℕ) → (ℕ → ℕ) → ℕ → List ℕ
places_text node lines issues pauses waits zero = []
places_text node lines issues pauses waits (suc place) =
    places_text node lines issues pauses waits place ++ place_line node lines place (issues place) (pauses place) (waits place)

-- ---- Threads

-- ` NAME C`, where a thread was shown so
abbrev pub kind_text : ℕ → List ℕ → List ℕ
kind_text count name = if count == 0 then [] else codes " " ++ (name ++ (codes " " ++ decimal count))

-- what the characters are called
abbrev pub kind_names : List (List ℕ)
kind_names =
    codes "done" ∷ codes "pauses" ∷ codes "traps" ∷ codes "events" ∷ codes "interrupts" ∷ codes "ready" ∷ codes "between" ∷ codes "tokens" ∷ codes "room" ∷ codes "port"
    ∷ codes "timer" ∷ codes "lock" ∷ codes "slaves" ∷ codes "divider" ∷ codes "waiteu" ∷ codes "sync" ∷ codes "unstarted" ∷ codes "halted" ∷ codes "free" ∷ []

abbrev pub kind_name : ℕ → List ℕ
kind_name i = get_or kind_names i []

-- in how many slots it was shown by each of the first characters
abbrev pub kinds_text : (ℕ → ℕ) → ℕ → List ℕ
kinds_text shown zero = []
kinds_text shown (suc i) = kinds_text shown i ++ kind_text (shown (slice_index_or KINDS i 0)) (kind_name i)

-- `nN.tT NAME C NAME C ..`
abbrev pub shown_line : NodePlan → ThreadNumber → (ℕ → ℕ) → List ℕ
shown_line node k shown = node_name node ++ (codes "." ++ (thread_name k ++ (kinds_text shown (length KINDS) ++ codes "\n")))

-- of a thread that was not free in all of so many slots
abbrev pub thread_line : NodePlan → ℕ → ThreadNumber → (ℕ → ℕ) → List ℕ
thread_line node slots k shown = if shown 45 == slots then [] else shown_line node k shown

-- those of so many threads of a node
abbrev pub threads_text : NodePlan → ℕ → (ThreadNumber → ℕ → ℕ) → ℕ → List ℕ
threads_text node slots shown zero = []
threads_text node slots shown (suc k) = threads_text node slots shown k ++ thread_line node slots k (shown k)

-- ---- Link ends

-- `nN link E tokens C full F`, of a link end that sent a token
abbrev pub link_line : NodePlan → EndNumber → ℕ → ℕ → List ℕ
link_line node e tokens full =
    if tokens == 0 then []
    else node_name node ++ (codes " link " ++ (decimal e ++ (codes " tokens " ++ (decimal tokens ++ (codes " full " ++ (decimal full ++ codes "\n"))))))

-- those of so many link ends of a node
abbrev pub links_text : NodePlan → (EndNumber → ℕ) → (EndNumber → ℕ) → ℕ → List ℕ
links_text node tokens full zero = []
links_text node tokens full (suc e) = links_text node tokens full e ++ link_line node e (tokens e) (full e)

-- ---- All nodes

-- of the node at a position, where its instructions are of these lines
abbrev pub node_text : PlanRec → List ℕ → ℕ → Position → NodePlan → List ℕ
node_text plan lines slots n node =
    places_text node lines
    (λ place. times_at plan n node ISSUES place slots)
    (λ place. times_at plan n node PAUSES place slots)
    (λ place. times_at plan n node WAITS place slots)
    (length node.image.code + 1)
    ++ (threads_text node slots (λ k c. slots_shown plan n node k c slots) THREADS
    ++ links_text node (λ e. tokens_sent plan n e slots) (λ e. slots_full plan n e slots) LINK_ENDS)

-- of a run of so many slots by a plan, where the instructions of each node are of these lines
abbrev pub profile_of : PlanRec → List (List ℕ) → ℕ → List ℕ
profile_of plan lines slots = by_position (λ n node. node_text plan (slice_index_or lines n []) slots n node) 0 plan.nodes ++ end_line slots
