-- The text that a play writes.
use Rattle.std.specs.Prelude.{ℕ, List, [], ◌∷◌, ◌++◌, codes, decimal}
use Rattle.std.specs.List.{flat_map}
use Rattle.xs_base.specs.Numbers.{Slot, Word}
use Rattle.xs_base.specs.declared.entry.Entry.{Entry}
use Rattle.xs_base.specs.declared.entry.What.{What}
use Rattle.xs_base.specs.declared.entry.What.TheVariants.{Token, Credit, Level}
use Rattle.sys_plan.specs.declared.NodePlan.{NodePlan}
use Rattle.sys_plan.specs.declared.Step.{Step}
use Rattle.sys_plan.specs.declared.Step.TheVariants.{Take, Run, Send}
use Rattle.sys_plan.specs.Plan.{PlanRec}
use Rattle.trace_model.specs.EventLines.{hex_word, token_text}
use Rattle.trace_model.specs.Trace.{number_at, link_end_text}
use Rattle.play_model.specs.Play.{PlayedStep, played}

-- `level V`
abbrev pub level_text : Word → List ℕ
level_text level = codes "level " ++ hex_word level

-- `dt V`, `ct V` or `credit`, and of a wire `level V`
abbrev pub carried_text : What → List ℕ
carried_text (Token token) = token_text token
carried_text Credit = codes "credit"
carried_text (Level level) = level_text level

-- `entry N:E SLOT WHAT`, by the number of the node and the end by which it left
abbrev pub entry_line : ℕ → ℕ → Entry → List ℕ
entry_line node end e = codes "entry " ++ (link_end_text node end ++ (codes " " ++ (decimal e.slot ++ (codes " " ++ (carried_text e.what ++ (10 ∷ []))))))

-- `take N:E seen K`, `run N clock K` and `send N:E published K`
abbrev pub take_line : ℕ → ℕ → Slot → List ℕ
take_line node end number = codes "take " ++ (link_end_text node end ++ (codes " seen " ++ (decimal number ++ (10 ∷ []))))

abbrev pub run_line : ℕ → Slot → List ℕ
run_line node number = codes "run " ++ (decimal node ++ (codes " clock " ++ (decimal number ++ (10 ∷ []))))

abbrev pub send_line : ℕ → ℕ → Slot → List ℕ
send_line node end number = codes "send " ++ (link_end_text node end ++ (codes " published " ++ (decimal number ++ (10 ∷ []))))

-- the lines of a step: those of a send are followed by one for each entry that it published
abbrev pub step_lines : List NodePlan → Step → Slot → List Entry → List ℕ
step_lines nodes (Take node end) number entries = take_line (number_at nodes node) end number
step_lines nodes (Run node count) number entries = run_line (number_at nodes node) number
step_lines nodes (Send node end) number entries =
    send_line (number_at nodes node) end number ++ flat_map (λ (e : Entry). entry_line (number_at nodes node) end e) entries

abbrev pub played_lines : List NodePlan → PlayedStep → List ℕ
played_lines nodes p = step_lines nodes p.step p.number p.entries

-- the lines of all steps of the plan in a run of so many slots, and the last
unfoldable pub play_text : PlanRec → Slot → List ℕ
play_text plan limit = flat_map (played_lines plan.nodes) (played plan limit) ++ codes "end play\n"
