-- A system text that is cut, read by hand.
use Rattle.std.specs.Prelude.{ℕ, ◌≡◌, List, [], ◌∷◌, map, take, codes, replicate}
use Rattle.xs_instructions.specs.Image.{ImageRec}
use Rattle.sys_plan.specs.NodePlans.{plain_plan}
use Rattle.sys_plan.specs.Plan.{PlanRec}
use Rattle.system_model.specs.declared.SysKind.TheVariants.{SectionNotEnded}
use Rattle.system_model.specs.CutText.{IsCutInside}
use Rattle.system_model.specs.System.{Plan, Frame, system_of}
use Rattle.worked_texts.specs.SystemsRead.{empty_image}

-- Its source stands behind 27 bytes, with the `d` of its `end` behind 40; its script behind 51, with that `d` behind 54.
abbrev pub whole_text : List ℕ
whole_text = codes "xs1 1\nnode 0 id 0\nsource 0\nend:\n# x\n  end # x\npins\n\nend\n"

-- the plan of such a text by the image of its source
abbrev pub plan_with : ImageRec → PlanRec
plan_with image = record { nodes = plain_plan 0 0 image (replicate 16 0) ∷ []; links = []; script = []; steps = []; wires = [] }

-- the source has a label alone
abbrev pub labelled_image : ImageRec
labelled_image = record { code = []; bytes = []; cp_at = 65536; symbols = (codes "end", 262144) ∷ [] }

-- cut behind each of so many bytes the text is refused for the section of the line
abbrev pub AreCut : List ℕ → ℕ → Type 0
AreCut places line = map (λ k. system_of (take k whole_text)) places ≡ map (λ k. Frame line SectionNotEnded) places

pub record WorkedCuts : Type 0 where
  pub whole : system_of whole_text ≡ Plan (plan_with labelled_image)
  -- from the line feed behind `source 0` to the `d`, but where `end:` leaves `end`
  pub of_source : AreCut (27 ∷ 28 ∷ 29 ∷ 31 ∷ 32 ∷ 33 ∷ 34 ∷ 35 ∷ 36 ∷ 37 ∷ 38 ∷ 39 ∷ 40 ∷ []) 3
  pub of_pins : AreCut (51 ∷ 52 ∷ 53 ∷ 54 ∷ []) 7
  -- there the source is an empty one
  pub ended : system_of (take 30 whole_text) ≡ Plan (plan_with empty_image)
  -- and with the `d` it is whole
  pub with_d : system_of (take 41 whole_text) ≡ Plan (plan_with labelled_image)
  -- two of these cuts as the law on them has it
  pub in_source : IsCutInside whole_text (take 39 whole_text) 3
  pub in_pins : IsCutInside whole_text (take 51 whole_text) 7
