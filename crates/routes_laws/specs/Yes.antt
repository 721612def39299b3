-- What the answer `routes yes` says of the input.
use Rattle.std.specs.Prelude.{ℕ, ◌≡◌, Some, List, codes}
use Rattle.xs_base.specs.Numbers.{Slot}
use Rattle.sys_plan.specs.Plan.{PlanRec, IsPlan}
use Rattle.serial_model.specs.Serial.{serial}
use Rattle.system_model.specs.System.{Plan, system_of}
use Rattle.rank_model.specs.Lines.{RanksRec, Ranks, ranks_of, system_after}
use Rattle.rank_model.specs.Checks.{ranks_by_link}
use Rattle.rank_laws.specs.Walks.{WalksArrive}
use Rattle.rank_laws.specs.Held.{HeldRise}
use Rattle.answer_model.specs.declared.Form.TheVariants.{Routes}
use Rattle.answer_model.specs.Forms.{form_of_words}
use Rattle.answer_model.specs.Top.{answer}

-- ranks stand before the text of a system, and for this system they are a certificate
pub record IsCertificate (input : List ℕ) : Type 0 where
  pub ranks : RanksRec
  pub plan : PlanRec
  pub reads : ranks_of input ≡ Ranks ranks
  pub stands : system_of (system_after input ranks) ≡ Plan plan
  pub arrive : IsPlan plan → WalksArrive plan
  pub rise : (slot : Slot) → IsPlan plan → HeldRise plan (ranks_by_link plan ranks.lines) (serial plan slot)

abbrev pub YesIsACertificate : Type 0
YesIsACertificate = (words : List (List ℕ)) (input : List ℕ) → form_of_words words ≡ Some Routes → (answer words input).text ≡ codes "routes yes\n" → IsCertificate input
