use Rattle.system_text.proofs.Accepted.{framed_keeps}
use Rattle.system_text.proofs.system_reader.read_plan.Goals as goal

pub plan_of_frame-requires : goal.plan_of_frame-requires
plan_of_frame-requires c = framed_keeps _ _ c.in-Ok.ensures.read
