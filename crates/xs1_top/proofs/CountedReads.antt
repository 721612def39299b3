-- How often a source that counts its reads is read at most, whatever the form.
use Rattle.std.proofs.Common.{◌+◌, ◌≤◌, Option, Some, None, arith}
use Rattle.snap_codec.specs.Snaps.{longest_snapshot}
use Rattle.answer_model.specs.declared.Form.{Form}
use Rattle.answer_model.specs.declared.Form.TheVariants.{Free, Serial, Rounds, Play, Make, Check, Save, Resume, Routes, Wave, PinsOf}
use Rattle.answer_model.specs.Top.{most_reads}

pub few_reads : (form : Option Form) → most_reads form ≤ longest_snapshot + 1
few_reads None = omega arith
few_reads (Some (Free slots)) = omega arith
few_reads (Some (Serial slots)) = omega arith
few_reads (Some (Rounds slots)) = omega arith
few_reads (Some (Play slots)) = omega arith
few_reads (Some (Make number)) = omega arith
few_reads (Some Check) = omega arith
few_reads (Some (Save slots)) = omega arith
few_reads (Some (Resume slots)) = omega arith
few_reads (Some Routes) = omega arith
few_reads (Some (Wave slots)) = omega arith
few_reads (Some (PinsOf node)) = omega arith
