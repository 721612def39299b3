use Rattle.link_laws.proofs.WindowStep.{step_by_windows, step_stays_before, run_by_windows, run_stays_before}
use Rattle.link_laws.proofs.WindowKept.{each_has_a_link, its_links_are_alike}
use Rattle.link_laws.proofs.steps_go_by_windows.Goals as goal

pub returns : goal.returns
returns c = record {
  step = step_by_windows;
  step_stays_before = step_stays_before;
  run = run_by_windows;
  run_stays_before = run_stays_before;
  kept = each_has_a_link;
  kept_alike = its_links_are_alike;
}
