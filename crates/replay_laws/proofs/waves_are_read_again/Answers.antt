use Rattle.std.proofs.Common.{◌≡◌, ap, ◌∙◌, arith}
use Rattle.std.specs.Prelude.{slice_index}
use Rattle.std.proofs.lemmas.List.{length-map}
use Rattle.xs_text.specs.Lines.{lines_of}
use Rattle.sys_plan.specs.declared.NodePlan.{NodePlan}
use Rattle.sys_plan.specs.Plan.{node_numbers}
use Rattle.pin_scripts.specs.Pins.{pins_of}
use Rattle.wave_model.specs.Waves.{node_script}
use Rattle.wave_model.specs.Reads.{Wave, wave_of}
use Rattle.wave_model.specs.Runs.{wave_of_run}
use Rattle.answer_model.specs.declared.Answer.{Answer}
use Rattle.answer_model.specs.Top.{answer}
use Rattle.replay_laws.proofs.Replays.{waved, has_number, read_again, slots_are_few}
use Rattle.replay_laws.proofs.waves_are_read_again.Goals as goal

pub returns : goal.returns
returns c = record {
  again = λ wave_words pins_words input slots plan n is stands is_plan within asks short.
      let few = slots_are_few wave_words slots is in
      let numbers = node_numbers plan in
      let node = slice_index numbers n in
      let wave = wave_of_run plan slots in
      let text = waved wave_words input slots plan is stands in
      let reads : wave_of (answer wave_words input).text ≡ Wave wave = ap wave_of text ∙ c.runs_are_waves.ensures.read plan slots is_plan few in
      let has = has_number numbers n (omega (arith, within, length-map plan.nodes (λ (node : NodePlan). node.number))) in
      let told = read_again pins_words (answer wave_words input).text node wave asks short reads has in
      record {
        done = ap (λ (a : Answer). a.status) told;
        script = node_script wave node;
        taken = λ others there.
            ap (λ (a : Answer). pins_of others (lines_of a.text)) told
            ∙ c.scripts_of_waves_give_levels.ensures.taken wave node others (c.runs_are_waves.ensures.waves plan slots is_plan few) there;
        levels = λ port slot low before.
            c.scripts_of_waves_give_levels.ensures.levels wave node port slot ∙ c.waves_tell_levels.ensures.told plan slots slot n port is_plan within low before;
      };
}
