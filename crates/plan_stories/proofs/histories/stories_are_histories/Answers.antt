use Rattle.plan_stories.proofs.Stories.{between_is_history}
use Rattle.plan_stories.proofs.histories.stories_are_histories.Goals as goal

pub returns : goal.returns
returns c = record { histories = between_is_history }
