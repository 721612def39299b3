use Rattle.chart_laws.proofs.Capital.{capitals}
use Rattle.chart_laws.proofs.capitals_are_issues.Goals as goal

pub returns : goal.returns
returns c = capitals
