use Rattle.policy_verdicts.proofs.OrderedQuestions.{one_list_asked}
use Rattle.policy_verdicts.proofs.laws.one_list_asked.Goals as goal

pub returns : goal.returns
returns c = one_list_asked
