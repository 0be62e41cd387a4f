use Rattle.spf_model.proofs.Chains.{chains_give_first}
use Rattle.spf_model.proofs.laws.chains_give_first.Goals as goal

pub returns : goal.returns
returns c = chains_give_first
