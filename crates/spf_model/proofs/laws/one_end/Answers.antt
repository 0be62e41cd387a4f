use Rattle.addr_bits.proofs.Texts.{one_address}
use Rattle.spf_grammar.proofs.OnePolicy.{one_policy}
use Rattle.spf_model.proofs.Dialogues.{one_run}
use Rattle.spf_model.proofs.laws.one_end.Goals as goal

pub returns : goal.returns
returns c = one_run (one_policy one_address)
