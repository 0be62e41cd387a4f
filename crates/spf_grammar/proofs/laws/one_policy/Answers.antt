use Rattle.addr_bits.proofs.Texts.{one_address}
use Rattle.spf_grammar.proofs.OnePolicy.{one_policy}
use Rattle.spf_grammar.proofs.laws.one_policy.Goals as goal

pub returns : goal.returns
returns c = one_policy one_address
