use Rattle.addr_bits.proofs.Texts.{written_address}
use Rattle.spf_grammar.proofs.WrittenForm.{written_spells}
use Rattle.spf_grammar.proofs.laws.written_policy.Goals as goal

pub returns : goal.returns
returns c = written_spells written_address
