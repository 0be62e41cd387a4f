use Rattle.published_records.proofs.RecordChains.{records_are_chain}
use Rattle.published_records.proofs.laws.records_are_chain.Goals as goal

pub returns : goal.returns
returns c = records_are_chain
