use Rattle.zone_answers.proofs.Reading.{read_lendable}
use Rattle.zone_answers.proofs.laws.read_records_are_lendable.Goals as goal

pub returns : goal.returns
returns c = read_lendable
