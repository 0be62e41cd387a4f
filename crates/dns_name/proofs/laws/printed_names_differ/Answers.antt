use Rattle.dns_name.proofs.Printing.{names_differ}
use Rattle.dns_name.proofs.laws.printed_names_differ.Goals as goal

pub returns : goal.returns
returns c = names_differ
