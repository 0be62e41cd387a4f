use Rattle.spfc_words.proofs.Domains.{domain_is_name}
use Rattle.spfc_words.proofs.laws.domains_are_names.Goals as goal

pub returns : goal.returns
returns c = domain_is_name
