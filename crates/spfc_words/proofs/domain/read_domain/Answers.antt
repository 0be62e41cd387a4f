use Rattle.std.proofs.Common.{IsOk, rules, subst}
use Rattle.spfc_words.proofs.Domains.{domain_is_name}
use Rattle.spfc_words.proofs.domain.read_domain.Goals as goal

pub unwrap-name-requires : goal.unwrap-name-requires
unwrap-name-requires c = subst (λ r. IsOk r) (search rules) (domain_is_name c.args.word.now (search rules))
