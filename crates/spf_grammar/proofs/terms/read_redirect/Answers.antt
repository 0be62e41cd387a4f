use Rattle.std.proofs.Common.{subst, false}
use Rattle.spf_macros.specs.Grammar.{SpellsDomainSpec}
use Rattle.spf_macros.specs.Reading.{Reads}
use Rattle.spf_grammar.proofs.TermCuts.{no_redirect_value}
use Rattle.spf_grammar.proofs.terms.read_redirect.Goals as goal

pub returns-in_default : goal.returns-in_default
returns-in_default c = no_redirect_value c.args.name.now c.args.value.now c.requires (subst (λ read. Reads (SpellsDomainSpec false) c.args.value.now read) c.in_default.is c.in_ok-spec.ensures)
