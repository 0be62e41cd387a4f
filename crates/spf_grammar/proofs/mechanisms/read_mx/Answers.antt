use Rattle.std.proofs.Common.{subst}
use Rattle.spf_macros.specs.Reading.{Reads}
use Rattle.spf_grammar.specs.Reading.{SpellsAsHosts}
use Rattle.spf_grammar.proofs.MechanismKinds.{no_mx}
use Rattle.spf_grammar.proofs.mechanisms.read_mx.Goals as goal

pub returns-in_default : goal.returns-in_default
returns-in_default c = no_mx c.args.text.now (subst (λ read. Reads SpellsAsHosts c.args.text.now read) c.in_default.is c.in_ok-hosts.ensures)
