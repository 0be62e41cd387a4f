use Rattle.std.proofs.Common.{subst}
use Rattle.spf_macros.specs.Reading.{Reads}
use Rattle.spf_grammar.specs.Reading.{SpellsRequired}
use Rattle.spf_grammar.proofs.MechanismKinds.{no_include}
use Rattle.spf_grammar.proofs.mechanisms.read_include.Goals as goal

pub returns-in_default : goal.returns-in_default
returns-in_default c = no_include c.args.text.now (subst (λ read. Reads SpellsRequired c.args.text.now read) c.in_default.is c.in_ok-target.ensures)
