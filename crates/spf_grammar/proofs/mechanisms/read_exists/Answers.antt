use Rattle.std.proofs.Common.{subst}
use Rattle.spf_macros.specs.Reading.{Reads}
use Rattle.spf_grammar.specs.Reading.{SpellsRequired}
use Rattle.spf_grammar.proofs.MechanismKinds.{no_exists}
use Rattle.spf_grammar.proofs.mechanisms.read_exists.Goals as goal

pub returns-in_default : goal.returns-in_default
returns-in_default c = no_exists c.args.text.now (subst (λ read. Reads SpellsRequired c.args.text.now read) c.in_default.is c.in_ok-target.ensures)
