use Rattle.std.proofs.Common.{◌≢◌, [], length, sym, ap, subst, ◌∙◌}
use Rattle.std.proofs.lemmas.Bool.{eqb-false}
use Rattle.spf_macros.specs.Reading.{Reads}
use Rattle.spf_grammar.specs.Reading.{SpellsRequired}
use Rattle.spf_grammar.proofs.HostCuts.{no_optional}
use Rattle.spf_grammar.proofs.hosts.read_optional_target.Goals as goal

pub returns-in-None : goal.returns-in-None
returns-in-None c =
    let some : c.args.text.now ≢ [] = λ e. eqb-false (length c.args.text.now) 0 (sym c.is_empty.ensures ∙ c.if-is_empty.false) (ap length e) in
    no_optional c.args.text.now some (subst (λ read. Reads SpellsRequired c.args.text.now read) c.in-None.is c.in_ok-target.ensures)
