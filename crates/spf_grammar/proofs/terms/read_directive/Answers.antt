use Rattle.std.proofs.Common.{subst}
use Rattle.spf_macros.specs.Reading.{Reads}
use Rattle.spf_grammar.specs.Reading.{SpellsBehind}
use Rattle.spf_grammar.proofs.TermCuts.{no_keyword, no_mechanism, directive_told}
use Rattle.spf_grammar.proofs.terms.read_directive.Goals as goal

pub returns-in_default : goal.returns-in_default
returns-in_default c = no_keyword c.args.mark.now c.args.name.now c.args.rest.now c.in_default.ensures

pub returns-in_default-2 : goal.returns-in_default-2
returns-in_default-2 c =
    no_mechanism c.args.mark.now c.args.name.now c.args.rest.now c.in-Some.keyword c.in-Some.ensures (subst (λ read. Reads (SpellsBehind c.in-Some.keyword) c.args.rest.now read) c.in_default-2.is c.in_ok-mechanism.ensures)

pub returns : goal.returns
returns c =
    directive_told c.args.mark.now c.args.name.now c.args.rest.now c.in-Some.keyword c.verdict_of.result c.in-Some-2.mechanism c.verdict_of.ensures c.in-Some.ensures
    (subst (λ read. Reads (SpellsBehind c.in-Some.keyword) c.args.rest.now read) c.in-Some-2.is c.in_ok-mechanism.ensures)
