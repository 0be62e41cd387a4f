use Rattle.std.proofs.Common.{subst}
use Rattle.spf_macros.specs.Reading.{Reads}
use Rattle.spf_grammar.specs.Grammar.{SpellsTerm}
use Rattle.spf_grammar.proofs.Words.{goes_on, stuck, ends}
use Rattle.spf_grammar.proofs.reader.read_terms.Goals as goal

pub returns-in_default-2 : goal.returns-in_default-2
returns-in_default-2 c =
    stuck c.args.text.now c.loop-word.rest.now c.in-Some.word.now c.in-Some.behind.now c.loop-word.terms c.loop-word.invariant c.in-Some.ensures
    (subst (λ read. Reads SpellsTerm c.in-Some.word.now read) c.in_default-2.is c.in_ok-term.ensures)

pub loop-word-preserved : goal.loop-word-preserved
loop-word-preserved c =
    goes_on c.args.text.now c.loop-word.rest.now c.in-Some.word.now c.in-Some.behind.now c.loop-word.terms c.push.new.self c.in-Some-2.term c.loop-word.invariant c.in-Some.ensures
    (subst (λ read. Reads SpellsTerm c.in-Some.word.now read) c.in-Some-2.is c.in_ok-term.ensures) c.in_ok-push.ensures.ok

pub returns : goal.returns
returns c = ends c.args.text.now c.loop-word.rest.now c.loop-word.terms c.loop-word.invariant c.in_default.ensures
