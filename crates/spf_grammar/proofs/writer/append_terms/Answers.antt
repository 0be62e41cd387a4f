use Rattle.spf_grammar.proofs.HeldTexts.{text_at}
use Rattle.spf_grammar.proofs.writer.append_terms.Goals as goal

pub append_term-requires : goal.append_term-requires
append_term-requires c = text_at c.args.terms.now c.loop-term.term-index c.term-item.result c.loop-term-test.true c.term-item.is c.loop-term.invariant.texts
