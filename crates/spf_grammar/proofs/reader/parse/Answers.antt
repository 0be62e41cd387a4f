use Rattle.std.proofs.Common.{List, sym, subst}
use Rattle.std.proofs.lemmas.Bool.{both_ways}
use Rattle.spf_text.specs.Version.{is_spf_text}
use Rattle.spf_macros.specs.Reading.{Reads}
use Rattle.spf_grammar.specs.declared.policy.Term.{Term}
use Rattle.spf_grammar.specs.Grammar.{SpellsTerms}
use Rattle.spf_grammar.proofs.Words.{version_told, no_terms, too_many}
use Rattle.spf_grammar.proofs.reader.parse.Goals as goal

pub returns-in_default : goal.returns-in_default
returns-in_default c = λ policy h. both_ways (is_spf_text c.args.text.now) c.in_default.ensures (version_told c.args.text.now policy h)

pub returns-in_default-2 : goal.returns-in_default-2
returns-in_default-2 c =
    no_terms c.args.text.now c.in-Some.rest.now c.in-Some.ensures (subst (λ read. Reads SpellsTerms c.in-Some.rest.now read) c.in_default-2.is c.in_ok-terms.ensures)

pub returns-else-are_single : goal.returns-else-are_single
returns-else-are_single c =
    too_many c.args.text.now c.in-Some.rest.now c.as_slice.result.now c.in-Some.ensures
    (subst (λ (ts : List Term). SpellsTerms c.in-Some.rest.now ts) (sym c.as_slice.ensures)
    (subst (λ read. Reads SpellsTerms c.in-Some.rest.now read) c.in-Some-2.is c.in_ok-terms.ensures))
    c.if-are_single.ensures
