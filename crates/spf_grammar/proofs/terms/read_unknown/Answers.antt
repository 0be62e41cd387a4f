use Rattle.std.proofs.Common.{subst, sym, ◌∙◌}
use Rattle.spf_macros.specs.Grammar.{SpellsMacroText}
use Rattle.spf_macros.specs.Reading.{Reads}
use Rattle.spf_grammar.proofs.TermCuts.{no_name, no_value}
use Rattle.spf_grammar.proofs.terms.read_unknown.Goals as goal

pub returns-then-not-is_name : goal.returns-then-not-is_name
returns-then-not-is_name c = no_name c.args.name.now c.args.value.now c.requires.no_redirect c.requires.no_exp (sym c.if-not-is_name.ensures)

pub returns-in_default : goal.returns-in_default
returns-in_default c = no_value c.args.name.now c.args.value.now c.requires.no_redirect c.requires.no_exp (subst (λ read. Reads SpellsMacroText c.args.value.now read) c.in_default.is c.in_ok-pieces.ensures)

pub returns : goal.returns
returns c = (
  sym c.if-not-is_name.ensures,
  sym c.in_ok-name.ensures,
  λ e. c.requires.no_redirect (sym c.in_ok-name.ensures ∙ e),
  λ e. c.requires.no_exp (sym c.in_ok-name.ensures ∙ e),
  subst (λ read. Reads SpellsMacroText c.args.value.now read) c.in-Some.is c.in_ok-pieces.ensures,
)
