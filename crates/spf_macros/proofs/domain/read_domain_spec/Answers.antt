use Rattle.std.proofs.Common.{List, sym, subst}
use Rattle.spf_macros.specs.declared.piece.Piece.{Piece}
use Rattle.spf_macros.specs.Grammar.{SpellsMacroText, SpellsDomainSpec}
use Rattle.spf_macros.specs.Reading.{Reads}
use Rattle.spf_macros.proofs.OneReading.{one_macro_text}
use Rattle.spf_macros.proofs.DomainSpecs.{spec_spelled}
use Rattle.spf_macros.proofs.domain.read_domain_spec.Goals as goal

pub returns-in_default : goal.returns-in_default
returns-in_default c = λ pieces s.
    subst (λ read. Reads SpellsMacroText c.args.text.now read) c.in_default.is c.in_ok-pieces.ensures pieces (spec_spelled c.args.explain c.args.text.now pieces s)

pub returns-else-is_domain_spec : goal.returns-else-is_domain_spec
returns-else-is_domain_spec c = λ pieces s.
    let read = subst (λ read. Reads SpellsMacroText c.args.text.now read) c.in-Some.is c.in_ok-pieces.ensures in
    let same = one_macro_text c.args.text.now pieces c.as_slice.result.now (spec_spelled c.args.explain c.args.text.now pieces s) (subst (λ (ps : List Piece). SpellsMacroText c.args.text.now ps) (sym c.as_slice.ensures) read) in
    c.if-is_domain_spec.ensures (subst (λ (ps : List Piece). SpellsDomainSpec c.args.explain c.args.text.now ps) same s)
