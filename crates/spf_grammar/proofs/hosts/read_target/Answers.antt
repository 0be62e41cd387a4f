use Rattle.std.proofs.Common.{Option, List}
use Rattle.std.proofs.lemmas.Result.{IfOk-weaker}
use Rattle.spf_macros.specs.declared.piece.Piece.{Piece}
use Rattle.spf_macros.specs.Grammar.{SpellsDomainSpec}
use Rattle.spf_macros.specs.Reading.{Reads}
use Rattle.std.specs.Prelude.{false}
use Rattle.spf_grammar.specs.Reading.{SpellsRequired}
use Rattle.spf_grammar.proofs.HostCuts.{target_read}
use Rattle.spf_grammar.proofs.hosts.read_target.Goals as goal

pub returns-in-Some : goal.returns-in-Some
returns-in-Some c =
    IfOk-weaker c.read_domain_spec.result (Reads (SpellsDomainSpec false) c.in-Some.rest.now) (Reads SpellsRequired c.args.text.now)
    (λ (o : Option (List Piece)). target_read c.args.text.now c.in-Some.rest.now o c.in-Some.ensures) c.read_domain_spec.ensures
