use Rattle.std.proofs.Common.{subst}
use Rattle.spf_macros.specs.Reading.{Reads}
use Rattle.spf_grammar.specs.Grammar.{SpellsTarget}
use Rattle.spf_grammar.proofs.HostCuts.{no_lens, no_target, hosts_read}
use Rattle.spf_grammar.proofs.hosts.read_hosts.Goals as goal

pub returns-in_default : goal.returns-in_default
returns-in_default c = no_lens c.args.text.now c.split_lens.result.0.now c.split_lens.result.1.now c.split_lens.ensures c.in_default.ensures

pub returns-in_default-2 : goal.returns-in_default-2
returns-in_default-2 c =
    no_target c.args.text.now c.split_lens.result.0.now c.split_lens.result.1.now c.split_lens.ensures (subst (λ read. Reads SpellsTarget c.split_lens.result.0.now read) c.in_default-2.is c.in_ok-target.ensures)

pub returns : goal.returns
returns c =
    hosts_read c.args.text.now c.split_lens.result.0.now c.split_lens.result.1.now c.in-Some-2.target (c.in-Some.len4, c.in-Some.len6) c.from.result c.from-2.result c.split_lens.ensures
    (subst (λ read. Reads SpellsTarget c.split_lens.result.0.now read) c.in-Some-2.is c.in_ok-target.ensures) c.in-Some.ensures c.from.ensures c.from-2.ensures
