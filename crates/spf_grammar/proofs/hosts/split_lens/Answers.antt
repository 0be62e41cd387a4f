use Rattle.std.proofs.Common.{length, ap, arith, length-append}
use Rattle.spf_grammar.proofs.HostCuts.{split_there}
use Rattle.spf_grammar.proofs.hosts.split_lens.Goals as goal

pub split_at-requires : goal.split_at-requires
split_at-requires c = let s = c.lens_start.ensures in omega (arith, ap length s.2.whole, length-append s.0 s.1, s.3)

pub returns : goal.returns
returns c = split_there c.args.text.now c.lens_start.result c.split_at.result.0.now c.split_at.result.1.now c.lens_start.ensures c.split_at.ensures.front c.split_at.ensures.back
