use Rattle.std.proofs.Common.{◌≤◌, length, sym, subst}
use Rattle.spf_macros.proofs.Spans.{span_at, prefix_within}
use Rattle.bound_table.proofs.line.split_before.Goals as goal

pub split_at-requires : goal.split_at-requires
split_at-requires c = subst (λ len. len ≤ length c.args.text.now) (sym c.place_of.ensures) (prefix_within _ c.args.text.now)

pub returns : goal.returns
returns c = span_at _ c.args.text.now c.split_at.result.0.now c.split_at.result.1.now c.place_of.result c.place_of.ensures c.split_at.ensures.front c.split_at.ensures.back
