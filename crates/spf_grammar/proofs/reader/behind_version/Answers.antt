use Rattle.std.proofs.Common.{List, ℕ, sym, subst}
use Rattle.spf_grammar.specs.Reading.{BehindVersion}
use Rattle.spf_grammar.proofs.Words.{version_behind, version_within}
use Rattle.spf_grammar.proofs.reader.behind_version.Goals as goal

pub split_at-requires : goal.split_at-requires
split_at-requires c = version_within c.args.text.now (sym c.if-not-is_spf.ensures)

pub returns : goal.returns
returns c = subst (λ (rest : List ℕ). BehindVersion c.args.text.now rest) (sym c.split_at.ensures.back) (version_behind c.args.text.now (sym c.if-not-is_spf.ensures))
