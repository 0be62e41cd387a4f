use Rattle.std.proofs.Common.{ℕ, ◌-◌, length, ap, ◌∙◌}
use Rattle.std.proofs.lemmas.Bool.{ne_eqb}
use Rattle.spf_macros.proofs.PartTexts.{kept_parts}
use Rattle.spf_macros.proofs.parts.kept.Goals as goal

pub returns : goal.returns
returns c =
    kept_parts c.args.parts.now c.args.keep c.saturating_sub.result (ne_eqb c.args.keep 0 c.if-keep-eq0.false) (c.saturating_sub.ensures ∙ ap (λ (k : ℕ). length c.args.parts.now - k) c.from.ensures)
