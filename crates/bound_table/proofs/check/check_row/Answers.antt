use Rattle.std.proofs.Common.{◌≡◌, ◌≤◌, ◌+◌, subst, sym, ◌∙◌, ap}
use mathlib.Core.Path.{fun_ext}
use Rattle.spf_grammar.specs.declared.verdict.Verdict.{Verdict}
use Rattle.fewest_terms.specs.Needs.{at_mixed}
use Rattle.fewest_terms.specs.Tables.{number}
use Rattle.bound_table.proofs.check.check_row.Goals as goal

pub returns : goal.returns
returns c =
    let rule : (x : Verdict) → number c.under_rule.result x ≡ at_mixed (λ y. number c.args.low.now y + number c.args.high.now y) x = λ x.
    c.under_rule.ensures x ∙ ap (λ f. at_mixed f x) (fun_ext c.plus.ensures) in (
      (λ h x. subst (λ m. number c.args.row.now x ≤ m) (rule x) (c.is_at_most.ensures.0 h x)),
      λ h. c.is_at_most.ensures.1 (λ x. subst (λ m. number c.args.row.now x ≤ m) (sym (rule x)) (h x)),
    )
