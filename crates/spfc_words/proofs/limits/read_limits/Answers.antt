use Rattle.std.proofs.Common.{MatchOption, map, sym, subst}
use Rattle.spf_model.specs.declared.outcome.Limits.{Limits}
use Rattle.spfc_words.specs.Limits.{AreLimits}
use Rattle.spfc_words.specs.Rows.{plain}
use Rattle.spfc_words.specs.Words.{texts}
use Rattle.spfc_words.proofs.limits.read_limits.Goals as goal

pub returns-in_err-lookups : goal.returns-in_err-lookups
returns-in_err-lookups c =
    subst (λ r. MatchOption r ((limits : Limits) → ¬ AreLimits (map plain c.args.rows.now) (texts c.args.words.now) limits) (AreLimits (map plain c.args.rows.now) (texts c.args.words.now)))
    (sym c.from_residual.ensures) (λ limits are. c.in_err-lookups.ensures limits.lookups are.lookups)

pub returns-in_err-voids : goal.returns-in_err-voids
returns-in_err-voids c =
    subst (λ r. MatchOption r ((limits : Limits) → ¬ AreLimits (map plain c.args.rows.now) (texts c.args.words.now) limits) (AreLimits (map plain c.args.rows.now) (texts c.args.words.now)))
    (sym c.from_residual-in_err-voids.ensures) (λ limits are. c.in_err-voids.ensures limits.voids are.voids)

pub returns-in_err-exchanges : goal.returns-in_err-exchanges
returns-in_err-exchanges c =
    subst (λ r. MatchOption r ((limits : Limits) → ¬ AreLimits (map plain c.args.rows.now) (texts c.args.words.now) limits) (AreLimits (map plain c.args.rows.now) (texts c.args.words.now)))
    (sym c.from_residual-in_err-exchanges.ensures) (λ limits are. c.in_err-exchanges.ensures limits.exchanges are.exchanges)
