use Rattle.std.proofs.Common.{◌≡◌, ℕ, ◌<◌, min, List, [], ◌∷◌, length, arith, sym, ◌∙◌}
use Rattle.std.proofs.lemmas.Bool.{eqb-false}
use Rattle.std.specs.Str.Parse.{AllDigits, digits_value}
use Rattle.spf_macros.specs.Grammar.{SpellsKeep}
use Rattle.spf_macros.proofs.Digits.{digits_all}
use Rattle.spf_macros.proofs.transformers.read_keep.Goals as goal

spelled : (digits : List ℕ) (keep : ℕ) → 0 < length digits → AllDigits 10 digits → keep ≡ min (digits_value 10 digits) 255 → 0 < keep → SpellsKeep digits keep
spelled [] keep some all value positive = absurd (omega (arith, some))
spelled (d ∷ ds) keep some all value positive = (all, omega arith, value)

pub returns-in_default : goal.returns-in_default
returns-in_default c = spelled c.args.digits.now c.held_number.result (omega (arith, eqb-false (length c.args.digits.now) 0 (sym c.is_empty.ensures ∙ c.if-is_empty.false))) (digits_all c.args.digits.now c.requires) c.held_number.ensures (omega arith)
