-- A policy has one answer: verdicts, or the least address without one.
use Rattle.std.proofs.Common.{◌≡◌, ◌<◌, ℕ, false, List, sym, ap, ◌∙◌, subst, true≢false, arith}
use Rattle.addr_bits.specs.declared.address.Address.{Address}
use Rattle.addr_bits.specs.declared.address.Address.TheVariants.{V4, V6}
use Rattle.spf_grammar.specs.declared.verdict.Verdict.{Verdict}
use Rattle.spf_model.specs.declared.outcome.Limits.{Limits}
use Rattle.spf_model.specs.declared.outcome.Outcome.{Outcome}
use Rattle.spf_model.specs.declared.outcome.Outcome.TheVariants.{Is}
use Rattle.spf_model.specs.Run.{AnsweringEach}
use Rattle.spf_model.specs.Result.{Gives}
use Rattle.spf_model.proofs.OneOutcome.{one_outcome, one_verdict as one_verdict_of}
use Rattle.verdict_map.specs.Verdicts.{has_verdict}
use Rattle.policy_verdicts.specs.Laws.{OneRefused, NeverBoth, OneVerdict}
use Rattle.policy_verdicts.specs.Policy.{StandsBefore, IsLeastRefused}

-- ---- one address is the least that is refused
-- an address has a verdict or none
not_both_ways : (zones : AnsweringEach) (limits : Limits) (domain : List ℕ) (a : Address) (o : Outcome) (v : Verdict) → Gives zones limits domain a o → has_verdict o ≡ false → Gives zones limits domain a (Is v) → ⊥
not_both_ways zones limits domain a o v x none y = true≢false (sym (ap has_verdict (one_outcome zones limits domain a o (Is v) x y)) ∙ none)

not_before : (zones : AnsweringEach) (limits : Limits) (domain : List ℕ) (a b : Address) (o p : Outcome) → IsLeastRefused zones limits domain a o → IsLeastRefused zones limits domain b p → StandsBefore a b → ⊥
not_before zones limits domain a b o p x y before =
    let has = y.least a x.one before in
    not_both_ways zones limits domain a o has.0 x.given x.no_verdict has.1

one_number : (a b : ℕ) → (a < b → ⊥) → (b < a → ⊥) → a ≡ b
one_number a b x y = omega arith

-- addresses of which neither stands before the other are one
pub one_place : (a b : Address) → (StandsBefore a b → ⊥) → (StandsBefore b a → ⊥) → a ≡ b
one_place (V4 a) (V4 b) x y = ap (λ (n : ℕ). V4 n) (one_number a b x y)
one_place (V4 a) (V6 b) x y = absurd (x tt)
one_place (V6 a) (V4 b) x y = absurd (y tt)
one_place (V6 a) (V6 b) x y = ap (λ (n : ℕ). V6 n) (one_number a b x y)

pub one_refused : OneRefused
one_refused zones limits domain a b o p x y =
    let place : b ≡ a = one_place b a (not_before zones limits domain b a p o y x) (not_before zones limits domain a b o p x y) in
    (sym place, one_outcome zones limits domain a o p x.given (subst (λ (c : Address). Gives zones limits domain c p) place y.given))

pub never_both : NeverBoth
never_both zones limits domain a o verdict_of x all = not_both_ways zones limits domain a o (verdict_of a) x.given x.no_verdict (all a x.one)

-- ---- each address has one verdict
pub one_verdict : OneVerdict
one_verdict zones limits domain v w x y a one = one_verdict_of zones limits domain a (v a) (w a) (x a one) (y a one)
