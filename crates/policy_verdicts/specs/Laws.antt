-- The laws of the verdicts of a policy, as statements.
use Rattle.std.specs.Prelude.{ℕ, ◌≡◌, List}
use Rattle.addr_bits.specs.Address.{IsAddress}
use Rattle.addr_bits.specs.declared.address.Address.{Address}
use Rattle.zone_answers.specs.declared.answer.Question.{Question}
use Rattle.spf_grammar.specs.declared.verdict.Verdict.{Verdict}
use Rattle.spf_model.specs.Result.{AllHave}
use Rattle.spf_model.specs.Run.{AnsweringEach}
use Rattle.spf_model.specs.declared.outcome.Limits.{Limits}
use Rattle.spf_model.specs.declared.outcome.Outcome.{Outcome}
use Rattle.symbolic_check.specs.Evaluation.{AreAsked}
use Rattle.policy_verdicts.specs.Policy.{IsLeastRefused}

-- one address at most is the least without a verdict, with one outcome
abbrev pub OneRefused : Type 0
OneRefused = (zones : AnsweringEach) (limits : Limits) (domain : List ℕ) (a b : Address) (o p : Outcome)
    → IsLeastRefused zones limits domain a o → IsLeastRefused zones limits domain b p → (a ≡ b) × (o ≡ p)

-- no address is without a verdict where each has one
abbrev pub NeverBoth : Type 0
NeverBoth = (zones : AnsweringEach) (limits : Limits) (domain : List ℕ) (a : Address) (o : Outcome)
    (verdict_of : Address → Verdict)
    → IsLeastRefused zones limits domain a o → AllHave zones limits domain verdict_of → ⊥

-- each address has one verdict at most
abbrev pub OneVerdict : Type 0
OneVerdict = (zones : AnsweringEach) (limits : Limits) (domain : List ℕ) (v w : Address → Verdict)
    → AllHave zones limits domain v → AllHave zones limits domain w → (a : Address) → IsAddress a → v a ≡ w a

-- one list at most has the questions that are asked
abbrev pub OneListAsked : Type 0
OneListAsked = (zones : AnsweringEach) (limits : Limits) (domain : List ℕ) (p q : List Question)
    → AreAsked zones limits domain p → AreAsked zones limits domain q → p ≡ q
