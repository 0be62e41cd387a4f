-- Outcomes that are verdicts, and the verdicts that they are.
use Rattle.std.proofs.Common.{◌≡◌, true, List, Option, Some, None, refl, sym, subst}
use Rattle.std.proofs.lemmas.Bool.{false≢true}
use Rattle.std.specs.Prelude.{IsSomeAnd, option_map}
use Rattle.addr_bits.specs.Prefix.{Cidr}
use Rattle.addr_bits.specs.declared.address.Family.TheVariants as family
use Rattle.spf_grammar.specs.declared.verdict.Verdict.{Verdict}
use Rattle.spf_model.specs.declared.outcome.Outcome.{Outcome}
use Rattle.spf_model.specs.declared.outcome.Outcome.TheVariants.{Nothing, Is, Perm, Temp, Unsettled}
use Rattle.verdict_map.specs.Verdicts.{has_verdict, verdict_or_neutral, IsVerdictOf, HaveVerdicts, IsRefused, IsFamilyFault, IsFault}
use Rattle.verdict_map.specs.declared.fault.VerdictFault.{VerdictFault}
use Rattle.verdict_map.specs.declared.fault.VerdictFault.TheVariants.{Refused, Memory}

-- an outcome that is a verdict gives this one
pub verdict_of_outcome : (outcome : Option Outcome) (found : Option Verdict) → IsSomeAnd outcome (λ o. has_verdict o ≡ true) → found ≡ option_map verdict_or_neutral outcome → IsVerdictOf outcome found
verdict_of_outcome None found h e = absurd h
verdict_of_outcome (Some (Is verdict)) found h e = (verdict, refl, e)
verdict_of_outcome (Some (Nothing place)) found h e = absurd (false≢true h)
verdict_of_outcome (Some (Perm cause place)) found h e = absurd (false≢true h)
verdict_of_outcome (Some (Temp cause place)) found h e = absurd (false≢true h)
verdict_of_outcome (Some (Unsettled cause place)) found h e = absurd (false≢true h)

-- what has a verdict has an outcome that is one
pub has_outcome : (outcome : Option Outcome) (found : Option Verdict) → IsVerdictOf outcome found → IsSomeAnd outcome (λ o. has_verdict o ≡ true)
has_outcome outcome found h = subst (λ o. IsSomeAnd o (λ o. has_verdict o ≡ true)) (sym h.1) refl

-- a refusal of IPv6, where IPv4 has none
pub refused_six : (v4 v6 : List (Cidr × Outcome)) (fault : VerdictFault) → HaveVerdicts 32 v4 → IsFamilyFault family.V6 128 v6 fault → IsFault v4 v6 fault
refused_six v4 v6 (Refused address outcome) all h = subst (λ a. IsRefused v4 v6 a outcome) (sym h.1) (all, h.2)
refused_six v4 v6 Memory all h = tt
