-- The test of equality of pairs tells them apart.
use Rattle.std.proofs.Common.{rules, ◌≡◌, true}
use Rattle.std.proofs.lemmas.Bool.{and_parts}
use denote.Enum.Bare.{same_true}
use Rattle.spf_grammar.specs.declared.verdict.Verdict.{Verdict}
use Rattle.spf_grammar.specs.contracts.verdict.Verdict as verdict_declared
use Rattle.spf_grammar.specs.contracts.verdict.VerdictPartialEq.TheImpl as verdict_test
use Rattle.policy_compare.specs.declared.pairs.Pair.{Pair}
use Rattle.policy_compare.specs.contracts.pairs.PairPartialEq.TheImpl as pair_test

verdict_tells : (v w : Verdict) → verdict_test.eq-value.it v w ≡ true → v ≡ w
verdict_tells v w h = same_true verdict_declared.the_type (search rules) _ _ h

pub pair_tells : (p q : Pair) → pair_test.eq-value.it p q ≡ true → p ≡ q
pair_tells p q h =
    let parts = and_parts (verdict_test.eq-value.it p.one q.one) (verdict_test.eq-value.it p.two q.two) h in
    let one : p.one ≡ q.one = verdict_tells p.one q.one parts.0 in
    let two : p.two ≡ q.two = verdict_tells p.two q.two parts.1 in
    λ i. record { one = one i; two = two i }
