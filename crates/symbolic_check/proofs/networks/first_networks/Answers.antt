use Rattle.std.specs.Prelude.{Option, if◌then◌else◌}
use Rattle.std.proofs.Common.{◌≡◌, ◌+◌, ◌-◌, ◌<◌, Bool, true, false, List, ◌∷◌, Some, drop, length, arith, refl, sym, ap, ◌∙◌}
use Rattle.addr_bits.specs.Address.{address_of}
use Rattle.addr_bits.specs.declared.address.Address.{Address}
use Rattle.spf_grammar.specs.declared.policy.Term.{Term}
use Rattle.spf_grammar.specs.declared.policy.Term.TheVariants.{Directive, Redirect, Exp, Unknown}
use Rattle.spf_grammar.specs.declared.verdict.Verdict.{Verdict}
use Rattle.spf_model.proofs.Terms.{next_term}
use Rattle.symbolic_check.specs.Networks.{network_covers, first_network, with_first}
use Rattle.symbolic_check.proofs.networks.first_networks.Goals as goal

chosen : (b : Bool) (v w : Option Verdict) → (if b then Some v else Some w) ≡ Some (if b then v else w)
chosen true v w = refl
chosen false v w = refl

-- a directive before others
with_first-next : (term : Term) (terms : List Term) (a : Address) → with_first term a (Some (first_network terms a)) ≡ Some (first_network (term ∷ terms) a)
with_first-next (Directive verdict mechanism) terms a = chosen (network_covers mechanism a) (Some verdict) (first_network terms a)
with_first-next (Redirect spec) terms a = refl
with_first-next (Exp spec) terms a = refl
with_first-next (Unknown name value) terms a = refl

pub loop-i-preserved : goal.loop-i-preserved
loop-i-preserved g c = λ a below.
    let address = address_of g.W.AddressFamily.family a in
    let terms = c.args.terms.now in
    let term = c.index-terms-i.result in
    let within : c.loop-i.i - 1 < length terms = omega arith in
    let next : c.loop-i.i - 1 + 1 ≡ c.loop-i.i = omega arith in
    let all : drop (c.loop-i.i - 1) terms ≡ term ∷ drop c.loop-i.i terms = next_term terms (c.loop-i.i - 1) term within c.index-terms-i.is ∙ ap (λ n. term ∷ drop n terms) next in
    c.in_ok-set_term.ensures a below ∙ ap (λ old. with_first term address old) (c.loop-i.invariant a below) ∙ with_first-next term (drop c.loop-i.i terms) address ∙ ap (λ rest. Some (first_network rest address)) (sym all)

pub returns : goal.returns
returns g c = λ a below.
    let none : c.loop-i.i ≡ 0 = omega arith in
    c.loop-i.invariant a below ∙ ap (λ n. Some (first_network (drop n c.args.terms.now) (address_of g.W.AddressFamily.family a))) none
