use Rattle.std.specs.Prelude.{if◌then◌else◌}
use Rattle.std.proofs.Common.{◌≡◌, ◌+◌, ◌-◌, ◌<◌, Bool, true, false, ℕ, List, ◌∷◌, Some, drop, length, get_or, arith, refl, sym, ap, ◌∙◌, add-one, drop-cons}
use Rattle.addr_bits.specs.Address.{address_of}
use Rattle.spf_grammar.specs.Flat.{covers, first}
use Rattle.spf_grammar.specs.declared.flat.FlatTerm.{FlatTerm}
use Rattle.spf_grammar.specs.declared.verdict.Verdict.{Verdict}
use Rattle.cert_checker.proofs.verdicts.first_verdicts.Goals as goal

next_term : (terms : List FlatTerm) (i : ℕ) (term : FlatTerm) → i < length terms → term ≡ get_or terms i term → drop i terms ≡ term ∷ drop (i + 1) terms
next_term terms i term within e = rw (add-one, drop-cons terms i term within, ← e) refl

chosen : (b : Bool) (v w : Verdict) → (if b then Some v else Some w) ≡ Some (if b then v else w)
chosen true v w = refl
chosen false v w = refl

pub loop-i-preserved : goal.loop-i-preserved
loop-i-preserved g c = λ a below.
    let address = address_of g.W.AddressFamily.family a in
    let list = c.args.list.now in
    let term = c.index-list-i.result in
    let within : c.loop-i.i - 1 < length list = omega arith in
    let next : c.loop-i.i - 1 + 1 ≡ c.loop-i.i = omega arith in
    let all : drop (c.loop-i.i - 1) list ≡ term ∷ drop c.loop-i.i list = next_term list (c.loop-i.i - 1) term within c.index-list-i.is ∙ ap (λ n. term ∷ drop n list) next in
    c.in_ok-set_term.ensures a below ∙ ap (λ old. if covers term.net address then Some term.verdict else old) (c.loop-i.invariant a below)
    ∙ chosen (covers term.net address) term.verdict (first (drop c.loop-i.i list) address) ∙ ap (λ rest. Some (first rest address)) (sym all)

pub returns : goal.returns
returns g c = λ a below.
    let none : c.loop-i.i ≡ 0 = omega arith in
    c.loop-i.invariant a below ∙ ap (λ n. Some (first (drop n c.args.list.now) (address_of g.W.AddressFamily.family a))) none
