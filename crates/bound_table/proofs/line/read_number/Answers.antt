use Rattle.std.proofs.Common.{◌≡◌, ℕ, Some, None, true≢false, decimal, ap, sym, ◌∙◌, subst}
use Rattle.std.specs.Cmp.{unsigned_Decides}
use Rattle.std.specs.Cmp.Lexicographic.{pointwise_decides}
use Rattle.bound_table.specs.Parts.{SpellsNumber}
use Rattle.bound_table.proofs.LineLemmas.{not_utf8, parsed}
use Rattle.bound_table.proofs.line.read_number.Goals as goal

none_some : (n : ℕ) → None ≡ Some n → ⊥
none_some n e = cc

some_same : (m n : ℕ) → Some m ≡ Some n → m ≡ n
some_same m n e = cc

pub returns-in_default : goal.returns-in_default
returns-in_default c = λ n s. not_utf8 c.args.text.now n c.in_default.ensures.cases.0 s

pub returns-in_err-number : goal.returns-in_err-number
returns-in_err-number c = rw c.from_residual.ensures (λ n s.
    none_some n (sym c.in_err-number.was ∙ parsed n c.in-Ok.text.now c.parse.result c.ok.result c.parse.ensures.value.0 c.ok.ensures.value (subst (λ t. SpellsNumber t n) (sym c.in-Ok.ensures.cases.0) s)))

pub returns-else-eq : goal.returns-else-eq
returns-else-eq c = λ n s.
    let same : c.in_ok-number.number ≡ n =
    some_same _ n (sym c.in_ok-number.was ∙ parsed n c.in-Ok.text.now c.parse.result c.ok.result c.parse.ensures.value.0 c.ok.ensures.value (subst (λ t. SpellsNumber t n) (sym c.in-Ok.ensures.cases.0) s)) in
    let text : c.format.result.now ≡ c.in-Ok.text.now = c.format.ensures.text ∙ ap (λ (m : ℕ). decimal m) same ∙ sym s.1 ∙ sym c.in-Ok.ensures.cases.0 in
    true≢false (sym ((pointwise_decides unsigned_Decides c.format.result.now c.in-Ok.text.now).1 text) ∙ sym c.eq.ensures ∙ c.if-eq.false)
