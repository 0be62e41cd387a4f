use Rattle.std.proofs.Common.{◌≡◌, ℕ, ◌≤◌, Some, None, MatchOption, true≢false, decimal, not, ap, sym, ◌∙◌, subst, arith}
use Rattle.std.specs.Cmp.{unsigned_Decides}
use Rattle.std.specs.Cmp.Lexicographic.{pointwise_decides}
use Rattle.spfc_words.specs.Options.{IsNumber}
use Rattle.spfc_words.proofs.Settings.{parsed}
use Rattle.spfc_words.proofs.options.parse_number.Goals as goal
use Rattle.spfc_words.proofs.options.parse_number.Goals.{then-number-low-via-then-number-low, then-number-low-via-else-number-low+then-number-high, then-number-low-via-else-number-low+else-number-high+then-ne}

none_some : (n : ℕ) → None ≡ Some n → ⊥
none_some n e = cc

some_same : (m n : ℕ) → Some m ≡ Some n → m ≡ n
some_same m n e = cc

pub returns-in_err-number : goal.returns-in_err-number
returns-in_err-number c =
    let none : (n : ℕ) → ¬ IsNumber c.args.low c.args.high c.args.text.now n =
    λ n number. none_some n (sym c.in_err-number.was ∙ parsed c.args.low c.args.high n c.args.text.now c.parse.result c.ok.result c.ranges.high.fits c.parse.ensures.value.0 c.ok.ensures.value number) in
    subst (λ r. MatchOption r ((n : ℕ) → ¬ IsNumber c.args.low c.args.high c.args.text.now n) (IsNumber c.args.low c.args.high c.args.text.now)) (sym c.from_residual.ensures) none

pub returns-then-number-low : goal.returns-then-number-low
returns-then-number-low c n number =
    let same : c.in_ok-number.number ≡ n =
    some_same _ n (sym c.in_ok-number.was ∙ parsed c.args.low c.args.high n c.args.text.now c.parse.result c.ok.result c.ranges.high.fits c.parse.ensures.value.0 c.ok.ensures.value number) in
    let least : c.args.low ≤ n = number.least in
    let most : n ≤ c.args.high = number.most in
    elim c.then-number-low.branch [
      | then-number-low-via-then-number-low w ↦ omega (arith, same, least, w.if-number-low.true)
      | then-number-low-via-else-number-low+then-number-high w ↦ omega (arith, same, most, w.if-number-high.true)
      | then-number-low-via-else-number-low+else-number-high+then-ne w ↦
          let text : w.format.result.now ≡ c.args.text.now = w.format.ensures.text ∙ ap (λ (m : ℕ). decimal m) same ∙ sym number.written in
          true≢false (w.if-ne.ensures ∙ ap (λ b. not b) ((pointwise_decides unsigned_Decides w.format.result.now c.args.text.now).1 text))
    ]
