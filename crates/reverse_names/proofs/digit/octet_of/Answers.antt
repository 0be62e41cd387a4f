use Rattle.std.proofs.Common.{◌≡◌, ℕ, ◌<◌, List, Option, Some, None, Result, true≢false, decimal, ap, sym, ◌∙◌, subst, arith}
use Rattle.std.specs.Cmp.{unsigned_Decides}
use Rattle.std.specs.Cmp.Lexicographic.{pointwise_decides}
use Rattle.std.specs.Result.{result_ok}
use Rattle.std.specs.Str.{IsUtf8}
use Rattle.std.specs.Str.Parse.{ParsesUnsigned}
use Rattle.std.proofs.lemmas.Fmt.{IsAscii-decimal, parse-decimal}
use Rattle.std.proofs.lemmas.Str.{IsUtf8-from_ascii}
use Rattle.reverse_names.proofs.digit.octet_of.Goals as goal

not_utf8 : (text : List ℕ) (n : ℕ) → ¬ IsUtf8 text → n < 256 → text ≡ decimal n → ⊥
not_utf8 text n bad small e = bad (subst IsUtf8 (sym e) (IsUtf8-from_ascii (decimal n) (IsAscii-decimal n (omega arith))))

parsed : {E : Type 0} (n : ℕ) (text : List ℕ) (read : Result ℕ E) (found : Option ℕ) → ParsesUnsigned 8 10 text read → found ≡ result_ok read → n < 256 → text ≡ decimal n → found ≡ Some n
parsed n text read found parses is small e = is ∙ ap (λ r. result_ok r) (parse-decimal 8 n text read (omega arith) (omega arith) e parses)

none_some : (n : ℕ) → None ≡ Some n → ⊥
none_some n e = cc

some_same : (m n : ℕ) → Some m ≡ Some n → m ≡ n
some_same m n e = cc

pub returns-in_default-clause-none : goal.returns-in_default-clause-none
returns-in_default-clause-none c = λ n small e. not_utf8 c.args.label.now n c.in_default.ensures.cases.0 small e

pub returns-in_err-octet-clause-none : goal.returns-in_err-octet-clause-none
returns-in_err-octet-clause-none c = rw c.from_residual.ensures (λ n small e.
    none_some n (sym c.in_err-octet.was ∙ parsed n c.in-Ok.text.now c.parse.result c.ok.result c.parse.ensures.value.0 c.ok.ensures.value small (c.in-Ok.ensures.cases.0 ∙ e)))

pub returns-else-eq-clause-none : goal.returns-else-eq-clause-none
returns-else-eq-clause-none c = λ n small e.
    let same : c.in_ok-octet.octet ≡ n =
    some_same _ n (sym c.in_ok-octet.was ∙ parsed n c.in-Ok.text.now c.parse.result c.ok.result c.parse.ensures.value.0 c.ok.ensures.value small (c.in-Ok.ensures.cases.0 ∙ e)) in
    let text : c.format.result.now ≡ c.in-Ok.text.now = c.format.ensures.text ∙ ap (λ (m : ℕ). decimal m) same ∙ sym e ∙ sym c.in-Ok.ensures.cases.0 in
    true≢false (sym ((pointwise_decides unsigned_Decides c.format.result.now c.in-Ok.text.now).1 text) ∙ sym c.eq.ensures ∙ c.if-eq.false)
