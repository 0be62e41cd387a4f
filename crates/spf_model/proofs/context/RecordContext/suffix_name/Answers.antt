use Rattle.std.proofs.Common.{ℕ, ◌≤◌, List, arith, length, subst, sym}
use Rattle.spf_model.proofs.Suffixes.{short_name}
use Rattle.spf_model.proofs.context.RecordContext.suffix_name.Goals as goal

pub returns-in-Some-clause-short : goal.returns-in-Some-clause-short
returns-in-Some-clause-short c =
    short_name c.as_slice.result.now c.in-Some.name c.in-Some.ensures
    (subst (λ (text : List ℕ). length text ≤ 189) (sym c.as_slice.ensures) (omega (arith, c.len.ensures, c.if-len-gt-MAX_SUFFIX_TEXT.false)))
