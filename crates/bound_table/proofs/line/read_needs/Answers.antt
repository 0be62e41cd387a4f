use Rattle.spf_grammar.specs.declared.verdict.Verdict.TheVariants.{Fail, SoftFail, Pass, Neutral}
use Rattle.bound_table.proofs.LineLemmas.{after}
use Rattle.bound_table.proofs.line.read_needs.Goals as goal

pub returns-in_err-fail : goal.returns-in_err-fail
returns-in_err-fail c = rw c.from_residual.ensures (λ n s. c.in_err-fail.ensures n.fail _ (s.small Fail) s.written)

pub returns-in_err-softfail : goal.returns-in_err-softfail
returns-in_err-softfail c = rw c.from_residual-in_err-softfail.ensures (λ n s.
    let one = after c.args.text.now c.in_ok-fail.fail c.in_ok-fail.text.now n.fail _ c.in_ok-fail.ensures.0 (s.small Fail) c.in_ok-fail.ensures.1 s.written in
    c.in_err-softfail.ensures n.softfail _ (s.small SoftFail) one)

pub returns-in_err-pass : goal.returns-in_err-pass
returns-in_err-pass c = rw c.from_residual-in_err-pass.ensures (λ n s.
    let one = after c.args.text.now c.in_ok-fail.fail c.in_ok-fail.text.now n.fail _ c.in_ok-fail.ensures.0 (s.small Fail) c.in_ok-fail.ensures.1 s.written in
    let two = after c.in_ok-fail.text.now c.in_ok-softfail.softfail c.in_ok-softfail.text.now n.softfail _ c.in_ok-softfail.ensures.0 (s.small SoftFail) c.in_ok-softfail.ensures.1 one in
    c.in_err-pass.ensures n.pass _ (s.small Pass) two)

pub returns-in_err-neutral : goal.returns-in_err-neutral
returns-in_err-neutral c = rw c.from_residual-in_err-neutral.ensures (λ n s.
    let one = after c.args.text.now c.in_ok-fail.fail c.in_ok-fail.text.now n.fail _ c.in_ok-fail.ensures.0 (s.small Fail) c.in_ok-fail.ensures.1 s.written in
    let two = after c.in_ok-fail.text.now c.in_ok-softfail.softfail c.in_ok-softfail.text.now n.softfail _ c.in_ok-softfail.ensures.0 (s.small SoftFail) c.in_ok-softfail.ensures.1 one in
    let three = after c.in_ok-softfail.text.now c.in_ok-pass.pass c.in_ok-pass.text.now n.pass _ c.in_ok-pass.ensures.0 (s.small Pass) c.in_ok-pass.ensures.1 two in
    c.in_err-neutral.ensures n.neutral (s.small Neutral, three))
