use Rattle.bound_table.proofs.LineLemmas.{no_row_word, no_row_prefix, no_row_needs, row_read}
use Rattle.bound_table.proofs.line.read_row.Goals as goal

pub returns-in_err-behind : goal.returns-in_err-behind
returns-in_err-behind g c = rw c.from_residual.ensures (λ row s. no_row_word g.W.AddressFamily.family c.args.line.now c.in_err-behind.ensures row s)

pub returns-in_err-prefix-2 : goal.returns-in_err-prefix-2
returns-in_err-prefix-2 g c = rw c.from_residual-in_err-prefix-2.ensures (λ row s.
    no_row_prefix g.W.AddressFamily.family c.args.line.now c.in_ok-behind.field-0.now c.in_ok-prefix.prefix.now c.in_ok-prefix.needs.now c.in_ok-behind.ensures c.in_ok-prefix.ensures c.in_err-prefix-2.ensures row s)

pub returns-in_err-needs : goal.returns-in_err-needs
returns-in_err-needs g c = rw c.from_residual-in_err-needs.ensures (λ row s.
    no_row_needs g.W.AddressFamily.family c.args.line.now c.in_ok-behind.field-0.now c.in_ok-prefix.prefix.now c.in_ok-prefix.needs.now c.in_ok-behind.ensures c.in_ok-prefix.ensures c.in_err-needs.ensures row s)

pub returns : goal.returns
returns g c =
    row_read g.W.AddressFamily.family c.args.line.now c.in_ok-behind.field-0.now c.in_ok-prefix.prefix.now c.in_ok-prefix.needs.now _ c.in_ok-behind.ensures c.in_ok-prefix.ensures c.in_ok-prefix-2.ensures c.in_ok-needs.ensures
