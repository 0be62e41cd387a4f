use Rattle.std.proofs.Common.{length}
use Rattle.dns_name.proofs.Printing.{IsRead}
use Rattle.dns_name.proofs.printed.read_label.Given as goal

abbrev pub invariant-loop-rest : goal.invariant-loop-rest
invariant-loop-rest l = IsRead l.text l.label.items l.rest

abbrev pub decreases-loop-rest : goal.decreases-loop-rest
decreases-loop-rest l = length l.rest
