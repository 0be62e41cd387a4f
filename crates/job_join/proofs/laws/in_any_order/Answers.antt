use Rattle.job_join.proofs.Orders.{in_any_order}
use Rattle.job_join.proofs.laws.in_any_order.Goals as goal

pub returns : goal.returns
returns c = in_any_order
