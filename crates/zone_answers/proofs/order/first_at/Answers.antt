use Rattle.std.proofs.Common.{rules}
use Rattle.std.specs.Ordering.{is_lt}
use Rattle.std.proofs.lemmas.List.Sorted.{IsPartitionPoint-from_clause}
use Rattle.zone_answers.specs.declared.order.Entry.{Entry}
use Rattle.zone_answers.proofs.Keys.{order}
use Rattle.zone_answers.proofs.Orders.{before_parts, parted}
use Rattle.zone_answers.proofs.order.first_at.Goals as goal

pub returns-clause-before : goal.returns-clause-before
returns-clause-before c = (parted c.args.key.now c.args.entries.now c.partition_point.result c.partition_point.ensures.bound
    (IsPartitionPoint-from_clause (λ (e : Entry). is_lt (order e.key.items c.args.key.now)) c.args.entries.now c.partition_point.result c.partition_point.ensures.partitioned
    (before_parts c.args.key.now c.args.entries.now c.requires) (λ a r f k. search rules))).0

pub returns-clause-behind : goal.returns-clause-behind
returns-clause-behind c = (parted c.args.key.now c.args.entries.now c.partition_point.result c.partition_point.ensures.bound
    (IsPartitionPoint-from_clause (λ (e : Entry). is_lt (order e.key.items c.args.key.now)) c.args.entries.now c.partition_point.result c.partition_point.ensures.partitioned
    (before_parts c.args.key.now c.args.entries.now c.requires) (λ a r f k. search rules))).1
