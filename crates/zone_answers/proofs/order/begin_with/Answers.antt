use Rattle.std.proofs.Common.{rules, length, take, drop, ◌-◌}
use Rattle.std.proofs.lemmas.List.Sorted.{IsPartitionPoint-from_clause}
use Rattle.zone_answers.specs.declared.order.Entry.{Entry}
use Rattle.zone_answers.specs.Order.{begins}
use Rattle.zone_answers.proofs.Orders.{front_all, rest_parts}
use Rattle.zone_answers.proofs.order.begin_with.Goals as goal

pub returns : goal.returns
returns c = λ test. front_all c.args.key.now test c.args.entries.now c.first_at.result c.partition_point-count.result c.first_at.ensures.before c.partition_point-count.ensures.bound
    (IsPartitionPoint-from_clause (λ (e : Entry). begins c.args.key.now e.key.items) (take (length c.args.entries.now - c.first_at.result) (drop c.first_at.result c.args.entries.now)) c.partition_point-count.result
    c.partition_point-count.ensures.partitioned (rest_parts c.args.key.now c.args.entries.now c.first_at.result c.requires c.first_at.ensures.behind) (λ a r f k. search rules))
