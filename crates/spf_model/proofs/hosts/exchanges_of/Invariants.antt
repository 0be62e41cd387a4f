use Rattle.std.proofs.Common.{◌≡◌, take, map}
use Rattle.std.specs.Prelude.{filter_map}
use Rattle.spf_model.specs.Judging.{exchange_of}
use Rattle.spf_model.proofs.hosts.exchanges_of.Given as goal

abbrev pub invariant-loop-body : goal.invariant-loop-body
invariant-loop-body l = map (λ name. name.now) l.exchanges.items ≡ filter_map exchange_of (take l.body-index l.bodies)
