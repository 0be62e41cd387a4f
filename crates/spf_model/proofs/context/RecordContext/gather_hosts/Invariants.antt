use Rattle.std.proofs.Common.{Bor, map, drop}
use Rattle.addr_bits.specs.declared.address.Address.{Address}
use Rattle.dns_name.specs.declared.name.Name.{Name}
use Rattle.spf_model.specs.Run.{says}
use Rattle.spf_model.specs.Leads.{site_of}
use Rattle.spf_model.proofs.Gathering.{GatheredSoFar}
use Rattle.spf_model.proofs.context.RecordContext.gather_hosts.Given as goal

abbrev pub invariant-loop-host : goal.invariant-loop-host
invariant-loop-host l =
    (a : Address) → GatheredSoFar (says l.self.zones.now a) (site_of l.self) l.term l.kind l.void l.answers
    (map (λ (name : Bor Name). name.now) l.hosts) (map (λ (name : Bor Name). name.now) (drop l.host-index l.hosts)) l.fn.asked l.asked
