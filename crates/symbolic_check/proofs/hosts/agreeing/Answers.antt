use Rattle.std.proofs.Common.{Some, ap, ◌∙◌}
use Rattle.addr_bits.specs.declared.address.Family.{Family}
use Rattle.spf_model.specs.Judging.{len_in}
use Rattle.symbolic_check.proofs.Combining.{if_ok_by}
use Rattle.symbolic_check.proofs.Matching.{agree_as_one, len_fits}
use Rattle.symbolic_check.proofs.hosts.agreeing.Goals as goal

pub match_family-requires : goal.match_family-requires
match_family-requires g c =
    rw (c.of.ensures, c.family.ensures, g.met.W.AddressFamily.bits) (len_fits g.W.AddressFamily.family c.args.lens.len4 c.args.lens.len6 c.requires.len4 c.requires.len6)

pub returns : goal.returns
returns g c = if_ok_by _ c.match_family.result c.match_family.ensures
    (λ set is_set a below. is_set a below ∙ ap Some (agree_as_one g.W.AddressFamily.family c.of.result c.args.lens.len4 c.args.lens.len6
    (c.of.ensures ∙ ap (λ (f : Family). len_in f c.args.lens.len4 c.args.lens.len6) c.family.ensures) c.in_ok-found.found c.args.answers a c.in_ok-found.ensures))
