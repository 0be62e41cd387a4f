use Rattle.std.proofs.Common.{◌∙◌}
use Rattle.master_reader.proofs.Bodies.{no_address}
use Rattle.master_reader.proofs.data.number_of_address.Goals as goal

pub returns : goal.returns
returns g c = no_address g.W.AddressFamily.family c.args.content.now c.in-Some.token.now c.as_slice.result.now c.in-Some.ensures (c.as_slice.ensures ∙ c.in_ok-text.ensures) c.in-Err.ensures
