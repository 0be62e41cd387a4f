use Rattle.spf_gen.proofs.Drawing.{next_draw}
use Rattle.spf_gen.proofs.draws.next.Goals as goal

pub returns : goal.returns
returns c = λ start steps is. next_draw c.args.drawn start steps is
