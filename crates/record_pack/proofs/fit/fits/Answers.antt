use Rattle.std.proofs.Common.{◌-◌, take, drop}
use Rattle.record_pack.proofs.Pieces.{fits-test}
use Rattle.record_pack.proofs.fit.fits.Goals as goal

pub returns-in-Some : goal.returns-in-Some
returns-in-Some c =
    fits-test c.args.domain.now c.args.label.now c.args.size c.args.others (take (c.args.to - c.args.from) (drop c.args.from c.args.list.now)) c.args.index c.args.last c.taken.result c.in-Some.room
    c.in-Some.ensures c.taken.ensures.within c.taken.ensures.enough c.taken.ensures.most
