use Rattle.std.proofs.Common.{ℕ, ◌<◌, ◌^◌, List, [], length, arith, subst}
use Rattle.std.proofs.lemmas.Result.{err_from_is_err_and}
use Rattle.master_reader.specs.Readers.{StandsFor}
use Rattle.master_reader.proofs.Feeding.{fault_of_whole}
use Rattle.master_reader.proofs.reader.read_zone.Goals as goal

pub returns-in_err-feed-clause-bad : goal.returns-in_err-feed-clause-bad
returns-in_err-feed-clause-bad c =
    let p = err_from_is_err_and c.from_residual-in_err-feed.result c.from_residual-in_err-feed.ensures.1 in
    let few : length c.args.bytes.now < 2 ^ 64 = omega (arith, c.well_formed.1.1) in
    let from = subst (λ (zone : List (List ℕ)). StandsFor zone c.new.result []) c.in_ok-clone.ensures.cases c.new.ensures in
    rw (p.1, p.2) (fault_of_whole c.args.origin.now c.args.bytes.now c.in_err-feed.field-0.0 (c.in_err-feed.ensures.bad c.args.origin.now [] from few))

whole : (c : goal.After-finish) → StandsFor c.args.origin.now c.in_ok-feed.field-0 c.args.bytes.now
whole c =
    let few : length c.args.bytes.now < 2 ^ 64 = omega (arith, c.well_formed.1.1) in
    let from = subst (λ (zone : List (List ℕ)). StandsFor zone c.new.result []) c.in_ok-clone.ensures.cases c.new.ensures in
    c.in_ok-feed.ensures.taken c.args.origin.now [] from few

pub returns-clause-reads : goal.returns-clause-reads
returns-clause-reads c = c.finish.ensures.reads c.args.origin.now c.args.bytes.now (whole c)

pub returns-clause-bad : goal.returns-clause-bad
returns-clause-bad c = c.finish.ensures.bad c.args.origin.now c.args.bytes.now (whole c)

pub returns-clause-not_bad : goal.returns-clause-not_bad
returns-clause-not_bad c = c.finish.ensures.not_bad c.args.origin.now c.args.bytes.now (whole c)
