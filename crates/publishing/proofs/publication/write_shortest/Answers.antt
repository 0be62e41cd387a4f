use Rattle.std.proofs.Common.{Ok, ap, rules}
use Rattle.loading.proofs.StopLemmas.{error_also}
use Rattle.publishing.specs.Published.{written}
use Rattle.publishing.proofs.PublicationLemmas.{taken_due}
use Rattle.publishing.proofs.publication.write_shortest.Goals as goal

pub returns-in_err-refuse_taken-clause-refused : goal.returns-in_err-refuse_taken-clause-refused
returns-in_err-refuse_taken-clause-refused c =
    let stops = error_also _ _
    (λ why. taken_due c.args.settings.now c.args.zones.now c.args.found.now.list c.args.found.now.rows4 c.args.found.now.rows6 c.args.found.now.total c.in_ok-cut.cut.ends why
    (rw (c.as_slice.ensures, c.other_text-others.ensures) at c.in_ok-cut.ensures.chosen))
    c.in_err-refuse_taken.field-0.0 (rw c.len.ensures at c.in_err-refuse_taken.ensures.refused) in
    search (rules, stops)

pub returns-clause-written : goal.returns-clause-written
returns-clause-written c =
    written c.in_ok-cut.cut.ends (rw (c.as_slice.ensures, c.other_text-others.ensures) at c.in_ok-cut.ensures.chosen)
    (rw c.len.ensures at c.in_ok-refuse_taken.ensures.free)
    (ap (λ bytes. Ok bytes) (rw (c.as_slice-2.ensures, c.as_slice-3.ensures) at c.in_ok-bytes.ensures))
