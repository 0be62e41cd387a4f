use Rattle.std.proofs.Common.{◌≡◌, []}
use Rattle.std.proofs.lemmas.Result.{IfOk-weaker}
use Rattle.zone_answers.specs.Lend.{with_zone}
use Rattle.policy_trial.specs.Trial.{IsTrialZone, trial_name}
use Rattle.policy_trial.proofs.TrialLemmas.{bytes_read, records_taken, zone_taken}
use Rattle.policy_trial.proofs.generated.lend_generated.Goals as goal

pub read_records-requires : goal.read_records-requires
read_records-requires c = rw (c.as_slice.ensures, c.origin-origin.ensures) (bytes_read c.args.start c.args.networks c.in_ok-bytes.bytes c.in_ok-bytes.ensures c.requires.few)

pub lend_alone-requires-clause-lendable : goal.lend_alone-requires-clause-lendable
lend_alone-requires-clause-lendable c =
    let read = rw (c.as_slice.ensures, c.origin-origin.ensures) at c.in_ok-records.ensures in
    rw c.origin-origin.ensures (records_taken c.args.start c.args.networks c.in_ok-bytes.bytes c.in_ok-records.records c.in_ok-bytes.ensures c.requires.few read).lendable

pub lend_alone-requires-clause-lent : goal.lend_alone-requires-clause-lent
lend_alone-requires-clause-lent c =
    let read = rw (c.as_slice.ensures, c.origin-origin.ensures) at c.in_ok-records.ensures in
    rw c.origin-origin.ensures (records_taken c.args.start c.args.networks c.in_ok-bytes.bytes c.in_ok-records.records c.in_ok-bytes.ensures c.requires.few read).lent

pub returns : goal.returns
returns c =
    let read = rw (c.as_slice.ensures, c.origin-origin.ensures) at c.in_ok-records.ensures in
    let lent = rw c.origin-origin.ensures at c.lend_alone.ensures in
    let taken = records_taken c.args.start c.args.networks c.in_ok-bytes.bytes c.in_ok-records.records c.in_ok-bytes.ensures c.requires.few read in
    IfOk-weaker c.lend_alone.result (λ zones. zones ≡ with_zone [] trial_name c.in_ok-records.records) (IsTrialZone c.args.start c.args.networks)
    (λ zones is. zone_taken c.args.start c.args.networks c.in_ok-records.records zones taken is) lent
