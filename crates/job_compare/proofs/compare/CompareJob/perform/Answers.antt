use Rattle.std.proofs.Common.{rules, ◌∙◌, List, ap}
use Rattle.policy_compare.specs.declared.change.Change.{Change}
use Rattle.job_compare.specs.Lines.{changes_text}
use Rattle.job_compare.proofs.Comparing.{first_fault, second_fault, compared_output}
use Rattle.job_compare.proofs.compare.CompareJob.perform.Goals as goal

pub returns-in_err-one : goal.returns-in_err-one
returns-in_err-one c =
    let refused = first_fault c.args.self.now c.args.loaded.now c.in_err-one.field-0.0 (rw c.as_slice.ensures at c.in_err-one.ensures.refused) in
    record { done = search (rules, refused); refused = search (rules, refused) }

pub returns-in_err-two : goal.returns-in_err-two
returns-in_err-two c =
    let kept = rw c.as_slice.ensures at c.in_ok-one.ensures.kept in
    let refused = second_fault c.args.self.now c.args.loaded.now c.in_ok-one.one.tries.v4 c.in_ok-one.one.tries.v6 c.in_err-two.field-0.0 kept
    (rw (c.as_slice-2.ensures, c.zones_of-others.ensures) at c.in_err-two.ensures.refused) in
    record { done = search (rules, refused); refused = search (rules, refused) }

pub returns : goal.returns
returns c =
    let one = rw c.as_slice.ensures at c.in_ok-one.ensures.kept in
    let two = rw (c.as_slice-2.ensures, c.zones_of-others.ensures) at c.in_ok-two.ensures.kept in
    record {
      done = compared_output c.args.self.now c.args.loaded.now c.in_ok-one.one.tries.v4 c.in_ok-one.one.tries.v6 c.in_ok-two.two.tries.v4 c.in_ok-two.two.tries.v6 c.in_ok-changes.changes
          (record { bytes = c.in_ok-bytes.bytes; asked = c.new.result }) one two c.in_ok-changes.ensures
          (c.in_ok-bytes.ensures ∙ ap (λ (changes : List Change). changes_text changes) c.as_slice-3.ensures) c.new.ensures;
      refused = tt;
    }
