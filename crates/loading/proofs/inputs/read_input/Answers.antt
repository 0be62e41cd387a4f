use Rattle.std.proofs.Common.{rules, refl, Ok, Err}
use Rattle.loading.specs.Loading.{InputDue}
use Rattle.loading.proofs.StopLemmas.{done_also, error_also, result_also, stops_also}
use Rattle.loading.proofs.inputs.read_input.Goals as goal

pub returns-in-Zone-clause-done : goal.returns-in-Zone-clause-done
returns-in-Zone-clause-done g c = λ told.
    done_also c.read_zone.result (λ due. rw c.in-Zone.is (Ok _, due, refl))
    (rw c.as_slice-file.ensures at (c.read_zone.ensures.done told))

pub returns-in-Zone-clause-stops : goal.returns-in-Zone-clause-stops
returns-in-Zone-clause-stops g c =
    result_also _ _ (stops_also _ _ c.args.input.now.file _ _ (λ why told due. rw c.in-Zone.is (Err why, due, refl)))
    c.read_zone.result (rw c.as_slice-file.ensures at c.read_zone.ensures.stops)

pub returns-in-Other-clause-done : goal.returns-in-Other-clause-done
returns-in-Other-clause-done g c = λ told.
    done_also c.read_zone-in-Other.result (λ due. rw c.in-Other.is (Ok _, due, refl))
    (rw c.as_slice-file.ensures at (c.read_zone-in-Other.ensures.done told))

pub returns-in-Other-clause-stops : goal.returns-in-Other-clause-stops
returns-in-Other-clause-stops g c =
    result_also _ _ (stops_also _ _ c.args.input.now.file _ _ (λ why told due. rw c.in-Other.is (Err why, due, refl)))
    c.read_zone-in-Other.result (rw c.as_slice-file.ensures at c.read_zone-in-Other.ensures.stops)

pub returns-in_err-loaded-in-File-clause-stops : goal.returns-in_err-loaded-in-File-clause-stops
returns-in_err-loaded-in-File-clause-stops g c =
    let stops = error_also _ _ (stops_also _ _ c.args.input.now.file _
    (λ why. InputDue (g.F.Files.seen c.args.files.now).held c.args.loaded.now c.args.input.now (Err why))
    (λ why told due. rw c.in-File.is (Err why, due, refl))) c.in_err-loaded-in-File.field-0.0
    (rw c.as_slice-file.ensures at c.in_err-loaded-in-File.ensures.stops) in
    search (rules, stops)

pub returns-in_ok-loaded-in-File-clause-done : goal.returns-in_ok-loaded-in-File-clause-done
returns-in_ok-loaded-in-File-clause-done g c = λ told.
    rw c.in-File.is (Ok _, rw c.as_slice-file.ensures at (c.in_ok-loaded-in-File.ensures.done told), refl)
