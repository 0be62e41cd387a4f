use Rattle.std.proofs.Common.{◌∙◌, ap, Ok}
use Rattle.std.specs.Prelude.{unwrap_or}
use Rattle.std.proofs.lemmas.Result.{err_from_is_err_and}
use Rattle.master_reader.specs.Asks.{ask_in}
use Rattle.master_reader.proofs.Taking.{copied_or, asks_there, record_taken, origin_taken, nothing_taken, body_refused}
use Rattle.master_reader.proofs.progress.Progress.add.Goals as goal

pub returns-in_err-body-in-Record-clause-faulty : goal.returns-in_err-body-in-Record-clause-faulty
returns-in_err-body-in-Record-clause-faulty c =
    let there = ap (λ o. o.now) c.unwrap_or-origin.ensures ∙ copied_or c.as_ref.result _ ∙ ap (λ o. unwrap_or o c.args.self.now.zone) c.as_ref.ensures.value in
    let p = err_from_is_err_and c.from_residual-in_err-body-in-Record.result c.from_residual-in_err-body-in-Record.ensures.1 in
    rw (p.1, p.2)
    (body_refused c.args.self.now c.args.entry.now c.unwrap_or-origin.result.now c.in-Record.owner c.in-Record.kind.now c.in-Record.content.now c.in_err-body-in-Record.field-0.0
    (asks_there c.args.self.now c.args.entry.now c.unwrap_or-origin.result.now _ _ there c.as_ref-2.ensures.value (c.in_ok-owner.ensures ∙ ap (λ a. Ok (ask_in a)) c.in-Record.is))
    there c.in_err-body-in-Record.ensures)

pub returns-in_ok-keep_record-in-Record-clause-taken : goal.returns-in_ok-keep_record-in-Record-clause-taken
returns-in_ok-keep_record-in-Record-clause-taken c =
    let there = ap (λ o. o.now) c.unwrap_or-origin.ensures ∙ copied_or c.as_ref.result _ ∙ ap (λ o. unwrap_or o c.args.self.now.zone) c.as_ref.ensures.value in
    record_taken c.args.self.now c.args.entry.now c.unwrap_or-origin.result.now c.in-Record.owner c.in-Record.kind.now c.in-Record.content.now c.in_ok-body-in-Record.body c.keep_record.new.records
    (asks_there c.args.self.now c.args.entry.now c.unwrap_or-origin.result.now _ _ there c.as_ref-2.ensures.value (c.in_ok-owner.ensures ∙ ap (λ a. Ok (ask_in a)) c.in-Record.is))
    there c.in_ok-body-in-Record.ensures c.in_ok-keep_record-in-Record.ensures

pub returns-in-Origin-clause-taken : goal.returns-in-Origin-clause-taken
returns-in-Origin-clause-taken c =
    let there = ap (λ o. o.now) c.unwrap_or-origin.ensures ∙ copied_or c.as_ref.result _ ∙ ap (λ o. unwrap_or o c.args.self.now.zone) c.as_ref.ensures.value in
    origin_taken c.args.self.now c.args.entry.now c.in-Origin.name
    (asks_there c.args.self.now c.args.entry.now c.unwrap_or-origin.result.now _ _ there c.as_ref-2.ensures.value (c.in_ok-owner.ensures ∙ ap (λ a. Ok (ask_in a)) c.in-Origin.is))

pub returns-in-Nothing-clause-taken : goal.returns-in-Nothing-clause-taken
returns-in-Nothing-clause-taken c =
    let there = ap (λ o. o.now) c.unwrap_or-origin.ensures ∙ copied_or c.as_ref.result _ ∙ ap (λ o. unwrap_or o c.args.self.now.zone) c.as_ref.ensures.value in
    nothing_taken c.args.self.now c.args.entry.now
    (asks_there c.args.self.now c.args.entry.now c.unwrap_or-origin.result.now _ _ there c.as_ref-2.ensures.value (c.in_ok-owner.ensures ∙ ap (λ a. Ok (ask_in a)) c.in-Nothing.is))
