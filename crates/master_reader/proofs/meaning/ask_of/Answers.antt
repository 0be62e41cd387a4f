use Rattle.std.proofs.Common.{◌≡◌, sym, ◌∙◌, ap, arith, Some, ◌-◌, length, take, drop}
use Rattle.std.specs.Prelude.{option_copied}
use Rattle.std.specs.Result.{result_ok}
use Rattle.master_reader.specs.Entry.{record_ask}
use Rattle.master_reader.proofs.Asked.{answers_along, blank_asks, stated_asks, at_ok, split_first}
use Rattle.master_reader.proofs.meaning.ask_of.Goals as goal

pub returns-then-entry : goal.returns-then-entry
returns-then-entry c =
    answers_along (record_ask c.unwrap.result c.as_slice-tokens.result.now) _ c.record_ask.result
    (blank_asks (record { origin = c.args.origin.now; owner = option_copied c.args.owner }) c.args.entry.now c.unwrap.result c.as_slice-tokens.result.now c.if-entry.true
    (ap option_copied (c.ok_or.ensures.ok_part ∙ ap result_ok c.in_ok-owner.was) ∙ ap Some (sym (at_ok (λ copy. copy ≡ c.in_ok-owner.owner.now) _ c.clone.result c.unwrap.result c.clone.ensures.cases c.unwrap.ensures)))
    c.as_slice-tokens.ensures)
    c.record_ask.ensures

pub returns : goal.returns
returns c =
    answers_along (record_ask c.in_ok-name_in.field-0 (take (length c.as_slice-tokens.result.now - 1) (drop 1 c.as_slice-tokens.result.now))) _ c.record_ask-2.result
    (stated_asks (record { origin = c.args.origin.now; owner = option_copied c.args.owner }) c.args.entry.now c.first-item.result _ c.in_ok-name_in.field-0 c.if-entry.false
    (sym c.as_slice-tokens.ensures ∙ split_first c.as_slice-tokens.result.now c.first-item.result (omega arith) c.first-item.is) (sym c.is_dollar_word.ensures ∙ c.if-is_dollar_word.false) (sym c.name_in.ensures ∙ c.in_ok-name_in.was))
    c.record_ask-2.ensures
