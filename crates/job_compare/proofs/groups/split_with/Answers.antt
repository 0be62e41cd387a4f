use Rattle.std.proofs.Common.{rules, ◌∙◌, string_bytes, sym}
use Rattle.job_compare.specs.Words.{is_with}
use Rattle.job_compare.proofs.Splitting.{none_of, found_at}
use Rattle.job_compare.proofs.groups.split_with.Goals as goal

pub returns-in_err-place : goal.returns-in_err-place
returns-in_err-place c =
    let none = none_of string_bytes is_with c.args.words.now (sym c.place_of_with.ensures.value ∙ c.in_err-place.was) in
    search (rules, none)

pub returns : goal.returns
returns c = found_at string_bytes is_with c.args.words.now c.in_ok-place.place (sym c.place_of_with.ensures.value ∙ c.in_ok-place.was)
