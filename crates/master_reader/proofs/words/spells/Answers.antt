use Rattle.std.proofs.Common.{◌<◌, length, sym, ◌∙◌, ap, arith, get_or}
use Rattle.std.specs.Str.{str_to_ascii_lowercase}
use Rattle.master_reader.specs.Tokens.{bytes_in}
use Rattle.master_reader.proofs.Spelling.{lower_at, length-lower, bytes_differ, bytes_same, same_more, same_whole}
use Rattle.master_reader.proofs.words.spells.Goals as goal

pub returns-then-to_ascii_lowercase-word : goal.returns-then-to_ascii_lowercase-word
returns-then-to_ascii_lowercase-word c =
    bytes_differ (str_to_ascii_lowercase (bytes_in c.args.units.now)) c.args.word.now
    (λ e. c.if-to_ascii_lowercase-word.true (c.to_ascii_lowercase.ensures.value ∙ sym (lower_at c.args.units.now c.loop-place.place c.loop-place-test.true) ∙ ap (λ l. get_or l c.loop-place.place 0) e))

pub loop-place-preserved : goal.loop-place-preserved
loop-place-preserved c =
    let within : c.loop-place.place < length c.args.word.now = omega arith in
    same_more (str_to_ascii_lowercase (bytes_in c.args.units.now)) c.args.word.now c.loop-place.place (omega (arith, length-lower c.args.units.now)) within c.loop-place.invariant
    (lower_at c.args.units.now c.loop-place.place c.loop-place-test.true ∙ sym c.to_ascii_lowercase.ensures.value ∙ c.if-to_ascii_lowercase-word.false)

pub returns : goal.returns
returns c =
    bytes_same (str_to_ascii_lowercase (bytes_in c.args.units.now)) c.args.word.now
    (same_whole (str_to_ascii_lowercase (bytes_in c.args.units.now)) c.args.word.now c.loop-place.place (omega (arith, length-lower c.args.units.now)) (omega arith) c.loop-place.invariant)
