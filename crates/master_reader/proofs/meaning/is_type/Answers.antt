use Rattle.std.proofs.Common.{sym, ◌∙◌, true≢false}
use Rattle.master_reader.proofs.Types.{type_is}
use Rattle.master_reader.proofs.meaning.is_type.Goals.{then-is_bare, else-is_bare}
use Rattle.master_reader.proofs.meaning.is_type.Goals as goal

pub returns-then-begins_with_letter : goal.returns-then-begins_with_letter
returns-then-begins_with_letter c =
    elim c.if-is_bare.branch [
      | then-is_bare w ↦ type_is c.args.token.now c.as_slice-units.result.now c.is_bare.result w.begins_with_letter.result c.are_type_bytes.result c.as_slice-units.ensures c.is_bare.ensures w.if-is_bare.true w.begins_with_letter.ensures (sym w.value-is ∙ c.if-begins_with_letter.true) c.are_type_bytes.ensures
      | else-is_bare w ↦ absurd (true≢false (sym c.if-begins_with_letter.true ∙ w.value-is ∙ w.if-is_bare.false))
    ]
