use Rattle.std.proofs.Common.{sym, ◌∙◌, ap, ◌-◌, take, drop, length, List}
use Rattle.master_lex.specs.declared.entry.Octet.{Octet}
use Rattle.master_reader.proofs.Types.{number_of_type_is}
use Rattle.master_reader.proofs.meaning.is_number_of_type.Goals as goal

pub returns-then-is_numbered_word : goal.returns-then-is_numbered_word
returns-then-is_numbered_word c =
    number_of_type_is c.args.token.now _ c.number_of.result c.contains.result (sym c.is_numbered_word.ensures ∙ c.if-is_numbered_word.true) (ap (λ (l : List Octet). take (length l - 4) (drop 4 l)) c.as_slice.ensures) c.number_of.ensures c.contains.ensures.value
