-- What an entry asks for, as the private functions answer it.
use Rattle.master_reader.specs.declared.meaning.Ask.{Ask as Answer}
use Rattle.master_reader.specs.declared.meaning.Ask.TheVariants.{Record, Origin, Nothing}
use Rattle.master_reader.specs.Entry.{Ask, a_record, an_origin, no_record}

-- the same, with what its references point to
abbrev pub ask_in : Answer → Ask
ask_in (Record owner kind content) = a_record owner kind.now content.now
ask_in (Origin name) = an_origin name
ask_in Nothing = no_record
