use Rattle.std.proofs.Common.{take}
use Rattle.std.specs.List.{AllZip}
use Rattle.spfc_words.specs.Words.{texts}
use Rattle.spfc_words.specs.ZoneWords.{IsZoneWord, HaveOwnOrigins}
use Rattle.spfc_words.proofs.zone_word.read_zone_words.Given as goal

-- the words so far are zone words of different origins
abbrev pub invariant-loop-word : goal.invariant-loop-word
invariant-loop-word l = record { each : AllZip IsZoneWord (texts (take l.word-index l.words)) l.zones; own : HaveOwnOrigins l.zones }
