use Rattle.std.proofs.Common.{take}
use Rattle.std.specs.List.{AllZip}
use Rattle.spfc_words.specs.Domains.{IsDomain}
use Rattle.spfc_words.specs.Words.{texts}
use Rattle.job_join.specs.Words.{HaveOwnTexts}
use Rattle.job_join.proofs.domains.read_domains.Given as goal

-- the words so far are domains, none twice
abbrev pub invariant-loop-word : goal.invariant-loop-word
invariant-loop-word l = record { each : AllZip IsDomain (texts (take l.word-index l.words)) l.domains; own : HaveOwnTexts l.domains }
