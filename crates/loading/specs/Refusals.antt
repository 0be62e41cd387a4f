-- The statuses and the lines of refusals, for all jobs: the project's own choice.
use Rattle.std.specs.Prelude.{ℕ, List}
use Rattle.loading.specs.Lines.{no_file_line, long_file_line, bad_zone_line, too_many_line, alias_and_other_line}
use Rattle.loading.specs.Lines.{no_verdict_line, alias_line, taken_line, too_big_line, bad_list_line}
use Rattle.loading.specs.Lines.{no_zone_line, no_chain_line, other_verdict_line, no_table_line, no_terms_line}
use Rattle.loading.specs.Lines.{no_records_line}
use Rattle.loading.specs.declared.refusal.Denial.{Denial}
use Rattle.loading.specs.declared.refusal.Denial.TheVariants as denial
use Rattle.loading.specs.declared.refusal.Refusal.{Refusal}
use Rattle.loading.specs.declared.refusal.Refusal.TheVariants.{NoFile, LongFile, BadZone, TooManyRecords, AliasAndOther}
use Rattle.loading.specs.declared.refusal.Refusal.TheVariants.{NoVerdict, Alias, Taken, TooBig, BadList, Denied}

-- 1: what was asked is refused; 2: it is too big; 3: the zones or the list cannot be read; 8: the file does not show
-- what it should
abbrev pub refusal_status : Refusal → ℕ
refusal_status (NoFile file) = 3
refusal_status (LongFile file) = 3
refusal_status (BadZone file line kind) = 3
refusal_status (TooManyRecords origin) = 3
refusal_status (AliasAndOther origin name) = 3
refusal_status (NoVerdict address outcome) = 1
refusal_status (Alias domain) = 1
refusal_status (Taken number name) = 1
refusal_status TooBig = 2
refusal_status (BadList file line) = 3
refusal_status (Denied why) = 8

-- the line of a file that does not show what it should
abbrev pub denial_line : Denial → List ℕ
denial_line (denial.NoZone line kind) = no_zone_line line kind
denial_line denial.NoChain = no_chain_line
denial_line (denial.NoVerdict address) = other_verdict_line address
denial_line (denial.NoTable line) = no_table_line line
denial_line denial.NoTerms = no_terms_line
denial_line denial.NoRecords = no_records_line

-- the line on standard error
abbrev pub refusal_line : Refusal → List ℕ
refusal_line (NoFile file) = no_file_line file
refusal_line (LongFile file) = long_file_line file
refusal_line (BadZone file line kind) = bad_zone_line file line kind
refusal_line (TooManyRecords origin) = too_many_line origin
refusal_line (AliasAndOther origin name) = alias_and_other_line origin name
refusal_line (NoVerdict address outcome) = no_verdict_line address outcome
refusal_line (Alias domain) = alias_line domain
refusal_line (Taken number name) = taken_line number name
refusal_line TooBig = too_big_line
refusal_line (BadList file line) = bad_list_line file line
refusal_line (Denied why) = denial_line why
