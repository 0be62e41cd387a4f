-- What the job means.
use Rattle.std.specs.Prelude.{◌≡◌, ℕ, List, [], codes}
use Rattle.zone_answers.specs.Questions.{question_text}
use Rattle.zone_answers.specs.Zone.{Zone}
use Rattle.zone_answers.specs.declared.answer.Question.{Question}
use Rattle.spf_model.specs.declared.outcome.Limits.{Limits}
use Rattle.bound_table.specs.Reading.{lines_of}
use Rattle.kept_lists.specs.declared.kept.Kept.{Kept}
use Rattle.kept_lists.specs.declared.kept.KeptLine.{KeptLine}
use Rattle.kept_lists.specs.Lists.{AreReadingLimits, IsKeptDomain}
use Rattle.kept_lists.specs.Reading.{AreKept, AreNotKept}
use Rattle.deps_watch.specs.declared.fresh.Freshness.TheVariants.{Fresh}
use Rattle.deps_watch.specs.Freshness.{IsFirstStale, IsFreshness}
use Rattle.deps_watch.specs.Keeping.{IsKeptOf}
use Rattle.deps_watch.specs.Laws.{SameOutcomes}
use Rattle.loading.specs.Lines.{line_of}
use Rattle.loading.specs.declared.loaded.Loaded.{Loaded}
use Rattle.loading.specs.declared.refusal.Refusal.TheVariants.{BadList}
use Rattle.jobs.specs.Meaning.{Due, Refuses, Gives, Meaning}
use Rattle.jobs.specs.declared.output.Output.{Output}
use Rattle.job_stale.specs.declared.stale.Stale.{Stale}

-- project's own format: each question is answered as it was
abbrev pub fresh_line : List ℕ
fresh_line = line_of (codes "fresh") []

-- project's own format: this question is answered otherwise
abbrev pub stale_line : Question → List ℕ
stale_line question = line_of (codes "stale ") (question_text question)

-- each line of the list agrees with the zones; or one of them is the first that differs, and its question is named
pub data IsWatchLine (zones : List Zone) (lines : List KeptLine) (bytes : List ℕ) : Type 0 where
  fresh : IsFreshness zones lines Fresh → bytes ≡ fresh_line → IsWatchLine zones lines bytes
  stale : (place : ℕ) (first : IsFirstStale zones lines place) → bytes ≡ stale_line first.line.question
      → IsWatchLine zones lines bytes

-- the file is this kept list, and the output says whether the zones still answer its questions so; no question is told
-- of
pub record IsWatch (job : Stale) (loaded : Loaded) (output : Output) : Type 0 where
  pub kept : Kept
  pub read : AreKept (lines_of loaded.file) kept
  pub line : IsWatchLine loaded.zones kept.lines output.bytes
  pub untold : output.asked ≡ []

-- RFC 7208, section 4: where the file is what was kept of a domain over some other zones, and is fresh, check_host
-- gives each address for this domain and under these limits over the zones the outcome that it gives over the others
pub record IsBest (job : Stale) (loaded : Loaded) (output : Output) : Type 0 where
  pub watch : IsWatch job loaded output
  pub keeps : output.bytes ≡ fresh_line
      → (others : List Zone) (limits : Limits) (domain : List ℕ)
      → IsKeptDomain domain → AreReadingLimits limits → IsKeptOf others limits domain loaded.file
      → (watch.kept.domain ≡ domain) × (watch.kept.limits ≡ limits) × SameOutcomes loaded.zones others limits domain

-- what is due: what the file says over the zones; or, where it is no kept list, its first line at fault
pub data StaleDue (job : Stale) (loaded : Loaded) (due : Due) : Type 0 where
  said : (output : Output) → IsWatch job loaded output → due ≡ Gives output → StaleDue job loaded due
  unlisted : (line : ℕ) → AreNotKept (lines_of loaded.file) line → due ≡ Refuses (BadList job.file line)
      → StaleDue job loaded due

-- what the job means; there is nothing that it needs to be ready
abbrev pub meaning_of_stale : Stale → Meaning
meaning_of_stale job =
    record { inputs = job.inputs; IsReady = Unit {0}; IsDue = StaleDue job; IsBest = IsBest job }
