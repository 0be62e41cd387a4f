-- The list of jobs: one line for each in each definition.
use Rattle.std.specs.Prelude.{ℕ, List, [], ◌∷◌, ◌≡◌, codes}
use Rattle.jobs.specs.Meaning.{Meaning, Program, program}
use Rattle.job_check.specs.Meaning.{meaning_of_check}
use Rattle.job_check.specs.Words.{SpellsCheck}
use Rattle.job_compare.specs.Meaning.{meaning_of_compare}
use Rattle.job_compare.specs.Words.{SpellsCompare}
use Rattle.job_compile.specs.Meaning.{meaning_of_compile}
use Rattle.job_compile.specs.Words.{SpellsCompile}
use Rattle.job_deps.specs.Meaning.{meaning_of_deps}
use Rattle.job_deps.specs.Words.{SpellsDeps}
use Rattle.job_join.specs.Meaning.{meaning_of_join}
use Rattle.job_join.specs.Words.{SpellsJoin}
use Rattle.job_keep.specs.Meaning.{meaning_of_keep}
use Rattle.job_keep.specs.Words.{SpellsKeep}
use Rattle.job_stale.specs.Meaning.{meaning_of_stale}
use Rattle.job_stale.specs.Words.{SpellsStale}
use Rattle.spfc_top.specs.declared.any_job.AnyJob.{AnyJob}
use Rattle.spfc_top.specs.declared.any_job.AnyJob.TheVariants.{Check, Compile, Deps, Verify, Trial, Compare, Join}
use Rattle.spfc_top.specs.declared.any_job.AnyJob.TheVariants.{Keep, Stale}
use Rattle.job_verify.specs.Meaning.{meaning_of_verify}
use Rattle.job_verify.specs.Words.{SpellsVerify}
use Rattle.job_trial.specs.Meaning.{meaning_of_trial}
use Rattle.job_trial.specs.Words.{SpellsTrial}

-- project's own choice: the command of a job
abbrev pub command_of : AnyJob → List ℕ
command_of (Check job) = codes "check"
command_of (Compile job) = codes "compile"
command_of (Deps job) = codes "deps"
command_of (Verify job) = codes "verify"
command_of (Trial job) = codes "trial"
command_of (Compare job) = codes "compare"
command_of (Join job) = codes "join"
command_of (Keep job) = codes "keep"
command_of (Stale job) = codes "stale"

-- the words behind the command
abbrev pub SpellsBehind : List (List ℕ) → AnyJob → Type 0
SpellsBehind words (Check job) = SpellsCheck words job
SpellsBehind words (Compile job) = SpellsCompile words job
SpellsBehind words (Deps job) = SpellsDeps words job
SpellsBehind words (Verify job) = SpellsVerify words job
SpellsBehind words (Trial job) = SpellsTrial words job
SpellsBehind words (Compare job) = SpellsCompare words job
SpellsBehind words (Join job) = SpellsJoin words job
SpellsBehind words (Keep job) = SpellsKeep words job
SpellsBehind words (Stale job) = SpellsStale words job

-- the words spell the job
abbrev pub SpellsAny : List (List ℕ) → AnyJob → Type 0
SpellsAny [] job = ⊥
SpellsAny (command ∷ words) job = (command ≡ command_of job) × SpellsBehind words job

-- what a job means
abbrev pub meaning_of : AnyJob → Meaning
meaning_of (Check job) = meaning_of_check job
meaning_of (Compile job) = meaning_of_compile job
meaning_of (Deps job) = meaning_of_deps job
meaning_of (Verify job) = meaning_of_verify job
meaning_of (Trial job) = meaning_of_trial job
meaning_of (Compare job) = meaning_of_compare job
meaning_of (Join job) = meaning_of_join job
meaning_of (Keep job) = meaning_of_keep job
meaning_of (Stale job) = meaning_of_stale job

-- all jobs
abbrev pub jobs : Program
jobs = program SpellsAny meaning_of
