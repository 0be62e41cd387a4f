-- The laws of the list of jobs.
use Rattle.std.specs.Prelude.{ℕ, List, [], ◌∷◌, ◌≡◌}
use Rattle.std.proofs.Common.{ap, sym, ◌∙◌}
use Rattle.std.proofs.lemmas.Bool.{false≢true}
use Rattle.std.proofs.lemmas.Slice.Eq.{bytes_eq-Decides}
use Rattle.jobs.specs.Meaning.{IsLawful}
use Rattle.job_check.specs.Laws.{check_ready, one_check, check_lawful}
use Rattle.job_compare.specs.Laws.{compare_ready, one_compare, compare_lawful}
use Rattle.job_compile.specs.Laws.{compile_ready, one_compile, compile_lawful}
use Rattle.job_deps.specs.Laws.{deps_ready, one_deps, deps_lawful}
use Rattle.job_join.specs.Laws.{join_ready, one_join, join_lawful}
use Rattle.job_keep.specs.Laws.{keep_ready, one_keep, keep_lawful}
use Rattle.job_stale.specs.Laws.{stale_ready, one_stale, stale_lawful}
use Rattle.spfc_top.specs.declared.any_job.AnyJob.{AnyJob}
use Rattle.spfc_top.specs.declared.any_job.AnyJob.TheVariants.{Check, Compile, Deps, Verify, Trial, Compare, Join}
use Rattle.spfc_top.specs.declared.any_job.AnyJob.TheVariants.{Keep, Stale}
use Rattle.job_verify.specs.Laws.{verify_ready, one_verify, verify_lawful}
use Rattle.job_trial.specs.Laws.{trial_ready, one_trial_spelled, trial_lawful}
use Rattle.spfc_top.specs.AnyJob.{command_of, SpellsBehind, SpellsAny, meaning_of}

ready_behind : (words : List (List ℕ)) (job : AnyJob) → SpellsBehind words job → (meaning_of job).IsReady
ready_behind words (Check job) is = check_ready words job is
ready_behind words (Compile job) is = compile_ready words job is
ready_behind words (Deps job) is = deps_ready words job is
ready_behind words (Verify job) is = verify_ready words job is
ready_behind words (Trial job) is = trial_ready words job is
ready_behind words (Compare job) is = compare_ready words job is
ready_behind words (Join job) is = join_ready words job is
ready_behind words (Keep job) is = keep_ready words job is
ready_behind words (Stale job) is = stale_ready words job is

-- the words of a job make it ready
pub any_ready : (words : List (List ℕ)) (job : AnyJob) → SpellsAny words job → (meaning_of job).IsReady
any_ready [] job is = absurd is
any_ready (command ∷ words) job is = ready_behind words job is.1

-- the last case is that of two commands
one_behind : (words : List (List ℕ)) (a b : AnyJob) → command_of a ≡ command_of b → SpellsBehind words a
    → SpellsBehind words b → a ≡ b
one_behind words (Check a) (Check b) e x y = ap Check (one_check words a b x y)
one_behind words (Compile a) (Compile b) e x y = ap Compile (one_compile words a b x y)
one_behind words (Deps a) (Deps b) e x y = ap Deps (one_deps words a b x y)
one_behind words (Verify a) (Verify b) e x y = ap Verify (one_verify words a b x y)
one_behind words (Trial a) (Trial b) e x y = ap Trial (one_trial_spelled words a b x y)
one_behind words (Compare a) (Compare b) e x y = ap Compare (one_compare words a b x y)
one_behind words (Join a) (Join b) e x y = ap Join (one_join words a b x y)
one_behind words (Keep a) (Keep b) e x y = ap Keep (one_keep words a b x y)
one_behind words (Stale a) (Stale b) e x y = ap Stale (one_stale words a b x y)
one_behind words a b e x y = absurd (false≢true ((bytes_eq-Decides (command_of a) (command_of b)).1 e))

-- words spell one job at most
pub one_any : (words : List (List ℕ)) (a b : AnyJob) → SpellsAny words a → SpellsAny words b → a ≡ b
one_any [] a b x y = absurd x
one_any (command ∷ words) a b x y = one_behind words a b (sym x.0 ∙ y.0) x.1 y.1

-- for what was read one thing is due at most, and an output that is due is the best
pub any_lawful : (job : AnyJob) → IsLawful (meaning_of job)
any_lawful (Check job) = check_lawful job
any_lawful (Compile job) = compile_lawful job
any_lawful (Deps job) = deps_lawful job
any_lawful (Verify job) = verify_lawful job
any_lawful (Trial job) = trial_lawful job
any_lawful (Compare job) = compare_lawful job
any_lawful (Join job) = join_lawful job
any_lawful (Keep job) = keep_lawful job
any_lawful (Stale job) = stale_lawful job
