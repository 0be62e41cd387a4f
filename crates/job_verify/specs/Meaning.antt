-- What the job means.
use Rattle.std.specs.Prelude.{◌≡◌, ℕ, IsTrue, List, [], codes, decimal}
use Rattle.spf_macros.specs.Words.{is_domain}
use Rattle.spf_model.specs.Result.{AreModest}
use Rattle.loading.specs.Lines.{line_of, spaced}
use Rattle.loading.specs.declared.loaded.Loaded.{Loaded}
use Rattle.loading.specs.declared.memory.OrMemory.{OrMemory}
use Rattle.loading.specs.declared.memory.OrMemory.TheVariants.{Error, Memory}
use Rattle.loading.specs.declared.refusal.Denial.TheVariants.{NoZone, NoChain, NoTable, NoTerms, NoRecords}
use Rattle.loading.specs.declared.refusal.Denial.TheVariants as denial
use Rattle.loading.specs.declared.refusal.Refusal.{Refusal}
use Rattle.loading.specs.declared.refusal.Refusal.TheVariants.{NoVerdict, Denied}
use Rattle.cert_checker.specs.Certified.{IsCertified}
use Rattle.cert_checker.specs.Reasons.{IsReason}
use Rattle.cert_checker.specs.declared.answer.No.{No}
use Rattle.cert_checker.specs.declared.answer.No.TheVariants as no
use Rattle.cert_checker.specs.declared.answer.Yes.{Yes}
use Rattle.jobs.specs.Meaning.{Due, Refuses, Gives, Meaning}
use Rattle.jobs.specs.declared.output.Output.{Output}
use Rattle.job_verify.specs.declared.verify.Verify.{Verify}

-- project's own format: the line of a file that is accepted has the numbers of its terms and of its records
abbrev pub yes_line : Yes → List ℕ
yes_line counts = line_of (codes "yes ") (spaced (decimal counts.terms) (decimal counts.records))

-- project's own choice: the refusal of a reason; want of memory is none
abbrev pub refused_by : No → OrMemory Refusal
refused_by (no.Refused address outcome) = Error (NoVerdict address outcome)
refused_by (no.NotZone line kind) = Error (Denied (NoZone line kind))
refused_by no.NotChain = Error (Denied NoChain)
refused_by (no.Verdict address) = Error (Denied (denial.NoVerdict address))
refused_by (no.Table line) = Error (Denied (NoTable line))
refused_by no.Terms = Error (Denied NoTerms)
refused_by no.Records = Error (Denied NoRecords)
refused_by no.Memory = Memory

-- RFC 7208, section 4: the file's records, alone, give each address the verdict that it has over the zones, and neither
-- fewer terms nor fewer records would do; the output says how many there are, and no question is told of
pub record IsAccepted (job : Verify) (loaded : Loaded) (output : Output) : Type 0 where
  pub counts : Yes
  pub certified : IsCertified loaded.zones job.limits job.domain.text job.size loaded.file counts
  pub line : output.bytes ≡ yes_line counts
  pub untold : output.asked ≡ []

-- the first reason why the file is not accepted
pub record IsDenied (job : Verify) (loaded : Loaded) (why : Refusal) : Type 0 where
  pub reason : No
  pub first : IsReason loaded.zones job.limits job.domain.text job.size loaded.file reason
  pub is : refused_by reason ≡ Error why

-- what is due: that the file is accepted, or why it is not
pub data VerifyDue (job : Verify) (loaded : Loaded) (due : Due) : Type 0 where
  accepted : (output : Output) → IsAccepted job loaded output → due ≡ Gives output → VerifyDue job loaded due
  denied : (why : Refusal) → IsDenied job loaded why → due ≡ Refuses why → VerifyDue job loaded due

-- the domain has its form, and the limits are modest
pub record IsReady (job : Verify) : Type 0 where
  pub form : IsTrue (is_domain job.domain.text)
  pub modest : AreModest job.limits

-- what the job means
abbrev pub meaning_of_verify : Verify → Meaning
meaning_of_verify job =
    record { inputs = job.inputs; IsReady = IsReady job; IsDue = VerifyDue job; IsBest = IsAccepted job }
