-- Why a file is not accepted.
use Rattle.std.proofs.Common.{◌≡◌, sym, refl}
use Rattle.loading.specs.Memory.{ErrorIs}
use Rattle.loading.specs.declared.loaded.Loaded.{Loaded}
use Rattle.loading.specs.declared.memory.OrMemory.{OrMemory}
use Rattle.loading.specs.declared.memory.OrMemory.TheVariants.{Error, Memory}
use Rattle.loading.specs.declared.refusal.Refusal.{Refusal}
use Rattle.cert_checker.specs.Reasons.{IsReason}
use Rattle.cert_checker.specs.declared.answer.No.{No}
use Rattle.jobs.specs.Meaning.{Refuses}
use Rattle.job_verify.specs.Meaning.{VerifyDue, denied, refused_by}
use Rattle.job_verify.specs.declared.verify.Verify.{Verify}

-- the refusal of the first reason is due
pub denial_due : (job : Verify) (loaded : Loaded) (reason : No) (found : OrMemory Refusal) → found ≡ refused_by reason
    → IsReason loaded.zones job.limits job.domain.text job.size loaded.file reason
    → ErrorIs (λ why. VerifyDue job loaded (Refuses why)) found
denial_due job loaded reason (Error why) is first =
    denied why (record { reason = reason; first = first; is = sym is }) refl
denial_due job loaded reason Memory is first = tt
