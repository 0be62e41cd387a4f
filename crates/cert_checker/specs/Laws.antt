-- The laws of certificates, as statements.
use Rattle.std.specs.Prelude.{◌≡◌, ◌≢◌, ℕ, List}
use Rattle.zone_answers.specs.Zone.{Zone}
use Rattle.spf_model.specs.declared.outcome.Limits.{Limits}
use Rattle.cert_checker.specs.declared.answer.No.{No}
use Rattle.cert_checker.specs.declared.answer.No.TheVariants.{Memory}
use Rattle.cert_checker.specs.declared.answer.Yes.{Yes}
use Rattle.cert_checker.specs.Certified.{IsCertified}
use Rattle.cert_checker.specs.Reasons.{IsReason}

-- one reason at most holds first, beside want of memory
abbrev pub OneReason : Type 0
OneReason = (zones : List Zone) (limits : Limits) (domain : List ℕ) (size : ℕ) (bytes : List ℕ) (a b : No)
    → a ≢ Memory → b ≢ Memory
    → IsReason zones limits domain size bytes a → IsReason zones limits domain size bytes b → a ≡ b

-- none holds of bytes that are accepted
abbrev pub NoReasonBesideYes : Type 0
NoReasonBesideYes = (zones : List Zone) (limits : Limits) (domain : List ℕ) (size : ℕ) (bytes : List ℕ) (yes : Yes)
    (no : No) → IsCertified zones limits domain size bytes yes → IsReason zones limits domain size bytes no
    → no ≡ Memory

-- they are accepted with the same numbers, whoever judges them
abbrev pub OneYes : Type 0
OneYes = (zones : List Zone) (limits : Limits) (domain : List ℕ) (size : ℕ) (bytes : List ℕ) (a b : Yes)
    → IsCertified zones limits domain size bytes a → IsCertified zones limits domain size bytes b → a ≡ b
