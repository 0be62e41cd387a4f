-- What a policy is read from.
use Rattle.std.proofs.Common.{◌≡◌, ℕ, List, [], ◌∷◌}
use Rattle.spfc_words.specs.declared.input.Group.TheVariants.{Zones}
use Rattle.spfc_words.specs.declared.subject.Subject.{Subject}
use Rattle.spfc_words.specs.Limits.{reading_options}
use Rattle.spfc_words.specs.Options.{behind_options}
use Rattle.spfc_words.specs.Subjects.{SpellsSubject}
use Rattle.spfc_words.proofs.Domains.{one_domain}
use Rattle.spfc_words.proofs.Inputs.{one_inputs}
use Rattle.spfc_words.proofs.ReadingLimits.{one_limits}

-- words spell one subject at most
pub one_subject : (words : List (List ℕ)) (a b : Subject) → SpellsSubject words a → SpellsSubject words b → a ≡ b
one_subject [] a b x y = absurd x
one_subject (domain ∷ words) a b x y =
    let named : a.domain ≡ b.domain = one_domain domain a.domain b.domain x.named y.named in
    let reading : a.limits ≡ b.limits = one_limits reading_options words a.limits b.limits x.reading y.reading in
    let zones : a.inputs ≡ b.inputs = one_inputs Zones (behind_options reading_options words) a.inputs b.inputs x.zones y.zones in
    λ i. record { domain = named i; limits = reading i; inputs = zones i }
