-- What a policy is read from, as words: `DOMAIN READING ORIGIN=FILE..`. Their form is the project's own choice.
use Rattle.std.specs.Prelude.{ℕ, List, [], ◌∷◌}
use Rattle.spfc_words.specs.declared.input.Group.TheVariants.{Zones}
use Rattle.spfc_words.specs.declared.subject.Subject.{Subject}
use Rattle.spfc_words.specs.Domains.{IsDomain}
use Rattle.spfc_words.specs.Inputs.{AreZoneInputs}
use Rattle.spfc_words.specs.Limits.{AreLimits, reading_options}
use Rattle.spfc_words.specs.Options.{behind_options}

-- a domain, and behind it options of the reading limits and zone words
pub record IsSubject (domain : List ℕ) (words : List (List ℕ)) (subject : Subject) : Type 0 where
  pub named : IsDomain domain subject.domain
  pub reading : AreLimits reading_options words subject.limits
  pub zones : AreZoneInputs Zones (behind_options reading_options words) subject.inputs

-- the words begin with the domain
abbrev pub SpellsSubject : List (List ℕ) → Subject → Type 0
SpellsSubject [] subject = ⊥
SpellsSubject (domain ∷ words) subject = IsSubject domain words subject
