-- What is due for the policy of a domain over zones, and what is best.
use Rattle.std.specs.Prelude.{ℕ, ◌≡◌, ◌≤◌, List, length, Result, Ok, Err}
use Rattle.addr_bits.specs.Address.{IsAddress}
use Rattle.addr_bits.specs.declared.address.Address.{Address}
use Rattle.zone_answers.specs.Zone.{Zone}
use Rattle.spf_grammar.specs.Families.{HavePrefixes}
use Rattle.spf_grammar.specs.Flat.{first}
use Rattle.spf_grammar.specs.declared.flat.FlatTerm.{FlatTerm}
use Rattle.spf_grammar.specs.declared.verdict.Verdict.{Verdict}
use Rattle.spf_model.specs.Result.{AllHave}
use Rattle.spf_model.specs.Run.{says}
use Rattle.spf_model.specs.declared.outcome.Limits.{Limits}
use Rattle.spf_model.specs.declared.outcome.Outcome.{Outcome}
use Rattle.policy_verdicts.specs.Policy.{IsLeastRefused, verdict_at}
use Rattle.published_records.specs.Published.{Stands}
use Rattle.published_records.specs.Standing.{HoldsName}
use Rattle.loading.specs.declared.refusal.Refusal.{Refusal}
use Rattle.loading.specs.declared.refusal.Refusal.TheVariants.{NoVerdict}
use Rattle.publishing.specs.Published.{PublicationDue, IsBestPublication}
use Rattle.publishing.specs.Settings.{AreLegal}
use Rattle.publishing.specs.declared.settings.ChainSettings.{ChainSettings}

-- What is due for a domain over these zones. Each address has a verdict, or the policy is refused: a list has one for
-- each.
pub data PolicyDue (settings : ChainSettings) (limits : Limits) (zones : List Zone)
    (due : Result (List ℕ) Refusal) : Type 0 where
  refused : (address : Address) (outcome : Outcome)
      → IsLeastRefused (says zones) limits settings.domain.text address outcome
      → due ≡ Err (NoVerdict address outcome) → PolicyDue settings limits zones due
  kept : (v4 v6 : ℕ → Verdict) → AllHave (says zones) limits settings.domain.text (verdict_at v4 v6)
      → PublicationDue settings zones v4 v6 due → PolicyDue settings limits zones due

-- RFC 7208, sections 4.6.2 and 4.7: the list gives each address its verdict
abbrev pub GivesEach : List FlatTerm → (v4 v6 : ℕ → Verdict) → Type 0
GivesEach list v4 v6 = (address : Address) → IsAddress address → first list address ≡ verdict_at v4 v6 address

-- The bytes are a best publication of these verdicts, from wherever they come. Its list gives each address its verdict,
-- and no list that does has fewer terms. Its records stand where they are published: the bytes are read as them, and
-- over them alone, and over the zones with them in place, check_host gives each address its verdict, within the limits
-- of a mail receiver
pub record IsShortestOf (settings : ChainSettings) (zones : List Zone) (v4 v6 : ℕ → Verdict)
    (bytes : List ℕ) : Type 0 where
  pub best : IsBestPublication settings zones v4 v6 bytes
  pub same : GivesEach best.list v4 v6
  pub shortest : (other : List FlatTerm) → HavePrefixes other → GivesEach other v4 v6
      → length best.list ≤ length other
  pub stands : Stands settings.domain.text settings.label zones settings.domain.name best.list best.ends bytes

-- a fragment that is due for verdicts, where one of the zones holds the domain, is such a publication
abbrev pub DueIsShortest : Type 0
DueIsShortest = (settings : ChainSettings) (zones : List Zone) (v4 v6 : ℕ → Verdict) (bytes : List ℕ)
    → AreLegal settings → HoldsName zones settings.domain.name → PublicationDue settings zones v4 v6 (Ok bytes)
    → IsShortestOf settings zones v4 v6 bytes

-- RFC 7208, section 4: the bytes are a best publication of the verdicts that check_host gives over the zones. Its list
-- gives each address the verdict that check_host gives it, and no list that does has fewer terms. Its records stand
-- where they are published: the bytes are read as them, and over them alone, and over the zones with them in place,
-- check_host gives each address the same verdict, within the limits of a mail receiver
pub record IsShortest (settings : ChainSettings) (limits : Limits) (zones : List Zone) (bytes : List ℕ) : Type 0 where
  pub v4 : ℕ → Verdict
  pub v6 : ℕ → Verdict
  pub verdicts : AllHave (says zones) limits settings.domain.text (verdict_at v4 v6)
  pub best : IsBestPublication settings zones v4 v6 bytes
  pub same : AllHave (says zones) limits settings.domain.text (first best.list)
  pub shortest : (other : List FlatTerm) → HavePrefixes other
      → AllHave (says zones) limits settings.domain.text (first other)
      → length best.list ≤ length other
  pub stands : Stands settings.domain.text settings.label zones settings.domain.name best.list best.ends bytes
