-- The bytes that were published of a policy, as statements.
use Rattle.std.specs.Prelude.{◌≡◌, ℕ, ◌≤◌, List, length}
use Rattle.zone_answers.specs.Zone.{Zone}
use Rattle.spf_grammar.specs.declared.verdict.Verdict.{Verdict}
use Rattle.spf_model.specs.Result.{AllHave}
use Rattle.spf_model.specs.Run.{says}
use Rattle.spf_model.specs.declared.outcome.Limits.{Limits}
use Rattle.policy_verdicts.specs.Policy.{verdict_at}
use Rattle.fewest_terms.specs.Chosen.{chosen_list}
use Rattle.fewest_terms.specs.Tables.{need_rows}
use Rattle.fewest_terms.specs.Totals.{total}
use Rattle.record_pack.specs.Records.{HasFewest, IsFittingCut}
use Rattle.zone_writer.specs.Fragment.{fragment_text}
use Rattle.zone_writer.specs.Written.{AreChainWords}
use Rattle.cert_checker.specs.Certified.{IsCertified}
use Rattle.cert_checker.specs.Reasons.{IsReason, others_at}
use Rattle.cert_checker.specs.declared.answer.No.{No}
use Rattle.cert_checker.specs.declared.answer.No.TheVariants.{Memory}

-- project's own choice of what is published of a policy: the chosen list of the verdicts that check_host gives over the
-- zones, in records that fit beside the other texts at the domain, of which no cut that fits has fewer, and behind them
-- the table of needs
pub record IsPublished (zones : List Zone) (limits : Limits) (domain label : List ℕ) (ttl size : ℕ)
    (bytes : List ℕ) : Type 0 where
  pub v4 : ℕ → Verdict
  pub v6 : ℕ → Verdict
  pub ends : List ℕ
  pub words : AreChainWords domain label
  pub lasting : ttl ≤ 2147483647
  pub narrow : size ≤ 4096
  pub verdicts : AllHave (says zones) limits domain (verdict_at v4 v6)
  pub fits : IsFittingCut domain label size (others_at zones domain) (chosen_list v4 v6) ends
  pub fewest : HasFewest domain label size (others_at zones domain) (chosen_list v4 v6) ends
  pub written : bytes ≡ fragment_text domain label ttl (chosen_list v4 v6) ends (need_rows 32 v4 32 0)
      (need_rows 128 v6 128 0) (total v4 v6)

-- bytes that were published are certified over the same zones, under the same limits and for the same size, with their
-- own numbers of terms and of records
abbrev pub PublishedIsCertified : Type 0
PublishedIsCertified = (zones : List Zone) (limits : Limits) (domain label : List ℕ) (ttl size : ℕ) (bytes : List ℕ)
    (published : IsPublished zones limits domain label ttl size bytes)
    → IsCertified zones limits domain size bytes
    (record { terms = total published.v4 published.v6; records = length published.ends })

-- no reason holds of them
abbrev pub PublishedHasNoReason : Type 0
PublishedHasNoReason = (zones : List Zone) (limits : Limits) (domain label : List ℕ) (ttl size : ℕ) (bytes : List ℕ)
    (no : No) → IsPublished zones limits domain label ttl size bytes → IsReason zones limits domain size bytes no
    → no ≡ Memory
