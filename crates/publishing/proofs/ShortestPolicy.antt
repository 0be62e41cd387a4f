-- The fragment of a policy is a shortest one.
use Rattle.std.proofs.Common.{ℕ, List, Ok, sym, ◌∙◌, subst}
use Rattle.addr_bits.specs.declared.address.Address.{Address}
use Rattle.addr_bits.specs.declared.address.Address.TheVariants.{V4, V6}
use Rattle.addr_bits.specs.declared.address.Family.TheVariants as family
use Rattle.zone_answers.specs.Zone.{Zone}
use Rattle.spf_grammar.specs.declared.verdict.Verdict.{Verdict}
use Rattle.spf_grammar.specs.declared.flat.FlatTerm.{FlatTerm}
use Rattle.spf_grammar.specs.Flat.{first}
use Rattle.spf_grammar.specs.Families.{HavePrefixes}
use Rattle.spf_grammar.specs.Lists.{IsSame}
use Rattle.spf_grammar.proofs.FirstLemmas.{first-seen}
use Rattle.spf_model.specs.declared.outcome.Limits.{Limits}
use Rattle.spf_model.specs.declared.outcome.Outcome.TheVariants.{Is}
use Rattle.spf_model.specs.Run.{AnsweringEach, says}
use Rattle.spf_model.specs.Result as model
use Rattle.spf_model.specs.Result.{AllHave}
use Rattle.spf_model.proofs.OneOutcome.{one_verdict}
use Rattle.policy_verdicts.specs.Policy.{verdict_at}
use Rattle.published_records.specs.Standing.{HoldsName}
use Rattle.published_records.proofs.Publishing.{holds_name}
use Rattle.published_records.proofs.RecordChains.{unfolded}
use Rattle.publishing.specs.Policy.{PolicyDue, refused, kept, IsShortest, GivesEach, IsShortestOf, DueIsShortest}
use Rattle.publishing.specs.Published.{PublicationDue, IsBestPublication}
use Rattle.publishing.specs.Settings.{AreLegal}
use Rattle.publishing.specs.declared.settings.ChainSettings.{ChainSettings}
use Rattle.publishing.proofs.BestPublication.{due_is_best, ok_not_err}

-- ---- verdicts, from wherever they come
-- a list that gives each address its verdict, as each family sees it
seen_same : (other : List FlatTerm) (v4 v6 : ℕ → Verdict) → HavePrefixes other → GivesEach other v4 v6 → IsSame v4 v6 other
seen_same other v4 v6 has given = record {
  four = λ a lt. sym (first-seen family.V4 other a has) ∙ given (V4 a) lt;
  six = λ a lt. sym (first-seen family.V6 other a has) ∙ given (V6 a) lt;
}

-- and back
given_same : (list : List FlatTerm) (v4 v6 : ℕ → Verdict) → HavePrefixes list → IsSame v4 v6 list → GivesEach list v4 v6
given_same list v4 v6 has same (V4 a) lt = first-seen family.V4 list a has ∙ same.four a lt
given_same list v4 v6 has same (V6 a) lt = first-seen family.V6 list a has ∙ same.six a lt

pub due_is_shortest : DueIsShortest
due_is_shortest want zones v4 v6 bytes legal holds due =
    let best : IsBestPublication want zones v4 v6 bytes = due_is_best want zones v4 v6 bytes legal due in
    record {
      best = best;
      same = given_same best.list v4 v6 best.prefixes best.same;
      shortest = λ other has given. best.shortest other (seen_same other v4 v6 has given);
      stands = best.stands holds;
    }

-- ---- the verdicts of check_host
-- a list with the verdicts of check_host is given by it
given_all : (zones : AnsweringEach) (limits : Limits) (domain : List ℕ) (list : List FlatTerm) (v4 v6 : ℕ → Verdict) → AllHave zones limits domain (verdict_at v4 v6)
    → GivesEach list v4 v6 → AllHave zones limits domain (first list)
given_all zones limits domain list v4 v6 all same a lt = subst (λ (v : Verdict). model.Gives zones limits domain a (Is v)) (sym (same a lt)) (all a lt)

-- and back
given_each : (zones : AnsweringEach) (limits : Limits) (domain : List ℕ) (list : List FlatTerm) (v4 v6 : ℕ → Verdict) → AllHave zones limits domain (verdict_at v4 v6)
    → AllHave zones limits domain (first list) → GivesEach list v4 v6
given_each zones limits domain list v4 v6 all given a lt = one_verdict zones limits domain a (first list a) (verdict_at v4 v6 a) (given a lt) (all a lt)

-- a domain with verdicts is held by one of the zones
pub verdicts_held : (want : ChainSettings) (limits : Limits) (zones : List Zone) (verdict_of : Address → Verdict) → AreLegal want → AllHave (says zones) limits want.domain.text verdict_of
    → HoldsName zones want.domain.name
verdicts_held want limits zones verdict_of legal all =
    holds_name zones limits want.domain.text want.domain.name verdict_of (unfolded want.domain.text want.domain.name legal.named) all

shortest_of : (want : ChainSettings) (limits : Limits) (zones : List Zone) (v4 v6 : ℕ → Verdict) (bytes : List ℕ) → AreLegal want → AllHave (says zones) limits want.domain.text (verdict_at v4 v6)
    → PublicationDue want zones v4 v6 (Ok bytes) → IsShortest want limits zones bytes
shortest_of want limits zones v4 v6 bytes legal all due =
    let whole : IsShortestOf want zones v4 v6 bytes =
    due_is_shortest want zones v4 v6 bytes legal (verdicts_held want limits zones (verdict_at v4 v6) legal all) due in
    record {
      v4 = v4;
      v6 = v6;
      verdicts = all;
      best = whole.best;
      same = given_all (says zones) limits want.domain.text whole.best.list v4 v6 all whole.same;
      shortest = λ other has given. whole.shortest other has (given_each (says zones) limits want.domain.text other v4 v6 all given);
      stands = whole.stands;
    }

-- a fragment that is due for a policy is a shortest one
pub policy_best : (want : ChainSettings) (limits : Limits) (zones : List Zone) (bytes : List ℕ) → AreLegal want
    → PolicyDue want limits zones (Ok bytes) → IsShortest want limits zones bytes
policy_best want limits zones bytes legal (refused address outcome least is) = absurd (ok_not_err is)
policy_best want limits zones bytes legal (kept v4 v6 all due) = shortest_of want limits zones v4 v6 bytes legal all due
