-- The verdicts that the policy of a generated zone gives.
use Rattle.std.specs.Prelude.{ℕ, ◌≤◌, List, [], ◌∷◌, map, if◌then◌else◌}
use Rattle.std.specs.List.{range_with_len}
use Rattle.addr_bits.specs.declared.address.Address.{Address}
use Rattle.zone_answers.specs.Zone.{Zone}
use Rattle.spf_grammar.specs.Flat.{first}
use Rattle.spf_grammar.specs.declared.flat.FlatTerm.{FlatTerm}
use Rattle.spf_grammar.specs.declared.flat.Net.TheVariants.{All}
use Rattle.spf_grammar.specs.declared.verdict.Verdict.{Verdict}
use Rattle.spf_grammar.specs.declared.verdict.Verdict.TheVariants.{Pass, SoftFail}
use Rattle.spf_model.specs.Check.{receiver_limits}
use Rattle.spf_model.specs.Judging.{is_pass}
use Rattle.spf_model.specs.Result.{AllHave}
use Rattle.spf_model.specs.Run.{says}
use Rattle.spf_gen.specs.Networks.{terms_in}
use Rattle.policy_trial.specs.Trial.{IsTrialZone, trial_text}

-- RFC 7208, section 4: check_host gives each address a verdict over these zones, under the limits of a mail receiver
abbrev pub HaveVerdicts : List Zone → Type 0
HaveVerdicts zones = (verdict_of : Address → Verdict) × AllHave (says zones) receiver_limits trial_text verdict_of

-- RFC 7208, section 5.2: a record that includes others, each of flat terms, and has flat terms behind: an include
-- matches where its record gives pass, and then gives pass itself
abbrev pub first_included : List (List FlatTerm) → (behind : List FlatTerm) → Address → Verdict
first_included [] behind a = first behind a
first_included (terms ∷ lists) behind a = if is_pass (first terms a) then Pass else first_included lists behind a

-- the verdict of the zone with so many networks: softfail where no included record gives pass
abbrev pub trial_verdict : (start networks : ℕ) → Address → Verdict
trial_verdict start networks a =
    first_included (map (terms_in start networks) (range_with_len 0 8))
    (record { verdict = SoftFail; net = All } ∷ []) a

-- RFC 7208, section 4: the zone of up to 10,000 networks, over which check_host gives each address this verdict, under
-- the limits of a mail receiver
pub record HasVerdicts (start networks : ℕ) : Type 0 where
  pub zones : List Zone
  pub zone : IsTrialZone start networks zones
  pub verdicts : AllHave (says zones) receiver_limits trial_text (trial_verdict start networks)

-- so it is for each trial
abbrev pub TrialsHaveVerdicts : Type 0
TrialsHaveVerdicts = (start networks : ℕ) → networks ≤ 10000 → HasVerdicts start networks
