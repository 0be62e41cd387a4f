-- The verdicts of several domains, and the one policy that is joined of them.
use Rattle.std.specs.Prelude.{ℕ, ◌≡◌, Bool, List, [], ◌∷◌, map, Ok, ◌⊎◌}
use Rattle.std.specs.List.{AllZip}
use Rattle.addr_bits.specs.Address.{IsAddress}
use Rattle.addr_bits.specs.declared.address.Address.{Address}
use Rattle.dns_name.specs.Name.{name_of_text}
use Rattle.zone_answers.specs.Zone.{Zone}
use Rattle.spf_grammar.specs.declared.verdict.Verdict.{Verdict}
use Rattle.spf_model.specs.Result.{AllHave}
use Rattle.spf_model.specs.Run.{says}
use Rattle.spf_model.specs.declared.outcome.Limits.{Limits}
use Rattle.spf_model.specs.declared.outcome.Outcome.{Outcome}
use Rattle.verdict_map.specs.declared.fault.VerdictFault.{VerdictFault}
use Rattle.verdict_map.specs.declared.fault.VerdictFault.TheVariants.{Refused, Memory}
use Rattle.verdict_map.specs.declared.tries.VerdictTries.{VerdictTries}
use Rattle.policy_verdicts.specs.Policy.{IsLeastRefused, KeepVerdicts, verdict_at}
use Rattle.policy_join.specs.Strength.{joined}
use Rattle.policy_join.specs.Laws.{HaveSame}
use Rattle.spfc_words.specs.declared.domain.Domain.{Domain}

-- each domain is a legal name
abbrev pub AreNamed : List Domain → Type 0
AreNamed [] = Unit {0}
AreNamed (domain ∷ domains) = (name_of_text domain.text ≡ Ok domain.name) × AreNamed domains

-- RFC 7208, section 4: check_host gives each address this verdict for the domain
abbrev pub Has : Limits → List Zone → Domain → (Address → Verdict) → Type 0
Has limits zones domain verdict_of = AllHave (says zones) limits domain.text verdict_of

-- and so for each domain
abbrev pub AllGive : Limits → List Zone → List Domain → List (Address → Verdict) → Type 0
AllGive limits zones domains given = AllZip (Has limits zones) domains given

-- the first domain for which check_host gives some address no verdict, with the least such address and its outcome: it
-- gives each address one for the domains before it
abbrev pub IsFirstRefused : Limits → List Zone → List Domain → Address → Outcome → Type 0
IsFirstRefused limits zones [] address outcome = ⊥
IsFirstRefused limits zones (domain ∷ domains) address outcome =
    IsLeastRefused (says zones) limits domain.text address outcome
    ⊎ (((verdict_of : Address → Verdict) × Has limits zones domain verdict_of)
    × IsFirstRefused limits zones domains address outcome)

-- the strongest of the verdicts that the domains give an address, or the weakest
abbrev pub joint : (weak : Bool) → List (Address → Verdict) → Address → Verdict
joint weak given address = joined weak (map (λ verdict_of. verdict_of address) given)

-- these are the strongest verdicts of all addresses, or the weakest
abbrev pub IsJoint : (weak : Bool) → List (Address → Verdict) → (v4 v6 : ℕ → Verdict) → Type 0
IsJoint weak given v4 v6 = (address : Address) → IsAddress address → verdict_at v4 v6 address ≡ joint weak given address

-- they do not depend on the order of the domains
abbrev pub InAnyOrder : Type 0
InAnyOrder = (limits : Limits) (zones : List Zone) (weak : Bool) (domains others : List Domain)
    (given given' : List (Address → Verdict)) → HaveSame domains others
    → AllGive limits zones domains given → AllGive limits zones others given'
    → (address : Address) → IsAddress address → joint weak given address ≡ joint weak given' address

-- the verdicts of the tries are those of check_host, for each domain
abbrev pub KeepAll : Limits → List Zone → List Domain → List VerdictTries → Type 0
KeepAll limits zones domains all =
    AllZip (λ (d : Domain) (tries : VerdictTries). KeepVerdicts limits zones d.text tries.v4 tries.v6) domains all

-- each fault with its cause; want of memory may come anywhere
abbrev pub IsFirstFault : Limits → List Zone → List Domain → VerdictFault → Type 0
IsFirstFault limits zones domains (Refused address outcome) = IsFirstRefused limits zones domains address outcome
IsFirstFault limits zones domains Memory = Unit {0}
