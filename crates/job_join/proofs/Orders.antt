-- The one policy does not depend on the order of the domains.
use Rattle.std.proofs.Common.{◌≡◌, inl, inr, Bool, List, [], ◌∷◌, map, Contains, refl, sym, subst}
use Rattle.addr_bits.specs.Address.{IsAddress}
use Rattle.addr_bits.specs.declared.address.Address.{Address}
use Rattle.zone_answers.specs.Zone.{Zone}
use Rattle.spf_grammar.specs.declared.verdict.Verdict.{Verdict}
use Rattle.spf_model.specs.Run.{says}
use Rattle.spf_model.specs.declared.outcome.Limits.{Limits}
use Rattle.policy_verdicts.proofs.OneAnswer.{one_verdict}
use Rattle.policy_join.specs.Laws.{HaveSame}
use Rattle.policy_join.proofs.Strengths as strengths
use Rattle.policy_join.proofs.Strengths.{in_cons, at_front, behind, in_none}
use Rattle.spfc_words.specs.declared.domain.Domain.{Domain}
use Rattle.job_join.specs.Verdicts.{AllGive, Has, InAnyOrder}

-- the verdicts of an address
abbrev at_address : Address → List (Address → Verdict) → List Verdict
at_address a given = map (λ verdict_of. verdict_of a) given

-- a verdict of an address is that of a domain
record IsOf (limits : Limits) (zones : List Zone) (domains : List Domain) (a : Address) (v : Verdict) : Type 0 where
  domain : Domain
  member : Contains domains domain
  verdict_of : Address → Verdict
  has : Has limits zones domain verdict_of
  here : verdict_of a ≡ v

of_domain : (limits : Limits) (zones : List Zone) (domains : List Domain) (given : List (Address → Verdict)) (a : Address) (v : Verdict) → AllGive limits zones domains given
    → Contains (at_address a given) v → IsOf limits zones domains a v
of_domain limits zones [] [] a v all has = absurd (in_none v has)
of_domain limits zones [] (w ∷ given) a v all has = absurd all
of_domain limits zones (d ∷ domains) [] a v all has = absurd all
of_domain limits zones (d ∷ domains) (w ∷ given) a v all has = elim (in_cons (w a) v (at_address a given) has) [
  | inl e ↦ record { domain = d; member = at_front d domains; verdict_of = w; has = all.0; here = e }
  | inr h ↦
      let rest = of_domain limits zones domains given a v all.1 h in
      record { domain = rest.domain; member = behind d rest.domain domains rest.member; verdict_of = rest.verdict_of; has = rest.has; here = rest.here }
]

-- and that of a domain is one of the address
at_domain : (limits : Limits) (zones : List Zone) (domains : List Domain) (given : List (Address → Verdict)) (a : Address) (domain : Domain) (verdict_of : Address → Verdict) → IsAddress a
    → AllGive limits zones domains given → Contains domains domain → Has limits zones domain verdict_of → Contains (at_address a given) (verdict_of a)
at_domain limits zones [] given a domain verdict_of one all member has = absurd (in_none domain member)
at_domain limits zones (d ∷ domains) [] a domain verdict_of one all member has = absurd all
at_domain limits zones (d ∷ domains) (w ∷ given) a domain verdict_of one all member has = elim (in_cons d domain domains member) [
  | inl e ↦
      let own : Has limits zones d verdict_of = subst (λ (f : Domain). Has limits zones f verdict_of) (sym e) has in
      subst (λ (v : Verdict). Contains (w a ∷ at_address a given) v) (one_verdict (says zones) limits d.text w verdict_of all.0 own a one)
      (at_front (w a) (at_address a given))
  | inr h ↦ behind (w a) (verdict_of a) (at_address a given) (at_domain limits zones domains given a domain verdict_of one all.1 h has)
]

moved : (limits : Limits) (zones : List Zone) (domains others : List Domain) (given given' : List (Address → Verdict)) (a : Address) (v : Verdict) → IsAddress a
    → ((d : Domain) → Contains domains d → Contains others d) → AllGive limits zones domains given → AllGive limits zones others given'
    → Contains (at_address a given) v → Contains (at_address a given') v
moved limits zones domains others given given' a v one members all all' has =
    let of = of_domain limits zones domains given a v all has in
    subst (λ (w : Verdict). Contains (at_address a given') w) of.here
    (at_domain limits zones others given' a of.domain of.verdict_of one all' (members of.domain of.member) of.has)

pub in_any_order : InAnyOrder
in_any_order limits zones weak domains others given given' same all all' a one =
    strengths.in_any_order weak (at_address a given) (at_address a given') (λ v. (
      moved limits zones domains others given given' a v one (λ d. (same d).0) all all',
      moved limits zones others domains given' given a v one (λ d. (same d).1) all' all,
    ))
