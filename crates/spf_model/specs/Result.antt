-- What check_host gives, and what it asks.
use Rattle.std.specs.Prelude.{◌≡◌, ℕ, ◌<◌, ◌≤◌, ◌⊎◌, List, [], ◌∷◌, Some}
use Rattle.std.specs.declared.cmp.Ordering.TheVariants.{Less}
use Rattle.addr_bits.specs.Address.{IsAddress}
use Rattle.addr_bits.specs.declared.address.Address.{Address}
use Rattle.dns_name.specs.Printed.{name_cmp}
use Rattle.zone_answers.specs.declared.answer.Question.{Question}
use Rattle.zone_answers.specs.declared.ask_kind.AskKind.{AskKind}
use Rattle.zone_answers.specs.declared.ask_kind.AskKind.TheVariants as kind
use Rattle.spf_grammar.specs.declared.verdict.Verdict.{Verdict}
use Rattle.spf_model.specs.declared.outcome.Counts.{Counts}
use Rattle.spf_model.specs.declared.outcome.Limits.{Limits}
use Rattle.spf_model.specs.declared.outcome.Outcome.{Outcome}
use Rattle.spf_model.specs.declared.outcome.Outcome.TheVariants.{Is}
use Rattle.spf_model.specs.Run.{AnsweringEach, EndsWith, AsksFor}
use Rattle.spf_model.specs.Judging.{Labels, name_of}
use Rattle.spf_model.specs.Check.{check_host}

-- project's own choice: limits under which records are nested only so deep
pub record AreModest (limits : Limits) : Type 0 where
  pub lookups : limits.lookups ≤ 1000
  pub voids : limits.voids ≤ 1000
  pub exchanges : limits.exchanges ≤ 1000

-- RFC 7208, section 4: check_host gives an address this outcome
abbrev pub Gives : AnsweringEach → Limits → List ℕ → Address → Outcome → Type 0
Gives zones limits domain a outcome =
    (name : Labels) × (counts : Counts) × (name_of domain ≡ Some name)
    × EndsWith (zones a) (check_host limits a domain name) outcome counts

-- RFC 7208, section 4: check_host asks this question for an address
abbrev pub AskedFor : AnsweringEach → Limits → List ℕ → Address → Question → Type 0
AskedFor zones limits domain a question =
    (name : Labels) × (name_of domain ≡ Some name) × AsksFor (zones a) (check_host limits a domain name) question

-- some address of either family has the question asked
abbrev pub IsAsked : AnsweringEach → Limits → List ℕ → Question → Type 0
IsAsked zones limits domain question = (a : Address) × IsAddress a × AskedFor zones limits domain a question

-- each address has this verdict: the verdicts that a list of flat terms must keep
abbrev pub AllHave : AnsweringEach → Limits → List ℕ → (Address → Verdict) → Type 0
AllHave zones limits domain verdict_of = (a : Address) → IsAddress a → Gives zones limits domain a (Is (verdict_of a))

-- the order of kinds in the list of questions
abbrev pub kind_number : AskKind → ℕ
kind_number kind.A = 0
kind_number kind.Aaaa = 1
kind_number kind.Mx = 2
kind_number kind.Txt = 3
kind_number kind.Reverse4 = 4
kind_number kind.Reverse6 = 5

-- project's own choice: one question stands before another by the bytes of the printed names, and then by kind
abbrev pub IsBefore : Question → Question → Type 0
IsBefore p q = (name_cmp p.name q.name ≡ Less) ⊎ ((p.name ≡ q.name) × (kind_number p.kind < kind_number q.kind))

-- each question stands before the next one
abbrev pub IsInOrder : List Question → Type 0
IsInOrder [] = Unit {0}
IsInOrder (p ∷ []) = Unit {0}
IsInOrder (p ∷ q ∷ questions) = IsBefore p q × IsInOrder (q ∷ questions)
