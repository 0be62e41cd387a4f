-- What holds of bytes that are accepted, whoever wrote them.
use Rattle.std.specs.Prelude.{◌≡◌, ℕ, ◌≤◌, List, [], length}
use Rattle.zone_answers.specs.Lend.{AreLendable, IsLent, with_zone}
use Rattle.zone_answers.specs.Zone.{Zone}
use Rattle.spf_grammar.specs.Families.{HavePrefixes}
use Rattle.spf_grammar.specs.Flat.{first}
use Rattle.spf_grammar.specs.declared.flat.FlatTerm.{FlatTerm}
use Rattle.spf_model.specs.Run.{says}
use Rattle.spf_model.specs.declared.outcome.Limits.{Limits}
use Rattle.record_pack.specs.Records.{IsFittingCut}
use Rattle.published_records.specs.Published.{AllHaveWithin}
use Rattle.cert_checker.specs.declared.answer.Yes.{Yes}
use Rattle.cert_checker.specs.Forms.{ReadChain, TextsFit, name_at, terms_of}
use Rattle.cert_checker.specs.Reasons.{HasTable, IsSameList, others_at}

-- RFC 7208, section 4: the bytes are read as a chain of records of the domain, in the zone of the domain. Over these
-- records alone check_host gives each address, within the limits of a mail receiver, the verdict that it has over the
-- zones under the limits of reading. No list with these verdicts has fewer terms, in any order, with any mixture of
-- families and any number of `all`, as the table shows. Each record fits, beside the other texts at the domain, and no
-- cut of the list that fits at these names has fewer records
pub record IsCertified (zones : List Zone) (limits : Limits) (domain : List ℕ) (size : ℕ) (bytes : List ℕ)
    (yes : Yes) : Type 0 where
  pub chain : ReadChain domain bytes
  pub terms : yes.terms ≡ length (terms_of chain)
  pub records : yes.records ≡ length chain.records
  pub prefixes : HavePrefixes (terms_of chain)
  pub lendable : AreLendable (name_at domain) chain.records
  pub lent : IsLent [] (name_at domain) chain.records
  pub same : IsSameList zones limits domain (terms_of chain)
  pub alone : AllHaveWithin (says (with_zone [] (name_at domain) chain.records)) domain
      (length chain.records) (first (terms_of chain))
  pub table : HasTable bytes (terms_of chain) (length (terms_of chain))
  pub shortest : (other : List FlatTerm) → HavePrefixes other → IsSameList zones limits domain other
      → length (terms_of chain) ≤ length other
  pub fit : TextsFit domain chain.label size (others_at zones domain) 0 chain.records
  pub fewest : (ends : List ℕ)
      → IsFittingCut domain chain.label size (others_at zones domain) (terms_of chain) ends
      → length chain.records ≤ length ends
