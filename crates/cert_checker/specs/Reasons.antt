-- The reasons why a fragment is not accepted, each where it is the first that holds.
use Rattle.std.specs.Prelude.{◌≢◌, ℕ, ◌^◌, nat_lt, ◌⊎◌, List, length, if◌then◌else◌}
use Rattle.addr_bits.specs.Address.{IsAddress, address_of, bits_of}
use Rattle.addr_bits.specs.declared.address.Address.{Address}
use Rattle.addr_bits.specs.declared.address.Family.{Family}
use Rattle.addr_bits.specs.declared.address.Family.TheVariants as family
use Rattle.master_reader.specs.Reading.{Faults, Reads}
use Rattle.master_reader.specs.declared.record.Record.{Record}
use Rattle.zone_answers.specs.Names.{other_text_of}
use Rattle.zone_answers.specs.Zone.{Zone}
use Rattle.spf_grammar.specs.Flat.{first}
use Rattle.spf_grammar.specs.declared.flat.FlatTerm.{FlatTerm}
use Rattle.spf_grammar.specs.declared.verdict.Verdict.{Verdict}
use Rattle.spf_grammar.specs.declared.verdict.Verdict.TheVariants.{Neutral}
use Rattle.spf_model.specs.Result as model
use Rattle.spf_model.specs.Result.{AllHave}
use Rattle.spf_model.specs.Run.{AnsweringEach, says}
use Rattle.spf_model.specs.declared.outcome.Limits.{Limits}
use Rattle.spf_model.specs.declared.outcome.Outcome.TheVariants.{Is}
use Rattle.policy_verdicts.specs.Policy.{IsLeastRefused, StandsBefore}
use Rattle.bound_table.specs.Placed.{PlacedRow}
use Rattle.bound_table.specs.Reading.{AreTable, IsMisspelled, lines_of}
use Rattle.bound_table.specs.Rounds.{IsGoodAsPlaced, IsNamed}
use Rattle.cert_checker.specs.declared.answer.No.{No}
use Rattle.cert_checker.specs.declared.answer.No.TheVariants as no
use Rattle.cert_checker.specs.Forms.{HasChainForm, IsRecordsFault, ReadChain, name_at, terms_of}

-- ---- verdicts

-- RFC 7208, section 4: check_host gives each address a verdict
abbrev pub AllDecided : List Zone → Limits → (domain : List ℕ) → Type 0
AllDecided zones limits domain = (verdict_of : Address → Verdict) × AllHave (says zones) limits domain verdict_of

-- project's own choice of the address that is named: the least one to which the list gives another verdict
pub record IsLeastOther (zones : AnsweringEach) (limits : Limits) (domain : List ℕ) (list : List FlatTerm)
    (address : Address) : Type 0 where
  pub verdict : Verdict
  pub one : IsAddress address
  pub given : model.Gives zones limits domain address (Is verdict)
  pub other : first list address ≢ verdict
  pub least : (before : Address) → IsAddress before → StandsBefore before address
      → model.Gives zones limits domain before (Is (first list before))

-- the list gives each address the verdict that it has over the zones
abbrev pub IsSameList : List Zone → Limits → (domain : List ℕ) → List FlatTerm → Type 0
IsSameList zones limits domain list = AllHave (says zones) limits domain (first list)

-- ---- the table

-- the verdict that a list gives an address of the family, by its number; behind the last address stands neutral
abbrev pub verdicts_in : Family → List FlatTerm → ℕ → Verdict
verdicts_in f list a = if nat_lt a (2 ^ bits_of f) then first list (address_of f a) else Neutral

-- project's own format: the lines of the bytes are a good table for the list's verdicts, with this total
pub record HasTable (bytes : List ℕ) (list : List FlatTerm) (total : ℕ) : Type 0 where
  pub rows4 : List PlacedRow
  pub rows6 : List PlacedRow
  pub last : ℕ
  pub spelled : AreTable (lines_of bytes) rows4 rows6 total last
  pub good : IsGoodAsPlaced (verdicts_in family.V4 list) (verdicts_in family.V6 list) rows4 rows6 total

-- the table is spelled well, and a later round names this line
pub record IsBadTable (bytes : List ℕ) (list : List FlatTerm) (line : ℕ) : Type 0 where
  pub rows4 : List PlacedRow
  pub rows6 : List PlacedRow
  pub total : ℕ
  pub last : ℕ
  pub spelled : AreTable (lines_of bytes) rows4 rows6 total last
  pub named : IsNamed (verdicts_in family.V4 list) (verdicts_in family.V6 list) rows4 rows6 total last line

-- the first of three rounds that finds a fault names this line
abbrev pub IsTableFault : (bytes : List ℕ) → List FlatTerm → (line : ℕ) → Type 0
IsTableFault bytes list line = IsMisspelled (lines_of bytes) line ⊎ IsBadTable bytes list line

-- ---- the records

-- RFC 7208, section 3.4: the other texts at the domain, over the zones, beside which the first record must fit
abbrev pub others_at : List Zone → (domain : List ℕ) → ℕ
others_at zones domain = other_text_of zones (name_at domain)

-- ---- the reasons, in their order. Each is stated with all that the earlier ones leave

-- the bytes are a chain that gives each address its verdict
pub record SameChain (zones : List Zone) (limits : Limits) (domain bytes : List ℕ) : Type 0 where
  pub chain : ReadChain domain bytes
  pub same : IsSameList zones limits domain (terms_of chain)

-- the bytes are a master file whose records have no form of a chain
abbrev pub IsNoChain : (domain bytes : List ℕ) → Type 0
IsNoChain domain bytes =
    (records : List Record) × Reads (name_at domain) bytes records
    × ((label : List ℕ) (lists : List (List FlatTerm)) → ¬ HasChainForm (name_at domain) records label lists)

-- the chain gives an address another verdict
abbrev pub IsOtherChain : List Zone → Limits → (domain bytes : List ℕ) → Address → Type 0
IsOtherChain zones limits domain bytes address =
    (chain : ReadChain domain bytes) × IsLeastOther (says zones) limits domain (terms_of chain) address

-- the table of the chain's list has a fault
abbrev pub IsFaultyTable : List Zone → Limits → (domain bytes : List ℕ) → (line : ℕ) → Type 0
IsFaultyTable zones limits domain bytes line =
    (found : SameChain zones limits domain bytes) × IsTableFault bytes (terms_of found.chain) line

-- the table is good, and shows another number of terms
abbrev pub HasOtherTotal : List Zone → Limits → (domain bytes : List ℕ) → Type 0
HasOtherTotal zones limits domain bytes =
    (found : SameChain zones limits domain bytes) × (total : ℕ) × HasTable bytes (terms_of found.chain) total
    × (length (terms_of found.chain) ≢ total)

-- the table shows that no list is shorter, and the records have a fault
abbrev pub HasOtherRecords : List Zone → Limits → (domain : List ℕ) → (size : ℕ) → (bytes : List ℕ) → Type 0
HasOtherRecords zones limits domain size bytes =
    (found : SameChain zones limits domain bytes)
    × HasTable bytes (terms_of found.chain) (length (terms_of found.chain))
    × IsRecordsFault domain found.chain.label size (others_at zones domain) found.chain.records (terms_of found.chain)

-- project's own choice of the reasons and of their order; want of memory may come anywhere
abbrev pub IsReason : List Zone → Limits → (domain : List ℕ) → (size : ℕ) → (bytes : List ℕ) → No → Type 0
IsReason zones limits domain size bytes (no.Refused address outcome) =
    IsLeastRefused (says zones) limits domain address outcome
IsReason zones limits domain size bytes (no.NotZone line kind) =
    AllDecided zones limits domain × Faults (name_at domain) bytes line kind
IsReason zones limits domain size bytes no.NotChain = AllDecided zones limits domain × IsNoChain domain bytes
IsReason zones limits domain size bytes (no.Verdict address) =
    AllDecided zones limits domain × IsOtherChain zones limits domain bytes address
IsReason zones limits domain size bytes (no.Table line) = IsFaultyTable zones limits domain bytes line
IsReason zones limits domain size bytes no.Terms = HasOtherTotal zones limits domain bytes
IsReason zones limits domain size bytes no.Records = HasOtherRecords zones limits domain size bytes
IsReason zones limits domain size bytes no.Memory = Unit {0}
