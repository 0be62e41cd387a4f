-- The lines of refusals, which are the project's own choice.
use Rattle.std.specs.Prelude.{ℕ, List, [], ◌∷◌, ◌++◌, codes, decimal}
use Rattle.addr_bits.specs.declared.address.Address.{Address}
use Rattle.addr_bits.specs.declared.address.Address.TheVariants.{V4, V6}
use Rattle.addr_bits.specs.Ip4.{ip4_text}
use Rattle.addr_bits.specs.Ip6.{ip6_text}
use Rattle.dns_name.specs.Printed.{printed_name}
use Rattle.master_reader.specs.declared.fault.Kind.{Kind}
use Rattle.master_reader.specs.declared.fault.Kind.TheVariants as kinds
use Rattle.spf_model.specs.declared.outcome.Outcome.{Outcome}
use Rattle.spf_model.specs.Lines.{cause_text}

-- two parts and a line feed
abbrev pub line_of : List ℕ → List ℕ → List ℕ
line_of head tail = head ++ tail ++ 10 ∷ []

-- two parts with a space (32) between them
abbrev pub spaced : List ℕ → List ℕ → List ℕ
spaced front behind = front ++ 32 ∷ behind

abbrev pub usage_line : List ℕ
usage_line = line_of (codes "usage") []

abbrev pub no_file_line : List ℕ → List ℕ
no_file_line file = line_of (codes "no file ") file

abbrev pub long_file_line : List ℕ → List ℕ
long_file_line file = line_of (codes "long file ") file

-- the name of a kind of fault
abbrev pub kind_word : Kind → List ℕ
kind_word kinds.OpenQuote = codes "OpenQuote"
kind_word kinds.OpenParen = codes "OpenParen"
kind_word kinds.StrayParen = codes "StrayParen"
kind_word kinds.BadEscape = codes "BadEscape"
kind_word kinds.NoOwner = codes "NoOwner"
kind_word kinds.BadName = codes "BadName"
kind_word kinds.BadTtl = codes "BadTtl"
kind_word kinds.Class = codes "Class"
kind_word kinds.NoType = codes "NoType"
kind_word kinds.BadData = codes "BadData"
kind_word kinds.LongText = codes "LongText"
kind_word kinds.Include = codes "Include"
kind_word kinds.Dname = codes "Dname"
kind_word kinds.TypeNumber = codes "TypeNumber"
kind_word kinds.UnknownDirective = codes "UnknownDirective"

-- where the first fault of a file is, and of which kind
abbrev pub fault_text : (line : ℕ) → Kind → List ℕ
fault_text line kind = spaced (decimal line) (kind_word kind)

abbrev pub bad_zone_line : (file : List ℕ) → (line : ℕ) → Kind → List ℕ
bad_zone_line file line kind = line_of (codes "bad zone ") (spaced file (fault_text line kind))

-- the first line of a file that is not as a kept list has it
abbrev pub bad_list_line : (file : List ℕ) → (line : ℕ) → List ℕ
bad_list_line file line = line_of (codes "bad list ") (spaced file (decimal line))

abbrev pub too_many_line : (origin : List (List ℕ)) → List ℕ
too_many_line origin = line_of (codes "too many records ") (printed_name origin)

abbrev pub alias_and_other_line : (origin name : List (List ℕ)) → List ℕ
alias_and_other_line origin name = line_of (codes "alias and other ") (spaced (printed_name origin) (printed_name name))

abbrev pub too_big_line : List ℕ
too_big_line = line_of (codes "too big") []

-- RFC 1035, section 3.4.1, and RFC 4291, section 2.2: an address in its written form
abbrev pub address_text : Address → List ℕ
address_text (V4 a) = ip4_text a
address_text (V6 a) = ip6_text a

-- an address has no verdict, for this cause at this term
abbrev pub no_verdict_line : Address → Outcome → List ℕ
no_verdict_line address outcome = line_of (codes "refused ") (spaced (address_text address) (cause_text outcome))

-- RFC 1034, section 3.6.2: a CNAME record stands at the domain
abbrev pub alias_line : (domain : List ℕ) → List ℕ
alias_line domain = line_of (codes "refused alias ") domain

-- the name of record k is taken
abbrev pub taken_line : (k : ℕ) → (name : List ℕ) → List ℕ
taken_line k name = line_of (codes "refused taken ") (spaced (decimal k) name)

-- what is to be verified has no reading
abbrev pub no_zone_line : (line : ℕ) → Kind → List ℕ
no_zone_line line kind = line_of (codes "no zone ") (fault_text line kind)

abbrev pub no_chain_line : List ℕ
no_chain_line = line_of (codes "no chain") []

-- the address has another verdict
abbrev pub other_verdict_line : Address → List ℕ
other_verdict_line address = line_of (codes "no verdict ") (address_text address)

abbrev pub no_table_line : (line : ℕ) → List ℕ
no_table_line line = line_of (codes "no table ") (decimal line)

abbrev pub no_terms_line : List ℕ
no_terms_line = line_of (codes "no terms") []

abbrev pub no_records_line : List ℕ
no_records_line = line_of (codes "no records") []

abbrev pub read_fault_line : List ℕ → List ℕ
read_fault_line file = line_of (codes "read fault ") file
