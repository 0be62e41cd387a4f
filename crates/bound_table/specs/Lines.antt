-- The lines of a table, which are the project's own format.
use Rattle.std.specs.Prelude.{ℕ, List, [], ◌∷◌, ◌++◌, codes, decimal, flat_map}
use Rattle.addr_bits.specs.Address.{text_in}
use Rattle.addr_bits.specs.declared.address.Family.{Family}
use Rattle.addr_bits.specs.declared.address.Family.TheVariants.{V4, V6}
use Rattle.fewest_terms.specs.declared.needs.Needs.{Needs}
use Rattle.fewest_terms.specs.Row.{NeedRow}

-- a space before each number: fail, softfail, pass and neutral
abbrev pub needs_text : Needs → List ℕ
needs_text needs =
    32 ∷ decimal needs.fail ++ 32 ∷ decimal needs.softfail ++ 32 ∷ decimal needs.pass ++ 32 ∷ decimal needs.neutral

-- a prefix in written form, always with its length, and what it needs
abbrev pub row_line : (address : List ℕ) → (len : ℕ) → Needs → List ℕ
row_line address len needs = codes "; row " ++ address ++ 47 ∷ decimal len ++ needs_text needs ++ 10 ∷ []

-- the line of each row, in their order
abbrev pub row_lines : Family → List NeedRow → List ℕ
row_lines f rows = flat_map (λ row. row_line (text_in f row.prefix.start) row.prefix.len row.needs) rows

-- the rows of IPv4, those of IPv6, and the total
abbrev pub table_text : (rows4 rows6 : List NeedRow) → (total : ℕ) → List ℕ
table_text rows4 rows6 total = row_lines V4 rows4 ++ row_lines V6 rows6 ++ codes "; fewest " ++ decimal total ++ 10 ∷ []
