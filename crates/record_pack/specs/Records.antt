-- The records of a redirect chain, and which fit below the size (RFC 7208, section 3.4, for the size).
use Rattle.std.specs.Prelude.{◌≡◌, ⊤, ℕ, ◌+◌, ◌-◌, ◌<◌, ◌≤◌, ◌==◌, Bool, true, false, List, [], ◌∷◌, ◌++◌, length, take}
use Rattle.std.specs.Prelude.{drop, flat_map, decimal, codes, if◌then◌else◌}
use Rattle.spf_grammar.specs.declared.flat.FlatTerm.{FlatTerm}
use Rattle.spf_grammar.specs.Written.{written_flat}

-- project's own choice: record 0 stands at the domain, and record k at the label, k, a dot and the domain
abbrev pub record_name : (domain label : List ℕ) → (k : ℕ) → List ℕ
record_name domain label k = if k == 0 then domain else label ++ decimal k ++ 46 ∷ domain

-- RFC 7208, section 4.6.1: a space before each term
abbrev pub spaced : List FlatTerm → List ℕ
spaced terms = flat_map (λ term. 32 ∷ written_flat term) terms

-- RFC 7208, section 4.5 and 4.6.1: the version section, and the terms
abbrev pub terms_text : List FlatTerm → List ℕ
terms_text terms = codes "v=spf1" ++ spaced terms

-- RFC 7208, section 6.1: each record but the last sends the reader on to the next
abbrev pub redirect_text : (last : Bool) → (next : List ℕ) → List ℕ
redirect_text true next = []
redirect_text false next = codes " redirect=" ++ next

-- the text of record k
abbrev pub record_text : (domain label : List ℕ) → List FlatTerm → (k : ℕ) → (last : Bool) → List ℕ
record_text domain label terms k last = terms_text terms ++ redirect_text last (record_name domain label (k + 1))

-- the terms from one place up to another
abbrev pub piece : List FlatTerm → (from to : ℕ) → List FlatTerm
piece list from to = take (to - from) (drop from list)

-- what a record takes of the size: its name, its text, and for record 0 the other texts at the domain
abbrev pub record_size : (domain label : List ℕ) → (others : ℕ) → List FlatTerm → (k : ℕ) → (last : Bool) → ℕ
record_size domain label others terms k last =
    length (record_name domain label k) + length (record_text domain label terms k last)
    + (if k == 0 then others else 0)

-- project's own choice, after the guideline of RFC 7208, section 3.4: a record fits where it takes less than the size
abbrev pub Fits : (domain label : List ℕ) → (size others : ℕ) → List FlatTerm → (k : ℕ) → (last : Bool) → Type 0
Fits domain label size others terms k last = record_size domain label others terms k last < size

-- the pieces between the ends, from one place on
abbrev pub pieces_from : List FlatTerm → (from : ℕ) → (ends : List ℕ) → List (List FlatTerm)
pieces_from list from [] = []
pieces_from list from (to ∷ ends) = piece list from to ∷ pieces_from list to ends

-- the ends rise, and the last is the length
abbrev pub RiseTo : (from len : ℕ) → (ends : List ℕ) → Type 0
RiseTo from len [] = from ≡ len
RiseTo from len (to ∷ ends) = (from ≤ to) × (to ≤ len) × RiseTo to len ends

-- project's own choice, since 10 lookups lead through 11 records (RFC 7208, section 4.6.4): 1 to 11 consecutive
-- pieces, empty ones allowed
pub record IsCut (len : ℕ) (ends : List ℕ) : Type 0 where
  pub some : 1 ≤ length ends
  pub few : length ends ≤ 11
  pub rise : RiseTo 0 len ends

-- the records from record k on fit, whose pieces stand between the ends, from one place on
abbrev pub RecordsFit : (domain label : List ℕ) → (size others : ℕ) → List FlatTerm → (k from : ℕ) → (ends : List ℕ)
    → Type 0
RecordsFit domain label size others list k from [] = ⊤
RecordsFit domain label size others list k from (to ∷ []) = Fits domain label size others (piece list from to) k true
RecordsFit domain label size others list k from (to ∷ next ∷ ends) =
    Fits domain label size others (piece list from to) k false
    × RecordsFit domain label size others list (k + 1) to (next ∷ ends)

-- a cut of the list whose records all fit
pub record IsFittingCut (domain label : List ℕ) (size others : ℕ) (list : List FlatTerm) (ends : List ℕ) : Type 0 where
  pub cut : IsCut (length list) ends
  pub fit : RecordsFit domain label size others list 0 0 ends

-- each record from record k on but the last takes as many terms as fit
abbrev pub TakeMost : (domain label : List ℕ) → (size others : ℕ) → List FlatTerm → (k from : ℕ) → (ends : List ℕ)
    → Type 0
TakeMost domain label size others list k from [] = ⊤
TakeMost domain label size others list k from (to ∷ []) = ⊤
TakeMost domain label size others list k from (to ∷ next ∷ ends) =
    ((more : ℕ) → to < more → more ≤ length list → ¬ Fits domain label size others (piece list from more) k false)
    × TakeMost domain label size others list (k + 1) to (next ∷ ends)

-- no cut of the list that fits has fewer records
abbrev pub HasFewest : (domain label : List ℕ) → (size others : ℕ) → List FlatTerm → (ends : List ℕ) → Type 0
HasFewest domain label size others list ends =
    (other : List ℕ) → IsFittingCut domain label size others list other → length ends ≤ length other
