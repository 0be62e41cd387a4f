-- Tables of needs, by which anyone can see that no list is shorter: definitions of the project's own.
use Rattle.std.specs.Prelude.{ℕ, zero, suc, ◌≡◌, ◌+◌, ◌-◌, ◌*◌, ◌/◌, ◌^◌, ◌≤◌, if◌then◌else◌, List, [], ◌∷◌, ◌++◌}
use Rattle.std.specs.Prelude.{length, drop, map}
use Rattle.spf_grammar.specs.declared.verdict.Verdict.{Verdict}
use Rattle.spf_grammar.specs.declared.verdict.Verdict.TheVariants.{Fail, SoftFail, Pass, Neutral}
use Rattle.spf_grammar.specs.declared.flat.FlatTerm.{FlatTerm}
use Rattle.fewest_terms.specs.declared.needs.Needs.{Needs}
use Rattle.addr_bits.specs.Prefix.{Cidr}
use Rattle.fewest_terms.specs.Row.{NeedRow}
use Rattle.fewest_terms.specs.Verdicts.{cost}
use Rattle.addr_bits.specs.Blocks.{lowest, prefix_of}
use Rattle.spf_grammar.specs.Lists.{IsSame}
use Rattle.fewest_terms.specs.Needs.{is_mixed, need, at_mixed, mixed_count}
use Rattle.fewest_terms.specs.Totals.{need_of_both, least_with_all}

-- a row's number for a verdict
abbrev pub number : Needs → Verdict → ℕ
number r Fail = r.fail
number r SoftFail = r.softfail
number r Pass = r.pass
number r Neutral = r.neutral

-- that of the first row
abbrev pub first_number : List NeedRow → Verdict → ℕ
first_number [] c = 0
first_number (r ∷ rs) c = number r.needs c

-- the mixed prefixes at or below a prefix: itself, then those of its lower half, then those of its upper half
unfoldable pub mixed_prefixes : (w : ℕ) → (ℕ → Verdict) → (k n : ℕ) → List Cidr
mixed_prefixes w v zero n = []
mixed_prefixes w v (suc k) n =
    if is_mixed v (suc k) n
    then prefix_of w (suc k) n ∷ (mixed_prefixes w v k (2 * n) ++ mixed_prefixes w v k (2 * n + 1))
    else []

-- what rows that begin with those of a prefix claim that it needs
unfoldable pub claimed : (ℕ → Verdict) → (k n : ℕ) → List NeedRow → Verdict → ℕ
claimed v k n rows c = if is_mixed v k n then first_number rows c else cost (v (lowest k n)) c

-- what the rows after that of a prefix claim that its halves need together, where the rows of the lower half stand
-- first
unfoldable pub claimed_of_halves : (ℕ → Verdict) → (k n : ℕ) → List NeedRow → Verdict → ℕ
claimed_of_halves v k n rows c =
    claimed v k (2 * n) rows c + claimed v k (2 * n + 1) (drop (mixed_count v k (2 * n)) rows) c

-- the row rule: with the rows that follow, each number of a row is at most what the rule for `need` gives
abbrev pub KeepsRowRule : (w : ℕ) → (ℕ → Verdict) → NeedRow → List NeedRow → Type 0
KeepsRowRule w v row rows =
    let k : ℕ = w - row.prefix.len - 1 in
    let n : ℕ = row.prefix.start / 2 ^ (w - row.prefix.len) in
    (c : Verdict) → number row.needs c ≤ at_mixed (claimed_of_halves v k n rows) c

-- each row keeps it, with the rows that follow
abbrev pub KeepRowRule : (w : ℕ) → (ℕ → Verdict) → List NeedRow → Type 0
KeepRowRule w v [] = Unit {0}
KeepRowRule w v (row ∷ rows) = KeepsRowRule w v row rows × KeepRowRule w v rows

-- the rows of one family are good
pub record AreGoodRows (w : ℕ) (v : ℕ → Verdict) (rows : List NeedRow) : Type 0 where
  pub places : map (λ r. r.prefix) rows ≡ mixed_prefixes w v w 0
  pub rule : KeepRowRule w v rows

-- the total that rows of both families claim
unfoldable pub claimed_total : (v4 v6 : ℕ → Verdict) → (rows4 rows6 : List NeedRow) → ℕ
claimed_total v4 v6 rows4 rows6 = least_with_all (λ c. claimed v4 32 0 rows4 c + claimed v6 128 0 rows6 c)

-- a good table, whoever wrote it
pub record IsGoodTable (v4 v6 : ℕ → Verdict) (rows4 rows6 : List NeedRow) (sum : ℕ) : Type 0 where
  pub four : AreGoodRows 32 v4 rows4
  pub six : AreGoodRows 128 v6 rows6
  pub whole : sum ≡ claimed_total v4 v6 rows4 rows6

-- the total of a good table is at most the length of each list with the same verdicts
abbrev pub TableBounds : Type 0
TableBounds =
    (v4 v6 : ℕ → Verdict) (rows4 rows6 : List NeedRow) (sum : ℕ) (list : List FlatTerm)
    → IsGoodTable v4 v6 rows4 rows6 sum → IsSame v4 v6 list → sum ≤ length list

-- the four needs of a prefix
abbrev pub needs_of : (ℕ → Verdict) → (k n : ℕ) → Needs
needs_of v k n = record {
  fail = need v k n Fail;
  softfail = need v k n SoftFail;
  pass = need v k n Pass;
  neutral = need v k n Neutral;
}

-- the rows of needs, in the order of the mixed prefixes
unfoldable pub need_rows : (w : ℕ) → (ℕ → Verdict) → (k n : ℕ) → List NeedRow
need_rows w v zero n = []
need_rows w v (suc k) n =
    if is_mixed v (suc k) n
    then record { prefix = prefix_of w (suc k) n; needs = needs_of v (suc k) n }
    ∷ (need_rows w v k (2 * n) ++ need_rows w v k (2 * n + 1))
    else []

-- the rows of needs, with the total of the needs, are a good table
abbrev pub NeedRowsAreGood : Type 0
NeedRowsAreGood = (v4 v6 : ℕ → Verdict) → IsGoodTable v4 v6 (need_rows 32 v4 32 0) (need_rows 128 v6 128 0)
    (least_with_all (need_of_both v4 v6))
