-- Mixed prefixes, and how many terms a prefix needs: definitions of the project's own, over lists whose first match
-- decides (RFC 7208, section 4.6.2). v is the verdict of each address of one family.
use Rattle.std.specs.Prelude.{ℕ, zero, suc, ◌≡◌, ◌≢◌, ◌↔◌, ◌+◌, ◌*◌, ◌≤◌, min, Bool, false, ◌||◌, not, if◌then◌else◌}
use Rattle.std.specs.Prelude.{List, IsTrue}
use Rattle.spf_grammar.specs.declared.verdict.Verdict.{Verdict}
use Rattle.fewest_terms.specs.Verdicts.{is_same, cost, least}
use Rattle.addr_bits.specs.Blocks.{LiesIn, lowest}
use Rattle.spf_grammar.specs.FirstMatch.{Rule, first_rule, inherited, spent}

-- two addresses of the prefix have different verdicts
abbrev pub Mixed : (ℕ → Verdict) → (k n : ℕ) → Type 0
Mixed v k n = (a b : ℕ) × LiesIn k n a × LiesIn k n b × (v a ≢ v b)

-- whether it is mixed: a half is, or the lowest addresses of the halves differ
unfoldable pub is_mixed : (ℕ → Verdict) → (k n : ℕ) → Bool
is_mixed v zero n = false
is_mixed v (suc k) n =
    is_mixed v k (2 * n)
    || (is_mixed v k (2 * n + 1) || not (is_same (v (lowest k (2 * n))) (v (lowest k (2 * n + 1)))))

-- the right side of the rule of `need`, where s x is what both halves take under the verdict x
abbrev pub at_mixed : (Verdict → ℕ) → Verdict → ℕ
at_mixed s c = min (s c) (1 + least s)

-- how many terms the prefix needs where its addresses have the verdict c otherwise
unfoldable pub need : (ℕ → Verdict) → (k n : ℕ) → Verdict → ℕ
need v zero n c = cost (v n) c
need v (suc k) n c =
    if is_mixed v (suc k) n
    then at_mixed (λ x. need v k (2 * n) x + need v k (2 * n + 1) x) c
    else cost (v (lowest (suc k) n)) c

-- what both halves need together
abbrev pub need_of_halves : (ℕ → Verdict) → (k n : ℕ) → Verdict → ℕ
need_of_halves v k n x = need v k (2 * n) x + need v k (2 * n + 1) x

-- Of a first-match list that gives the addresses of a prefix their verdicts, at least as many terms are the
-- prefix or lie below it, before the first term above it, as the prefix needs under that term's verdict.
abbrev pub NoListSpendsLess : Type 0
NoListSpendsLess =
    (v : ℕ → Verdict) (list : List Rule) (k n : ℕ)
    → ((a : ℕ) → LiesIn k n a → first_rule list a ≡ v a)
    → need v k n (inherited list k n) ≤ spent list k n

-- how many mixed prefixes are the prefix or lie below it
unfoldable pub mixed_count : (ℕ → Verdict) → (k n : ℕ) → ℕ
mixed_count v zero n = 0
mixed_count v (suc k) n =
    if is_mixed v (suc k) n then 1 + (mixed_count v k (2 * n) + mixed_count v k (2 * n + 1)) else 0

-- a need is at most one more than that
abbrev pub NeedIsSmall : Type 0
NeedIsSmall = (v : ℕ → Verdict) (k n : ℕ) (c : Verdict) → need v k n c ≤ 1 + mixed_count v k n

-- the test agrees with what it tests
abbrev pub MixedIsExact : Type 0
MixedIsExact = (v : ℕ → Verdict) (k n : ℕ) → IsTrue (is_mixed v k n) ↔ Mixed v k n
