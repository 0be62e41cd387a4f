-- The chosen list, which is a shortest one: the project's own choice among the shortest.
use Rattle.std.specs.Prelude.{ℕ, zero, suc, ◌≡◌, ◌+◌, ◌*◌, ◌==◌, nat_le, if◌then◌else◌, List, [], ◌∷◌, ◌++◌, map}
use Rattle.std.specs.Prelude.{length}
use Rattle.spf_grammar.specs.declared.verdict.Verdict.{Verdict}
use Rattle.spf_grammar.specs.declared.verdict.Verdict.TheVariants.{Fail, SoftFail, Pass, Neutral}
use Rattle.addr_bits.specs.declared.address.Family.{Family}
use Rattle.addr_bits.specs.declared.address.Family.TheVariants.{V4, V6}
use Rattle.spf_grammar.specs.declared.flat.Net.TheVariants.{All}
use Rattle.spf_grammar.specs.declared.flat.FlatTerm.{FlatTerm}
use Rattle.fewest_terms.specs.Verdicts.{is_same, least}
use Rattle.addr_bits.specs.Blocks.{lowest, prefix_of}
use Rattle.addr_bits.specs.Prefix.{Cidr}
use Rattle.spf_grammar.specs.Families.{net_in}
use Rattle.spf_grammar.specs.Lists.{IsSame}
use Rattle.fewest_terms.specs.Needs.{is_mixed, need_of_halves}
use Rattle.fewest_terms.specs.Totals.{need_of_both, total, verdict_of_all}

-- a term of one family is a prefix with a verdict: none where the addresses have the verdict already
abbrev pub term_for : Cidr → (verdict had : Verdict) → List (Cidr × Verdict)
term_for p d c = if is_same d c then [] else (p, d) ∷ []

-- the same for the prefix with k open bits whose first bits are n
abbrev pub one_term : (w k n : ℕ) → (verdict had : Verdict) → List (Cidr × Verdict)
one_term w k n d c = term_for (prefix_of w k n) d c

-- the first verdict of the least number
unfoldable pub best : (Verdict → ℕ) → Verdict
best s =
    if s Fail == least s then Fail
    else (if s SoftFail == least s then SoftFail
    else (if s Pass == least s then Pass else Neutral))

-- the terms of a prefix whose addresses have the verdict c otherwise
unfoldable pub chosen : (w : ℕ) → (ℕ → Verdict) → (k n : ℕ) → Verdict → List (Cidr × Verdict)
chosen w v zero n c = one_term w zero n (v n) c
chosen w v (suc k) n c =
    if is_mixed v (suc k) n
    then (if nat_le (need_of_halves v k n c) (1 + least (need_of_halves v k n))
    then chosen w v k (2 * n) c ++ chosen w v k (2 * n + 1) c
    else (let d : Verdict = best (need_of_halves v k n) in
    chosen w v k (2 * n) d ++ (chosen w v k (2 * n + 1) d ++ (prefix_of w (suc k) n, d) ∷ [])))
    else one_term w (suc k) n (v (lowest (suc k) n)) c

-- such a term as one of a list for both families
abbrev pub flat : Family → (Cidr × Verdict) → FlatTerm
flat f t = record { verdict = t.1; net = net_in f t.0 }

-- `all` with a verdict, which is left out for neutral
abbrev pub all_term : Verdict → List FlatTerm
all_term Neutral = []
all_term c = record { verdict = c; net = All } ∷ []

-- the list for both families
unfoldable pub chosen_list : (v4 v6 : ℕ → Verdict) → List FlatTerm
chosen_list v4 v6 =
    let c : Verdict = verdict_of_all (need_of_both v4 v6) in
    map (flat V4) (chosen 32 v4 32 0 c) ++ (map (flat V6) (chosen 128 v6 128 0 c) ++ all_term c)

-- the chosen list gives each address its verdict
abbrev pub ChosenIsSame : Type 0
ChosenIsSame = (v4 v6 : ℕ → Verdict) → IsSame v4 v6 (chosen_list v4 v6)

-- it has as many terms as the total says
abbrev pub ChosenIsShortest : Type 0
ChosenIsShortest = (v4 v6 : ℕ → Verdict) → length (chosen_list v4 v6) ≡ total v4 v6
