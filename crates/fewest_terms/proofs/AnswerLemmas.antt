-- The whole answer from its parts.
use Rattle.std.proofs.Common.{ℕ, ◌≡◌, ◌+◌, ◌^◌, ◌<◌, ◌≤◌, List, [], ◌++◌, map, length, sym, ◌∙◌, ap, ap₂, subst, arith, append_assoc}
use mathlib.Core.Path.{fun_ext}
use Rattle.spf_grammar.specs.declared.verdict.Verdict.{Verdict}
use Rattle.addr_bits.specs.declared.address.Family.TheVariants.{V4, V6}
use Rattle.spf_grammar.specs.declared.flat.FlatTerm.{FlatTerm}
use Rattle.fewest_terms.specs.declared.needs.Needs.{Needs}
use Rattle.addr_bits.specs.Address.{bits_of, address_of}
use Rattle.addr_bits.specs.Prefix.{Cidr}
use Rattle.fewest_terms.specs.Row.{NeedRow}
use Rattle.spf_grammar.specs.Lists.{IsSame}
use Rattle.spf_grammar.specs.Families.{HavePrefixes}
use Rattle.spf_grammar.specs.Flat.{first}
use Rattle.spf_grammar.proofs.FirstLemmas.{first-seen}
use Rattle.fewest_terms.specs.Needs.{need}
use Rattle.fewest_terms.specs.Tables.{number, need_rows}
use Rattle.fewest_terms.specs.Totals.{need_of_both, least_with_all, total, verdict_of_all}
use Rattle.fewest_terms.specs.Chosen.{chosen, flat, all_term, chosen_list}
use Rattle.fewest_terms.specs.Leaves.{ruled_row, sum_rows}
use Rattle.fewest_terms.proofs.Whole.{total-le}
use Rattle.fewest_terms.proofs.ChosenLemmas.{chosen_list-same, length-chosen_list}
use Rattle.fewest_terms.proofs.PrefixLemmas.{HavePrefixes-chosen_list}
use Rattle.fewest_terms.proofs.WalkLemmas.{ruled-sum_rows}

pub both-is : (v4 v6 : ℕ → Verdict) (both four six : Needs) → ((c : Verdict) → number both c ≡ number four c + number six c)
    → ((c : Verdict) → number four c ≡ need v4 32 0 c) → ((c : Verdict) → number six c ≡ need v6 128 0 c) → number both ≡ need_of_both v4 v6
unfolding need_of_both
both-is v4 v6 both four six h p q = fun_ext (λ c. h c ∙ ap₂ (λ x y. x + y) (p c) (q c))

pub total-is : (v4 v6 : ℕ → Verdict) (both : Needs) (sum : ℕ) → number both ≡ need_of_both v4 v6 → sum ≡ least_with_all (number both) → sum ≡ total v4 v6
unfolding total
total-is v4 v6 both sum e h = h ∙ ap least_with_all e

pub list-is : (v4 v6 : ℕ → Verdict) (both : Needs) (d : Verdict) (four six : List (Cidr × Verdict)) (a b c list : List FlatTerm) → number both ≡ need_of_both v4 v6 → d ≡ verdict_of_all (number both)
    → four ≡ chosen 32 v4 32 0 d → six ≡ chosen 128 v6 128 0 d → a ≡ [] → b ≡ a ++ map (flat V4) four → c ≡ b ++ map (flat V6) six → list ≡ c ++ all_term d → list ≡ chosen_list v4 v6
unfolding chosen_list
list-is v4 v6 both d four six a b c list e h p q z r s t =
    let x : List FlatTerm = map (flat V4) four in
    let y : List FlatTerm = map (flat V6) six in
    t ∙ ap (λ xs. xs ++ all_term d) (s ∙ ap (λ xs. xs ++ y) (r ∙ ap (λ xs. xs ++ x) z)) ∙ append_assoc x y (all_term d)
    ∙ ap₂ (λ xs ys. map (flat V4) xs ++ (map (flat V6) ys ++ all_term d)) p q
    ∙ ap (λ o. map (flat V4) (chosen 32 v4 32 0 o) ++ (map (flat V6) (chosen 128 v6 128 0 o) ++ all_term o)) (h ∙ ap verdict_of_all e)

pub rows-are : (w : ℕ) (v : ℕ → Verdict) (sums rows : List NeedRow) → sums ≡ sum_rows w v w 0 → rows ≡ map ruled_row sums → rows ≡ need_rows w v w 0
rows-are w v sums rows e f = f ∙ ap (map ruled_row) e ∙ ruled-sum_rows w v w 0

pub list-same : (v4 v6 : ℕ → Verdict) (list : List FlatTerm) → list ≡ chosen_list v4 v6 → IsSame v4 v6 list
list-same v4 v6 list e = subst (IsSame v4 v6) (sym e) (chosen_list-same v4 v6)

pub list-shortest : (v4 v6 : ℕ → Verdict) (list other : List FlatTerm) → list ≡ chosen_list v4 v6 → IsSame v4 v6 other → length list ≤ length other
list-shortest v4 v6 list other e same = omega (arith, ap length e, length-chosen_list v4 v6, total-le v4 v6 other same)

pub list-counted : (v4 v6 : ℕ → Verdict) (list : List FlatTerm) (sum : ℕ) → list ≡ chosen_list v4 v6 → sum ≡ total v4 v6 → sum ≡ length list
list-counted v4 v6 list sum e t = t ∙ sym (length-chosen_list v4 v6) ∙ ap length (sym e)

pub list-prefixes : (v4 v6 : ℕ → Verdict) (list : List FlatTerm) → list ≡ chosen_list v4 v6 → HavePrefixes list
list-prefixes v4 v6 list e = subst HavePrefixes (sym e) (HavePrefixes-chosen_list v4 v6)

-- what each family sees decides for its addresses
pub list-gives4 : (v4 v6 : ℕ → Verdict) (list : List FlatTerm) → list ≡ chosen_list v4 v6 → (a : ℕ) → a < 2 ^ bits_of V4 → first list (address_of V4 a) ≡ v4 a
list-gives4 v4 v6 list e a h = first-seen V4 list a (list-prefixes v4 v6 list e) ∙ (list-same v4 v6 list e).four a h

pub list-gives6 : (v4 v6 : ℕ → Verdict) (list : List FlatTerm) → list ≡ chosen_list v4 v6 → (a : ℕ) → a < 2 ^ bits_of V6 → first list (address_of V6 a) ≡ v6 a
list-gives6 v4 v6 list e a h = first-seen V6 list a (list-prefixes v4 v6 list e) ∙ (list-same v4 v6 list e).six a h
