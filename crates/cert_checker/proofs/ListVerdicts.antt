-- The verdicts of a list, as tries have them and as check_host gives them.
use Rattle.std.proofs.Common.{◌≡◌, ℕ, ◌+◌, ◌-◌, ◌<◌, ◌≤◌, ◌^◌, ◌==◌, Bool, true, false, cond, List, [], ◌∷◌, length, refl, sym, ap, ◌∙◌, subst, arith, Some, None, eqb-true, nat_lt}
use Rattle.std.proofs.lemmas.Bool.{ltb-true, ltb-false}
use mathlib.Core.Path.{fun_ext}
use Rattle.addr_bits.specs.Address.{IsAddress, address_of, bits_of}
use Rattle.addr_bits.specs.Prefix.{Cidr}
use Rattle.addr_bits.specs.Width.{cut_of}
use Rattle.addr_bits.specs.declared.address.Address.{Address}
use Rattle.addr_bits.specs.declared.address.Address.TheVariants.{V4, V6}
use Rattle.addr_bits.specs.declared.address.Family.{Family}
use Rattle.addr_bits.specs.declared.address.Family.TheVariants as family
use Rattle.addr_bits.proofs.Cidrs.{net_ends, range_from_Covers}
use Rattle.prefix_trie.specs.Leaves.{CoverInOrder, value_at}
use Rattle.zone_answers.specs.Zone.{Zone}
use Rattle.spf_grammar.specs.Families.{HavePrefixes}
use Rattle.spf_grammar.specs.Flat.{first}
use Rattle.spf_grammar.specs.Lists.{IsSame}
use Rattle.spf_grammar.specs.declared.flat.FlatTerm.{FlatTerm}
use Rattle.spf_grammar.specs.declared.verdict.Verdict.{Verdict}
use Rattle.spf_grammar.specs.declared.verdict.Verdict.TheVariants.{Neutral}
use Rattle.spf_grammar.proofs.FirstLemmas.{first-seen}
use Rattle.spf_model.specs.Result as model
use Rattle.spf_model.specs.Result.{AllHave}
use Rattle.spf_model.specs.Run.{says}
use Rattle.spf_model.specs.declared.outcome.Limits.{Limits}
use Rattle.spf_model.specs.declared.outcome.Outcome.TheVariants.{Is}
use Rattle.spf_model.proofs.OneOutcome.{one_verdict}
use Rattle.verdict_map.specs.declared.tries.VerdictTries.{VerdictTries}
use Rattle.fewest_terms.specs.Leaves.{or_neutral, verdict_at as trie_verdict}
use Rattle.fewest_terms.proofs.TableLemmas.{table-le}
use Rattle.policy_verdicts.specs.Policy.{KeepVerdicts, StandsBefore}
use Rattle.bound_table.specs.Placed.{rows_of}
use Rattle.cert_checker.specs.Likeness.{AllAlike, AreAlike, IsFirstUnlike}
use Rattle.cert_checker.specs.Reasons.{HasTable, IsLeastOther, IsSameList, verdicts_in}

-- ---- behind the last address stands nothing

behind_last : (bits from : ℕ) (leaves : List (Cidr × Verdict)) (a : ℕ) → CoverInOrder bits from (2 ^ bits) leaves → 2 ^ bits ≤ a → value_at bits leaves a ≡ None
behind_last bits from [] a cover past = refl
behind_last bits from (leaf ∷ leaves) a cover past = by (cut_of bits a leaf.0.len == leaf.0.start) refl (behind_last bits (from + 2 ^ (bits - leaf.0.len)) leaves a cover.2 past)
  where
    by : (t : Bool) → (cut_of bits a leaf.0.len == leaf.0.start) ≡ t → value_at bits leaves a ≡ None → cond t (Some leaf.1) (value_at bits leaves a) ≡ None
    by true e rest = absurd (omega (arith, range_from_Covers bits leaf.0 a (eqb-true (cut_of bits a leaf.0.len) leaf.0.start e), net_ends bits leaf.0 cover.0, past))
    by false e rest = rest

-- so a trie that has the verdicts of a list has no others
pub trie_is : (f : Family) (due : List (Cidr × Verdict)) (list : List FlatTerm) → CoverInOrder (bits_of f) 0 (2 ^ bits_of f) due → AreAlike f (bits_of f) due list
    → trie_verdict (bits_of f) due ≡ verdicts_in f list
trie_is f due list cover alike = fun_ext (λ a. by a (nat_lt a (2 ^ bits_of f)) refl)
  where
    by : (a : ℕ) (t : Bool) → nat_lt a (2 ^ bits_of f) ≡ t → or_neutral (value_at (bits_of f) due a) ≡ cond t (first list (address_of f a)) Neutral
    by a true e = ap or_neutral (alike a (ltb-true a (2 ^ bits_of f) e))
    by a false e = ap or_neutral (behind_last (bits_of f) 0 due a cover (ltb-false a (2 ^ bits_of f) e))

pub within_is : (f : Family) (list : List FlatTerm) (a : ℕ) → a < 2 ^ bits_of f → verdicts_in f list a ≡ first list (address_of f a)
within_is f list a lt = by (nat_lt a (2 ^ bits_of f)) refl
  where
    by : (t : Bool) → nat_lt a (2 ^ bits_of f) ≡ t → cond t (first list (address_of f a)) Neutral ≡ first list (address_of f a)
    by true e = refl
    by false e = absurd (omega (arith, ltb-false a (2 ^ bits_of f) e, lt))

-- ---- the verdicts of check_host

-- the value that stands there
stood : (bits : ℕ) (due : List (Cidr × Verdict)) (a : ℕ) (v : Verdict) → value_at bits due a ≡ Some v → trie_verdict bits due a ≡ v
stood bits due a v e = ap or_neutral e

pub same_list : (limits : Limits) (zones : List Zone) (domain : List ℕ) (due : VerdictTries) (list : List FlatTerm) → KeepVerdicts limits zones domain due.v4 due.v6 → AllAlike due list
    → IsSameList zones limits domain list
same_list limits zones domain due list keep alike (V4 a) lt =
    subst (λ v. model.Gives (says zones) limits domain (V4 a) (Is v)) (stood 32 due.v4 a (first list (V4 a)) (alike.four a lt)) (keep (V4 a) lt)
same_list limits zones domain due list keep alike (V6 a) lt =
    subst (λ v. model.Gives (says zones) limits domain (V6 a) (Is v)) (stood 128 due.v6 a (first list (V6 a)) (alike.six a lt)) (keep (V6 a) lt)

before_four : (limits : Limits) (zones : List Zone) (domain : List ℕ) (due : VerdictTries) (list : List FlatTerm) (a : ℕ) → KeepVerdicts limits zones domain due.v4 due.v6
    → ((b : ℕ) → b < a → value_at 32 due.v4 b ≡ Some (first list (V4 b))) → (before : Address) → IsAddress before → StandsBefore before (V4 a)
    → model.Gives (says zones) limits domain before (Is (first list before))
before_four limits zones domain due list a keep least (V4 b) lt before =
    subst (λ v. model.Gives (says zones) limits domain (V4 b) (Is v)) (stood 32 due.v4 b (first list (V4 b)) (least b before)) (keep (V4 b) lt)
before_four limits zones domain due list a keep least (V6 b) lt before = absurd before

before_six : (limits : Limits) (zones : List Zone) (domain : List ℕ) (due : VerdictTries) (list : List FlatTerm) (a : ℕ) → KeepVerdicts limits zones domain due.v4 due.v6
    → AreAlike family.V4 32 due.v4 list → ((b : ℕ) → b < a → value_at 128 due.v6 b ≡ Some (first list (V6 b))) → (before : Address) → IsAddress before → StandsBefore before (V6 a)
    → model.Gives (says zones) limits domain before (Is (first list before))
before_six limits zones domain due list a keep four least (V4 b) lt before =
    subst (λ v. model.Gives (says zones) limits domain (V4 b) (Is v)) (stood 32 due.v4 b (first list (V4 b)) (four b lt)) (keep (V4 b) lt)
before_six limits zones domain due list a keep four least (V6 b) lt before =
    subst (λ v. model.Gives (says zones) limits domain (V6 b) (Is v)) (stood 128 due.v6 b (first list (V6 b)) (least b before)) (keep (V6 b) lt)

pub least_other : (limits : Limits) (zones : List Zone) (domain : List ℕ) (due : VerdictTries) (list : List FlatTerm) (address : Address) → KeepVerdicts limits zones domain due.v4 due.v6
    → IsFirstUnlike due list address → IsLeastOther (says zones) limits domain list address
least_other limits zones domain due list (V4 a) keep unlike = record {
  verdict = unlike.verdict;
  one = unlike.within;
  given = subst (λ v. model.Gives (says zones) limits domain (V4 a) (Is v)) (stood 32 due.v4 a unlike.verdict unlike.here) (keep (V4 a) unlike.within);
  other = unlike.other;
  least = before_four limits zones domain due list a keep unlike.least;
}
least_other limits zones domain due list (V6 a) keep unlike = record {
  verdict = unlike.1.verdict;
  one = unlike.1.within;
  given = subst (λ v. model.Gives (says zones) limits domain (V6 a) (Is v)) (stood 128 due.v6 a unlike.1.verdict unlike.1.here) (keep (V6 a) unlike.1.within);
  other = unlike.1.other;
  least = before_six limits zones domain due list a keep unlike.0 unlike.1.least;
}

-- ---- no list is shorter

other_same : (zones : List Zone) (limits : Limits) (domain : List ℕ) (list other : List FlatTerm) → HavePrefixes other → IsSameList zones limits domain list → IsSameList zones limits domain other
    → IsSame (verdicts_in family.V4 list) (verdicts_in family.V6 list) other
other_same zones limits domain list other has same given = record {
  four = λ a lt. sym (first-seen family.V4 other a has) ∙ one_verdict (says zones) limits domain (V4 a) (first other (V4 a)) (first list (V4 a)) (given (V4 a) lt) (same (V4 a) lt) ∙ sym (within_is family.V4 list a lt);
  six = λ a lt. sym (first-seen family.V6 other a has) ∙ one_verdict (says zones) limits domain (V6 a) (first other (V6 a)) (first list (V6 a)) (given (V6 a) lt) (same (V6 a) lt) ∙ sym (within_is family.V6 list a lt);
}

pub no_shorter : (zones : List Zone) (limits : Limits) (domain bytes : List ℕ) (list other : List FlatTerm) (total : ℕ) → HasTable bytes list total → IsSameList zones limits domain list
    → HavePrefixes other → IsSameList zones limits domain other → total ≤ length other
no_shorter zones limits domain bytes list other total table same has given =
    table-le (verdicts_in family.V4 list) (verdicts_in family.V6 list) (rows_of table.rows4) (rows_of table.rows6) total other table.good.good (other_same zones limits domain list other has same given)
