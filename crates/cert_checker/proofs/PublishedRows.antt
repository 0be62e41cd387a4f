-- The rows of needs have the prefixes of their family, and small numbers, where the list stands in records that fit.
use Rattle.std.proofs.Common.{◌≡◌, ℕ, zero, suc, ◌+◌, ◌*◌, ◌<◌, ◌≤◌, ◌^◌, Bool, true, false, ◌⊎◌, inl, inr, List, [], ◌∷◌, ◌++◌, length, refl, subst, arith, le_refl, length-append}
use Rattle.std.specs.Prelude.{codes}
use Rattle.std.specs.List.{Contains}
use Rattle.std.proofs.lemmas.Bool.{cases_Bool, cases_lt}
use Rattle.std.proofs.lemmas.List.Elements.{Contains-append_cases}
use Rattle.addr_bits.specs.Blocks.{lowest, prefix_of}
use Rattle.addr_bits.specs.Prefix.{IsCidr}
use Rattle.spf_grammar.specs.Written.{written_flat}
use Rattle.spf_grammar.specs.declared.flat.FlatTerm.{FlatTerm}
use Rattle.spf_grammar.specs.declared.verdict.Verdict.{Verdict}
use Rattle.spf_grammar.specs.declared.verdict.Verdict.TheVariants.{Fail, SoftFail, Pass, Neutral}
use Rattle.spf_model.specs.Chains.{all_terms}
use Rattle.fewest_terms.specs.Chosen.{best, chosen_list}
use Rattle.fewest_terms.specs.Needs.{is_mixed, need, need_of_halves}
use Rattle.fewest_terms.specs.Row.{NeedRow}
use Rattle.fewest_terms.specs.Tables.{need_rows, needs_of, number}
use Rattle.fewest_terms.specs.Totals.{need_of_both, total, verdict_of_all}
use Rattle.fewest_terms.proofs.AnswerLemmas.{list-counted}
use Rattle.fewest_terms.proofs.Mixed.{need-mixed, need-plain, one-plain}
use Rattle.fewest_terms.proofs.TableLemmas.{need_rows-mixed, need_rows-plain}
use Rattle.fewest_terms.proofs.TrieLeaves.{lowest-both, lowest-next, prefix_of-IsCidr}
use Rattle.fewest_terms.proofs.VerdictLemmas.{best-least, cost-le, least-le, verdict_of_all-least}
use Rattle.bound_table.specs.Parts.{AreSmall}
use Rattle.record_pack.specs.Records.{Fits, IsFittingCut, RecordsFit, piece, pieces_from, record_name, redirect_text, spaced, terms_text}
use Rattle.published_records.proofs.Publishing.{pieces_terms}

-- ---- what each row has

pub one_of : {X : Type 0} (x : X) (xs : List X) (y : X) → Contains (x ∷ xs) y → (x ≡ y) ⊎ Contains xs y
one_of x xs y (zero, within, e) = inl e
one_of x xs y (suc k, within, e) = inr (k, omega (arith, within), e)

no_row : (row : NeedRow) → Contains [] row → ⊥
no_row row (k, within, e) = omega (arith, within)

-- what a row has, and the rows of both halves
abbrev EachHas : (P : NeedRow → Type 0) → List NeedRow → Type 0
EachHas P rows = (row : NeedRow) → Contains rows row → P row

each_of : (P : NeedRow → Type 0) (first : NeedRow) (low high : List NeedRow) → P first → EachHas P low → EachHas P high → EachHas P (first ∷ (low ++ high))
each_of P first low high own of_low of_high row c = elim (one_of first (low ++ high) row c) [
  | inl e ↦ subst P e own
  | inr more ↦ elim (Contains-append_cases low high row more) [
    | inl l ↦ of_low row l
    | inr h ↦ of_high row h
  ]
]

-- what the rows of a mixed prefix have, where its own row and those of its halves have it
each_row : (P : NeedRow → Type 0) (w : ℕ) (v : ℕ → Verdict) (k n : ℕ)
    → (is_mixed v (suc k) n ≡ true → P (record { prefix = prefix_of w (suc k) n; needs = needs_of v (suc k) n }))
    → (is_mixed v (suc k) n ≡ true → EachHas P (need_rows w v k (2 * n))) → (is_mixed v (suc k) n ≡ true → EachHas P (need_rows w v k (2 * n + 1))) → EachHas P (need_rows w v (suc k) n)
each_row P w v k n own low high row c = elim (cases_Bool (is_mixed v (suc k) n)) [
  | inr m ↦ absurd (no_row row (subst (λ rows. Contains rows row) (need_rows-plain w v (suc k) n m) c))
  | inl m ↦ each_of P (record { prefix = prefix_of w (suc k) n; needs = needs_of v (suc k) n }) (need_rows w v k (2 * n)) (need_rows w v k (2 * n + 1)) (own m) (low m) (high m)
      row (subst (λ rows. Contains rows row) (need_rows-mixed w v k n m) c)
]

no_rows : (P : NeedRow → Type 0) (w : ℕ) (v : ℕ → Verdict) (n : ℕ) → EachHas P (need_rows w v zero n)
no_rows P w v n row c = absurd (no_row row (subst (λ rows. Contains rows row) (need_rows-plain w v zero n (one-plain v n)) c))

-- ---- their prefixes

prefixes_from : (w : ℕ) (v : ℕ → Verdict) (k n : ℕ) → k ≤ w → lowest k (n + 1) ≤ 2 ^ w → EachHas (λ row. IsCidr w row.prefix) (need_rows w v k n)
prefixes_from w v zero n h l = no_rows (λ row. IsCidr w row.prefix) w v n
prefixes_from w v (suc k) n h l =
    each_row (λ row. IsCidr w row.prefix) w v k n (λ m. prefix_of-IsCidr w (suc k) n h l)
    (λ m. prefixes_from w v k (2 * n) (omega (arith, h)) (omega (arith, l, lowest-both k n, lowest-next k (2 * n + 1))))
    (λ m. prefixes_from w v k (2 * n + 1) (omega (arith, h)) (omega (arith, l, lowest-both k n)))

whole : (w : ℕ) → lowest w (0 + 1) ≡ 2 ^ w
whole w = grind arith

pub rows_prefix : (w : ℕ) (v : ℕ → Verdict) → EachHas (λ row. IsCidr w row.prefix) (need_rows w v w 0)
rows_prefix w v = prefixes_from w v w 0 (le_refl w) (omega (arith, whole w))

-- ---- their numbers

-- the needs of a prefix under two verdicts differ by one at most
near : (v : ℕ → Verdict) (k n : ℕ) (c d : Verdict) → need v k n c ≤ 1 + need v k n d
near v zero n c d = omega (arith, need-plain v zero n c (one-plain v n), cost-le (v (lowest zero n)) c)
near v (suc k) n c d = elim (cases_Bool (is_mixed v (suc k) n)) [
  | inl m ↦ omega (arith, need-mixed v k n c m, need-mixed v k n d m, least-le (need_of_halves v k n) d)
  | inr m ↦ omega (arith, need-plain v (suc k) n c m, cost-le (v (lowest (suc k) n)) c)
]

-- one of the four needs of a prefix is at most so large
abbrev NeedsAtMost : (v : ℕ → Verdict) → (k n most : ℕ) → Type 0
NeedsAtMost v k n most = (c : Verdict) × (need v k n c ≤ most)

both_halves : (v : ℕ → Verdict) (k n most : ℕ) → is_mixed v (suc k) n ≡ true → NeedsAtMost v (suc k) n most → (c : Verdict) × (need_of_halves v k n c ≤ most)
both_halves v k n most m (c, h) = elim (cases_lt most (need_of_halves v k n c)) [
  | inl more ↦ (best (need_of_halves v k n), omega (arith, need-mixed v k n c m, best-least (need_of_halves v k n), h, more))
  | inr less ↦ (c, less)
]

low_half : (v : ℕ → Verdict) (k n most : ℕ) → (c : Verdict) × (need_of_halves v k n c ≤ most) → NeedsAtMost v k (2 * n) most
low_half v k n most (c, h) = (c, omega (arith, h))

high_half : (v : ℕ → Verdict) (k n most : ℕ) → (c : Verdict) × (need_of_halves v k n c ≤ most) → NeedsAtMost v k (2 * n + 1) most
high_half v k n most (c, h) = (c, omega (arith, h))

own_numbers : (v : ℕ → Verdict) (k n most : ℕ) → NeedsAtMost v k n most → (c : Verdict) → number (needs_of v k n) c ≤ 1 + most
own_numbers v k n most (d, h) Fail = omega (arith, h, near v k n Fail d)
own_numbers v k n most (d, h) SoftFail = omega (arith, h, near v k n SoftFail d)
own_numbers v k n most (d, h) Pass = omega (arith, h, near v k n Pass d)
own_numbers v k n most (d, h) Neutral = omega (arith, h, near v k n Neutral d)

numbers_from : (w : ℕ) (v : ℕ → Verdict) (k n most : ℕ) → NeedsAtMost v k n most → EachHas (λ row. (c : Verdict) → number row.needs c ≤ 1 + most) (need_rows w v k n)
numbers_from w v zero n most h = no_rows (λ row. (c : Verdict) → number row.needs c ≤ 1 + most) w v n
numbers_from w v (suc k) n most h =
    each_row (λ row. (c : Verdict) → number row.needs c ≤ 1 + most) w v k n (λ m. own_numbers v (suc k) n most h)
    (λ m. numbers_from w v k (2 * n) most (low_half v k n most (both_halves v k n most m h)))
    (λ m. numbers_from w v k (2 * n + 1) most (high_half v k n most (both_halves v k n most m h)))

-- both families need no more than the total
abbrev BothAtMost : (v4 v6 : ℕ → Verdict) → (most : ℕ) → Type 0
BothAtMost v4 v6 most = NeedsAtMost v4 32 0 most × NeedsAtMost v6 128 0 most

both_within : (v4 v6 : ℕ → Verdict) → BothAtMost v4 v6 (total v4 v6)
unfolding total need_of_both
both_within v4 v6 = elim (verdict_of_all-least (need_of_both v4 v6)) [
  | inl e ↦ ((Neutral, omega (arith, e.1)), (Neutral, omega (arith, e.1)))
  | inr e ↦ ((verdict_of_all (need_of_both v4 v6), omega (arith, e.1)), (verdict_of_all (need_of_both v4 v6), omega (arith, e.1)))
]

-- ---- a list in records that fit is short

terms_short : (terms : List FlatTerm) → length terms ≤ length (spaced terms)
terms_short [] = omega arith
terms_short (term ∷ terms) = omega (arith, length-append (32 ∷ written_flat term) (spaced terms), terms_short terms)

module _ (domain label : List ℕ) (size others : ℕ) (small : size ≤ 4096) where
  piece_short : (terms : List FlatTerm) (k : ℕ) (last : Bool) → Fits domain label size others terms k last → length terms ≤ 4096
  piece_short terms k last fits =
      omega (arith, small, fits, terms_short terms, length-append (terms_text terms) (redirect_text last (record_name domain label (k + 1))), length-append (codes "v=spf1") (spaced terms))

  pieces_short : (list : List FlatTerm) (k from : ℕ) (ends : List ℕ) → RecordsFit domain label size others list k from ends → length (all_terms (pieces_from list from ends)) ≤ length ends * 4096
  pieces_short list k from [] fit = omega arith
  pieces_short list k from (to ∷ []) fit = omega (arith, length-append (piece list from to) [], piece_short (piece list from to) k true fit)
  pieces_short list k from (to ∷ next ∷ ends) fit =
      omega (arith, length-append (piece list from to) (all_terms (pieces_from list to (next ∷ ends))), piece_short (piece list from to) k false fit.0, pieces_short list (k + 1) to (next ∷ ends) fit.1)

  list_short : (list : List FlatTerm) (ends : List ℕ) → IsFittingCut domain label size others list ends → length list ≤ 45056
  list_short list ends cut =
      subst (λ (l : List FlatTerm). length l ≤ 45056) (pieces_terms list 0 ends cut.cut.rise) (omega (arith, pieces_short list 0 0 ends cut.fit, cut.cut.few))

-- ---- so all numbers of its table are small

-- no number of the rows is above 4,294,967,295
abbrev pub AreSmallRows : List NeedRow → Type 0
AreSmallRows rows = (row : NeedRow) → Contains rows row → AreSmall row.needs

pub record AreAllSmall (v4 v6 : ℕ → Verdict) : Type 0 where
  pub four : AreSmallRows (need_rows 32 v4 32 0)
  pub six : AreSmallRows (need_rows 128 v6 128 0)
  pub whole : total v4 v6 < 2 ^ 32

pub all_small : (v4 v6 : ℕ → Verdict) (domain label : List ℕ) (size others : ℕ) (ends : List ℕ) → size ≤ 4096 → IsFittingCut domain label size others (chosen_list v4 v6) ends → AreAllSmall v4 v6
all_small v4 v6 domain label size others ends small cut =
    let few : total v4 v6 ≤ 45056 =
    omega (arith, list-counted v4 v6 (chosen_list v4 v6) (total v4 v6) refl refl, list_short domain label size others small (chosen_list v4 v6) ends cut) in
    let both = both_within v4 v6 in
    record {
      four = λ row c d. omega (arith, few, numbers_from 32 v4 32 0 (total v4 v6) both.0 row c d);
      six = λ row c d. omega (arith, few, numbers_from 128 v6 128 0 (total v4 v6) both.1 row c d);
      whole = omega (arith, few);
    }
