-- The longest beginning of a text whose bytes pass a test.
use Rattle.std.proofs.Common.{◌≡◌, ℕ, suc, ◌+◌, Bool, true, List, [], ◌∷◌, ◌++◌, take, drop, length, ◌≤◌, refl, sym, ap, ◌∙◌, subst, one-add, take-append-drop, arith}
use Rattle.std.specs.List.{list_all, prefix_len}
use Rattle.std.proofs.lemmas.Bool.{and_from, and_parts, both_ways, cond_both}
use Rattle.spf_macros.specs.Reading.{Pauses, IsSpan}
use Rattle.spf_macros.proofs.OneReading.{Stops, heads, tails}

all_pass : (p : ℕ → Bool) (xs : List ℕ) → list_all p (take (prefix_len p xs) xs) ≡ true
all_pass p [] = refl
all_pass p (x ∷ xs) =
    cond_both (p x) (1 + prefix_len p xs) 0 (λ n. list_all p (take n (x ∷ xs)) ≡ true)
    (λ hit. rw (one-add (prefix_len p xs)) (and_from (p x) (list_all p (take (prefix_len p xs) xs)) hit (all_pass p xs))) (λ miss. refl)

rest_pauses : (p : ℕ → Bool) (xs : List ℕ) → Pauses p (drop (prefix_len p xs) xs)
rest_pauses p [] = tt
rest_pauses p (x ∷ xs) =
    cond_both (p x) (1 + prefix_len p xs) 0 (λ n. Pauses p (drop n (x ∷ xs)))
    (λ hit. rw (one-add (prefix_len p xs)) (rest_pauses p xs)) (λ miss. miss)

-- a text cut behind the longest beginning
pub span_at : (p : ℕ → Bool) (text front rest : List ℕ) (len : ℕ) → len ≡ prefix_len p text → front ≡ take len text → rest ≡ drop len text → IsSpan p text front rest
span_at p text front rest len is at behind = record {
  whole = rw (at, behind) (sym (take-append-drop len text));
  passes = rw (at, is) (all_pass p text);
  pauses = rw (behind, is) (rest_pauses p text);
}

pub prefix_within : (p : ℕ → Bool) (xs : List ℕ) → prefix_len p xs ≤ length xs
prefix_within p [] = omega arith
prefix_within p (x ∷ xs) = cond_both (p x) (1 + prefix_len p xs) 0 (λ n. n ≤ suc (length xs)) (λ hit. let below = prefix_within p xs in omega arith) (λ miss. omega arith)

-- a text has one such beginning
pub one_span : (p : ℕ → Bool) (cs bs xs ys : List ℕ) → list_all p cs ≡ true → list_all p bs ≡ true → Pauses p xs → Pauses p ys → cs ++ xs ≡ bs ++ ys → (cs ≡ bs) × (xs ≡ ys)
one_span p [] [] xs ys pa pb sx sy h = (refl, h)
one_span p [] (b ∷ bs) xs ys pa pb sx sy h =
    absurd (both_ways (p b) (subst (λ l. Pauses p l) h sx) (and_parts (p b) (list_all p bs) pb).0)
one_span p (a ∷ cs) [] xs ys pa pb sx sy h =
    absurd (both_ways (p a) (subst (λ l. Pauses p l) (sym h) sy) (and_parts (p a) (list_all p cs) pa).0)
one_span p (a ∷ cs) (b ∷ bs) xs ys pa pb sx sy h =
    let below = one_span p cs bs xs ys (and_parts (p a) (list_all p cs) pa).1 (and_parts (p b) (list_all p bs) pb).1 sx sy (tails h) in
    (ap (λ x. x ∷ cs) (heads h) ∙ ap (λ l. b ∷ l) below.0, below.1)

pub pauses_from_stops : (p : ℕ → Bool) (xs : List ℕ) → Stops p xs → Pauses p xs
pauses_from_stops p [] h = absurd h
pauses_from_stops p (x ∷ xs) h = h
