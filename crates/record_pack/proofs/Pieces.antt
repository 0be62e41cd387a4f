-- Octets of pieces, and records that fit.
use Rattle.std.proofs.Common.{◌≡◌, ◌↔◌, IsTrue, nat_eq, inl, inr, ℕ, ◌+◌, ◌-◌, ◌<◌, ◌≤◌, Bool, List, [], ◌∷◌, ◌++◌, length, take, drop, sym, ap, ◌∙◌, subst, arith, length-append}
use Rattle.std.proofs.lemmas.List.{take-append-drop, take-take, drop-take, drop-drop, take_all}
use Rattle.std.proofs.lemmas.Bool.{cases_lt}
use Rattle.std.specs.Cmp.{unsigned_Decides}
use Rattle.std.proofs.lemmas.Grind.{flat_map-append}
use Rattle.spf_grammar.specs.declared.flat.FlatTerm.{FlatTerm}
use Rattle.spf_grammar.specs.Written.{written_flat}
use Rattle.record_pack.specs.Records.{spaced, record_size, piece, Fits}

-- the octets of terms, each with a space before it
abbrev pub octets : List FlatTerm → ℕ
octets terms = length (spaced terms)

octets-append : (xs ys : List FlatTerm) → octets (xs ++ ys) ≡ octets xs + octets ys
octets-append xs ys = ap (λ (t : List ℕ). length t) (flat_map-append (λ term. 32 ∷ written_flat term) xs ys) ∙ length-append (spaced xs) (spaced ys)

octets-parts : (n : ℕ) (xs : List FlatTerm) → octets xs ≡ octets (take n xs) + octets (drop n xs)
octets-parts n xs = ap octets (sym (take-append-drop n xs)) ∙ octets-append (take n xs) (drop n xs)

pub octets-take : (m n : ℕ) (xs : List FlatTerm) → m ≤ n → octets (take m xs) ≤ octets (take n xs)
octets-take m n xs le =
    let parts : octets (take n xs) ≡ octets (take m xs) + octets (drop m (take n xs)) =
    octets-parts m (take n xs) ∙ ap (λ (ts : List FlatTerm). octets ts + octets (drop m (take n xs))) (take-take m n xs le) in
    omega (arith, parts)

-- a piece that begins later takes no more
pub piece-later : (list : List FlatTerm) (from later to : ℕ) → from ≤ later → later ≤ to → octets (piece list later to) ≤ octets (piece list from to)
piece-later list from later to begins ends =
    let n : ℕ = later - from in
    let m : ℕ = to - later in
    let whole : to - from ≡ n + m = omega (arith, begins, ends) in
    let behind : drop n (take (to - from) (drop from list)) ≡ take m (drop later list) =
    ap (λ (k : ℕ). drop n (take k (drop from list))) whole ∙ drop-take n m (drop from list) ∙ ap (λ (ts : List FlatTerm). take m ts) (drop-drop n from list)
    ∙ ap (λ (k : ℕ). take m (drop k list)) (let e : from + n ≡ later = omega (arith, begins) in e) in
    let parts : octets (piece list from to) ≡ octets (take n (piece list from to)) + octets (piece list later to) =
    octets-parts n (piece list from to) ∙ ap (λ (ts : List FlatTerm). octets (take n (piece list from to)) + octets ts) behind in
    omega (arith, parts)

-- what a record takes is what it takes without a term, and its terms
pub size-terms : (domain label : List ℕ) (others : ℕ) (terms : List FlatTerm) (k : ℕ) (last : Bool)
    → record_size domain label others terms k last ≡ record_size domain label others [] k last + octets terms
size-terms domain label others terms k last = grind (arith, length-append)

-- a record whose terms take no more than those of one that fits
pub fits-less : (domain label : List ℕ) (size others : ℕ) (terms more : List FlatTerm) (k : ℕ) (last : Bool) → octets terms ≤ octets more
    → Fits domain label size others more k last → Fits domain label size others terms k last
fits-less domain label size others terms more k last le fit =
    let a : record_size domain label others terms k last ≡ record_size domain label others [] k last + octets terms = size-terms domain label others terms k last in
    let b : record_size domain label others more k last ≡ record_size domain label others [] k last + octets more = size-terms domain label others more k last in
    chain _ _ _ _ _ _ a b le fit
  where
    chain : (x y base n m s : ℕ) → x ≡ base + n → y ≡ base + m → n ≤ m → y < s → x < s
    chain x y base n m s e f le lt = omega (arith, e, f, le, lt)

-- terms that take no more than the room behind a record with no term
pub fits-within : (domain label : List ℕ) (size others : ℕ) (terms : List FlatTerm) (k : ℕ) (last : Bool) (room : ℕ) → record_size domain label others [] k last + 1 + room ≡ size
    → octets terms ≤ room → Fits domain label size others terms k last
fits-within domain label size others terms k last room is le =
    let a : record_size domain label others terms k last ≡ record_size domain label others [] k last + octets terms = size-terms domain label others terms k last in
    chain _ _ _ _ _ a is le
  where
    chain : (x base n r s : ℕ) → x ≡ base + n → base + 1 + r ≡ s → n ≤ r → x < s
    chain x base n r s e is le = omega (arith, e, is, le)

pub within-fits : (domain label : List ℕ) (size others : ℕ) (terms : List FlatTerm) (k : ℕ) (last : Bool) (room : ℕ) → record_size domain label others [] k last + 1 + room ≡ size
    → Fits domain label size others terms k last → octets terms ≤ room
within-fits domain label size others terms k last room is fit =
    let a : record_size domain label others terms k last ≡ record_size domain label others [] k last + octets terms = size-terms domain label others terms k last in
    chain _ _ _ _ _ a is fit
  where
    chain : (x base n r s : ℕ) → x ≡ base + n → base + 1 + r ≡ s → x < s → n ≤ r
    chain x base n r s e is lt = omega (arith, e, is, lt)

-- terms fit exactly where as many as fit in the room are all of them
pub fits-test : (domain label : List ℕ) (size others : ℕ) (terms : List FlatTerm) (k : ℕ) (last : Bool) (n room : ℕ) → record_size domain label others [] k last + 1 + room ≡ size
    → n ≤ length terms → octets (take n terms) ≤ room → (n < length terms → room < octets (take (n + 1) terms))
    → IsTrue (nat_eq n (length terms)) ↔ Fits domain label size others terms k last
fits-test domain label size others terms k last n room is within enough most =
    elim (cases_lt n (length terms)) [
      | inl less ↦ (λ t. absurd (not_same n (length terms) less t), λ fit. absurd (too_much _ _ _ (most less) (octets-take (n + 1) (length terms) terms (omega (arith, less))) (whole fit)))
      | inr all ↦ (λ _. fits-within domain label size others terms k last room is (subst (λ (ts : List FlatTerm). octets ts ≤ room) (take_all n terms all) enough), λ _. same n (length terms) (omega (arith, within, all)))
    ]
  where
    whole : Fits domain label size others terms k last → octets (take (length terms) terms) ≤ room
    whole fit = subst (λ (ts : List FlatTerm). octets ts ≤ room) (sym (take_all (length terms) terms (omega arith))) (within-fits domain label size others terms k last room is fit)

    too_much : (a b r : ℕ) → r < a → a ≤ b → b ≤ r → ⊥
    too_much a b r x y z = omega (arith, x, y, z)

    not_same : (a b : ℕ) → a < b → IsTrue (nat_eq a b) → ⊥
    not_same a b lt t = let e : a ≡ b = (unsigned_Decides a b).0 t in omega (arith, e, lt)

    same : (a b : ℕ) → a ≡ b → IsTrue (nat_eq a b)
    same a b e = (unsigned_Decides a b).1 e
