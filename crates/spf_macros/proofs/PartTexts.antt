-- Parts of a text, behind references.
use Rattle.std.proofs.Common.{◌≡◌, ℕ, zero, suc, ◌-◌, ◌≤◌, ◌==◌, false, List, [], ◌∷◌, ◌++◌, length, map, reverse, take, drop, flat_map, Bor, refl, sym, ap, ◌∙◌, arith, append-nil, append_assoc, length-drop}
use mathlib.Core.List.{reverse_aux}
use Rattle.std.specs.List.{join_with_byte}
use Rattle.std.proofs.lemmas.List.{take_all, drop_all}
use Rattle.spf_macros.specs.Expansion.{kept}

abbrev pub texts_of : List (Bor (List ℕ)) → List (List ℕ)
texts_of parts = map (λ x. x.now) parts

abbrev pub behind_dots : List (Bor (List ℕ)) → List ℕ
behind_dots parts = flat_map (λ x. 46 ∷ x.now) parts

pub joined : (part : Bor (List ℕ)) (parts : List (Bor (List ℕ))) → join_with_byte 46 (texts_of (part ∷ parts)) ≡ part.now ++ behind_dots parts
joined part [] = sym (append-nil part.now)
joined part (next ∷ parts) = ap (λ (t : List ℕ). part.now ++ (46 ∷ t)) (joined next parts)

length_texts : (parts : List (Bor (List ℕ))) → length (texts_of parts) ≡ length parts
length_texts [] = refl
length_texts (part ∷ parts) = ap suc (length_texts parts)

drop_texts : (n : ℕ) (parts : List (Bor (List ℕ))) → texts_of (drop n parts) ≡ drop n (texts_of parts)
drop_texts zero parts = refl
drop_texts (suc n) [] = refl
drop_texts (suc n) (part ∷ parts) = drop_texts n parts

-- the right-hand parts
pub kept_parts : (parts : List (Bor (List ℕ))) (keep n : ℕ) → (keep == 0) ≡ false → n ≡ length parts - keep → texts_of (take (length parts - n) (drop n parts)) ≡ kept keep (texts_of parts)
kept_parts parts keep n some is =
    let all : take (length parts - n) (drop n parts) ≡ drop n parts = take_all (length parts - n) (drop n parts) (omega (arith, length-drop n parts)) in
    let len : length (texts_of parts) ≡ length parts = length_texts parts in
    rw (all, some, len) (drop_texts n parts ∙ ap (λ (k : ℕ). drop k (texts_of parts)) is)

-- where no part is left, all are joined
pub all_joined : (parts rest : List (Bor (List ℕ))) (first : Bor (List ℕ)) (old begun out : List ℕ) (i : ℕ) → parts ≡ first ∷ rest → begun ≡ old ++ first.now → length rest ≤ i
    → out ++ behind_dots (drop i rest) ≡ begun ++ behind_dots rest → out ≡ old ++ join_with_byte 46 (texts_of parts)
all_joined parts rest first old begun out i is begins done written =
    sym (append-nil out)
    ∙ ap (λ (left : List (Bor (List ℕ))). out ++ behind_dots left) (sym (drop_all i rest done))
    ∙ written
    ∙ ap (λ (t : List ℕ). t ++ behind_dots rest) begins
    ∙ append_assoc old first.now (behind_dots rest)
    ∙ ap (λ (t : List ℕ). old ++ t) (sym (joined first rest) ∙ ap (λ (ps : List (Bor (List ℕ))). join_with_byte 46 (texts_of ps)) (sym is))

reversed_onto : (parts done : List (Bor (List ℕ))) → texts_of (reverse_aux parts done) ≡ reverse_aux (texts_of parts) (texts_of done)
reversed_onto [] done = refl
reversed_onto (part ∷ parts) done = reversed_onto parts (part ∷ done)

pub reversed_texts : (parts : List (Bor (List ℕ))) → texts_of (reverse parts) ≡ reverse (texts_of parts)
reversed_texts parts = reversed_onto parts []
