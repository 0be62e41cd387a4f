-- Lines, one for each number.
use Rattle.std.proofs.Common.{ℕ, ◌≡◌, ◌+◌, ◌≤◌, List, [], ◌∷◌, ◌++◌, flat_map, decimal, sym, ap, ◌∙◌, append_assoc, append-nil, arith}
use Rattle.std.specs.Prelude.{codes}
use Rattle.std.specs.List.{range_with_len}
use Rattle.std.proofs.lemmas.Grind.{flat_map-append}
use Rattle.std.proofs.lemmas.List.{map-id}
use Rattle.std.proofs.lemmas.List.FromFn.{map-range_with_len_more}
use Rattle.spf_gen.specs.Generated.{behind_owner, include_text, includes_text, record_line, zone_text}

-- one number more
pub numbers_more : (n : ℕ) → range_with_len 0 (n + 1) ≡ range_with_len 0 n ++ n ∷ []
numbers_more n =
    sym (map-id (range_with_len 0 (n + 1)))
    ∙ (map-range_with_len_more (λ (x : ℕ). x) 0 n n (omega arith) ∙ ap (λ (xs : List ℕ). xs ++ n ∷ []) (map-id (range_with_len 0 n)))

-- and its line, behind all that stands before
pub line_more : (line : ℕ → List ℕ) (head text : List ℕ) (n : ℕ) → text ≡ head ++ flat_map line (range_with_len 0 n)
    → text ++ line n ≡ head ++ flat_map line (range_with_len 0 (n + 1))
line_more line head text n is =
    ap (λ (t : List ℕ). t ++ line n) is
    ∙ (append_assoc head (flat_map line (range_with_len 0 n)) (line n)
    ∙ ap (λ (t : List ℕ). head ++ t)
    (ap (λ (t : List ℕ). flat_map line (range_with_len 0 n) ++ t) (sym (append-nil (line n)))
    ∙ (sym (flat_map-append line (range_with_len 0 n) (n ∷ [])) ∙ ap (λ (ns : List ℕ). flat_map line ns) (sym (numbers_more n)))))

-- ---- the record at the top
-- three parts, one behind another
three_parts : (a b c d x y z : List ℕ) → x ≡ a ++ b → y ≡ x ++ c → z ≡ y ++ d → z ≡ a ++ ((b ++ c) ++ d)
three_parts a b c d x y z first second third =
    third ∙ (ap (λ (t : List ℕ). t ++ d) (second ∙ ap (λ (t : List ℕ). t ++ c) first) ∙ simp append_assoc)

pub include_written : (text one two new number : List ℕ) (k : ℕ) → number ≡ decimal k → one ≡ text ++ codes " include:n" → two ≡ one ++ number
    → new ≡ two ++ codes ".trial.example" → new ≡ text ++ include_text k
unfolding include_text
include_written text one two new number k is first second third =
    three_parts text (codes " include:n") (decimal k) (codes ".trial.example") one two new first (second ∙ ap (λ (t : List ℕ). one ++ t) is) third

pub all_included : (text : List ℕ) (k : ℕ) → 8 ≤ k → k ≤ 8 → text ≡ codes "v=spf1" ++ flat_map include_text (range_with_len 0 k)
    → text ++ codes " ~all" ≡ includes_text
unfolding includes_text
all_included text k least most is =
    let all : k ≡ 8 = omega arith in
    ap (λ (t : List ℕ). t ++ codes " ~all") (is ∙ ap (λ (n : ℕ). codes "v=spf1" ++ flat_map include_text (range_with_len 0 n)) all)

-- ---- the zone
abbrev pub head_line : List ℕ
head_line = codes "@" ++ behind_owner includes_text

pub all_written : (start networks : ℕ) (zone : List ℕ) (k : ℕ) → 8 ≤ k → k ≤ 8
    → zone ≡ head_line ++ flat_map (record_line start networks) (range_with_len 0 k) → zone ≡ zone_text start networks
unfolding zone_text
all_written start networks zone k least most is =
    let all : k ≡ 8 = omega arith in
    is ∙ ap (λ (n : ℕ). head_line ++ flat_map (record_line start networks) (range_with_len 0 n)) all
