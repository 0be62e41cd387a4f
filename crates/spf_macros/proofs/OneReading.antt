-- A text spells at most one macro text: no piece's text begins another's.
use Rattle.std.proofs.Common.{◌≡◌, ◌≢◌, ℕ, suc, ◌+◌, Bool, true, false, List, [], ◌∷◌, ◌++◌, refl, sym, ◌∙◌, ap, subst, inl, inr, append_assoc, arith, eqb, if◌then◌else◌}
use Rattle.std.proofs.lemmas.Bool.{and_parts, and_from, or_cases, eqb-true, eqb-false, lt-ltb, both_ways, cond_both}
use Rattle.std.specs.Prelude.{nat_lt, ◌==◌, length}
use Rattle.std.specs.List.{list_all}
use Rattle.std.specs.Char.{digit_value}
use Rattle.std.specs.Str.Parse.{AllDigits}
use Rattle.spf_macros.specs.declared.piece.Letter.{Letter}
use Rattle.spf_macros.specs.declared.piece.Letter.TheVariants.{S, L, O, D, I, P, H, V, C, R, T}
use Rattle.spf_macros.specs.declared.piece.Macro.{Macro}
use Rattle.spf_macros.specs.declared.piece.Piece.{Piece}
use Rattle.spf_macros.specs.declared.piece.Piece.TheVariants.{Literal, Percent, Space, Percent20, Expand}
use Rattle.spf_macros.specs.Grammar.{letter_byte, is_delimiter, delimiter_set, is_literal, SpellsKeep, SpellsReverse, SpellsMacro, SpellsPiece, SpellsMacroText}
use Rattle.spf_macros.specs.Laws.{OneMacroText}

-- ---- lists

-- the head and the tail of equal lists
abbrev pub head_or : ℕ → List ℕ → ℕ
head_or d [] = d
head_or d (x ∷ xs) = x

abbrev pub tail_of : List ℕ → List ℕ
tail_of [] = []
tail_of (x ∷ xs) = xs

pub heads : {x y : ℕ} {xs ys : List ℕ} → x ∷ xs ≡ y ∷ ys → x ≡ y
heads h = ap (head_or 0) h

pub tails : {x y : ℕ} {xs ys : List ℕ} → x ∷ xs ≡ y ∷ ys → xs ≡ ys
tails h = ap tail_of h

-- the list has an element, and the first one fails the test
abbrev pub Stops : (ℕ → Bool) → List ℕ → Type 0
Stops p [] = ⊥
Stops p (x ∷ xs) = p x ≡ false

-- elements that pass, before one that doesn't, are read in one way
pub spans : (p : ℕ → Bool) (cs bs xs ys : List ℕ) → list_all p cs ≡ true → list_all p bs ≡ true → Stops p xs → Stops p ys
    → cs ++ xs ≡ bs ++ ys → (cs ≡ bs) × (xs ≡ ys)
spans p [] [] xs ys pa pb sx sy h = (refl, h)
spans p [] (b ∷ bs) xs ys pa pb sx sy h =
    absurd (both_ways (p b) (subst (λ l. Stops p l) h sx) (and_parts (p b) (list_all p bs) pb).0)
spans p (a ∷ cs) [] xs ys pa pb sx sy h =
    absurd (both_ways (p a) (subst (λ l. Stops p l) (sym h) sy) (and_parts (p a) (list_all p cs) pa).0)
spans p (a ∷ cs) (b ∷ bs) xs ys pa pb sx sy h =
    let below = spans p cs bs xs ys (and_parts (p a) (list_all p cs) pa).1 (and_parts (p b) (list_all p bs) pb).1 sx sy (tails h) in
    (ap (λ x. x ∷ cs) (heads h) ∙ ap (λ l. b ∷ l) below.0, below.1)

-- ---- letters

abbrev letter_at : ℕ → Letter
letter_at c = if c == 115 then S else (if c == 108 then L else (if c == 111 then O else (if c == 100 then D else (if c == 105 then I
    else (if c == 112 then P else (if c == 104 then H else (if c == 118 then V else (if c == 99 then C else (if c == 114 then R else T)))))))))

abbrev in_lower : ℕ → ℕ
in_lower b = if nat_lt b 97 then b + 32 else b

letter_again : (l : Letter) (u : Bool) → (letter_at (in_lower (letter_byte l u)) ≡ l) × (nat_lt (letter_byte l u) 97 ≡ u)
letter_again S true = (refl, refl)
letter_again S false = (refl, refl)
letter_again L true = (refl, refl)
letter_again L false = (refl, refl)
letter_again O true = (refl, refl)
letter_again O false = (refl, refl)
letter_again D true = (refl, refl)
letter_again D false = (refl, refl)
letter_again I true = (refl, refl)
letter_again I false = (refl, refl)
letter_again P true = (refl, refl)
letter_again P false = (refl, refl)
letter_again H true = (refl, refl)
letter_again H false = (refl, refl)
letter_again V true = (refl, refl)
letter_again V false = (refl, refl)
letter_again C true = (refl, refl)
letter_again C false = (refl, refl)
letter_again R true = (refl, refl)
letter_again R false = (refl, refl)
letter_again T true = (refl, refl)
letter_again T false = (refl, refl)

-- a letter's byte says which letter it is, and in which case
letters : (l k : Letter) (u v : Bool) → letter_byte l u ≡ letter_byte k v → (l ≡ k) × (u ≡ v)
letters l k u v h = (
  sym (letter_again l u).0 ∙ ap (λ b. letter_at (in_lower b)) h ∙ (letter_again k v).0,
  sym (letter_again l u).1 ∙ ap (λ b. nat_lt b 97) h ∙ (letter_again k v).1,
)

-- ---- the parts of a macro

-- a fact of each delimiter
pub delimiter_cases : (Q : ℕ → Type 0) → Q 46 → Q 45 → Q 43 → Q 44 → Q 47 → Q 95 → Q 61 → (b : ℕ) → is_delimiter b ≡ true → Q b
delimiter_cases Q p1 p2 p3 p4 p5 p6 p7 b h =
    let at : (c : ℕ) → Q c → (b == c) ≡ true → Q b = λ c pc e. subst Q (sym (eqb-true b c e)) pc in
    elim (or_cases (b == 46) _ h) [
      | inl e ↦ at 46 p1 e
      | inr h ↦
          elim (or_cases (b == 45) _ h) [
            | inl e ↦ at 45 p2 e
            | inr h ↦
                elim (or_cases (b == 43) _ h) [
                  | inl e ↦ at 43 p3 e
                  | inr h ↦
                      elim (or_cases (b == 44) _ h) [
                        | inl e ↦ at 44 p4 e
                        | inr h ↦
                            elim (or_cases (b == 47) _ h) [
                              | inl e ↦ at 47 p5 e
                              | inr h ↦
                                  elim (or_cases (b == 95) _ h) [
                                    | inl e ↦ at 95 p6 e
                                    | inr h ↦
                                        elim (or_cases (b == 61) _ h) [ inl e ↦ at 61 p7 e | inr h ↦ absurd (both_ways false refl h) ]
                                  ]
                            ]
                      ]
                ]
          ]
    ]

abbrev pub is_digit : ℕ → Bool
is_digit b = nat_lt (digit_value b) 10

pub all_digits : (ds : List ℕ) → AllDigits 10 ds → list_all is_digit ds ≡ true
all_digits [] h = refl
all_digits (d ∷ ds) h = and_from (is_digit d) (list_all is_digit ds) (lt-ltb (digit_value d) 10 h.0) (all_digits ds h.1)

pub keep_digits : (ds : List ℕ) (keep : ℕ) → SpellsKeep ds keep → list_all is_digit ds ≡ true
keep_digits [] keep h = refl
keep_digits (d ∷ ds) keep h = all_digits (d ∷ ds) h.0

-- what stands after the digits of a macro: `r`, delimiters and the end
abbrev pub behind : List ℕ → List ℕ → List ℕ → List ℕ
behind turn delims rest = turn ++ (delims ++ (125 ∷ rest))

pub delims_stop : (delims rest : List ℕ) → list_all is_delimiter delims ≡ true → Stops is_digit (delims ++ (125 ∷ rest))
delims_stop [] rest h = refl
delims_stop (d ∷ ds) rest h =
    delimiter_cases (λ b. is_digit b ≡ false) refl refl refl refl refl refl refl d (and_parts (is_delimiter d) (list_all is_delimiter ds) h).0

pub behind_stops : (turn delims rest : List ℕ) (r : Bool) → SpellsReverse turn r → list_all is_delimiter delims ≡ true → Stops is_digit (behind turn delims rest)
behind_stops turn delims rest true (inl e) h = subst (λ t. Stops is_digit (behind t delims rest)) (sym e) refl
behind_stops turn delims rest true (inr e) h = subst (λ t. Stops is_digit (behind t delims rest)) (sym e) refl
behind_stops turn delims rest false e h = subst (λ t. Stops is_digit (behind t delims rest)) (sym e) (delims_stop delims rest h)

-- no delimiter and no end is a letter r
pub no_turn : (c : ℕ) (delims rest x : List ℕ) → list_all is_delimiter delims ≡ true → is_delimiter c ≡ false → c ≢ 125 → delims ++ (125 ∷ rest) ≡ c ∷ x → ⊥
no_turn c [] rest x h none ne e = ne (sym (heads e))
no_turn c (d ∷ ds) rest x h none ne e =
    both_ways (is_delimiter c) none (subst (λ b. is_delimiter b ≡ true) (heads e) (and_parts (is_delimiter d) (list_all is_delimiter ds) h).0)

-- `r` is read in one way
turns : (turn turn' delims delims' x y : List ℕ) (r s : Bool) → SpellsReverse turn r → SpellsReverse turn' s
    → list_all is_delimiter delims ≡ true → list_all is_delimiter delims' ≡ true
    → behind turn delims x ≡ behind turn' delims' y → (r ≡ s) × (delims ++ (125 ∷ x) ≡ delims' ++ (125 ∷ y))
turns turn turn' delims delims' x y true true (inl e) (inl f) h h' same =
    (refl, tails (sym (ap (λ t. behind t delims x) e) ∙ same ∙ ap (λ t. behind t delims' y) f))
turns turn turn' delims delims' x y true true (inl e) (inr f) h h' same =
    absurd (eqb-false 114 82 refl (heads (sym (ap (λ t. behind t delims x) e) ∙ same ∙ ap (λ t. behind t delims' y) f)))
turns turn turn' delims delims' x y true true (inr e) (inl f) h h' same =
    absurd (eqb-false 82 114 refl (heads (sym (ap (λ t. behind t delims x) e) ∙ same ∙ ap (λ t. behind t delims' y) f)))
turns turn turn' delims delims' x y true true (inr e) (inr f) h h' same =
    (refl, tails (sym (ap (λ t. behind t delims x) e) ∙ same ∙ ap (λ t. behind t delims' y) f))
turns turn turn' delims delims' x y true false (inl e) f h h' same =
    absurd (no_turn 114 delims' y (delims ++ (125 ∷ x)) h' refl (eqb-false 114 125 refl) (sym (sym (ap (λ t. behind t delims x) e) ∙ same ∙ ap (λ t. behind t delims' y) f)))
turns turn turn' delims delims' x y true false (inr e) f h h' same =
    absurd (no_turn 82 delims' y (delims ++ (125 ∷ x)) h' refl (eqb-false 82 125 refl) (sym (sym (ap (λ t. behind t delims x) e) ∙ same ∙ ap (λ t. behind t delims' y) f)))
turns turn turn' delims delims' x y false true e (inl f) h h' same =
    absurd (no_turn 114 delims x (delims' ++ (125 ∷ y)) h refl (eqb-false 114 125 refl) (sym (ap (λ t. behind t delims x) e) ∙ same ∙ ap (λ t. behind t delims' y) f))
turns turn turn' delims delims' x y false true e (inr f) h h' same =
    absurd (no_turn 82 delims x (delims' ++ (125 ∷ y)) h refl (eqb-false 82 125 refl) (sym (ap (λ t. behind t delims x) e) ∙ same ∙ ap (λ t. behind t delims' y) f))
turns turn turn' delims delims' x y false false e f h h' same =
    (refl, sym (ap (λ t. behind t delims x) e) ∙ same ∙ ap (λ t. behind t delims' y) f)

-- digits say how many parts are kept
keeps : (ds es : List ℕ) (k l : ℕ) → ds ≡ es → SpellsKeep ds k → SpellsKeep es l → k ≡ l
keeps ds es k l e h g = one es k l (subst (λ d. SpellsKeep d k) e h) g
  where
    one : (es : List ℕ) (k l : ℕ) → SpellsKeep es k → SpellsKeep es l → k ≡ l
    one [] k l h g = h ∙ sym g
    one (d ∷ ds) k l h g = h.2 ∙ sym g.2

-- a macro's text, with what stands after it
abbrev pub macro_then : ℕ → List ℕ → List ℕ → List ℕ → List ℕ → List ℕ
macro_then letter digits turn delims rest = 37 ∷ 123 ∷ letter ∷ (digits ++ behind turn delims rest)

pub then_rest : (text rest : List ℕ) (m : Macro) (s : SpellsMacro text m)
    → text ++ rest ≡ macro_then (letter_byte m.letter m.upper) s.digits s.turn s.delims rest
then_rest text rest m s = ap (λ t. t ++ rest) s.whole ∙ ap (λ l. 37 ∷ 123 ∷ letter_byte m.letter m.upper ∷ l)
    (append_assoc s.digits (s.turn ++ (s.delims ++ (125 ∷ []))) rest ∙ ap (λ l. s.digits ++ l)
    (append_assoc s.turn (s.delims ++ (125 ∷ [])) rest ∙ ap (λ l. s.turn ++ l) (append_assoc s.delims (125 ∷ []) rest)))

-- macros are read in one way, whatever follows
macros : (a b x y : List ℕ) (m n : Macro) → SpellsMacro a m → SpellsMacro b n → a ++ x ≡ b ++ y → (m ≡ n) × (x ≡ y)
macros a b x y m n s u e =
    let same = sym (then_rest a x m s) ∙ e ∙ then_rest b y n u in
    let inner = tails (tails same) in
    let letter = letters m.letter n.letter m.upper n.upper (heads inner) in
    let number = spans is_digit s.digits u.digits (behind s.turn s.delims x) (behind u.turn u.delims y) (keep_digits s.digits m.keep s.keeps)
    (keep_digits u.digits n.keep u.keeps) (behind_stops s.turn s.delims x m.reverse s.reverses s.splits.0)
    (behind_stops u.turn u.delims y n.reverse u.reverses u.splits.0) (tails inner) in
    let turned = turns s.turn u.turn s.delims u.delims x y m.reverse n.reverse s.reverses u.reverses s.splits.0 u.splits.0 number.1 in
    let split = spans is_delimiter s.delims u.delims (125 ∷ x) (125 ∷ y) s.splits.0 u.splits.0 refl refl turned.1 in
    let kept = keeps s.digits u.digits m.keep n.keep number.0 s.keeps u.keeps in
    let set : m.delims ≡ n.delims = s.splits.1 ∙ ap delimiter_set split.0 ∙ sym u.splits.1 in
    ((λ i. record { letter = letter.0 i; upper = letter.1 i; keep = kept i; reverse = turned.0 i; delims = set i }), tails split.1)

-- ---- pieces

-- 0 for a literal, and else the byte behind the `%`
abbrev pub tag : List ℕ → ℕ
tag [] = 0
tag (b ∷ bs) = if b == 37 then head_or 0 bs else 0

abbrev pub piece_tag : Piece → ℕ
piece_tag (Literal b) = 0
piece_tag Percent = 37
piece_tag Space = 95
piece_tag Percent20 = 45
piece_tag (Expand m) = 123

pub piece_tags : (text rest : List ℕ) (p : Piece) → SpellsPiece text p → tag (text ++ rest) ≡ piece_tag p
piece_tags text rest (Literal b) h = ap (λ t. tag (t ++ rest)) h.1 ∙ literal_tag b rest h.0
  where
    literal_tag : (b : ℕ) (rest : List ℕ) → is_literal b ≡ true → tag (b ∷ rest) ≡ 0
    literal_tag b rest h = cond_both (b == 37) (head_or 0 rest) 0 (λ t. t ≡ 0)
        (λ e. absurd (both_ways (is_literal 37) refl (subst (λ c. is_literal c ≡ true) (eqb-true b 37 e) h))) (λ e. refl)
piece_tags text rest Percent h = ap (λ t. tag (t ++ rest)) h
piece_tags text rest Space h = ap (λ t. tag (t ++ rest)) h
piece_tags text rest Percent20 h = ap (λ t. tag (t ++ rest)) h
piece_tags text rest (Expand m) h = ap tag (then_rest text rest m h)

pub apart : {X : Type 0} (m n : ℕ) → eqb m n ≡ false → m ≡ n → X
apart m n h e = absurd (eqb-false m n h e)

-- pieces are read in one way, whatever follows
pieces : (a b x y : List ℕ) (p q : Piece) → SpellsPiece a p → SpellsPiece b q → a ++ x ≡ b ++ y → piece_tag p ≡ piece_tag q → (p ≡ q) × (x ≡ y)
pieces a b x y (Literal c) (Literal d) s u e t =
    let same = ap (λ z. z ++ x) (sym s.1) ∙ e ∙ ap (λ z. z ++ y) u.1 in (ap Literal (heads same), tails same)
pieces a b x y Percent Percent s u e t = (refl, tails (tails (ap (λ z. z ++ x) (sym s) ∙ e ∙ ap (λ z. z ++ y) u)))
pieces a b x y Space Space s u e t = (refl, tails (tails (ap (λ z. z ++ x) (sym s) ∙ e ∙ ap (λ z. z ++ y) u)))
pieces a b x y Percent20 Percent20 s u e t = (refl, tails (tails (ap (λ z. z ++ x) (sym s) ∙ e ∙ ap (λ z. z ++ y) u)))
pieces a b x y (Expand m) (Expand n) s u e t = let same = macros a b x y m n s u e in (ap Expand same.0, same.1)
pieces a b x y (Literal c) Percent s u e t = apart 0 37 refl t
pieces a b x y (Literal c) Space s u e t = apart 0 95 refl t
pieces a b x y (Literal c) Percent20 s u e t = apart 0 45 refl t
pieces a b x y (Literal c) (Expand n) s u e t = apart 0 123 refl t
pieces a b x y Percent (Literal d) s u e t = apart 37 0 refl t
pieces a b x y Percent Space s u e t = apart 37 95 refl t
pieces a b x y Percent Percent20 s u e t = apart 37 45 refl t
pieces a b x y Percent (Expand n) s u e t = apart 37 123 refl t
pieces a b x y Space (Literal d) s u e t = apart 95 0 refl t
pieces a b x y Space Percent s u e t = apart 95 37 refl t
pieces a b x y Space Percent20 s u e t = apart 95 45 refl t
pieces a b x y Space (Expand n) s u e t = apart 95 123 refl t
pieces a b x y Percent20 (Literal d) s u e t = apart 45 0 refl t
pieces a b x y Percent20 Percent s u e t = apart 45 37 refl t
pieces a b x y Percent20 Space s u e t = apart 45 95 refl t
pieces a b x y Percent20 (Expand n) s u e t = apart 45 123 refl t
pieces a b x y (Expand m) (Literal d) s u e t = apart 123 0 refl t
pieces a b x y (Expand m) Percent s u e t = apart 123 37 refl t
pieces a b x y (Expand m) Space s u e t = apart 123 95 refl t
pieces a b x y (Expand m) Percent20 s u e t = apart 123 45 refl t

-- the first piece is read in one way, whatever follows
pub first_piece : (a b x y : List ℕ) (p q : Piece) → SpellsPiece a p → SpellsPiece b q → a ++ x ≡ b ++ y → (p ≡ q) × (x ≡ y)
first_piece a b x y p q s u e = pieces a b x y p q s u e (sym (piece_tags a x p s) ∙ ap tag e ∙ piece_tags b y q u)

apart_lengths : {n : ℕ} → suc n ≡ 0 → ⊥
apart_lengths h = omega (arith, h)

-- no piece is spelled by nothing
pub not_nothing : (p : Piece) (rest : List ℕ) (text : List ℕ) → SpellsPiece text p → text ++ rest ≡ [] → ⊥
not_nothing (Literal b) rest text h e = apart_lengths (ap length (ap (λ t. t ++ rest) (sym h.1) ∙ e))
not_nothing Percent rest text h e = apart_lengths (ap length (ap (λ t. t ++ rest) (sym h) ∙ e))
not_nothing Space rest text h e = apart_lengths (ap length (ap (λ t. t ++ rest) (sym h) ∙ e))
not_nothing Percent20 rest text h e = apart_lengths (ap length (ap (λ t. t ++ rest) (sym h) ∙ e))
not_nothing (Expand m) rest text h e = apart_lengths (ap length (sym (then_rest text rest m h) ∙ e))

pub one_macro_text : OneMacroText
one_macro_text text [] [] s u = refl
one_macro_text text [] (q ∷ qs) s u = absurd (not_nothing q u.1 u.0 u.2 (sym u.4 ∙ s))
one_macro_text text (p ∷ ps) [] s u = absurd (not_nothing p s.1 s.0 s.2 (sym s.4 ∙ u))
one_macro_text text (p ∷ ps) (q ∷ qs) s u =
    let same = sym s.4 ∙ u.4 in
    let first = first_piece s.0 u.0 s.1 u.1 p q s.2 u.2 same in
    ap (λ x. x ∷ ps) first.0 ∙ ap (λ l. q ∷ l) (one_macro_text s.1 ps qs s.3 (subst (λ t. SpellsMacroText t qs) (sym first.1) u.3))
