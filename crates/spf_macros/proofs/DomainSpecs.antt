-- A domain-spec is a macro text that ends in a macro-expand, or in a dot and a toplabel, or in these and a dot.
use Rattle.std.proofs.Common.{◌≡◌, ℕ, ◌<◌, ◌≤◌, ◌==◌, ◌||◌, ◌&&◌, ◌⊎◌, Bool, true, false, not, List, [], ◌∷◌, ◌++◌, length, map, nat_le, refl, sym, ap, subst, ◌∙◌, inl, inr, append_assoc, append-nil, length-append, arith, le-leb, codes, All, lit≤}
use Rattle.std.proofs.lemmas.List.Elements.{All-nil, All-cons}
use Rattle.std.specs.List.{list_all, slice_split, onto_first}
use Rattle.std.proofs.lemmas.Bool.{and_parts, and_from, or_left, eqb-true, both_ways, cases_Bool, leb-true, false_from_ne_true}
use Rattle.std.proofs.lemmas.Bool.Decides.{nat_tests}
use Rattle.std.proofs.lemmas.List.Splits.{slice_split-cons_yes, slice_split-cons_no, slice_split_none}
use Rattle.spf_macros.specs.declared.piece.Macro.{Macro}
use Rattle.spf_macros.specs.declared.piece.Piece.{Piece}
use Rattle.spf_macros.specs.declared.piece.Piece.TheVariants.{Literal, Percent, Space, Percent20, Expand}
use Rattle.spf_macros.specs.Grammar.{letter_byte, is_literal, is_let_dig_hyp, is_toplabel, is_for_all, SpellsMacro, SpellsPiece, SpellsMacroText, SpellsDomainEnd, SpellsDomainSpec}
use Rattle.spf_macros.specs.Expansion.{without_final_dot}
use Rattle.spf_macros.specs.Words.{last_label}
use Rattle.spf_macros.specs.Reading.{EndsInExpand}
use Rattle.spf_macros.proofs.OneReading.{heads, tails, one_macro_text}
use Rattle.spf_macros.proofs.MacroTexts.{literals_spell}

abbrev pub labels_of : List ℕ → List (List ℕ)
labels_of text = slice_split (λ b. b == 46) text

-- ---- final dots

pub without_final-dot : (text : List ℕ) → without_final_dot (text ++ 46 ∷ []) ≡ text
without_final-dot [] = refl
without_final-dot (x ∷ []) = refl
without_final-dot (x ∷ y ∷ text) = ap (λ t. x ∷ t) (without_final-dot (y ∷ text))

pub without_final-other : (text : List ℕ) (b : ℕ) → (b == 46) ≡ false → without_final_dot (text ++ b ∷ []) ≡ text ++ b ∷ []
without_final-other [] b other = rw other refl
without_final-other (x ∷ []) b other = ap (λ t. x ∷ t) (without_final-other [] b other)
without_final-other (x ∷ y ∷ text) b other = ap (λ t. x ∷ t) (without_final-other (y ∷ text) b other)

-- a text is what it is without a final dot, or that and a dot
final_dot : (text : List ℕ) → (dot : List ℕ) × ((dot ≡ []) ⊎ (dot ≡ 46 ∷ [])) × (text ≡ without_final_dot text ++ dot)
final_dot [] = ([], inl refl, refl)
final_dot (b ∷ []) =
    elim (cases_Bool (b == 46)) [
      | inl hit ↦ (46 ∷ [], inr refl, rw hit (ap (λ x. x ∷ []) (eqb-true b 46 hit)))
      | inr miss ↦ ([], inl refl, rw miss refl)
    ]
final_dot (b ∷ d ∷ text) = let later = final_dot (d ∷ text) in (later.0, later.1, ap (λ t. b ∷ t) later.2)

-- ---- labels

-- a text is one label, or what stands before the last dot, and the last label
LastCut : List ℕ → List (List ℕ) → Type 0
LastCut text labels = ((length labels ≡ 1) × (last_label labels ≡ text)) ⊎ ((2 ≤ length labels) × ((front : List ℕ) × (text ≡ front ++ 46 ∷ last_label labels)))

behind_dot : (text : List ℕ) (labels : List (List ℕ)) → LastCut text labels → LastCut (46 ∷ text) ([] ∷ labels)
unfolding LastCut
behind_dot text [] (inl h) = absurd (omega (arith, h.0))
behind_dot text (l ∷ ls) (inl h) = inr (omega (arith, h.0), ([], ap (λ t. 46 ∷ t) (sym h.1)))
behind_dot text [] (inr h) = absurd (omega (arith, h.0))
behind_dot text (l ∷ ls) (inr h) = inr (omega (arith, h.0), (46 ∷ h.1.0, ap (λ t. 46 ∷ t) h.1.1))

behind_other : (b : ℕ) (text : List ℕ) (labels : List (List ℕ)) → LastCut text labels → LastCut (b ∷ text) (onto_first b labels)
unfolding LastCut
behind_other b text [] (inl h) = absurd (omega (arith, h.0))
behind_other b text (l ∷ []) (inl h) = inl (refl, ap (λ t. b ∷ t) h.1)
behind_other b text (l ∷ m ∷ ls) (inl h) = absurd (omega (arith, h.0))
behind_other b text [] (inr h) = absurd (omega (arith, h.0))
behind_other b text (l ∷ []) (inr h) = absurd (omega (arith, h.0))
behind_other b text (l ∷ m ∷ ls) (inr h) = inr (h.0, (b ∷ h.1.0, ap (λ t. b ∷ t) h.1.1))

last_cut : (text : List ℕ) → LastCut text (labels_of text)
unfolding LastCut
last_cut [] = inl (refl, refl)
last_cut (b ∷ text) =
    elim (cases_Bool (b == 46)) [
      | inl hit ↦ subst (λ (ls : List (List ℕ)). LastCut (b ∷ text) ls) (sym (slice_split-cons_yes (λ x. x == 46) b text hit)) (subst (λ x. LastCut (x ∷ text) ([] ∷ labels_of text)) (sym (eqb-true b 46 hit)) (behind_dot text (labels_of text) (last_cut text)))
      | inr miss ↦ subst (λ (ls : List (List ℕ)). LastCut (b ∷ text) ls) (sym (slice_split-cons_no (λ x. x == 46) b text miss)) (behind_other b text (labels_of text) (last_cut text))
    ]

-- two labels and more have a dot before the last one
from_cut : (text : List ℕ) (labels : List (List ℕ)) → LastCut text labels → 2 ≤ length labels → (front : List ℕ) × (text ≡ front ++ 46 ∷ last_label labels)
unfolding LastCut
from_cut text labels (inl h) two = absurd (omega (arith, h.0))
from_cut text labels (inr h) two = h.1

before_last : (text : List ℕ) → 2 ≤ length (labels_of text) → (front : List ℕ) × (text ≡ front ++ 46 ∷ last_label (labels_of text))
before_last text two = from_cut text (labels_of text) (last_cut text) two

-- behind a dot, a label without a dot is the last one
record EndsIn (label : List ℕ) (labels : List (List ℕ)) : Type 0 where
  two : 2 ≤ length labels
  is : last_label labels ≡ label

one_more : (label : List ℕ) (labels : List (List ℕ)) → EndsIn label labels → EndsIn label ([] ∷ labels)
one_more label [] h = absurd (omega (arith, h.two))
one_more label (l ∷ ls) h = record { two = omega (arith, h.two); is = h.is }

onto_more : (b : ℕ) (label : List ℕ) (labels : List (List ℕ)) → EndsIn label labels → EndsIn label (onto_first b labels)
onto_more b label [] h = absurd (omega (arith, h.two))
onto_more b label (l ∷ []) h = absurd (omega (arith, h.two))
onto_more b label (l ∷ m ∷ ls) h = record { two = h.two; is = h.is }

last_is : (front label : List ℕ) → All (λ b. (b == 46) ≡ false) label → EndsIn label (labels_of (front ++ 46 ∷ label))
last_is [] label none = subst (λ (ls : List (List ℕ)). EndsIn label ([] ∷ ls)) (sym (slice_split_none (λ b. b == 46) label none)) (record { two = lit≤ tt; is = refl })
last_is (b ∷ front) label none =
    elim (cases_Bool (b == 46)) [
      | inl hit ↦ subst (λ (ls : List (List ℕ)). EndsIn label ls) (sym (slice_split-cons_yes (λ x. x == 46) b (front ++ 46 ∷ label) hit)) (one_more label (labels_of (front ++ 46 ∷ label)) (last_is front label none))
      | inr miss ↦ subst (λ (ls : List (List ℕ)). EndsIn label ls) (sym (slice_split-cons_no (λ x. x == 46) b (front ++ 46 ∷ label) miss)) (onto_more b label (labels_of (front ++ 46 ∷ label)) (last_is front label none))
    ]

-- ---- toplabels

-- a byte of a toplabel is a literal, and no dot
no_dot : (b : ℕ) → is_let_dig_hyp b ≡ true → (b == 46) ≡ false
no_dot b h = false_from_ne_true (b == 46) (λ e. both_ways (is_let_dig_hyp 46) refl (subst (λ x. is_let_dig_hyp x ≡ true) (eqb-true b 46 e) h))

no_dots : (label : List ℕ) → list_all is_let_dig_hyp label ≡ true → All (λ b. (b == 46) ≡ false) label
no_dots [] h = All-nil (λ b. (b == 46) ≡ false)
no_dots (b ∷ label) h = let parts = and_parts (is_let_dig_hyp b) (list_all is_let_dig_hyp label) h in All-cons (λ x. (x == 46) ≡ false) b label (no_dot b parts.0) (no_dots label parts.1)

-- a label is not empty, and its last byte is no dot
label_end : (label : List ℕ) → list_all is_let_dig_hyp label ≡ true → 0 < length label → (front : List ℕ) × ((b : ℕ) × ((b == 46) ≡ false) × (label ≡ front ++ b ∷ []))
label_end [] h some = absurd (omega (arith, some))
label_end (b ∷ []) h some = ([], (b, no_dot b (and_parts (is_let_dig_hyp b) true h).0, refl))
label_end (b ∷ d ∷ label) h some =
    let later = label_end (d ∷ label) (and_parts (is_let_dig_hyp b) (list_all is_let_dig_hyp (d ∷ label)) h).1 (omega arith) in
    (b ∷ later.0, (later.1.0, later.1.1, ap (λ t. b ∷ t) later.1.2))

pub top_bytes : (label : List ℕ) → is_toplabel label ≡ true → list_all is_let_dig_hyp label ≡ true
top_bytes label h = (and_parts _ _ (and_parts _ _ (and_parts _ _ h).0).0).0

top_some : (label : List ℕ) → is_toplabel label ≡ true → 0 < length label
top_some [] h = absurd (both_ways (is_toplabel []) refl h)
top_some (b ∷ label) h = omega arith

-- ---- the test of a text

-- a text ends in a dot and a toplabel, or in these and a dot
pub EndsInTop : List ℕ → Type 0
EndsInTop text = (front label dot : List ℕ) × (is_toplabel label ≡ true) × ((dot ≡ []) ⊎ (dot ≡ 46 ∷ [])) × (text ≡ front ++ 46 ∷ (label ++ dot))

abbrev pub ends_in_top : List ℕ → Bool
ends_in_top text = nat_le 2 (length (labels_of (without_final_dot text))) && is_toplabel (last_label (labels_of (without_final_dot text)))

pub top_found : (text : List ℕ) → ends_in_top text ≡ true → EndsInTop text
unfolding EndsInTop
top_found text h =
    let parts = and_parts _ _ h in
    let cut = before_last (without_final_dot text) (leb-true 2 _ parts.0) in
    let dot = final_dot text in
    (cut.0, last_label (labels_of (without_final_dot text)), dot.0, parts.1, dot.1, dot.2 ∙ ap (λ t. t ++ dot.0) cut.1 ∙ append_assoc cut.0 (46 ∷ last_label (labels_of (without_final_dot text))) dot.0)

-- without its final dot, such a text ends in its label
bare : (front label dot : List ℕ) → is_toplabel label ≡ true → (dot ≡ []) ⊎ (dot ≡ 46 ∷ []) → without_final_dot (front ++ 46 ∷ (label ++ dot)) ≡ front ++ 46 ∷ label
bare front label dot top (inl none) =
    let end = label_end label (top_bytes label top) (top_some label top) in
    let shape : front ++ 46 ∷ label ≡ (front ++ 46 ∷ end.0) ++ end.1.0 ∷ [] = ap (λ l. front ++ 46 ∷ l) end.1.2 ∙ sym (append_assoc front (46 ∷ end.0) (end.1.0 ∷ [])) in
    ap (λ d. without_final_dot (front ++ 46 ∷ (label ++ d))) none ∙ ap (λ l. without_final_dot (front ++ 46 ∷ l)) (append-nil label)
    ∙ ap without_final_dot shape ∙ without_final-other (front ++ 46 ∷ end.0) end.1.0 end.1.1 ∙ sym shape
bare front label dot top (inr one) =
    ap (λ d. without_final_dot (front ++ 46 ∷ (label ++ d))) one ∙ ap without_final_dot (sym (append_assoc front (46 ∷ label) (46 ∷ []))) ∙ without_final-dot (front ++ 46 ∷ label)

pub top_told : (text : List ℕ) → EndsInTop text → ends_in_top text ≡ true
unfolding EndsInTop
top_told text h =
    let same : without_final_dot text ≡ h.0 ++ 46 ∷ h.1 = ap without_final_dot h.5 ∙ bare h.0 h.1 h.2 h.3 h.4 in
    let end = last_is h.0 h.1 (no_dots h.1 (top_bytes h.1 h.3)) in
    rw same (and_from _ _ (le-leb 2 _ end.two) (ap is_toplabel end.is ∙ h.3))

-- ---- pieces of a text

-- texts one after the other spell their pieces
pub both_spelled : (front end : List ℕ) (ps qs : List Piece) → SpellsMacroText front ps → SpellsMacroText end qs → SpellsMacroText (front ++ end) (ps ++ qs)
both_spelled front end [] qs h s = subst (λ t. SpellsMacroText (t ++ end) qs) (sym h) s
both_spelled front end (p ∷ ps) qs h s = (h.0, h.1 ++ end, h.2, both_spelled h.1 end ps qs h.3 s, ap (λ t. t ++ end) h.4 ∙ append_assoc h.0 h.1 end)

-- the text of the last piece stands at the end
last_spelled : (text : List ℕ) (ps : List Piece) (p : Piece) → SpellsMacroText text (ps ++ p ∷ []) → (front end : List ℕ) × SpellsMacroText front ps × SpellsPiece end p × (text ≡ front ++ end)
last_spelled text [] p h = ([], h.0, refl, h.2, h.4 ∙ ap (λ t. h.0 ++ t) h.3 ∙ append-nil h.0)
last_spelled text (q ∷ ps) p h =
    let later = last_spelled h.1 ps p h.3 in
    (h.0 ++ later.0, later.1, (h.0, later.0, h.2, later.2, refl), later.3, h.4 ∙ ap (λ t. h.0 ++ t) later.4 ∙ sym (append_assoc h.0 later.0 later.1))

-- where two texts are cut in two, one cut is not behind the other
cuts : (a b x y : List ℕ) → a ++ x ≡ b ++ y → ((d : List ℕ) × (b ≡ a ++ d) × (x ≡ d ++ y)) ⊎ ((c : ℕ) × ((d : List ℕ) × (a ≡ b ++ c ∷ d) × (y ≡ c ∷ (d ++ x))))
cuts [] b x y e = inl (b, refl, e)
cuts (c ∷ a) [] x y e = inr (c, (a, refl, sym e))
cuts (c ∷ a) (d ∷ b) x y e =
    elim (cuts a b x y (tails e)) [
      | inl h ↦ inl (h.0, ap (λ t. d ∷ t) h.1 ∙ ap (λ z. z ∷ (a ++ h.0)) (sym (heads e)), h.2)
      | inr h ↦ inr (h.0, (h.1.0, ap (λ t. c ∷ t) h.1.1 ∙ ap (λ z. z ∷ (b ++ h.0 ∷ h.1.0)) (heads e), h.1.2))
    ]

-- a byte of the end of a host: a letter, digit, hyphen or dot
abbrev is_host_byte : ℕ → Bool
is_host_byte b = is_let_dig_hyp b || b == 46

-- host bytes are literals
host_literal : (b : ℕ) → is_host_byte b ≡ true → is_literal b ≡ true
host_literal b h = grind (arith, nat_tests)

host_literals : (text : List ℕ) → list_all is_host_byte text ≡ true → list_all is_literal text ≡ true
host_literals [] h = refl
host_literals (b ∷ text) h = let parts = and_parts (is_host_byte b) (list_all is_host_byte text) h in and_from (is_literal b) (list_all is_literal text) (host_literal b parts.0) (host_literals text parts.1)

-- the last of some bytes that pass passes
last_passes : (p : ℕ → Bool) (front : List ℕ) (b : ℕ) → list_all p (front ++ b ∷ []) ≡ true → p b ≡ true
last_passes p [] b h = (and_parts (p b) true h).0
last_passes p (x ∷ front) b h = last_passes p front b (and_parts (p x) (list_all p (front ++ b ∷ [])) h).1

all_left : (p : ℕ → Bool) (xs ys : List ℕ) → list_all p (xs ++ ys) ≡ true → (list_all p xs ≡ true) × (list_all p ys ≡ true)
all_left p [] ys h = (refl, h)
all_left p (x ∷ xs) ys h = let parts = and_parts (p x) (list_all p (xs ++ ys)) h in let later = all_left p xs ys parts.1 in (and_from (p x) (list_all p xs) parts.0 later.0, later.1)

-- the last byte of a text
last_byte : List ℕ → ℕ
last_byte [] = 0
last_byte (b ∷ []) = b
last_byte (b ∷ d ∷ bs) = last_byte (d ∷ bs)

last_behind : (front : List ℕ) (b : ℕ) (bs : List ℕ) → last_byte (front ++ b ∷ bs) ≡ last_byte (b ∷ bs)
unfolding last_byte
last_behind [] b bs = refl
last_behind (x ∷ []) b bs = refl
last_behind (x ∷ y ∷ front) b bs = last_behind (y ∷ front) b bs

last_host : (b : ℕ) (bs : List ℕ) → list_all is_host_byte (b ∷ bs) ≡ true → is_host_byte (last_byte (b ∷ bs)) ≡ true
unfolding last_byte
last_host b [] h = (and_parts (is_host_byte b) true h).0
last_host b (d ∷ bs) h = last_host d bs (and_parts (is_host_byte b) (list_all is_host_byte (d ∷ bs)) h).1

macro_last : (text : List ℕ) (m : Macro) → SpellsMacro text m → last_byte text ≡ 125
unfolding last_byte
macro_last text m s =
    let shape : codes "%{" ++ (letter_byte m.letter m.upper ∷ (s.digits ++ (s.turn ++ (s.delims ++ codes "}")))) ≡ (37 ∷ 123 ∷ letter_byte m.letter m.upper ∷ (s.digits ++ (s.turn ++ s.delims))) ++ 125 ∷ [] =
    ap (λ t. 37 ∷ 123 ∷ letter_byte m.letter m.upper ∷ t) (ap (λ t. s.digits ++ t) (sym (append_assoc s.turn s.delims (125 ∷ []))) ∙ sym (append_assoc s.digits (s.turn ++ s.delims) (125 ∷ []))) in
    ap last_byte (s.whole ∙ shape) ∙ last_behind (37 ∷ 123 ∷ letter_byte m.letter m.upper ∷ (s.digits ++ (s.turn ++ s.delims))) 125 []

is_no_dot : ℕ → Bool
is_no_dot b = not (b == 46)

-- a text without a dot has none behind a beginning
no_dot_within : (a front d : List ℕ) → list_all (λ b. not (b == 46)) a ≡ true → a ≡ front ++ 46 ∷ d → ⊥
no_dot_within a front d all e =
    let parts = all_left (λ b. not (b == 46)) front (46 ∷ d) (subst (λ t. list_all (λ b. not (b == 46)) t ≡ true) e all) in
    both_ways false refl (and_parts false (list_all (λ b. not (b == 46)) d) parts.1).0

-- a piece whose text has a dot, and host bytes behind it, is the dot as a literal
HostTail : List ℕ → List ℕ → List Piece → Type 0
HostTail front tail pieces = (begins : List Piece) × SpellsMacroText front begins × (pieces ≡ begins ++ map Literal (46 ∷ tail))

one_byte : (front d : List ℕ) (b : ℕ) → b ∷ [] ≡ front ++ 46 ∷ d → (front ≡ []) × ((d ≡ []) × (b ≡ 46))
one_byte [] d b e = (refl, (sym (tails e), heads e))
one_byte (x ∷ front) d b e = absurd (omega (arith, ap length e, length-append front (46 ∷ d)))

within : (a rest front tail d : List ℕ) (p : Piece) (ps : List Piece) → SpellsPiece a p → SpellsMacroText rest ps → a ≡ front ++ 46 ∷ d → tail ≡ d ++ rest → list_all is_host_byte tail ≡ true → HostTail front tail (p ∷ ps)
unfolding HostTail
within a rest front tail d (Literal b) ps s h e t all =
    let one = one_byte front d b (sym s.1 ∙ e) in
    let same : tail ≡ rest = t ∙ ap (λ x. x ++ rest) one.1.0 in
    let behind : ps ≡ map Literal rest = one_macro_text rest ps (map Literal rest) h (literals_spell rest (host_literals rest (subst (λ x. list_all is_host_byte x ≡ true) same all))) in
    ([], one.0, ap (λ x. Literal x ∷ ps) one.1.1 ∙ ap (λ x. Literal 46 ∷ x) (behind ∙ ap (λ x. map Literal x) (sym same)))
within a rest front tail d Percent ps s h e t all = absurd (no_dot_within a front d (rw s refl) e)
within a rest front tail d Space ps s h e t all = absurd (no_dot_within a front d (rw s refl) e)
within a rest front tail d Percent20 ps s h e t all = absurd (no_dot_within a front d (rw s refl) e)
within a rest front tail d (Expand m) ps s h e t all =
    let host : list_all is_host_byte (46 ∷ d) ≡ true = (all_left is_host_byte d rest (subst (λ x. list_all is_host_byte x ≡ true) t all)).0 in
    let end : last_byte (46 ∷ d) ≡ 125 = sym (last_behind front 46 d) ∙ ap last_byte (sym e) ∙ macro_last a m s in
    absurd (both_ways (is_host_byte 125) refl (subst (λ x. is_host_byte x ≡ true) end (last_host 46 d host)))

-- a macro text that ends in a dot and host bytes ends in these as literals
host_tail : (text front tail : List ℕ) (pieces : List Piece) → SpellsMacroText text pieces → text ≡ front ++ 46 ∷ tail → list_all is_host_byte tail ≡ true → HostTail front tail pieces
unfolding HostTail
host_tail text front tail [] h e all = absurd (omega (arith, ap length (sym h ∙ e), length-append front (46 ∷ tail)))
host_tail text front tail (p ∷ ps) h e all =
    elim (cuts h.0 front h.1 (46 ∷ tail) (sym h.4 ∙ e)) [
      | inl k ↦
          let later = host_tail h.1 k.0 tail ps h.3 k.2 all in
          (p ∷ later.0, (h.0, k.0, h.2, later.1, k.1), ap (λ l. p ∷ l) later.2)
      | inr k ↦ within h.0 h.1 front tail k.1.0 p ps h.2 h.3 (k.1.1 ∙ ap (λ z. front ++ z ∷ k.1.0) (sym (heads k.1.2))) (tails k.1.2) all
    ]

host_bytes : (label dot : List ℕ) → list_all is_let_dig_hyp label ≡ true → (dot ≡ []) ⊎ (dot ≡ 46 ∷ []) → list_all is_host_byte (label ++ dot) ≡ true
host_bytes [] dot h (inl none) = rw none refl
host_bytes [] dot h (inr one) = rw one refl
host_bytes (b ∷ label) dot h d =
    let parts = and_parts (is_let_dig_hyp b) (list_all is_let_dig_hyp label) h in
    and_from (is_host_byte b) (list_all is_host_byte (label ++ dot)) (or_left (is_let_dig_hyp b) (b == 46) parts.0) (host_bytes label dot parts.1 d)

-- ---- domain-specs

pub spec_from_top : (explain : Bool) (text : List ℕ) (pieces : List Piece) → SpellsMacroText text pieces → (explain || list_all is_for_all pieces) ≡ true → EndsInTop text → SpellsDomainSpec explain text pieces
unfolding EndsInTop HostTail
spec_from_top explain text pieces h letters (front, label, dot, top, final, e) =
    let tail = host_tail text front (label ++ dot) pieces h e (host_bytes label dot (top_bytes label top) final) in
    record {
      front = front;
      end = 46 ∷ (label ++ dot);
      begins = tail.0;
      ends = map Literal (46 ∷ (label ++ dot));
      first = tail.1;
      last = inl (label, dot, top, final, refl, refl);
      letters = letters;
      whole = e;
      all = tail.2;
    }

pub spec_from_expand : (explain : Bool) (text : List ℕ) (pieces : List Piece) → SpellsMacroText text pieces → (explain || list_all is_for_all pieces) ≡ true → EndsInExpand pieces → SpellsDomainSpec explain text pieces
spec_from_expand explain text pieces h letters (begins, piece, expands, e) =
    let cut = last_spelled text begins piece (subst (λ ps. SpellsMacroText text ps) e h) in
    record {
      front = cut.0;
      end = cut.1;
      begins = begins;
      ends = piece ∷ [];
      first = cut.2;
      last = inr (piece, cut.3, expands, refl);
      letters = letters;
      whole = cut.4;
      all = e;
    }

end_spelled : (end : List ℕ) (ends : List Piece) → SpellsDomainEnd end ends → SpellsMacroText end ends
end_spelled end ends (inl (label, dot, top, final, text, pieces)) =
    let host = host_bytes label dot (top_bytes label top) final in
    let literal : list_all is_literal end ≡ true = rw text (host_literals (label ++ dot) host) in
    subst (λ ps. SpellsMacroText end ps) (sym pieces) (literals_spell end literal)
end_spelled end ends (inr (piece, s, expands, pieces)) = subst (λ ps. SpellsMacroText end ps) (sym pieces) (end, [], s, refl, sym (append-nil end))

-- a domain-spec is a macro text
pub spec_spelled : (explain : Bool) (text : List ℕ) (pieces : List Piece) → SpellsDomainSpec explain text pieces → SpellsMacroText text pieces
spec_spelled explain text pieces s =
    subst (λ ps. SpellsMacroText text ps) (sym s.all) (subst (λ t. SpellsMacroText t (s.begins ++ s.ends)) (sym s.whole) (both_spelled s.front s.end s.begins s.ends s.first (end_spelled s.end s.ends s.last)))

-- that ends in one of two ways
pub spec_end : (explain : Bool) (text : List ℕ) (pieces : List Piece) (s : SpellsDomainSpec explain text pieces) → EndsInExpand pieces ⊎ EndsInTop text
unfolding EndsInTop
spec_end explain text pieces s = from s.last
  where
    from : SpellsDomainEnd s.end s.ends → EndsInExpand pieces ⊎ EndsInTop text
    from (inl (label, dot, top, final, end, ends)) = inr (s.front, label, dot, top, final, s.whole ∙ ap (λ t. s.front ++ t) end)
    from (inr (piece, spelled, expands, ends)) = inl (s.begins, piece, expands, s.all ∙ ap (λ ps. s.begins ++ ps) ends)
