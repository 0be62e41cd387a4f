-- What a reader of macro texts has read, and that nothing else could be read there.
use Rattle.std.proofs.Common.{◌≡◌, ◌==◌, ℕ, Bool, true, false, List, [], ◌∷◌, ◌++◌, refl, sym, ap, subst, ◌∙◌, inl, inr, append_assoc, append-nil, ◌-◌, ◌<◌, ◌≤◌, length, take, drop, get_or, arith}
use Rattle.std.proofs.lemmas.List.{take_all}
use Rattle.std.specs.List.{list_all}
use Rattle.std.specs.Char.{is_ascii_digit}
use Rattle.std.proofs.lemmas.Bool.{and_parts, or_cases, eqb-true, both_ways}
use Rattle.spf_macros.specs.declared.piece.Macro.{Macro}
use Rattle.spf_macros.specs.declared.piece.Piece.{Piece}
use Rattle.spf_macros.specs.declared.piece.Piece.TheVariants.{Literal, Percent, Space, Percent20, Expand}
use Rattle.spf_macros.specs.Grammar.{letter_byte, is_delimiter, delimiter_set, SpellsKeep, SpellsReverse, SpellsMacro, SpellsPiece, SpellsMacroText}
use Rattle.spf_macros.specs.Reading.{is_turn, Pauses, IsSpan, ReadsReverse, SpellsBehind}
use Rattle.spf_macros.proofs.OneReading.{Stops, heads, tails, tag, piece_tags, apart, is_digit, behind, behind_stops, keep_digits, then_rest, delimiter_cases, first_piece, not_nothing}
use Rattle.spf_macros.proofs.Digits.{same_digit, all_ascii}
use Rattle.spf_macros.proofs.Spans.{one_span}

-- ---- a macro

-- the text behind the first two bytes of a macro, in parts
parts_of : (text front rest : List ℕ) (m : Macro) (s : SpellsMacro (37 ∷ 123 ∷ front) m) → text ≡ front ++ rest → text ≡ letter_byte m.letter m.upper ∷ (s.digits ++ behind s.turn s.delims rest)
parts_of text front rest m s e = e ∙ tails (tails (then_rest (37 ∷ 123 ∷ front) rest m s))

ascii_pauses : (xs : List ℕ) → Stops is_digit xs → Pauses is_ascii_digit xs
ascii_pauses [] h = absurd h
ascii_pauses (x ∷ xs) h = sym (same_digit x) ∙ h

-- a macro's first byte, digits, turn and delimiters are those that are read
pub letter_same : (text r₁ : List ℕ) (b : ℕ) → text ≡ b ∷ r₁ → (front rest : List ℕ) (m : Macro) → SpellsMacro (37 ∷ 123 ∷ front) m → text ≡ front ++ rest → letter_byte m.letter m.upper ≡ b
letter_same text r₁ b e front rest m s whole = heads (sym (parts_of text front rest m s whole) ∙ e)

pub digits_same : (text r₁ r₂ ds : List ℕ) (b : ℕ) → text ≡ b ∷ r₁ → IsSpan is_ascii_digit r₁ ds r₂ → (front rest : List ℕ) (m : Macro) (s : SpellsMacro (37 ∷ 123 ∷ front) m) → text ≡ front ++ rest
    → (s.digits ≡ ds) × (behind s.turn s.delims rest ≡ r₂)
digits_same text r₁ r₂ ds b e span front rest m s whole =
    one_span is_ascii_digit s.digits ds (behind s.turn s.delims rest) r₂ (all_ascii s.digits (keep_digits s.digits m.keep s.keeps)) span.passes
    (ascii_pauses (behind s.turn s.delims rest) (behind_stops s.turn s.delims rest m.reverse s.reverses s.splits.0)) span.pauses
    (tails (sym (parts_of text front rest m s whole) ∙ e) ∙ span.whole)

-- no delimiter and no end is an `r`
no_turn_there : (delims rest r₃ : List ℕ) (b : ℕ) → list_all is_delimiter delims ≡ true → is_turn b ≡ true → delims ++ (125 ∷ rest) ≡ b ∷ r₃ → ⊥
no_turn_there [] rest r₃ b all turn e = both_ways (is_turn 125) refl (subst (λ c. is_turn c ≡ true) (sym (heads e)) turn)
no_turn_there (d ∷ ds) rest r₃ b all turn e =
    both_ways (is_turn d) (delimiter_cases (λ c. is_turn c ≡ false) refl refl refl refl refl refl refl d (and_parts (is_delimiter d) (list_all is_delimiter ds) all).0)
    (subst (λ c. is_turn c ≡ true) (sym (heads e)) turn)

turn_same : (turn delims rest r₂ r₃ : List ℕ) (r turned : Bool) → SpellsReverse turn r → list_all is_delimiter delims ≡ true → behind turn delims rest ≡ r₂ → ReadsReverse r₂ turned r₃ → delims ++ (125 ∷ rest) ≡ r₃
turn_same turn delims rest r₂ r₃ true true (inl h) all e read = tails (sym (ap (λ t. behind t delims rest) h) ∙ e ∙ read.2)
turn_same turn delims rest r₂ r₃ true true (inr h) all e read = tails (sym (ap (λ t. behind t delims rest) h) ∙ e ∙ read.2)
turn_same turn delims rest r₂ r₃ true false (inl h) all e read =
    absurd (both_ways (is_turn 114) (subst (λ t. Pauses is_turn t) (sym e ∙ ap (λ t. behind t delims rest) h) read.0) refl)
turn_same turn delims rest r₂ r₃ true false (inr h) all e read =
    absurd (both_ways (is_turn 82) (subst (λ t. Pauses is_turn t) (sym e ∙ ap (λ t. behind t delims rest) h) read.0) refl)
turn_same turn delims rest r₂ r₃ false true h all e read =
    absurd (no_turn_there delims rest r₃ read.0 all read.1 (sym (ap (λ t. behind t delims rest) h) ∙ e ∙ read.2))
turn_same turn delims rest r₂ r₃ false false h all e read = sym (ap (λ t. behind t delims rest) h) ∙ e ∙ read.1

-- behind a macro's delimiters stands its end
pub end_same : (text r₁ r₂ r₃ r₄ ds es : List ℕ) (b : ℕ) (turned : Bool) → text ≡ b ∷ r₁ → IsSpan is_ascii_digit r₁ ds r₂ → ReadsReverse r₂ turned r₃ → IsSpan is_delimiter r₃ es r₄
    → (front rest : List ℕ) (m : Macro) → SpellsMacro (37 ∷ 123 ∷ front) m → text ≡ front ++ rest → r₄ ≡ 125 ∷ rest
end_same text r₁ r₂ r₃ r₄ ds es b turned e digits turn delims front rest m s whole =
    let after = digits_same text r₁ r₂ ds b e digits front rest m s whole in
    let left = turn_same s.turn s.delims rest r₂ r₃ m.reverse turned s.reverses s.splits.0 after.1 turn in
    sym (one_span is_delimiter s.delims es (125 ∷ rest) r₄ s.splits.0 delims.passes refl delims.pauses (left ∙ delims.whole)).1

reverse_spelled : (text rest : List ℕ) (r : Bool) → ReadsReverse text r rest → (turn : List ℕ) × SpellsReverse turn r × (text ≡ turn ++ rest)
reverse_spelled text rest true read =
    elim (or_cases (read.0 == 114) (read.0 == 82) read.1) [
      | inl lower ↦ (read.0 ∷ [], inl (ap (λ b. b ∷ []) (eqb-true read.0 114 lower)), read.2)
      | inr upper ↦ (read.0 ∷ [], inr (ap (λ b. b ∷ []) (eqb-true read.0 82 upper)), read.2)
    ]
reverse_spelled text rest false read = ([], refl, read.1)

-- what is read is spelled
pub macro_spelled : (text r₁ r₂ r₃ r₄ r₅ ds es : List ℕ) (b : ℕ) (m : Macro) → text ≡ b ∷ r₁ → letter_byte m.letter m.upper ≡ b → IsSpan is_ascii_digit r₁ ds r₂ → SpellsKeep ds m.keep
    → ReadsReverse r₂ m.reverse r₃ → IsSpan is_delimiter r₃ es r₄ → r₄ ≡ 125 ∷ r₅ → m.delims ≡ delimiter_set es → (front : List ℕ) × SpellsMacro (37 ∷ 123 ∷ front) m × (text ≡ front ++ r₅)
macro_spelled text r₁ r₂ r₃ r₄ r₅ ds es b m first letter digits keep turned delims end set =
    let turn = reverse_spelled r₂ r₃ m.reverse turned in (
      letter_byte m.letter m.upper ∷ (ds ++ (turn.0 ++ (es ++ 125 ∷ []))),
      record { digits = ds; turn = turn.0; delims = es; keeps = keep; reverses = turn.1; splits = (delims.passes, set); whole = refl },
      first ∙ ap (λ x. x ∷ r₁) (sym letter)
          ∙ ap (λ t. letter_byte m.letter m.upper ∷ t)
          (digits.whole ∙ ap (λ t. ds ++ t) (turn.2 ∙ ap (λ t. turn.0 ++ t) (delims.whole ∙ ap (λ t. es ++ t) end))
          ∙ sym (append_assoc ds (turn.0 ++ (es ++ 125 ∷ [])) r₅ ∙ ap (λ t. ds ++ t) (append_assoc turn.0 (es ++ 125 ∷ []) r₅ ∙ ap (λ t. turn.0 ++ t) (append_assoc es (125 ∷ []) r₅)))),
    )

-- ---- a macro text

pub more_spelled : (front part : List ℕ) (ps : List Piece) (p : Piece) → SpellsMacroText front ps → SpellsPiece part p → SpellsMacroText (front ++ part) (ps ++ p ∷ [])
more_spelled front part [] p h s = (part, [], s, refl, ap (λ f. f ++ part) h ∙ sym (append-nil part))
more_spelled front part (q ∷ qs) p h s = (h.0, h.1 ++ part, h.2, more_spelled h.1 part qs p h.3 s, ap (λ f. f ++ part) h.4 ∙ append_assoc h.0 h.1 part)

-- behind pieces that a text begins with stands a macro text, where the whole is one
pub rest_spelled : (front rest : List ℕ) (ps all : List Piece) → SpellsMacroText front ps → SpellsMacroText (front ++ rest) all → (qs : List Piece) × SpellsMacroText rest qs
rest_spelled front rest [] all h s = (all, subst (λ f. SpellsMacroText (f ++ rest) all) h s)
rest_spelled front rest (p ∷ ps) [] h s = absurd (not_nothing p (h.1 ++ rest) h.0 h.2 (sym (append_assoc h.0 h.1 rest) ∙ ap (λ f. f ++ rest) (sym h.4) ∙ s))
rest_spelled front rest (p ∷ ps) (q ∷ qs) h s =
    let same = first_piece h.0 s.0 (h.1 ++ rest) s.1 p q h.2 s.2 (sym (append_assoc h.0 h.1 rest) ∙ ap (λ f. f ++ rest) (sym h.4) ∙ s.4) in
    rest_spelled h.1 rest ps qs h.3 (subst (λ t. SpellsMacroText t qs) (sym same.1) s.3)

-- a text that begins with two bytes
pub two_first : (text : List ℕ) (a b : ℕ) → 2 ≤ length text → get_or text 0 0 ≡ a → get_or text 1 0 ≡ b → text ≡ a ∷ b ∷ take (length text - 2) (drop 2 text)
two_first [] a b long first second = absurd (omega arith)
two_first (x ∷ []) a b long first second = absurd (omega arith)
two_first (x ∷ y ∷ text) a b long first second =
    ap (λ c. c ∷ y ∷ text) first ∙ ap (λ c. a ∷ c ∷ text) second ∙ ap (λ t. a ∷ b ∷ t) (sym (take_all (length (x ∷ y ∷ text) - 2) text (omega arith)))

-- where a text begins with `%{` and behind it with no macro, it begins with no piece
pub no_macro : (text behind : List ℕ) → text ≡ 37 ∷ 123 ∷ behind → ((front rest : List ℕ) (m : Macro) → SpellsBehind front m → behind ≡ front ++ rest → ⊥)
    → (front rest : List ℕ) (p : Piece) → SpellsPiece front p → text ≡ front ++ rest → ⊥
no_macro text behind begins none front rest (Literal b) s whole = apart 123 0 refl (ap tag (sym begins ∙ whole) ∙ piece_tags front rest (Literal b) s)
no_macro text behind begins none front rest Percent s whole = apart 123 37 refl (ap tag (sym begins ∙ whole) ∙ piece_tags front rest Percent s)
no_macro text behind begins none front rest Space s whole = apart 123 95 refl (ap tag (sym begins ∙ whole) ∙ piece_tags front rest Space s)
no_macro text behind begins none front rest Percent20 s whole = apart 123 45 refl (ap tag (sym begins ∙ whole) ∙ piece_tags front rest Percent20 s)
no_macro text behind begins none front rest (Expand m) s whole =
    let inner = letter_byte m.letter m.upper ∷ (s.digits ++ (s.turn ++ (s.delims ++ 125 ∷ []))) in
    none inner rest m (subst (λ t. SpellsMacro t m) s.whole s) (tails (tails (sym begins ∙ whole ∙ ap (λ t. t ++ rest) s.whole)))

-- where a text is not empty and begins with no piece, it spells no macro text
pub no_piece : (text : List ℕ) → 0 < length text → ((front rest : List ℕ) (p : Piece) → SpellsPiece front p → text ≡ front ++ rest → ⊥) → (qs : List Piece) → SpellsMacroText text qs → ⊥
no_piece text some none [] s = omega (arith, ap length s)
no_piece text some none (q ∷ qs) s = none s.0 s.1 q s.2 s.4
