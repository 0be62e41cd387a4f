-- The written form of a macro text spells it.
use Rattle.std.proofs.Common.{◌≡◌, ℕ, zero, suc, ◌<◌, ◌≤◌, min, Bool, true, false, cond, List, [], ◌∷◌, length, refl, sym, subst, inl, arith, codes, if◌then◌else◌}
use Rattle.std.proofs.lemmas.Bool.{agree_below_at, eqb-true}
use Rattle.std.proofs.lemmas.Fmt.{decimal_is_IsNumeral}
use Rattle.std.specs.Prelude.{◌==◌, filter, decimal}
use Rattle.std.specs.List.{list_all, list_any}
use Rattle.std.specs.Str.Parse.{AllDigits, digits_value}
use Rattle.spf_macros.specs.declared.piece.Macro.{Macro}
use Rattle.spf_macros.specs.declared.piece.Piece.{Piece}
use Rattle.spf_macros.specs.declared.piece.Piece.TheVariants.{Literal, Percent, Space, Percent20, Expand}
use Rattle.spf_macros.specs.Grammar.{is_delimiter, delimiter_set, is_in_set, SpellsKeep, SpellsReverse, SpellsMacro, SpellsPiece, SpellsMacroText, written_macro, written_piece, written}
use Rattle.spf_macros.specs.Laws.{WrittenSpells}

-- ---- delimiters

one_bit : (b : Bool) (n : ℕ) → cond b n 0 ≤ n
one_bit true n = omega arith
one_bit false n = omega arith

-- a set of delimiters is a number below 128
small_set : (ds : List ℕ) → delimiter_set ds < 128
small_set ds = omega (arith, bit 46 1, bit 45 2, bit 43 4, bit 44 8, bit 47 16, bit 95 32, bit 61 64)
  where
    bit : (c n : ℕ) → cond (list_any (λ b. b == c) ds) n 0 ≤ n
    bit c n = one_bit (list_any (λ b. b == c) ds) n

-- the delimiters that are written for a set
abbrev written_set : ℕ → List ℕ
written_set set = filter (is_in_set set) (codes ".-+,/_=")

written_again : (set : ℕ) → set < 128 → (delimiter_set (written_set set) == set) ≡ true
written_again set small = agree_below_at (λ n. delimiter_set (written_set n) == n) (λ n. true) 128 set refl small

all_written : (set : ℕ) → set < 128 → list_all is_delimiter (written_set set) ≡ true
all_written set small = agree_below_at (λ n. list_all is_delimiter (written_set n)) (λ n. true) 128 set refl small

-- ---- numbers of parts

keep_small : (digits : List ℕ) (keep : ℕ) → SpellsKeep digits keep → keep ≤ 255
keep_small [] keep h = omega (arith, h)
keep_small (d ∷ ds) keep h = omega (arith, h.2, at_most (digits_value 10 (d ∷ ds)))
  where
    at_most : (n : ℕ) → min n 255 ≤ 255
    at_most n = omega arith

abbrev written_keep : ℕ → List ℕ
written_keep keep = if keep == 0 then [] else decimal keep

keep_written : (keep : ℕ) → keep ≤ 255 → SpellsKeep (written_keep keep) keep
keep_written keep small = by_test (keep == 0) refl
  where
    digits_keep : (ds : List ℕ) → 0 < length ds → AllDigits 10 ds → digits_value 10 ds ≡ keep → 0 < keep → SpellsKeep ds keep
    digits_keep [] some all value positive = absurd (omega (arith, some))
    digits_keep (d ∷ ds) some all value positive = (all, subst (λ n. 0 < n) (sym value) positive, least)
      where
        least : keep ≡ min (digits_value 10 (d ∷ ds)) 255
        least = omega (arith, value, small)

    by_test : (t : Bool) → (keep == 0) ≡ t → SpellsKeep (if keep == 0 then [] else decimal keep) keep
    by_test true e = subst (λ b. SpellsKeep (cond b [] (decimal keep)) keep) (sym e) (eqb-true keep 0 e)
    by_test false e = subst (λ b. SpellsKeep (cond b [] (decimal keep)) keep) (sym e)
        (let numeral = decimal_is_IsNumeral keep (omega (arith, small)) in digits_keep (decimal keep) numeral.0.0 numeral.0.1 numeral.1 (positive keep e))
      where
        positive : (n : ℕ) → (n == 0) ≡ false → 0 < n
        positive zero e = absurd (no e)
          where
            no : true ≡ false → ⊥
            no h = cc
        positive (suc n) e = omega arith

-- ---- macros and texts

reverse_written : (r : Bool) → SpellsReverse (if r then codes "r" else []) r
reverse_written true = inl refl
reverse_written false = refl

macro_written : (text : List ℕ) (m : Macro) → SpellsMacro text m → SpellsMacro (written_macro m) m
macro_written text m h =
    let small : m.delims < 128 = subst (λ n. n < 128) (sym h.splits.1) (small_set h.delims) in
    record {
      digits = written_keep m.keep;
      turn = if m.reverse then codes "r" else [];
      delims = written_set m.delims;
      keeps = keep_written m.keep (keep_small h.digits m.keep h.keeps);
      reverses = reverse_written m.reverse;
      splits = (all_written m.delims small, sym (eqb-true (delimiter_set (written_set m.delims)) m.delims (written_again m.delims small)));
      whole = refl;
    }

pub piece_written : (text : List ℕ) (p : Piece) → SpellsPiece text p → SpellsPiece (written_piece p) p
piece_written text (Literal b) h = (h.0, refl)
piece_written text Percent h = refl
piece_written text Space h = refl
piece_written text Percent20 h = refl
piece_written text (Expand m) h = macro_written text m h

pub text_written : (text : List ℕ) (pieces : List Piece) → SpellsMacroText text pieces → SpellsMacroText (written pieces) pieces
text_written text [] h = refl
text_written text (p ∷ ps) h = (written_piece p, written ps, piece_written h.0 p h.2, text_written h.1 ps h.3, refl)

-- what is written spells the pieces that some text spells
pub written_spells : WrittenSpells
written_spells pieces h = text_written h.0 pieces h.1
