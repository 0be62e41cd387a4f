-- The escapes of upper-case macros are those of `percent_encoding` for its set of all but the unreserved bytes.
use Rattle.std.proofs.Common.{◌≡◌, ℕ, zero, suc, ◌/◌, ◌%◌, ◌<◌, ◌||◌, ◌==◌, Bool, true, false, not, cond, List, [], ◌∷◌, ◌++◌, get_or, flat_map, codes, refl, ap, ap₂, ◌∙◌, arith}
use Rattle.std.specs.List.{list_any}
use Rattle.std.specs.Char.{is_ascii_alphabetic, is_ascii_digit}
use Rattle.std.proofs.lemmas.Bool.{agree_below_at}
use Rattle.percent_encoding.specs.AsciiSet.{should_percent_encode}
use Rattle.percent_encoding.specs.Percent.{percent_encode_byte, encode_byte, percent_encode}
use Rattle.spf_macros.specs.declared.expansion.TheConstants.{RESERVED}
use Rattle.spf_macros.specs.Expansion.{hex_upper, escaped_byte}

abbrev is_unreserved : ℕ → Bool
is_unreserved b = is_ascii_alphabetic b || is_ascii_digit b || list_any (λ x. b == x) (codes "-._~")

same_test : (b : ℕ) → b < 256 → should_percent_encode RESERVED b ≡ not (is_unreserved b)
unfolding should_percent_encode
same_test b small = agree_below_at (should_percent_encode RESERVED) (λ x. not (is_unreserved x)) 256 b refl small

same_escape : (b : ℕ) → b < 256 → percent_encode_byte b ≡ 37 ∷ hex_upper (b / 16) ∷ hex_upper (b % 16) ∷ []
unfolding percent_encode_byte
same_escape b small =
    let high : b / 16 % 16 ≡ b / 16 = omega arith in
    ap (λ (d : ℕ). 37 ∷ hex_upper d ∷ hex_upper (b % 16) ∷ []) high

either_way : (kept : Bool) (escape other own : List ℕ) → escape ≡ other → cond (not kept) escape own ≡ cond kept own other
either_way true escape other own e = refl
either_way false escape other own e = e

same_byte : (b : ℕ) → b < 256 → encode_byte RESERVED b ≡ escaped_byte b
same_byte b small =
    ap (λ (t : Bool). cond t (percent_encode_byte b) (b ∷ [])) (same_test b small)
    ∙ either_way (is_unreserved b) (percent_encode_byte b) (37 ∷ hex_upper (b / 16) ∷ hex_upper (b % 16) ∷ []) (b ∷ []) (same_escape b small)

pub same_escapes : (text : List ℕ) → ((k : ℕ) → get_or text k 0 < 256) → percent_encode RESERVED text ≡ flat_map escaped_byte text
unfolding percent_encode
same_escapes [] small = refl
same_escapes (b ∷ text) small = ap₂ (λ (x y : List ℕ). x ++ y) (same_byte b (small zero)) (same_escapes text (λ k. small (suc k)))
