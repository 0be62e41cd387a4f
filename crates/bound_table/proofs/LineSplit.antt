-- A file is cut into lines one by one.
use Rattle.std.proofs.Common.{◌≡◌, ℕ, ◌<◌, true, false, List, [], ◌∷◌, ◌++◌, length, refl, ◌∙◌, ap, append-nil, arith}
use Rattle.std.proofs.lemmas.Bool.{and_parts, not-true}
use Rattle.std.specs.List.{list_all}
use Rattle.std.specs.Prelude.{◌==◌}
use Rattle.spf_macros.specs.Reading.{IsSpan}
use Rattle.bound_table.specs.Parts.{is_other, IsCut}
use Rattle.bound_table.specs.Reading.{in_front, lines_of}

-- a line feed ends the first line
pub ended : (front rest : List ℕ) → list_all (is_other 10) front ≡ true → lines_of (front ++ 10 ∷ rest) ≡ front ∷ lines_of rest
unfolding lines_of
ended [] rest h = refl
ended (x ∷ front) rest h =
    let parts = and_parts (is_other 10 x) (list_all (is_other 10) front) h in
    let e : (x == 10) ≡ false = not-true (x == 10) parts.0 in
    rw e (ap (in_front x) (ended front rest parts.1))

-- without a line feed all is one line
open_line : (x : ℕ) (front : List ℕ) → list_all (is_other 10) (x ∷ front) ≡ true → lines_of (x ∷ front) ≡ (x ∷ front) ∷ []
unfolding lines_of
open_line x [] h =
    let parts = and_parts (is_other 10 x) true h in
    let e : (x == 10) ≡ false = not-true (x == 10) parts.0 in
    rw e refl
open_line x (y ∷ front) h =
    let parts = and_parts (is_other 10 x) (list_all (is_other 10) (y ∷ front)) h in
    let e : (x == 10) ≡ false = not-true (x == 10) parts.0 in
    rw e (ap (in_front x) (open_line y front parts.1))

pub cut_lines : (text front rest : List ℕ) → IsCut 10 text front rest → lines_of text ≡ front ∷ lines_of rest
cut_lines text front rest c = ap lines_of c.whole ∙ ended front rest c.others

pub last_line : (text front rest : List ℕ) → 0 < length text → IsSpan (is_other 10) text front rest → length rest ≡ 0 → lines_of text ≡ front ∷ lines_of rest
unfolding lines_of
last_line text [] [] some s none = absurd (let empty : length text ≡ 0 = ap length s.whole in omega arith)
last_line text (x ∷ front) [] some s none = ap lines_of (s.whole ∙ append-nil (x ∷ front)) ∙ open_line x front s.passes
last_line text front (y ∷ rest) some s none = absurd (omega arith)

pub no_lines : (text : List ℕ) → length text ≡ 0 → lines_of text ≡ []
unfolding lines_of
no_lines [] none = refl
no_lines (x ∷ text) none = absurd (omega arith)
