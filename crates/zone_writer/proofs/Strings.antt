-- A text cut into character strings.
use Rattle.std.proofs.Common.{ℕ, zero, suc, ◌≡◌, ◌+◌, ◌*◌, ◌<◌, ◌≤◌, List, [], ◌∷◌, ◌++◌, length, take, drop, nat_lt, flat_map, refl, sym, ap, ◌∙◌, arith, append_assoc, append-nil}
use Rattle.std.proofs.lemmas.Bool.{cond-true, cond-false, lt-ltb, le-ltb}
use Rattle.zone_writer.specs.Fragment.{quoted, strings_of, strings_within}

-- a text of at most 255 octets is one string
pub last_string : (n : ℕ) (text : List ℕ) → length text ≤ 255 → strings_within n text ≡ text ∷ []
last_string zero text short = refl
last_string (suc n) text short = cond-false (nat_lt 255 (length text)) (take 255 text ∷ strings_within n (drop 255 text)) (text ∷ []) (le-ltb 255 (length text) short)

-- a longer one begins with a full string
pub full_string : (n : ℕ) (text : List ℕ) → 255 < length text → strings_within (suc n) text ≡ take 255 text ∷ strings_within n (drop 255 text)
full_string n text long = cond-true (nat_lt 255 (length text)) (take 255 text ∷ strings_within n (drop 255 text)) (text ∷ []) (lt-ltb 255 (length text) long)

-- the strings of the rest are what a zone lacks, and a number bounds how many full ones stand in it
abbrev pub Lacks : (zone whole rest : List ℕ) → Type 0
Lacks zone whole rest = (n : ℕ) × (length rest ≤ 255 * (n + 1)) × (zone ++ flat_map quoted (strings_within n rest) ≡ whole)

pub lacks_all : (zone text : List ℕ) → Lacks zone (zone ++ flat_map quoted (strings_of text)) text
lacks_all zone text = (length text, omega arith, refl)

-- a full string is written
pub lacks_less : (zone whole rest string behind new : List ℕ) → 255 < length rest → string ≡ take 255 rest → behind ≡ drop 255 rest → length behind + 255 ≡ length rest
    → new ≡ zone ++ quoted string → Lacks zone whole rest → Lacks new whole behind
lacks_less zone whole rest string behind new long s b len w (zero, bound, e) = absurd (omega arith)
lacks_less zone whole rest string behind new long s b len w (suc n, bound, e) = (
  n,
  omega arith,
  ap (λ z. z ++ flat_map quoted (strings_within n behind)) (w ∙ ap (λ t. zone ++ quoted t) s)
      ∙ append_assoc zone (quoted (take 255 rest)) (flat_map quoted (strings_within n behind))
      ∙ ap (λ t. zone ++ (quoted (take 255 rest) ++ flat_map quoted (strings_within n t))) b
      ∙ sym (ap (λ strings. zone ++ flat_map quoted strings) (full_string n rest long))
      ∙ e,
)

-- the last string is written
pub lacks_none : (zone whole rest new : List ℕ) → length rest ≤ 255 → new ≡ zone ++ quoted rest → Lacks zone whole rest → new ≡ whole
lacks_none zone whole rest new short w (n, bound, e) =
    w ∙ sym (ap (λ t. zone ++ t) (ap (λ strings. flat_map quoted strings) (last_string n rest short) ∙ append-nil (quoted rest))) ∙ e
