-- What a token says: its bytes, a word, a name.
use Rattle.std.specs.Prelude.{ℕ, Bool, false, not, ◌&&◌, List, [], ◌∷◌, ◌++◌, map, length, take, drop, Result, Ok, Err}
use Rattle.std.specs.Prelude.{bytes_eq, nat_lt, ◌==◌, if◌then◌else◌}
use Rattle.std.specs.List.{list_any, list_all, slice_split}
use Rattle.std.specs.Char.{is_ascii_digit}
use Rattle.std.specs.Str.{str_to_ascii_lowercase}
use Rattle.std.specs.Str.Parse.{digits_value}
use Rattle.dns_name.specs.declared.fault.NameFault.{NameFault}
use Rattle.dns_name.specs.Parts.{without_final, ends_so}
use Rattle.dns_name.specs.Name.{name_of_labels}
use Rattle.master_lex.specs.declared.entry.Octet.{Octet}
use Rattle.master_lex.specs.declared.entry.Token.{Token}
use Rattle.master_reader.specs.declared.fault.Kind.{Kind}
use Rattle.master_reader.specs.declared.fault.Kind.TheVariants.{BadName}

-- the bytes of octets, escaped or not
abbrev pub bytes_in : List Octet → List ℕ
bytes_in units = map (λ (o : Octet). o.byte) units

-- project's own form: the bytes of a token's octets, escaped or not
abbrev pub bytes_of : Token → List ℕ
bytes_of token = bytes_in token.units

-- a plain token without escapes
abbrev pub is_bare : Token → Bool
is_bare token = not token.quoted && not (list_any (λ o. o.escaped) token.units)

-- the octet is this byte without a `\`
abbrev pub is_unescaped : ℕ → Octet → Bool
is_unescaped b o = not o.escaped && (o.byte == b)

-- one octet, which passes the test
abbrev pub is_one : (Octet → Bool) → List Octet → Bool
is_one test [] = false
is_one test (o ∷ []) = test o
is_one test (o ∷ p ∷ more) = false

-- RFC 1035, section 2.3.3: the bytes are the word without regard to the case of ASCII letters; the word is in lower
-- case
abbrev pub is_word : Token → List ℕ → Bool
is_word token word = bytes_eq (str_to_ascii_lowercase (bytes_of token)) word

-- one or more decimal digits
abbrev pub are_digits : List ℕ → Bool
are_digits bytes = nat_lt 0 (length bytes) && list_all is_ascii_digit bytes

-- RFC 3597, section 5: the bytes are the word, without regard to case, and then digits
abbrev pub is_numbered_word : Token → List ℕ → Bool
is_numbered_word token word =
    bytes_eq (take (length word) (str_to_ascii_lowercase (bytes_of token))) word
    && are_digits (drop (length word) (bytes_of token))

-- the number behind the word
abbrev pub number_behind : List ℕ → Token → ℕ
number_behind word token = digits_value 10 (drop (length word) (bytes_of token))

-- ---- names

-- every fault of a name is one here
abbrev pub or_bad_name : Result (List (List ℕ)) NameFault → Result (List (List ℕ)) Kind
or_bad_name (Ok name) = Ok name
or_bad_name (Err fault) = Err BadName

-- RFC 1035, section 5.1: labels are cut at the dots without a `\`; a final such dot makes the name absolute, else the
-- origin follows
abbrev pub name_of_units : List (List ℕ) → List Octet → Result (List (List ℕ)) Kind
name_of_units origin units =
    let dot = is_unescaped 46 in
    let labels = map bytes_in (slice_split dot (without_final dot units)) in
    or_bad_name (name_of_labels (if ends_so dot units then labels else labels ++ origin))

-- RFC 1035, section 5.1: a plain `@` (64) without a `\` is the origin, and one dot without a `\` the root
abbrev pub name_in : List (List ℕ) → Token → Result (List (List ℕ)) Kind
name_in origin token =
    if not token.quoted && is_one (is_unescaped 64) token.units then Ok origin
    else (if is_one (is_unescaped 46) token.units then Ok []
    else name_of_units origin token.units)
