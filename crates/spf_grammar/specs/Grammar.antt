-- SPF records by the productions of RFC 7208, section 12, between texts and policies.
use Rattle.std.specs.Prelude.{◌≡◌, ◌≢◌, ℕ, ◌≤◌, Bool, true, false, ◌&&◌, ◌||◌, ◌==◌, IsTrue, ◌⊎◌, List, [], ◌∷◌, ◌++◌}
use Rattle.std.specs.Prelude.{count_by, decimal, codes, Option, Some, None}
use Rattle.std.specs.List.{list_all, list_any}
use Rattle.std.specs.Char.{is_ascii_alphabetic, is_ascii_digit}
use Rattle.std.specs.Str.{str_to_ascii_lowercase}
use Rattle.addr_bits.specs.Prefix.{Cidr, cidr_of}
use Rattle.addr_bits.specs.Address.{bits_of, SpellsIn}
use Rattle.addr_bits.specs.declared.address.Family.{Family}
use Rattle.addr_bits.specs.declared.address.Family.TheVariants.{V4, V6}
use Rattle.spf_macros.specs.declared.piece.Piece.{Piece}
use Rattle.spf_macros.specs.Grammar.{SpellsMacroText, SpellsDomainSpec}
use Rattle.spf_macros.specs.Reading.{Reads}
use Rattle.spf_grammar.specs.declared.verdict.Verdict.{Verdict}
use Rattle.spf_grammar.specs.declared.verdict.Verdict.TheVariants.{Fail, SoftFail, Pass, Neutral}
use Rattle.spf_grammar.specs.declared.policy.Mechanism.{Mechanism}
use Rattle.spf_grammar.specs.declared.policy.Mechanism.TheVariants.{All, Include, A, Mx, Ptr, Ip4, Ip6, Exists}
use Rattle.spf_grammar.specs.declared.policy.Term.{Term}
use Rattle.spf_grammar.specs.declared.policy.Term.TheVariants.{Directive, Redirect, Exp, Unknown}
use Rattle.spf_grammar.specs.declared.policy.Policy.{Policy}

-- RFC 7208, section 4.6.1: the text is the word in letters of either case; the word is in lower case
abbrev pub SaysWord : List ℕ → List ℕ → Type 0
SaysWord text word = str_to_ascii_lowercase text ≡ word

-- RFC 7208, section 12: ip4-cidr-length and ip6-cidr-length after their slash, or nothing for the longest
abbrev pub SpellsLen : List ℕ → ℕ → List ℕ → ℕ → Type 0
SpellsLen slash most text len =
    ((text ≡ []) × (len ≡ most)) ⊎ ((len ≤ most) × (text ≡ slash ++ decimal len))

-- RFC 7208, section 12: [ ":" domain-spec ] of a directive
abbrev pub SpellsTarget : List ℕ → Option (List Piece) → Type 0
SpellsTarget text None = text ≡ []
SpellsTarget text (Some spec) = (rest : List ℕ) × SpellsDomainSpec false rest spec × (text ≡ 58 ∷ rest)

-- RFC 7208, section 12: a name with a part behind it
abbrev pub SpellsWith : List ℕ → (List ℕ → Type 0) → List ℕ → Type 0
SpellsWith name Part text = (front rest : List ℕ) × SaysWord front name × Part rest × (text ≡ front ++ rest)

-- RFC 7208, section 12: [ ":" domain-spec ] [ dual-cidr-length ]
pub record SpellsHosts (spec : Option (List Piece)) (len4 len6 : ℕ) (text : List ℕ) : Type 0 where
  pub target : List ℕ
  pub after4 : List ℕ
  pub after6 : List ℕ
  pub hosts : SpellsTarget target spec
  pub short4 : SpellsLen (codes "/") 32 after4 len4
  pub short6 : SpellsLen (codes "//") 128 after6 len6
  pub whole : text ≡ target ++ (after4 ++ after6)

-- RFC 7208, section 12: ":" ip4-network [ ip4-cidr-length ], and the same of IPv6. A network is held as the prefix that
-- it lies in
pub record SpellsNetwork (f : Family) (p : Cidr) (text : List ℕ) : Type 0 where
  pub network : List ℕ
  pub after : List ℕ
  pub address : ℕ
  pub len : ℕ
  pub spells : SpellsIn f network address
  pub short : SpellsLen (codes "/") (bits_of f) after len
  pub is_prefix : p ≡ cidr_of (bits_of f) len address
  pub whole : text ≡ 58 ∷ (network ++ after)

-- RFC 7208, section 12: mechanism
abbrev pub SpellsMechanism : List ℕ → Mechanism → Type 0
SpellsMechanism text All = SaysWord text (codes "all")
SpellsMechanism text (Include spec) = SpellsWith (codes "include") (λ rest. SpellsTarget rest (Some spec)) text
SpellsMechanism text (A spec len4 len6) = SpellsWith (codes "a") (SpellsHosts spec len4 len6) text
SpellsMechanism text (Mx spec len4 len6) = SpellsWith (codes "mx") (SpellsHosts spec len4 len6) text
SpellsMechanism text (Ptr spec) = SpellsWith (codes "ptr") (λ rest. SpellsTarget rest spec) text
SpellsMechanism text (Ip4 p) = SpellsWith (codes "ip4") (SpellsNetwork V4 p) text
SpellsMechanism text (Ip6 p) = SpellsWith (codes "ip6") (SpellsNetwork V6 p) text
SpellsMechanism text (Exists spec) = SpellsWith (codes "exists") (λ rest. SpellsTarget rest (Some spec)) text

-- RFC 7208, section 4.6.2: [ qualifier ]
abbrev pub SpellsQualifier : List ℕ → Verdict → Type 0
SpellsQualifier text Pass = (text ≡ []) ⊎ (text ≡ codes "+")
SpellsQualifier text Fail = text ≡ codes "-"
SpellsQualifier text SoftFail = text ≡ codes "~"
SpellsQualifier text Neutral = text ≡ codes "?"

-- RFC 7208, section 12: a byte of a name
abbrev pub is_name_byte : ℕ → Bool
is_name_byte c = is_ascii_alphabetic c || is_ascii_digit c || list_any (λ x. c == x) (codes "-_.")

-- RFC 7208, section 12: name = ALPHA *( ALPHA / DIGIT / "-" / "_" / "." )
abbrev pub is_name : List ℕ → Bool
is_name [] = false
is_name (b ∷ bs) = is_ascii_alphabetic b && list_all is_name_byte bs

-- RFC 7208, section 12: unknown-modifier = name "=" macro-string, of a name that no other modifier has; that the name
-- is held in lower case is the project's own choice
pub record SpellsUnknown (text name : List ℕ) (value : List Piece) : Type 0 where
  pub front : List ℕ
  pub rest : List ℕ
  pub named : IsTrue (is_name front)
  pub lower : SaysWord front name
  pub no_redirect : name ≢ codes "redirect"
  pub no_exp : name ≢ codes "exp"
  pub spells : SpellsMacroText rest value
  pub whole : text ≡ front ++ 61 ∷ rest

-- RFC 7208, section 12: directive / modifier
abbrev pub SpellsTerm : List ℕ → Term → Type 0
SpellsTerm text (Directive verdict mechanism) =
    (front rest : List ℕ) × SpellsQualifier front verdict × SpellsMechanism rest mechanism × (text ≡ front ++ rest)
SpellsTerm text (Redirect spec) =
    SpellsWith (codes "redirect") (λ rest. (value : List ℕ) × SpellsDomainSpec false value spec
    × (rest ≡ 61 ∷ value)) text
SpellsTerm text (Exp spec) =
    SpellsWith (codes "exp") (λ rest. (value : List ℕ) × SpellsDomainSpec true value spec × (rest ≡ 61 ∷ value)) text
SpellsTerm text (Unknown name value) = SpellsUnknown text name value

-- RFC 7208, section 12: SP
abbrev pub is_space : ℕ → Bool
is_space b = b == 32

-- RFC 7208, section 12: *( 1*SP ( directive / modifier ) ) *SP
abbrev pub SpellsTerms : List ℕ → List Term → Type 0
SpellsTerms text [] = IsTrue (list_all is_space text)
SpellsTerms text (term ∷ terms) =
    (gap word rest : List ℕ) × IsTrue (list_all is_space gap) × SpellsTerm word term × SpellsTerms rest terms
    × (text ≡ 32 ∷ (gap ++ (word ++ rest)))

-- RFC 7208, section 6.1: a `redirect` modifier
abbrev pub is_redirect : Term → Bool
is_redirect (Redirect spec) = true
is_redirect (Directive verdict mechanism) = false
is_redirect (Exp spec) = false
is_redirect (Unknown name value) = false

-- RFC 7208, section 6.2: an `exp` modifier
abbrev pub is_exp : Term → Bool
is_exp (Exp spec) = true
is_exp (Directive verdict mechanism) = false
is_exp (Redirect spec) = false
is_exp (Unknown name value) = false

-- RFC 7208, section 4.5: record = version terms *SP, with each of `redirect` and `exp` at most once (section 6)
pub record SpellsPolicy (text : List ℕ) (policy : Policy) : Type 0 where
  pub version : List ℕ
  pub rest : List ℕ
  pub begins : SaysWord version (codes "v=spf1")
  pub terms : SpellsTerms rest policy.terms
  pub one_redirect : count_by is_redirect policy.terms ≤ 1
  pub one_exp : count_by is_exp policy.terms ≤ 1
  pub whole : text ≡ version ++ rest

-- RFC 7208, section 12: what the grammar makes of a text, its policy, or none
abbrev pub ReadAs : List ℕ → Option Policy → Type 0
ReadAs text read = Reads SpellsPolicy text read
