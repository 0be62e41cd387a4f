-- What readers of SPF records answer, in the project's own form, over the productions of RFC 7208, section 12.
use Rattle.std.specs.Prelude.{◌≡◌, ◌≢◌, ℕ, ◌≤◌, Bool, true, false, not, ◌&&◌, ◌||◌, ◌==◌, IsTrue, ◌⊎◌, List, [], ◌∷◌}
use Rattle.std.specs.Prelude.{◌++◌, decimal, codes, Option, Some, None}
use Rattle.std.specs.List.{list_all, list_any}
use Rattle.std.specs.Char.{is_ascii_digit}
use Rattle.addr_bits.specs.declared.address.Family.TheVariants.{V4, V6}
use Rattle.spf_macros.specs.declared.piece.Piece.{Piece}
use Rattle.spf_macros.specs.Grammar.{SpellsMacroText, SpellsDomainSpec}
use Rattle.spf_macros.specs.Laws.{IsMacroText}
use Rattle.spf_macros.specs.Reading.{Pauses}
use Rattle.spf_grammar.specs.declared.hosts.Hosts.{Hosts}
use Rattle.spf_grammar.specs.declared.keywords.Keyword.{Keyword}
use Rattle.spf_grammar.specs.declared.keywords.Keyword.TheVariants as keyword
use Rattle.spf_grammar.specs.declared.policy.Mechanism.{Mechanism}
use Rattle.spf_grammar.specs.declared.policy.Mechanism.TheVariants.{All, Include, A, Mx, Ptr, Ip4, Ip6, Exists}
use Rattle.spf_grammar.specs.declared.policy.Term.{Term}
use Rattle.spf_grammar.specs.declared.policy.Term.TheVariants.{Directive, Redirect, Exp, Unknown}
use Rattle.spf_grammar.specs.Grammar.{SaysWord, SpellsLen, SpellsTarget, SpellsHosts, SpellsNetwork, SpellsQualifier}
use Rattle.spf_grammar.specs.Grammar.{is_name, is_space}

-- ---- lengths

-- RFC 7208, section 12: a decimal number without leading zeros, up to the largest
abbrev pub SpellsNumber : ℕ → List ℕ → ℕ → Type 0
SpellsNumber most text n = (n ≤ most) × (text ≡ decimal n)

-- a digit or a slash
abbrev pub is_len_byte : ℕ → Bool
is_len_byte b = is_ascii_digit b || b == 47

-- some slash has nothing but digits and slashes behind it
abbrev pub ends_in_len : List ℕ → Bool
ends_in_len [] = false
ends_in_len (b ∷ bs) = (b == 47 && list_all is_len_byte bs) || ends_in_len bs

-- nothing, or a text that begins with a slash
abbrev pub IsSlashed : List ℕ → Type 0
IsSlashed [] = Unit {0}
IsSlashed (b ∷ bs) = b ≡ 47

-- a text as what stands before its lengths, and the lengths
pub record SplitsLens (text front lens : List ℕ) : Type 0 where
  pub whole : text ≡ front ++ lens
  pub ends : ends_in_len front ≡ false
  pub bytes : IsTrue (list_all is_len_byte lens)
  pub slashes : IsSlashed lens

-- the slash of a length
abbrev pub is_slash : ℕ → Bool
is_slash b = b == 47

-- a text that begins with no slash, or with two
abbrev pub HasNoFirst : List ℕ → Type 0
HasNoFirst [] = Unit {0}
HasNoFirst (b ∷ bs) = (is_slash b ≡ false) ⊎ ((rest : List ℕ) × (bs ≡ 47 ∷ rest))

-- lengths as the part behind one slash, and the rest
abbrev pub SplitsDual : List ℕ → List ℕ → List ℕ → Type 0
SplitsDual lens after4 after6 =
    ((after4 ≡ []) × (after6 ≡ lens) × HasNoFirst lens)
    ⊎ ((digits : List ℕ) × (after4 ≡ 47 ∷ digits) × IsTrue (list_all is_ascii_digit digits)
    × Pauses is_ascii_digit after6
    × Pauses is_slash (digits ++ after6) × (lens ≡ 47 ∷ (digits ++ after6)))

-- RFC 7208, section 12: two lengths, one behind the other
abbrev pub SpellsDual : List ℕ → ℕ × ℕ → Type 0
SpellsDual text lens =
    (after4 after6 : List ℕ) × SpellsLen (codes "/") 32 after4 lens.0 × SpellsLen (codes "//") 128 after6 lens.1
    × (text ≡ after4 ++ after6)

-- ---- what stands behind the name of a mechanism

-- RFC 7208, section 12: ":" domain-spec
abbrev pub SpellsRequired : List ℕ → List Piece → Type 0
SpellsRequired text spec = SpellsTarget text (Some spec)

-- RFC 7208, section 12: a domain-spec and two lengths
abbrev pub SpellsAsHosts : List ℕ → Hosts → Type 0
SpellsAsHosts text hosts = SpellsHosts hosts.target hosts.len4 hosts.len6 text

-- a byte that ends no network
abbrev pub is_no_slash : ℕ → Bool
is_no_slash b = not (b == 47)

-- the name of a mechanism
abbrev pub word : Keyword → List ℕ
word keyword.All = codes "all"
word keyword.Include = codes "include"
word keyword.A = codes "a"
word keyword.Mx = codes "mx"
word keyword.Ptr = codes "ptr"
word keyword.Ip4 = codes "ip4"
word keyword.Ip6 = codes "ip6"
word keyword.Exists = codes "exists"

-- RFC 7208, section 5: which mechanism it is
abbrev pub keyword_of : Mechanism → Keyword
keyword_of All = keyword.All
keyword_of (Include spec) = keyword.Include
keyword_of (A spec len4 len6) = keyword.A
keyword_of (Mx spec len4 len6) = keyword.Mx
keyword_of (Ptr spec) = keyword.Ptr
keyword_of (Ip4 p) = keyword.Ip4
keyword_of (Ip6 p) = keyword.Ip6
keyword_of (Exists spec) = keyword.Exists

-- RFC 7208, section 12: what stands behind the name of a mechanism
abbrev pub BehindMechanism : Mechanism → List ℕ → Type 0
BehindMechanism All rest = rest ≡ []
BehindMechanism (Include spec) rest = SpellsTarget rest (Some spec)
BehindMechanism (A spec l m) rest = SpellsHosts spec l m rest
BehindMechanism (Mx spec l m) rest = SpellsHosts spec l m rest
BehindMechanism (Ptr spec) rest = SpellsTarget rest spec
BehindMechanism (Ip4 p) rest = SpellsNetwork V4 p rest
BehindMechanism (Ip6 p) rest = SpellsNetwork V6 p rest
BehindMechanism (Exists spec) rest = SpellsTarget rest (Some spec)

-- a mechanism of this name
abbrev pub SpellsBehind : Keyword → List ℕ → Mechanism → Type 0
SpellsBehind k text m = (keyword_of m ≡ k) × BehindMechanism m text

-- ---- terms

-- RFC 7208, section 4.6.2: the byte of a qualifier
abbrev pub is_mark : ℕ → Bool
is_mark b = list_any (λ x. b == x) (codes "+-~?")

-- nothing, or one byte of a qualifier
abbrev pub IsMark : List ℕ → Type 0
IsMark mark = (mark ≡ []) ⊎ ((b : ℕ) × (mark ≡ b ∷ []) × IsTrue (is_mark b))

-- the qualifier that a text begins with, or nothing where it begins with none
abbrev pub BeginsMarked : List ℕ → List ℕ → Type 0
BeginsMarked text mark = ((mark ≡ []) × Pauses is_mark text) ⊎ ((b : ℕ) × (mark ≡ b ∷ []) × IsTrue (is_mark b))

-- a text as its qualifier and the rest
abbrev pub SplitsMark : List ℕ → List ℕ → List ℕ → Type 0
SplitsMark text mark rest = BeginsMarked text mark × (text ≡ mark ++ rest)

-- RFC 7208, section 6: a modifier of this name, by its value
abbrev pub SpellsModifier : List ℕ → List ℕ → Term → Type 0
SpellsModifier name value (Directive verdict mechanism) = ⊥
SpellsModifier name value (Redirect spec) = SaysWord name (codes "redirect") × SpellsDomainSpec false value spec
SpellsModifier name value (Exp spec) = SaysWord name (codes "exp") × SpellsDomainSpec true value spec
SpellsModifier name value (Unknown lower pieces) =
    IsTrue (is_name name) × SaysWord name lower × (lower ≢ codes "redirect") × (lower ≢ codes "exp")
    × SpellsMacroText value pieces

-- RFC 7208, section 4.6.1: a directive of this qualifier and name
abbrev pub SpellsDirective : List ℕ → List ℕ → List ℕ → Term → Type 0
SpellsDirective mark name rest (Directive verdict m) =
    SpellsQualifier mark verdict × SaysWord name (word (keyword_of m)) × BehindMechanism m rest
SpellsDirective mark name rest (Redirect spec) = ⊥
SpellsDirective mark name rest (Exp spec) = ⊥
SpellsDirective mark name rest (Unknown lower pieces) = ⊥

-- ---- words of a record

-- a byte that ends no word
abbrev pub no_space : ℕ → Bool
no_space b = not (b == 32)

-- a word, with a byte at its head and none that is a space
abbrev pub IsWord : List ℕ → Type 0
IsWord [] = ⊥
IsWord (b ∷ bs) = IsTrue (list_all no_space (b ∷ bs))

-- RFC 7208, section 4.5: a version section, and what stands behind it
pub record BehindVersion (text rest : List ℕ) : Type 0 where
  pub version : List ℕ
  pub says : SaysWord version (codes "v=spf1")
  pub pauses : Pauses no_space rest
  pub whole : text ≡ version ++ rest

-- a text as spaces, a word, and the rest, which is empty or begins with a space
pub record SplitsWord (text word rest : List ℕ) : Type 0 where
  pub gap : List ℕ
  pub spaces : IsTrue (list_all is_space gap)
  pub is_word : IsWord word
  pub pauses : Pauses no_space rest
  pub whole : text ≡ gap ++ (word ++ rest)

-- ---- macro texts that are written

-- the domain-spec of a mechanism is a macro text, where it is written
abbrev pub TargetIsText : Option (List Piece) → Type 0
TargetIsText None = Unit {0}
TargetIsText (Some spec) = IsMacroText spec

-- the macro text of a mechanism is one
abbrev pub MechanismHasText : Mechanism → Type 0
MechanismHasText All = Unit {0}
MechanismHasText (Include spec) = IsMacroText spec
MechanismHasText (A spec l m) = TargetIsText spec
MechanismHasText (Mx spec l m) = TargetIsText spec
MechanismHasText (Ptr spec) = TargetIsText spec
MechanismHasText (Ip4 p) = Unit {0}
MechanismHasText (Ip6 p) = Unit {0}
MechanismHasText (Exists spec) = IsMacroText spec

-- the macro text of a term is one
abbrev pub TermHasText : Term → Type 0
TermHasText (Directive verdict m) = MechanismHasText m
TermHasText (Redirect spec) = IsMacroText spec
TermHasText (Exp spec) = IsMacroText spec
TermHasText (Unknown name value) = IsMacroText value

-- the macro text of each term is one
abbrev pub TermsHaveTexts : List Term → Type 0
TermsHaveTexts [] = Unit {0}
TermsHaveTexts (t ∷ ts) = TermHasText t × TermsHaveTexts ts
