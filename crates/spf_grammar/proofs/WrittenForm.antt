-- The written form of a policy spells it, where a written address is read back.
use Rattle.std.proofs.Common.{◌≡◌, ℕ, ◌+◌, ◌≤◌, Bool, true, false, cond, List, [], ◌∷◌, ◌++◌, map, refl, sym, ◌∙◌, ap, subst, inl, inr, arith, append-nil, Option, Some, None}
use Rattle.std.proofs.lemmas.Bool.{and_parts, and_from, or_left, or_right, eqb-true, le-leb, cases_lt}
use Rattle.std.proofs.lemmas.Str.Ascii.{lowercase_is, lowercase-lowercase}
use Rattle.std.specs.Int.{is_in_range}
use Rattle.std.specs.Prelude.{nat_le}
use Rattle.std.proofs.lemmas.List.Concat.{flat_map-append}
use Rattle.std.specs.Prelude.{◌==◌, codes, decimal, flat_map}
use Rattle.std.specs.List.{list_all}
use Rattle.std.specs.Char.{is_ascii_alphabetic, to_ascii_lowercase}
use Rattle.std.specs.Str.{str_to_ascii_lowercase}
use Rattle.addr_bits.specs.Prefix.{Cidr, IsCidr}
use Rattle.addr_bits.specs.declared.address.Family.{Family}
use Rattle.addr_bits.specs.declared.address.Family.TheVariants.{V4, V6}
use Rattle.addr_bits.specs.Address.{bits_of, text_in}
use Rattle.addr_bits.specs.Ip4.{ip4_text}
use Rattle.addr_bits.specs.Ip6.{ip6_text}
use Rattle.addr_bits.specs.Laws.{WrittenAddress}
use Rattle.spf_macros.specs.declared.piece.Piece.{Piece}
use Rattle.spf_macros.specs.declared.piece.Piece.TheVariants.{Literal}
use Rattle.spf_macros.specs.Grammar.{SpellsDomainEnd, SpellsDomainSpec, written, written_piece}
use Rattle.spf_macros.proofs.WrittenForm.{text_written, piece_written}
use Rattle.spf_grammar.specs.declared.verdict.Verdict.{Verdict}
use Rattle.spf_grammar.specs.declared.verdict.Verdict.TheVariants.{Fail, SoftFail, Pass, Neutral}
use Rattle.spf_grammar.specs.declared.policy.Mechanism.{Mechanism}
use Rattle.spf_grammar.specs.declared.policy.Mechanism.TheVariants.{All, Include, A, Mx, Ptr, Ip4, Ip6, Exists}
use Rattle.spf_grammar.specs.declared.policy.Term.{Term}
use Rattle.spf_grammar.specs.declared.policy.Term.TheVariants.{Directive, Redirect, Exp, Unknown}
use Rattle.spf_grammar.specs.Grammar.{SpellsLen, SpellsTarget, SpellsHosts, SpellsNetwork, SpellsMechanism, SpellsQualifier, SpellsTerm, SpellsTerms, is_name, is_name_byte}
use Rattle.spf_grammar.specs.Written.{written_qualifier, written_len}
use Rattle.spf_grammar.specs.Policies.{written_target, written_hosts, written_mechanism, written_term}
use Rattle.spf_grammar.specs.Laws.{WrittenSpells}

-- ---- domain-specs

literals_written : (text : List ℕ) → written (map Literal text) ≡ text
literals_written [] = refl
literals_written (b ∷ bs) = ap (λ rest. b ∷ rest) (literals_written bs)

end_written : (text : List ℕ) (pieces : List Piece) → SpellsDomainEnd text pieces → SpellsDomainEnd (written pieces) pieces
end_written text pieces (inl h) =
    let same : text ≡ written pieces = sym (ap written h.5 ∙ literals_written text) in
    subst (λ t. SpellsDomainEnd t pieces) same (inl h)
end_written text pieces (inr h) =
    let same : written_piece h.0 ≡ written pieces = sym (ap written h.3 ∙ append-nil (written_piece h.0)) in
    subst (λ t. SpellsDomainEnd t pieces) same (inr (h.0, piece_written text h.0 h.1, h.2, h.3))

spec_written : (explain : Bool) (text : List ℕ) (spec : List Piece) → SpellsDomainSpec explain text spec → SpellsDomainSpec explain (written spec) spec
spec_written explain text spec h = record {
  front = written h.begins;
  end = written h.ends;
  begins = h.begins;
  ends = h.ends;
  first = text_written h.front h.begins h.first;
  last = end_written h.end h.ends h.last;
  letters = h.letters;
  whole = ap written h.all ∙ flat_map-append written_piece h.begins h.ends;
  all = h.all;
}

-- ---- the parts of mechanisms

target_written : (text : List ℕ) (spec : Option (List Piece)) → SpellsTarget text spec → SpellsTarget (written_target spec) spec
target_written text None h = refl
target_written text (Some spec) h = (written spec, spec_written false h.0 spec h.1, refl)

pub len_spelled : (slash : List ℕ) (most len : ℕ) → len ≤ most → SpellsLen slash most (written_len slash most len) len
len_spelled slash most len within = by_test (len == most) refl
  where
    by_test : (t : Bool) → (len == most) ≡ t → SpellsLen slash most (written_len slash most len) len
    by_test true e = inl (ap (λ b. cond b [] (slash ++ decimal len)) e, eqb-true len most e)
    by_test false e = inr (within, ap (λ b. cond b [] (slash ++ decimal len)) e)

len_within : (slash : List ℕ) (most : ℕ) (text : List ℕ) (len : ℕ) → SpellsLen slash most text len → len ≤ most
len_within slash most text len (inl g) = omega (arith, g.1)
len_within slash most text len (inr g) = g.0

len_written : (slash : List ℕ) (most : ℕ) (text : List ℕ) (len : ℕ) → SpellsLen slash most text len → SpellsLen slash most (written_len slash most len) len
len_written slash most text len h = len_spelled slash most len (len_within slash most text len h)

hosts_written : (text : List ℕ) (spec : Option (List Piece)) (l m : ℕ) → SpellsHosts spec l m text → SpellsHosts spec l m (written_hosts spec l m)
hosts_written text spec l m h = record {
  target = written_target spec;
  after4 = written_len (codes "/") 32 l;
  after6 = written_len (codes "//") 128 m;
  hosts = target_written h.target spec h.hosts;
  short4 = len_written (codes "/") 32 h.after4 l h.short4;
  short6 = len_written (codes "//") 128 h.after6 m h.short6;
  whole = refl;
}

pub network_spelled : WrittenAddress → (f : Family) (p : Cidr) → IsCidr (bits_of f) p → SpellsNetwork f p (58 ∷ (text_in f p.start ++ written_len (codes "/") (bits_of f) p.len))
network_spelled laws f p h = record {
  network = text_in f p.start;
  after = written_len (codes "/") (bits_of f) p.len;
  address = p.start;
  len = p.len;
  spells = laws.written f p.start h.within;
  short = len_spelled (codes "/") (bits_of f) p.len h.short;
  is_prefix = ap (λ s. record { start = s; len = p.len }) (sym h.cut);
  whole = refl;
}

network_written : WrittenAddress → (f : Family) (p : Cidr) (text : List ℕ) → SpellsNetwork f p text → SpellsNetwork f p (58 ∷ (text_in f p.start ++ written_len (codes "/") (bits_of f) p.len))
network_written laws f p text h =
    let within : h.len ≤ bits_of f = len_within (codes "/") (bits_of f) h.after h.len h.short in
    network_spelled laws f p (subst (IsCidr (bits_of f)) (sym h.is_prefix) (laws.prefix_is (bits_of f) h.len h.address within (laws.below f h.network h.address h.spells)))

mechanism_written : WrittenAddress → (text : List ℕ) (m : Mechanism) → SpellsMechanism text m → SpellsMechanism (written_mechanism m) m
mechanism_written laws text All h = refl
mechanism_written laws text (Include spec) h = (codes "include", written_target (Some spec), refl, target_written h.1 (Some spec) h.3, refl)
mechanism_written laws text (A spec l m) h = (codes "a", written_hosts spec l m, refl, hosts_written h.1 spec l m h.3, refl)
mechanism_written laws text (Mx spec l m) h = (codes "mx", written_hosts spec l m, refl, hosts_written h.1 spec l m h.3, refl)
mechanism_written laws text (Ptr spec) h = (codes "ptr", written_target spec, refl, target_written h.1 spec h.3, refl)
mechanism_written laws text (Ip4 p) h = (codes "ip4", 58 ∷ (ip4_text p.start ++ written_len (codes "/") 32 p.len), refl, network_written laws V4 p h.1 h.3, refl)
mechanism_written laws text (Ip6 p) h = (codes "ip6", 58 ∷ (ip6_text p.start ++ written_len (codes "/") 128 p.len), refl, network_written laws V6 p h.1 h.3, refl)
mechanism_written laws text (Exists spec) h = (codes "exists", written_target (Some spec), refl, target_written h.1 (Some spec) h.3, refl)

-- ---- terms and policies

qualifier_written : (text : List ℕ) (v : Verdict) → SpellsQualifier text v → SpellsQualifier (written_qualifier v) v
qualifier_written text Pass h = inl refl
qualifier_written text Fail h = refl
qualifier_written text SoftFail h = refl
qualifier_written text Neutral h = refl

-- what holds of a byte and of the lower-case letters holds of its lower case
lower_keeps : (p : ℕ → Bool) → ((c : ℕ) → 97 ≤ c → c ≤ 122 → p c ≡ true) → (b : ℕ) → p b ≡ true → p (to_ascii_lowercase b) ≡ true
lower_keeps p lower b h = elim (cases_lt b 65) [
  | inl small ↦ subst (λ c. p c ≡ true) (sym ((lowercase_is b).1 small)) h
  | inr from ↦ elim (cases_lt 90 b) [
    | inl large ↦ subst (λ c. p c ≡ true) (sym ((lowercase_is b).2 large)) h
    | inr to ↦ subst (λ c. p c ≡ true) (sym ((lowercase_is b).0 (from, to))) (lower (b + 32) (omega (arith, from)) (omega (arith, to)))
  ]
]

lower_letter : (c : ℕ) → 97 ≤ c → c ≤ 122 → is_ascii_alphabetic c ≡ true
lower_letter c low high = or_right (is_in_range 65 90 c) (is_in_range 97 122 c) (and_from (nat_le 97 c) (nat_le c 122) (le-leb 97 c low) (le-leb c 122 high))

lower_name_byte : (c : ℕ) → 97 ≤ c → c ≤ 122 → is_name_byte c ≡ true
lower_name_byte c low high = or_left _ _ (or_left _ _ (lower_letter c low high))

all_lower : (bs : List ℕ) → list_all is_name_byte bs ≡ true → list_all is_name_byte (str_to_ascii_lowercase bs) ≡ true
all_lower [] h = refl
all_lower (b ∷ bs) h = let split = and_parts (is_name_byte b) (list_all is_name_byte bs) h in
    and_from (is_name_byte (to_ascii_lowercase b)) (list_all is_name_byte (str_to_ascii_lowercase bs)) (lower_keeps is_name_byte lower_name_byte b split.0) (all_lower bs split.1)

name_lower : (front : List ℕ) → is_name front ≡ true → is_name (str_to_ascii_lowercase front) ≡ true
name_lower [] h = h
name_lower (b ∷ bs) h = let split = and_parts (is_ascii_alphabetic b) (list_all is_name_byte bs) h in
    and_from (is_ascii_alphabetic (to_ascii_lowercase b)) (list_all is_name_byte (str_to_ascii_lowercase bs)) (lower_keeps is_ascii_alphabetic lower_letter b split.0) (all_lower bs split.1)

lower_twice : (bs : List ℕ) → str_to_ascii_lowercase (str_to_ascii_lowercase bs) ≡ str_to_ascii_lowercase bs
lower_twice [] = refl
lower_twice (b ∷ bs) = ap (λ c. c ∷ str_to_ascii_lowercase (str_to_ascii_lowercase bs)) (lowercase-lowercase b) ∙ ap (λ l. to_ascii_lowercase b ∷ l) (lower_twice bs)

term_written : WrittenAddress → (text : List ℕ) (t : Term) → SpellsTerm text t → SpellsTerm (written_term t) t
term_written laws text (Directive v m) h =
    (written_qualifier v, written_mechanism m, qualifier_written h.0 v h.2, mechanism_written laws h.1 m h.3, refl)
term_written laws text (Redirect spec) h = (codes "redirect", 61 ∷ written spec, refl, (written spec, spec_written false h.3.0 spec h.3.1, refl), refl)
term_written laws text (Exp spec) h = (codes "exp", 61 ∷ written spec, refl, (written spec, spec_written true h.3.0 spec h.3.1, refl), refl)
term_written laws text (Unknown name value) h = record {
  front = name;
  rest = written value;
  named = subst (λ n. is_name n ≡ true) h.lower (name_lower h.front h.named);
  lower = subst (λ n. str_to_ascii_lowercase n ≡ n) h.lower (lower_twice h.front);
  no_redirect = h.no_redirect;
  no_exp = h.no_exp;
  spells = text_written h.rest value h.spells;
  whole = refl;
}

terms_written : WrittenAddress → (text : List ℕ) (ts : List Term) → SpellsTerms text ts → SpellsTerms (flat_map (λ t. 32 ∷ written_term t) ts) ts
terms_written laws text [] h = refl
terms_written laws text (t ∷ ts) h =
    ([], written_term t, flat_map (λ t. 32 ∷ written_term t) ts, refl, term_written laws h.1 t h.4, terms_written laws h.2 ts h.5, refl)

-- what is written spells the policy that some text spells
pub written_spells : WrittenAddress → WrittenSpells
written_spells laws policy some = let h = some.1 in record {
  version = codes "v=spf1";
  rest = flat_map (λ t. 32 ∷ written_term t) policy.terms;
  begins = refl;
  terms = terms_written laws h.rest policy.terms h.terms;
  one_redirect = h.one_redirect;
  one_exp = h.one_exp;
  whole = refl;
}
