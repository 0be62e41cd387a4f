-- A record is cut into its version section and its terms in one way.
use Rattle.std.proofs.Common.{◌≡◌, ◌≢◌, ℕ, suc, ◌<◌, ◌≤◌, Bool, true, false, not, List, [], ◌∷◌, ◌++◌, length, take, drop, refl, sym, ◌∙◌, ap, subst, append_assoc, append-nil, length-append, take-append-drop, take_at, drop_at, arith}
use Rattle.std.proofs.lemmas.Bool.{and_parts, and_from, both_ways, eqb-true, not_from_true}
use Rattle.std.proofs.lemmas.Slice.Eq.{bytes_eq-Decides}
use Rattle.std.specs.Prelude.{◌==◌, codes, count_by, bytes_eq}
use Rattle.std.specs.List.{list_all}
use Rattle.std.specs.Str.{str_to_ascii_lowercase}
use Rattle.addr_bits.proofs.Texts.{one_address}
use Rattle.spf_text.specs.Version.{is_spf_text, ends_version}
use Rattle.spf_macros.specs.Reading.{Pauses, IsSpan}
use Rattle.spf_macros.proofs.OneReading.{spans}
use Rattle.spf_macros.proofs.Spans.{one_span}
use Rattle.spf_grammar.specs.declared.policy.Term.{Term}
use Rattle.spf_grammar.specs.declared.policy.Policy.{Policy}
use Rattle.spf_grammar.specs.Grammar.{SaysWord, SpellsTerm, SpellsTerms, SpellsPolicy, is_space, is_redirect, is_exp}
use Rattle.spf_grammar.specs.Reading.{no_space, IsWord, SplitsWord, BehindVersion}
use Rattle.spf_grammar.proofs.OnePolicy.{lower_all, upper_no_space, term_word, terms_pause, word_stops, word_passes, no_spaces_alone, one_terms}

-- ---- words

-- behind spaces stands a word, where anything stands there
pub word_there : (rest word behind : List ℕ) → rest ≢ [] → Pauses is_space rest → IsSpan no_space rest word behind → IsWord word
word_there rest [] [] some pauses s = some s.whole
word_there rest [] (b ∷ bs) some pauses s =
    let space : (b == 32) ≡ false = subst (λ t. Pauses is_space t) s.whole pauses in
    both_ways (not (b == 32)) s.pauses (ap not space)
word_there rest (b ∷ bs) behind some pauses s = s.passes

pub all_spaces : (text gap rest : List ℕ) → rest ≡ [] → IsSpan is_space text gap rest → list_all is_space text ≡ true
all_spaces text gap rest none s = ap (list_all is_space) (s.whole ∙ ap (λ t. gap ++ t) none ∙ append-nil gap) ∙ s.passes

word_some : (word : List ℕ) → IsWord word → 0 < length word
word_some [] h = absurd h
word_some (b ∷ bs) h = omega arith

pub word_shortens : (text word rest : List ℕ) → SplitsWord text word rest → length rest < length text
word_shortens text word rest s =
    omega (arith, word_some word s.is_word, ap length s.whole, length-append s.gap (word ++ rest), length-append word rest)

-- ---- terms

-- the terms so far, and what is left of the text
pub record Progress (text rest : List ℕ) (terms : List Term) : Type 0 where
  pub forth : (more : List Term) → SpellsTerms rest more → SpellsTerms text (terms ++ more)
  pub back : (all : List Term) → SpellsTerms text all → (more : List Term) × SpellsTerms rest more
  pub pauses : Pauses no_space rest

pub starts : (text : List ℕ) (terms : List Term) → terms ≡ [] → Pauses no_space text → Progress text text terms
starts text terms none pauses = record {
  forth = λ more h. subst (λ ts. SpellsTerms text (ts ++ more)) (sym none) h;
  back = λ all h. (all, h);
  pauses = pauses;
}

-- a first gap before a word begins with a space
gap_some : (text word rest gap : List ℕ) → Pauses no_space text → IsWord word → list_all is_space gap ≡ true → text ≡ gap ++ (word ++ rest) → (more : List ℕ) × (gap ≡ 32 ∷ more) × (list_all is_space more ≡ true)
gap_some text [] rest [] pauses h spaces e = absurd h
gap_some text (b ∷ bs) rest [] pauses h spaces e =
    absurd (both_ways (no_space b) (subst (λ t. Pauses no_space t) e pauses) (and_parts (no_space b) (list_all no_space bs) h).0)
gap_some text word rest (g ∷ gs) pauses h spaces e =
    let parts = and_parts (is_space g) (list_all is_space gs) spaces in (gs, ap (λ b. b ∷ gs) (eqb-true g 32 parts.0), parts.1)

-- the first word is the first term's
first_term : (text word rest : List ℕ) (all : List Term) → SplitsWord text word rest → SpellsTerms text all → (t : Term) × (more : List Term) × SpellsTerm word t × SpellsTerms rest more
first_term text word rest [] s h = absurd (no_spaces_alone s.gap word rest s.is_word (ap (list_all is_space) (sym s.whole) ∙ h))
first_term text word rest (t ∷ ts) s h =
    let w = term_word one_address h.1 t h.4 in
    let gaps = spans is_space (32 ∷ h.0) s.gap (h.1 ++ h.2) (word ++ rest) (and_from true (list_all is_space h.0) refl h.3) s.spaces (word_stops h.1 h.2 w) (word_stops word rest s.is_word) (sym h.6 ∙ s.whole) in
    let words = one_span no_space h.1 word h.2 rest (word_passes h.1 w) (word_passes word s.is_word) (terms_pause h.2 ts h.5) s.pauses gaps.1 in
    (t, ts, subst (λ x. SpellsTerm x t) words.0 h.4, subst (λ r. SpellsTerms r ts) words.1 h.5)

pub goes_on : (text rest word behind : List ℕ) (terms next : List Term) (t : Term) → Progress text rest terms → SplitsWord rest word behind → SpellsTerm word t → next ≡ terms ++ t ∷ [] → Progress text behind next
goes_on text rest word behind terms next t p s h is =
    let gap = gap_some rest word behind s.gap p.pauses s.is_word s.spaces s.whole in
    record {
      forth = λ more k. subst (λ ts. SpellsTerms text ts) (sym (ap (λ ts. ts ++ more) is ∙ append_assoc terms (t ∷ []) more))
          (p.forth (t ∷ more) (gap.0, word, behind, gap.2, h, k, s.whole ∙ ap (λ g. g ++ (word ++ behind)) gap.1));
      back = λ all k. let left = p.back all k in let first = first_term rest word behind left.0 s left.1 in (first.1, first.3);
      pauses = s.pauses;
    }

pub stuck : (text rest word behind : List ℕ) (terms : List Term) → Progress text rest terms → SplitsWord rest word behind → ((t : Term) → ¬ SpellsTerm word t) → (all : List Term) → SpellsTerms text all → ⊥
stuck text rest word behind terms p s none all h = let left = p.back all h in let first = first_term rest word behind left.0 s left.1 in none first.0 first.2

pub ends : (text rest : List ℕ) (terms : List Term) → Progress text rest terms → list_all is_space rest ≡ true → SpellsTerms text terms
ends text rest terms p spaces = subst (λ ts. SpellsTerms text ts) (append-nil terms) (p.forth [] spaces)

-- ---- the version section

lower_len : (text : List ℕ) → length (str_to_ascii_lowercase text) ≡ length text
lower_len [] = refl
lower_len (b ∷ bs) = ap suc (lower_len bs)

version_pauses : (rest : List ℕ) → ends_version rest ≡ true → Pauses no_space rest
version_pauses [] h = tt
version_pauses (b ∷ bs) h = not_from_true (b == 32) h

pauses_version : (rest : List ℕ) → Pauses no_space rest → ends_version rest ≡ true
pauses_version [] h = refl
pauses_version (b ∷ bs) h = true_from (b == 32) h
  where
    true_from : (t : Bool) → not t ≡ false → t ≡ true
    true_from true h = refl
    true_from false h = absurd (both_ways true h refl)

pub version_behind : (text : List ℕ) → is_spf_text text ≡ true → BehindVersion text (drop 6 text)
unfolding is_spf_text
version_behind text h =
    let parts = and_parts (bytes_eq (str_to_ascii_lowercase (take 6 text)) (codes "v=spf1")) (ends_version (drop 6 text)) h in
    record {
      version = take 6 text;
      says = (bytes_eq-Decides (str_to_ascii_lowercase (take 6 text)) (codes "v=spf1")).0 parts.0;
      pauses = version_pauses (drop 6 text) parts.1;
      whole = sym (take-append-drop 6 text);
    }

pub version_within : (text : List ℕ) → is_spf_text text ≡ true → 6 ≤ length text
version_within text h =
    let b = version_behind text h in
    let six : length b.version ≡ 6 = sym (lower_len b.version) ∙ ap length b.says in
    omega (arith, six, ap length b.whole, length-append b.version (drop 6 text))

pub version_told : (text : List ℕ) (policy : Policy) → SpellsPolicy text policy → is_spf_text text ≡ true
unfolding is_spf_text
version_told text policy h =
    let six : length h.version ≡ 6 = sym (lower_len h.version) ∙ ap length h.begins in
    let front : take 6 text ≡ h.version = ap (λ t. take 6 t) h.whole ∙ take_at h.version h.rest 6 six in
    let back : drop 6 text ≡ h.rest = ap (λ t. drop 6 t) h.whole ∙ drop_at h.version h.rest 6 six in
    and_from (bytes_eq (str_to_ascii_lowercase (take 6 text)) (codes "v=spf1")) (ends_version (drop 6 text))
    ((bytes_eq-Decides (str_to_ascii_lowercase (take 6 text)) (codes "v=spf1")).1 (ap str_to_ascii_lowercase front ∙ h.begins))
    (ap ends_version back ∙ pauses_version h.rest (terms_pause h.rest policy.terms h.terms))

-- ---- policies

-- the terms of a policy stand behind the version section
terms_behind : (text rest : List ℕ) (policy : Policy) → BehindVersion text rest → SpellsPolicy text policy → SpellsTerms rest policy.terms
terms_behind text rest policy b h =
    let version : (v : List ℕ) → SaysWord v (codes "v=spf1") → list_all no_space v ≡ true = λ v says. lower_all no_space upper_no_space v (ap (list_all no_space) says) in
    let parts = one_span no_space h.version b.version h.rest rest (version h.version h.begins) (version b.version b.says) (terms_pause h.rest policy.terms h.terms) b.pauses (sym h.whole ∙ b.whole) in
    subst (λ r. SpellsTerms r policy.terms) parts.1 h.terms

pub no_terms : (text rest : List ℕ) → BehindVersion text rest → ((terms : List Term) → ¬ SpellsTerms rest terms) → (policy : Policy) → SpellsPolicy text policy → ⊥
no_terms text rest b none policy h = none policy.terms (terms_behind text rest policy b h)

pub too_many : (text rest : List ℕ) (terms : List Term) → BehindVersion text rest → SpellsTerms rest terms → ((count_by is_redirect terms ≤ 1) × (count_by is_exp terms ≤ 1) → ⊥) → (policy : Policy) → SpellsPolicy text policy → ⊥
too_many text rest terms b s many policy h =
    let same : policy.terms ≡ terms = one_terms one_address rest policy.terms terms (terms_behind text rest policy b h) s in
    many (subst (λ ts. count_by is_redirect ts ≤ 1) same h.one_redirect, subst (λ ts. count_by is_exp ts ≤ 1) same h.one_exp)

pub policy_told : (text rest : List ℕ) (terms : List Term) → BehindVersion text rest → SpellsTerms rest terms → (count_by is_redirect terms ≤ 1) × (count_by is_exp terms ≤ 1) → SpellsPolicy text (record { terms = terms })
policy_told text rest terms b s single = record {
  version = b.version;
  rest = rest;
  begins = b.says;
  terms = s;
  one_redirect = single.0;
  one_exp = single.1;
  whole = b.whole;
}
