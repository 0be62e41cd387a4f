-- A term is cut into its qualifier, its name and the rest in one way.
use Rattle.std.proofs.Common.{◌≡◌, ◌≢◌, ℕ, Bool, true, false, ◌⊎◌, List, [], ◌∷◌, ◌++◌, length, refl, sym, ◌∙◌, ap, subst, inl, inr, append-nil, if◌then◌else◌, Option, Some, None}
use Rattle.std.proofs.lemmas.Bool.{both_ways, eqb-false}
use Rattle.std.specs.Prelude.{codes, ◌==◌, bytes_eq}
use Rattle.std.specs.Str.{str_to_ascii_lowercase}
use Rattle.spf_macros.specs.declared.piece.Piece.{Piece}
use Rattle.spf_macros.specs.Grammar.{SpellsMacroText, SpellsDomainSpec}
use Rattle.spf_macros.specs.Reading.{Reads, Pauses, IsSpan}
use Rattle.spf_macros.proofs.OneReading.{heads, tails}
use Rattle.spf_macros.proofs.Spans.{one_span}
use Rattle.spf_grammar.specs.declared.verdict.Verdict.{Verdict}
use Rattle.spf_grammar.specs.declared.keywords.Keyword.{Keyword}
use Rattle.spf_grammar.specs.declared.keywords.Keyword.TheVariants as keyword
use Rattle.spf_grammar.specs.declared.policy.Mechanism.{Mechanism}
use Rattle.spf_grammar.specs.declared.policy.Mechanism.TheVariants.{All, Include, A, Mx, Ptr, Ip4, Ip6, Exists}
use Rattle.spf_grammar.specs.declared.policy.Term.{Term}
use Rattle.spf_grammar.specs.declared.policy.Term.TheVariants.{Directive, Redirect, Exp, Unknown}
use Rattle.spf_grammar.specs.Grammar.{SaysWord, SpellsQualifier, SpellsMechanism, SpellsTerm, is_name, is_name_byte}
use Rattle.spf_grammar.specs.Reading.{BehindMechanism, SpellsBehind, is_mark, IsMark, SplitsMark, SpellsModifier, SpellsDirective, word, keyword_of}
use Rattle.spf_grammar.proofs.OnePolicy.{Sees, view, Behind, term_name, mechanism_name, mechanism_begin, no_mark_there, name_bytes}

-- a text as its qualifier, bytes of a name and the rest
pub record Cut (text mark name rest : List ℕ) : Type 0 where
  pub behind_mark : List ℕ
  pub marked : SplitsMark text mark behind_mark
  pub named : IsSpan is_name_byte behind_mark name rest

pauses_there : (text : List ℕ) (b : ℕ) (more : List ℕ) → Pauses is_mark text → is_mark b ≡ true → text ≡ b ∷ more → ⊥
pauses_there text b more pauses m e = both_ways (is_mark b) (subst (λ t. Pauses is_mark t) e pauses) m

-- a term that a text spells is cut as the text is
cut_same : (text mark name rest mark' name' rest' : List ℕ) → Sees text mark name rest → Cut text mark' name' rest' → (mark ≡ mark') × SaysWord name' name × (rest ≡ rest')
cut_same text mark name rest mark' name' rest' s c = by_marks s.marks c.marked.0
  where
    with_fronts : mark ≡ mark' → s.front ++ rest ≡ c.behind_mark → (mark ≡ mark') × SaysWord name' name × (rest ≡ rest')
    with_fronts same e =
        let parts = one_span is_name_byte s.front name' rest rest' s.letters c.named.passes s.pauses c.named.pauses (e ∙ c.named.whole) in
        (same, ap str_to_ascii_lowercase (sym parts.0) ∙ s.says, parts.1)

    by_marks : (mark ≡ []) ⊎ ((b : ℕ) × (mark ≡ b ∷ []) × (is_mark b ≡ true)) → ((mark' ≡ []) × Pauses is_mark text) ⊎ ((b : ℕ) × (mark' ≡ b ∷ []) × (is_mark b ≡ true))
        → (mark ≡ mark') × SaysWord name' name × (rest ≡ rest')
    by_marks (inl e) (inl f) =
        with_fronts (e ∙ sym f.0) (ap (λ m. m ++ (s.front ++ rest)) (sym e) ∙ sym s.whole ∙ c.marked.1 ∙ ap (λ m. m ++ c.behind_mark) f.0)
    by_marks (inl e) (inr f) =
        absurd (no_mark_there f.0 c.behind_mark s.front rest f.2 s.begins (ap (λ m. m ++ c.behind_mark) (sym f.1) ∙ sym c.marked.1 ∙ s.whole ∙ ap (λ m. m ++ (s.front ++ rest)) e))
    by_marks (inr e) (inl f) =
        absurd (pauses_there text e.0 (s.front ++ rest) f.1 e.2 (s.whole ∙ ap (λ m. m ++ (s.front ++ rest)) e.1))
    by_marks (inr e) (inr f) =
        let same = ap (λ m. m ++ (s.front ++ rest)) (sym e.1) ∙ sym s.whole ∙ c.marked.1 ∙ ap (λ m. m ++ c.behind_mark) f.1 in
        with_fronts (e.1 ∙ ap (λ b. b ∷ []) (heads same) ∙ sym f.1) (tails same)

-- what a term says of the parts
told : (text mark name rest : List ℕ) (t : Term) → Cut text mark name rest → SpellsTerm text t → SaysWord name (term_name t) × Behind t mark rest
told text mark name rest t c h =
    let a = view text t h in
    let same = cut_same text a.0 (term_name t) a.1 mark name rest a.2 c in
    (same.1, subst (λ m. Behind t m rest) same.0 (subst (λ r. Behind t a.0 r) same.2 a.3))

whole : (text mark name rest : List ℕ) → Cut text mark name rest → text ≡ mark ++ (name ++ rest)
whole text mark name rest c = c.marked.1 ∙ ap (λ t. mark ++ t) c.named.whole

-- ---- modifiers

abbrev begins_equal : List ℕ → Bool
begins_equal [] = false
begins_equal (b ∷ bs) = b == 61

-- no mechanism has `=` behind its name
no_equals : (m : Mechanism) (rest value : List ℕ) → BehindMechanism m rest → rest ≡ 61 ∷ value → ⊥
no_equals m rest value h e =
    both_ways (begins_equal (61 ∷ value)) (sym (ap begins_equal e) ∙ mechanism_begin (λ r. begins_equal r ≡ false) refl (λ r. refl) (λ r. refl) m rest h) refl

-- what is read of a modifier is read of its text
pub modifier_read : (text name rest value : List ℕ) (o : Option Term) → Cut text [] name rest → rest ≡ 61 ∷ value → Reads (SpellsModifier name) value o → Reads SpellsTerm text o
modifier_read text name rest value (Some (Directive v m)) c e s = absurd s
modifier_read text name rest value (Some (Redirect spec)) c e s = (name, rest, s.0, (value, s.1, e), whole text [] name rest c)
modifier_read text name rest value (Some (Exp spec)) c e s = (name, rest, s.0, (value, s.1, e), whole text [] name rest c)
modifier_read text name rest value (Some (Unknown lower pieces)) c e s = record {
  front = name;
  rest = value;
  named = s.0;
  lower = s.1;
  no_redirect = s.2;
  no_exp = s.3;
  spells = s.4;
  whole = whole text [] name rest c ∙ ap (λ t. name ++ t) e;
}
modifier_read text name rest value None c e none = λ t h. refused t (told text [] name rest t c h) h
  where
    -- a name that is a name in lower case
    refused : (t : Term) → SaysWord name (term_name t) × Behind t [] rest → SpellsTerm text t → ⊥
    refused (Directive v m) h s = no_equals m rest value h.1.1 e
    refused (Redirect spec) h s = none (Redirect spec) (h.0, subst (λ v. SpellsDomainSpec false v spec) (tails (sym h.1.1.2 ∙ e)) h.1.1.1)
    refused (Exp spec) h s = none (Exp spec) (h.0, subst (λ v. SpellsDomainSpec true v spec) (tails (sym h.1.1.2 ∙ e)) h.1.1.1)
    refused (Unknown lower pieces) h s =
        let same = one_span is_name_byte s.front name (61 ∷ s.rest) rest (name_bytes s.front s.named) c.named.passes refl c.named.pauses (sym s.whole ∙ whole text [] name rest c) in
        none (Unknown lower pieces) (
          subst (λ n. is_name n ≡ true) same.0 s.named,
          h.0,
          s.no_redirect,
          s.no_exp,
          subst (λ v. SpellsMacroText v pieces) (tails (same.1 ∙ e)) s.spells,
        )

-- the same of a text with nothing for a qualifier
pub unmarked_read : (text mark name rest value : List ℕ) (o : Option Term) → mark ≡ [] → Cut text mark name rest → rest ≡ 61 ∷ value → Reads (SpellsModifier name) value o → Reads SpellsTerm text o
unmarked_read text mark name rest value o none c e read = modifier_read text name rest value o (subst (λ m. Cut text m name rest) none c) e read

-- a modifier has no qualifier
pub marked_refused : (text mark name rest value : List ℕ) → Cut text mark name rest → rest ≡ 61 ∷ value → mark ≢ [] → (t : Term) → SpellsTerm text t → ⊥
marked_refused text mark name rest value c e some t h = refused t (told text mark name rest t c h).1
  where
    refused : (t : Term) → Behind t mark rest → ⊥
    refused (Directive v m) h = no_equals m rest value h.1 e
    refused (Redirect spec) h = some h.0
    refused (Exp spec) h = some h.0
    refused (Unknown lower pieces) h = some h.0

-- ---- directives

spelled : (text : List ℕ) (m : Mechanism) (front rest : List ℕ) → SaysWord front (word (keyword_of m)) → BehindMechanism m rest → text ≡ front ++ rest → SpellsMechanism text m
spelled text All front rest says h e = subst (λ t. SaysWord t (codes "all")) (sym (e ∙ ap (λ r. front ++ r) h ∙ append-nil front)) says
spelled text (Include spec) front rest says h e = (front, rest, says, h, e)
spelled text (A spec l m) front rest says h e = (front, rest, says, h, e)
spelled text (Mx spec l m) front rest says h e = (front, rest, says, h, e)
spelled text (Ptr spec) front rest says h e = (front, rest, says, h, e)
spelled text (Ip4 p) front rest says h e = (front, rest, says, h, e)
spelled text (Ip6 p) front rest says h e = (front, rest, says, h, e)
spelled text (Exists spec) front rest says h e = (front, rest, says, h, e)

same_name : (m : Mechanism) → mechanism_name m ≡ word (keyword_of m)
same_name All = refl
same_name (Include spec) = refl
same_name (A spec l m) = refl
same_name (Mx spec l m) = refl
same_name (Ptr spec) = refl
same_name (Ip4 p) = refl
same_name (Ip6 p) = refl
same_name (Exists spec) = refl

-- what is read of a directive is read of its text
pub directive_read : (text mark name rest : List ℕ) (o : Option Term) → Cut text mark name rest → ((value : List ℕ) → rest ≢ 61 ∷ value) → Reads (SpellsDirective mark name) rest o → Reads SpellsTerm text o
directive_read text mark name rest (Some (Directive v m)) c none s = (mark, name ++ rest, s.0, spelled (name ++ rest) m name rest s.1 s.2 refl, whole text mark name rest c)
directive_read text mark name rest (Some (Redirect spec)) c none s = absurd s
directive_read text mark name rest (Some (Exp spec)) c none s = absurd s
directive_read text mark name rest (Some (Unknown lower pieces)) c none s = absurd s
directive_read text mark name rest None c none refuses = λ t h. refused t (told text mark name rest t c h)
  where
    refused : (t : Term) → SaysWord name (term_name t) × Behind t mark rest → ⊥
    refused (Directive v m) h = refuses (Directive v m) (h.1.0, h.0 ∙ same_name m, h.1.1)
    refused (Redirect spec) h = none h.1.1.0 h.1.1.2
    refused (Exp spec) h = none h.1.1.0 h.1.1.2
    refused (Unknown lower pieces) h = none h.1.3.0 h.1.3.2

-- a directive of a name
pub no_keyword : (mark name rest : List ℕ) → ((k : Keyword) → ¬ SaysWord name (word k)) → (t : Term) → SpellsDirective mark name rest t → ⊥
no_keyword mark name rest none (Directive v m) h = none (keyword_of m) h.1
no_keyword mark name rest none (Redirect spec) h = h
no_keyword mark name rest none (Exp spec) h = h
no_keyword mark name rest none (Unknown lower pieces) h = h

-- the keyword of a word
abbrev keyword_at : List ℕ → Keyword
keyword_at name = if bytes_eq name (codes "all") then keyword.All else (if bytes_eq name (codes "include") then keyword.Include else (if bytes_eq name (codes "a") then keyword.A
    else (if bytes_eq name (codes "mx") then keyword.Mx else (if bytes_eq name (codes "ptr") then keyword.Ptr else (if bytes_eq name (codes "ip4") then keyword.Ip4
    else (if bytes_eq name (codes "ip6") then keyword.Ip6 else keyword.Exists))))))

keyword_again : (k : Keyword) → keyword_at (word k) ≡ k
keyword_again keyword.All = refl
keyword_again keyword.Include = refl
keyword_again keyword.A = refl
keyword_again keyword.Mx = refl
keyword_again keyword.Ptr = refl
keyword_again keyword.Ip4 = refl
keyword_again keyword.Ip6 = refl
keyword_again keyword.Exists = refl

one_keyword : (k l : Keyword) → word k ≡ word l → k ≡ l
one_keyword k l e = sym (keyword_again k) ∙ ap keyword_at e ∙ keyword_again l

pub no_mechanism : (mark name rest : List ℕ) (k : Keyword) → SaysWord name (word k) → ((m : Mechanism) → ¬ SpellsBehind k rest m) → (t : Term) → SpellsDirective mark name rest t → ⊥
no_mechanism mark name rest k says none (Directive v m) h = none m (one_keyword (keyword_of m) k (sym h.1 ∙ says), h.2)
no_mechanism mark name rest k says none (Redirect spec) h = h
no_mechanism mark name rest k says none (Exp spec) h = h
no_mechanism mark name rest k says none (Unknown lower pieces) h = h

pub directive_told : (mark name rest : List ℕ) (k : Keyword) (v : Verdict) (m : Mechanism) → SpellsQualifier mark v → SaysWord name (word k) → SpellsBehind k rest m → SpellsDirective mark name rest (Directive v m)
directive_told mark name rest k v m q says h = (q, says ∙ ap word (sym h.0), h.1)

-- ---- modifiers by their names

redirect_not_exp : codes "redirect" ≡ codes "exp" → ⊥
redirect_not_exp e = eqb-false 8 3 refl (ap length e)

pub no_redirect_value : (name value : List ℕ) → SaysWord name (codes "redirect") → ((spec : List Piece) → ¬ SpellsDomainSpec false value spec) → (t : Term) → SpellsModifier name value t → ⊥
no_redirect_value name value says none (Directive v m) h = h
no_redirect_value name value says none (Redirect spec) h = none spec h.1
no_redirect_value name value says none (Exp spec) h = redirect_not_exp (sym says ∙ h.0)
no_redirect_value name value says none (Unknown lower pieces) h = h.2 (sym h.1 ∙ says)

pub no_exp_value : (name value : List ℕ) → SaysWord name (codes "exp") → ((spec : List Piece) → ¬ SpellsDomainSpec true value spec) → (t : Term) → SpellsModifier name value t → ⊥
no_exp_value name value says none (Directive v m) h = h
no_exp_value name value says none (Redirect spec) h = redirect_not_exp (sym h.0 ∙ says)
no_exp_value name value says none (Exp spec) h = none spec h.1
no_exp_value name value says none (Unknown lower pieces) h = h.3 (sym h.1 ∙ says)

pub no_name : (name value : List ℕ) → ¬ SaysWord name (codes "redirect") → ¬ SaysWord name (codes "exp") → is_name name ≡ false → (t : Term) → SpellsModifier name value t → ⊥
no_name name value other1 other2 none (Directive v m) h = h
no_name name value other1 other2 none (Redirect spec) h = other1 h.0
no_name name value other1 other2 none (Exp spec) h = other2 h.0
no_name name value other1 other2 none (Unknown lower pieces) h = both_ways (is_name name) none h.0

pub no_value : (name value : List ℕ) → ¬ SaysWord name (codes "redirect") → ¬ SaysWord name (codes "exp") → ((pieces : List Piece) → ¬ SpellsMacroText value pieces) → (t : Term) → SpellsModifier name value t → ⊥
no_value name value other1 other2 none (Directive v m) h = h
no_value name value other1 other2 none (Redirect spec) h = other1 h.0
no_value name value other1 other2 none (Exp spec) h = other2 h.0
no_value name value other1 other2 none (Unknown lower pieces) h = none pieces h.4

pub is_marked : (text mark rest : List ℕ) → SplitsMark text mark rest → IsMark mark
is_marked text mark rest (inl h, e) = inl h.0
is_marked text mark rest (inr h, e) = inr h
