-- A text spells at most one policy, where a text is at most one address.
use Rattle.std.proofs.Common.{◌≡◌, ◌≢◌, append-nil, ℕ, ◌+◌, ◌<◌, ◌≤◌, Bool, true, false, cond, ◌⊎◌, List, [], ◌∷◌, ◌++◌, length, refl, sym, ◌∙◌, ap, subst, inl, inr, arith, lit≤, Option, Some, None, if◌then◌else◌}
use Rattle.std.proofs.lemmas.Bool.{and_parts, and_from, or_left, or_cases, not-true, not_from_true, ltb-true, ltb-false, le-leb, eqb-true, both_ways, cond-false, false_from_ne_true}
use Rattle.std.proofs.lemmas.List.Folds.{list_all-append}
use Rattle.std.proofs.lemmas.Slice.Eq.{bytes_eq-Decides}
use Rattle.std.specs.Prelude.{◌==◌, nat_lt, nat_le, codes, bytes_eq}
use Rattle.std.specs.List.{list_all}
use Rattle.std.specs.Char.{is_ascii_alphabetic, to_ascii_lowercase}
use Rattle.std.specs.Str.{str_to_ascii_lowercase}
use Rattle.addr_bits.specs.Prefix.{Cidr}
use Rattle.addr_bits.specs.declared.address.Family.{Family}
use Rattle.addr_bits.specs.declared.address.Family.TheVariants.{V4, V6}
use Rattle.addr_bits.specs.Address.{bits_of}
use Rattle.addr_bits.proofs.Families.{few_bits}
use Rattle.addr_bits.specs.Laws.{OneAddress, is_address_byte}
use Rattle.spf_macros.specs.declared.piece.Letter.{Letter}
use Rattle.spf_macros.specs.declared.piece.Letter.TheVariants.{S, L, O, D, I, P, H, V, C, R, T}
use Rattle.spf_macros.specs.declared.piece.Macro.{Macro}
use Rattle.spf_macros.specs.declared.piece.Piece.{Piece}
use Rattle.spf_macros.specs.declared.piece.Piece.TheVariants.{Literal, Percent, Space, Percent20, Expand}
use Rattle.spf_macros.specs.Grammar.{is_delimiter, is_literal, letter_byte, SpellsReverse, SpellsMacro, SpellsPiece, SpellsMacroText, SpellsDomainSpec}
use Rattle.spf_macros.proofs.OneReading.{heads, tails, head_or, spans, Stops, is_digit, keep_digits, apart, one_macro_text}
use Rattle.spf_grammar.specs.declared.verdict.Verdict.{Verdict}
use Rattle.spf_grammar.specs.declared.verdict.Verdict.TheVariants.{Fail, SoftFail, Pass, Neutral}
use Rattle.spf_grammar.specs.declared.policy.Mechanism.{Mechanism}
use Rattle.spf_grammar.specs.declared.policy.Mechanism.TheVariants.{All, Include, A, Mx, Ptr, Ip4, Ip6, Exists}
use Rattle.spf_grammar.specs.declared.policy.Term.{Term}
use Rattle.spf_grammar.specs.declared.policy.Term.TheVariants.{Directive, Redirect, Exp, Unknown}
use Rattle.spf_grammar.specs.Grammar.{SaysWord, SpellsLen, SpellsTarget, SpellsHosts, SpellsNetwork, SpellsMechanism, SpellsQualifier, SpellsTerm, SpellsTerms, is_name, is_name_byte, is_space}
use Rattle.spf_grammar.specs.Laws.{OnePolicy}
use Rattle.spf_grammar.specs.Reading.{is_len_byte, IsSlashed, BehindMechanism, is_mark, no_space, IsWord}
use Rattle.spf_macros.specs.Reading.{Pauses}
use Rattle.spf_macros.proofs.DomainSpecs.{spec_spelled}
use Rattle.spf_macros.proofs.Spans.{one_span}
use Rattle.spf_grammar.proofs.OneTail.{weaker, keeps_out, all_both, slashed, lens_bytes, one_spec, one_target, one_hosts, one_network}

-- ---- bytes of names

-- what holds of the lower case of a byte holds of it, where it holds of the upper-case letters
lower_back : (p : ℕ → Bool) → ((b : ℕ) → 65 ≤ b → b < 91 → p b ≡ true) → (b : ℕ) → p (to_ascii_lowercase b) ≡ true → p b ≡ true
lower_back p upper b h = first (nat_lt b 65) refl
  where
    first : (t : Bool) → nat_lt b 65 ≡ t → p b ≡ true
    first true e = subst (λ t. p (cond t b (cond (nat_lt b 91) (b + 32) b)) ≡ true) e h
    first false e = second (nat_lt b 91) refl
      where
        second : (u : Bool) → nat_lt b 91 ≡ u → p b ≡ true
        second true f = upper b (ltb-false b 65 e) (ltb-true b 91 f)
        second false f = subst (λ u. p (cond false b (cond u (b + 32) b)) ≡ true) f (subst (λ t. p (cond t b (cond (nat_lt b 91) (b + 32) b)) ≡ true) e h)

upper_letter : (b : ℕ) → 65 ≤ b → b < 91 → is_ascii_alphabetic b ≡ true
upper_letter b low high = or_left _ _ (and_from (nat_le 65 b) (nat_le b 90) (le-leb 65 b low) (le-leb b 90 (omega (arith, high))))

upper_name : (b : ℕ) → 65 ≤ b → b < 91 → is_name_byte b ≡ true
upper_name b low high = or_left _ _ (or_left _ _ (upper_letter b low high))

pub upper_no_space : (b : ℕ) → 65 ≤ b → b < 91 → no_space b ≡ true
upper_no_space b low high = keeps_out is_ascii_alphabetic 32 refl b (upper_letter b low high)

pub lower_all : (p : ℕ → Bool) → ((b : ℕ) → 65 ≤ b → b < 91 → p b ≡ true) → (bs : List ℕ) → list_all p (str_to_ascii_lowercase bs) ≡ true → list_all p bs ≡ true
lower_all p upper [] h = refl
lower_all p upper (b ∷ bs) h = let split = and_parts (p (to_ascii_lowercase b)) (list_all p (str_to_ascii_lowercase bs)) h in
    and_from (p b) (list_all p bs) (lower_back p upper b split.0) (lower_all p upper bs split.1)

-- the first byte of a word is a letter
lower_head : (bs : List ℕ) → is_ascii_alphabetic (head_or 0 (str_to_ascii_lowercase bs)) ≡ true → is_ascii_alphabetic (head_or 0 bs) ≡ true
lower_head [] h = h
lower_head (b ∷ bs) h = lower_back is_ascii_alphabetic upper_letter b h

pub mark_no_letter : (b : ℕ) → is_mark b ≡ true → is_ascii_alphabetic b ≡ true → ⊥
mark_no_letter b h letter =
    let at : (c : ℕ) → is_ascii_alphabetic c ≡ false → (b == c) ≡ true → ⊥ =
    λ c no_letter e. both_ways (is_ascii_alphabetic c) no_letter (subst (λ x. is_ascii_alphabetic x ≡ true) (eqb-true b c e) letter) in
    elim (or_cases (b == 43) _ h) [
      | inl e ↦ at 43 refl e
      | inr h ↦
          elim (or_cases (b == 45) _ h) [
            | inl e ↦ at 45 refl e
            | inr h ↦
                elim (or_cases (b == 126) _ h) [
                  | inl e ↦ at 126 refl e
                  | inr h ↦
                      elim (or_cases (b == 63) _ h) [ inl e ↦ at 63 refl e | inr h ↦ both_ways false refl h ]
                ]
          ]
    ]

-- ---- a term as its qualifier, its name and the rest

pub record Sees (text mark name rest : List ℕ) : Type 0 where
  pub front : List ℕ
  pub marks : (mark ≡ []) ⊎ ((b : ℕ) × (mark ≡ b ∷ []) × (is_mark b ≡ true))
  pub says : SaysWord front name
  pub letters : list_all is_name_byte front ≡ true
  pub begins : is_ascii_alphabetic (head_or 0 front) ≡ true
  pub pauses : Pauses is_name_byte rest
  pub whole : text ≡ mark ++ (front ++ rest)

-- a letter begins a text with no mark
pub no_mark_there : (b : ℕ) (more front rest : List ℕ) → is_mark b ≡ true → is_ascii_alphabetic (head_or 0 front) ≡ true → b ∷ more ≡ front ++ rest → ⊥
no_mark_there b more [] rest m letter e = both_ways false refl letter
no_mark_there b more (f ∷ fs) rest m letter e = mark_no_letter b m (ap is_ascii_alphabetic (heads e) ∙ letter)

one_view : (text mark name rest mark' name' rest' : List ℕ) → Sees text mark name rest → Sees text mark' name' rest'
    → (mark ≡ mark') × (name ≡ name') × (rest ≡ rest')
one_view text mark name rest mark' name' rest' s u = by_marks s.marks u.marks
  where
    with_fronts : mark ≡ mark' → s.front ++ rest ≡ u.front ++ rest' → (mark ≡ mark') × (name ≡ name') × (rest ≡ rest')
    with_fronts same e =
        let parts = one_span is_name_byte s.front u.front rest rest' s.letters u.letters s.pauses u.pauses e in
        (same, sym s.says ∙ ap str_to_ascii_lowercase parts.0 ∙ u.says, parts.1)

    by_marks : (mark ≡ []) ⊎ ((b : ℕ) × (mark ≡ b ∷ []) × (is_mark b ≡ true)) → (mark' ≡ []) ⊎ ((b : ℕ) × (mark' ≡ b ∷ []) × (is_mark b ≡ true))
        → (mark ≡ mark') × (name ≡ name') × (rest ≡ rest')
    by_marks (inl e) (inl f) =
        with_fronts (e ∙ sym f) (ap (λ m. m ++ (s.front ++ rest)) (sym e) ∙ sym s.whole ∙ u.whole ∙ ap (λ m. m ++ (u.front ++ rest')) f)
    by_marks (inl e) (inr f) =
        absurd (no_mark_there f.0 (u.front ++ rest') s.front rest f.2 s.begins (ap (λ m. m ++ (u.front ++ rest')) (sym f.1) ∙ sym u.whole ∙ s.whole ∙ ap (λ m. m ++ (s.front ++ rest)) e))
    by_marks (inr e) (inl f) =
        absurd (no_mark_there e.0 (s.front ++ rest) u.front rest' e.2 u.begins (ap (λ m. m ++ (s.front ++ rest)) (sym e.1) ∙ sym s.whole ∙ u.whole ∙ ap (λ m. m ++ (u.front ++ rest')) f))
    by_marks (inr e) (inr f) =
        let same = ap (λ m. m ++ (s.front ++ rest)) (sym e.1) ∙ sym s.whole ∙ u.whole ∙ ap (λ m. m ++ (u.front ++ rest')) f.1 in
        with_fronts (e.1 ∙ ap (λ b. b ∷ []) (heads same) ∙ sym f.1) (tails same)

abbrev pub mechanism_name : Mechanism → List ℕ
mechanism_name All = codes "all"
mechanism_name (Include spec) = codes "include"
mechanism_name (A spec l m) = codes "a"
mechanism_name (Mx spec l m) = codes "mx"
mechanism_name (Ptr spec) = codes "ptr"
mechanism_name (Ip4 p) = codes "ip4"
mechanism_name (Ip6 p) = codes "ip6"
mechanism_name (Exists spec) = codes "exists"

abbrev pub term_name : Term → List ℕ
term_name (Directive v m) = mechanism_name m
term_name (Redirect spec) = codes "redirect"
term_name (Exp spec) = codes "exp"
term_name (Unknown name value) = name

abbrev pub Behind : Term → List ℕ → List ℕ → Type 0
Behind (Directive v m) mark rest = SpellsQualifier mark v × BehindMechanism m rest
Behind (Redirect spec) mark rest = (mark ≡ []) × ((value : List ℕ) × SpellsDomainSpec false value spec × (rest ≡ 61 ∷ value))
Behind (Exp spec) mark rest = (mark ≡ []) × ((value : List ℕ) × SpellsDomainSpec true value spec × (rest ≡ 61 ∷ value))
Behind (Unknown name value) mark rest =
    (mark ≡ []) × (name ≢ codes "redirect") × (name ≢ codes "exp") × ((text : List ℕ) × SpellsMacroText text value × (rest ≡ 61 ∷ text))

-- what may stand behind the name of a mechanism
slash_or_end : (Q : List ℕ → Type 0) → Q [] → ((r : List ℕ) → Q (47 ∷ r)) → (rest : List ℕ) → IsSlashed rest → Q rest
slash_or_end Q none slash [] h = none
slash_or_end Q none slash (b ∷ bs) h = subst (λ c. Q (c ∷ bs)) (sym h) (slash bs)

target_begin : (Q : List ℕ → Type 0) → Q [] → ((r : List ℕ) → Q (58 ∷ r)) → (spec : Option (List Piece)) (rest : List ℕ) → SpellsTarget rest spec → Q rest
target_begin Q none colon None rest h = subst Q (sym h) none
target_begin Q none colon (Some spec) rest h = subst Q (sym h.2) (colon h.0)

hosts_begin : (Q : List ℕ → Type 0) → Q [] → ((r : List ℕ) → Q (58 ∷ r)) → ((r : List ℕ) → Q (47 ∷ r))
    → (spec : Option (List Piece)) (l m : ℕ) (rest : List ℕ) → SpellsHosts spec l m rest → Q rest
hosts_begin Q none colon slash spec l m rest h =
    let behind : List ℕ = h.after4 ++ h.after6 in
    let lens : Q behind = slash_or_end Q none slash behind
    (slashed [] 32 h.after4 h.after6 l h.short4 (subst IsSlashed (append-nil h.after6) (slashed (codes "/") 128 h.after6 [] m h.short6 tt))) in
    subst Q (sym h.whole) (target_begin (λ t. Q (t ++ behind)) lens (λ r. colon (r ++ behind)) spec h.target h.hosts)

pub mechanism_begin : (Q : List ℕ → Type 0) → Q [] → ((r : List ℕ) → Q (58 ∷ r)) → ((r : List ℕ) → Q (47 ∷ r)) → (m : Mechanism) (rest : List ℕ) → BehindMechanism m rest → Q rest
mechanism_begin Q none colon slash All rest h = subst Q (sym h) none
mechanism_begin Q none colon slash (Include spec) rest h = target_begin Q none colon (Some spec) rest h
mechanism_begin Q none colon slash (A spec l m) rest h = hosts_begin Q none colon slash spec l m rest h
mechanism_begin Q none colon slash (Mx spec l m) rest h = hosts_begin Q none colon slash spec l m rest h
mechanism_begin Q none colon slash (Ptr spec) rest h = target_begin Q none colon spec rest h
mechanism_begin Q none colon slash (Ip4 p) rest h = subst Q (sym h.whole) (colon (h.network ++ h.after))
mechanism_begin Q none colon slash (Ip6 p) rest h = subst Q (sym h.whole) (colon (h.network ++ h.after))
mechanism_begin Q none colon slash (Exists spec) rest h = target_begin Q none colon (Some spec) rest h

-- a word is seen as its name
sees_word : (text mark front name rest : List ℕ) → (mark ≡ []) ⊎ ((b : ℕ) × (mark ≡ b ∷ []) × (is_mark b ≡ true)) → SaysWord front name
    → list_all is_name_byte name ≡ true → is_ascii_alphabetic (head_or 0 name) ≡ true → Pauses is_name_byte rest → text ≡ mark ++ (front ++ rest) → Sees text mark name rest
sees_word text mark front name rest marks says letters begins pauses whole = record {
  front = front;
  marks = marks;
  says = says;
  letters = lower_all is_name_byte upper_name front (ap (list_all is_name_byte) says ∙ letters);
  begins = lower_head front (ap (λ n. is_ascii_alphabetic (head_or 0 n)) says ∙ begins);
  pauses = pauses;
  whole = whole;
}

pub names_are_names : (m : Mechanism) → (list_all is_name_byte (mechanism_name m) ≡ true) × (is_ascii_alphabetic (head_or 0 (mechanism_name m)) ≡ true)
names_are_names All = (refl, refl)
names_are_names (Include spec) = (refl, refl)
names_are_names (A spec l m) = (refl, refl)
names_are_names (Mx spec l m) = (refl, refl)
names_are_names (Ptr spec) = (refl, refl)
names_are_names (Ip4 p) = (refl, refl)
names_are_names (Ip6 p) = (refl, refl)
names_are_names (Exists spec) = (refl, refl)

mark_of : (mark : List ℕ) (v : Verdict) → SpellsQualifier mark v → (mark ≡ []) ⊎ ((b : ℕ) × (mark ≡ b ∷ []) × (is_mark b ≡ true))
mark_of mark Pass (inl e) = inl e
mark_of mark Pass (inr e) = inr (43, e, refl)
mark_of mark Fail e = inr (45, e, refl)
mark_of mark SoftFail e = inr (126, e, refl)
mark_of mark Neutral e = inr (63, e, refl)

-- a mechanism as its name and what stands behind it
mechanism_parts : (text : List ℕ) (m : Mechanism) → SpellsMechanism text m
    → (front rest : List ℕ) × SaysWord front (mechanism_name m) × BehindMechanism m rest × (text ≡ front ++ rest)
mechanism_parts text All h = (text, [], h, refl, sym (append-nil text))
mechanism_parts text (Include spec) h = h
mechanism_parts text (A spec l m) h = h
mechanism_parts text (Mx spec l m) h = h
mechanism_parts text (Ptr spec) h = h
mechanism_parts text (Ip4 p) h = h
mechanism_parts text (Ip6 p) h = h
mechanism_parts text (Exists spec) h = h

-- a name has bytes of names alone
pub name_bytes : (front : List ℕ) → is_name front ≡ true → list_all is_name_byte front ≡ true
name_bytes [] n = absurd (both_ways false refl n)
name_bytes (b ∷ bs) n = let split = and_parts (is_ascii_alphabetic b) _ n in
    and_from (is_name_byte b) (list_all is_name_byte bs) (or_left _ _ (or_left _ _ split.0)) split.1

pub view : (text : List ℕ) (t : Term) → SpellsTerm text t → (mark rest : List ℕ) × Sees text mark (term_name t) rest × Behind t mark rest
view text (Directive v m) h =
    let parts = mechanism_parts h.1 m h.3 in
    let names = names_are_names m in (
      h.0,
      parts.1,
      sees_word text h.0 parts.0 (mechanism_name m) parts.1 (mark_of h.0 v h.2) parts.2 names.0 names.1
          (mechanism_begin (Pauses is_name_byte) tt (λ r. refl) (λ r. refl) m parts.1 parts.3) (h.4 ∙ ap (λ t. h.0 ++ t) parts.4),
      (h.2, parts.3),
    )
view text (Redirect spec) h =
    ([], h.1, sees_word text [] h.0 (codes "redirect") h.1 (inl refl) h.2 refl refl (subst (λ t. Pauses is_name_byte t) (sym h.3.2) refl) h.4, (refl, h.3))
view text (Exp spec) h =
    ([], h.1, sees_word text [] h.0 (codes "exp") h.1 (inl refl) h.2 refl refl (subst (λ t. Pauses is_name_byte t) (sym h.3.2) refl) h.4, (refl, h.3))
view text (Unknown name value) h = (
  [],
  61 ∷ h.rest,
  record {
    front = h.front;
    marks = inl refl;
    says = h.lower;
    letters = name_bytes h.front h.named;
    begins = first h.front h.named;
    pauses = refl;
    whole = h.whole;
  },
  (refl, h.no_redirect, h.no_exp, (h.rest, h.spells, refl)),
)
  where
    first : (front : List ℕ) → is_name front ≡ true → is_ascii_alphabetic (head_or 0 front) ≡ true
    first [] n = absurd (both_ways false refl n)
    first (b ∷ bs) n = (and_parts (is_ascii_alphabetic b) _ n).0

-- ---- which term it is

-- the number of a mechanism, by its name
abbrev number_of : List ℕ → ℕ
number_of name = if bytes_eq name (codes "all") then 1 else (if bytes_eq name (codes "include") then 2 else (if bytes_eq name (codes "a") then 3
    else (if bytes_eq name (codes "mx") then 4 else (if bytes_eq name (codes "ptr") then 5 else (if bytes_eq name (codes "ip4") then 6
    else (if bytes_eq name (codes "ip6") then 7 else 8))))))

abbrev modifier_number : List ℕ → ℕ
modifier_number name = if bytes_eq name (codes "redirect") then 9 else (if bytes_eq name (codes "exp") then 10 else 11)

abbrev number : List ℕ → List ℕ → ℕ
number name rest = if head_or 0 rest == 61 then modifier_number name else number_of name

abbrev mechanism_number : Mechanism → ℕ
mechanism_number All = 1
mechanism_number (Include spec) = 2
mechanism_number (A spec l m) = 3
mechanism_number (Mx spec l m) = 4
mechanism_number (Ptr spec) = 5
mechanism_number (Ip4 p) = 6
mechanism_number (Ip6 p) = 7
mechanism_number (Exists spec) = 8

abbrev term_number : Term → ℕ
term_number (Directive v m) = mechanism_number m
term_number (Redirect spec) = 9
term_number (Exp spec) = 10
term_number (Unknown name value) = 11

named_number : (m : Mechanism) → number_of (mechanism_name m) ≡ mechanism_number m
named_number All = refl
named_number (Include spec) = refl
named_number (A spec l m) = refl
named_number (Mx spec l m) = refl
named_number (Ptr spec) = refl
named_number (Ip4 p) = refl
named_number (Ip6 p) = refl
named_number (Exists spec) = refl

numbers : (t : Term) (mark rest : List ℕ) → Behind t mark rest → number (term_name t) rest ≡ term_number t
numbers (Directive v m) mark rest h =
    mechanism_begin (λ r. number (mechanism_name m) r ≡ mechanism_number m) (named_number m) (λ r. named_number m) (λ r. named_number m) m rest h.1
numbers (Redirect spec) mark rest h = ap (number (codes "redirect")) h.1.2
numbers (Exp spec) mark rest h = ap (number (codes "exp")) h.1.2
numbers (Unknown name value) mark rest h = ap (number name) h.3.2 ∙ (cond-false (bytes_eq name (codes "redirect")) 9 _
    (false_from_ne_true (bytes_eq name (codes "redirect")) (λ e. h.1 ((bytes_eq-Decides name (codes "redirect")).0 e)))
    ∙ cond-false (bytes_eq name (codes "exp")) 10 11 (false_from_ne_true (bytes_eq name (codes "exp")) (λ e. h.2 ((bytes_eq-Decides name (codes "exp")).0 e))))

-- the verdict of a qualifier
abbrev verdict_of : List ℕ → Verdict
verdict_of [] = Pass
verdict_of (b ∷ bs) = if b == 45 then Fail else (if b == 126 then SoftFail else (if b == 63 then Neutral else Pass))

one_verdict : (mark : List ℕ) (v w : Verdict) → SpellsQualifier mark v → SpellsQualifier mark w → v ≡ w
one_verdict mark v w h g = sym (of v h) ∙ of w g
  where
    of : (v : Verdict) → SpellsQualifier mark v → verdict_of mark ≡ v
    of Pass (inl e) = ap verdict_of e
    of Pass (inr e) = ap verdict_of e
    of Fail e = ap verdict_of e
    of SoftFail e = ap verdict_of e
    of Neutral e = ap verdict_of e

one_behind : (explain : Bool) (rest : List ℕ) (a b : List Piece) → ((value : List ℕ) × SpellsDomainSpec explain value a × (rest ≡ 61 ∷ value))
    → ((value : List ℕ) × SpellsDomainSpec explain value b × (rest ≡ 61 ∷ value)) → a ≡ b
one_behind explain rest a b h g = one_spec explain h.0 a b h.1 (subst (λ t. SpellsDomainSpec explain t b) (sym (tails (sym h.2 ∙ g.2))) g.1)

one_behind_target : (rest : List ℕ) (a b : List Piece) → SpellsTarget rest (Some a) → SpellsTarget rest (Some b) → a ≡ b
one_behind_target rest a b h g = one_spec false h.0 a b h.1 (subst (λ t. SpellsDomainSpec false t b) (sym (tails (sym h.2 ∙ g.2))) g.1)

no_modifier : (m : Mechanism) (n : ℕ) → 9 ≤ n → mechanism_number m ≡ n → ⊥
no_modifier m n h e = omega (arith, h, e, small m)
  where
    small : (m : Mechanism) → mechanism_number m ≤ 8
    small All = lit≤ tt
    small (Include spec) = lit≤ tt
    small (A spec l k) = lit≤ tt
    small (Mx spec l k) = lit≤ tt
    small (Ptr spec) = lit≤ tt
    small (Ip4 p) = lit≤ tt
    small (Ip6 p) = lit≤ tt
    small (Exists spec) = lit≤ tt

same_term : OneAddress → (t u : Term) (mark rest : List ℕ) → Behind t mark rest → Behind u mark rest → term_name t ≡ term_name u → term_number t ≡ term_number u → t ≡ u
same_term one (Directive v All) (Directive w All) mark rest h g name numbered = ap (λ x. Directive x All) (one_verdict mark v w h.0 g.0)
same_term one (Directive v (Include a)) (Directive w (Include b)) mark rest h g name numbered =
    let spec = one_behind_target rest a b h.1 g.1 in
    (λ i. Directive (one_verdict mark v w h.0 g.0 i) (Include (spec i)))
same_term one (Directive v (Exists a)) (Directive w (Exists b)) mark rest h g name numbered =
    let spec = one_behind_target rest a b h.1 g.1 in
    (λ i. Directive (one_verdict mark v w h.0 g.0 i) (Exists (spec i)))
same_term one (Directive v (A a l m)) (Directive w (A b l' m')) mark rest h g name numbered =
    let hosts = one_hosts rest a b l m l' m' h.1 g.1 in
    (λ i. Directive (one_verdict mark v w h.0 g.0 i) (A (hosts.0 i) (hosts.1 i) (hosts.2 i)))
same_term one (Directive v (Mx a l m)) (Directive w (Mx b l' m')) mark rest h g name numbered =
    let hosts = one_hosts rest a b l m l' m' h.1 g.1 in
    (λ i. Directive (one_verdict mark v w h.0 g.0 i) (Mx (hosts.0 i) (hosts.1 i) (hosts.2 i)))
same_term one (Directive v (Ptr a)) (Directive w (Ptr b)) mark rest h g name numbered =
    let spec = one_target rest a b h.1 g.1 in
    (λ i. Directive (one_verdict mark v w h.0 g.0 i) (Ptr (spec i)))
same_term one (Directive v (Ip4 p)) (Directive w (Ip4 q)) mark rest h g name numbered =
    let net = one_network one V4 rest p q h.1 g.1 in
    (λ i. Directive (one_verdict mark v w h.0 g.0 i) (Ip4 (net i)))
same_term one (Directive v (Ip6 p)) (Directive w (Ip6 q)) mark rest h g name numbered =
    let net = one_network one V6 rest p q h.1 g.1 in
    (λ i. Directive (one_verdict mark v w h.0 g.0 i) (Ip6 (net i)))
same_term one (Redirect a) (Redirect b) mark rest h g name numbered = ap Redirect (one_behind false rest a b h.1 g.1)
same_term one (Exp a) (Exp b) mark rest h g name numbered = ap Exp (one_behind true rest a b h.1 g.1)
same_term one (Unknown n a) (Unknown m b) mark rest h g name numbered =
    let value = one_macro_text h.3.0 a b h.3.1 (subst (λ t. SpellsMacroText t b) (sym (tails (sym h.3.2 ∙ g.3.2))) g.3.1) in
    (λ i. Unknown (name i) (value i))
same_term one (Directive v m) (Redirect b) mark rest h g name numbered = absurd (no_modifier m 9 (lit≤ tt) numbered)
same_term one (Directive v m) (Exp b) mark rest h g name numbered = absurd (no_modifier m 10 (lit≤ tt) numbered)
same_term one (Directive v m) (Unknown n b) mark rest h g name numbered = absurd (no_modifier m 11 (lit≤ tt) numbered)
same_term one (Redirect a) (Directive w m) mark rest h g name numbered = absurd (no_modifier m 9 (lit≤ tt) (sym numbered))
same_term one (Exp a) (Directive w m) mark rest h g name numbered = absurd (no_modifier m 10 (lit≤ tt) (sym numbered))
same_term one (Unknown n a) (Directive w m) mark rest h g name numbered = absurd (no_modifier m 11 (lit≤ tt) (sym numbered))
same_term one t u mark rest h g name numbered = apart (term_number t) (term_number u) refl numbered

-- a word is at most one term
pub one_term : OneAddress → (text : List ℕ) (t u : Term) → SpellsTerm text t → SpellsTerm text u → t ≡ u
one_term one text t u h g =
    let a = view text t h in
    let b = view text u g in
    let same = one_view text a.0 (term_name t) a.1 b.0 (term_name u) b.1 a.2 b.2 in
    let behind : Behind u a.0 a.1 = subst (λ m. Behind u m a.1) (sym same.0) (subst (λ r. Behind u b.0 r) (sym same.2) b.3) in
    same_term one t u a.0 a.1 a.3 behind same.1
    (sym (numbers t a.0 a.1 a.3) ∙ ap (λ n. number n a.1) same.1 ∙ numbers u a.0 a.1 behind)

-- ---- no term has a space

both_no_space : (a b : List ℕ) → list_all no_space a ≡ true → list_all no_space b ≡ true → list_all no_space (a ++ b) ≡ true
both_no_space = all_both no_space

letter_no_space : (l : Letter) (u : Bool) → no_space (letter_byte l u) ≡ true
letter_no_space S true = refl
letter_no_space S false = refl
letter_no_space L true = refl
letter_no_space L false = refl
letter_no_space O true = refl
letter_no_space O false = refl
letter_no_space D true = refl
letter_no_space D false = refl
letter_no_space I true = refl
letter_no_space I false = refl
letter_no_space P true = refl
letter_no_space P false = refl
letter_no_space H true = refl
letter_no_space H false = refl
letter_no_space V true = refl
letter_no_space V false = refl
letter_no_space C true = refl
letter_no_space C false = refl
letter_no_space R true = refl
letter_no_space R false = refl
letter_no_space T true = refl
letter_no_space T false = refl

turn_no_space : (text : List ℕ) (r : Bool) → SpellsReverse text r → list_all no_space text ≡ true
turn_no_space text true (inl e) = ap (list_all no_space) e
turn_no_space text true (inr e) = ap (list_all no_space) e
turn_no_space text false e = ap (list_all no_space) e

macro_no_space : (text : List ℕ) (m : Macro) → SpellsMacro text m → list_all no_space text ≡ true
macro_no_space text m h = ap (list_all no_space) h.whole ∙ and_from (no_space (letter_byte m.letter m.upper)) _ (letter_no_space m.letter m.upper)
    (both_no_space h.digits (h.turn ++ (h.delims ++ codes "}")) (weaker is_digit no_space (keeps_out is_digit 32 refl) h.digits (keep_digits h.digits m.keep h.keeps))
    (both_no_space h.turn (h.delims ++ codes "}") (turn_no_space h.turn m.reverse h.reverses)
    (both_no_space h.delims (codes "}") (weaker is_delimiter no_space (keeps_out is_delimiter 32 refl) h.delims h.splits.0) refl)))

piece_no_space : (text : List ℕ) (p : Piece) → SpellsPiece text p → list_all no_space text ≡ true
piece_no_space text (Literal b) h = ap (list_all no_space) h.1 ∙ and_from (no_space b) true (keeps_out is_literal 32 refl b h.0) refl
piece_no_space text Percent h = ap (list_all no_space) h
piece_no_space text Space h = ap (list_all no_space) h
piece_no_space text Percent20 h = ap (list_all no_space) h
piece_no_space text (Expand m) h = macro_no_space text m h

text_no_space : (text : List ℕ) (ps : List Piece) → SpellsMacroText text ps → list_all no_space text ≡ true
text_no_space text [] h = ap (list_all no_space) h
text_no_space text (p ∷ ps) h = ap (list_all no_space) h.4 ∙ both_no_space h.0 h.1 (piece_no_space h.0 p h.2) (text_no_space h.1 ps h.3)

target_no_space : (text : List ℕ) (spec : Option (List Piece)) → SpellsTarget text spec → list_all no_space text ≡ true
target_no_space text None h = ap (list_all no_space) h
target_no_space text (Some spec) h = ap (list_all no_space) h.2 ∙ text_no_space h.0 spec (spec_spelled false h.0 spec h.1)

len_no_space : (s : List ℕ) (most : ℕ) (text : List ℕ) (len : ℕ) → most ≤ 128 → list_all is_len_byte s ≡ true → SpellsLen s most text len → list_all no_space text ≡ true
len_no_space s most text len small slash h = weaker is_len_byte no_space (keeps_out is_len_byte 32 refl) text (lens_bytes s most text len small slash h)

network_no_space : OneAddress → (f : Family) (p : Cidr) (text : List ℕ) → SpellsNetwork f p text → list_all no_space text ≡ true
network_no_space one f p text h = ap (list_all no_space) h.whole
    ∙ both_no_space h.network h.after (weaker is_address_byte no_space (keeps_out is_address_byte 32 refl) h.network (one.bytes f h.network h.address h.spells))
    (len_no_space (codes "/") (bits_of f) h.after h.len (few_bits f) refl h.short)

hosts_no_space : (spec : Option (List Piece)) (l m : ℕ) (text : List ℕ) → SpellsHosts spec l m text → list_all no_space text ≡ true
hosts_no_space spec l m text h = ap (list_all no_space) h.whole ∙ both_no_space h.target (h.after4 ++ h.after6) (target_no_space h.target spec h.hosts)
    (both_no_space h.after4 h.after6 (len_no_space (codes "/") 32 h.after4 l (lit≤ tt) refl h.short4) (len_no_space (codes "//") 128 h.after6 m (lit≤ tt) refl h.short6))

behind_no_space : OneAddress → (t : Term) (mark rest : List ℕ) → Behind t mark rest → list_all no_space rest ≡ true
behind_no_space one (Directive v All) mark rest h = ap (list_all no_space) h.1
behind_no_space one (Directive v (Include spec)) mark rest h = target_no_space rest (Some spec) h.1
behind_no_space one (Directive v (A spec l m)) mark rest h = hosts_no_space spec l m rest h.1
behind_no_space one (Directive v (Mx spec l m)) mark rest h = hosts_no_space spec l m rest h.1
behind_no_space one (Directive v (Ptr spec)) mark rest h = target_no_space rest spec h.1
behind_no_space one (Directive v (Ip4 p)) mark rest h = network_no_space one V4 p rest h.1
behind_no_space one (Directive v (Ip6 p)) mark rest h = network_no_space one V6 p rest h.1
behind_no_space one (Directive v (Exists spec)) mark rest h = target_no_space rest (Some spec) h.1
behind_no_space one (Redirect spec) mark rest h = ap (list_all no_space) h.1.2 ∙ text_no_space h.1.0 spec (spec_spelled false h.1.0 spec h.1.1)
behind_no_space one (Exp spec) mark rest h = ap (list_all no_space) h.1.2 ∙ text_no_space h.1.0 spec (spec_spelled true h.1.0 spec h.1.1)
behind_no_space one (Unknown name value) mark rest h = ap (list_all no_space) h.3.2 ∙ text_no_space h.3.0 value h.3.1

mark_no_space : (mark : List ℕ) → (mark ≡ []) ⊎ ((b : ℕ) × (mark ≡ b ∷ []) × (is_mark b ≡ true)) → list_all no_space mark ≡ true
mark_no_space mark (inl e) = ap (list_all no_space) e
mark_no_space mark (inr e) = ap (list_all no_space) e.1 ∙ and_from (no_space e.0) true (keeps_out is_mark 32 refl e.0 e.2) refl

sees_some : (mark front rest : List ℕ) → is_ascii_alphabetic (head_or 0 front) ≡ true → 0 < length (mark ++ (front ++ rest))
sees_some (m ∷ ms) front rest h = omega arith
sees_some [] (f ∷ fs) rest h = omega arith
sees_some [] [] rest h = absurd (both_ways false refl h)

is_word : (text : List ℕ) → 0 < length text → list_all no_space text ≡ true → IsWord text
is_word [] some h = absurd (omega (arith, some))
is_word (b ∷ bs) some h = h

pub term_word : OneAddress → (text : List ℕ) (t : Term) → SpellsTerm text t → IsWord text
term_word one text t h =
    let a = view text t h in
    let s = a.2 in
    is_word text (subst (λ x. 0 < length x) (sym s.whole) (sees_some a.0 s.front a.1 s.begins))
    (ap (list_all no_space) s.whole ∙ both_no_space a.0 (s.front ++ a.1) (mark_no_space a.0 s.marks)
    (both_no_space s.front a.1 (weaker is_name_byte no_space (keeps_out is_name_byte 32 refl) s.front s.letters) (behind_no_space one t a.0 a.1 a.3)))

-- ---- terms and policies

pub word_stops : (word rest : List ℕ) → IsWord word → Stops is_space (word ++ rest)
word_stops [] rest h = absurd h
word_stops (b ∷ bs) rest h = not-true (b == 32) (and_parts (no_space b) (list_all no_space bs) h).0

pub word_passes : (word : List ℕ) → IsWord word → list_all no_space word ≡ true
word_passes [] h = absurd h
word_passes (b ∷ bs) h = h

pub no_spaces_alone : (gap word rest : List ℕ) → IsWord word → list_all is_space (gap ++ (word ++ rest)) ≡ true → ⊥
no_spaces_alone gap [] rest h all = h
no_spaces_alone gap (b ∷ bs) rest h all =
    let behind = (and_parts (list_all is_space gap) (list_all is_space ((b ∷ bs) ++ rest)) (sym (list_all-append is_space gap ((b ∷ bs) ++ rest)) ∙ all)).1 in
    both_ways (b == 32) (not-true (b == 32) (and_parts (no_space b) (list_all no_space bs) h).0) (and_parts (is_space b) (list_all is_space (bs ++ rest)) behind).0

pub terms_pause : (text : List ℕ) (ts : List Term) → SpellsTerms text ts → Pauses no_space text
terms_pause text [] h = spaces text h
  where
    spaces : (text : List ℕ) → list_all is_space text ≡ true → Pauses no_space text
    spaces [] h = tt
    spaces (b ∷ bs) h = not_from_true (b == 32) (and_parts (is_space b) (list_all is_space bs) h).0
terms_pause text (t ∷ ts) h = subst (λ x. Pauses no_space x) (sym h.6) refl

pub one_terms : OneAddress → (text : List ℕ) (ts us : List Term) → SpellsTerms text ts → SpellsTerms text us → ts ≡ us
one_terms one text [] [] h g = refl
one_terms one text [] (u ∷ us) h g =
    absurd (no_spaces_alone g.0 g.1 g.2 (term_word one g.1 u g.4) (and_parts true (list_all is_space (g.0 ++ (g.1 ++ g.2))) (ap (list_all is_space) (sym g.6) ∙ h)).1)
one_terms one text (t ∷ ts) [] h g =
    absurd (no_spaces_alone h.0 h.1 h.2 (term_word one h.1 t h.4) (and_parts true (list_all is_space (h.0 ++ (h.1 ++ h.2))) (ap (list_all is_space) (sym h.6) ∙ g)).1)
one_terms one text (t ∷ ts) (u ∷ us) h g =
    let wt = term_word one h.1 t h.4 in
    let wu = term_word one g.1 u g.4 in
    let gaps = spans is_space h.0 g.0 (h.1 ++ h.2) (g.1 ++ g.2) h.3 g.3 (word_stops h.1 h.2 wt) (word_stops g.1 g.2 wu) (tails (sym h.6 ∙ g.6)) in
    let words = one_span no_space h.1 g.1 h.2 g.2 (word_passes h.1 wt) (word_passes g.1 wu) (terms_pause h.2 ts h.5) (terms_pause g.2 us g.5) gaps.1 in
    ap (λ x. x ∷ ts) (one_term one g.1 t u (subst (λ w. SpellsTerm w t) words.0 h.4) g.4)
    ∙ ap (λ l. u ∷ l) (one_terms one g.2 ts us (subst (λ r. SpellsTerms r ts) words.1 h.5) g.5)

-- a text spells at most one policy
pub one_policy : OneAddress → OnePolicy
one_policy one text a b h g =
    let version : (v : List ℕ) → SaysWord v (codes "v=spf1") → list_all no_space v ≡ true =
    λ v says. lower_all no_space upper_no_space v (ap (list_all no_space) says) in
    let parts = one_span no_space h.version g.version h.rest g.rest (version h.version h.begins) (version g.version g.begins)
    (terms_pause h.rest a.terms h.terms) (terms_pause g.rest b.terms g.terms) (sym h.whole ∙ g.whole) in
    let terms = one_terms one g.rest a.terms b.terms (subst (λ r. SpellsTerms r a.terms) parts.1 h.terms) g.terms in
    (λ i. record { terms = terms i })
