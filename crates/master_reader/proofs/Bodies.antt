-- The bodies of records.
use Rattle.std.proofs.Common.{◌≡◌, ℕ, suc, ◌+◌, ◌<◌, ◌⊎◌, Bool, true, false, cond, ◌||◌, List, [], ◌∷◌, ◌++◌, length, take, drop, map, get_or, refl, sym, ap, ◌∙◌, arith, inl, inr, nat_lt, lt-ltb, Some, None, Result, Err, subst, take-append-drop}
use Rattle.std.specs.Prelude.{sum_by, MatchBool}
use Rattle.std.specs.List.{list_any}
use Rattle.std.proofs.Math.Seq.{drop-cons}
use Rattle.std.proofs.lemmas.List.{map-append, length-map}
use Rattle.std.proofs.lemmas.List.Sums.{sum_by-cons, sum_by-append}
use Rattle.addr_bits.specs.declared.address.Family.{Family}
use Rattle.addr_bits.specs.Address.{SpellsIn}
use Rattle.master_lex.specs.declared.entry.Token.{Token}
use Rattle.master_reader.specs.declared.fault.Kind.{Kind}
use Rattle.master_reader.specs.declared.fault.Kind.TheVariants.{BadData}
use Rattle.master_reader.specs.declared.record.Body.{Body}
use Rattle.master_reader.specs.Tokens.{bytes_of, is_bare}
use Rattle.master_reader.specs.Data.{IsAddressBody, only_bare, is_long_text}

-- a plain token without escapes that spells no address
pub no_address : (f : Family) (content : List Token) (token : Token) (text : List ℕ) → only_bare content ≡ Some token → text ≡ bytes_of token → ((n : ℕ) → ¬ SpellsIn f text n) → IsAddressBody f content (Err BadData)
no_address f [] token text is same none = absurd cc
no_address f (t ∷ []) token text is same none = by (is_bare t) refl is
  where
    spelled : t ≡ token → (n : ℕ) → ¬ SpellsIn f (bytes_of t) n
    spelled e n s = none n (subst (λ (l : List ℕ). SpellsIn f l n) (ap bytes_of e ∙ sym same) s)

    by : (b : Bool) → is_bare t ≡ b → cond b (Some t) None ≡ Some token → MatchBool b ((BadData ≡ BadData) × ((n : ℕ) → ¬ SpellsIn f (bytes_of t) n)) (◌≡◌ {A = Result Body Kind} (Err BadData) (Err BadData))
    by true bare e = (refl, spelled cc)
    by false bare e = refl
no_address f (t ∷ u ∷ more) token text is same none = absurd cc

-- ---- long texts

any_append : (test : List ℕ → Bool) (xs : List (List ℕ)) (y : List ℕ) (ys : List (List ℕ)) → test y ≡ true → list_any test (xs ++ y ∷ ys) ≡ true
any_append test [] y ys h = ap (λ t. t || list_any test ys) h
any_append test (x ∷ xs) y ys h = ap (λ t. test x || t) (any_append test xs y ys h) ∙ either (test x)
  where
    either : (b : Bool) → (b || true) ≡ true
    either true = refl
    either false = refl

-- a string that is too long itself, or with those before it
pub long_here : (content : List Token) (i : ℕ) (token : Token) (octets : ℕ) → i < length content → token ≡ get_or content i token → octets ≡ sum_by (λ s. length s + 1) (map bytes_of (take i content)) → (255 < length token.units) ⊎ (65535 < octets + length token.units + 1)
    → true ≡ is_long_text (map bytes_of content)
long_here content i token octets within at sum long = sym (by long)
  where
    len : length (bytes_of token) ≡ length token.units
    len = length-map token.units (λ o. o.byte)

    cut : map bytes_of content ≡ map bytes_of (take i content) ++ bytes_of token ∷ map bytes_of (drop (suc i) content)
    cut =
        ap (map bytes_of) (sym (take-append-drop i content) ∙ ap (λ (l : List Token). take i content ++ l) (drop-cons content i token within ∙ ap (λ (t : Token). t ∷ drop (suc i) content) (sym at)))
        ∙ map-append bytes_of (take i content) (token ∷ drop (suc i) content)

    whole : sum_by (λ s. length s + 1) (map bytes_of content) ≡ sum_by (λ s. length s + 1) (map bytes_of (take i content)) + (length (bytes_of token) + 1 + sum_by (λ s. length s + 1) (map bytes_of (drop (suc i) content)))
    whole =
        ap (sum_by (λ s. length s + 1)) cut ∙ sum_by-append (λ s. length s + 1) (map bytes_of (take i content)) (bytes_of token ∷ map bytes_of (drop (suc i) content))
        ∙ ap (λ n. sum_by (λ s. length s + 1) (map bytes_of (take i content)) + n) (sum_by-cons (λ s. length s + 1) (bytes_of token) (map bytes_of (drop (suc i) content)))

    either : (b : Bool) → (b || true) ≡ true
    either true = refl
    either false = refl

    by : (255 < length token.units) ⊎ (65535 < octets + length token.units + 1) → is_long_text (map bytes_of content) ≡ true
    by (inl h) = ap (λ t. t || nat_lt 65535 (sum_by (λ s. length s + 1) (map bytes_of content))) (ap (list_any (λ s. nat_lt 255 (length s))) cut ∙ any_append (λ s. nat_lt 255 (length s)) (map bytes_of (take i content)) (bytes_of token) (map bytes_of (drop (suc i) content)) (lt-ltb 255 (length (bytes_of token)) (omega (arith, h, len))))
    by (inr h) = ap (λ t. list_any (λ s. nat_lt 255 (length s)) (map bytes_of content) || t) (lt-ltb 65535 (sum_by (λ s. length s + 1) (map bytes_of content)) (omega (arith, h, len, whole, sum))) ∙ either (list_any (λ s. nat_lt 255 (length s)) (map bytes_of content))
