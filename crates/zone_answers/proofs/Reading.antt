-- The records of a master file may be lent.
use Rattle.std.proofs.Common.{◌≡◌, ℕ, ◌+◌, ◌<◌, ◌≤◌, Bool, true, false, ◌||◌, List, [], ◌∷◌, length, map, filter, sum_by, Result, Ok, Err, refl, sym, subst, arith, nat_lt, if◌then◌else◌, codes}
use Rattle.std.specs.Bool.{MatchBool}
use Rattle.std.specs.List.{list_any, AllByRecursion}
use Rattle.std.proofs.lemmas.Bool.{ltb-false, or_parts}
use Rattle.dns_name.specs.Name.{IsUnder, is_under}
use Rattle.dns_name.proofs.Names.{under_decides}
use Rattle.dns_name.proofs.Octets.{all_append}
use Rattle.master_lex.specs.declared.entry.Token.{Token}
use Rattle.master_lex.specs.declared.entry.Entry.{Entry}
use Rattle.master_lex.specs.Entries.{has_token}
use Rattle.addr_bits.specs.declared.address.Family.{Family}
use Rattle.addr_bits.specs.declared.address.Family.TheVariants.{V4, V6}
use Rattle.addr_bits.specs.Address.{address_of}
use Rattle.master_reader.specs.declared.fault.Kind.{Kind}
use Rattle.master_reader.specs.declared.fault.Kind.TheVariants as kinds
use Rattle.master_reader.specs.declared.record.Body.{Body}
use Rattle.master_reader.specs.declared.record.Body.TheVariants.{Mx, Txt, Cname, Ns, Other}
use Rattle.master_reader.specs.declared.record.Record.{Record}
use Rattle.master_reader.specs.Tokens.{bytes_of, is_bare, is_word, name_in}
use Rattle.master_reader.specs.Entry.{Context, Ask, a_record, an_origin, no_record, context_behind, only_name, ◌>>=◌}
use Rattle.master_reader.specs.Data.{address_body, IsBody, IsAddressBody, other_body, txt_body, name_body, mx_body}
use Rattle.master_reader.specs.Reading.{Reads, Adds, Mean, first_context}
use Rattle.zone_answers.specs.Lend.{AreLendable, IsBodyFit}

-- ---- the bodies of records

all_short : (strings : List (List ℕ)) → list_any (λ s. nat_lt 255 (length s)) strings ≡ false → AllByRecursion (λ s. length s ≤ 255) strings
all_short [] h = tt
all_short (s ∷ strings) h = let p = or_parts (nat_lt 255 (length s)) (list_any (λ x. nat_lt 255 (length x)) strings) h in (ltb-false 255 (length s) p.0, all_short strings p.1)

text_fit : (strings : List (List ℕ)) (t : Bool) (body : Body) → (list_any (λ s. nat_lt 255 (length s)) strings || nat_lt 65535 (sum_by (λ s. length s + 1) strings)) ≡ t → 0 < length strings
    → (let r : Result Body Kind = if t then Err kinds.LongText else Ok (Txt strings) in Ok body ≡ r) → IsBodyFit body
text_fit strings true body is some e = absurd cc
text_fit strings false body is some e =
    let p = or_parts (list_any (λ s. nat_lt 255 (length s)) strings) (nat_lt 65535 (sum_by (λ s. length s + 1) strings)) is in
    let same : Txt strings ≡ body = cc in
    subst IsBodyFit same (some, all_short strings p.0, ltb-false 65535 (sum_by (λ s. length s + 1) strings) p.1)

txt_fit : (content : List Token) (body : Body) → Ok body ≡ txt_body content → IsBodyFit body
txt_fit [] body e = absurd cc
txt_fit (token ∷ tokens) body e = text_fit (map bytes_of (token ∷ tokens)) _ body refl (omega arith) e

bound : {X : Type 0} (r : Result X Kind) (f : X → Result Body Kind) (body : Body) → Ok body ≡ (r >>= f) → ((x : X) → Ok body ≡ f x → IsBodyFit body) → IsBodyFit body
bound (Ok x) f body e h = h x e
bound (Err kind) f body e h = absurd cc

name_fit : (build : List (List ℕ) → Body) → ((x : List (List ℕ)) → IsBodyFit (build x)) → (origin : List (List ℕ)) (content : List Token) (body : Body) → Ok body ≡ name_body build origin content → IsBodyFit body
name_fit build plain origin content body e =
    bound (only_name origin content) (λ name. Ok (build name)) body e (λ name h. let same : build name ≡ body = cc in subst IsBodyFit same (plain name))

mx_fit-one : (t : Bool) (n : ℕ) (r : Result (List (List ℕ)) Kind) (body : Body) → (let whole : Result Body Kind = if t then (r >>= λ name. Ok (Mx n name)) else Err kinds.BadData in Ok body ≡ whole) → IsBodyFit body
mx_fit-one true n r body e = bound r (λ name. Ok (Mx n name)) body e (λ name h. let same : Mx n name ≡ body = cc in subst IsBodyFit same tt)
mx_fit-one false n r body e = absurd cc

mx_fit : (origin : List (List ℕ)) (content : List Token) (body : Body) → Ok body ≡ mx_body origin content → IsBodyFit body
mx_fit origin [] body e = absurd cc
mx_fit origin (preference ∷ []) body e = absurd cc
mx_fit origin (preference ∷ exchange ∷ []) body e = mx_fit-one _ _ (name_in origin exchange) body e
mx_fit origin (preference ∷ exchange ∷ other ∷ more) body e = absurd cc

either : (t : Bool) (here there : Result Body Kind) (body : Body) → Ok body ≡ (if t then here else there) → (Ok body ≡ here → IsBodyFit body) → (Ok body ≡ there → IsBodyFit body) → IsBodyFit body
either true here there body e f g = f e
either false here there body e f g = g e

other_fit : (origin : List (List ℕ)) (type : Token) (content : List Token) (body : Body) → Ok body ≡ other_body origin type content → IsBodyFit body
other_fit origin type content body e =
    either (is_word type (codes "cname")) _ _ body e (name_fit Cname (λ _. tt) origin content body)
    (λ e2. either (is_word type (codes "ns")) _ _ body e2 (name_fit Ns (λ _. tt) origin content body)
    (λ e3. either (is_word type (codes "mx")) _ _ body e3 (mx_fit origin content body)
    (λ e4. either (is_word type (codes "txt")) _ _ body e4 (txt_fit content body) (λ e5. let same : Other ≡ body = cc in subst IsBodyFit same tt))))

by_test : (t : Bool) (P Q G : Type 0) → MatchBool t P Q → (P → G) → (Q → G) → G
by_test true P Q G h f g = f h
by_test false P Q G h f g = g h

address_fit : (f : Family) (content : List Token) (body : Body) → IsAddressBody f content (Ok body) → IsBodyFit body
address_fit f [] body e = absurd cc
address_fit f (token ∷ []) body e = by_test (is_bare token) _ _ (IsBodyFit body) e (λ h. subst IsBodyFit (sym h.2) (plain f h.0)) (λ h. absurd cc)
  where
    plain : (f : Family) (n : ℕ) → IsBodyFit (address_body (address_of f n))
    plain V4 n = tt
    plain V6 n = tt
address_fit f (token ∷ other ∷ more) body e = absurd cc

body_fit : (origin : List (List ℕ)) (type : Token) (content : List Token) (body : Body) → IsBody origin type content (Ok body) → IsBodyFit body
body_fit origin type content body h =
    by_test (is_word type (codes "a")) _ _ (IsBodyFit body) h (address_fit V4 content body)
    (λ k. by_test (is_word type (codes "aaaa")) _ _ (IsBodyFit body) k (address_fit V6 content body) (other_fit origin type content body))

-- ---- the records of a file

kept_lendable : (zone : List (List ℕ)) (r : Record) (t : Bool) → is_under r.owner zone ≡ t → IsBodyFit r.body → AreLendable zone (if t then r ∷ [] else [])
kept_lendable zone r true is fit = (((under_decides r.owner zone).0 is, fit), tt)
kept_lendable zone r false is fit = tt

adds_lendable : (zone origin : List (List ℕ)) (ask : Ask) (records : List Record) → Adds zone origin ask records → AreLendable zone records
adds_lendable zone origin (a_record owner type content) records h =
    subst (AreLendable zone) (sym h.2) (kept_lendable zone (record { owner = owner; body = h.0 }) (is_under owner zone) refl (body_fit origin type content h.0 h.1))
adds_lendable zone origin (an_origin name) records h = subst (AreLendable zone) (sym h) tt
adds_lendable zone origin no_record records h = subst (AreLendable zone) (sym h) tt

mean_lendable : (zone : List (List ℕ)) (context : Context) (entries : List Entry) (behind : Context) (records : List Record) → Mean zone context entries behind records → AreLendable zone records
mean_lendable zone context [] behind records h = subst (AreLendable zone) (sym h.1) tt
mean_lendable zone context (entry ∷ entries) behind records h =
    subst (AreLendable zone) (sym h.2.2) (all_append (λ r. IsUnder r.owner zone × IsBodyFit r.body) h.2.0 h.2.1 (adds_lendable zone context.origin h.0 h.2.0 h.2.3)
    (mean_lendable zone (context_behind context h.0) entries behind h.2.1 h.2.4))

pub read_lendable : (zone : List (List ℕ)) (bytes : List ℕ) (records : List Record) → Reads zone bytes records → AreLendable zone records
read_lendable zone bytes records h = mean_lendable zone (first_context zone) (filter has_token h.entries) h.context records h.meaning
