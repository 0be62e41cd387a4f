-- A fragment is read as its records.
use Rattle.std.proofs.Common.{◌≡◌, ℕ, ◌+◌, ◌<◌, ◌≤◌, ◌^◌, ◌==◌, Bool, true, false, not, cond, ◌&&◌, List, [], ◌∷◌, ◌++◌, length, map, flat_map, decimal, Ok, Err, Option, Some, None, Result, refl, sym, ap, ap₂, subst, ◌∙◌, arith, append_assoc, append-nil, length-append, lt-ltb}
use Rattle.std.specs.Prelude.{codes, nat_le}
use Rattle.std.specs.Char.{is_ascii_digit}
use Rattle.std.specs.List.{list_all}
use Rattle.std.specs.Str.Parse.{digits_value}
use Rattle.std.proofs.lemmas.Bool.{and_parts, and_from, or_left, le-leb}
use Rattle.std.proofs.lemmas.Fmt.{decimal_is_IsNumeral, decimal_nonempty}
use Rattle.dns_name.specs.Name.{is_under, name_of_text}
use Rattle.dns_name.proofs.Names.{under_decides, under_itself}
use Rattle.spf_grammar.proofs.Numbers.{decimal_ascii}
use Rattle.spf_grammar.proofs.OneTail.{all_both}
use Rattle.spf_grammar.specs.Families.{HavePrefixes}
use Rattle.spf_grammar.specs.declared.flat.FlatTerm.{FlatTerm}
use Rattle.bound_table.specs.Lines.{table_text}
use Rattle.record_pack.specs.Records.{Fits, RecordsFit, piece, pieces_from, record_text}
use Rattle.master_reader.specs.declared.fault.Kind.{Kind}
use Rattle.master_reader.specs.declared.fault.Kind.TheVariants as kinds
use Rattle.master_reader.specs.declared.record.Body.TheVariants.{Txt}
use Rattle.master_reader.specs.declared.record.Record.{Record}
use Rattle.master_reader.specs.Tokens.{are_digits, bytes_of, name_in}
use Rattle.master_reader.specs.Ttl.{are_groups, is_ttl}
use Rattle.master_reader.specs.Entry.{◌>>=◌, Context, a_record, an_origin, is_dollar_word, no_record, record_ask, says_ttl}
use Rattle.master_reader.specs.Data.{is_long_text, txt_body}
use Rattle.master_reader.proofs.Asked.{stated_asks}
use Rattle.zone_writer.specs.Fragment.{owner_text, quoted, record_line, record_lines, strings_of}
use Rattle.zone_writer.specs.Written.{AreChainWords, FragmentIsRead, record_owner, written_records}
use Rattle.zone_writer.proofs.Domains.{DomainEnds, decimal_words, domain_ends, label_parts, name_passes, owner_words, words_are_names}
use Rattle.zone_writer.proofs.Lines.{AreParts, IsWord, Part, ReadsOn, a_string, a_word, bytes_back, is_bare_byte, is_string_byte, line_entry, line_on, line_text, no_escapes, parts_text, parts_tokens, plain_token}
use Rattle.zone_writer.proofs.Names.{origin_read, owner_read}
use Rattle.zone_writer.proofs.Tables.{table_on}
use Rattle.zone_writer.proofs.Texts.{prefixes_piece, some_string, strings_bytes, strings_fit, text_bytes}

-- the context of a fragment: the domain's name is the origin
abbrev pub context_at : (name : List (List ℕ)) → Option (List (List ℕ)) → Context
context_at name owner = record { origin = name; owner = owner }

-- ---- owners

-- what a reader takes the first word of a record for
pub record IsOwner (name : List (List ℕ)) (first : List ℕ) (owner : List (List ℕ)) : Type 0 where
  pub word : IsWord first
  pub no_dollar : is_dollar_word (plain_token first) ≡ false
  pub named : name_in name (plain_token first) ≡ Ok owner
  pub under : is_under owner name ≡ true

pub at_is_owner : (name : List (List ℕ)) → IsOwner name (codes "@") name
at_is_owner name = record {
  word = record { some = omega arith; each = refl };
  no_dollar = refl;
  named = refl;
  under = under_itself name name refl;
}

label_is_owner : (domain label : List ℕ) (name : List (List ℕ)) (k : ℕ) → AreChainWords domain label → name_of_text domain ≡ Ok name → k ≤ 10 → IsOwner name (label ++ decimal k) ((label ++ decimal k) ∷ name)
label_is_owner domain label name k words e few =
    let parts = label_parts label words.label_form in
    let fits : k < 2 ^ 64 = omega (arith, few) in
    record {
      word = record {
        some = omega (arith, length-append label (decimal k), decimal_nonempty k fits);
        each = name_passes is_bare_byte refl (label ++ decimal k) (words_are_names (label ++ decimal k) (owner_words label k words.label_form fits));
      };
      no_dollar = ap (λ (l : List ℕ). is_dollar_word (plain_token (l ++ decimal k))) parts.whole;
      named = owner_read domain label name k words e few;
      under = (under_decides ((label ++ decimal k) ∷ name) name).1 ((label ++ decimal k) ∷ [], refl);
    }

is_owner : (domain label : List ℕ) (name : List (List ℕ)) (k : ℕ) → AreChainWords domain label → name_of_text domain ≡ Ok name → k ≤ 10 → IsOwner name (owner_text label k) (record_owner name label k)
is_owner domain label name k words e few = by (k == 0)
  where
    by : (t : Bool) → IsOwner name (cond t (codes "@") (label ++ decimal k)) (cond t name ((label ++ decimal k) ∷ name))
    by true = at_is_owner name
    by false = label_is_owner domain label name k words e few

-- ---- the strings of a record

abbrev pub strings_parts : List (List ℕ) → List Part
strings_parts strings = map a_string strings

-- the class may be written or left out
abbrev pub record_parts : (class : Bool) → List (List ℕ) → List Part
record_parts true strings = a_word (codes "IN") ∷ a_word (codes "TXT") ∷ strings_parts strings
record_parts false strings = a_word (codes "TXT") ∷ strings_parts strings

are_strings : (strings : List (List ℕ)) → list_all (list_all is_string_byte) strings ≡ true → AreParts (strings_parts strings)
are_strings [] h = tt
are_strings (string ∷ strings) h = let parts = and_parts (list_all is_string_byte string) (list_all (list_all is_string_byte) strings) h in (parts.0, are_strings strings parts.1)

pub strings_text : (strings : List (List ℕ)) → parts_text (strings_parts strings) ≡ flat_map quoted strings
strings_text [] = refl
strings_text (string ∷ strings) = ap (λ (t : List ℕ). quoted string ++ t) (strings_text strings)

strings_back : (strings : List (List ℕ)) → map bytes_of (parts_tokens (strings_parts strings)) ≡ strings
strings_back [] = refl
strings_back (string ∷ strings) = ap₂ (λ (s : List ℕ) (ss : List (List ℕ)). s ∷ ss) (bytes_back string) (strings_back strings)

text_is_body : (string : List ℕ) (strings : List (List ℕ)) → is_long_text (string ∷ strings) ≡ false → txt_body (parts_tokens (strings_parts (string ∷ strings))) ≡ Ok (Txt (string ∷ strings))
text_is_body string strings h =
    ap (λ (ss : List (List ℕ)). cond (is_long_text ss) (Err kinds.LongText) (Ok (Txt ss))) (strings_back (string ∷ strings))
    ∙ ap (λ (t : Bool). cond t (Err kinds.LongText) (Ok (Txt (string ∷ strings)))) h

-- ---- a record

are_record_parts : (class : Bool) (strings : List (List ℕ)) → list_all (list_all is_string_byte) strings ≡ true → AreParts (record_parts class strings)
are_record_parts true strings bytes = (record { some = omega arith; each = refl }, (record { some = omega arith; each = refl }, are_strings strings bytes))
are_record_parts false strings bytes = (record { some = omega arith; each = refl }, are_strings strings bytes)

-- the tokens behind the owner ask for a TXT record
parts_ask : (class : Bool) (owner : List (List ℕ)) (string : List ℕ) (strings : List (List ℕ))
    → record_ask owner (parts_tokens (record_parts class (string ∷ strings))) ≡ Ok (a_record owner (plain_token (codes "TXT")) (parts_tokens (strings_parts (string ∷ strings))))
parts_ask true owner string strings = refl
parts_ask false owner string strings = refl

-- the record of a line stands at or below the domain
strings_on : (name : List (List ℕ)) (last : Option (List (List ℕ))) (line : ℕ) (first : List ℕ) (owner : List (List ℕ)) (class : Bool) (string : List ℕ) (strings : List (List ℕ)) (rest : List ℕ)
    (others : List Record)
    → IsOwner name first owner → list_all (list_all is_string_byte) (string ∷ strings) ≡ true → is_long_text (string ∷ strings) ≡ false
    → ((n : ℕ) → ReadsOn name (context_at name (Some owner)) n rest others)
    → ReadsOn name (context_at name last) line (line_text first (record_parts class (string ∷ strings)) ++ rest) (record { owner = owner; body = Txt (string ∷ strings) } ∷ others)
strings_on name last line first owner class string strings rest others is bytes fits on =
    line_on name (context_at name last) line first (record_parts class (string ∷ strings)) (a_record owner (plain_token (codes "TXT")) (parts_tokens (strings_parts (string ∷ strings)))) rest
    (record { owner = owner; body = Txt (string ∷ strings) } ∷ []) others is.word (are_record_parts class (string ∷ strings) bytes)
    (λ n. sym (stated_asks (context_at name last) (line_entry n first (record_parts class (string ∷ strings))) (plain_token first) (parts_tokens (record_parts class (string ∷ strings))) owner refl refl is.no_dollar is.named)
    ∙ parts_ask class owner string strings)
    (Txt (string ∷ strings), sym (text_is_body string strings fits), sym (ap (λ (t : Bool). cond t (record { owner = owner; body = Txt (string ∷ strings) } ∷ []) []) is.under))
    on

-- the same for a text in its own strings
pub text_on : (name : List (List ℕ)) (last : Option (List (List ℕ))) (line : ℕ) (first : List ℕ) (owner : List (List ℕ)) (class : Bool) (text rest : List ℕ) (others : List Record)
    → IsOwner name first owner → list_all is_string_byte text ≡ true → length text ≤ 65278
    → ((n : ℕ) → ReadsOn name (context_at name (Some owner)) n rest others)
    → ReadsOn name (context_at name last) line (line_text first (record_parts class (strings_of text)) ++ rest) (record { owner = owner; body = Txt (strings_of text) } ∷ others)
text_on name last line first owner class text rest others is bytes short on =
    let cut = some_string (length text) text in
    let same : strings_of text ≡ cut.0 ∷ cut.1 = cut.2 in
    subst (λ (ss : List (List ℕ)). ReadsOn name (context_at name last) line (line_text first (record_parts class ss) ++ rest) (record { owner = owner; body = Txt ss } ∷ others)) (sym same)
    (strings_on name last line first owner class cut.0 cut.1 rest others is
    (subst (λ (ss : List (List ℕ)). list_all (list_all is_string_byte) ss ≡ true) same (strings_bytes (length text) text bytes))
    (subst (λ (ss : List (List ℕ)). is_long_text ss ≡ false) same (strings_fit text short)) on)

line_same : (first : List ℕ) (strings : List (List ℕ)) → ((first ++ codes " IN TXT") ++ flat_map quoted strings) ++ 10 ∷ [] ≡ line_text first (record_parts true strings)
line_same first strings =
    ap (λ (t : List ℕ). t ++ 10 ∷ []) (append_assoc first (codes " IN TXT") (flat_map quoted strings) ∙ ap (λ (t : List ℕ). first ++ (codes " IN TXT" ++ t)) (sym (strings_text strings)))

record_on : (name : List (List ℕ)) (last : Option (List (List ℕ))) (line : ℕ) (first : List ℕ) (owner : List (List ℕ)) (text rest : List ℕ) (others : List Record)
    → IsOwner name first owner → list_all is_string_byte text ≡ true → length text ≤ 4096
    → ((n : ℕ) → ReadsOn name (context_at name (Some owner)) n rest others)
    → ReadsOn name (context_at name last) line (record_line first text ++ rest) (record { owner = owner; body = Txt (strings_of text) } ∷ others)
record_on name last line first owner text rest others is bytes short on =
    subst (λ (t : List ℕ). ReadsOn name (context_at name last) line (t ++ rest) (record { owner = owner; body = Txt (strings_of text) } ∷ others)) (sym (line_same first (strings_of text)))
    (text_on name last line first owner true text rest others is bytes (omega (arith, short)) on)

-- ---- all records

-- what the records of a chain are made of
record Chain (domain label : List ℕ) (name : List (List ℕ)) (size : ℕ) (list : List FlatTerm) : Type 0 where
  words : AreChainWords domain label
  named : name_of_text domain ≡ Ok name
  small : size ≤ 4096
  prefixes : HavePrefixes list

piece_on : (domain label : List ℕ) (name : List (List ℕ)) (size others : ℕ) (list : List FlatTerm) → Chain domain label name size list → (k from to : ℕ) (last : Bool) (owner : Option (List (List ℕ))) (rest : List ℕ) (records : List Record)
    → k ≤ 10 → Fits domain label size others (piece list from to) k last
    → ((o : Option (List (List ℕ))) (n : ℕ) → ReadsOn name (context_at name o) n rest records)
    → (line : ℕ) → ReadsOn name (context_at name owner) line (record_line (owner_text label k) (record_text domain label (piece list from to) k last) ++ rest)
    (record { owner = record_owner name label k; body = Txt (strings_of (record_text domain label (piece list from to) k last)) } ∷ records)
piece_on domain label name size others list chain k from to last owner rest records few fits on line =
    let small : size ≤ 4096 = chain.small in
    let words = chain.words in
    record_on name owner line (owner_text label k) (record_owner name label k) (record_text domain label (piece list from to) k last) rest records
    (is_owner domain label name k words chain.named few)
    (text_bytes domain label (piece list from to) k last words.domain_form words.label_form few (prefixes_piece list from to chain.prefixes))
    (omega (arith, fits, small))
    (on (Some (record_owner name label k)))

records_on : (domain label : List ℕ) (name : List (List ℕ)) (size others : ℕ) (list : List FlatTerm) → Chain domain label name size list → (k from : ℕ) (ends : List ℕ) (rest : List ℕ)
    → k + length ends ≤ 11 → RecordsFit domain label size others list k from ends
    → ((o : Option (List (List ℕ))) (n : ℕ) → ReadsOn name (context_at name o) n rest [])
    → (owner : Option (List (List ℕ))) (line : ℕ) → ReadsOn name (context_at name owner) line (record_lines domain label k (pieces_from list from ends) ++ rest) (written_records domain label name k (pieces_from list from ends))
records_on domain label name size others list chain k from [] rest few fit on owner line = on owner line
records_on domain label name size others list chain k from (to ∷ []) rest few fit on owner line =
    subst (λ (t : List ℕ). ReadsOn name (context_at name owner) line t (written_records domain label name k (pieces_from list from (to ∷ []))))
    (sym (append_assoc (record_line (owner_text label k) (record_text domain label (piece list from to) k true)) [] rest))
    (piece_on domain label name size others list chain k from to true owner rest [] (omega (arith, few)) fit on line)
records_on domain label name size others list chain k from (to ∷ next ∷ ends) rest few fit on owner line =
    subst (λ (t : List ℕ). ReadsOn name (context_at name owner) line t (written_records domain label name k (pieces_from list from (to ∷ next ∷ ends))))
    (sym (append_assoc (record_line (owner_text label k) (record_text domain label (piece list from to) k false)) (record_lines domain label (k + 1) (pieces_from list to (next ∷ ends))) rest))
    (piece_on domain label name size others list chain k from to false owner (record_lines domain label (k + 1) (pieces_from list to (next ∷ ends)) ++ rest) (written_records domain label name (k + 1) (pieces_from list to (next ∷ ends)))
    (omega (arith, few)) fit.0
    (λ o n. records_on domain label name size others list chain (k + 1) to (next ∷ ends) rest (omega (arith, few)) fit.1 on o n) line)

-- ---- the head

ttl_fits : (ttl : ℕ) → ttl ≤ 2147483647 → is_ttl (decimal ttl) ≡ true
ttl_fits ttl few =
    let fits : ttl < 2 ^ 64 = omega (arith, few) in
    let value : digits_value 10 (decimal ttl) ≡ ttl = (decimal_is_IsNumeral ttl fits).1 in
    or_left (are_digits (decimal ttl) && nat_le (digits_value 10 (decimal ttl)) 4294967295) (are_groups (decimal ttl))
    (and_from (are_digits (decimal ttl)) (nat_le (digits_value 10 (decimal ttl)) 4294967295)
    (and_from _ (list_all is_ascii_digit (decimal ttl)) (lt-ltb 0 (length (decimal ttl)) (decimal_nonempty ttl fits)) (decimal_ascii ttl fits))
    (le-leb (digits_value 10 (decimal ttl)) 4294967295 (omega (arith, value, few))))

ttl_said : (ttl : ℕ) → ttl ≤ 2147483647 → says_ttl (plain_token (decimal ttl)) ≡ true
ttl_said ttl few = ap₂ (λ (t : Bool) (bytes : List ℕ). not t && is_ttl bytes) (no_escapes (decimal ttl)) (bytes_back (decimal ttl)) ∙ ttl_fits ttl few

-- two lines, each of a word, a space and another word
two_lines : (word other point feed next number records table : List ℕ)
    → (((((word ++ other) ++ (point ++ (feed ++ next))) ++ number) ++ feed) ++ records) ++ table ≡ ((word ++ ((other ++ point) ++ [])) ++ feed) ++ (((next ++ (number ++ [])) ++ feed) ++ (records ++ table))
two_lines word other point feed next number records table = simp (append_assoc, append-nil)

head_parts : (domain number records table : List ℕ)
    → (((((codes "$ORIGIN " ++ domain) ++ codes ".\n$TTL ") ++ number) ++ codes "\n") ++ records) ++ table
    ≡ line_text (codes "$ORIGIN") (a_word (domain ++ 46 ∷ []) ∷ []) ++ (line_text (codes "$TTL") (a_word number ∷ []) ++ (records ++ table))
head_parts domain number records table = two_lines (codes "$ORIGIN ") domain (46 ∷ []) (10 ∷ []) (codes "$TTL ") number records table

domain_is_word : (domain : List ℕ) → DomainEnds domain → IsWord (domain ++ 46 ∷ [])
domain_is_word domain d = record {
  some = omega (arith, length-append domain (46 ∷ []));
  each = all_both is_bare_byte domain (46 ∷ []) (name_passes is_bare_byte refl domain d.bytes) refl;
}

ttl_is_word : (ttl : ℕ) → ttl ≤ 2147483647 → IsWord (decimal ttl)
ttl_is_word ttl few =
    let fits : ttl < 2 ^ 64 = omega (arith, few) in
    record { some = decimal_nonempty ttl fits; each = name_passes is_bare_byte refl (decimal ttl) (words_are_names (decimal ttl) (decimal_words ttl fits)) }

ttl_on : (name : List (List ℕ)) (ttl line : ℕ) (rest : List ℕ) (records : List Record) → ttl ≤ 2147483647 → ((n : ℕ) → ReadsOn name (context_at name None) n rest records)
    → ReadsOn name (context_at name None) line (line_text (codes "$TTL") (a_word (decimal ttl) ∷ []) ++ rest) records
ttl_on name ttl line rest records few on =
    line_on name (context_at name None) line (codes "$TTL") (a_word (decimal ttl) ∷ []) no_record rest [] records
    (record { some = omega arith; each = refl }) (ttl_is_word ttl few, tt)
    (λ n. ap (λ (t : Bool). cond t (Ok no_record) (Err kinds.BadTtl)) (ttl_said ttl few))
    refl on

origin_on : (domain : List ℕ) (name : List (List ℕ)) (line : ℕ) (rest : List ℕ) (records : List Record) → DomainEnds domain → name_of_text domain ≡ Ok name → ((n : ℕ) → ReadsOn name (context_at name None) n rest records)
    → ReadsOn name (context_at name None) line (line_text (codes "$ORIGIN") (a_word (domain ++ 46 ∷ []) ∷ []) ++ rest) records
origin_on domain name line rest records d e on =
    line_on name (context_at name None) line (codes "$ORIGIN") (a_word (domain ++ 46 ∷ []) ∷ []) (an_origin name) rest [] records
    (record { some = omega arith; each = refl }) (domain_is_word domain d, tt)
    (λ n. ap (λ (r : Result (List (List ℕ)) Kind). r >>= λ (o : List (List ℕ)). Ok (an_origin o)) (origin_read name domain name d e))
    refl on

-- ---- the whole fragment

pub fragment_is_read : FragmentIsRead
fragment_is_read domain label ttl size others list ends rows4 rows6 total name words e few small prefixes cut =
    let chain : Chain domain label name size list = record { words = words; named = e; small = small; prefixes = prefixes } in
    let pieces = pieces_from list 0 ends in
    let table : (o : Option (List (List ℕ))) (n : ℕ) → ReadsOn name (context_at name o) n (table_text rows4 rows6 total) [] = λ o n. table_on name (context_at name o) rows4 rows6 total n in
    let most = cut.cut.few in
    let whole =
    subst (λ (t : List ℕ). ReadsOn name (context_at name None) 1 t (written_records domain label name 0 (pieces_from list 0 ends))) (sym (head_parts domain (decimal ttl) (record_lines domain label 0 (pieces_from list 0 ends)) (table_text rows4 rows6 total)))
    (origin_on domain name 1 _ _ (domain_ends domain words.domain_form) e
    (λ m. ttl_on name ttl m _ _ few (records_on domain label name size others list chain 0 0 ends (table_text rows4 rows6 total) (omega (arith, most)) cut.fit table None))) in
    record {
      entries = whole.entries;
      last = whole.last;
      context = whole.behind;
      in_order = whole.in_order;
      meaning = whole.meaning;
    }
