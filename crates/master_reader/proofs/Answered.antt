-- No file has neither a reading nor a first fault.
use Rattle.std.proofs.Common.{◌≡◌, ◌≢◌, ℕ, zero, suc, ◌+◌, ◌<◌, ◌≤◌, ◌⊎◌, Bool, true, false, cond, List, [], ◌∷◌, ◌++◌, filter, length, Result, Ok, Err, refl, sym, ap, subst, ◌∙◌, inl, inr, arith, length-append}
use Rattle.std.specs.Prelude.{MatchBool, IsTrue, codes}
use Rattle.addr_bits.specs.Address.{address_of, SpellsIn}
use Rattle.addr_bits.specs.declared.address.Family.{Family}
use Rattle.addr_bits.specs.declared.address.Family.TheVariants.{V4, V6}
use Rattle.master_lex.specs.declared.entry.Token.{Token}
use Rattle.master_lex.specs.declared.entry.Entry.{Entry}
use Rattle.master_lex.specs.declared.fault.LexKind.{LexKind}
use Rattle.master_lex.specs.Entries.{AreEntries, Spells, has_token, lines_in}
use Rattle.master_lex.specs.Broken.{IsBroken}
use Rattle.master_lex.proofs.Order.{spelled_some}
use Rattle.master_lex.proofs.Standing.{one_or_other}
use Rattle.master_reader.specs.declared.fault.Kind.{Kind}
use Rattle.master_reader.specs.declared.fault.Kind.TheVariants as kinds
use Rattle.master_reader.specs.declared.record.Body.{Body}
use Rattle.master_reader.specs.declared.record.Record.{Record}
use Rattle.master_reader.specs.Tokens.{bytes_of, is_bare, is_word}
use Rattle.master_reader.specs.Entry.{Context, Ask, a_record, an_origin, no_record, ask_of, context_behind}
use Rattle.master_reader.specs.Data.{IsAddressBody, IsBody, address_body, other_body}
use Rattle.master_reader.specs.Reading.{Adds, Mean, first_context, kind_of, records_kept, Reads, Faults}
use Rattle.master_reader.proofs.Once.{Starts}

-- ---- one body

-- content has a body or a fault
abbrev Stands : (Result Body Kind → Type 0) → Type 0
Stands Is = ((body : Body) × Is (Ok body)) ⊎ ((kind : Kind) × Is (Err kind))

-- what is said of one result stands
said : (Is : Result Body Kind → Type 0) (r : Result Body Kind) → Is r → Stands Is
said Is (Ok body) h = inl (body, h)
said Is (Err kind) h = inr (kind, h)

address_stands : (f : Family) (content : List Token) → (Stands (IsAddressBody f content) → ⊥) → ⊥
address_stands f [] none = none (inr (kinds.BadData, refl))
address_stands f (token ∷ other ∷ more) none = none (inr (kinds.BadData, refl))
address_stands f (token ∷ []) none = by (is_bare token) none
  where
    by : (b : Bool) → (((is : Body) × MatchBool b ((n : ℕ) × SpellsIn f (bytes_of token) n × (is ≡ address_body (address_of f n))) (◌≡◌ {A = Result Body Kind} (Ok is) (Err kinds.BadData)))
        ⊎ ((kind : Kind) × MatchBool b ((kind ≡ kinds.BadData) × ((n : ℕ) → ¬ SpellsIn f (bytes_of token) n)) (◌≡◌ {A = Result Body Kind} (Err kind) (Err kinds.BadData))) → ⊥) → ⊥
    by true none = none (inr (kinds.BadData, (refl, λ n spelled. none (inl (address_body (address_of f n), (n, spelled, refl))))))
    by false none = none (inr (kinds.BadData, refl))

body_stands : (origin : List (List ℕ)) (type : Token) (content : List Token) → (Stands (IsBody origin type content) → ⊥) → ⊥
body_stands origin type content none = by (is_word type (codes "a")) (is_word type (codes "aaaa")) none
  where
    by : (a b : Bool) → (Stands (λ r. MatchBool a (IsAddressBody V4 content r) (MatchBool b (IsAddressBody V6 content r) (r ≡ other_body origin type content))) → ⊥) → ⊥
    by true b none = address_stands V4 content none
    by false true none = address_stands V6 content none
    by false false none = none (said (λ r. r ≡ other_body origin type content) (other_body origin type content) refl)

-- ---- one entry

-- what an entry asks for adds records, or the entry is faulty
abbrev Added : List (List ℕ) → Context → Entry → Ask → Type 0
Added zone context entry ask =
    ((records : List Record) × Adds zone context.origin ask records)
    ⊎ ((owner : List (List ℕ)) × (type : Token) × (content : List Token) × (kind : Kind) × (ask ≡ a_record owner type content) × IsBody context.origin type content (Err kind))

ask_stands : (zone : List (List ℕ)) (context : Context) (entry : Entry) (ask : Ask) → (Added zone context entry ask → ⊥) → ⊥
ask_stands zone context entry (a_record owner type content) none =
    body_stands context.origin type content (λ found. none (elim found [
      | inl is ↦ inl (records_kept zone (record { owner = owner; body = is.0 }), (is.0, is.1, refl))
      | inr is ↦ inr (owner, type, content, is.0, refl, is.1)
    ]))
ask_stands zone context entry (an_origin name) none = none (inl ([], refl))
ask_stands zone context entry no_record none = none (inl ([], refl))

-- ---- the entries of a file

-- the bytes from a line on are entries that have a meaning, to their end or up to a fault
abbrev Ends : List (List ℕ) → Context → (line : ℕ) → List ℕ → Type 0
Ends zone context line bytes =
    ((entries : List Entry) × (last : ℕ) × (behind : Context) × (records : List Record)
    × AreEntries line bytes entries last [] × Mean zone context (filter has_token entries) behind records)
    ⊎ ((before : List Entry) × (at : ℕ) × (rest : List ℕ) × (there : Context) × (records : List Record) × (kind : Kind)
    × AreEntries line bytes before at rest × Mean zone context (filter has_token before) there records × Starts there rest kind)

-- the same behind a first entry, which leads from one context to another
behind_entry : (zone : List (List ℕ)) (context next : Context) (line : ℕ) (bytes text after : List ℕ) (entry : Entry) → bytes ≡ text ++ after → Spells text after entry → entry.line ≡ line
    → ((entries : List Entry) (behind : Context) (records : List Record) → Mean zone next (filter has_token entries) behind records
    → (all : List Record) × Mean zone context (filter has_token (entry ∷ entries)) behind all)
    → Ends zone next (line + lines_in text) after → Ends zone context line bytes
behind_entry zone context next line bytes text after entry is spells at more (inl e) =
    let all = more e.0 e.2 e.3 e.5 in
    inl (entry ∷ e.0, e.1, e.2, all.0, (text, after, is, spells, at, e.4), all.1)
behind_entry zone context next line bytes text after entry is spells at more (inr e) =
    let all = more e.0 e.3 e.4 e.7 in
    inr (entry ∷ e.0, e.1, e.2, e.3, all.0, e.5, (text, after, is, spells, at, e.6), all.1, e.8)

-- an entry without a token adds nothing
passes_on : (zone : List (List ℕ)) (context : Context) (entry : Entry) → has_token entry ≡ false → (entries : List Entry) (behind : Context) (records : List Record)
    → Mean zone context (filter has_token entries) behind records → (all : List Record) × Mean zone context (filter has_token (entry ∷ entries)) behind all
passes_on zone context entry none entries behind records m =
    (records, subst (λ t. Mean zone context (cond t (entry ∷ filter has_token entries) (filter has_token entries)) behind records) (sym none) m)

-- an entry with a token adds its records
adds_on : (zone : List (List ℕ)) (context : Context) (entry : Entry) (ask : Ask) (mine : List Record) → IsTrue (has_token entry) → ask_of context entry ≡ Ok ask → Adds zone context.origin ask mine
    → (entries : List Entry) (behind : Context) (records : List Record) → Mean zone (context_behind context ask) (filter has_token entries) behind records
    → (all : List Record) × Mean zone context (filter has_token (entry ∷ entries)) behind all
adds_on zone context entry ask mine token asks adds entries behind records m = (
  mine ++ records,
  subst (λ t. Mean zone context (cond t (entry ∷ filter has_token entries) (filter has_token entries)) behind (mine ++ records)) (sym token)
      (ask, asks, (mine, records, refl, adds, m)),
)

-- a fault at the first entry
ends_here : (zone : List (List ℕ)) (context : Context) (line : ℕ) (bytes : List ℕ) (kind : Kind) → Starts context bytes kind → Ends zone context line bytes
ends_here zone context line bytes kind starts = inr ([], line, bytes, context, [], kind, (refl, refl), (refl, refl), starts)

-- so many bytes at most end so, from whatever context and line
abbrev EndWithin : ℕ → List (List ℕ) → Type 0
EndWithin most zone = (context : Context) (line : ℕ) (bytes : List ℕ) → length bytes ≤ most → (Ends zone context line bytes → ⊥) → ⊥

fewer : (most : ℕ) (bytes text after : List ℕ) (entry : Entry) → length bytes ≤ suc most → Spells text after entry → bytes ≡ text ++ after → length after ≤ most
fewer most bytes [] after entry few spells is = absurd (spelled_some [] after entry spells refl)
fewer most bytes (c ∷ text) after entry few spells is =
    let whole : length bytes ≡ length (c ∷ text) + length after = ap length is ∙ length-append (c ∷ text) after in
    omega (arith, few, whole)

-- bytes that begin with an entry, where what is behind it ends so
entry_ends : (most : ℕ) (zone : List (List ℕ)) (context : Context) (line : ℕ) (bytes text after : List ℕ) (entry : Entry) → EndWithin most zone → length bytes ≤ suc most → (Ends zone context line bytes → ⊥)
    → bytes ≡ text ++ after → Spells text after entry → entry.line ≡ line → ⊥
entry_ends most zone context line bytes text after entry later few none is spells at = by (has_token entry) refl
  where
    -- behind an entry that is read
    onward : (next : Context)
        → ((entries : List Entry) (behind : Context) (records : List Record) → Mean zone next (filter has_token entries) behind records
        → (all : List Record) × Mean zone context (filter has_token (entry ∷ entries)) behind all) → ⊥
    onward next more =
        later next (line + lines_in text) after (fewer most bytes text after entry few spells is)
        (λ e. none (behind_entry zone context next line bytes text after entry is spells at more e))

    asked : IsTrue (has_token entry) → (found : Result Ask Kind) → ask_of context entry ≡ found → ⊥
    asked token (Err kind) e = none (ends_here zone context line bytes kind (inr (text, after, is, (entry, spells, token, inl e))))
    asked token (Ok ask) e =
        ask_stands zone context entry ask (λ added. elim added [
          | inl is_added ↦ onward (context_behind context ask) (adds_on zone context entry ask is_added.0 token e is_added.1)
          | inr faulty ↦ none (ends_here zone context line bytes faulty.3
              (inr (text, after, is, (entry, spells, token, inr (faulty.0, faulty.1, faulty.2, e ∙ ap Ok faulty.4, faulty.5)))))
        ])

    by : (t : Bool) → has_token entry ≡ t → ⊥
    by true token = asked token (ask_of context entry) refl
    by false token = onward context (passes_on zone context entry token)

-- bytes that begin with an entry or are broken, where what is behind an entry ends so
some_end : (most : ℕ) (zone : List (List ℕ)) (context : Context) (line : ℕ) (bytes : List ℕ) → EndWithin most zone → length bytes ≤ suc most → (Ends zone context line bytes → ⊥)
    → ((text : List ℕ) × (after : List ℕ) × (entry : Entry) × (bytes ≡ text ++ after) × Spells text after entry) ⊎ ((kind : LexKind) × (place : ℕ) × IsBroken bytes kind place) → ⊥
some_end most zone context line bytes later few none (inl (text, after, entry, is, spells)) =
    entry_ends most zone context line bytes text after (record { line = line; blank = entry.blank; tokens = entry.tokens }) later few none is
    (record { items = spells.items; in_place = spells.in_place; spelled = spells.spelled; tokens = spells.tokens; led = spells.led }) refl
some_end most zone context line bytes later few none (inr (kind, place, broken)) = none (ends_here zone context line bytes (kind_of kind) (inl (kind, place, broken, refl)))

ends_within : (most : ℕ) (zone : List (List ℕ)) → EndWithin most zone
ends_within most zone context line [] few none = none (inl ([], line, context, [], (refl, refl), (refl, refl)))
ends_within zero zone context line (b ∷ bytes) few none = absurd (omega (arith, few))
ends_within (suc most) zone context line (b ∷ bytes) few none =
    some_end most zone context line (b ∷ bytes) (ends_within most zone) few none (one_or_other (b ∷ bytes) (λ (e : b ∷ bytes ≡ []). absurd cc))

-- ---- the file

pub never_neither : (zone : List (List ℕ)) (bytes : List ℕ) → ((records : List Record) → ¬ Reads zone bytes records) → ((line : ℕ) (kind : Kind) → ¬ Faults zone bytes line kind) → ⊥
never_neither zone bytes no_reading no_fault =
    ends_within (length bytes) zone (first_context zone) 1 bytes (omega arith) (λ e. elim e [
      | inl r ↦ no_reading r.3 (record { entries = r.0; last = r.1; context = r.2; in_order = r.4; meaning = r.5 })
      | inr f ↦ no_fault f.1 f.5 (record { before = f.0; rest = f.2; context = f.3; records = f.4; in_order = f.6; meaning = f.7; fault = f.8 })
    ])
