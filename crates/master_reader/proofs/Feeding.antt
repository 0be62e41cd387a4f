-- Bytes, pieces and the end of a file, from what a cutter answers.
use Rattle.std.proofs.Common.{◌≡◌, ◌≢◌, ℕ, ◌+◌, ◌<◌, ◌^◌, ◌⊎◌, List, [], ◌∷◌, ◌++◌, length, filter, take, drop, get_or, suc, take-append-drop, length-take-le, refl, sym, ap, subst, ◌∙◌, append_assoc, append-nil, inl, inr, arith, length-append}
use Rattle.std.specs.Prelude.{IsTrue}
use Rattle.std.proofs.Math.Seq.{take-suc, drop-cons}
use Rattle.std.proofs.lemmas.List.{append_cancel_right, nil_from_length}
use Rattle.master_lex.specs.declared.entry.Entry.{Entry}
use Rattle.master_lex.specs.declared.fault.LexKind.{LexKind}
use Rattle.master_lex.specs.declared.fault.LexFault.{LexFault}
use Rattle.master_lex.specs.declared.fault.LexFault.TheVariants as lex_fault
use Rattle.master_lex.specs.declared.part.Part.TheVariants.{Outside}
use Rattle.master_lex.specs.Items.{items_text, tokens_of}
use Rattle.master_lex.specs.Entries.{AreEntries, Spells, has_token, lines_in}
use Rattle.master_lex.specs.Pieces as lex
use Rattle.master_lex.proofs.Machine.{closed, alive, run}
use Rattle.master_lex.proofs.Readings.{still, good_still, items_run, ends_at_feed}
use Rattle.master_lex.proofs.Order.{compared, spelled_some, entries_left, entries_more}
use Rattle.master_lex.proofs.Reach.{reach_alive, broken_more}
use Rattle.master_lex.proofs.Pieces.{alive_not_spelled, decided_some, none_decided}
use Rattle.master_reader.specs.declared.fault.Kind.{Kind}
use Rattle.master_reader.specs.declared.fault.ZoneFault.{ZoneFault}
use Rattle.master_reader.specs.declared.fault.ZoneFault.TheVariants.{Bad, Memory}
use Rattle.master_reader.specs.declared.progress.Progress.{Progress}
use Rattle.master_reader.specs.declared.record.Record.{Record}
use Rattle.master_reader.specs.Reading.{Mean, IsFaulty, first_context, kind_of, StartsBroken, StartsFaulty, Reads, Faults}
use Rattle.master_reader.specs.Readers.{Kept, StandsFor, StartsDecided, ClosesFaulty, DecidesFault, FaultIs, zone_fault_of}
use Rattle.master_reader.specs.Progress.{context_of, kept_with, Takes, FaultAt}
use Rattle.master_reader.proofs.Once.{mean_append, not_passed, behind_from, nil_front}

-- ---- an open entry is not a closed one

snoc_some : (after : List ℕ) (b : ℕ) → after ++ b ∷ [] ≢ []
snoc_some [] b e = cc
snoc_some (x ∷ after) b e = cc

open_not_spelled : (rest text after : List ℕ) (entry : Entry) → run still 0 [] Outside rest ≡ alive → rest ≡ text ++ after → ((more : List ℕ) → Spells text (after ++ more) entry) → ⊥
open_not_spelled rest text after entry live is spells = by (spells (0 ∷ []))
  where
    by : Spells text (after ++ 0 ∷ []) entry → ⊥
    by s = elim s.spelled [
      | inl feed ↦ closes feed
      | inr end ↦ snoc_some after 0 end.2
    ]
      where
        closes : text ≡ items_text s.items ++ 10 ∷ [] → ⊥
        closes feed =
            let runs : run still 0 [] Outside (text ++ after) ≡ closed (tokens_of s.items) after =
            ap (λ (t : List ℕ). run still 0 [] Outside (t ++ after)) feed
            ∙ ap (run still 0 [] Outside) (append_assoc (items_text s.items) (10 ∷ []) after)
            ∙ items_run still good_still 0 [] s.items 0 (10 ∷ after) s.in_place (ends_at_feed s.items after)
            in
            let both : alive ≡ closed (tokens_of s.items) after = sym live ∙ ap (run still 0 [] Outside) is ∙ runs in
            cc

-- what stands for bytes has decided no fault in them
pub stands_not_decided : (zone : List (List ℕ)) (kept : Kept) (bytes : List ℕ) (line : ℕ) (kind : Kind) → StandsFor zone kept bytes → DecidesFault zone bytes line kind → ⊥
stands_not_decided zone kept bytes line kind s x = by x.fault
  where
    here : AreEntries 1 bytes s.cut.entries s.cut.last s.cut.rest
    here = subst (λ (b : List ℕ). AreEntries 1 b s.cut.entries s.cut.last s.cut.rest) (append-nil bytes) (subst (λ (r : List ℕ). AreEntries 1 (bytes ++ []) s.cut.entries s.cut.last r) (append-nil s.cut.rest) (s.cut.closed []))

    there : AreEntries 1 bytes x.before line x.rest
    there = subst (λ (b : List ℕ). AreEntries 1 b x.before line x.rest) (append-nil bytes) (subst (λ (r : List ℕ). AreEntries 1 (bytes ++ []) x.before line r) (append-nil x.rest) (x.in_order []))

    live : run still 0 [] Outside s.cut.rest ≡ alive
    live = reach_alive s.cut.rest kept.cutter.depth kept.cutter.tokens kept.cutter.part s.cut.part

    faulty : (text after : List ℕ) (entry : Entry) → x.rest ≡ text ++ after → ((more : List ℕ) → Spells text (after ++ more) entry) → IsTrue (has_token entry) → IsFaulty x.context entry kind → ⊥
    faulty text after entry is spells token fault = by (compared 1 bytes s.cut.entries s.cut.last s.cut.rest x.before line x.rest here there)
      where
        spelled : Spells text after entry
        spelled = subst (λ (a : List ℕ). Spells text a entry) (append-nil after) (spells [])

        later : (more : List Entry) → AreEntries s.cut.last s.cut.rest more line x.rest → ⊥
        later [] a = open_not_spelled s.cut.rest text after entry live (a.1 ∙ is) spells
        later (next ∷ more) a =
            alive_not_spelled s.cut.rest a.0 a.1 next live a.2 a.3
            (λ e. spelled_some text after entry spelled
            (nil_front text after (nil_from_length (text ++ after) (omega (arith, ap length is, (entries_left (s.cut.last + lines_in a.0) a.1 more line x.rest a.5).0, ap length e)))))

        earlier : (more : List Entry) → s.cut.entries ≡ x.before ++ more → AreEntries line x.rest more s.cut.last s.cut.rest → ⊥
        earlier [] e a = open_not_spelled s.cut.rest text after entry live (sym a.1 ∙ is) spells
        earlier (next ∷ more) e a =
            let meant = subst (λ (l : List Entry). Mean zone (first_context zone) l kept.context kept.records) s.cut.with_tokens s.meaning in
            let b = behind_from zone (first_context zone) x.before (next ∷ more) s.cut.entries x.context kept.context x.records kept.records x.meaning meant e in
            let none : next ∷ more ≡ [] = not_passed zone x.context x.rest kind line (next ∷ more) s.cut.last s.cut.rest kept.context b.others (inr (text, after, is, (entry, spelled, token, fault))) a b.mean in
            cc

        by : (((more : List Entry) × (x.before ≡ s.cut.entries ++ more) × AreEntries s.cut.last s.cut.rest more line x.rest) ⊎ ((more : List Entry) × (s.cut.entries ≡ x.before ++ more) × AreEntries line x.rest more s.cut.last s.cut.rest)) → ⊥
        by (inl m) = later m.0 m.2
        by (inr m) = earlier m.0 m.1 m.2

    by : StartsDecided x.rest kind ⊎ ClosesFaulty x.context x.rest kind → ⊥
    by (inl d) = none_decided 1 kept.cutter bytes s.given s.cut (filter has_token x.before) line d.0 (record { entries = x.before; rest = x.rest; place = d.1; in_order = there; with_tokens = refl; fault = d.2; decided = d.3 })
    by (inr f) = faulty f.0 f.1 f.3.0 f.2 f.3.1 f.3.2 f.3.3

-- a fault that is decided stays, however the bytes go on
pub decides_more : (zone : List (List ℕ)) (bytes more : List ℕ) (line : ℕ) (kind : Kind) → DecidesFault zone bytes line kind → DecidesFault zone (bytes ++ more) line kind
decides_more zone bytes more line kind x = record {
  before = x.before;
  rest = x.rest ++ more;
  context = x.context;
  records = x.records;
  in_order = λ rest. subst (λ (b : List ℕ). AreEntries 1 b x.before line ((x.rest ++ more) ++ rest)) (sym (append_assoc bytes more rest)) (subst (λ (r : List ℕ). AreEntries 1 (bytes ++ (more ++ rest)) x.before line r) (sym (append_assoc x.rest more rest)) (x.in_order (more ++ rest)));
  meaning = x.meaning;
  fault = by x.fault;
}
  where
    by : StartsDecided x.rest kind ⊎ ClosesFaulty x.context x.rest kind → StartsDecided (x.rest ++ more) kind ⊎ ClosesFaulty x.context (x.rest ++ more) kind
    by (inl d) = let b = broken_more x.rest d.0 d.1 more d.2 d.3 in inl (d.0, d.1, b.0, b.1, d.4)
    by (inr f) = inr (
      f.0,
      f.1 ++ more,
      ap (λ (r : List ℕ). r ++ more) f.2 ∙ append_assoc f.0 f.1 more,
      (f.3.0, (λ rest. subst (λ (a : List ℕ). Spells f.0 a f.3.0) (sym (append_assoc f.1 more rest)) (f.3.1 (more ++ rest))), f.3.2, f.3.3),
    )

-- it is the file's first fault, if the file ends there
pub decides_faults : (zone : List (List ℕ)) (bytes : List ℕ) (line : ℕ) (kind : Kind) → DecidesFault zone bytes line kind → Faults zone bytes line kind
decides_faults zone bytes line kind x = record {
  before = x.before;
  rest = x.rest;
  context = x.context;
  records = x.records;
  in_order = subst (λ (b : List ℕ). AreEntries 1 b x.before line x.rest) (append-nil bytes) (subst (λ (r : List ℕ). AreEntries 1 (bytes ++ []) x.before line r) (append-nil x.rest) (x.in_order []));
  meaning = x.meaning;
  fault = by x.fault;
}
  where
    by : StartsDecided x.rest kind ⊎ ClosesFaulty x.context x.rest kind → StartsBroken x.rest kind ⊎ StartsFaulty x.context x.rest kind
    by (inl d) = inl (d.0, d.1, d.2, d.4)
    by (inr f) = inr (f.0, f.1, f.2, (f.3.0, subst (λ (a : List ℕ). Spells f.0 a f.3.0) (append-nil f.1) (f.3.1 []), f.3.2, f.3.3))

-- ---- what a cutter answers

-- entries, and entries behind them
pub record Split (line : ℕ) (bytes : List ℕ) (front more : List Entry) (last : ℕ) (rest : List ℕ) : Type 0 where
  pub mid : ℕ
  pub left : List ℕ
  pub in_front : AreEntries line bytes front mid left
  pub behind : AreEntries mid left more last rest

split : (line : ℕ) (bytes : List ℕ) (front more : List Entry) (last : ℕ) (rest : List ℕ) → AreEntries line bytes (front ++ more) last rest → Split line bytes front more last rest
split line bytes [] more last rest h = record { mid = line; left = bytes; in_front = (refl, refl); behind = h }
split line bytes (entry ∷ front) more last rest h =
    let s = split (line + lines_in h.0) h.1 front more last rest h.5 in
    record { mid = s.mid; left = s.left; in_front = (h.0, h.1, h.2, h.3, h.4, s.in_front); behind = s.behind }

-- entries end at one place
ends_once : (line : ℕ) (bytes : List ℕ) (entries : List Entry) (last : ℕ) (rest : List ℕ) (last' : ℕ) (rest' : List ℕ) → AreEntries line bytes entries last rest → AreEntries line bytes entries last' rest' → rest ≡ rest'
ends_once line bytes entries last rest last' rest' h k = by (compared line bytes entries last rest entries last' rest' h k)
  where
    none : (more : List Entry) → entries ≡ entries ++ more → more ≡ []
    none more e = nil_from_length more (omega (arith, ap length e, length-append entries more))

    by : (((more : List Entry) × (entries ≡ entries ++ more) × AreEntries last rest more last' rest') ⊎ ((more : List Entry) × (entries ≡ entries ++ more) × AreEntries last' rest' more last rest)) → rest ≡ rest'
    by (inl m) = let at : AreEntries last rest [] last' rest' = subst (λ (l : List Entry). AreEntries last rest l last' rest') (none m.0 m.1) m.2 in at.1
    by (inr m) = let at : AreEntries last' rest' [] last rest = subst (λ (l : List Entry). AreEntries last' rest' l last rest) (none m.0 m.1) m.2 in sym at.1

-- no entry closed, or one without a token
pub goes_on : (zone : List (List ℕ)) (kept : Kept) (cutter : lex.Kept) (bytes : List ℕ) (byte : ℕ) → (s : StandsFor zone kept bytes) → lex.StandsFor 1 cutter (bytes ++ byte ∷ []) (s.given ++ []) → StandsFor zone (record kept { cutter = cutter }) (bytes ++ byte ∷ [])
goes_on zone kept cutter bytes byte s cut = record { given = s.given; origin = s.origin; cut = subst (λ (l : List Entry). lex.StandsFor 1 cutter (bytes ++ byte ∷ []) l) (append-nil s.given) cut; meaning = s.meaning }

-- an entry closed, and its meaning
pub takes_on : (zone : List (List ℕ)) (cut : lex.Kept) (p : Progress) (cutter : lex.Kept) (q : Progress) (bytes : List ℕ) (byte : ℕ) (entry : Entry) → (s : StandsFor zone (kept_with cut p) bytes) → lex.StandsFor 1 cutter (bytes ++ byte ∷ []) (s.given ++ entry ∷ []) → Takes p entry q
    → StandsFor zone (kept_with cutter q) (bytes ++ byte ∷ [])
takes_on zone cut p cutter q bytes byte entry s c t = record {
  given = s.given ++ entry ∷ [];
  origin = t.zone ∙ s.origin;
  cut = c;
  meaning = subst (λ (l : List Record). Mean zone (first_context zone) (s.given ++ entry ∷ []) (context_of q) l) (sym t.records)
      (mean_append zone (first_context zone) s.given (context_of p) p.records (entry ∷ []) (context_of q) t.mine s.meaning (subst (λ (z : List (List ℕ)). Mean z (context_of p) (entry ∷ []) (context_of q) t.mine) s.origin t.meaning));
}

-- a broken entry
pub broken_decides : (zone : List (List ℕ)) (kept : Kept) (bytes : List ℕ) (byte line : ℕ) (kind : LexKind) → (s : StandsFor zone kept bytes) → lex.IsDecidedAt 1 (bytes ++ byte ∷ []) s.given line kind → DecidesFault zone (bytes ++ byte ∷ []) line (kind_of kind)
broken_decides zone kept bytes byte line kind s x = record {
  before = x.entries;
  rest = x.rest;
  context = kept.context;
  records = kept.records;
  in_order = λ more. entries_more 1 (bytes ++ byte ∷ []) x.entries line x.rest more x.in_order (decided_some x.rest kind x.place x.fault x.decided);
  meaning = subst (λ (l : List Entry). Mean zone (first_context zone) l kept.context kept.records) x.with_tokens s.meaning;
  fault = inl (kind, x.place, x.fault, x.decided, refl);
}

-- an entry that is closed and has no meaning
pub faulty_decides : (zone : List (List ℕ)) (kept : Kept) (bytes : List ℕ) (byte : ℕ) (entry : Entry) (number : ℕ) (kind : Kind) → (s : StandsFor zone kept bytes) → lex.Closes 1 bytes s.given byte entry number → IsFaulty kept.context entry kind
    → DecidesFault zone (bytes ++ byte ∷ []) entry.line kind
faulty_decides zone kept bytes byte entry number kind s c faulty = record {
  before = c.before;
  rest = first.left;
  context = kept.context;
  records = kept.records;
  in_order = ordered;
  meaning = subst (λ (l : List Entry). Mean zone (first_context zone) l kept.context kept.records) c.with_tokens s.meaning;
  fault = inr (first.behind.0, [], left_is, (entry, spells, c.token, faulty));
}
  where
    first : Split 1 (bytes ++ byte ∷ []) c.before (entry ∷ []) c.last []
    first = split 1 (bytes ++ byte ∷ []) c.before (entry ∷ []) c.last [] (c.in_order [])

    left_is : first.left ≡ first.behind.0 ++ []
    left_is = first.behind.2 ∙ ap (λ (a : List ℕ). first.behind.0 ++ a) first.behind.5.1

    some : first.left ≢ []
    some e = spelled_some first.behind.0 first.behind.1 entry first.behind.3 (nil_front first.behind.0 [] (sym left_is ∙ e))

    ordered : (more : List ℕ) → AreEntries 1 ((bytes ++ byte ∷ []) ++ more) c.before entry.line (first.left ++ more)
    ordered more = subst (λ (l : ℕ). AreEntries 1 ((bytes ++ byte ∷ []) ++ more) c.before l (first.left ++ more)) (sym first.behind.4) (entries_more 1 (bytes ++ byte ∷ []) c.before first.mid first.left more first.in_front some)

    spells : (more : List ℕ) → Spells first.behind.0 ([] ++ more) entry
    spells more =
        let next = split 1 (bytes ++ byte ∷ more) c.before (entry ∷ []) c.last more (c.in_order more) in
        let longer = subst (λ (b : List ℕ). AreEntries 1 b c.before entry.line (first.left ++ more)) (append_assoc bytes (byte ∷ []) more) (ordered more) in
        let same : next.left ≡ first.left ++ more = ends_once 1 (bytes ++ byte ∷ more) c.before next.mid next.left entry.line (first.left ++ more) next.in_front longer in
        let cut : next.behind.0 ++ more ≡ first.behind.0 ++ more = ap (λ (a : List ℕ). next.behind.0 ++ a) (sym next.behind.5.1) ∙ sym next.behind.2 ∙ same ∙ ap (λ (l : List ℕ). l ++ more) (left_is ∙ append-nil first.behind.0) in
        subst (λ (t : List ℕ). Spells t more entry) (append_cancel_right next.behind.0 first.behind.0 more cut) (subst (λ (a : List ℕ). Spells next.behind.0 a entry) next.behind.5.1 next.behind.3)

-- ---- the end of a file

pub reads_all : (zone : List (List ℕ)) (kept : Kept) (bytes : List ℕ) → (s : StandsFor zone kept bytes) → lex.AreAll 1 bytes (s.given ++ []) → Reads zone bytes kept.records
reads_all zone kept bytes s a = record { entries = a.entries; last = a.last; context = kept.context; in_order = a.in_order; meaning = subst (λ (l : List Entry). Mean zone (first_context zone) l kept.context kept.records) (sym (append-nil s.given) ∙ a.with_tokens) s.meaning }

pub reads_last : (zone : List (List ℕ)) (cut : lex.Kept) (p q : Progress) (bytes : List ℕ) (entry : Entry) → (s : StandsFor zone (kept_with cut p) bytes) → lex.AreAll 1 bytes (s.given ++ entry ∷ []) → Takes p entry q → Reads zone bytes q.records
reads_last zone cut p q bytes entry s a t = record {
  entries = a.entries;
  last = a.last;
  context = context_of q;
  in_order = a.in_order;
  meaning = subst (λ (l : List Entry). Mean zone (first_context zone) l (context_of q) q.records) a.with_tokens
      (subst (λ (l : List Record). Mean zone (first_context zone) (s.given ++ entry ∷ []) (context_of q) l) (sym t.records)
      (mean_append zone (first_context zone) s.given (context_of p) p.records (entry ∷ []) (context_of q) t.mine s.meaning (subst (λ (z : List (List ℕ)). Mean z (context_of p) (entry ∷ []) (context_of q) t.mine) s.origin t.meaning)));
}

pub broken_faults : (zone : List (List ℕ)) (kept : Kept) (bytes : List ℕ) (line : ℕ) (kind : LexKind) → (s : StandsFor zone kept bytes) → lex.IsBrokenAt 1 bytes s.given line kind → Faults zone bytes line (kind_of kind)
broken_faults zone kept bytes line kind s x = record {
  before = x.entries;
  rest = x.rest;
  context = kept.context;
  records = kept.records;
  in_order = x.in_order;
  meaning = subst (λ (l : List Entry). Mean zone (first_context zone) l kept.context kept.records) x.with_tokens s.meaning;
  fault = inl (kind, x.place, x.fault, refl);
}

pub faulty_faults : (zone : List (List ℕ)) (kept : Kept) (bytes : List ℕ) (entry : Entry) (number : ℕ) (kind : Kind) → (s : StandsFor zone kept bytes) → lex.EndsWith 1 bytes s.given entry number → IsFaulty kept.context entry kind → Faults zone bytes entry.line kind
faulty_faults zone kept bytes entry number kind s c faulty =
    let first = split 1 bytes c.before (entry ∷ []) c.last [] c.in_order in
    record {
      before = c.before;
      rest = first.left;
      context = kept.context;
      records = kept.records;
      in_order = subst (λ (l : ℕ). AreEntries 1 bytes c.before l first.left) (sym first.behind.4) first.in_front;
      meaning = subst (λ (l : List Entry). Mean zone (first_context zone) l kept.context kept.records) c.with_tokens s.meaning;
      fault = inr (first.behind.0, first.behind.1, first.behind.2, (entry, first.behind.3, c.token, faulty));
    }

-- ---- a piece

pub one_more : (bytes piece : List ℕ) (i : ℕ) → i < length piece → bytes ++ take (i + 1) piece ≡ (bytes ++ take i piece) ++ get_or piece i 0 ∷ []
one_more bytes piece i h = ap (λ (t : List ℕ). bytes ++ t) (ap (λ n. take n piece) next ∙ take-suc piece i 0 h) ∙ sym (append_assoc bytes (take i piece) (get_or piece i 0 ∷ []))
  where
    next : i + 1 ≡ suc i
    next = omega arith

pub all_bytes : (bytes piece : List ℕ) (i : ℕ) → i < length piece → bytes ++ piece ≡ ((bytes ++ take i piece) ++ get_or piece i 0 ∷ []) ++ drop (suc i) piece
all_bytes bytes piece i h =
    ap (λ (t : List ℕ). bytes ++ t) (sym (take-append-drop i piece) ∙ ap (λ (t : List ℕ). take i piece ++ t) (drop-cons piece i 0 h))
    ∙ sym (append_assoc bytes (take i piece) (get_or piece i 0 ∷ drop (suc i) piece))
    ∙ sym (append_assoc (bytes ++ take i piece) (get_or piece i 0 ∷ []) (drop (suc i) piece))

pub few_so_far : (bytes piece : List ℕ) (i : ℕ) → i < length piece → length (bytes ++ piece) < 2 ^ 64 → 1 + length (bytes ++ take i piece) < 2 ^ 64
few_so_far bytes piece i h few = omega (arith, length-append bytes piece, length-append bytes (take i piece), length-take-le i piece (omega arith))

pub broken_refused : (zone : List (List ℕ)) (kept : Kept) (bytes : List ℕ) (byte : ℕ) (more all : List ℕ) (fault : LexFault) → (s : StandsFor zone kept bytes) → lex.FaultIs (lex.IsDecidedAt 1 (bytes ++ byte ∷ []) s.given) fault → all ≡ (bytes ++ byte ∷ []) ++ more
    → FaultIs (DecidesFault zone all) (zone_fault_of fault)
broken_refused zone kept bytes byte more all (lex_fault.Bad line kind) s h e = subst (λ (b : List ℕ). DecidesFault zone b line (kind_of kind)) (sym e) (decides_more zone (bytes ++ byte ∷ []) more line (kind_of kind) (broken_decides zone kept bytes byte line kind s h))
broken_refused zone kept bytes byte more all lex_fault.Memory s h e = tt

pub faulty_refused : (zone : List (List ℕ)) (kept : Kept) (bytes : List ℕ) (byte : ℕ) (more all : List ℕ) (entry : Entry) (number : ℕ) (fault : ZoneFault) → (s : StandsFor zone kept bytes) → lex.Closes 1 bytes s.given byte entry number → FaultAt kept.context entry fault
    → all ≡ (bytes ++ byte ∷ []) ++ more → FaultIs (DecidesFault zone all) fault
faulty_refused zone kept bytes byte more all entry number (Bad line kind) s c h e =
    subst (λ (l : ℕ). DecidesFault zone all l kind) (sym h.0)
    (subst (λ (b : List ℕ). DecidesFault zone b entry.line kind) (sym e) (decides_more zone (bytes ++ byte ∷ []) more entry.line kind (faulty_decides zone kept bytes byte entry number kind s c h.1)))
faulty_refused zone kept bytes byte more all entry number Memory s c h e = tt

pub broken_at_end : (zone : List (List ℕ)) (kept : Kept) (bytes : List ℕ) (fault : LexFault) → (s : StandsFor zone kept bytes) → lex.FaultIs (lex.IsBrokenAt 1 bytes s.given) fault → FaultIs (Faults zone bytes) (zone_fault_of fault)
broken_at_end zone kept bytes (lex_fault.Bad line kind) s h = broken_faults zone kept bytes line kind s h
broken_at_end zone kept bytes lex_fault.Memory s h = tt

pub faulty_at_end : (zone : List (List ℕ)) (kept : Kept) (bytes : List ℕ) (entry : Entry) (number : ℕ) (fault : ZoneFault) → (s : StandsFor zone kept bytes) → lex.EndsWith 1 bytes s.given entry number → FaultAt kept.context entry fault → FaultIs (Faults zone bytes) fault
faulty_at_end zone kept bytes entry number (Bad line kind) s c h = subst (λ (l : ℕ). Faults zone bytes l kind) (sym h.0) (faulty_faults zone kept bytes entry number kind s c h.1)
faulty_at_end zone kept bytes entry number Memory s c h = tt

-- a fault of a piece is one of the whole
pub fault_of_whole : (zone : List (List ℕ)) (bytes : List ℕ) (fault : ZoneFault) → FaultIs (DecidesFault zone bytes) fault → FaultIs (Faults zone bytes) fault
fault_of_whole zone bytes (Bad line kind) h = decides_faults zone bytes line kind h
fault_of_whole zone bytes Memory h = tt
