-- What one entry adds.
use Rattle.std.proofs.Common.{◌≡◌, ℕ, List, [], ◌++◌, Option, Some, None, Result, Ok, Err, refl, sym, ap₂, subst, ◌∙◌, append-nil, inr, Bor}
use Rattle.std.specs.Prelude.{unwrap_or, option_copied}
use Rattle.master_lex.specs.declared.entry.Token.{Token}
use Rattle.master_lex.specs.declared.entry.Entry.{Entry}
use Rattle.master_reader.specs.declared.fault.Kind.{Kind}
use Rattle.master_reader.specs.declared.fault.Refusal.{Refusal}
use Rattle.master_reader.specs.declared.fault.Refusal.TheVariants.{Faulty, Memory}
use Rattle.master_reader.specs.declared.progress.Progress.{Progress}
use Rattle.master_reader.specs.declared.record.Body.{Body}
use Rattle.master_reader.specs.declared.record.Record.{Record}
use Rattle.master_reader.specs.Data.{IsBody}
use Rattle.master_reader.specs.Entry.{Ask, a_record, an_origin, no_record, ask_of}
use Rattle.master_reader.specs.Progress.{context_of, Takes}
use Rattle.master_reader.specs.Reading.{IsFaulty, records_kept}
use Rattle.master_reader.specs.Refusals.{RefusalIs}

pub copied_or : {A : Type 0} (o : Option (Bor A)) (d : Bor A) → (unwrap_or o d).now ≡ unwrap_or (option_copied o) d.now
copied_or None d = refl
copied_or (Some x) d = refl

-- what the entry asks for, under the context of the progress
pub asks_there : (p : Progress) (entry : Entry) (origin : List (List ℕ)) (owner : Option (List (List ℕ))) (r : Result Ask Kind) → origin ≡ unwrap_or p.origin p.zone → owner ≡ p.owner → ask_of (record { origin = origin; owner = owner }) entry ≡ r → ask_of (context_of p) entry ≡ r
asks_there p entry origin owner r e f h = ap₂ (λ (o : List (List ℕ)) (l : Option (List (List ℕ))). ask_of (record { origin = o; owner = l }) entry) (sym e) (sym f) ∙ h

pub record_taken : (p : Progress) (entry : Entry) (origin owner : List (List ℕ)) (kind : Token) (content : List Token) (body : Body) (records : List Record) → ask_of (context_of p) entry ≡ Ok (a_record owner kind content) → origin ≡ unwrap_or p.origin p.zone
    → IsBody origin kind content (Ok body) → records ≡ p.records ++ records_kept p.zone (record { owner = owner; body = body }) → Takes p entry (record p { owner = Some owner; records = records })
record_taken p entry origin owner kind content body records asks is b all = record {
  zone = refl;
  mine = records_kept p.zone (record { owner = owner; body = body });
  records = all;
  meaning = (
    a_record owner kind content,
    asks,
    (records_kept p.zone (record { owner = owner; body = body }), [], sym (append-nil (records_kept p.zone (record { owner = owner; body = body }))), (body, subst (λ (o : List (List ℕ)). IsBody o kind content (Ok body)) is b, refl), (refl, refl)),
  );
}

pub origin_taken : (p : Progress) (entry : Entry) (name : List (List ℕ)) → ask_of (context_of p) entry ≡ Ok (an_origin name) → Takes p entry (record p { origin = Some name })
origin_taken p entry name asks = record { zone = refl; mine = []; records = sym (append-nil p.records); meaning = (an_origin name, asks, ([], [], refl, refl, (refl, refl))) }

pub nothing_taken : (p : Progress) (entry : Entry) → ask_of (context_of p) entry ≡ Ok no_record → Takes p entry p
nothing_taken p entry asks = record { zone = refl; mine = []; records = sym (append-nil p.records); meaning = (no_record, asks, ([], [], refl, refl, (refl, refl))) }

pub body_refused : (p : Progress) (entry : Entry) (origin owner : List (List ℕ)) (kind : Token) (content : List Token) (refusal : Refusal) → ask_of (context_of p) entry ≡ Ok (a_record owner kind content) → origin ≡ unwrap_or p.origin p.zone
    → RefusalIs (λ fault. IsBody origin kind content (Err fault)) refusal → RefusalIs (IsFaulty (context_of p) entry) refusal
body_refused p entry origin owner kind content (Faulty fault) asks is h = inr (owner, kind, content, asks, subst (λ (o : List (List ℕ)). IsBody o kind content (Err fault)) is h)
body_refused p entry origin owner kind content Memory asks is h = tt
