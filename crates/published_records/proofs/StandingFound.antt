-- A record that stands at a name beside others is found there, as the one SPF text.
use Rattle.std.proofs.Common.{◌≡◌, ℕ, Bool, true, false, ◌&&◌, not, List, [], ◌∷◌, ◌++◌, map, filter, filter_map, refl, sym, subst, ap, ap₂, ◌∙◌, Option, None, Some, if◌then◌else◌}
use Rattle.std.specs.List.{list_any, AllByRecursion, concat, cons_option}
use Rattle.std.proofs.lemmas.Bool.{or_right, false_from_ne_true}
use Rattle.std.proofs.lemmas.List.{map-append}
use Rattle.std.proofs.lemmas.List.Elements.{filter-append, filter_map-append}
use Rattle.addr_bits.specs.declared.address.Address.{Address}
use Rattle.dns_name.specs.Name.{is_under}
use Rattle.dns_name.proofs.Names.{under_itself}
use Rattle.dns_name.proofs.Octets.{all_append}
use Rattle.master_reader.specs.declared.record.Body.{Body}
use Rattle.master_reader.specs.declared.record.Body.TheVariants.{Txt}
use Rattle.master_reader.specs.declared.record.Record.{Record}
use Rattle.zone_answers.specs.Zone.{Zone}
use Rattle.zone_answers.specs.declared.answer.QKind.TheVariants as kinds
use Rattle.zone_answers.specs.declared.answer.Answer.{Answer}
use Rattle.zone_answers.specs.declared.answer.Answer.TheVariants.{Found, Outside}
use Rattle.zone_answers.specs.Answers.{zone_of, is_cut_off, is_delegation, is_of, target_of, bodies_at, name_exists, node_of, wildcard_of, in_zone, at_node, answer_at, answer_of_bodies}
use Rattle.zone_answers.specs.Same.{same_name, same_record, distinct_records}
use Rattle.zone_answers.proofs.Cuts.{any_also}
use Rattle.zone_answers.proofs.Distinct.{all_distinct, record_same}
use Rattle.zone_answers.proofs.Holding.{eight_steps, within, within_first, within_more}
use Rattle.zone_answers.proofs.Nodes.{same_true}
use Rattle.spf_text.specs.Version.{is_spf_text}
use Rattle.spf_model.specs.Check.{spf_text_of}
use Rattle.spf_model.specs.Run.{says}
use Rattle.zone_writer.specs.Fragment.{strings_of}
use Rattle.published_records.specs.Chain.{Holds}
use Rattle.published_records.proofs.StandingLists.{all_kept, all_mapped, all_weaker, any_false, distinct_kept, distinct_one, one_passes}
use Rattle.published_records.proofs.StandingTexts.{strings_join, txt_of_spf}

-- RFC 1034, section 4.3.2, step 3 b: the record cuts the name off from its zone
abbrev pub cuts : (origin name : List (List ℕ)) → Record → Bool
cuts origin name r = is_delegation r.body && is_under name r.owner && is_under r.owner origin && not (same_name r.owner origin)

-- a body that is neither an alias nor an SPF text
abbrev pub IsPlain : Body → Type 0
IsPlain body = (target_of body ≡ None) × (spf_text_of body ≡ None)

abbrev pub strings_record : (name : List (List ℕ)) → (strings : List (List ℕ)) → Record
strings_record name strings = record { owner = name; body = Txt strings }

abbrev pub txt_record : (name : List (List ℕ)) → (text : List ℕ) → Record
txt_record name text = strings_record name (strings_of text)

-- the strings stand at the name in the zone, as those of one of new records beside the old ones
pub record StringsStand (zone : Zone) (name : List (List ℕ)) (strings : List (List ℕ)) (old new : List Record) : Type 0 where
  pub records : zone.records ≡ distinct_records (old ++ new)
  pub at_name : filter (λ r. same_name r.owner name) new ≡ strings_record name strings ∷ []
  pub old_uncut : AllByRecursion (λ r. cuts zone.origin name r ≡ false) old
  pub new_uncut : AllByRecursion (λ r. cuts zone.origin name r ≡ false) new
  pub plain : AllByRecursion (λ r. same_name r.owner name ≡ true → IsPlain r.body) old
  pub spf : is_spf_text (concat strings) ≡ true

-- the text stands at the name in the zone, as one of new records beside the old ones
pub record StandsIn (zone : Zone) (name : List (List ℕ)) (text : List ℕ) (old new : List Record) : Type 0 where
  pub records : zone.records ≡ distinct_records (old ++ new)
  pub at_name : filter (λ r. same_name r.owner name) new ≡ txt_record name text ∷ []
  pub old_uncut : AllByRecursion (λ r. cuts zone.origin name r ≡ false) old
  pub new_uncut : AllByRecursion (λ r. cuts zone.origin name r ≡ false) new
  pub plain : AllByRecursion (λ r. same_name r.owner name ≡ true → IsPlain r.body) old
  pub spf : is_spf_text text ≡ true

-- ---- bodies

plain_apart : (name : List (List ℕ)) (strings : List (List ℕ)) (r : Record) → is_spf_text (concat strings) ≡ true → IsPlain r.body → same_record r (strings_record name strings) ≡ false
plain_apart name strings r spf plain = false_from_ne_true _ (λ (same : same_record r (strings_record name strings) ≡ true).
    some_none (sym (ap (λ (x : Record). spf_text_of x.body) (record_same r (strings_record name strings) same) ∙ txt_of_spf strings spf) ∙ plain.1))
  where
    some_none : Some (concat strings) ≡ None → ⊥
    some_none e = cc

-- the bodies at the name that are not those of the strings
abbrev old_bodies : (name : List (List ℕ)) → List Record → List Body
old_bodies name old = map (λ r. r.body) (distinct_records (filter (λ r. same_name r.owner name) old))

plain_old : (name : List (List ℕ)) (old : List Record) → AllByRecursion (λ r. same_name r.owner name ≡ true → IsPlain r.body) old
    → AllByRecursion (λ r. IsPlain r.body) (filter (λ r. same_name r.owner name) old)
plain_old name old h = all_kept (λ r. same_name r.owner name ≡ true → IsPlain r.body) (λ r. IsPlain r.body) (λ r. same_name r.owner name) old (λ r at f. f at) h

plain_bodies : (name : List (List ℕ)) (old : List Record) → AllByRecursion (λ r. same_name r.owner name ≡ true → IsPlain r.body) old → AllByRecursion IsPlain (old_bodies name old)
plain_bodies name old h =
    all_mapped IsPlain (λ r. r.body) (distinct_records (filter (λ r. same_name r.owner name) old))
    (all_distinct (λ r. IsPlain r.body) (filter (λ r. same_name r.owner name) old) (plain_old name old h))

own_records : (zone : Zone) (name : List (List ℕ)) (strings : List (List ℕ)) (old new : List Record) → StringsStand zone name strings old new
    → filter (λ r. same_name r.owner name) zone.records ≡ distinct_records (filter (λ r. same_name r.owner name) old) ++ strings_record name strings ∷ []
own_records zone name strings old new s =
    ap (filter here) s.records
    ∙ distinct_kept here (old ++ new)
    ∙ ap distinct_records (filter-append here old new ∙ ap (λ l. filter here old ++ l) s.at_name)
    ∙ distinct_one (filter here old) (strings_record name strings)
    (all_weaker (λ r. IsPlain r.body) (λ r. same_record r (strings_record name strings) ≡ false) (filter here old) (λ r plain. plain_apart name strings r s.spf plain) (plain_old name old s.plain))
  where
    here : Record → Bool
    here r = same_name r.owner name

own_bodies : (zone : Zone) (name : List (List ℕ)) (strings : List (List ℕ)) (old new : List Record) → StringsStand zone name strings old new
    → bodies_at zone name ≡ old_bodies name old ++ Txt strings ∷ []
own_bodies zone name strings old new s =
    ap (map (λ r. r.body)) (own_records zone name strings old new s)
    ∙ map-append (λ (r : Record). r.body) (distinct_records (filter (λ r. same_name r.owner name) old)) (strings_record name strings ∷ [])

-- ---- what is found among bodies

none_mapped : {X Y : Type 0} (f : X → Option Y) (xs : List X) → AllByRecursion (λ x. f x ≡ None) xs → filter_map f xs ≡ []
none_mapped f [] h = refl
none_mapped f (x ∷ xs) h = ap (λ o. cons_option o (filter_map f xs)) h.0 ∙ none_mapped f xs h.1

no_target : (bodies : List Body) (strings : List (List ℕ)) → AllByRecursion IsPlain bodies → filter_map target_of (bodies ++ Txt strings ∷ []) ≡ []
no_target bodies strings h =
    filter_map-append target_of bodies (Txt strings ∷ [])
    ∙ ap (λ l. l ++ []) (none_mapped target_of bodies (all_weaker IsPlain (λ b. target_of b ≡ None) bodies (λ b plain. plain.0) h))

abbrev txt_bodies : List Body → (strings : List (List ℕ)) → List Body
txt_bodies bodies strings = filter (is_of kinds.Txt) bodies ++ Txt strings ∷ []

one_text : (bodies : List Body) (strings : List (List ℕ)) → AllByRecursion IsPlain bodies → is_spf_text (concat strings) ≡ true → filter_map spf_text_of (txt_bodies bodies strings) ≡ concat strings ∷ []
one_text bodies strings h spf =
    filter_map-append spf_text_of (filter (is_of kinds.Txt) bodies) (Txt strings ∷ [])
    ∙ ap₂ (λ (l : List (List ℕ)) (o : Option (List ℕ)). l ++ cons_option o [])
    (none_mapped spf_text_of (filter (is_of kinds.Txt) bodies) (all_kept IsPlain (λ b. spf_text_of b ≡ None) (is_of kinds.Txt) bodies (λ b at plain. plain.1) h))
    (txt_of_spf strings spf)

found_bodies : (bodies : List Body) (last : Body) → answer_of_bodies (bodies ++ last ∷ []) ≡ Found (bodies ++ last ∷ [])
found_bodies [] last = refl
found_bodies (body ∷ bodies) last = refl

answer_here : (follow : List (List ℕ) → Answer) (bodies : List Body) (strings : List (List ℕ)) → AllByRecursion IsPlain bodies
    → answer_at kinds.Txt follow (bodies ++ Txt strings ∷ []) (filter_map target_of (bodies ++ Txt strings ∷ [])) ≡ Found (txt_bodies bodies strings)
answer_here follow bodies strings h =
    ap (answer_at kinds.Txt follow (bodies ++ Txt strings ∷ [])) (no_target bodies strings h)
    ∙ ap answer_of_bodies (filter-append (is_of kinds.Txt) bodies (Txt strings ∷ []))
    ∙ found_bodies (filter (is_of kinds.Txt) bodies) (Txt strings)

-- ---- the answer

no_cut : (zone : Zone) (name : List (List ℕ)) (strings : List (List ℕ)) (old new : List Record) → StringsStand zone name strings old new → is_cut_off zone name ≡ false
no_cut zone name strings old new s =
    ap (list_any (cuts zone.origin name)) s.records
    ∙ any_false (cuts zone.origin name) (distinct_records (old ++ new))
    (all_distinct (λ r. cuts zone.origin name r ≡ false) (old ++ new) (all_append (λ r. cuts zone.origin name r ≡ false) old new s.old_uncut s.new_uncut))

exists : (zone : Zone) (name : List (List ℕ)) (strings : List (List ℕ)) (old new : List Record) → StringsStand zone name strings old new → name_exists zone name ≡ true
exists zone name strings old new s =
    or_right (same_name name zone.origin) (list_any (λ r. is_under r.owner name) zone.records)
    (any_also (λ r. same_name r.owner name) (λ r. is_under r.owner name) zone.records (λ r at. under_itself r.owner name (same_true r.owner name at))
    (one_passes (λ r. same_name r.owner name) zone.records (distinct_records (filter (λ r. same_name r.owner name) old)) (strings_record name strings) (own_records zone name strings old new s)))

node : (zone : Zone) (name : List (List ℕ)) → name_exists zone name ≡ true → node_of zone name ≡ Some name
node zone name h = ap (λ b. if b then Some name else (if name_exists zone (wildcard_of zone name) then Some (wildcard_of zone name) else None)) h

in_zone_is : (follow : List (List ℕ) → Answer) (zone : Zone) (name : List (List ℕ)) (strings : List (List ℕ)) (old new : List Record) → StringsStand zone name strings old new
    → in_zone kinds.Txt follow name (Some zone) ≡ Found (txt_bodies (old_bodies name old) strings)
in_zone_is follow zone name strings old new s =
    ap (λ b. if b then Outside else at_node kinds.Txt follow zone (node_of zone name)) (no_cut zone name strings old new s)
    ∙ ap (at_node kinds.Txt follow zone) (node zone name (exists zone name strings old new s))
    ∙ ap (λ bodies. answer_at kinds.Txt follow bodies (filter_map target_of bodies)) (own_bodies zone name strings old new s)
    ∙ answer_here follow (old_bodies name old) strings (plain_bodies name old s.plain)

pub holds_strings : (zones : List Zone) (zone : Zone) (name : List (List ℕ)) (strings : List (List ℕ)) (old new : List Record) → zone_of zones name ≡ Some zone → StringsStand zone name strings old new
    → (a : Address) → Holds (says zones a) name (concat strings)
unfolding says
holds_strings zones zone name strings old new e s a = record {
  bodies = txt_bodies (old_bodies name old) strings;
  is_found = sym (eight_steps zones name kinds.Txt) ∙ within_first 8 9 zones name kinds.Txt refl ∙ within_more 9 8 zones name kinds.Txt refl ∙ ap (in_zone kinds.Txt (λ target. within 8 zones target kinds.Txt) name) e
      ∙ in_zone_is (λ target. within 8 zones target kinds.Txt) zone name strings old new s;
  alone = one_text (old_bodies name old) strings (plain_bodies name old s.plain) s.spf;
}

-- the same for a text in its own strings
pub holds : (zones : List Zone) (zone : Zone) (name : List (List ℕ)) (text : List ℕ) (old new : List Record) → zone_of zones name ≡ Some zone → StandsIn zone name text old new
    → (a : Address) → Holds (says zones a) name text
holds zones zone name text old new e s a =
    subst (Holds (says zones a) name) (strings_join text)
    (holds_strings zones zone name (strings_of text) old new e (record {
      records = s.records;
      at_name = s.at_name;
      old_uncut = s.old_uncut;
      new_uncut = s.new_uncut;
      plain = s.plain;
      spf = ap is_spf_text (strings_join text) ∙ s.spf;
    }) a)
