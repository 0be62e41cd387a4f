-- What published records give where they stand.
use Rattle.std.proofs.Common.{◌≡◌, ℕ, ◌-◌, ◌≤◌, Bool, true, false, cond, List, [], ◌∷◌, ◌++◌, length, take, drop, refl, sym, ap, subst, ◌∙◌, arith, take-append-drop, Option, Some, None}
use Rattle.std.proofs.lemmas.List.{drop-drop}
use Rattle.addr_bits.specs.declared.address.Address.{Address}
use Rattle.addr_bits.specs.declared.address.Address.TheVariants.{V4}
use Rattle.zone_answers.specs.declared.answer.Answer.{Answer}
use Rattle.zone_answers.specs.declared.answer.Answer.TheVariants as answer
use Rattle.zone_answers.specs.declared.answer.QKind.TheVariants as kind
use Rattle.zone_answers.specs.Answers.{answer_of, answer_within, at_node, in_zone, is_cut_off, node_of, zone_of}
use Rattle.zone_answers.specs.Zone.{Zone}
use Rattle.spf_grammar.specs.Flat.{first}
use Rattle.spf_grammar.specs.Families.{HavePrefixes}
use Rattle.spf_grammar.specs.declared.flat.FlatTerm.{FlatTerm}
use Rattle.spf_grammar.specs.declared.policy.Term.{Term}
use Rattle.spf_grammar.specs.declared.verdict.Verdict.{Verdict}
use Rattle.spf_model.specs.declared.outcome.Counts.{Counts}
use Rattle.spf_model.specs.declared.outcome.Limits.{Limits}
use Rattle.spf_model.specs.declared.outcome.Outcome.TheVariants.{Is}
use Rattle.spf_model.specs.Chains.{all_terms, IsChain, GivesFlat}
use Rattle.spf_model.specs.Check.{check_host, receiver_limits, with_answer, with_record}
use Rattle.spf_model.specs.Judging.{Labels, name_of}
use Rattle.spf_model.specs.Result.{AllHave, Gives}
use Rattle.spf_model.specs.Run.{Answering, AnsweringEach, EndsWith, Run, says}
use Rattle.spf_model.proofs.Chains.{chains_give_first}
use Rattle.spf_model.proofs.OneOutcome.{some_once}
use Rattle.record_pack.specs.Records.{RiseTo, piece, pieces_from}
use Rattle.zone_writer.proofs.Fragments.{fragment_is_read}
use Rattle.published_records.specs.Chain.{AllHavePrefixes}
use Rattle.published_records.specs.Published.{AllHaveWithin, FragmentStands, GivesWithin, RecordsGive}
use Rattle.published_records.specs.Standing.{HoldsName, StandAlone}
use Rattle.zone_writer.proofs.Texts.{prefixes_piece}
use Rattle.published_records.proofs.RecordChains.{records_are_chain, unfolded}
use Rattle.published_records.proofs.StandingAlone.{length_pieces, records_stand_alone}
use Rattle.published_records.proofs.StandingPatched.{records_stand_patched}

-- ---- the zone that holds the domain, where each address has a verdict

-- a record that leads to a verdict is found
found_record : (asked : Answering) (name : Labels) (counts after : Counts) (go : List Term → Run) (verdict : Verdict)
    → EndsWith asked (with_answer name counts answer.Outside go) (Is verdict) after → ⊥
found_record asked name counts after go verdict ends = absurd cc

held_in : (asked : Answering) (zones : List Zone) (name : Labels) (counts after : Counts) (go : List Term → Run) (verdict : Verdict) (follow : List (List ℕ) → Answer) (found : Option Zone)
    → zone_of zones name ≡ found → EndsWith asked (with_answer name counts (in_zone kind.Txt follow name found) go) (Is verdict) after → HoldsName zones name
held_in asked zones name counts after go verdict follow None is ends = absurd (found_record asked name counts after go verdict ends)
held_in asked zones name counts after go verdict follow (Some zone) is ends = by (is_cut_off zone name) refl ends
  where
    by : (t : Bool) → is_cut_off zone name ≡ t
        → EndsWith asked (with_answer name counts (cond t answer.Outside (at_node kind.Txt follow zone (node_of zone name))) go) (Is verdict) after → HoldsName zones name
    by true cut ends = absurd (found_record asked name counts after go verdict ends)
    by false uncut ends = record { zone = zone; holds = is; no_cut = uncut }

held_name : (zones : List Zone) (a : Address) (name : Labels) (counts after : Counts) (go : List Term → Run) (verdict : Verdict)
    → EndsWith (says zones a) (with_record name counts go) (Is verdict) after → HoldsName zones name
unfolding Rattle.spf_model.specs.Run.says Rattle.zone_answers.specs.Answers.answer_of
held_name zones a [] counts after go verdict ends = absurd cc
held_name zones a (label ∷ []) counts after go verdict ends = absurd cc
held_name zones a (label ∷ next ∷ labels) counts after go verdict ends =
    held_in (says zones a) zones (label ∷ next ∷ labels) counts after go verdict (λ target. answer_within 7 zones target kind.Txt) (zone_of zones (label ∷ next ∷ labels)) refl ends

given_name : (zones : List Zone) (limits : Limits) (domain : List ℕ) (name : Labels) (a : Address) (verdict : Verdict) → name_of domain ≡ Some name → Gives (says zones) limits domain a (Is verdict) → HoldsName zones name
unfolding Rattle.spf_model.specs.Check.check_host
given_name zones limits domain name a verdict named (other, after, is, ends) =
    held_name zones a name _ after _ verdict (subst (λ n. EndsWith (says zones a) (check_host limits a domain n) (Is verdict) after) (some_once is named) ends)

pub holds_name : (zones : List Zone) (limits : Limits) (domain : List ℕ) (name : Labels) (verdict_of : Address → Verdict) → name_of domain ≡ Some name → AllHave (says zones) limits domain verdict_of → HoldsName zones name
holds_name zones limits domain name verdict_of named all = given_name zones limits domain name (V4 0) (verdict_of (V4 0)) named (all (V4 0) (omega arith))

-- ---- the pieces of a cut

pub pieces_prefixes : (list : List FlatTerm) (from : ℕ) (ends : List ℕ) → HavePrefixes list → AllHavePrefixes (pieces_from list from ends)
pieces_prefixes list from [] h = tt
pieces_prefixes list from (to ∷ ends) h = (prefixes_piece list from to h, pieces_prefixes list to ends h)

drop_all : (list : List FlatTerm) → drop (length list) list ≡ []
drop_all [] = refl
drop_all (term ∷ list) = drop_all list

drop_again : (list : List FlatTerm) (from to : ℕ) → from ≤ to → drop to list ≡ drop (to - from) (drop from list)
drop_again list from to h = sym (drop-drop (to - from) from list ∙ ap (λ n. drop n list) (omega (arith, h)))

-- all pieces are the list
pub pieces_terms : (list : List FlatTerm) (from : ℕ) (ends : List ℕ) → RiseTo from (length list) ends → all_terms (pieces_from list from ends) ≡ drop from list
pieces_terms list from [] h = sym (ap (λ n. drop n list) h ∙ drop_all list)
pieces_terms list from (to ∷ ends) h =
    ap (λ ts. take (to - from) (drop from list) ++ ts) (pieces_terms list to ends h.2 ∙ drop_again list from to h.0) ∙ take-append-drop (to - from) (drop from list)

-- ---- a chain gives each address its verdict

pub chain_gives : (zones : AnsweringEach) (domain : List ℕ) (name : Labels) (list : List FlatTerm) (lists : List (List FlatTerm)) (records : ℕ) → name_of domain ≡ Some name → ((a : Address) → IsChain (zones a) domain name lists)
    → length lists ≡ records → records ≤ 11 → all_terms lists ≡ list → AllHaveWithin zones domain records (first list)
chain_gives zones domain name list lists records named chain many few same a is =
    given (chains_give_first (zones a) receiver_limits a domain name lists (chain a) (omega (arith, many, few)))
  where
    given : GivesFlat (zones a) receiver_limits a domain name lists → GivesWithin zones domain records a (first list a)
    given h = record {
      name = name;
      counts = h.counts;
      named = named;
      ends = subst (λ ts. EndsWith (zones a) (check_host receiver_limits a domain name) (Is (first ts a)) h.counts) same h.ends;
      fewer = omega (arith, h.lookups, many);
      lookups = omega (arith, h.lookups, many, few);
      voids = h.voids;
    }

-- ---- the records of a cut, where they stand

pub records_give : RecordsGive
records_give zones domain label name list [] words named prefixes cut hold = absurd (omega (arith, cut.some))
records_give zones domain label name list (to ∷ ends) words named prefixes cut hold =
    chain_gives zones domain name list (pieces_from list 0 (to ∷ ends)) (length (to ∷ ends)) (unfolded domain name named)
    (λ a. records_are_chain (zones a) domain label name (piece list 0 to) (pieces_from list to ends) words named (omega (arith, cut.few, length_pieces list to ends)) (pieces_prefixes list 0 (to ∷ ends) prefixes) (hold a))
    (length_pieces list 0 (to ∷ ends)) cut.few (pieces_terms list 0 (to ∷ ends) cut.rise)

-- ---- the fragment

pub fragment_stands : FragmentStands
fragment_stands zones domain label ttl size others list ends rows4 rows6 total name words named lasting small prefixes fits held no_alias free = record {
  reads = fragment_is_read domain label ttl size others list ends rows4 rows6 total name words named lasting small prefixes fits;
  lendable = by_itself.lendable;
  lent = by_itself.lent;
  alone = records_give _ domain label name list ends words named prefixes fits.cut by_itself.hold;
  in_place = records_give _ domain label name list ends words named prefixes fits.cut
      (records_stand_patched zones domain label name (pieces_from list 0 ends) (omega (arith, fits.cut.few, many)) held no_alias
      (λ k behind within. free k behind (omega (arith, within, many))));
}
  where
    many : length (pieces_from list 0 ends) ≡ length ends
    many = length_pieces list 0 ends

    by_itself : StandAlone domain label name (pieces_from list 0 ends)
    by_itself = records_stand_alone domain label size others list ends name small fits
