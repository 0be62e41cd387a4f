-- What was published is certified.
use Rattle.std.proofs.Common.{◌≡◌, ℕ, Ok, List, ◌++◌, length, refl, sym, ap, subst, ◌∙◌, arith}
use Rattle.addr_bits.specs.declared.address.Address.TheVariants.{V4, V6}
use Rattle.dns_name.specs.Name.{name_of_text}
use Rattle.master_reader.specs.Reading.{Reads}
use Rattle.master_reader.specs.declared.record.Record.{Record}
use Rattle.zone_answers.specs.Zone.{Zone}
use Rattle.zone_answers.proofs.Reading.{read_lendable}
use Rattle.spf_grammar.specs.Families.{HavePrefixes}
use Rattle.spf_grammar.specs.declared.flat.FlatTerm.{FlatTerm}
use Rattle.spf_grammar.specs.declared.verdict.Verdict.{Verdict}
use Rattle.spf_model.specs.Chains.{all_terms}
use Rattle.spf_model.specs.Result.{AllHave, Gives}
use Rattle.spf_model.specs.Run.{says}
use Rattle.spf_model.specs.declared.outcome.Limits.{Limits}
use Rattle.spf_model.specs.declared.outcome.Outcome.TheVariants.{Is}
use Rattle.fewest_terms.specs.Chosen.{chosen_list}
use Rattle.fewest_terms.specs.Tables.{need_rows}
use Rattle.fewest_terms.specs.Totals.{total}
use Rattle.fewest_terms.proofs.AnswerLemmas.{list-counted, list-gives4, list-gives6, list-prefixes}
use Rattle.policy_verdicts.specs.Policy.{verdict_at}
use Rattle.record_pack.specs.Records.{IsFittingCut, pieces_from}
use Rattle.zone_writer.specs.Fragment.{head_text, record_lines}
use Rattle.zone_writer.specs.Written.{written_records}
use Rattle.zone_writer.proofs.Fragments.{fragment_is_read}
use Rattle.published_records.proofs.Publishing.{pieces_prefixes, pieces_terms}
use Rattle.published_records.proofs.StandingAlone.{length_pieces, length_written}
use Rattle.cert_checker.specs.Certified.{IsCertified}
use Rattle.cert_checker.specs.Forms.{ReadChain, name_at}
use Rattle.cert_checker.specs.Published.{IsPublished, PublishedHasNoReason, PublishedIsCertified}
use Rattle.cert_checker.specs.Reasons.{HasTable, IsSameList, others_at}
use Rattle.cert_checker.proofs.Alone.{gives_alone, lent_alone}
use Rattle.cert_checker.proofs.Domains.{named_at}
use Rattle.cert_checker.proofs.ListVerdicts.{no_shorter}
use Rattle.cert_checker.proofs.OneReason.{no_reason_beside_yes}
use Rattle.cert_checker.proofs.Prefixes.{chain_valid}
use Rattle.cert_checker.proofs.PublishedChains.{written_fit, written_form}
use Rattle.cert_checker.proofs.PublishedLines.{front_other}
use Rattle.cert_checker.proofs.PublishedLists.{chosen_last}
use Rattle.cert_checker.proofs.PublishedRows.{AreAllSmall, all_small}
use Rattle.cert_checker.proofs.PublishedTables.{written_table}

-- the chosen list gives each address the verdict that it has
chosen_same : (zones : List Zone) (limits : Limits) (domain : List ℕ) (v4 v6 : ℕ → Verdict) → AllHave (says zones) limits domain (verdict_at v4 v6)
    → IsSameList zones limits domain (chosen_list v4 v6)
chosen_same zones limits domain v4 v6 all (V4 a) lt =
    subst (λ v. Gives (says zones) limits domain (V4 a) (Is v)) (sym (list-gives4 v4 v6 (chosen_list v4 v6) refl a lt)) (all (V4 a) lt)
chosen_same zones limits domain v4 v6 all (V6 a) lt =
    subst (λ v. Gives (says zones) limits domain (V6 a) (Is v)) (sym (list-gives6 v4 v6 (chosen_list v4 v6) refl a lt)) (all (V6 a) lt)

module _ (zones : List Zone) (limits : Limits) (domain label : List ℕ) (ttl size : ℕ) (bytes : List ℕ) (p : IsPublished zones limits domain label ttl size bytes) where
  abbrev list : List FlatTerm
  list = chosen_list p.v4 p.v6

  abbrev lists : List (List FlatTerm)
  lists = pieces_from (chosen_list p.v4 p.v6) 0 p.ends

  abbrev records : List Record
  records = written_records domain label (name_at domain) 0 (pieces_from (chosen_list p.v4 p.v6) 0 p.ends)

  named : name_of_text domain ≡ Ok (name_at domain)
  named = named_at domain p.words.domain_form

  prefixes : HavePrefixes (chosen_list p.v4 p.v6)
  prefixes = list-prefixes p.v4 p.v6 (chosen_list p.v4 p.v6) refl

  read : Reads (name_at domain) bytes records
  read =
      subst (λ bs. Reads (name_at domain) bs records) (sym p.written)
      (fragment_is_read domain label ttl size (others_at zones domain) list p.ends (need_rows 32 p.v4 32 0) (need_rows 128 p.v6 128 0) (total p.v4 p.v6) (name_at domain)
      p.words named p.lasting p.narrow prefixes p.fits)

  abbrev chain : ReadChain domain bytes
  chain = record {
    records = records;
    label = label;
    lists = lists;
    reads = read;
    form = written_form domain label (name_at domain) p.words named size (others_at zones domain) list p.ends prefixes (chosen_last p.v4 p.v6) p.fits p.fewest;
  }

  same_terms : all_terms (pieces_from (chosen_list p.v4 p.v6) 0 p.ends) ≡ chosen_list p.v4 p.v6
  same_terms = pieces_terms list 0 p.ends p.fits.cut.rise

  counted : length (written_records domain label (name_at domain) 0 (pieces_from (chosen_list p.v4 p.v6) 0 p.ends)) ≡ length p.ends
  counted = length_written domain label (name_at domain) 0 lists ∙ length_pieces list 0 p.ends

  in_total : total p.v4 p.v6 ≡ length (chosen_list p.v4 p.v6)
  in_total = list-counted p.v4 p.v6 (chosen_list p.v4 p.v6) (total p.v4 p.v6) refl refl

  table : HasTable bytes (chosen_list p.v4 p.v6) (total p.v4 p.v6)
  table =
      subst (λ bs. HasTable bs (chosen_list p.v4 p.v6) (total p.v4 p.v6)) (sym p.written)
      (written_table p.v4 p.v6 (head_text domain ttl ++ record_lines domain label 0 lists)
      (front_other domain label ttl lists p.words.domain_form p.words.label_form p.lasting (omega (arith, length_pieces list 0 p.ends, p.fits.cut.few)) (pieces_prefixes list 0 p.ends prefixes))
      small.four small.six small.whole)
    where
      small : AreAllSmall p.v4 p.v6
      small = all_small p.v4 p.v6 domain label size (others_at zones domain) p.ends p.narrow p.fits

  certified : IsCertified zones limits domain size bytes (record { terms = total p.v4 p.v6; records = length p.ends })
  certified =
      let same : IsSameList zones limits domain (all_terms lists) = subst (IsSameList zones limits domain) (sym same_terms) (chosen_same zones limits domain p.v4 p.v6 p.verdicts) in
      let its_table : HasTable bytes (all_terms lists) (length (all_terms lists)) = subst (λ l. HasTable bytes l (length l)) (sym same_terms) (subst (HasTable bytes list) in_total table) in
      record {
        chain = chain;
        terms = in_total ∙ ap length (sym same_terms);
        records = sym counted;
        prefixes = chain_valid records lists chain.form.linked;
        lendable = read_lendable (name_at domain) bytes records read;
        lent = lent_alone domain label records lists chain.form;
        same = same;
        alone = gives_alone domain label records lists p.words.domain_form chain.form;
        table = its_table;
        shortest = λ other has given. no_shorter zones limits domain bytes (all_terms lists) other (length (all_terms lists)) its_table same has given;
        fit = written_fit domain label (name_at domain) size (others_at zones domain) list 0 0 p.ends p.fits.fit;
        fewest = λ ends cut. omega (arith, counted, p.fewest ends (subst (λ l. IsFittingCut domain label size (others_at zones domain) l ends) same_terms cut));
      }

pub published_is_certified : PublishedIsCertified
published_is_certified zones limits domain label ttl size bytes p = certified zones limits domain label ttl size bytes p

pub published_has_no_reason : PublishedHasNoReason
published_has_no_reason zones limits domain label ttl size bytes why p =
    no_reason_beside_yes zones limits domain size bytes (record { terms = total p.v4 p.v6; records = length p.ends }) why (certified zones limits domain label ttl size bytes p)
