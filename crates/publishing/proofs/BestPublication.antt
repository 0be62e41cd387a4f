-- A fragment that is due is best.
use Rattle.std.proofs.Common.{◌≡◌, ℕ, zero, suc, ◌+◌, ◌≤◌, IsFalse, List, length, Result, Ok, Err, refl, sym, subst, arith}
use Rattle.zone_answers.specs.Names.{has_own_alias, is_taken, other_text_of}
use Rattle.zone_answers.specs.Zone.{Zone}
use Rattle.spf_grammar.specs.declared.verdict.Verdict.{Verdict}
use Rattle.fewest_terms.specs.Chosen.{chosen_list}
use Rattle.fewest_terms.specs.Tables.{need_rows, IsGoodTable}
use Rattle.fewest_terms.specs.Totals.{total}
use Rattle.fewest_terms.proofs.AnswerLemmas.{list-same, list-shortest, list-counted, list-prefixes}
use Rattle.fewest_terms.proofs.TableLemmas.{need_rows-good}
use Rattle.zone_writer.specs.Written.{record_owner}
use Rattle.published_records.specs.Published.{AreNamesFree, Stands}
use Rattle.published_records.proofs.Publishing.{fragment_stands}
use Rattle.published_records.proofs.RecordChains.{next_named}
use Rattle.loading.specs.declared.refusal.Refusal.{Refusal}
use Rattle.publishing.specs.Published.{AreFree, is_name_taken, IsBestPublication, DueIsBest}
use Rattle.publishing.specs.Published.{ListDue, too_big, taken, written, alias, packed}
use Rattle.publishing.specs.Settings.{AreLegal}
use Rattle.publishing.specs.declared.settings.ChainSettings.{ChainSettings}

pub ok_not_err : {bytes : List ℕ} {why : Refusal} → Ok bytes ≡ Err why → ⊥
ok_not_err e = cc

pub ok_once : (a b : List ℕ) (r : Result (List ℕ) Refusal) → r ≡ Ok a → r ≡ Ok b → a ≡ b
ok_once a b r e f = cc

-- the names behind the first are free
free_owner : (want : ChainSettings) (zones : List Zone) (records : ℕ) → AreLegal want → records ≤ 11 → AreFree want zones records
    → AreNamesFree zones want.domain.name want.label records
free_owner want zones records legal few free zero behind within = absurd (omega (arith, behind))
free_owner want zones records legal few free (suc k) behind within =
    subst (λ n. IsFalse (is_taken zones (record_owner want.domain.name want.label n))) one
    (subst (λ found. IsFalse (is_name_taken zones found)) (next_named want.domain.text want.label want.domain.name k legal.chain legal.named (omega (arith, few, within)))
    (free (k + 1) (omega arith) (omega (arith, within))))
  where
    one : k + 1 ≡ suc k
    one = omega arith

rows_good : (v4 v6 : ℕ → Verdict) → IsGoodTable v4 v6 (need_rows 32 v4 32 0) (need_rows 128 v6 128 0) (total v4 v6)
unfolding total
rows_good v4 v6 = need_rows-good v4 v6

list_best : (want : ChainSettings) (zones : List Zone) (v4 v6 : ℕ → Verdict) (bytes : List ℕ) → AreLegal want → IsFalse (has_own_alias zones want.domain.name)
    → ListDue want zones (chosen_list v4 v6) (need_rows 32 v4 32 0) (need_rows 128 v6 128 0) (total v4 v6) (Ok bytes) → IsBestPublication want zones v4 v6 bytes
list_best want zones v4 v6 bytes legal no_alias (too_big none is) = absurd (ok_not_err is)
list_best want zones v4 v6 bytes legal no_alias (taken ends k chosen first is) = absurd (ok_not_err is)
list_best want zones v4 v6 bytes legal no_alias (written ends chosen free is) =
    let prefixes = list-prefixes v4 v6 (chosen_list v4 v6) refl in
    record {
      list = chosen_list v4 v6;
      ends = ends;
      rows4 = need_rows 32 v4 32 0;
      rows6 = need_rows 128 v6 128 0;
      sum = total v4 v6;
      written = ok_once bytes _ _ refl is;
      fits = chosen.fits;
      fewest = chosen.fewest;
      free = free;
      prefixes = prefixes;
      same = list-same v4 v6 (chosen_list v4 v6) refl;
      shortest = λ other same. list-shortest v4 v6 (chosen_list v4 v6) other refl same;
      table = rows_good v4 v6;
      counted = list-counted v4 v6 (chosen_list v4 v6) (total v4 v6) refl refl;
      stands = λ holds.
          subst (λ b. Stands want.domain.text want.label zones want.domain.name (chosen_list v4 v6) ends b) (sym (ok_once bytes _ _ refl is))
          (fragment_stands zones want.domain.text want.label want.ttl want.size (other_text_of zones want.domain.name) (chosen_list v4 v6) ends
          (need_rows 32 v4 32 0) (need_rows 128 v6 128 0) (total v4 v6) want.domain.name legal.chain legal.named legal.lasting legal.small prefixes chosen.fits
          holds no_alias (free_owner want zones (length ends) legal chosen.fits.cut.few free));
    }

pub due_is_best : DueIsBest
due_is_best want zones v4 v6 bytes legal (alias own is) = absurd (ok_not_err is)
due_is_best want zones v4 v6 bytes legal (packed none due) = list_best want zones v4 v6 bytes legal none due
