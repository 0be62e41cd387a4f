-- For the same settings, zones and verdicts one thing is due at most.
use Rattle.std.proofs.Common.{◌≡◌, ◌<◌, ◌+◌, ℕ, Bool, IsTrue, IsFalse, List, [], ◌∷◌, length, Result, Ok, Err, refl, sym, ap, ap₂, ◌∙◌, subst, arith}
use Rattle.zone_answers.specs.Names.{other_text_of}
use Rattle.zone_answers.specs.Zone.{Zone}
use Rattle.spf_grammar.specs.declared.flat.FlatTerm.{FlatTerm}
use Rattle.fewest_terms.specs.Chosen.{chosen_list}
use Rattle.fewest_terms.specs.Row.{NeedRow}
use Rattle.fewest_terms.specs.Tables.{need_rows}
use Rattle.fewest_terms.specs.Totals.{total}
use Rattle.fewest_terms.proofs.Whole.{below_all}
use Rattle.record_pack.specs.Records.{RiseTo, RecordsFit, TakeMost}
use Rattle.loading.specs.declared.refusal.Refusal.{Refusal}
use Rattle.loading.specs.declared.refusal.Refusal.TheVariants.{Taken}
use Rattle.publishing.specs.Published.{IsChosenCut, IsFirstTaken, AreFree, fragment_of, name_text, OnePublication}
use Rattle.publishing.specs.Published.{ListDue, too_big, taken, written, alias, packed}
use Rattle.publishing.specs.declared.settings.ChainSettings.{ChainSettings}
use Rattle.policy_verdicts.proofs.SameVerdicts.{Agree, rows_same, total_same, chosen_list_same}

-- ---- one cut is chosen
one_rest : (want : ChainSettings) (others : ℕ) (list : List FlatTerm) (k from : ℕ) (a b : List ℕ) → length a ≡ length b → RiseTo from (length list) a → RiseTo from (length list) b →
    RecordsFit want.domain.text want.label want.size others list k from a → RecordsFit want.domain.text want.label want.size others list k from b →
    TakeMost want.domain.text want.label want.size others list k from a → TakeMost want.domain.text want.label want.size others list k from b → a ≡ b
one_rest want others list k from [] [] same ra rb fa fb ma mb = refl
one_rest want others list k from [] (y ∷ b) same ra rb fa fb ma mb = absurd (omega (arith, same))
one_rest want others list k from (x ∷ a) [] same ra rb fa fb ma mb = absurd (omega (arith, same))
one_rest want others list k from (x ∷ []) (y ∷ []) same ra rb fa fb ma mb = ap (λ (n : ℕ). n ∷ []) (ra.2 ∙ sym rb.2)
one_rest want others list k from (x ∷ []) (y ∷ q ∷ b) same ra rb fa fb ma mb = absurd (omega (arith, same))
one_rest want others list k from (x ∷ p ∷ a) (y ∷ []) same ra rb fa fb ma mb = absurd (omega (arith, same))
one_rest want others list k from (x ∷ p ∷ a) (y ∷ q ∷ b) same ra rb fa fb ma mb =
    let not_below : x < y → ⊥ = λ lt. ma.0 y lt rb.1 fb.0 in
    let not_above : y < x → ⊥ = λ lt. mb.0 x lt ra.1 fa.0 in
    let first : x ≡ y = omega arith in
    ap₂ (λ (n : ℕ) (ns : List ℕ). n ∷ ns) first
    (one_rest want others list (k + 1) y (p ∷ a) (q ∷ b) (omega (arith, same))
    (subst (λ (n : ℕ). RiseTo n (length list) (p ∷ a)) first ra.2) rb.2
    (subst (λ (n : ℕ). RecordsFit want.domain.text want.label want.size others list (k + 1) n (p ∷ a)) first fa.1) fb.1
    (subst (λ (n : ℕ). TakeMost want.domain.text want.label want.size others list (k + 1) n (p ∷ a)) first ma.1) mb.1)

one_cut : (want : ChainSettings) (others : ℕ) (list : List FlatTerm) (a b : List ℕ) → IsChosenCut want others list a → IsChosenCut want others list b → a ≡ b
one_cut want others list a b x y =
    let same : length a ≡ length b = omega (arith, x.fewest b y.fits, y.fewest a x.fits) in
    one_rest want others list 0 0 a b same x.fits.cut.rise y.fits.cut.rise x.fits.fit y.fits.fit x.most y.most

-- ---- one name is the first that is taken
not_both : (b : Bool) → IsFalse b → IsTrue b → ⊥
not_both b f t = cc

one_first : (want : ChainSettings) (zones : List Zone) (records j k : ℕ) → IsFirstTaken want zones records j → IsFirstTaken want zones records k → j ≡ k
one_first want zones records j k x y =
    let not_below : j < k → ⊥ = λ lt. not_both _ (y.none_before j x.behind lt) x.taken in
    let not_above : k < j → ⊥ = λ lt. not_both _ (x.none_before k y.behind lt) y.taken in
    omega arith

none_first : (want : ChainSettings) (zones : List Zone) (records k : ℕ) → AreFree want zones records → IsFirstTaken want zones records k → ⊥
none_first want zones records k free first = not_both _ (free k first.behind first.within) first.taken

-- ---- one thing is due for a list
one_of_list : (want : ChainSettings) (zones : List Zone) (list : List FlatTerm) (rows4 rows6 : List NeedRow) (sum : ℕ) (x y : Result (List ℕ) Refusal)
    → ListDue want zones list rows4 rows6 sum x → ListDue want zones list rows4 rows6 sum y → x ≡ y
one_of_list want zones list rows4 rows6 sum x y (too_big none is) (too_big none' is') = is ∙ sym is'
one_of_list want zones list rows4 rows6 sum x y (too_big none is) (taken ends k chosen first is') = absurd (none ends chosen.fits)
one_of_list want zones list rows4 rows6 sum x y (too_big none is) (written ends chosen free is') = absurd (none ends chosen.fits)
one_of_list want zones list rows4 rows6 sum x y (taken ends k chosen first is) (too_big none is') = absurd (none ends chosen.fits)
one_of_list want zones list rows4 rows6 sum x y (written ends chosen free is) (too_big none is') = absurd (none ends chosen.fits)
one_of_list want zones list rows4 rows6 sum x y (taken ends j chosen first is) (taken ends' k chosen' first' is') =
    let cut : ends' ≡ ends = one_cut want (other_text_of zones want.domain.name) list ends' ends chosen' chosen in
    let number : j ≡ k = one_first want zones (length ends) j k first (subst (λ (es : List ℕ). IsFirstTaken want zones (length es) k) cut first') in
    is ∙ (ap (λ (n : ℕ). Err (Taken n (name_text want n))) number ∙ sym is')
one_of_list want zones list rows4 rows6 sum x y (taken ends k chosen first is) (written ends' chosen' free is') =
    let cut : ends' ≡ ends = one_cut want (other_text_of zones want.domain.name) list ends' ends chosen' chosen in
    absurd (none_first want zones (length ends) k (subst (λ (es : List ℕ). AreFree want zones (length es)) cut free) first)
one_of_list want zones list rows4 rows6 sum x y (written ends chosen free is) (taken ends' k chosen' first is') =
    let cut : ends' ≡ ends = one_cut want (other_text_of zones want.domain.name) list ends' ends chosen' chosen in
    absurd (none_first want zones (length ends) k free (subst (λ (es : List ℕ). IsFirstTaken want zones (length es) k) cut first))
one_of_list want zones list rows4 rows6 sum x y (written ends chosen free is) (written ends' chosen' free' is') =
    is ∙ (ap (λ (es : List ℕ). Ok (fragment_of want list es rows4 rows6 sum)) (one_cut want (other_text_of zones want.domain.name) list ends ends' chosen chosen') ∙ sym is')

-- ---- and for verdicts
moved_due : (want : ChainSettings) (zones : List Zone) (l m : List FlatTerm) (a b c d : List NeedRow) (s t : ℕ) (x : Result (List ℕ) Refusal) → l ≡ m → a ≡ b → c ≡ d → s ≡ t
    → ListDue want zones l a c s x → ListDue want zones m b d t x
moved_due want zones l m a b c d s t x lists four six sums due =
    subst (λ (q : ℕ). ListDue want zones m b d q x) sums
    (subst (λ (q : List NeedRow). ListDue want zones m b q s x) six
    (subst (λ (q : List NeedRow). ListDue want zones m q c s x) four
    (subst (λ (q : List FlatTerm). ListDue want zones q a c s x) lists due)))

pub one_publication : OnePublication
one_publication want zones v4 v6 w4 w6 x y a b (alias own is) (alias own' is') = is ∙ sym is'
one_publication want zones v4 v6 w4 w6 x y a b (alias own is) (packed none due) = absurd (not_both _ none own)
one_publication want zones v4 v6 w4 w6 x y a b (packed none due) (alias own is) = absurd (not_both _ none own)
one_publication want zones v4 v6 w4 w6 x y a b (packed none due) (packed none' due') =
    let four : Agree w4 v4 32 0 = record { agree = λ n e. sym (a n (below_all 32 n e)) } in
    let six : Agree w6 v6 128 0 = record { agree = λ n e. sym (b n (below_all 128 n e)) } in
    one_of_list want zones (chosen_list v4 v6) (need_rows 32 v4 32 0) (need_rows 128 v6 128 0) (total v4 v6) x y due
    (moved_due want zones _ _ _ _ _ _ _ _ y (chosen_list_same w4 v4 w6 v6 four six) (rows_same 32 w4 v4 32 0 four) (rows_same 128 w6 v6 128 0 six) (total_same w4 v4 w6 v6 four six) due')
