-- Taking as many terms as fit needs the fewest records.
use Rattle.std.proofs.Common.{◌≡◌, ℕ, ◌+◌, ◌-◌, ◌<◌, ◌≤◌, true, false, inl, inr, List, [], ◌∷◌, ◌++◌, length, take, drop, refl, sym, ap, ◌∙◌, subst, arith, length-append, length-drop}
use Rattle.std.proofs.lemmas.Bool.{cases_lt}
use Rattle.spf_grammar.specs.declared.flat.FlatTerm.{FlatTerm}
use Rattle.record_pack.specs.Records.{piece, record_size, Fits, RiseTo, RecordsFit, IsFittingCut, TakeMost, HasFewest}
use Rattle.record_pack.proofs.Pieces.{octets, octets-take, piece-later, fits-less, fits-within, within-fits}

module _ (domain label : List ℕ) (size others : ℕ) (list : List FlatTerm) where
  -- record k fits with these terms, and a redirect behind them
  abbrev pub Leads : (k from to : ℕ) → Type 0
  Leads k from to = Fits domain label size others (piece list from to) k false

  -- record k fits with the rest of the list, as the last one
  abbrev pub Ends : (k from : ℕ) → Type 0
  Ends k from = Fits domain label size others (piece list from (length list)) k true

  -- record k does not fit with more terms
  abbrev pub NoMore : (k from to : ℕ) → Type 0
  NoMore k from to = (more : ℕ) → to < more → more ≤ length list → ¬ Leads k from more

  -- the records from record k on, up to a place, lead on and take as many terms as fit
  abbrev pub Led : (k from : ℕ) → (ends : List ℕ) → (to : ℕ) → Type 0
  Led k from [] to = from ≡ to
  Led k from (end ∷ ends) to = (from ≤ end) × (end ≤ length list) × Leads k from end × NoMore k from end × Led (k + 1) end ends to

  -- the rest of a cut of n records that fits: it begins at record k, no later than a place
  pub record GoesOn (k from n : ℕ) : Type 0 where
    pub begin : ℕ
    pub rest : List ℕ
    pub early : begin ≤ from
    pub rise : RiseTo begin (length list) rest
    pub fit : RecordsFit domain label size others list k begin rest
    pub count : k + length rest ≡ n
    pub some : 0 < length rest

  -- each cut that fits goes on from this place, or from one before it
  abbrev pub AllGoOn : (k from : ℕ) → Type 0
  AllGoOn k from = (other : List ℕ) → IsFittingCut domain label size others list other → GoesOn k from (length other)

  -- ---- the records so far
  pub led_push : (k from : ℕ) (ends : List ℕ) (to next at : ℕ) → Led k from ends to → at ≡ k + length ends → to ≤ next → next ≤ length list → Leads at to next → NoMore at to next
      → Led k from (ends ++ next ∷ []) next
  led_push k from [] to next at led is le within leads most =
      let same : at ≡ k = omega (arith, is) in (
        subst (λ (f : ℕ). f ≤ next) (sym led) le,
        within,
        subst (λ (f : ℕ). Leads k f next) (sym led) (subst (λ (i : ℕ). Leads i to next) same leads),
        subst (λ (f : ℕ). NoMore k f next) (sym led) (subst (λ (i : ℕ). NoMore i to next) same most),
        refl,
      )
  led_push k from (end ∷ ends) to next at led is le within leads most =
      (led.0, led.1, led.2, led.3, led_push (k + 1) end ends to next at led.4 (omega (arith, is)) le within leads most)

  pub led_rise : (k from : ℕ) (ends : List ℕ) (to : ℕ) → Led k from ends to → to ≤ length list → RiseTo from (length list) (ends ++ length list ∷ [])
  led_rise k from [] to led within = (subst (λ (f : ℕ). f ≤ length list) (sym led) within, omega arith, refl)
  led_rise k from (end ∷ ends) to led within = (led.0, led.1, led_rise (k + 1) end ends to led.4 within)

  fit_cons : (k from end : ℕ) (ends : List ℕ) (close : ℕ) → Leads k from end → RecordsFit domain label size others list (k + 1) end (ends ++ close ∷ [])
      → RecordsFit domain label size others list k from (end ∷ (ends ++ close ∷ []))
  fit_cons k from end [] close leads behind = (leads, behind)
  fit_cons k from end (next ∷ ends) close leads behind = (leads, behind)

  pub led_fit : (k from : ℕ) (ends : List ℕ) (to at : ℕ) → Led k from ends to → at ≡ k + length ends → Ends at to → RecordsFit domain label size others list k from (ends ++ length list ∷ [])
  led_fit k from [] to at led is close =
      let same : at ≡ k = omega (arith, is) in
      subst (λ (f : ℕ). Ends k f) (sym led) (subst (λ (i : ℕ). Ends i to) same close)
  led_fit k from (end ∷ ends) to at led is close =
      fit_cons k from end ends (length list) led.2 (led_fit (k + 1) end ends to at led.4 (omega (arith, is)) close)

  most_cons : (k from end : ℕ) (ends : List ℕ) (close : ℕ) → NoMore k from end → TakeMost domain label size others list (k + 1) end (ends ++ close ∷ [])
      → TakeMost domain label size others list k from (end ∷ (ends ++ close ∷ []))
  most_cons k from end [] close most behind = (most, behind)
  most_cons k from end (next ∷ ends) close most behind = (most, behind)

  pub led_most : (k from : ℕ) (ends : List ℕ) (to close : ℕ) → Led k from ends to → TakeMost domain label size others list k from (ends ++ close ∷ [])
  led_most k from [] to close led = tt
  led_most k from (end ∷ ends) to close led = most_cons k from end ends close led.3 (led_most (k + 1) end ends to close led.4)

  -- ---- every cut that fits
  pub all_begin : AllGoOn 0 0
  all_begin other fitting = record {
    begin = 0;
    rest = other;
    early = omega arith;
    rise = fitting.cut.rise;
    fit = fitting.fit;
    count = omega arith;
    some = let h : 1 ≤ length other = fitting.cut.some in omega (arith, h);
  }

  leads_later : (k from later to : ℕ) → from ≤ later → later ≤ to → Leads k from to → Leads k later to
  leads_later k from later to begins ends = fits-less domain label size others (piece list later to) (piece list from to) k false (piece-later list from later to begins ends)

  ends_later : (k from later : ℕ) → from ≤ later → later ≤ length list → Ends k from → Ends k later
  ends_later k from later begins ends =
      fits-less domain label size others (piece list later (length list)) (piece list from (length list)) k true (piece-later list from later (length list) begins ends)

  -- the last record of a cut is no last record here
  not_last : (k from begin end : ℕ) → begin ≤ from → from ≤ length list → end ≡ length list → Fits domain label size others (piece list begin end) k true → ¬ Ends k from → ⊥
  not_last k from begin end early within is fit open_here =
      open_here (ends_later k begin from early within (subst (λ (e : ℕ). Fits domain label size others (piece list begin e) k true) is fit))

  goes_on : (k from to n begin : ℕ) (rest : List ℕ) → begin ≤ from → from ≤ to → from ≤ length list → RiseTo begin (length list) rest → RecordsFit domain label size others list k begin rest
      → k + length rest ≡ n → 0 < length rest → ¬ Ends k from → NoMore k from to → GoesOn (k + 1) to n
  goes_on k from to n begin [] early le within rise fit count some open_here most = absurd (omega (arith, some))
  goes_on k from to n begin (end ∷ []) early le within rise fit count some open_here most = absurd (not_last k from begin end early within rise.2 fit open_here)
  goes_on k from to n begin (end ∷ next ∷ rest) early le within rise fit count some open_here most = record {
    begin = end;
    rest = next ∷ rest;
    early = elim (cases_lt to end) [
      | inl beyond ↦ absurd (most end beyond rise.1 (leads_later k begin from end early (omega (arith, le, beyond)) fit.0))
      | inr before ↦ before
    ];
    rise = rise.2;
    fit = fit.1;
    count = omega (arith, count);
    some = omega arith;
  }

  -- the next record takes as many terms as fit
  pub all_go_on : (k from to : ℕ) → from ≤ to → from ≤ length list → AllGoOn k from → ¬ Ends k from → NoMore k from to → AllGoOn (k + 1) to
  all_go_on k from to le within behind open_here most other fitting =
      let cut = behind other fitting in
      goes_on k from to (length other) cut.begin cut.rest cut.early le within cut.rise cut.fit cut.count cut.some open_here most

  stuck : (k from begin : ℕ) (rest : List ℕ) → begin ≤ from → from ≤ length list → RiseTo begin (length list) rest → RecordsFit domain label size others list k begin rest
      → 0 < length rest → ¬ Ends k from → size ≤ record_size domain label others [] k false → ⊥
  stuck k from begin [] early within rise fit some open_here full = omega (arith, some)
  stuck k from begin (end ∷ []) early within rise fit some open_here full = not_last k from begin end early within rise.2 fit open_here
  stuck k from begin (end ∷ next ∷ rest) early within rise fit some open_here full =
      let bare : record_size domain label others [] k false < size = fits-less domain label size others [] (piece list begin end) k false (omega arith) fit.0 in
      omega (arith, bare, full)

  -- a record that fits with no term leads no cut on
  pub none_fits : (k from : ℕ) → from ≤ length list → AllGoOn k from → ¬ Ends k from → size ≤ record_size domain label others [] k false
      → (other : List ℕ) → ¬ IsFittingCut domain label size others list other
  none_fits k from within behind open_here full other fitting =
      let cut = behind other fitting in
      stuck k from cut.begin cut.rest cut.early within cut.rise cut.fit cut.some open_here full

  pub none_goes_on : (k from : ℕ) → 11 ≤ k → AllGoOn k from → (other : List ℕ) → ¬ IsFittingCut domain label size others list other
  none_goes_on k from all behind other fitting =
      let cut = behind other fitting in
      let few : length other ≤ 11 = fitting.cut.few in
      omega (arith, all, few, cut.count, cut.some)

  pub fewest : (k from : ℕ) (ends : List ℕ) (close : ℕ) → length ends ≡ k → AllGoOn k from → HasFewest domain label size others list (ends ++ close ∷ [])
  fewest k from ends close is behind other fitting =
      let cut = behind other fitting in
      omega (arith, is, cut.count, cut.some, length-append ends (close ∷ []))

  pub fitting_cut : (from : ℕ) (ends : List ℕ) (k : ℕ) → Led 0 0 ends from → length ends ≡ k → k ≤ 10 → from ≤ length list → Ends k from → IsFittingCut domain label size others list (ends ++ length list ∷ [])
  fitting_cut from ends k led is few within close = record {
    cut = record {
      some = omega (arith, length-append ends (length list ∷ []));
      few = omega (arith, is, few, length-append ends (length list ∷ []));
      rise = led_rise 0 0 ends from led within;
    };
    fit = led_fit 0 0 ends from k led (omega (arith, is)) close;
  }

  -- ---- as many terms as the room takes
  pub taken_leads : (k from n room : ℕ) (terms : List FlatTerm) → terms ≡ drop from list → record_size domain label others [] k false + 1 + room ≡ size → octets (take n terms) ≤ room → Leads k from (from + n)
  taken_leads k from n room terms is fixed enough =
      let same : piece list from (from + n) ≡ take n terms =
      ap (λ (m : ℕ). take m (drop from list)) (let e : from + n - from ≡ n = omega arith in e) ∙ ap (λ (ts : List FlatTerm). take n ts) (sym is) in
      fits-within domain label size others (piece list from (from + n)) k false room fixed (subst (λ (ts : List FlatTerm). octets ts ≤ room) (sym same) enough)

  pub taken_most : (k from n room : ℕ) (terms : List FlatTerm) → terms ≡ drop from list → record_size domain label others [] k false + 1 + room ≡ size
      → (n < length terms → room < octets (take (n + 1) terms)) → NoMore k from (from + n)
  taken_most k from n room terms is fixed most more beyond within leads =
      let long : n < length terms = subst (λ (ts : List FlatTerm). n < length ts) (sym is) (omega (arith, length-drop from list, beyond, within)) in
      let over : room < octets (take (n + 1) (drop from list)) = subst (λ (ts : List FlatTerm). room < octets (take (n + 1) ts)) is (most long) in
      let grows : octets (take (n + 1) (drop from list)) ≤ octets (piece list from more) = octets-take (n + 1) (more - from) (drop from list) (omega (arith, beyond)) in
      let fits : octets (piece list from more) ≤ room = within-fits domain label size others (piece list from more) k false room fixed leads in
      clash _ _ _ over grows fits
    where
      clash : (a b r : ℕ) → r < a → a ≤ b → b ≤ r → ⊥
      clash a b r x y z = omega (arith, x, y, z)
