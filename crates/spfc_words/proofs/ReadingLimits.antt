-- The limits of reading.
use Rattle.std.proofs.Common.{◌≡◌, ℕ, ◌≤◌, List, codes, arith, lit≤}
use Rattle.spf_model.specs.Result.{AreModest}
use Rattle.spf_model.specs.declared.outcome.Limits.{Limits}
use Rattle.spfc_words.specs.Rows.{OptionRow}
use Rattle.spfc_words.specs.Limits.{AreLimits}
use Rattle.spfc_words.proofs.Settings.{one_number_is, number_most}

-- the words in front say one thing of the limits
pub one_limits : (table : List OptionRow) (words : List (List ℕ)) (a b : Limits) → AreLimits table words a → AreLimits table words b → a ≡ b
one_limits table words a b x y =
    let l : a.lookups ≡ b.lookups = one_number_is table words (codes "--lookups") 10 20 10 a.lookups b.lookups (lit≤ tt) x.lookups y.lookups in
    let v : a.voids ≡ b.voids = one_number_is table words (codes "--voids") 2 20 2 a.voids b.voids (lit≤ tt) x.voids y.voids in
    let e : a.exchanges ≡ b.exchanges =
    one_number_is table words (codes "--exchanges") 10 100 10 a.exchanges b.exchanges (lit≤ tt) x.exchanges y.exchanges in
    λ i. record { lookups = l i; voids = v i; exchanges = e i }

-- limits of words are modest
pub limits_modest : (table : List OptionRow) (words : List (List ℕ)) (limits : Limits) → AreLimits table words limits → AreModest limits
limits_modest table words limits are =
    let l : limits.lookups ≤ 20 = number_most table words (codes "--lookups") 10 20 10 limits.lookups (lit≤ tt) are.lookups in
    let v : limits.voids ≤ 20 = number_most table words (codes "--voids") 2 20 2 limits.voids (lit≤ tt) are.voids in
    let e : limits.exchanges ≤ 100 = number_most table words (codes "--exchanges") 10 100 10 limits.exchanges (lit≤ tt) are.exchanges in
    record { lookups = omega (arith, l); voids = omega (arith, v); exchanges = omega (arith, e) }
