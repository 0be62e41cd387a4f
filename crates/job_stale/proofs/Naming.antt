-- The first line that differs, at its place.
use Rattle.std.proofs.Common.{◌≡◌, ℕ, ◌+◌, ◌-◌, ◌<◌, List, ◌∷◌, ◌++◌, length, get_or, sym, ap, ◌∙◌, arith, length-append}
use Rattle.std.proofs.Math.Seq.{get_or-append_seam}
use Rattle.zone_answers.specs.Zone.{Zone}
use Rattle.kept_lists.specs.declared.kept.KeptLine.{KeptLine}
use Rattle.deps_watch.specs.Freshness.{IsFirstStale}

-- its place is that of a line
pub within : (zones : List Zone) (lines : List KeptLine) (place : ℕ) → IsFirstStale zones lines place → place - 2 < length lines
within zones lines place x = omega (arith, x.at, ap (λ (ls : List KeptLine). length ls) x.whole, length-append x.front (x.line ∷ x.back))

-- and there it stands
pub named : (zones : List Zone) (lines : List KeptLine) (place : ℕ) (d : KeptLine) (x : IsFirstStale zones lines place) → get_or lines (place - 2) d ≡ x.line
named zones lines place d x =
    let at : place - 2 ≡ length x.front = omega (arith, x.at) in
    ap (λ (n : ℕ). get_or lines n d) at ∙ (ap (λ (ls : List KeptLine). get_or ls (length x.front) d) x.whole ∙ get_or-append_seam x.front x.line x.back d)
