-- The parts that terms have in common: where they hand something on, and where they end the run.
use Rattle.std.proofs.Common.{◌≡◌, ℕ, ◌+◌, ◌≤◌, Bool, true, false, List, refl, sym, subst, arith, Option, Result, Ok, Err}
use Rattle.std.proofs.lemmas.Bool.{true≢false, lt-leb}
use Rattle.std.specs.Prelude.{nat_le, IsOk, IsSome}
use Rattle.dns_name.specs.declared.fault.NameFault.{NameFault}
use Rattle.spf_macros.specs.declared.piece.Piece.{Piece}
use Rattle.addr_bits.specs.declared.address.Address.{Address}
use Rattle.spf_grammar.specs.declared.policy.Mechanism.TheVariants.{Ptr}
use Rattle.spf_model.specs.declared.outcome.Cause.TheVariants as cause
use Rattle.spf_model.specs.declared.outcome.Counts.{Counts}
use Rattle.spf_model.specs.declared.outcome.Halt.{Halt}
use Rattle.spf_model.specs.declared.outcome.Halt.TheVariants.{Ended, Memory}
use Rattle.spf_model.specs.declared.outcome.Outcome.{Outcome}
use Rattle.spf_model.specs.declared.outcome.Outcome.TheVariants.{Perm, Unsettled}
use Rattle.spf_model.specs.Run.{Run, Ends, Answering}
use Rattle.spf_model.specs.Judging.{Site, Sub, Labels, judge, at, go_if, counted, void_counted, legal}
use Rattle.spf_model.specs.Leads.{EndsSo, LeadsTo, HandsOn, Halts}

-- a test that fails ends the run
pub if_ends : (zones : Answering) (test : Bool) (o : Outcome) (c : Counts) (go : Counts → Run) → test ≡ false → EndsSo zones (go_if test o c go) o
if_ends zones true o c go e = absurd (true≢false e)
if_ends zones false o c go e = (c, (refl, refl))

-- the count is full
pub counted_full : (zones : Answering) (site : Site) (t : ℕ) (c : Counts) (halt : Halt) → halt ≡ Ended (Perm cause.Lookups (at site t))
    → site.limits.lookups ≤ c.lookups → Halts zones (counted site t c) halt
counted_full zones site t c halt e full =
    subst (λ h. Halts zones (counted site t c) h) (sym e)
    (tt, λ go. if_ends zones (nat_le (c.lookups + 1) site.limits.lookups) (Perm cause.Lookups (at site t)) _ go (lt-leb (c.lookups + 1) site.limits.lookups (omega (arith, full))))

-- the count of voids is full
pub void_full : (zones : Answering) (site : Site) (t : ℕ) (c : Counts) (halt : Halt) → halt ≡ Ended (Perm cause.Voids (at site t))
    → site.limits.voids ≤ c.voids → Halts zones (void_counted site t true c) halt
void_full zones site t c halt e full =
    subst (λ h. Halts zones (void_counted site t true c) h) (sym e)
    (tt, λ go. if_ends zones (nat_le (c.voids + 1) site.limits.voids) (Perm cause.Voids (at site t)) _ go (lt-leb (c.voids + 1) site.limits.voids (omega (arith, full))))

-- a legal name is one
pub legal_some : (found : Result Labels NameFault) → IsOk found → IsSome (legal found)
legal_some (Ok name) is = refl
legal_some (Err fault) is = is

-- a part of a part ends what it is a part of
pub halts_through : {G H : Type 0} (zones : Answering) (whole : H → Run) (part : G → Run) (inner : H → G) (halt : Halt)
    → ((go : H) → LeadsTo zones (whole go) (part (inner go))) → Halts zones part halt → Halts zones whole halt
halts_through zones whole part inner (Ended o) leads halts = (halts.0, λ go. let e = halts.1 (inner go) in (e.0, leads go o e.0 e.1))
halts_through zones whole part inner Memory leads halts = tt

-- `ptr` counts, and is left open
pub ptr_halts : (zones : Answering) (site : Site) (a : Address) (sub : Sub) (t : ℕ) (spec : Option (List Piece)) (c d : Counts) (halt : Halt) → halt ≡ Ended (Unsettled cause.Reverse (at site t))
    → HandsOn zones (counted site t c) d → Halts zones (judge site a sub t (Ptr spec) c) halt
ptr_halts zones site a sub t spec c d halt e count =
    subst (λ h. Halts zones (judge site a sub t (Ptr spec) c) h) (sym e)
    (tt, λ go. (d, count (λ counts. Ends (Unsettled cause.Reverse (at site t)) counts) (Unsettled cause.Reverse (at site t)) d (refl, refl)))
