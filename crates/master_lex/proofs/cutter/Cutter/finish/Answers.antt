use Rattle.std.proofs.Common.{ℕ, ◌++◌, List, Option, subst, sym, ap, ◌∙◌}
use Rattle.std.specs.Prelude.{option_to_list, IfSome}
use Rattle.master_lex.specs.Steps.{given_of}
use Rattle.master_lex.specs.declared.cutter.Cutter.TheInside.{Inside}
use Rattle.master_lex.specs.declared.entry.Entry.{Entry}
use Rattle.master_lex.specs.Pieces.{Kept, StandsFor, AreAll, EndsWith}
use Rattle.master_lex.proofs.Pieces.{ends_whole, ends_broken, ends_entry, none_broken}
use Rattle.master_lex.proofs.cutter.Cutter.finish.Goals as goal

abbrev kept_of : Inside → Kept
kept_of a = record { line = a.line; here = a.here; lead = a.lead; depth = a.depth; tokens = a.tokens; part = a.part }

all_whole : (c : goal.After-entry_of) (first : ℕ) (bytes : List ℕ) (given : List Entry) → StandsFor first c.args.self bytes given → AreAll first bytes (given ++ option_to_list c.entry_of.result)
all_whole c first bytes given h =
    let here = subst (λ (k : Kept). StandsFor first k bytes given) (sym c.self.view_is) h in
    subst (λ (o : Option Entry). AreAll first bytes (given ++ option_to_list o)) (sym c.entry_of.ensures)
    (ends_whole first (kept_of c.self.inside) bytes given here c.in-Ok.tokens c.unwrap_or.result (sym c.in-Ok.is ∙ c.in_ok-tokens.ensures) c.unwrap_or.ensures)

pub returns-in-Ok-clause-last : goal.returns-in-Ok-clause-last
returns-in-Ok-clause-last c = λ first bytes given h. all_whole c first bytes given h

pub returns-in-Ok-clause-not_bad : goal.returns-in-Ok-clause-not_bad
returns-in-Ok-clause-not_bad c = λ first bytes given h. none_broken first bytes _ (all_whole c first bytes given h)

pub returns-in-Ok-clause-entry : goal.returns-in-Ok-clause-entry
returns-in-Ok-clause-entry c = λ first bytes given h.
    let here = subst (λ (k : Kept). StandsFor first k bytes given) (sym c.self.view_is) h in
    subst (λ (o : Option Entry). IfSome o (λ entry. EndsWith first bytes given entry c.args.self.here)) (sym c.entry_of.ensures)
    (subst (λ (n : ℕ). IfSome (given_of (record { line = c.self.inside.line; blank = c.unwrap_or.result; tokens = c.in-Ok.tokens })) (λ entry. EndsWith first bytes given entry n)) (ap (λ (k : Kept). k.here) c.self.view_is)
    (ends_entry first (kept_of c.self.inside) bytes given here c.in-Ok.tokens c.unwrap_or.result (sym c.in-Ok.is ∙ c.in_ok-tokens.ensures) c.unwrap_or.ensures))

pub returns-in-Err-clause-bad : goal.returns-in-Err-clause-bad
returns-in-Err-clause-bad c = λ first bytes given h.
    let here = subst (λ (k : Kept). StandsFor first k bytes given) (sym c.self.view_is) h in
    ends_broken first (kept_of c.self.inside) bytes given here c.in-Err.kind (sym c.in-Err.is ∙ c.in_ok-tokens.ensures)
