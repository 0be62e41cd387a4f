use Rattle.std.proofs.Common.{ℕ, ◌+◌, ◌<◌, ◌^◌, ◌++◌, ◌∷◌, [], List, Some, length, subst, sym, ap, ◌∙◌}
use Rattle.std.specs.Prelude.{option_to_list, unwrap_or}
use Rattle.master_lex.specs.declared.entry.Entry.{Entry}
use Rattle.master_lex.specs.declared.cutter.Cutter.TheInside.{Inside}
use Rattle.master_lex.specs.Pieces.{Kept, StandsFor}
use Rattle.master_lex.proofs.Pieces.{leaves, deep, none_decided, goes_on, closes_to, closes_entry}
use Rattle.master_lex.proofs.cutter.Cutter.step.Goals as goal

abbrev kept_of : Inside → Kept
kept_of a = record { line = a.line; here = a.here; lead = a.lead; depth = a.depth; tokens = a.tokens; part = a.part }

taken_on : (c : goal.In-Goes) (first : ℕ) (bytes : List ℕ) (given : List Entry) → StandsFor first c.args.self bytes given → first + length bytes < 2 ^ 64
    → StandsFor first (record { line = c.self.inside.line; here = c.line_behind-here.result; lead = Some c.unwrap_or-blank.result; depth = c.in-Goes.depth; tokens = c.in-Goes.tokens; part = c.in-Goes.part }) (bytes ++ c.args.byte ∷ []) (given ++ [])
taken_on c first bytes given h few =
    let here = subst (λ (k : Kept). StandsFor first k bytes given) (sym c.self.view_is) h in
    goes_on first (kept_of c.self.inside) bytes given c.args.byte c.line_behind-here.result c.unwrap_or-blank.result c.in-Goes.depth c.in-Goes.tokens c.in-Goes.part
    (leaves first (kept_of c.self.inside) bytes given here c.args.byte few _ (sym (c.in_ok-depth.ensures (deep first (kept_of c.self.inside) bytes given here c.args.byte few)) ∙ c.in-Goes.is))
    c.line_behind-here.ensures (c.unwrap_or-blank.ensures ∙ ap (unwrap_or c.self.inside.lead) c.is_blank.ensures)

pub returns-in-Goes-clause-taken : goal.returns-in-Goes-clause-taken
returns-in-Goes-clause-taken c = λ first bytes given h few. taken_on c first bytes given h few

pub returns-in-Goes-clause-not_bad : goal.returns-in-Goes-clause-not_bad
returns-in-Goes-clause-not_bad c = λ first bytes given h few. none_decided first _ (bytes ++ c.args.byte ∷ []) _ (taken_on c first bytes given h few)

closed_to : (c : goal.After-from_line) (first : ℕ) (bytes : List ℕ) (given : List Entry) → StandsFor first c.args.self bytes given → first + length bytes < 2 ^ 64
    → StandsFor first c.from_line.result (bytes ++ c.args.byte ∷ []) (given ++ option_to_list c.entry_of-entry.result)
closed_to c first bytes given h few =
    let here = subst (λ (k : Kept). StandsFor first k bytes given) (sym c.self.view_is) h in
    closes_to first (kept_of c.self.inside) bytes given c.args.byte c.line_behind-here.result c.unwrap_or-blank.result c.in-Closes.tokens c.from_line.result c.entry_of-entry.result
    (leaves first (kept_of c.self.inside) bytes given here c.args.byte few _ (sym (c.in_ok-depth.ensures (deep first (kept_of c.self.inside) bytes given here c.args.byte few)) ∙ c.in-Closes.is))
    c.line_behind-here.ensures (c.unwrap_or-blank.ensures ∙ ap (unwrap_or c.self.inside.lead) c.is_blank.ensures) c.from_line.ensures.fresh c.entry_of-entry.ensures

pub returns-in-Closes-clause-taken : goal.returns-in-Closes-clause-taken
returns-in-Closes-clause-taken c = λ first bytes given h few. closed_to c first bytes given h few

pub returns-in-Closes-clause-closed : goal.returns-in-Closes-clause-closed
returns-in-Closes-clause-closed c = λ first bytes given h few.
    let here = subst (λ (k : Kept). StandsFor first k bytes given) (sym c.self.view_is) h in
    closes_entry first (kept_of c.self.inside) bytes given c.args.byte c.line_behind-here.result c.unwrap_or-blank.result c.in-Closes.tokens c.from_line.result c.entry_of-entry.result
    (leaves first (kept_of c.self.inside) bytes given here c.args.byte few _ (sym (c.in_ok-depth.ensures (deep first (kept_of c.self.inside) bytes given here c.args.byte few)) ∙ c.in-Closes.is))
    c.line_behind-here.ensures (c.unwrap_or-blank.ensures ∙ ap (unwrap_or c.self.inside.lead) c.is_blank.ensures) c.from_line.ensures.fresh c.entry_of-entry.ensures

pub returns-in-Closes-clause-not_bad : goal.returns-in-Closes-clause-not_bad
returns-in-Closes-clause-not_bad c = λ first bytes given h few. none_decided first _ (bytes ++ c.args.byte ∷ []) _ (closed_to c first bytes given h few)

pub returns-in-Fails-clause-bad : goal.returns-in-Fails-clause-bad
returns-in-Fails-clause-bad c = λ first bytes given h few.
    let here = subst (λ (k : Kept). StandsFor first k bytes given) (sym c.self.view_is) h in
    leaves first (kept_of c.self.inside) bytes given here c.args.byte few _ (sym (c.in_ok-depth.ensures (deep first (kept_of c.self.inside) bytes given here c.args.byte few)) ∙ c.in-Fails.is)
