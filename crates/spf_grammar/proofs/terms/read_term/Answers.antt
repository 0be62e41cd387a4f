use Rattle.std.proofs.Common.{Option, length, sym, ap}
use Rattle.std.proofs.lemmas.Bool.{eqb-true, eqb-false}
use Rattle.std.proofs.lemmas.List.{nil_from_length}
use Rattle.std.proofs.lemmas.Result.{IfOk-weaker}
use Rattle.spf_macros.specs.Reading.{Reads}
use Rattle.spf_grammar.specs.declared.policy.Term.{Term}
use Rattle.spf_grammar.specs.Grammar.{SpellsTerm}
use Rattle.spf_grammar.specs.Reading.{SpellsDirective, SpellsModifier}
use Rattle.spf_grammar.proofs.TermCuts.{Cut, is_marked, directive_read, unmarked_read, marked_refused}
use Rattle.spf_grammar.proofs.terms.read_term.Goals as goal

pub read_directive-requires : goal.read_directive-requires
read_directive-requires c = is_marked c.args.word.now c.split_mark.result.0.now c.split_mark.result.1.now c.split_mark.ensures

pub returns-in_default : goal.returns-in_default
returns-in_default c =
    let cut : Cut c.args.word.now c.split_mark.result.0.now c.split_name.result.0.now c.split_name.result.1.now = record { behind_mark = c.split_mark.result.1.now; marked = c.split_mark.ensures; named = c.split_name.ensures } in
    IfOk-weaker c.read_directive.result (Reads (SpellsDirective c.split_mark.result.0.now c.split_name.result.0.now) c.split_name.result.1.now) (Reads SpellsTerm c.args.word.now)
    (λ (o : Option Term). directive_read c.args.word.now c.split_mark.result.0.now c.split_name.result.0.now c.split_name.result.1.now o cut c.in_default.ensures) c.read_directive.ensures

pub returns-then-is_empty : goal.returns-then-is_empty
returns-then-is_empty c =
    let cut : Cut c.args.word.now c.split_mark.result.0.now c.split_name.result.0.now c.split_name.result.1.now = record { behind_mark = c.split_mark.result.1.now; marked = c.split_mark.ensures; named = c.split_name.ensures } in
    IfOk-weaker c.read_modifier.result (Reads (SpellsModifier c.split_name.result.0.now) c.in-Some.value.now) (Reads SpellsTerm c.args.word.now)
    (λ (o : Option Term). unmarked_read c.args.word.now c.split_mark.result.0.now c.split_name.result.0.now c.split_name.result.1.now c.in-Some.value.now o
    (nil_from_length c.split_mark.result.0.now (eqb-true (length c.split_mark.result.0.now) 0 (sym c.if-is_empty.ensures))) cut c.in-Some.ensures) c.read_modifier.ensures

pub returns-else-is_empty : goal.returns-else-is_empty
returns-else-is_empty c =
    let cut : Cut c.args.word.now c.split_mark.result.0.now c.split_name.result.0.now c.split_name.result.1.now = record { behind_mark = c.split_mark.result.1.now; marked = c.split_mark.ensures; named = c.split_name.ensures } in
    marked_refused c.args.word.now c.split_mark.result.0.now c.split_name.result.0.now c.split_name.result.1.now c.in-Some.value.now cut c.in-Some.ensures
    (λ e. eqb-false (length c.split_mark.result.0.now) 0 (sym c.if-is_empty.ensures) (ap length e))
