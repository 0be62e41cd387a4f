use Rattle.std.proofs.Common.{ℕ, ◌+◌, ◌-◌, ◌<◌, ◌^◌, [], List, Option, length, take, drop, get_or, subst, sym, ap, arith, length-take-le}
use Rattle.std.specs.Prelude.{IfSome, MatchOption}
use Rattle.std.proofs.Math.Seq.{take_all}
use Rattle.std.proofs.lemmas.List.{take_rest}
use Rattle.std.proofs.lemmas.Result.{err_from_is_err_and}
use Rattle.master_lex.specs.declared.entry.Entry.{Entry}
use Rattle.master_lex.specs.File.{IsNext, IsNoneLeft}
use Rattle.master_lex.specs.Pieces.{StandsFor, Closes}
use Rattle.master_lex.proofs.Lexers.{Follows, next_from_closes, end_answers, here_counted, fault_at_end, fault_inside, cut_at, slice_none}
use Rattle.master_lex.proofs.lexer.next_entry.Goals as goal

pub returns-in_err-next-clause-bad : goal.returns-in_err-next-clause-bad
returns-in_err-next-clause-bad c =
    let p = err_from_is_err_and c.from_residual.result c.from_residual.ensures.1 in
    let bytes = c.args.bytes.now in
    let k = c.loop-place.place in
    let few : c.args.line + length (take k bytes) < 2 ^ 64 = omega (arith, c.requires.few, length-take-le k bytes (omega arith)) in
    rw (p.1, p.2)
    (fault_inside c.args.line bytes (take k bytes) (drop (k + 1) bytes) (get_or bytes k 0) c.in_err-next.field-0.0 (cut_at bytes k c.loop-place-test.true) (c.in_err-next.ensures.bad c.args.line (take k bytes) [] c.loop-place.invariant few))

follows : (c : goal.Joined-cutter) → Follows c.args.line c.args.bytes.now c.in-Some.entry c.line.result (take (length c.args.bytes.now - (c.loop-place.place + 1)) (drop (c.loop-place.place + 1) c.args.bytes.now))
follows c =
    let bytes = c.args.bytes.now in
    let k = c.loop-place.place in
    let few : c.args.line + length (take k bytes) < 2 ^ 64 = omega (arith, c.requires.few, length-take-le k bytes (omega arith)) in
    let closes = subst (λ (o : Option Entry). IfSome o (λ entry. Closes c.args.line (take k bytes) [] (get_or bytes k 0) entry c.in_ok-next.next.line)) c.in-Some.is (c.in_ok-next.ensures.closed c.args.line (take k bytes) [] c.loop-place.invariant few) in
    subst (λ (l : List ℕ). Follows c.args.line bytes c.in-Some.entry c.line.result l) (sym (take_rest bytes (k + 1)))
    (subst (λ (n : ℕ). Follows c.args.line bytes c.in-Some.entry n (drop (k + 1) bytes)) (sym c.line.ensures)
    (next_from_closes c.args.line bytes (take k bytes) (drop (k + 1) bytes) (get_or bytes k 0) c.in-Some.entry c.in_ok-next.next.line closes (cut_at bytes k c.loop-place-test.true) c.requires.counted c.requires.few))

pub returns-in-Some-clause-entry : goal.returns-in-Some-clause-entry
returns-in-Some-clause-entry c = (follows c).next

pub returns-in-Some-clause-counted : goal.returns-in-Some-clause-counted
returns-in-Some-clause-counted c = let f = follows c in (f.counted, f.few)

pub returns-in_err-entry-clause-bad : goal.returns-in_err-entry-clause-bad
returns-in_err-entry-clause-bad c =
    let p = err_from_is_err_and c.from_residual-in_err-entry.result c.from_residual-in_err-entry.ensures.1 in
    let stands = subst (λ (l : List ℕ). StandsFor c.args.line c.loop-place.cutter l []) (take_all c.loop-place.place c.args.bytes.now c.loop-place-test.false) c.loop-place.invariant in
    rw (p.1, p.2) (fault_at_end c.args.line c.args.bytes.now c.in_err-entry.field-0.0 (c.in_err-entry.ensures.bad c.args.line c.args.bytes.now [] stands))

whole : (c : goal.After-result-2-1) → StandsFor c.args.line c.loop-place.cutter c.args.bytes.now []
whole c = subst (λ (l : List ℕ). StandsFor c.args.line c.loop-place.cutter l []) (take_all c.loop-place.place c.args.bytes.now c.loop-place-test.false) c.loop-place.invariant

ends : (c : goal.After-result-2-1) → MatchOption c.in_ok-entry.entry (IsNoneLeft c.args.line c.args.bytes.now)
    (λ entry. IsNext c.args.line c.args.bytes.now entry c.here-line.result (take (length c.args.bytes.now - length c.args.bytes.now) (drop (length c.args.bytes.now) c.args.bytes.now)))
ends c =
    let line = c.args.line in
    let bytes = c.args.bytes.now in
    let answer = end_answers line bytes c.loop-place.cutter.here c.in_ok-entry.entry (c.in_ok-entry.ensures.last line bytes [] (whole c)) (c.in_ok-entry.ensures.entry line bytes [] (whole c)) c.requires.few in
    subst (λ (l : List ℕ). MatchOption c.in_ok-entry.entry (IsNoneLeft line bytes) (λ entry. IsNext line bytes entry c.here-line.result l)) (sym (slice_none bytes))
    (subst (λ (n : ℕ). MatchOption c.in_ok-entry.entry (IsNoneLeft line bytes) (λ entry. IsNext line bytes entry n [])) (sym c.here-line.ensures) answer)

pub returns-clause-entry : goal.returns-clause-entry
returns-clause-entry c = ends c

pub returns-clause-counted : goal.returns-clause-counted
returns-clause-counted c =
    let h = here_counted c.args.line c.args.bytes.now c.loop-place.cutter [] (whole c) c.requires.few in
    (omega (arith, h.0, c.here-line.ensures), omega (arith, h.1, c.here-line.ensures, ap length (slice_none c.args.bytes.now)))
