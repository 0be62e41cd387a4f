use Rattle.std.proofs.Common.{ℕ, ◌++◌, ◌∷◌, [], List, Option, take, drop, get_or, suc, subst, sym}
use Rattle.std.specs.Prelude.{option_to_list, IfSome}
use Rattle.std.proofs.lemmas.Result.{err_from_is_err_and}
use Rattle.std.proofs.Math.Seq.{take_all}
use Rattle.master_lex.specs.declared.entry.Entry.{Entry}
use Rattle.master_lex.specs.Pieces as lex
use Rattle.master_reader.specs.declared.progress.Progress.{Progress}
use Rattle.master_reader.specs.Progress.{kept_with}
use Rattle.master_reader.specs.Readers.{StandsFor}
use Rattle.master_reader.proofs.Feeding.{one_more, all_bytes, few_so_far, broken_refused, faulty_refused, goes_on, takes_on, stands_not_decided}
use Rattle.master_reader.proofs.reader.Reader.feed.Goals.{in-Some+in_ok-take, in_default}
use Rattle.master_reader.proofs.reader.Reader.feed.Goals as goal

pub returns-in_err-next-clause-bad : goal.returns-in_err-next-clause-bad
returns-in_err-next-clause-bad c = λ zone bytes h few.
    let p = err_from_is_err_and c.from_residual.result c.from_residual.ensures.1 in
    let piece = c.args.piece.now in
    let i = c.loop-byte.byte-index in
    let s = c.loop-byte.invariant zone bytes h few in
    let refused = broken_refused zone (kept_with c.loop-byte.cutter c.loop-byte.progress) (bytes ++ take i piece) (get_or piece i 0) (drop (suc i) piece) (bytes ++ piece) c.in_err-next.field-0.0 s (c.in_err-next.ensures.bad 1 (bytes ++ take i piece) s.given s.cut (few_so_far bytes piece i c.loop-byte-test.true few)) (all_bytes bytes piece i c.loop-byte-test.true) in
    rw (p.1, p.2) refused

pub returns-in_err-take-clause-bad : goal.returns-in_err-take-clause-bad
returns-in_err-take-clause-bad c = λ zone bytes h few.
    let p = err_from_is_err_and c.from_residual-in_err-take.result c.from_residual-in_err-take.ensures.1 in
    let piece = c.args.piece.now in
    let i = c.loop-byte.byte-index in
    let s = c.loop-byte.invariant zone bytes h few in
    let closes = subst (λ (o : Option Entry). IfSome o (λ entry. lex.Closes 1 (bytes ++ take i piece) s.given (get_or piece i 0) entry c.in_ok-next.next.line)) c.in-Some.is (c.in_ok-next.ensures.closed 1 (bytes ++ take i piece) s.given s.cut (few_so_far bytes piece i c.loop-byte-test.true few)) in
    rw (p.1, p.2)
    (faulty_refused zone (kept_with c.loop-byte.cutter c.loop-byte.progress) (bytes ++ take i piece) (get_or piece i 0) (drop (suc i) piece) (bytes ++ piece) c.in-Some.entry c.in_ok-next.next.line c.in_err-take.field-0.0 s closes c.in_err-take.ensures.bad (all_bytes bytes piece i c.loop-byte-test.true))

pub loop-byte-preserved : goal.loop-byte-preserved
loop-byte-preserved c = λ zone bytes h few.
    let piece = c.args.piece.now in
    let i = c.loop-byte.byte-index in
    let s = c.loop-byte.invariant zone bytes h few in
    let taken = c.in_ok-next.ensures.taken 1 (bytes ++ take i piece) s.given s.cut (few_so_far bytes piece i c.loop-byte-test.true few) in
    subst (λ (b : List ℕ). StandsFor zone (kept_with c.in_ok-next.next c.match-entry.progress) b) (sym (one_more bytes piece i c.loop-byte-test.true))
    (elim c.match-entry.branch [
      | in-Some+in_ok-take w ↦
          let more = subst (λ (o : Option Entry). lex.StandsFor 1 c.in_ok-next.next ((bytes ++ take i piece) ++ get_or piece i 0 ∷ []) (s.given ++ option_to_list o)) w.in-Some.is taken in
          subst (λ (p : Progress). StandsFor zone (kept_with c.in_ok-next.next p) ((bytes ++ take i piece) ++ get_or piece i 0 ∷ [])) (sym w.progress-is)
          (takes_on zone c.loop-byte.cutter c.loop-byte.progress c.in_ok-next.next w.take.new.self (bytes ++ take i piece) (get_or piece i 0) w.in-Some.entry s more w.in_ok-take.ensures.taken)
      | in_default w ↦
          let more = subst (λ (o : Option Entry). lex.StandsFor 1 c.in_ok-next.next ((bytes ++ take i piece) ++ get_or piece i 0 ∷ []) (s.given ++ option_to_list o)) w.in_default.is taken in
          subst (λ (p : Progress). StandsFor zone (kept_with c.in_ok-next.next p) ((bytes ++ take i piece) ++ get_or piece i 0 ∷ [])) (sym w.progress-is)
          (goes_on zone (kept_with c.loop-byte.cutter c.loop-byte.progress) c.in_ok-next.next (bytes ++ take i piece) (get_or piece i 0) s more)
    ])

pub returns-clause-not_bad : goal.returns-clause-not_bad
returns-clause-not_bad c = λ zone bytes h few line kind x.
    let s = subst (λ (t : List ℕ). StandsFor zone (kept_with c.loop-byte.cutter c.loop-byte.progress) (bytes ++ t)) (take_all c.loop-byte.byte-index c.args.piece.now c.loop-byte-test.false) (c.loop-byte.invariant zone bytes h few) in
    stands_not_decided zone (kept_with c.loop-byte.cutter c.loop-byte.progress) (bytes ++ c.args.piece.now) line kind s x
