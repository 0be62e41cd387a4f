-- What is left of a run.
use Rattle.std.proofs.Common.{List, sym, subst, inl, inr, Contains}
use Rattle.zone_answers.specs.declared.answer.Question.{Question}
use Rattle.zone_answers.specs.declared.answer.Answer.{Answer}
use Rattle.spf_model.specs.declared.outcome.Counts.{Counts}
use Rattle.spf_model.specs.declared.outcome.Outcome.{Outcome}
use Rattle.spf_model.specs.Run.{Run, Asks, Answering, then_do}
use Rattle.spf_model.proofs.RunLaws.{ends_split, ends_after, asks_first, asks_after, asks_split}
use Rattle.spf_model.specs.Settling.{Follows}

-- a run follows itself
pub follows_itself : (zones : Answering) (asked : List Question) (run : Run) → Follows zones asked run run
follows_itself zones asked run = record { ends = λ o c. (λ h. h, λ h. h); asks = λ q h. h; covers = λ q h. inr h }

-- a rest of a rest is a rest
pub follows_twice : (zones : Answering) (asked : List Question) (run mid rest : Run)
    → Follows zones asked run mid → Follows zones asked mid rest → Follows zones asked run rest
follows_twice zones asked run mid rest f g = record {
  ends = λ o c. (λ h. (f.ends o c).0 ((g.ends o c).0 h), λ h. (g.ends o c).1 ((f.ends o c).1 h));
  asks = λ q h. f.asks q (g.asks q h);
  covers = λ q h. elim (f.covers q h) [ inl here ↦ inl here | inr later ↦ g.covers q later ];
}

-- more questions may have been asked
pub follows_more : (zones : Answering) (asked more : List Question) (run rest : Run)
    → ((q : Question) → Contains asked q → Contains more q) → Follows zones asked run rest → Follows zones more run rest
follows_more zones asked more run rest within f = record {
  ends = f.ends;
  asks = f.asks;
  covers = λ q h. elim (f.covers q h) [ inl here ↦ inl (within q here) | inr later ↦ inr later ];
}

-- a question that was asked is passed
pub follows_question : (zones : Answering) (asked : List Question) (question : Question) (next : Answer → Run) → Contains asked question
    → Follows zones asked (Asks question next) (next (zones question))
follows_question zones asked question next known = record {
  ends = λ o c. (λ h. h, λ h. h);
  asks = λ q h. inr h;
  covers = λ q h. elim h [ inl here ↦ inl (subst (λ x. Contains asked x) (sym here) known) | inr later ↦ inr later ];
}

-- what follows a run that others go on from, follows with what goes on
pub follows_within : (zones : Answering) (asked : List Question) (run rest : Run) (go : Outcome → Counts → Run)
    → Follows zones asked run rest → Follows zones asked (then_do run go) (then_do rest go)
follows_within zones asked run rest go f = record {
  ends = λ o c. (
    λ h. let split = ends_split zones rest go o c h in
        ends_after zones run go split.0 split.1 o c ((f.ends split.0 split.1).0 split.2) split.3,
    λ h. let split = ends_split zones run go o c h in
        ends_after zones rest go split.0 split.1 o c ((f.ends split.0 split.1).1 split.2) split.3,
  );
  asks = λ q h. elim (asks_split zones rest go q h) [
    | inl first ↦ asks_first zones run go q (f.asks q first)
    | inr after ↦ asks_after zones run go after.0 after.1 q ((f.ends after.0 after.1).0 after.2) after.3
  ];
  covers = λ q h. elim (asks_split zones run go q h) [
    | inl first ↦ elim (f.covers q first) [ inl here ↦ inl here | inr later ↦ inr (asks_first zones rest go q later) ]
    | inr after ↦ inr (asks_after zones rest go after.0 after.1 q ((f.ends after.0 after.1).1 after.2) after.3)
  ];
}
