use Rattle.std.proofs.Common.{rules, ℕ, List, sym, subst}
use Rattle.deps_watch.specs.Alike.{IsReversedText}
use Rattle.deps_watch.proofs.Texts.{text_at, texts_more}
use Rattle.deps_watch.proofs.reversals.agrees_reversed.Goals as goal

pub returns-in-Some-clause-agrees : goal.returns-in-Some-clause-agrees
returns-in-Some-clause-agrees g c = record {
  text = c.in-Some.text.now;
  is = text_at c.args.zones.now g.W.AddressFamily.family c.args.texts.now.entries c.args.name.now c.in-Some.text.now c.requires.kept (sym c.in-Some.ensures.value);
  equal = search rules;
}

pub returns-clause-kept : goal.returns-clause-kept
returns-clause-kept g c =
    texts_more c.args.zones.now g.W.AddressFamily.family c.args.texts.now.entries c.insert.new.self.entries c.in_ok-clone.field-0 c.in_ok-text.text c.requires.kept
    (subst (λ (n : List (List ℕ)). IsReversedText c.args.zones.now n g.W.AddressFamily.family c.in_ok-text.text) (sym c.in_ok-clone.ensures.cases) c.in_ok-text.ensures)
    (λ name. c.in_ok-insert.ensures.updates.0 name)
