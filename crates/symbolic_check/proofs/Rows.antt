-- A record's terms, one after the other, and rows of networks among them.
use Rattle.std.proofs.Common.{◌≡◌, ℕ, zero, suc, ◌+◌, ◌-◌, ◌<◌, ◌≤◌, ◌^◌, true, List, [], ◌∷◌, ◌++◌, length, get_or, take, drop, refl, sym, ◌∙◌, ap, subst, inl, arith, get_or-drop, drop-drop, length-drop, take-append-drop, take_all, length-take-le, Option, Some, None, IsSomeAnd, Bool, ◌&&◌, Result, Ok, Err, IfOk}
use Rattle.std.proofs.lemmas.List.Folds.{list_all_more}
use Rattle.std.specs.List.{list_all}
use Rattle.addr_bits.specs.Prefix.{Cidr}
use Rattle.addr_bits.specs.declared.address.Address.{Address}
use Rattle.zone_answers.specs.declared.answer.Question.{Question}
use Rattle.prefix_trie.specs.Leaves.{value_at}
use Rattle.spf_grammar.specs.declared.verdict.Verdict.{Verdict}
use Rattle.spf_grammar.specs.declared.policy.Term.{Term}
use Rattle.spf_model.specs.declared.outcome.Counts.{Counts}
use Rattle.spf_model.specs.Run.{Run, Answering}
use Rattle.spf_model.specs.Judging.{Judge}
use Rattle.spf_model.specs.Check.{check, term_after, trying, tried}
use Rattle.spf_model.proofs.Terms.{next_term}
use Rattle.spf_model.specs.declared.context.RecordContext.{RecordContext}
use Rattle.symbolic_check.specs.declared.state.State.{State}
use Rattle.symbolic_check.specs.Steps.{after_networks}
use Rattle.symbolic_check.specs.Networks.{is_row_term, first_network}
use Rattle.symbolic_check.specs.Stretches.{judges, number_after, terms_stretch, term_stretch}
use Rattle.spf_model.specs.Leads.{site_of}
use Rattle.symbolic_check.specs.Walk.{Stretch, Moves, Walks, NoneLive, StepsWith}
use Rattle.symbolic_check.proofs.Walking.{walks_twice}
use Rattle.symbolic_check.proofs.Settling.{walks_idle}
use Rattle.symbolic_check.proofs.Stepping.{networks_move}

-- ---- a step with another trie

pub stands_stepped_with : {U : Type 0} (zones : Answering) (asked : List Question) (stretch : Stretch) (step : U → State → State) (old : Option State) (with : Option U) (new : Option State)
    → ((u : U) (s : State) → with ≡ Some u → Moves zones asked stretch s (step u s))
    → IsSomeAnd old (λ s. IsSomeAnd with (λ u. new ≡ Some (step u s))) → IsSomeAnd old (λ s. IsSomeAnd new (Moves zones asked stretch s))
stands_stepped_with zones asked stretch step None with new moves h = h
stands_stepped_with zones asked stretch step (Some s) None new moves h = absurd h
stands_stepped_with zones asked stretch step (Some s) (Some u) new moves h =
    subst (λ n. IsSomeAnd n (Moves zones asked stretch s)) (sym h) (moves u s refl)

-- a step that asks nothing is a walk, where each value that it makes is what the stretch leaves
pub walks_by_steps_with : {U : Type 0} (bits : ℕ) (zones : ℕ → Answering) (stretch : ℕ → Stretch) (step : U → State → State) (with : List (Cidr × U)) (old new : List (Cidr × State)) (asked : List Question)
    → ((a : ℕ) (u : U) (s : State) → a < 2 ^ bits → value_at bits with a ≡ Some u → Moves (zones a) asked (stretch a) s (step u s))
    → StepsWith bits step with old new → Walks bits zones stretch old new asked asked
walks_by_steps_with bits zones stretch step with old new asked moves steps = record {
  each = λ a below. stands_stepped_with (zones a) asked (stretch a) step (value_at bits old a) (value_at bits with a) (value_at bits new a)
      (λ u s e. moves a u s below e) (steps a below);
  kept = λ q h. h;
  only = λ q h. inl h;
}

-- ---- one row after another

pub number_next : (t n : ℕ) → number_after t (suc n) ≡ term_after (number_after t n)
number_next t zero = refl
number_next t (suc n) = number_next (term_after t) n

-- the terms of two rows are tried one row after the other
tried_both : (judges : Judge) (t : ℕ) (row rest : List Term) (counts : Counts) (last : Counts → Run)
    → tried judges t (row ++ rest) counts last ≡ tried judges t row counts (λ between. tried judges (number_after t (length row)) rest between last)
tried_both judges t [] rest counts last = refl
tried_both judges t (term ∷ row) rest counts last =
    ap (λ (next : Counts → Run). trying judges t term counts next) (λ i between. tried_both judges (term_after t) row rest between last i)

pub rows_walk : (bits : ℕ) (zones : ℕ → Answering) (address : ℕ → Address) (context : RecordContext) (depth t : ℕ) (row rest : List Term) (old mid new : List (Cidr × State)) (asked between more : List Question)
    → Walks bits zones (terms_stretch address context depth t row) old mid asked between
    → Walks bits zones (terms_stretch address context depth (number_after t (length row)) rest) mid new between more
    → Walks bits zones (terms_stretch address context depth t (row ++ rest)) old new asked more
rows_walk bits zones address context depth t row rest old mid new asked between more first next =
    subst (λ stretch. Walks bits zones stretch old new asked more)
    (λ i a counts go. sym (tried_both (judges context depth (address a)) t row rest counts go) i)
    (walks_twice bits zones (terms_stretch address context depth t row) (terms_stretch address context depth (number_after t (length row)) rest) old mid new asked between more first next)

-- one term, and the terms behind it
pub term_walks : (bits : ℕ) (zones : ℕ → Answering) (address : ℕ → Address) (context : RecordContext) (depth t : ℕ) (term : Term) (rest : List Term) (old mid new : List (Cidr × State)) (asked between more : List Question)
    → Walks bits zones (term_stretch address context depth t term) old mid asked between
    → Walks bits zones (terms_stretch address context depth (term_after t) rest) mid new between more
    → Walks bits zones (terms_stretch address context depth t (term ∷ rest)) old new asked more
term_walks bits zones address context depth t term rest =
    walks_twice bits zones (term_stretch address context depth t term) (terms_stretch address context depth (term_after t) rest)

-- a row of networks is one step
pub row_walks : (bits : ℕ) (zones : ℕ → Answering) (address : ℕ → Address) (context : RecordContext) (depth t : ℕ) (row : List Term) (found : List (Cidr × Option Verdict)) (old new : List (Cidr × State)) (asked : List Question)
    → list_all is_row_term row ≡ true
    → ((a : ℕ) → a < 2 ^ bits → value_at bits found a ≡ Some (first_network row (address a)))
    → StepsWith bits after_networks found old new → Walks bits zones (terms_stretch address context depth t row) old new asked asked
row_walks bits zones address context depth t row found old new asked networks first =
    walks_by_steps_with bits zones (terms_stretch address context depth t row) after_networks found old new asked
    (λ a u s below e. subst (λ (x : Option Verdict). Moves (zones a) asked (terms_stretch address context depth t row a) s (after_networks x s))
    (some_same (sym (first a below) ∙ e))
    (networks_move (zones a) asked (site_of context) (address a) (check context.limits (address a) depth) t row s networks))
  where
    some_same : {x y : Option Verdict} → Some x ≡ Some y → x ≡ y
    some_same e = cc

pub row_stepped : {E : Type 0} (bits : ℕ) (zones : ℕ → Answering) (address : ℕ → Address) (context : RecordContext) (row : List Term) (found : List (Cidr × Option Verdict)) (old : List (Cidr × State)) (result : Result (List (Cidr × State)) E)
    → list_all is_row_term row ≡ true
    → ((a : ℕ) → a < 2 ^ bits → value_at bits found a ≡ Some (first_network row (address a)))
    → IfOk result (λ new. StepsWith bits after_networks found old new)
    → IfOk result (λ new. (depth t : ℕ) (asked : List Question) → Walks bits zones (terms_stretch address context depth t row) old new asked asked)
row_stepped bits zones address context row found old (Ok new) networks first steps = λ depth t asked.
    row_walks bits zones address context depth t row found old new asked networks first steps
row_stepped bits zones address context row found old (Err e) networks first steps = steps

-- a row is passed where a walk over what stands behind it makes a walk over both
abbrev pub PassesRow : (bits : ℕ) → (ℕ → Answering) → (ℕ → Address) → RecordContext → ℕ → List Term → List (Cidr × State) → List (Cidr × State) → Type 0
PassesRow bits zones address context count row old mid = (depth t : ℕ) (rest : List Term) (new : List (Cidr × State)) (asked more : List Question)
    → Walks bits zones (terms_stretch address context depth (number_after t count) rest) mid new asked more
    → Walks bits zones (terms_stretch address context depth t (row ++ rest)) old new asked more

pub row_passed : {E : Type 0} (bits : ℕ) (zones : ℕ → Answering) (address : ℕ → Address) (context : RecordContext) (count start : ℕ) (terms : List Term) (old : List (Cidr × State)) (result : Result (List (Cidr × State)) E)
    → count + start ≤ length terms
    → IfOk result (λ mid. (depth t : ℕ) (asked : List Question) → Walks bits zones (terms_stretch address context depth t (take count (drop start terms))) old mid asked asked)
    → IfOk result (PassesRow bits zones address context count (take count (drop start terms)) old)
row_passed bits zones address context count start terms old (Ok mid) within h = λ depth t rest new asked more next.
    rows_walk bits zones address context depth t (take count (drop start terms)) rest old mid new asked asked more (h depth t asked)
    (subst (λ (n : ℕ). Walks bits zones (terms_stretch address context depth (number_after t n) rest) mid new asked more)
    (sym (length-take-le count (drop start terms) (omega (arith, within, length-drop start terms)))) next)
row_passed bits zones address context count start terms old (Err e) within h = h

pub no_row_passed : (bits : ℕ) (zones : ℕ → Answering) (address : ℕ → Address) (context : RecordContext) (count : ℕ) (terms : List Term) (states : List (Cidr × State))
    → count ≡ 0 → PassesRow bits zones address context count (take count terms) states states
no_row_passed bits zones address context count terms states none =
    subst (λ (n : ℕ). PassesRow bits zones address context n (take n terms) states states) (sym none) (λ depth t rest new asked more next. next)

-- ---- the terms as far as they were walked

-- the terms from one on are left to walk, and those of them that stand before another are a row. So far, a walk over what is left
-- makes a walk over all
pub record WalkedSoFar (bits : ℕ) (zones : ℕ → Answering) (address : ℕ → Address) (context : RecordContext) (depth : ℕ) (terms : List Term)
    (old : List (Cidr × State)) (asked : List Question) (start index number : ℕ) (states : List (Cidr × State)) (between : List Question) : Type 0 where
  pub first : ℕ
  pub within : start ≤ index
  pub numbered : number ≡ number_after first (index - start)
  pub row : list_all is_row_term (take (index - start) (drop start terms)) ≡ true
  pub walks : (new : List (Cidr × State)) (more : List Question)
      → Walks bits zones (terms_stretch address context depth first (drop start terms)) states new between more
      → Walks bits zones (terms_stretch address context depth 1 terms) old new asked more

pub walked_none : (bits : ℕ) (zones : ℕ → Answering) (address : ℕ → Address) (context : RecordContext) (depth : ℕ) (terms : List Term) (old : List (Cidr × State)) (asked : List Question)
    → WalkedSoFar bits zones address context depth terms old asked 0 0 1 old asked
walked_none bits zones address context depth terms old asked = record { first = 1; within = omega arith; numbered = refl; row = refl; walks = λ new more h. h }

-- the next term belongs to the row
pub walked_row : (bits : ℕ) (zones : ℕ → Answering) (address : ℕ → Address) (context : RecordContext) (depth : ℕ) (terms : List Term) (old : List (Cidr × State)) (asked : List Question)
    (start index number : ℕ) (states : List (Cidr × State)) (between : List Question) (term : Term)
    → WalkedSoFar bits zones address context depth terms old asked start index number states between
    → index < length terms → term ≡ get_or terms index term → is_row_term term ≡ true
    → WalkedSoFar bits zones address context depth terms old asked start (index + 1) (term_after number) states between
walked_row bits zones address context depth terms old asked start index number states between term so_far below e row = record {
  first = so_far.first;
  within = omega (arith, so_far.within);
  numbered = ap term_after so_far.numbered ∙ sym (number_next so_far.first (index - start)) ∙ ap (number_after so_far.first) as_next;
  row = ap (λ (n : ℕ). list_all is_row_term (take n (drop start terms))) one_more
      ∙ list_all_more is_row_term (drop start terms) (index - start) term (omega (arith, below, so_far.within, length-drop start terms))
      ∙ both_parts so_far.row (ap is_row_term (get_or-drop start terms (index - start) term ∙ ap (λ (n : ℕ). get_or terms n term) at_index ∙ sym e) ∙ row);
  walks = so_far.walks;
}
  where
    one_more : index + 1 - start ≡ (index - start) + 1
    one_more = omega (arith, so_far.within)

    as_next : suc (index - start) ≡ index + 1 - start
    as_next = omega (arith, so_far.within)

    at_index : start + (index - start) ≡ index
    at_index = omega (arith, so_far.within)

    both_parts : {b c : Bool} → b ≡ true → c ≡ true → (b && c) ≡ true
    both_parts e f = rw (e, f) refl

-- the next term is walked behind the row
pub walked_term : (bits : ℕ) (zones : ℕ → Answering) (address : ℕ → Address) (context : RecordContext) (depth : ℕ) (terms : List Term) (old : List (Cidr × State)) (asked : List Question)
    (start index number : ℕ) (states mid new : List (Cidr × State)) (between more : List Question) (term : Term)
    → WalkedSoFar bits zones address context depth terms old asked start index number states between
    → index < length terms → term ≡ get_or terms index term
    → PassesRow bits zones address context (index - start) (take (index - start) (drop start terms)) states mid
    → Walks bits zones (term_stretch address context depth number term) mid new between more
    → WalkedSoFar bits zones address context depth terms old asked (index + 1) (index + 1) (term_after number) new more
walked_term bits zones address context depth terms old asked start index number states mid new between more term so_far below e passes walks = record {
  first = term_after number;
  within = omega arith;
  numbered = sym (ap (number_after (term_after number)) none_left);
  row = ap (λ (n : ℕ). list_all is_row_term (take n (drop (index + 1) terms))) none_left;
  walks = λ last most h. so_far.walks last most
      (subst (λ (xs : List Term). Walks bits zones (terms_stretch address context depth so_far.first xs) states last between most) split
      (passes depth so_far.first (term ∷ drop (index + 1) terms) last between most
      (subst (λ (t : ℕ). Walks bits zones (terms_stretch address context depth t (term ∷ drop (index + 1) terms)) mid last between most) so_far.numbered
      (term_walks bits zones address context depth number term (drop (index + 1) terms) mid new last between more most walks h))));
}
  where
    none_left : index + 1 - (index + 1) ≡ 0
    none_left = omega arith

    at_index : index ≡ start + (index - start)
    at_index = omega (arith, so_far.within)

    in_row : List Term
    in_row = take (index - start) (drop start terms)

    split : in_row ++ (term ∷ drop (index + 1) terms) ≡ drop start terms
    split = ap (λ (xs : List Term). in_row ++ xs) (sym (next_term terms index term below e))
        ∙ ap (λ (xs : List Term). in_row ++ xs) (ap (λ (n : ℕ). drop n terms) at_index ∙ sym (drop-drop (index - start) start terms))
        ∙ take-append-drop (index - start) (drop start terms)

-- no address is live behind the row
pub walked_idle : (bits : ℕ) (zones : ℕ → Answering) (address : ℕ → Address) (context : RecordContext) (depth : ℕ) (terms : List Term) (old : List (Cidr × State)) (asked : List Question)
    (start index number : ℕ) (states mid : List (Cidr × State)) (between : List Question)
    → WalkedSoFar bits zones address context depth terms old asked start index number states between
    → PassesRow bits zones address context (index - start) (take (index - start) (drop start terms)) states mid → NoneLive bits mid
    → Walks bits zones (terms_stretch address context depth 1 terms) old mid asked between
walked_idle bits zones address context depth terms old asked start index number states mid between so_far passes none =
    so_far.walks mid between
    (subst (λ (xs : List Term). Walks bits zones (terms_stretch address context depth so_far.first xs) states mid between between) (take-append-drop (index - start) (drop start terms))
    (passes depth so_far.first rest mid between between
    (walks_idle bits zones (terms_stretch address context depth (number_after so_far.first (index - start)) rest) mid between none)))
  where
    rest : List Term
    rest = drop (index - start) (drop start terms)

-- the last row is walked
pub walked_all : {E : Type 0} (bits : ℕ) (zones : ℕ → Answering) (address : ℕ → Address) (context : RecordContext) (depth : ℕ) (terms : List Term) (old : List (Cidr × State)) (asked : List Question)
    (start index number : ℕ) (states : List (Cidr × State)) (between : List Question) (result : Result (List (Cidr × State)) E)
    → WalkedSoFar bits zones address context depth terms old asked start index number states between
    → IfOk result (λ new. (depth t : ℕ) (asked : List Question) → Walks bits zones (terms_stretch address context depth t (drop start terms)) states new asked asked)
    → IfOk result (λ new. Walks bits zones (terms_stretch address context depth 1 terms) old new asked between)
walked_all bits zones address context depth terms old asked start index number states between (Ok new) so_far walks = so_far.walks new between (walks depth so_far.first between)
walked_all bits zones address context depth terms old asked start index number states between (Err e) so_far walks = walks

-- at the end of the terms the row is what is left
pub row_left : (bits : ℕ) (zones : ℕ → Answering) (address : ℕ → Address) (context : RecordContext) (depth : ℕ) (terms : List Term) (old : List (Cidr × State)) (asked : List Question)
    (start index number : ℕ) (states : List (Cidr × State)) (between : List Question)
    → WalkedSoFar bits zones address context depth terms old asked start index number states between → length terms ≤ index
    → list_all is_row_term (drop start terms) ≡ true
row_left bits zones address context depth terms old asked start index number states between so_far over =
    ap (list_all is_row_term) (sym (take_all (index - start) (drop start terms) (omega (arith, over, length-drop start terms)))) ∙ so_far.row
