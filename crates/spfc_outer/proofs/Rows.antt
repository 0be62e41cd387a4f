-- Lists of listeners that are told questions, one question after the other, and each to one listener after the other.
use Rattle.std.proofs.Common.{◌≡◌, ◌<◌, ◌≤◌, ◌+◌, ◌-◌, ◌^◌, ◌++◌, ◌⊎◌, ℕ, zero, suc, List, [], ◌∷◌, Some, None, inl, inr, map, take, drop, length, get_or, refl, sym, ap, ◌∙◌, subst, arith, append_assoc, append-nil, length-append}
use Rattle.std.proofs.Math.ListN.{set}
use Rattle.std.proofs.Math.Seq.{take-suc}
use Rattle.std.proofs.lemmas.List.{take_all, drop_all}
use Rattle.std.specs.List.{remove}
use Rattle.std.specs.declared.option.Option.{Option}
use Rattle.zone_answers.specs.declared.answer.Question.{Question}
use Rattle.spfc_outer.specs.Auditors.{Stop, At, Never, Untold, AuditorSeen, capped, IsAhead, MayLeave, MayStay, heard_then, HasHeard, HasStayed, After, IsCut, BrokeOff}
use Rattle.spfc_outer.specs.declared.auditor.Keep.TheVariants.{Go, Done}

-- ---- one listener, and one question more
leave_later : (stop : Stop) (count n m : ℕ) → n ≤ m → MayLeave stop count n → MayLeave stop count m
leave_later (At stop) count n m le may = record { above = may.above; within = omega (arith, may.within, le) }
leave_later Never count n m le may = absurd may
leave_later Untold count n m le may = omega (arith, may, le)

leave_at : (stop : Stop) (count more n : ℕ) → capped more ≡ capped (count + n) → MayLeave stop more 1 → MayLeave stop count (n + 1)
leave_at (At stop) count more n is may = record { above = omega (arith, is, may.above, may.within); within = omega (arith, is, may.above, may.within) }
leave_at Never count more n is may = absurd may
leave_at Untold count more n is may = omega arith

stay_at : (stop : Stop) (count more n : ℕ) → capped more ≡ capped (count + n) → MayStay stop count n → MayStay stop more 1 → MayStay stop count (n + 1)
stay_at (At stop) count more n is may next = λ ahead.
    let far : capped stop ≤ capped count + n → ⊥ = λ le. may (record { above = ahead.above; within = le }) in
    next (record { above = omega (arith, is, far, ahead.above, ahead.within); within = omega (arith, is, far, ahead.above, ahead.within) })
stay_at Never count more n is may next = tt
stay_at Untold count more n is may next = tt

stays_at_nothing : (stop : Stop) (count : ℕ) → MayStay stop count 0
stays_at_nothing (At stop) count = λ ahead. omega (arith, ahead.above, ahead.within)
stays_at_nothing Never count = tt
stays_at_nothing Untold count = tt

heard_nothing : (heard : Option (List Question)) → heard ≡ heard_then heard []
heard_nothing None = refl
heard_nothing (Some heard) = ap (λ (qs : List Question). Some qs) (sym (append-nil heard))

heard_twice : (heard : Option (List Question)) (asked more : List Question) → heard_then (heard_then heard asked) more ≡ heard_then heard (asked ++ more)
heard_twice None asked more = refl
heard_twice (Some heard) asked more = ap (λ (qs : List Question). Some qs) (append_assoc heard asked more)

leave_then : (asked : List Question) (question : Question) (one more : AuditorSeen) → HasStayed asked one more → MayLeave more.stop more.count 1
    → MayLeave one.stop one.count (length (asked ++ question ∷ []))
leave_then asked question one more stay may =
    rw (length-append asked (question ∷ [])) (leave_at one.stop one.count more.count (length asked) stay.count (subst (λ s. MayLeave s more.count 1) stay.stop may))

stay_then : (asked : List Question) (question : Question) (one more last : AuditorSeen) → HasStayed asked one more → HasStayed (question ∷ []) more last
    → HasStayed (asked ++ question ∷ []) one last
stay_then asked question one more last stay next = record {
  may = rw (length-append asked (question ∷ [])) (stay_at one.stop one.count more.count (length asked) stay.count stay.may (subst (λ s. MayStay s more.count 1) stay.stop next.may));
  stop = next.stop ∙ stay.stop;
  count = omega (arith, next.count, stay.count, length-append asked (question ∷ []));
  heard = next.heard ∙ (ap (λ h. heard_then h (question ∷ [])) stay.heard ∙ heard_twice one.heard asked (question ∷ []));
}

-- ---- lists of listeners
-- told nothing
pub after_nothing : (row : List AuditorSeen) → After [] row row
after_nothing [] = tt
after_nothing (one ∷ row) = inr (
  record { may = stays_at_nothing one.stop one.count; stop = refl; count = omega arith; heard = heard_nothing one.heard },
  after_nothing row,
)

later : (asked : List Question) (question : Question) (one : AuditorSeen) → MayLeave one.stop one.count (length asked) → MayLeave one.stop one.count (length (asked ++ question ∷ []))
later asked question one may = leave_later one.stop one.count (length asked) (length (asked ++ question ∷ [])) (omega (arith, length-append asked (question ∷ []))) may

-- told questions and then one more
pub after_then : (asked : List Question) (question : Question) (a b c : List AuditorSeen) → After asked a b → After (question ∷ []) b c → After (asked ++ question ∷ []) a c
after_then asked question [] [] [] h g = tt
after_then asked question [] [] (z ∷ c) h g = absurd g
after_then asked question [] (y ∷ b) c h g = absurd h
after_then asked question (one ∷ a) [] [] h g = (later asked question one h.0, after_then asked question a [] [] h.1 tt)
after_then asked question (one ∷ a) [] (z ∷ c) h g = absurd g
after_then asked question (one ∷ a) (more ∷ b) [] (inl h) g = (later asked question one h.0, after_then asked question a (more ∷ b) [] h.1 g)
after_then asked question (one ∷ a) (more ∷ b) (z ∷ c) (inl h) g = inl (later asked question one h.0, after_then asked question a (more ∷ b) (z ∷ c) h.1 g)
after_then asked question (one ∷ a) (more ∷ b) [] (inr h) g = (leave_then asked question one more h.0 g.0, after_then asked question a b [] h.1 g.1)
after_then asked question (one ∷ a) (more ∷ b) (z ∷ c) (inr h) (inl g) = inl (leave_then asked question one more h.0 g.0, after_then asked question a b (z ∷ c) h.1 g.1)
after_then asked question (one ∷ a) (more ∷ b) (z ∷ c) (inr h) (inr g) = inr (stay_then asked question one more z h.0 g.0, after_then asked question a b c h.1 g.1)

-- what came of each part of the list
record Parts (asked : List Question) (a front behind : List AuditorSeen) : Type 0 where
  first : List AuditorSeen
  last : List AuditorSeen
  is : a ≡ first ++ last
  of_front : After asked first front
  of_behind : After asked last behind

after_split : (asked : List Question) (a front behind : List AuditorSeen) → After asked a (front ++ behind) → Parts asked a front behind
after_split asked a [] behind h = record { first = []; last = a; is = refl; of_front = tt; of_behind = h }
after_split asked [] (x ∷ front) behind h = absurd h
after_split asked (one ∷ a) (x ∷ front) behind (inl h) =
    let r = after_split asked a (x ∷ front) behind h.1 in
    record { first = one ∷ r.first; last = r.last; is = ap (λ (xs : List AuditorSeen). one ∷ xs) r.is; of_front = inl (h.0, r.of_front); of_behind = r.of_behind }
after_split asked (one ∷ a) (x ∷ front) behind (inr h) =
    let r = after_split asked a front behind h.1 in
    record { first = one ∷ r.first; last = r.last; is = ap (λ (xs : List AuditorSeen). one ∷ xs) r.is; of_front = inr (h.0, r.of_front); of_behind = r.of_behind }

-- ---- one question to one listener more
row_left : (question : Question) (front after : List AuditorSeen) (one : AuditorSeen) → After (question ∷ []) front after → MayLeave one.stop one.count 1
    → After (question ∷ []) (front ++ one ∷ []) after
row_left question [] [] one h may = (may, tt)
row_left question [] (y ∷ after) one h may = absurd h
row_left question (x ∷ front) [] one h may = (h.0, row_left question front [] one h.1 may)
row_left question (x ∷ front) (y ∷ after) one (inl h) may = inl (h.0, row_left question front (y ∷ after) one h.1 may)
row_left question (x ∷ front) (y ∷ after) one (inr h) may = inr (h.0, row_left question front after one h.1 may)

row_stayed : (question : Question) (front after : List AuditorSeen) (one more : AuditorSeen) → After (question ∷ []) front after → HasStayed (question ∷ []) one more
    → After (question ∷ []) (front ++ one ∷ []) (after ++ more ∷ [])
row_stayed question [] [] one more h stay = inr (stay, tt)
row_stayed question [] (y ∷ after) one more h stay = absurd h
row_stayed question (x ∷ front) [] one more h stay = inl (h.0, row_stayed question front [] one more h.1 stay)
row_stayed question (x ∷ front) (y ∷ after) one more (inl h) stay = inl (h.0, row_stayed question front (y ∷ after) one more h.1 stay)
row_stayed question (x ∷ front) (y ∷ after) one more (inr h) stay = inr (h.0, row_stayed question front after one more h.1 stay)

heard_stays : (one more : AuditorSeen) (question : Question) → HasHeard one question more Go → HasStayed (question ∷ []) one more
heard_stays one more question h = record { may = h.says; stop = h.stop; count = omega (arith, h.count); heard = h.heard }

-- ---- places
cut_here : {X : Type 0} (seen : X → AuditorSeen) (xs : List X) (i : ℕ) (x : X) → i < length xs → x ≡ get_or xs i x → map seen (drop i xs) ≡ seen x ∷ map seen (drop (i + 1) xs)
cut_here seen [] i x lt is = absurd (omega (arith, lt))
cut_here seen (y ∷ ys) zero x lt is = ap (λ z. seen z ∷ map seen ys) (sym is)
cut_here seen (y ∷ ys) (suc i) x lt is = let one : suc i + 1 ≡ suc (i + 1) = omega arith in rw one (cut_here seen ys i x (omega (arith, lt)) is)

take_here : {X : Type 0} (seen : X → AuditorSeen) (xs : List X) (i : ℕ) (x : X) → i < length xs → map seen (take (i + 1) (set xs i x)) ≡ map seen (take i xs) ++ seen x ∷ []
take_here seen [] i x lt = absurd (omega (arith, lt))
take_here seen (y ∷ ys) zero x lt = refl
take_here seen (y ∷ ys) (suc i) x lt = let one : suc i + 1 ≡ suc (i + 1) = omega arith in rw one (ap (λ (zs : List AuditorSeen). seen y ∷ zs) (take_here seen ys i x (omega (arith, lt))))

drop_here : {X : Type 0} (xs : List X) (i : ℕ) (x : X) → drop (i + 1) (set xs i x) ≡ drop (i + 1) xs
drop_here [] zero x = refl
drop_here [] (suc i) x = refl
drop_here (y ∷ ys) zero x = refl
drop_here (y ∷ ys) (suc i) x = let one : suc i + 1 ≡ suc (i + 1) = omega arith in rw one (drop_here ys i x)

take_removed : {X : Type 0} (xs : List X) (i : ℕ) (x : X) → i < length xs → take i (remove (set xs i x) i) ≡ take i xs
take_removed [] i x lt = absurd (omega (arith, lt))
take_removed (y ∷ ys) zero x lt = refl
take_removed {X = X} (y ∷ ys) (suc i) x lt = ap (λ (zs : List X). y ∷ zs) (take_removed ys i x (omega (arith, lt)))

drop_removed : {X : Type 0} (xs : List X) (i : ℕ) (x : X) → i < length xs → drop i (remove (set xs i x) i) ≡ drop (i + 1) xs
drop_removed [] i x lt = absurd (omega (arith, lt))
drop_removed (y ∷ ys) zero x lt = refl
drop_removed (y ∷ ys) (suc i) x lt = let one : suc i + 1 ≡ suc (i + 1) = omega arith in rw one (drop_removed ys i x (omega (arith, lt)))

-- a list in two parts, of which the second begins with an item that is seen as the one in its place
parts_here : {X : Type 0} (seen : X → AuditorSeen) (xs : List X) (i : ℕ) (x y : X) → i < length xs → x ≡ get_or xs i x → seen y ≡ seen x
    → map seen (set xs i y) ≡ map seen (take i xs) ++ map seen (drop i xs)
parts_here seen [] i x y lt is same = absurd (omega (arith, lt))
parts_here seen (z ∷ zs) zero x y lt is same = ap (λ (s : AuditorSeen). s ∷ map seen zs) (same ∙ ap seen is)
parts_here seen (z ∷ zs) (suc i) x y lt is same = ap (λ (ss : List AuditorSeen). seen z ∷ ss) (parts_here seen zs i x y (omega (arith, lt)) is same)

parts_at : {X : Type 0} (xs : List X) (i : ℕ) (x : X) → i < length xs → x ≡ get_or xs i x → xs ≡ take i xs ++ x ∷ drop (i + 1) xs
parts_at [] i x lt is = absurd (omega (arith, lt))
parts_at (y ∷ ys) zero x lt is = ap (λ z. z ∷ ys) (sym is)
parts_at {X = X} (y ∷ ys) (suc i) x lt is = let one : suc i + 1 ≡ suc (i + 1) = omega arith in rw one (ap (λ (zs : List X). y ∷ zs) (parts_at ys i x (omega (arith, lt)) is))

-- ---- one question to the list
-- the first i listeners of the list as it is now heard the question, and those behind them did not yet
pub record HasCome {X : Type 0} (seen : X → AuditorSeen) (question : Question) (start now : List X) (i : ℕ) : Type 0 where
  pub front : List AuditorSeen
  pub parts : map seen start ≡ front ++ map seen (drop i now)
  pub heard : After (question ∷ []) front (map seen (take i now))

pub come_none : {X : Type 0} (seen : X → AuditorSeen) (question : Question) (start : List X) → HasCome seen question start start 0
come_none seen question start = record { front = []; parts = refl; heard = tt }

pub come_all : {X : Type 0} (seen : X → AuditorSeen) (question : Question) (start now : List X) (i : ℕ) → length now ≤ i → HasCome seen question start now i
    → After (question ∷ []) (map seen start) (map seen now)
come_all seen question start now i all come =
    let ends : drop i now ≡ [] = drop_all i now all in
    let whole : take i now ≡ now = take_all i now all in
    let front : map seen start ≡ come.front = come.parts ∙ (ap (λ ys. come.front ++ map seen ys) ends ∙ append-nil come.front) in
    subst (λ b. After (question ∷ []) b (map seen now)) (sym front) (subst (λ ys. After (question ∷ []) come.front (map seen ys)) whole come.heard)

pub come_stayed : {X : Type 0} (seen : X → AuditorSeen) (question : Question) (start now : List X) (i : ℕ) (x y : X) → i < length now → x ≡ get_or now i x
    → HasHeard (seen x) question (seen y) Go → HasCome seen question start now i → HasCome seen question start (set now i y) (i + 1)
come_stayed seen question start now i x y lt is h come = record {
  front = come.front ++ seen x ∷ [];
  parts = come.parts ∙ (ap (λ (zs : List AuditorSeen). come.front ++ zs) (cut_here seen now i x lt is ∙ ap (λ ys. seen x ∷ map seen ys) (sym (drop_here now i y)))
      ∙ sym (append_assoc come.front (seen x ∷ []) (map seen (drop (i + 1) (set now i y)))));
  heard = subst (λ after. After (question ∷ []) (come.front ++ seen x ∷ []) after) (sym (take_here seen now i y lt))
      (row_stayed question come.front (map seen (take i now)) (seen x) (seen y) come.heard (heard_stays (seen x) (seen y) question h));
}

pub come_left : {X : Type 0} (seen : X → AuditorSeen) (question : Question) (start now : List X) (i : ℕ) (x y : X) → i < length now → x ≡ get_or now i x
    → HasHeard (seen x) question (seen y) Done → HasCome seen question start now i → HasCome seen question start (remove (set now i y) i) i
come_left seen question start now i x y lt is h come = record {
  front = come.front ++ seen x ∷ [];
  parts = come.parts ∙ (ap (λ (zs : List AuditorSeen). come.front ++ zs) (cut_here seen now i x lt is ∙ ap (λ ys. seen x ∷ map seen ys) (sym (drop_removed now i y lt)))
      ∙ sym (append_assoc come.front (seen x ∷ []) (map seen (drop i (remove (set now i y) i)))));
  heard = subst (λ ys. After (question ∷ []) (come.front ++ seen x ∷ []) (map seen ys)) (sym (take_removed now i y lt))
      (row_left question come.front (map seen (take i now)) (seen x) come.heard h.says);
}

pub come_cut : {X : Type 0} (seen : X → AuditorSeen) (question : Question) (start now : List X) (i : ℕ) (x y : X) → i < length now → x ≡ get_or now i x
    → seen y ≡ seen x → HasCome seen question start now i → IsCut question (map seen start) (map seen (set now i y))
come_cut seen question start now i x y lt is same come = record {
  front = come.front;
  behind = map seen (drop i now);
  first = map seen (take i now);
  before_is = come.parts;
  after_is = parts_here seen now i x y lt is same;
  heard = come.heard;
}

-- ---- questions to the list
pub told_next : (asked : List Question) (i : ℕ) (d question : Question) (a b c : List AuditorSeen) → i < length asked → d ≡ get_or asked i d → question ≡ d
    → After (take i asked) a b → After (question ∷ []) b c → After (take (i + 1) asked) a c
told_next asked i d question a b c lt at same h r =
    let one : i + 1 ≡ suc i = omega arith in
    let next = after_then (take i asked) d a b c h (subst (λ q. After (q ∷ []) b c) same r) in
    rw (one, take-suc asked i d lt) (subst (λ q. After (take i asked ++ q ∷ []) a c) at next)

pub told_cut : (asked : List Question) (i : ℕ) (d question : Question) (a b c : List AuditorSeen) → i < length asked → d ≡ get_or asked i d → question ≡ d
    → After (take i asked) a b → IsCut question b c → BrokeOff asked a c
told_cut asked i d question a b c lt at same h cut =
    let r = after_split (take i asked) a cut.front cut.behind (subst (λ bs. After (take i asked) a bs) cut.before_is h) in
    record {
      told = take i asked;
      question = d;
      rest = drop (i + 1) asked;
      asked_is = parts_at asked i d lt at;
      front = r.first;
      behind = r.last;
      before_is = r.is;
      first = cut.first;
      last = cut.behind;
      after_is = cut.after_is;
      told_too = after_then (take i asked) d r.first cut.front cut.first r.of_front (subst (λ q. After (q ∷ []) cut.front cut.first) same cut.heard);
      untold = r.of_behind;
    }
