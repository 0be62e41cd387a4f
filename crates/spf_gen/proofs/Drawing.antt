-- Draws, and the networks that they make.
use Rattle.std.proofs.Common.{ℕ, ◌≡◌, ◌≢◌, ◌+◌, ◌*◌, ◌<◌, ◌%◌, ◌^◌, ◌==◌, Bool, true, false, cond, List, [], ◌∷◌, ◌++◌, map, refl, sym, ap, ◌∙◌, append-nil, add-one, eq-eqb, ne_eqb}
use Rattle.std.specs.List.{filter, range_with_len}
use Rattle.std.proofs.Math.Nat.{mod-add-mod, mod-eq_of_lt}
use Rattle.std.proofs.lemmas.Nat.{mul-mod_first}
use Rattle.std.proofs.lemmas.List.{map-append}
use Rattle.std.proofs.lemmas.List.Elements.{filter-append}
use Rattle.spf_grammar.specs.declared.flat.FlatTerm.{FlatTerm}
use Rattle.spf_gen.specs.Draws.{draw, grown}
use Rattle.spf_grammar.specs.declared.flat.Net.{Net}
use Rattle.spf_grammar.specs.declared.verdict.Verdict.{Verdict}
use Rattle.spf_gen.specs.Networks.{networks_in, network, term, verdict}
use Rattle.spf_gen.proofs.Lines.{numbers_more}

-- a number that was reduced, multiplied and added to
reduced : (g a c m : ℕ) → ((g % m * a) % m + c) % m ≡ (g * a + c) % m
reduced g a c m =
    mod-add-mod (g % m * a) m c
    ∙ (sym (mod-add-mod (g % m * a) m c) ∙ (ap (λ (n : ℕ). (n + c) % m) (mul-mod_first g a m) ∙ mod-add-mod (g * a) m c))

pub first_draw : (start : ℕ) → start < 2 ^ 64 → draw start 0 ≡ start
unfolding draw grown
first_draw start fits = mod-eq_of_lt fits

pub next_draw : (drawn start steps : ℕ) → drawn ≡ draw start steps
    → ((drawn * 6364136223846793005) % 2 ^ 64 + 1442695040888963407) % 2 ^ 64 ≡ draw start (steps + 1)
unfolding draw grown
next_draw drawn start steps is =
    ap (λ (n : ℕ). ((n * 6364136223846793005) % 2 ^ 64 + 1442695040888963407) % 2 ^ 64) is
    ∙ (reduced (grown start steps) 6364136223846793005 1442695040888963407 (2 ^ 64)
    ∙ ap (λ (n : ℕ). grown start n % 2 ^ 64) (sym (add-one steps)))

one_more : (start n : ℕ) (b : Bool) → map (term start) (cond b (n ∷ []) []) ≡ cond b (term start n ∷ []) []
one_more start n true = refl
one_more start n false = refl

pub networks_more : (start n k : ℕ) → networks_in start (n + 1) k ≡ networks_in start n k ++ cond (n % 8 == k) (term start n ∷ []) []
networks_more start n k =
    ap (λ (xs : List ℕ). map (term start) (filter (λ i. i % 8 == k) xs)) (numbers_more n)
    ∙ (ap (λ (xs : List ℕ). map (term start) xs) (filter-append (λ i. i % 8 == k) (range_with_len 0 n) (n ∷ []))
    ∙ (map-append (term start) (filter (λ i. i % 8 == k) (range_with_len 0 n)) (cond (n % 8 == k) (n ∷ []) [])
    ∙ ap (λ (ts : List FlatTerm). networks_in start n k ++ ts) (one_more start n (n % 8 == k))))

-- a network stands in this record, or in another
pub network_here : (start n k : ℕ) (drawn : ℕ) (v : Verdict) (net : Net) → n % 8 ≡ k → drawn ≡ draw start (n + 1) → v ≡ verdict n → net ≡ network drawn n
    → networks_in start (n + 1) k ≡ networks_in start n k ++ record { verdict = v; net = net } ∷ []
network_here start n k drawn v net same is v_is net_is =
    let made : term start n ≡ record { verdict = v; net = net } =
    λ i. record { verdict = sym v_is i; net = sym (net_is ∙ ap (λ (d : ℕ). network d n) is) i } in
    networks_more start n k
    ∙ ap (λ (b : Bool). networks_in start n k ++ cond b (term start n ∷ []) []) (eq-eqb (n % 8) k same)
    ∙ ap (λ (t : FlatTerm). networks_in start n k ++ t ∷ []) made

pub network_elsewhere : (start n k : ℕ) → n % 8 ≢ k → networks_in start (n + 1) k ≡ networks_in start n k
network_elsewhere start n k differ =
    networks_more start n k
    ∙ ap (λ (b : Bool). networks_in start n k ++ cond b (term start n ∷ []) []) (ne_eqb (n % 8) k differ)
    ∙ append-nil (networks_in start n k)
