-- Closing a set of cuts by levels, the deepest first. A cut node asks for its edge neighbour, which stands on its own level and asks for it, and
-- for its parent, which stands on the next. So a level that is passed never asks again, whatever the order within it.
use mathlib.Core.Path.{◌≡◌, refl, sym, subst}
use mathlib.Core.Bool.{Bool, true}
use mathlib.Core.Logic.{◌≢◌, ◌⊎◌, inl, inr, ⊎_elim}
use Prim.Native.Nat.{ℕ, ◌+◌, ◌/◌, ◌^◌, ◌≤◌, ◌<◌}
use native.Mathlib.Decide.{dec_lt}
use native.Mathlib.Omega.{arith}
use lib.Pow.{pow_mono}
use Rattle.nodes.specs.Neighbours.{edge}
use Rattle.nodes.proofs.Depths.{pow_next, at_from, at_below}
use Rattle.nodes.proofs.Edges.{edge_low, edge_mutual, edge_level}
use Rattle.cuts.specs.Cuts.{GoodCuts, Smallest}
use Rattle.cuts.specs.inner.Steps.{Follows}
use Rattle.cuts.specs.inner.Closing.{Asked, Drawn, Draws}

-- ---- what is drawn

asked_more : {P Q : ℕ → Type 0} → ((m : ℕ) → P m → Q m) → (n : ℕ) → Asked P n → Asked Q n
asked_more f n = ⊎_elim (λ p. inl (f n p)) (λ w. inr (w.0, f (edge n) w.1))

-- each of two neighbours is to be cut where the other is
asked_across : (P : ℕ → Type 0) (n : ℕ) → edge n ≢ 0 → Asked P (edge n) → Asked P n
asked_across P n z = ⊎_elim (λ p. inr (z, p)) (λ w. inl (subst P (edge_mutual n z) w.1))

pub draws_none : (low : ℕ) (P : ℕ → Type 0) → Draws low low P P
draws_none low P m = (inl, ⊎_elim (λ p. p) (λ d. absurd (omega (arith, d.from, d.below))))

pub draws_more : {low high : ℕ} {P Q : ℕ → Type 0} → Draws low high P Q → (m : ℕ) → P m → Q m
draws_more f m p = (f m).1 (inl p)

-- .. from the nodes low to high of one level
module _ (d : ℕ) {low high : ℕ} (first : 2 ^ d ≤ low) (last : high ≤ 2 ^ (d + 1)) {P Q : ℕ → Type 0} (f : Draws low high P Q) where
  -- a node of that level was to be cut before
  drawn_level : (n : ℕ) → 2 ^ d ≤ n → Q n → Asked P n
  drawn_level n l q = ⊎_elim inl (λ w. ⊎_elim (λ e. subst (Asked P) (sym e) w.asked) (λ e. absurd (omega (arith, w.below, pow_next d))) w.is) ((f n).0 q)

  pub asked_before : (n : ℕ) → 2 ^ d ≤ n → n < 2 ^ (d + 1) → Asked Q n → Asked P n
  asked_before n l h = ⊎_elim (drawn_level n l) (λ w. asked_across P n w.0 (drawn_level (edge n) (edge_level d n (at_from l h) w.0).low w.1))

-- so one part of a level after another is both
module _ (d : ℕ) {low mid high : ℕ} (first : 2 ^ d ≤ low) (second : low ≤ mid) (third : mid ≤ high) (last : high ≤ 2 ^ (d + 1)) {P Q R : ℕ → Type 0}
    (f : Draws low mid P Q) (g : Draws mid high Q R) where
  pub draws_then : Draws low high P R
  draws_then m = (λ r. ⊎_elim (λ q. ⊎_elim inl (λ w. inr (record { by = w.by; from = w.from; below = omega (arith, w.below); asked = w.asked; is = w.is })) ((f m).0 q)) later ((g m).0 r), back)
    where
      later : Drawn Q mid high m → P m ⊎ Drawn P low high m
      later w = inr (record {
        by = w.by;
        from = omega (arith, w.from);
        below = w.below;
        asked = asked_before d first (omega arith) f w.by (omega (arith, w.from)) (omega (arith, w.below)) w.asked;
        is = w.is;
      })

      part : (w : Drawn P low high m) → Dec (w.by < mid) → R m
      part w (yes l) = (g m).1 (inl ((f m).1 (inr (record { by = w.by; from = w.from; below = l; asked = w.asked; is = w.is }))))
      part w (no l) = (g m).1 (inr (record { by = w.by; from = omega arith; below = w.below; asked = asked_more (draws_more f) w.by w.asked; is = w.is }))

      back : P m ⊎ Drawn P low high m → R m
      back = ⊎_elim (λ p. (g m).1 (inl ((f m).1 (inl p)))) (λ w. part w (dec_lt w.by mid))

-- ---- from the deepest level up

-- to close P the cuts C are made, and every node from n on has what it asks for
pub record Closing (P C : ℕ → Type 0) (n : ℕ) : Type 0 where
  pub holds : (m : ℕ) → P m → C m
  pub least : (r : ℕ → Bool) → GoodCuts (λ m. r m ≡ true) → ((m : ℕ) → P m → r m ≡ true) → (m : ℕ) → C m → r m ≡ true
  pub follow : (m : ℕ) → n ≤ m → C m → Follows C m

-- a good set holds what is drawn from it
asked_good : {Q : ℕ → Type 0} → GoodCuts Q → (n : ℕ) → Asked Q n → Q n
asked_good {Q} G n = ⊎_elim (λ q. q) (λ w. subst Q (edge_mutual n w.0) (G.over (edge n) (node w.0) w.1 (λ e. omega (arith, edge_mutual n w.0, edge_low n w.0))))
  where
    node : edge n ≢ 0 → 2 ≤ edge n
    node z = edge_low (edge n) (λ e. omega (arith, edge_mutual n z, edge_low n z))

drawn_good : {Q : ℕ → Type 0} → GoodCuts Q → {low high m : ℕ} → 2 ≤ low → Drawn Q low high m → Q m
drawn_good {Q} G l w =
    let q = asked_good G w.by w.asked in
    ⊎_elim (λ e. subst Q (sym e) q) (λ e. subst Q (sym e) (G.up w.by (omega (arith, w.from)) q)) w.is

-- then comes level d, of which all is drawn
module _ (d : ℕ) (low : 1 ≤ d) {P C B : ℕ → Type 0} (c : Closing P C (2 ^ (d + 1))) (f : Draws (2 ^ d) (2 ^ (d + 1)) C B) where
  kept : (m : ℕ) → C m → B m
  kept = draws_more f

  drawn : (n m : ℕ) → 2 ^ d ≤ n → n < 2 ^ (d + 1) → Asked C n → (m ≡ n) ⊎ (m ≡ n / 2) → B m
  drawn n m l h a e = (f m).1 (inr (record { by = n; from = l; below = h; asked = a; is = e }))

  of_level : (m : ℕ) → 2 ^ d ≤ m → m < 2 ^ (d + 1) → B m → Follows B m
  of_level m l h b =
      let a = asked_before d (omega arith) (omega arith) f m l h (inl b) in
      record {
        up = λ _. drawn m (m / 2) l h a (inr refl);
        over = λ _ z. let e = edge_level d m (at_from l h) z in drawn (edge m) (edge m) e.low (at_below e) (asked_across C (edge m) (λ y. omega (arith, edge_mutual m z, edge_low m z)) (subst (Asked C) (sym (edge_mutual m z)) a)) (inl refl);
      }

  pub closing_level : Closing P B (2 ^ d)
  closing_level = record {
    holds = λ m p. kept m (c.holds m p);
    least = λ r G sub m b. ⊎_elim (c.least r G sub m) (λ w. drawn_good G (omega (arith, pow_mono {i = 1} {j = d} low)) (record { by = w.by; from = w.from; below = w.below; asked = asked_more (c.least r G sub) w.by w.asked; is = w.is })) ((f m).0 b);
    follow = λ m l b. go m l b (dec_lt m (2 ^ (d + 1)));
  }
    where
      go : (m : ℕ) → 2 ^ d ≤ m → B m → Dec (m < 2 ^ (d + 1)) → Follows B m
      go m l b (yes h) = of_level m l h b
      go m l b (no h) =
          let w = c.follow m (omega arith) (⊎_elim (λ q. q) (λ x. absurd (⊎_elim (λ e. omega (arith, x.below)) (λ e. omega (arith, x.below)) x.is)) ((f m).0 b)) in
          record { up = λ i. kept (m / 2) (w.up i); over = λ i z. kept (edge m) (w.over i z) }

-- at node 1 the set is the smallest good one
pub closing_ends : {P C : ℕ → Type 0} → P 1 → Closing P C 2 → Smallest P C
closing_ends p c = record {
  good = record { root = c.holds 1 p; up = λ n h q. (c.follow n h q).up h; over = λ n h q. (c.follow n h q).over h };
  holds = c.holds;
  least = c.least;
}
