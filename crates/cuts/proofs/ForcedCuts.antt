-- The cuts that a cut forces: its long side neighbour, that one's parent, and so on up. They close a good set again, and every good set
-- that holds the first holds them all.
use mathlib.Core.Path.{◌≡◌, refl, sym, ap, ◌∙◌, subst}
use mathlib.Core.Bool.{true, decide, decide_iff}
use mathlib.Core.Logic.Iff
use mathlib.Core.Logic.{◌≢◌, ◌⊎◌, inl, inr, ⊎_elim, ⊎_map, ◌↔◌}
use mathlib.Core.List.{List, [], ◌∷◌, Memᴰ}
use Prim.Native.Nat.{ℕ, zero, suc, ◌*◌, ◌/◌, ◌≤◌}
use native.Mathlib.Decide.{ℕ_discrete}
use native.Mathlib.Omega.{arith}
use lib.ListN.{length}
use lib.Pow.{pow_pos}
use Rattle.nodes.specs.Neighbours.{edge}
use Rattle.nodes.proofs.Depths.{At, at_parent}
use Rattle.nodes.proofs.Edges.{edge_root, edge_mutual, edge_level, edge_quarter}
use Rattle.cuts.specs.Cuts.{GoodCuts, Smallest}

-- ---- good sets

-- good asks only of nodes
pub good_iff : {P Q : ℕ → Type 0} → ((n : ℕ) → 1 ≤ n → (P n ↔ Q n)) → GoodCuts P → GoodCuts Q
good_iff e G = record {
  root = (e 1 (omega arith)).0 G.root;
  up = λ n h q. (e (n / 2) (omega arith)).0 (G.up n h ((e n (omega arith)).1 q));
  over = λ n h q z. (e (edge n) (omega arith)).0 (G.over n h ((e n (omega arith)).1 q) z);
}

-- ---- what a cut forces

-- the cuts that k's cut forces, with k's own: d is k's depth, and node 1 is cut already
abbrev pub Forced : ℕ → ℕ → ℕ → Type 0
Forced zero k n = ⊥
Forced (suc d) k n = (n ≡ k) ⊎ ((edge k ≢ 0) × ((n ≡ edge k) ⊎ Forced d (edge k / 2) n))

abbrev pub Added : (ℕ → Type 0) → ℕ → ℕ → ℕ → Type 0
Added P d k n = P n ⊎ Forced d k n

module _ (P : ℕ → Type 0) (G : GoodCuts P) where
  over_one : (n : ℕ) → 1 ≤ n → P n → edge n ≢ 0 → P (edge n)
  over_one n h p e = go (ℕ_discrete n 1)
    where
      go : Dec (n ≡ 1) → P (edge n)
      go (yes r) = absurd (e (ap edge r ∙ edge_root))
      go (no r) = G.over n (omega arith) p e

  -- the parent of the node across k's long side has a cut parent
  next_parent : (d k : ℕ) → At (suc (suc d)) k → edge k ≢ 0 → P (k / 2) → P (edge k / 2 / 2)
  next_parent d k a e p = go (edge_quarter k (omega (arith, pow_pos d)) e)
    where
      b : At (suc (suc d)) (edge k)
      b = edge_level (suc (suc d)) k a e

      q : P (k / 4)
      q = subst P (omega arith) (G.up (k / 2) (omega (arith, pow_pos d)) p)

      go : (edge k / 4 ≡ k / 4) ⊎ (edge k / 4 ≡ edge (k / 4)) → P (edge k / 2 / 2)
      go (inl r) = subst P (omega arith) q
      go (inr r) = subst P (omega arith) (over_one (k / 4) (omega (arith, pow_pos d)) q λ z. omega (arith, pow_pos d, b))

  pub next : (d k : ℕ) → At (suc d) k → P (k / 2) → edge k ≢ 0 → 2 ≤ edge k / 2 → P (edge k / 2 / 2)
  next zero k a p e h = absurd (omega (arith, edge_level 1 k a e))
  next (suc d) k a p e h = next_parent d k a e p

  lift : (d k : ℕ) → edge k ≢ 0 → (n : ℕ) → Added P d (edge k / 2) n → Added P (suc d) k n
  lift d k e n (inl p) = inl p
  lift d k e n (inr r) = inr (inr (e, inr r))

  pub first_added : (d k : ℕ) → At d k → Added P d k k
  first_added zero k a = inl (subst P (omega arith) G.root)
  first_added (suc d) k a = inr (inl refl)

  step_up : (d k : ℕ) → At (suc d) k → P (k / 2) → (edge k ≢ 0 → GoodCuts (Added P d (edge k / 2)))
      → (n : ℕ) → 2 ≤ n → Added P (suc d) k n → Added P (suc d) k (n / 2)
  step_up d k a p ih n h (inl q) = inl (G.up n h q)
  step_up d k a p ih n h (inr (inl r)) = inl (subst (λ x. P (x / 2)) (sym r) p)
  step_up d k a p ih n h (inr (inr (e, inl r))) =
      lift d k e (n / 2) (subst (λ x. Added P d (edge k / 2) (x / 2)) (sym r) (first_added d (edge k / 2) (at_parent (edge_level (suc d) k a e))))
  step_up d k a p ih n h (inr (inr (e, inr r))) = lift d k e (n / 2) ((ih e).up n h (inr r))

  step_over : (d k : ℕ) → (edge k ≢ 0 → GoodCuts (Added P d (edge k / 2)))
      → (n : ℕ) → 2 ≤ n → Added P (suc d) k n → edge n ≢ 0 → Added P (suc d) k (edge n)
  step_over d k ih n h (inl q) z = inl (G.over n h q z)
  step_over d k ih n h (inr (inl r)) z = inr (inr (subst (λ x. edge x ≢ 0) r z, inl (ap edge r)))
  step_over d k ih n h (inr (inr (e, inl r))) z = inr (inl (ap edge r ∙ edge_mutual k e))
  step_over d k ih n h (inr (inr (e, inr r))) z = lift d k e (edge n) ((ih e).over n h (inr r) z)

  -- what is forced closes the set again
  pub added_good : (d k : ℕ) → At d k → (2 ≤ k → P (k / 2)) → GoodCuts (Added P d k)
  added_good zero k a p = record {
    root = inl G.root;
    up = λ n h. ⊎_elim (λ q. inl (G.up n h q)) (λ z. absurd z);
    over = λ n h q z. ⊎_elim (λ q. inl (G.over n h q z)) (λ z. absurd z) q;
  }
  added_good (suc d) k a p =
      let u : P (k / 2) = p (omega (arith, pow_pos d)) in
      let ih : (edge k ≢ 0 → GoodCuts (Added P d (edge k / 2))) = λ e. added_good d (edge k / 2) (at_parent (edge_level (suc d) k a e)) (next d k a u e) in
      record { root = inl G.root; up = step_up d k a u ih; over = step_over d k ih }

-- a good set that holds k holds what k forces
pub already : (Q : ℕ → Type 0) → GoodCuts Q → (d k : ℕ) → At d k → Q k → (n : ℕ) → Forced d k n → Q n
already Q G zero k a q n h = absurd h
already Q G (suc d) k a q n (inl r) = subst Q (sym r) q
already Q G (suc d) k a q n (inr (e, inl r)) = subst Q (sym r) (G.over k (omega (arith, pow_pos d)) q e)
already Q G (suc d) k a q n (inr (e, inr r)) =
    already Q G d (edge k / 2) (at_parent (edge_level (suc d) k a e))
    (G.up (edge k) (omega (arith, pow_pos d, edge_level (suc d) k a e)) (G.over k (omega (arith, pow_pos d)) q e)) n r

-- what is forced is no deeper than k
pub forced_at : (d k n : ℕ) → At d k → Forced d k n → (c : ℕ) × (c ≤ d) × At c n
forced_at zero k n a h = absurd h
forced_at (suc d) k n a (inl r) = (suc d, omega arith, subst (At (suc d)) (sym r) a)
forced_at (suc d) k n a (inr (z, inl r)) = (suc d, omega arith, subst (At (suc d)) (sym r) (edge_level (suc d) k a z))
forced_at (suc d) k n a (inr (z, inr r)) =
    let (c, h, b) = forced_at d (edge k / 2) n (at_parent (edge_level (suc d) k a z)) r in (c, omega arith, b)

-- ---- at most two cuts a level

-- the same cuts as a list, in the order in which they are made: k, its neighbour, and so on from the neighbour's parent
unfoldable pub across : ℕ → List ℕ → List ℕ
across zero xs = []
across (suc e) xs = suc e ∷ xs

unfoldable pub forced_list : ℕ → ℕ → List ℕ
forced_list zero k = []
forced_list (suc d) k = k ∷ across (edge k) (forced_list d (edge k / 2))

across_few : (e : ℕ) (xs : List ℕ) → length (across e xs) ≤ suc (length xs)
unfolding across
across_few zero xs = omega arith
across_few (suc e) xs = omega arith

across_mem : (e : ℕ) (xs : List ℕ) {n : ℕ} → e ≢ 0 → (n ≡ e) ⊎ Memᴰ n xs → Memᴰ n (across e xs)
unfolding across
across_mem zero xs z h = absurd (z refl)
across_mem (suc e) xs z (inl r) = Memᴰ.head r
across_mem (suc e) xs z (inr r) = Memᴰ.tail r

pub few : (d k : ℕ) → length (forced_list d k) ≤ 2 * d
unfolding forced_list
few zero k = omega arith
few (suc d) k = omega (arith, few d (edge k / 2), across_few (edge k) (forced_list d (edge k / 2)))

pub listed : (d k n : ℕ) → Forced d k n → Memᴰ n (forced_list d k)
unfolding forced_list
listed zero k n h = absurd h
listed (suc d) k n (inl r) = Memᴰ.head r
listed (suc d) k n (inr (e, inl r)) = Memᴰ.tail (across_mem (edge k) _ e (inl r))
listed (suc d) k n (inr (e, inr r)) = Memᴰ.tail (across_mem (edge k) _ e (inr (listed d (edge k / 2) n r)))

-- ---- decided

pub dec_or : {A B : Type 0} → Dec A → Dec B → Dec (A ⊎ B)
dec_or (yes a) e = yes (inl a)
dec_or (no a) (yes b) = yes (inr b)
dec_or (no a) (no b) = no (⊎_elim a b)

pub dec_forced : (d k n : ℕ) → Dec (Forced d k n)
dec_forced zero k n = no λ z. z
dec_forced (suc d) k n = dec_or (ℕ_discrete n k) (go (ℕ_discrete (edge k) 0) (dec_or (ℕ_discrete n (edge k)) (dec_forced d (edge k / 2) n)))
  where
    go : Dec (edge k ≡ 0) → Dec ((n ≡ edge k) ⊎ Forced d (edge k / 2) n) → Dec ((edge k ≢ 0) × ((n ≡ edge k) ⊎ Forced d (edge k / 2) n))
    go (yes z) e = no λ h. h.0 z
    go (no z) (yes h) = yes (z, h)
    go (no z) (no h) = no λ x. h x.1

-- ---- the smallest good set

-- the old cuts and what k forces are the smallest good set that holds the old cuts and k's
pub smallest_added : (P : ℕ → Type 0) → GoodCuts P → (d k : ℕ) → At d k → (2 ≤ k → P (k / 2)) → Smallest (λ n. P n ⊎ (n ≡ k)) (Added P d k)
smallest_added P G d k a p = record {
  good = added_good P G d k a p;
  holds = λ n. ⊎_elim inl (λ r. subst (Added P d k) (sym r) (first_added P G d k a));
  least = λ r R sub n. ⊎_elim (λ q. sub n (inl q)) (already (λ m. r m ≡ true) R d k a (sub k (inr refl)) n);
}

pub smallest_iff : {P Q R : ℕ → Type 0} → ((n : ℕ) → (Q n ↔ R n)) → Smallest P Q → Smallest P R
smallest_iff e s = record {
  good = good_iff (λ n h. e n) s.good;
  holds = λ n p. (e n).0 (s.holds n p);
  least = λ r G sub n q. s.least r G sub n ((e n).1 q);
}

pub smallest_of : {P R Q : ℕ → Type 0} → ((n : ℕ) → (P n ↔ R n)) → Smallest P Q → Smallest R Q
smallest_of e s = record {
  good = s.good;
  holds = λ n r. s.holds n ((e n).1 r);
  least = λ r G sub. s.least r G (λ n p. sub n ((e n).0 p));
}

-- .. with k's cut besides
pub smallest_beside : {P R Q : ℕ → Type 0} {k : ℕ} → ((n : ℕ) → (P n ↔ R n)) → Smallest (λ n. P n ⊎ (n ≡ k)) Q → Smallest (λ n. R n ⊎ (n ≡ k)) Q
smallest_beside e = smallest_of (λ n. (⊎_map (e n).0 (λ i. i), ⊎_map (e n).1 (λ i. i)))

-- a smallest good set lies in every decided good set that holds as much
pub smallest_in : {P Q R : ℕ → Type 0} → Smallest P Q → ((n : ℕ) → Dec (R n)) → GoodCuts R → ((n : ℕ) → P n → R n) → (n : ℕ) → Q n → R n
smallest_in {P} {Q} {R} s dec G sub n q =
    (decide_iff (dec n)).0 (s.least (λ m. decide (dec m)) (good_iff (λ m h. Iff.symm (decide_iff (dec m))) G) (λ m p. (decide_iff (dec m)).1 (sub m p)) n q)

-- there is one smallest good set
pub smallest_one : {P Q R : ℕ → Type 0} → Smallest P Q → Smallest P R → ((n : ℕ) → Dec (Q n)) → ((n : ℕ) → Dec (R n)) → (n : ℕ) → Q n ↔ R n
smallest_one s t dq dr n = (smallest_in s dr t.good t.holds n, smallest_in t dq s.good s.holds n)

-- a good set is its own smallest
pub smallest_own : {P : ℕ → Type 0} → GoodCuts P → Smallest (λ n. P n ⊎ (n ≡ 1)) P
smallest_own {P} G = record {
  good = G;
  holds = λ n. ⊎_elim (λ p. p) (λ e. subst P (sym e) G.root);
  least = λ r R sub n p. sub n (inl p);
}

-- the smallest good set that holds P and k is P with what k forces
pub smallest_iff_added : {P Q : ℕ → Type 0} → GoodCuts P → ((n : ℕ) → Dec (P n)) → (d k : ℕ) → At d k → (2 ≤ k → P (k / 2))
    → Smallest (λ n. P n ⊎ (n ≡ k)) Q → (n : ℕ) → Q n ↔ Added P d k n
smallest_iff_added {P} {Q} G dec d k a p s n = (
  smallest_in s (λ m. dec_or (dec m) (dec_forced d k m)) t.good t.holds n,
  ⊎_elim (λ q. s.holds n (inl q)) (already Q s.good d k a (s.holds k (inr refl)) n),
)
  where
    t : Smallest (λ m. P m ⊎ (m ≡ k)) (Added P d k)
    t = smallest_added P G d k a p
