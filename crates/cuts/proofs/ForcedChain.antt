-- Split goes up from leaf k, two cuts a step: what is cut so far and what the next node forces are always, together, what k forces.
use mathlib.Core.Path.{◌≡◌, ap, subst}
use mathlib.Core.Logic.Iff
use mathlib.Core.Logic.{◌≢◌, ◌⊎◌, inl, inr, ⊎_elim, ◌↔◌}
use Prim.Native.Nat.{ℕ, suc, ◌/◌, ◌≤◌, ◌<◌}
use native.Mathlib.Omega.{arith}
use lib.Pow.{pow_pos}
use Rattle.nodes.specs.Depth.{depth_of}
use Rattle.nodes.specs.Neighbours.{edge}
use Rattle.nodes.proofs.Depths.{At, at_parent, at_depth, depth_is}
use Rattle.nodes.proofs.Edges.{edge_level}
use Rattle.cuts.specs.Cuts.{GoodCuts, Smallest, Leaf}
use Rattle.cuts.proofs.ForcedCuts.{Forced, Added, already, next, smallest_added, smallest_iff}

-- from the good cuts P, on the way to k's cut, the cuts C are made, and node m of depth d is next
pub record Chain (P : ℕ → Type 0) (k : ℕ) (C : ℕ → Type 0) (d m : ℕ) : Type 0 where
  pub at : At d m
  pub parent : 2 ≤ m → P (m / 2)
  pub old : (n : ℕ) → P n → C n
  pub deep : (n : ℕ) → C n → P n ⊎ (d < depth_of n)
  pub made : (n : ℕ) → C n → Added P (depth_of k) k n
  pub rest : (n : ℕ) → Forced d m n → Forced (depth_of k) k n
  pub all : (n : ℕ) → Forced (depth_of k) k n → C n ⊎ Forced d m n

module _ {P : ℕ → Type 0} (G : GoodCuts P) {k : ℕ} where
  pub chain_start : Leaf P k → Chain P k P (depth_of k) k
  chain_start l = record {
    at = at_depth (omega (arith, l.low));
    parent = λ h. l.parent;
    old = λ n p. p;
    deep = λ n p. inl p;
    made = λ n p. inl p;
    rest = λ n f. f;
    all = λ n f. inr f;
  }

  module _ {C : ℕ → Type 0} {d m : ℕ} (c : Chain P k C d m) where
    -- a node that is cut by now was cut before
    pub chain_old : C m → P m
    chain_old q = ⊎_elim (λ p. p) (λ h. absurd (omega (arith, depth_is c.at))) (c.deep m q)

    -- where the next node is cut already, all is done
    pub chain_cut : C m → (n : ℕ) → C n ↔ Added P (depth_of k) k n
    chain_cut q n =
        (c.made n, ⊎_elim (c.old n) (λ f. ⊎_elim (λ x. x) (λ g. c.old n (already P G d m c.at (chain_old q) n g)) (c.all n f)))

    -- node 1 is
    pub chain_root : m ≤ 1 → C m
    chain_root h = c.old m (subst P (omega (arith, c.at.low, pow_pos d)) G.root)

  module _ {C : ℕ → Type 0} {d m : ℕ} (c : Chain P k C (suc d) m) where
    m_low : 2 ≤ m
    m_low = omega (arith, c.at, pow_pos d)

    -- where it has no neighbour, its own cut is the last
    pub chain_last : {B : ℕ → Type 0} → edge m ≡ 0 → ((n : ℕ) → B n ↔ (C n ⊎ (n ≡ m))) → (n : ℕ) → B n ↔ Added P (depth_of k) k n
    chain_last z b n = (
      λ q. ⊎_elim (c.made n) (λ e. inr (c.rest n (inl e))) ((b n).0 q),
      ⊎_elim (λ p. (b n).1 (inl (c.old n p))) (λ f. (b n).1 (⊎_elim inl own (c.all n f))),
    )
      where
        own : Forced (suc d) m n → C n ⊎ (n ≡ m)
        own (inl e) = inr e
        own (inr (w, f)) = absurd (w z)

    -- else its cut and its neighbour's are made, and the neighbour's parent is next
    pub chain_step : {B : ℕ → Type 0} → edge m ≢ 0 → ((n : ℕ) → B n ↔ (C n ⊎ (n ≡ m) ⊎ (n ≡ edge m))) → Chain P k B d (edge m / 2)
    chain_step {B} z b = record {
      at = at_parent e_at;
      parent = next P G d m c.at (c.parent m_low) z;
      old = λ n p. (b n).1 (inl (c.old n p));
      deep = λ n q. deeper n ((b n).0 q);
      made = λ n q. was n ((b n).0 q);
      rest = λ n f. c.rest n (inr (z, inr f));
      all = λ n f. ⊎_elim (λ q. inl ((b n).1 (inl q))) (own n) (c.all n f);
    }
      where
        e_at : At (suc d) (edge m)
        e_at = edge_level (suc d) m c.at z

        deeper : (n : ℕ) → C n ⊎ (n ≡ m) ⊎ (n ≡ edge m) → P n ⊎ (d < depth_of n)
        deeper n (inl q) = ⊎_elim inl (λ h. inr (omega arith)) (c.deep n q)
        deeper n (inr (inl e)) = inr (omega (arith, ap depth_of e, depth_is c.at))
        deeper n (inr (inr e)) = inr (omega (arith, ap depth_of e, depth_is e_at))

        was : (n : ℕ) → C n ⊎ (n ≡ m) ⊎ (n ≡ edge m) → Added P (depth_of k) k n
        was n (inl q) = c.made n q
        was n (inr (inl e)) = inr (c.rest n (inl e))
        was n (inr (inr e)) = inr (c.rest n (inr (z, inl e)))

        own : (n : ℕ) → Forced (suc d) m n → B n ⊎ Forced d (edge m / 2) n
        own n (inl e) = inl ((b n).1 (inr (inl e)))
        own n (inr (w, inl e)) = inl ((b n).1 (inr (inr e)))
        own n (inr (w, inr f)) = inr f

  -- what is made then is the smallest good set
  pub chain_smallest : {C : ℕ → Type 0} → Leaf P k → ((n : ℕ) → C n ↔ Added P (depth_of k) k n) → Smallest (λ n. P n ⊎ (n ≡ k)) C
  chain_smallest l e = smallest_iff (λ n. Iff.symm (e n)) (smallest_added P G (depth_of k) k (at_depth (omega (arith, l.low))) (λ h. l.parent))
