-- How many leaves a split makes: at least one more, and at most two more for each level of the leaf.
use mathlib.Core.Path.{◌≡◌, refl, sym, ap, ◌∙◌, subst}
use mathlib.Core.Logic.Iff
use mathlib.Core.Logic.{◌≢◌, ◌⊎◌, inl, inr, ⊎_elim, ◌↔◌, ite, if_pos, if_neg}
use mathlib.Core.List.Memᴰ
use mathlib.Core.List.{List, [], ◌∷◌, map, Memᴰ}
use Prim.Native.Nat.{ℕ, zero, suc, ◌+◌, ◌*◌, ◌^◌, ◌≤◌, ◌<◌}
use native.Mathlib.Decide.{ℕ_discrete, dec_lt}
use native.Mathlib.Omega.{arith}
use lib.ListN.{length, length-map}
use Rattle.nodes.specs.Depth.{depth_of}
use Rattle.nodes.proofs.Depths.{at_depth}
use Rattle.sums.specs.Rank.{rank}
use Rattle.words.specs.Words.{leaf_bit}
use Rattle.sums.proofs.Ranks.{rank_ext}
use Rattle.sums.proofs.Counts.{word_all}
use Rattle.cuts.specs.Cuts.{Cut, named, Leaf, place_of}
use Rattle.panel.specs.Panels.{deep_of, CutOf, Good, LeafOf, leaf_count}
use Rattle.panel.specs.Calls.{SplitAt}
use Rattle.cuts.proofs.Places.{cut_set}
use Rattle.cuts.proofs.Leaves.{GoodBits}
use Rattle.panel.proofs.GoodPanels.{dec_cuts, good_bits}
use Rattle.panel.proofs.SameBytes.{deep_same, cut_of}
use Rattle.cuts.proofs.Following.{place_cut}
use Rattle.cuts.proofs.OneBit.{named_place}
use Rattle.cuts.proofs.ForcedCuts.{Added, first_added, forced_list, few, listed, smallest_iff_added}

-- ---- counts when bits change

-- one bit's change is the count's
pub rank_one : (f g : ℕ → ℕ) (p m : ℕ) → p < m → ((q : ℕ) → q < m → q ≢ p → g q ≡ f q) → rank g m + f p ≡ rank f m + g p
unfolding rank
rank_one f g p zero h e = absurd (omega arith)
rank_one f g p (suc m) h e = go (ℕ_discrete m p) (rank_one f g p m)
  where
    go : Dec (m ≡ p) → (p < m → ((q : ℕ) → q < m → q ≢ p → g q ≡ f q) → rank g m + f p ≡ rank f m + g p)
        → rank g m + g m + f p ≡ rank f m + f m + g p
    go (yes r) ih = omega (arith, rank_ext g f m (λ q l. e q (omega arith) (omega arith)), ap f r, ap g r)
    go (no r) ih = omega (arith, ih (omega arith) (λ q l. e q (omega arith)), e m (omega arith) r)

pub rank_le : (f g : ℕ → ℕ) (m : ℕ) → ((p : ℕ) → p < m → f p ≤ g p) → rank f m ≤ rank g m
unfolding rank
rank_le f g zero e = omega arith
rank_le f g (suc m) e = omega (arith, rank_le f g m (λ p l. e p (omega arith)), e m (omega arith))

-- more bits, one of them new
pub rank_more : (f g : ℕ → ℕ) (m p : ℕ) → p < m → f p < g p → ((q : ℕ) → q < m → f q ≤ g q) → rank f m < rank g m
unfolding rank
rank_more f g zero p h s e = absurd (omega arith)
rank_more f g (suc m) p h s e = go (ℕ_discrete m p) (rank_more f g m p)
  where
    go : Dec (m ≡ p) → (p < m → f p < g p → ((q : ℕ) → q < m → f q ≤ g q) → rank f m < rank g m) → rank f m + f m < rank g m + g m
    go (yes r) ih = omega (arith, rank_le f g m (λ q l. e q (omega arith)), ap f r, ap g r)
    go (no r) ih = omega (arith, ih (omega arith) s (λ q l. e q (omega arith)), e m (omega arith))

-- f with the bit at place p set to v
put : (ℕ → ℕ) → ℕ → ℕ → ℕ → ℕ
put f p v q = ite (ℕ_discrete q p) v (f q)

put_same : (f : ℕ → ℕ) (p v q : ℕ) → q ≡ p → put f p v q ≡ v
unfolding put
put_same f p v q e = if_pos (ℕ_discrete q p) e v (f q)

put_other : (f : ℕ → ℕ) (p v q : ℕ) → q ≢ p → put f p v q ≡ f q
unfolding put
put_other f p v q e = if_neg (ℕ_discrete q p) e v (f q)

rank_put : (f : ℕ → ℕ) (p v m : ℕ) → v ≤ 1 → rank (put f p v) m ≤ rank f m + 1
rank_put f p v m h = go (dec_lt p m)
  where
    go : Dec (p < m) → rank (put f p v) m ≤ rank f m + 1
    go (yes l) = omega (arith, rank_one f (put f p v) p m l (λ q i z. put_other f p v q z), put_same f p v p refl)
    go (no l) = omega (arith, rank_ext (put f p v) f m (λ q i. put_other f p v q (omega arith)))

-- bits that differ in no place but those of a list
pub rank_list : (g : ℕ → ℕ) → ((p : ℕ) → g p ≤ 1) → (m : ℕ) (ps : List ℕ) (f : ℕ → ℕ)
    → ((p : ℕ) → p < m → (g p ≡ f p) ⊎ Memᴰ p ps) → rank g m ≤ rank f m + length ps
rank_list g s m [] f e = omega (arith, rank_ext g f m (λ p l. ⊎_elim (λ r. r) (λ r. absurd (Memᴰ.not-nil r)) (e p l)))
rank_list g s m (x ∷ ps) f e = omega (arith, rank_list g s m ps (put f x (g x)) (λ p l. next p (ℕ_discrete p x) (e p l)), rank_put f x (g x) m (s x))
  where
    next : (p : ℕ) → Dec (p ≡ x) → (g p ≡ f p) ⊎ Memᴰ p (x ∷ ps) → (g p ≡ put f x (g x) p) ⊎ Memᴰ p ps
    next p (yes r) h = inl (ap g r ∙ sym (put_same f x (g x) p r))
    next p (no r) (inl h) = inl (h ∙ sym (put_other f x (g x) p r))
    next p (no r) (inr h) = ⊎_elim (λ z. absurd (r z)) inr (Memᴰ.cases_cons h)

-- ---- after a split

module _ (D : ℕ) (f g : ℕ → ℕ) (F : GoodBits D f) (H : GoodBits D g) (k : ℕ) (l : Leaf (Cut D f) k)
    (e : (n : ℕ) → Cut D g n ↔ Added (Cut D f) (depth_of k) k n) where
  -- a set bit stays
  stays : (p : ℕ) → p < 2 ^ D → f p ≡ 1 → g p ≡ 1
  stays p h s = go (ℕ_discrete p 0)
    where
      go : Dec (p ≡ 0) → g p ≡ 1
      go (yes z) = ap g z ∙ H.start
      go (no z) = (cut_set D g H.deep (record { low = omega arith; high = h; names = refl })).0 ((e (named D p)).1 (inl (place_cut D f (omega arith) h s)))

  grows : (p : ℕ) → p < 2 ^ D → f p ≤ g p
  grows p h = go (ℕ_discrete (f p) 1)
    where
      go : Dec (f p ≡ 1) → f p ≤ g p
      go (yes s) = omega (arith, stays p h s)
      go (no s) = omega (arith, F.small p)

  -- a bit that is new is that of a forced cut
  new : (p : ℕ) → p < 2 ^ D → (g p ≡ f p) ⊎ Memᴰ p (map (λ n. place_of D (2 * n + 1)) (forced_list (depth_of k) k))
  new p h = go (ℕ_discrete p 0) (ℕ_discrete (g p) 1) (ℕ_discrete (f p) 1)
    where
      forced : 0 < p → (f p ≡ 1 → ⊥) → Added (Cut D f) (depth_of k) k (named D p) → Memᴰ p (map (λ n. place_of D (2 * n + 1)) (forced_list (depth_of k) k))
      forced w s (inl c) = absurd (s ((cut_set D f F.deep (record { low = w; high = h; names = refl })).0 c))
      forced w s (inr c) =
          subst (λ x. Memᴰ x (map (λ n. place_of D (2 * n + 1)) (forced_list (depth_of k) k))) (sym (named_place D F.deep p w h))
          (Memᴰ.map (λ n. place_of D (2 * n + 1)) (listed (depth_of k) k (named D p) c))

      go : Dec (p ≡ 0) → Dec (g p ≡ 1) → Dec (f p ≡ 1) → (g p ≡ f p) ⊎ Memᴰ p (map (λ n. place_of D (2 * n + 1)) (forced_list (depth_of k) k))
      go (yes z) t s = inl (ap g z ∙ H.start ∙ sym F.start ∙ ap f (sym z))
      go (no z) (yes t) (yes s) = inl (t ∙ sym s)
      go (no z) (yes t) (no s) = inr (forced (omega arith) s ((e (named D p)).0 (place_cut D g (omega arith) h t)))
      go (no z) (no t) s = inl (omega (arith, grows p h, H.small p, F.small p))

  -- at most two cuts, and so two leaves, a level
  pub split_few : rank g (2 ^ D) ≤ rank f (2 ^ D) + 2 * depth_of k
  split_few =
      omega (
        arith,
        rank_list g H.small (2 ^ D) (map (λ n. place_of D (2 * n + 1)) (forced_list (depth_of k) k)) f new,
        length-map (forced_list (depth_of k) k) (λ n. place_of D (2 * n + 1)),
        few (depth_of k) k,
      )

  -- at least k's own
  pub split_more : rank f (2 ^ D) < rank g (2 ^ D)
  split_more = go ((e k).1 own)
    where
      own : Added (Cut D f) (depth_of k) k k
      own = first_added (Cut D f) F.cuts (depth_of k) k (at_depth (omega (arith, l.low)))

      go : Cut D g k → rank f (2 ^ D) < rank g (2 ^ D)
      go c = rank_more f g (2 ^ D) c.place c.high (omega (arith, c.set, F.small c.place, was)) grows
        where
          was : f c.place ≢ 1
          was s = l.uncut (record { place = c.place; low = c.low; high = c.high; set = s; names = c.names })

-- the count grows by at least one, and by at most two for each level of the leaf
pub split_grows : {s t : List ℕ} → Good s → {k : ℕ} → LeafOf s k → SplitAt s k t → (leaf_count s < leaf_count t) × (leaf_count t ≤ leaf_count s + 2 * depth_of k)
split_grows {s} {t} G {k} l a =
    (omega (arith, cs, ct, split_more (deep_of s) f g (good_bits s G) after k l cuts), omega (arith, cs, ct, split_few (deep_of s) f g (good_bits s G) after k l cuts))
  where
    f : ℕ → ℕ
    f = leaf_bit (deep_of s) s

    g : ℕ → ℕ
    g = leaf_bit (deep_of s) t

    e : deep_of t ≡ deep_of s
    e = deep_same s t a.long

    after : GoodBits (deep_of s) g
    after = subst (λ D. GoodBits D (leaf_bit D t)) e (good_bits t a.good)

    cs : leaf_count s ≡ rank f (2 ^ deep_of s)
    cs = word_all (deep_of s) s G.right.sums

    ct : leaf_count t ≡ rank g (2 ^ deep_of s)
    ct = word_all (deep_of t) t a.good.right.sums ∙ ap (λ D. rank (leaf_bit D t) (2 ^ D)) e

    cuts : (n : ℕ) → Cut (deep_of s) g n ↔ Added (CutOf s) (depth_of k) k n
    cuts n =
        Iff.trans (Iff.symm (cut_of s t a.long n))
        (smallest_iff_added G.cuts (dec_cuts G) (depth_of k) k (at_depth (omega (arith, l.low))) (λ h. l.parent) a.cuts n)
