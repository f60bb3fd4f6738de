-- A pinned leaf's triangle is never covered by a coarser leaf: whatever calls follow, it is a leaf or is cut further, and every leaf inside it is
-- pinned, as long as none of those is unpinned.
use mathlib.Core.Path.{◌≡◌, refl, sym, ap, ◌∙◌, subst, subst⁻¹}
use mathlib.Core.Logic.Iff
use mathlib.Core.Logic.{◌≢◌, ◌⊎◌, inl, inr, ⊎_map, ◌↔◌}
use mathlib.Core.List.{List}
use Prim.Native.Nat.{ℕ, suc, ◌+◌, ◌*◌, ◌/◌, ◌%◌, ◌^◌, ◌<◌}
use native.Mathlib.Decide.{ℕ_discrete}
use native.Mathlib.Omega.{arith}
use Rattle.bits.specs.Bits.{Bytes}
use Rattle.nodes.specs.Neighbours.{edge}
use Rattle.tables.specs.Table.{Row, Outcome}
use Rattle.cuts.proofs.Leaves.{leaf_same}
use Rattle.panel.specs.Panels.{CutOf, Good, LeafOf, pin_of, Pinned}
use Rattle.panel.specs.Calls.{Split, Bare, Merge, PinAt, Pin, Unpin, Mended, Mend}
use Rattle.panel.proofs.GoodPanels.{dec_cuts, leaf_before}
use Rattle.panel.proofs.Pinning.{pinned_cuts, pinned_other, put_leaf, put_stays}
use Rattle.mending.proofs.Once.{good_unchanged}
use Rattle.cutting.proofs.Merging.{together_mergeable, removed}
use Rattle.cutting.proofs.Keeping.{bare}
use Rattle.evidence.proofs.Inside.{InsideBy, left_in, same_leaf, leaf_inside}
use Rattle.evidence.proofs.Sequences.{SplitDone, split_done, MergeDone, merge_done, stays_good}

-- in panel t node l is a leaf or is cut, and every leaf inside it is pinned
pub record Held (t : List ℕ) (l : ℕ) : Type 0 where
  pub there : LeafOf t l ⊎ CutOf t l
  pub pins : (m j : ℕ) → LeafOf t m → InsideBy j m l → Pinned t m

-- the panels that any outcomes of split, merge, pin and unpin lead to from s, where no unpin of a leaf inside l is done
pub data Since (s : List ℕ) (l : ℕ) : List ℕ → Type 0 where
  start : Since s l s
  split : {t u : List ℕ} {k n : ℕ} → Since s l t → Split t k n u → Since s l u
  merged : {t u : List ℕ} {k n : ℕ} → Since s l t → Merge t k n u → Since s l u
  pinned : {t u : List ℕ} {k n : ℕ} → Since s l t → Pin t k n u → Since s l u
  unpinned : {t u : List ℕ} {k n : ℕ} → Since s l t → Unpin t k n u → (n ≡ 0 → (j : ℕ) → InsideBy j k l → ⊥) → Since s l u

held_first : {s : List ℕ} {l : ℕ} → Good s → LeafOf s l → Pinned s l → Held s l
held_first {s} {l} G L p = record { there = inl L; pins = λ m j M e. subst⁻¹ (Pinned s) (same_leaf G.cuts j M L e) p }

module _ {t u : List ℕ} {l : ℕ} (T : Good t) (H : Held t l) where
  -- ---- a split cuts leaves, and passes their pins on

  held_split : {k : ℕ} → Split t k 0 u → Held u l
  held_split {k} o = record { there = there H.there; pins = pins }
    where
      d : SplitDone t k u
      d = split_done o

      old : (n : ℕ) → CutOf t n → CutOf u n
      old n c = d.made.cuts.holds n (inl c)

      there : LeafOf t l ⊎ CutOf t l → LeafOf u l ⊎ CutOf u l
      there (inr c) = inr (old l c)
      there (inl L) = go (dec_cuts d.made.good l)
        where
          go : Dec (CutOf u l) → LeafOf u l ⊎ CutOf u l
          go (yes c) = inr c
          go (no c) = inl (record { low = L.low; uncut = c; parent = old (l / 2) L.parent })

      pins : (m j : ℕ) → LeafOf u m → InsideBy j m l → Pinned u m
      pins m j M e =
          let (i, O) = leaf_before t T u old m M in
          let (h, q) = leaf_inside T.cuts m i j O H.there e in
          (d.made.pins (m / 2 ^ i) m i O M refl).1 (H.pins (m / 2 ^ i) h O q)

  -- ---- a merge removes no pinned leaf

  module _ {k : ℕ} (o : Merge t k 0 u) where
    d : MergeDone t k u
    d = merge_done o

    -- the cuts that it takes back
    abbrev Gone : ℕ → Type 0
    Gone n = (n ≡ k / 2) ⊎ (n ≡ edge (k / 2))

    kids : (n : ℕ) → Gone n → CutOf t n → LeafOf t (2 * n) × LeafOf t (2 * n + 1)
    kids = removed T (together_mergeable T d.leaf d.deep d.together)

    -- none of them lies inside l
    outside : (n j : ℕ) → Gone n → CutOf t n → InsideBy j n l → ⊥
    outside n j g c e = (bare T d.unpinned n g c).left (H.pins (2 * n) (suc j) (kids n g c).0 (left_in j n e))

    -- what is cut and not taken back is cut after it
    stays : (n : ℕ) → CutOf t n → (Gone n → ⊥) → CutOf u n
    stays n c f = (d.made.cuts n).1 (c, λ e. f (inl e), λ e. f (inr e))

    -- l is not one of the leaves removed
    parent_stays : LeafOf t l → Gone (l / 2) → ⊥
    parent_stays L g =
        let b = bare T d.unpinned (l / 2) g L.parent in
        let p = H.pins l 0 L (let h : l / 2 ^ 0 ≡ l = omega arith in h) in
        go b p (ℕ_discrete (l % 2) 0)
      where
        go : Bare t (l / 2) → Pinned t l → Dec (l % 2 ≡ 0) → ⊥
        go b p (yes z) = b.left (subst (Pinned t) (let h : l ≡ 2 * (l / 2) = omega arith in h) p)
        go b p (no z) = b.right (subst (Pinned t) (let h : l ≡ 2 * (l / 2) + 1 = omega arith in h) p)

    held_merge : Held u l
    held_merge = record { there = there H.there; pins = pins }
      where
        there : LeafOf t l ⊎ CutOf t l → LeafOf u l ⊎ CutOf u l
        there (inl L) = inl (record { low = L.low; uncut = λ c. L.uncut ((d.made.cuts l).0 c).0; parent = stays (l / 2) L.parent (parent_stays L) })
        there (inr c) = inr (stays l c (λ g. outside l 0 g c (let h : l / 2 ^ 0 ≡ l = omega arith in h)))

        pins : (m j : ℕ) → LeafOf u m → InsideBy j m l → Pinned u m
        pins m j M e = go (dec_cuts T m)
          where
            go : Dec (CutOf t m) → Pinned u m
            go (yes c) = absurd (M.uncut (stays m c (λ g. outside m j g c e)))
            go (no c) =
                let O : LeafOf t m = record { low = M.low; uncut = c; parent = ((d.made.cuts (m / 2)).0 M.parent).0 } in
                (d.made.pins m M).1 (O, H.pins m j O e)

  -- ---- a pin put on leaf k changes no other leaf's

  held_put : {k v : ℕ} → v < 2 → LeafOf t k → PinAt t k v u → (v ≢ 1 → (j : ℕ) → InsideBy j k l → ⊥) → Held u l
  held_put {k} {v} h K P f = record { there = ⊎_map (leaf_same (λ n _. back n) l) (back l).0 H.there; pins = pins }
    where
      back : (n : ℕ) → CutOf t n ↔ CutOf u n
      back n = Iff.symm (pinned_cuts T K h P n)

      pins : (m j : ℕ) → LeafOf u m → InsideBy j m l → Pinned u m
      pins m j M e = go (ℕ_discrete m k) (ℕ_discrete v 1)
        where
          O : LeafOf t m
          O = leaf_same (λ n _. Iff.symm (back n)) m M

          go : Dec (m ≡ k) → Dec (v ≡ 1) → Pinned u m
          go (no z) w = pinned_other T K h P m O z ∙ H.pins m j O e
          go (yes q) (yes w) = ap (pin_of u) q ∙ P.pin ∙ w
          go (yes q) (no w) = absurd (f w j (ap (λ x. x / 2 ^ j) (sym q) ∙ e))

-- a call that is refused leaves all as it was
or_kept : {rows : List Row} {Done : List ℕ → Type 0} {n l : ℕ} {t u : List ℕ} → Held t l → Outcome rows (List ℕ) Done (λ x. x ≡ t) n u → (n ≡ 0 → Held u l) → Held u l
or_kept {n = n} {l} {t} {u} H o f = go (ℕ_discrete n 0)
  where
    go : Dec (n ≡ 0) → Held u l
    go (yes z) = f z
    go (no z) = subst⁻¹ (λ x. Held x l) (o.refused z) H

-- a good panel that is mended stays as it is
pub mended_stays : {t : List ℕ} {n : ℕ} {x : Mended} (P : List ℕ → Type 0) → Bytes t → Bytes x.panel → Mend t n x → Good t → P t → P x.panel
mended_stays {t} {n} {x} P bt bx o G = subst⁻¹ P (ap (λ (y : Mended). y.panel) (good_unchanged t n x bt bx G o).1)

-- ---- any run of calls

since_good : {s t : List ℕ} {l : ℕ} → Good s → Since s l t → Good t
since_good {s} {l = l} G a = go a
  where
    go : {t : List ℕ} → Since s l t → Good t
    go start = G
    go (split r o) = stays_good (λ x d. d.good) (go r) o
    go (merged r o) = stays_good (λ x d. d.good) (go r) o
    go (pinned r o) = (put_stays (omega arith) (go r) o).0
    go (unpinned r o f) = (put_stays (omega arith) (go r) o).0

pub never_covered : {s t : List ℕ} {l : ℕ} → Good s → LeafOf s l → Pinned s l → Since s l t → Held t l
never_covered {s} {l = l} G L p a = go a
  where
    go : {t : List ℕ} → Since s l t → Held t l
    go start = held_first G L p
    go (split {t} {u} {k} r o) =
        let H = go r in or_kept H o (λ z. held_split (since_good G r) H (subst (λ x. Split t k x u) z o))
    go (merged {t} {u} {k} r o) =
        let H = go r in or_kept H o (λ z. held_merge (since_good G r) H (subst (λ x. Merge t k x u) z o))
    go (pinned r o) =
        let H = go r in or_kept H o (λ z. held_put (since_good G r) H (omega arith) (put_leaf o z) (o.done z) (λ w. absurd (w refl)))
    go (unpinned r o f) =
        let H = go r in or_kept H o (λ z. held_put (since_good G r) H (omega arith) (put_leaf o z) (o.done z) (λ _. f z))
