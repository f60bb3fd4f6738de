-- Which nodes the bits of a leaf word of 32 bits name, which of them stand across from each other, and what a drawn word has cut.
use mathlib.Core.Path.{◌≡◌, refl, sym, ap, ◌∙◌, subst}
use mathlib.Core.Logic.{◌≢◌, ◌⊎◌, inl, inr, ⊎_elim, ◌↔◌}
use mathlib.Core.List.{List}
use Prim.Native.Nat.{ℕ, zero, suc, ◌+◌, ◌-◌, ◌*◌, ◌/◌, ◌%◌, ◌^◌, ◌≤◌, ◌<◌}
use native.Mathlib.Decide.{ℕ_discrete, dec_le, dec_lt}
use native.Mathlib.Omega.{arith}
use lib.ListN.{length}
use lib.Pow.{pow-add}
use Rattle.bits.specs.Bits.{digit, bit, field}
use Rattle.bits.specs.inner.Puts.{put_field}
use Rattle.bits.proofs.Laws.{run-digit, bit_lt, digit_lt, bit_in, bit_out, length-put_field}
use Rattle.nodes.specs.Depth.{depth_of}
use Rattle.nodes.specs.Neighbours.{edge}
use Rattle.nodes.proofs.Depths.{At, pow_next, at_from, at_below, at_depth}
use Rattle.words.specs.Words.{leaf_bit}
use Rattle.words.specs.inner.Working.{Room}
use Rattle.words.proofs.Rooms.{bounds}
use Rattle.cuts.specs.Cuts.{Cut, named}
use Rattle.cuts.specs.inner.Closing.{Asked, Drawn, Draws, CutsDrawn}
use Rattle.cuts.proofs.Places.{cut_place, cut_place_lem, cut_set}
use Rattle.cuts.proofs.OneBit.{moved}
use Rattle.leafwords.proofs.Crossing.{first_none, first_some, second_across, third_across, fourth_across, across_4, across_7, across_8, across_11}
use Rattle.closing.specs.inner.Wordwise.{NearWord, FarWord, WordDrawn}

-- ---- across from each other, four levels below m

module _ (m : ℕ) (low : 2 ≤ m) where
  -- the outer four: below m's edge neighbour, in the other order
  abbrev Outer : ℕ → ℕ → Type 0
  Outer c d = (edge m ≡ 0 → edge (16 * m + c) ≡ 0) × (edge m ≢ 0 → edge (16 * m + c) ≡ 16 * edge m + d)

  outer_0 : Outer 0 15
  outer_0 =
      let e : edge (16 * m + 0) ≡ edge (4 * (4 * m)) = ap edge (omega arith) in (
        λ z. e ∙ first_none (4 * m) (omega arith) (first_none m low z),
        λ z. let f = first_some m low z in e ∙ first_some (4 * m) (omega arith) (omega (arith, f)) ∙ omega (arith, f),
      )

  outer_3 : Outer 3 12
  outer_3 =
      let e : edge (16 * m + 3) ≡ 4 * edge (4 * m) = ap edge (let g : 16 * m + 3 ≡ 4 * (4 * m) + 3 = omega arith in g) ∙ fourth_across (4 * m) (omega arith) in
      (λ z. omega (arith, e, first_none m low z), λ z. omega (arith, e, first_some m low z))

  outer_12 : Outer 12 3
  outer_12 =
      let e : edge (16 * m + 12) ≡ edge (4 * (4 * m + 3)) = ap edge (omega arith) in
      let f = fourth_across m low in (
        λ z. e ∙ first_none (4 * m + 3) (omega arith) (omega (arith, f)),
        λ z. e ∙ first_some (4 * m + 3) (omega arith) (omega (arith, f)) ∙ omega (arith, f),
      )

  outer_15 : Outer 15 0
  outer_15 =
      let e : edge (16 * m + 15) ≡ 4 * edge (4 * m + 3) = ap edge (let g : 16 * m + 15 ≡ 4 * (4 * m + 3) + 3 = omega arith in g) ∙ fourth_across (4 * m + 3) (omega arith) in
      (λ z. omega (arith, e, fourth_across m low), λ z. omega (arith, e, fourth_across m low))

  -- the middle two below each of the four nodes below m
  second : (i : ℕ) → edge (16 * m + (4 * i + 1)) ≡ 16 * m + (4 * i + 2)
  second i = ap edge (let g : 16 * m + (4 * i + 1) ≡ 4 * (4 * m + i) + 1 = omega arith in g) ∙ second_across (4 * m + i) (omega arith) ∙ omega arith

  third : (i : ℕ) → edge (16 * m + (4 * i + 2)) ≡ 16 * m + (4 * i + 1)
  third i = ap edge (let g : 16 * m + (4 * i + 2) ≡ 4 * (4 * m + i) + 2 = omega arith in g) ∙ third_across (4 * m + i) (omega arith) ∙ omega arith

  -- ---- what is asked for

  module _ {P : ℕ → Type 0} {b y r : ℕ} (own : NearWord P m b) (far : FarWord P m y) (w : WordDrawn b y r) where
    -- bit 2 c + 1 of r
    abbrev Level : ℕ → Type 0
    Level c = (digit r (2 * c + 1) ≡ 1) ↔ Asked P (16 * m + c)

    near_level : (c d : ℕ) → c < 16 → d < 16 → edge (16 * m + c) ≡ 16 * m + d → (digit r (2 * c + 1) ≡ 1) ↔ ((digit b (2 * c + 1) ≡ 1) ⊎ (digit b (2 * d + 1) ≡ 1)) → Level c
    near_level c d k l e i = (
      λ s. ⊎_elim (λ t. inl ((own.names c k).1 t)) (λ t. inr (λ z. omega (arith, e), subst P (sym e) ((own.names d l).1 t))) (i.0 s),
      ⊎_elim (λ p. i.1 (inl ((own.names c k).0 p))) (λ p. i.1 (inr ((own.names d l).0 (subst P e p.1)))),
    )

    far_level : (c d : ℕ) → c < 16 → d < 16 → Outer c d → (digit r (2 * c + 1) ≡ 1) ↔ ((digit b (2 * c + 1) ≡ 1) ⊎ (digit y (2 * d + 1) ≡ 1)) → Level c
    far_level c d k l o i = (
      λ s. ⊎_elim (λ t. inl ((own.names c k).1 t)) (λ t. let (z, p) = (far.names d l).0 t in inr (λ e. omega (arith, o.1 z), subst P (sym (o.1 z)) p)) (i.0 s),
      ⊎_elim (λ p. i.1 (inl ((own.names c k).0 p))) (λ p. let z : edge m ≢ 0 = λ e. p.0 (o.0 e) in i.1 (inr ((far.names d l).1 (z, subst P (o.1 z) p.1)))),
    )

    pub levels : (c : ℕ) → c < 16 → Level c
    levels zero l = far_level 0 15 (omega arith) (omega arith) outer_0 w.outermost.there
    levels (suc zero) l = near_level 1 2 (omega arith) (omega arith) (second 0) (w.middle 0 (omega arith)).there
    levels (suc (suc zero)) l = near_level 2 1 (omega arith) (omega arith) (third 0) (w.middle 0 (omega arith)).back
    levels (suc (suc (suc zero))) l = far_level 3 12 (omega arith) (omega arith) outer_3 w.next.there
    levels (suc (suc (suc (suc zero)))) l = near_level 4 11 (omega arith) (omega arith) (across_4 m low) w.outer.there
    levels (suc (suc (suc (suc (suc zero))))) l = near_level 5 6 (omega arith) (omega arith) (second 1) (w.middle 1 (omega arith)).there
    levels (suc (suc (suc (suc (suc (suc zero)))))) l = near_level 6 5 (omega arith) (omega arith) (third 1) (w.middle 1 (omega arith)).back
    levels (suc (suc (suc (suc (suc (suc (suc zero))))))) l = near_level 7 8 (omega arith) (omega arith) (across_7 m low) w.inner.there
    levels (suc (suc (suc (suc (suc (suc (suc (suc zero)))))))) l = near_level 8 7 (omega arith) (omega arith) (across_8 m low) w.inner.back
    levels (suc (suc (suc (suc (suc (suc (suc (suc (suc zero))))))))) l = near_level 9 10 (omega arith) (omega arith) (second 2) (w.middle 2 (omega arith)).there
    levels (suc (suc (suc (suc (suc (suc (suc (suc (suc (suc zero)))))))))) l = near_level 10 9 (omega arith) (omega arith) (third 2) (w.middle 2 (omega arith)).back
    levels (suc (suc (suc (suc (suc (suc (suc (suc (suc (suc (suc zero))))))))))) l = near_level 11 4 (omega arith) (omega arith) (across_11 m low) w.outer.back
    levels (suc (suc (suc (suc (suc (suc (suc (suc (suc (suc (suc (suc zero)))))))))))) l = far_level 12 3 (omega arith) (omega arith) outer_12 w.next.back
    levels (suc (suc (suc (suc (suc (suc (suc (suc (suc (suc (suc (suc (suc zero))))))))))))) l = near_level 13 14 (omega arith) (omega arith) (second 3) (w.middle 3 (omega arith)).there
    levels (suc (suc (suc (suc (suc (suc (suc (suc (suc (suc (suc (suc (suc (suc zero)))))))))))))) l = near_level 14 13 (omega arith) (omega arith) (third 3) (w.middle 3 (omega arith)).back
    levels (suc (suc (suc (suc (suc (suc (suc (suc (suc (suc (suc (suc (suc (suc (suc zero))))))))))))))) l = far_level 15 0 (omega arith) (omega arith) outer_15 w.outermost.back
    levels (suc (suc (suc (suc (suc (suc (suc (suc (suc (suc (suc (suc (suc (suc (suc (suc c)))))))))))))))) l = absurd (omega arith)

-- ---- the word below m

-- 2 ^ D is 32 * 2 ^ e
pub near_words : (D e : ℕ) → e + 5 ≡ D → 2 ^ D ≡ 32 * 2 ^ e
near_words D e h = ap (λ (x : ℕ). 2 ^ x) (sym h) ∙ pow-add 2 e 5 ∙ omega arith

module _ (D e' m : ℕ) (h : e' + 5 ≡ D) (l : D ≤ 17) (a : At e' m) where
  -- where it stands
  abbrev byte : ℕ
  byte = 8 * 2 ^ e' + 4 * m

  -- bit i names n, where it is that of n's right child
  names_bit : (bs : List ℕ) (d j n i : ℕ) → At d n → d + suc j ≡ D → (2 * n + 1) * 2 ^ j ≡ 32 * m + i → Cut D (leaf_bit D bs) n ↔ (bit bs (8 * byte + i) ≡ 1)
  unfolding leaf_bit
  names_bit bs d j n i at g r =
      let s = cut_set D (leaf_bit D bs) (omega arith) (cut_place_lem D d j n (omega arith) at g) in
      let same : bit bs (8 * byte + i) ≡ bit bs (3 * 2 ^ D + cut_place D j n) = ap (bit bs) (omega (arith, near_words D e' h, a.low)) in
      (λ p. same ∙ s.0 p, λ p. s.1 (sym same ∙ p))

  node_level : (c : ℕ) → c < 16 → At (e' + 4) (16 * m + c)
  node_level c k = at_from (omega (arith, pow-add 2 e' 4, a.low)) (omega (arith, pow_next (e' + 4), pow-add 2 e' 4, at_below a, pow_next e'))

  parent_level : (c : ℕ) → c < 8 → At (e' + 3) (8 * m + c)
  parent_level c k = at_from (omega (arith, pow-add 2 e' 3, a.low)) (omega (arith, pow_next (e' + 3), pow-add 2 e' 3, at_below a, pow_next e'))

  module _ (bs : List ℕ) where
    abbrev P : ℕ → Type 0
    P = Cut D (leaf_bit D bs)

    level_bit : (c : ℕ) → c < 16 → P (16 * m + c) ↔ (bit bs (8 * byte + (2 * c + 1)) ≡ 1)
    level_bit c k = names_bit bs (e' + 4) 0 (16 * m + c) (2 * c + 1) (node_level c k) (omega arith) (omega arith)

    parent_bit : (c : ℕ) → c < 8 → P (8 * m + c) ↔ (bit bs (8 * byte + (4 * c + 2)) ≡ 1)
    parent_bit c k = names_bit bs (e' + 3) 1 (8 * m + c) (4 * c + 2) (parent_level c k) (omega arith) (omega arith)

    abbrev word : ℕ
    word = field bs (8 * byte) 32

    old : (i : ℕ) → i < 32 → digit word i ≡ bit bs (8 * byte + i)
    old i k = run-digit (bit bs) (bit_lt bs) (8 * byte) 32 i k

    pub near_word : NearWord P m word
    near_word = record {
      names = λ c k. subst (λ x. P (16 * m + c) ↔ (x ≡ 1)) (sym (old (2 * c + 1) (omega arith))) (level_bit c k);
      parents = λ c k. subst (λ x. P (8 * m + c) ↔ (x ≡ 1)) (sym (old (4 * c + 2) (omega arith))) (parent_bit c k);
    }

  -- ---- drawn

  module _ (low : 2 ≤ m) (bs : List ℕ) (room : Room D bs) {y r : ℕ} (far : FarWord (Cut D (leaf_bit D bs)) m y) (w : WordDrawn (word bs) y r) where
    abbrev ys : List ℕ
    ys = put_field bs (8 * byte) 32 r

    inside : 8 * byte + 32 ≤ 8 * length bs
    inside = omega (arith, bounds room, room.long, near_words D e' h, at_below a, pow_next e')

    new : (i : ℕ) → i < 32 → bit ys (8 * byte + i) ≡ digit r i
    new i k = bit_in bs (8 * byte) 32 r i k inside

    asked : (c : ℕ) → c < 16 → Cut D (leaf_bit D ys) (16 * m + c) ↔ Asked (P bs) (16 * m + c)
    asked c k =
        let f = level_bit ys c k in
        let g = levels m low (near_word bs) far w c k in
        let n = new (2 * c + 1) (omega arith) in
        (λ q. g.0 (sym n ∙ f.0 q), λ q. f.1 (n ∙ g.1 q))

    by_children : (c : ℕ) → c < 8 → Cut D (leaf_bit D ys) (8 * m + c) ↔ (P bs (8 * m + c) ⊎ (Asked (P bs) (16 * m + 2 * c) ⊎ Asked (P bs) (16 * m + (2 * c + 1))))
    by_children c k =
        let f = parent_bit ys c k in
        let n = new (4 * c + 2) (omega arith) in
        let g = w.parents c k in
        let own = (near_word bs).parents c k in
        let level = levels m low (near_word bs) far w in
        let left = subst (λ x. (digit r x ≡ 1) ↔ Asked (P bs) (16 * m + 2 * c)) (let x : 2 * (2 * c) + 1 ≡ 4 * c + 1 = omega arith in x) (level (2 * c) (omega arith)) in
        let right = subst (λ x. (digit r x ≡ 1) ↔ Asked (P bs) (16 * m + (2 * c + 1))) (let x : 2 * (2 * c + 1) + 1 ≡ 4 * c + 3 = omega arith in x) (level (2 * c + 1) (omega arith)) in (
          λ q. ⊎_elim (λ t. inl (own.1 t)) (λ t. inr (⊎_elim (λ u. inl (left.0 u)) (λ u. inr (right.0 u)) t)) (g.0 (sym n ∙ f.0 q)),
          λ q. f.1 (n ∙ g.1 (⊎_elim (λ t. inl (own.0 t)) (λ t. inr (⊎_elim (λ u. inl (left.1 u)) (λ u. inr (right.1 u)) t)) q)),
        )

    -- any other bit stays
    stays : (i : ℕ) → i < 32 → i % 4 ≡ 0 → bit ys (8 * byte + i) ≡ bit bs (8 * byte + i)
    stays i k z =
        let c : ℕ = i / 4 in
        let g = subst (λ x. (digit r x ≡ 1) ↔ (digit (word bs) x ≡ 1)) (let x : 4 * c ≡ i = omega arith in x) (w.rest c (omega arith)) in
        new i k ∙ same (digit r i) (digit (word bs) i) (digit_lt r i) (digit_lt (word bs) i) g ∙ old bs i k
      where
        same : (u v : ℕ) → u < 2 → v < 2 → (u ≡ 1) ↔ (v ≡ 1) → u ≡ v
        same u v x y f = go (ℕ_discrete u 1) (ℕ_discrete v 1)
          where
            go : Dec (u ≡ 1) → Dec (v ≡ 1) → u ≡ v
            go (yes p) q = p ∙ sym (f.0 p)
            go (no p) (yes q) = absurd (p (f.1 q))
            go (no p) (no q) = omega arith

    -- .. and so does the cut of any other node
    module _ (n : ℕ) (none : (c : ℕ) → c < 16 → n ≢ 16 * m + c) (no-parent : (c : ℕ) → c < 8 → n ≢ 8 * m + c) where
      in_word : (g i : ℕ) → named D g ≡ n → 3 * 2 ^ D + g ≡ 8 * byte + i → i < 32 → bit ys (8 * byte + i) ≡ bit bs (8 * byte + i)
      in_word g i e at k = go (ℕ_discrete (i % 2) 1) (ℕ_discrete (i % 4) 0)
        where
          go : Dec (i % 2 ≡ 1) → Dec (i % 4 ≡ 0) → bit ys (8 * byte + i) ≡ bit bs (8 * byte + i)
          go (yes o) z =
              let c : ℕ = i / 2 in
              let p = cut_place_lem D (e' + 4) 0 (16 * m + c) (omega arith) (node_level c (omega arith)) (omega arith) in
              absurd (none c (omega arith) (sym e ∙ ap (named D) (omega (arith, near_words D e' h, a.low)) ∙ p.names))
          go (no o) (yes z) = stays i k z
          go (no o) (no z) =
              let c : ℕ = i / 4 in
              let p = cut_place_lem D (e' + 3) 1 (8 * m + c) (omega arith) (parent_level c (omega arith)) (omega arith) in
              absurd (no-parent c (omega arith) (sym e ∙ ap (named D) (omega (arith, near_words D e' h, a.low)) ∙ p.names))

      unmoved : (g : ℕ) → named D g ≡ n → leaf_bit D ys g ≡ leaf_bit D bs g
      unfolding leaf_bit
      unmoved g e = go (dec_lt (3 * 2 ^ D + g) (8 * byte)) (dec_le (8 * byte + 32) (3 * 2 ^ D + g))
        where
          go : Dec (3 * 2 ^ D + g < 8 * byte) → Dec (8 * byte + 32 ≤ 3 * 2 ^ D + g) → bit ys (3 * 2 ^ D + g) ≡ bit bs (3 * 2 ^ D + g)
          go (yes x) y = bit_out bs (8 * byte) 32 r (3 * 2 ^ D + g) (inl x)
          go (no x) (yes y) = bit_out bs (8 * byte) 32 r (3 * 2 ^ D + g) (inr y)
          go (no x) (no y) =
              let i : ℕ = 3 * 2 ^ D + g - 8 * byte in
              let at : 3 * 2 ^ D + g ≡ 8 * byte + i = omega arith in
              subst (λ z. bit ys z ≡ bit bs z) (sym at) (in_word g i e at (omega arith))

      other : Cut D (leaf_bit D ys) n ↔ P bs n
      other = (λ c. moved c (sym (unmoved c.place c.names)), λ c. moved c (unmoved c.place c.names))

    module _ (n : ℕ) where
      level_draws : 16 * m ≤ n → n < 16 * m + 16 → Cut D (leaf_bit D ys) n ↔ (P bs n ⊎ Drawn (P bs) (16 * m) (16 * m + 16) n)
      level_draws i j =
          let f = subst (λ x. Cut D (leaf_bit D ys) x ↔ Asked (P bs) x) (let x : 16 * m + (n - 16 * m) ≡ n = omega arith in x) (asked (n - 16 * m) (omega arith)) in (
            λ q. inr (record { by = n; from = i; below = j; asked = f.0 q; is = inl refl }),
            ⊎_elim (λ p. f.1 (inl p)) (λ d. ⊎_elim (λ x. f.1 (subst (Asked (P bs)) (sym x) d.asked)) (λ x. absurd (omega (arith, d.below))) d.is),
          )

      parent_draws : 8 * m ≤ n → n < 8 * m + 8 → Cut D (leaf_bit D ys) n ↔ (P bs n ⊎ Drawn (P bs) (16 * m) (16 * m + 16) n)
      parent_draws i j =
          let c : ℕ = n - 8 * m in
          let f = subst (λ x. Cut D (leaf_bit D ys) x ↔ (P bs x ⊎ (Asked (P bs) (16 * m + 2 * c) ⊎ Asked (P bs) (16 * m + (2 * c + 1))))) (let x : 8 * m + c ≡ n = omega arith in x) (by_children c (omega arith)) in (
            λ q. ⊎_elim inl (⊎_elim (λ k. inr (record { by = 16 * m + 2 * c; from = omega arith; below = omega arith; asked = k; is = inr (omega arith) })) (λ k. inr (record { by = 16 * m + (2 * c + 1); from = omega arith; below = omega arith; asked = k; is = inr (omega arith) }))) (f.0 q),
            ⊎_elim (λ p. f.1 (inl p)) (λ d. ⊎_elim (λ x. absurd (omega (arith, d.from))) (λ x. f.1 (inr (half d x (ℕ_discrete (d.by % 2) 0)))) d.is),
          )
        where
          half : (d : Drawn (P bs) (16 * m) (16 * m + 16) n) → n ≡ d.by / 2 → Dec (d.by % 2 ≡ 0) → Asked (P bs) (16 * m + 2 * (n - 8 * m)) ⊎ Asked (P bs) (16 * m + (2 * (n - 8 * m) + 1))
          half d x (yes z) = inl (subst (Asked (P bs)) (let g : d.by ≡ 16 * m + 2 * (n - 8 * m) = omega arith in g) d.asked)
          half d x (no z) = inr (subst (Asked (P bs)) (let g : d.by ≡ 16 * m + (2 * (n - 8 * m) + 1) = omega arith in g) d.asked)

      other_draws : (16 * m ≤ n → n < 16 * m + 16 → ⊥) → (8 * m ≤ n → n < 8 * m + 8 → ⊥) → Cut D (leaf_bit D ys) n ↔ (P bs n ⊎ Drawn (P bs) (16 * m) (16 * m + 16) n)
      other_draws u v =
          let o = other n (λ c k x. u (omega arith) (omega arith)) (λ c k x. v (omega arith) (omega arith)) in (
            λ q. inl (o.0 q),
            ⊎_elim o.1 (λ d. absurd (⊎_elim (λ x. u (omega (arith, d.from)) (omega (arith, d.below))) (λ x. v (omega (arith, d.from)) (omega (arith, d.below))) d.is)),
          )

    draws : Draws (16 * m) (16 * m + 16) (P bs) (Cut D (leaf_bit D ys))
    draws n = go (dec_le (16 * m) n) (dec_lt n (16 * m + 16)) (dec_le (8 * m) n) (dec_lt n (8 * m + 8))
      where
        go : Dec (16 * m ≤ n) → Dec (n < 16 * m + 16) → Dec (8 * m ≤ n) → Dec (n < 8 * m + 8) → Cut D (leaf_bit D ys) n ↔ (P bs n ⊎ Drawn (P bs) (16 * m) (16 * m + 16) n)
        go (yes i) (yes j) x y = level_draws n i j
        go (yes i) (no j) x y = other_draws n (λ _ k. j k) (λ _ k. omega arith)
        go (no i) j (yes x) (yes y) = parent_draws n x y
        go (no i) j (yes x) (no y) = other_draws n (λ k _. i k) (λ _ k. y k)
        go (no i) j (no x) y = other_draws n (λ k _. i k) (λ k _. x k)

    pub word_cuts : CutsDrawn D (16 * m) (16 * m + 16) bs ys
    word_cuts = record {
      only = record { long = length-put_field bs (8 * byte) 32 r; same = λ p o. ⊎_elim (λ k. before p k (dec_lt p (8 * byte))) (λ k. bit_out bs (8 * byte) 32 r p (inr (omega (arith, near_words D e' h, at_below a, pow_next e')))) o };
      cuts = draws;
    }
      where
        before : (p : ℕ) → p ≤ 3 * 2 ^ D → Dec (p < 8 * byte) → bit ys p ≡ bit bs p
        before p k (yes x) = bit_out bs (8 * byte) 32 r p (inl x)
        before p k (no x) =
            let f : 8 * byte + 0 ≡ p = omega (arith, near_words D e' h, a.low) in
            subst (λ z. bit ys z ≡ bit bs z) f (stays 0 (omega arith) refl)

-- ---- as the code has it

-- the place of the word below m
pub record NearPlace (D m len : ℕ) : Type 0 where
  pub at : At (D - 5) m
  pub inside : 8 * 2 ^ (D - 5) + 4 * m + 4 ≤ len

pub near_place : {D m : ℕ} {bs : List ℕ} → Room D bs → 1 ≤ m → depth_of m + 5 ≡ D → NearPlace D m (length bs)
near_place {D} {m} {bs} room low d =
    let a : At (D - 5) m = subst (λ x. At x m) (let x : depth_of m ≡ D - 5 = omega arith in x) (at_depth low) in
    record { at = a; inside = omega (arith, bounds room, room.long, near_words D (D - 5) (omega arith), at_below a, pow_next (D - 5)) }

-- the word across, where m has an edge neighbour
pub far_some : {P : ℕ → Type 0} {m e y : ℕ} → edge m ≢ 0 → e ≡ edge m → NearWord P e y → FarWord P m y
far_some {P} {m} {e} {y} z i w = record { names = λ c l. (λ s. (z, subst (λ x. P (16 * x + c)) i ((w.names c l).1 s)), λ p. (w.names c l).0 (subst (λ x. P (16 * x + c)) (sym i) p.1)) }
