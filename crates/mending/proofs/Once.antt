-- What a mending leaves is a good panel with every cut that was named, told by the leaf bits and pins alone. So a good panel stays as it is, and
-- mending twice is mending once.
use mathlib.Core.Path.{◌≡◌, refl, sym, ap, ◌∙◌, subst}
use mathlib.Core.Logic.Iff
use mathlib.Core.Logic.{◌≢◌, inl, inr, ⊎_map, ◌↔◌}
use mathlib.Core.List.{List, [], ◌∷◌, ◌++◌}
use Prim.Native.Nat.{ℕ, ◌+◌, ◌-◌, ◌^◌, ◌<◌}
use native.Mathlib.Decide.{ℕ_discrete}
use native.Mathlib.Omega.{arith}
use lib.ListN.{length}
use lib.Pow.{pow_pos}
use Rattle.bits.specs.Bits.{Bytes}
use Rattle.tables.specs.Table.{Row, unless, Answers}
use Rattle.tables.proofs.Tables.{answers_one, is_done}
use Rattle.tables.proofs.Exactness.{Without}
use Rattle.words.specs.Words.{leaf_bit}
use Rattle.sums.specs.Rank.{rank}
use Rattle.sums.proofs.Counts.{leaf_bits, word_all}
use Rattle.sums.proofs.Ranks.{rank_rest}
use Rattle.cuts.proofs.ForcedCuts.{smallest_beside, smallest_own}
use Rattle.cuts.proofs.OneBit.{cut_same}
use Rattle.pins.specs.Pins.{pin_bit}
use Rattle.panel.specs.Panels.{deep_of, RightLength, CutOf, Good, leaf_count}
use Rattle.panel.specs.Calls.{panel_rows, named_cuts, Mended, MendedBy, Mend}
use Rattle.panel.proofs.Lengths.{right_as_long}
use Rattle.panel.proofs.Rows.{past_judge}
use Rattle.panel.proofs.SameBytes.{cut_of, deep_same}
use Rattle.panel.proofs.Once.{mended_same, mend_one}
use Rattle.mending.proofs.Mends.{named_few}

-- ---- what a mending leaves

pub mend_good : {s : List ℕ} {x : Mended} → Mend s 0 x → Good x.panel
mend_good o = (o.done refl).mended.good

-- so no call that judges the panel answers 1 or 2 after it: past the judgement stand the rows of any call
pub mend_judged : {s : List ℕ} {x : Mended} {n : ℕ} (rows : List Row) → Mend s 0 x → Without 1 rows → Without 2 rows → Answers (panel_rows x.panel ++ rows) n
    → (n ≢ 1) × (n ≢ 2)
mend_judged rows o = past_judge rows (mend_good o)

-- every cut that was named is a cut
pub mend_holds : {s : List ℕ} {x : Mended} → Mend s 0 x → (n : ℕ) → CutOf s n → CutOf x.panel n
mend_holds o n c = (o.done refl).mended.cuts.holds n (inl c)

-- the count is exact: no subtraction in it falls short
pub mend_counts : {s : List ℕ} {x : Mended} → Mend s 0 x → leaf_count x.panel ≡ 1 + named_cuts s + x.added
mend_counts o = let m = o.done refl in omega (arith, named_few m.mended, m.count)

-- ---- mending again

-- a good panel is its own mending
own : {s : List ℕ} → Good s → MendedBy s (record { panel = s; added = 0 })
own {s} G = record {
  mended = record {
    good = G;
    long = refl;
    cuts = smallest_own G.cuts;
    pins = λ p h. (λ z. (z, omega (arith, G.pins p h, leaf_bits (deep_of s) s p)), λ z. z.0);
  };
  count = omega (arith, word_all (deep_of s) s G.right.sums, G.first);
}

-- and comes back unchanged, byte for byte
pub good_unchanged : (s : List ℕ) (n : ℕ) (x : Mended) → Bytes s → Bytes x.panel → Good s → Mend s n x → (n ≡ 0) × (x ≡ record { panel = s; added = 0 })
good_unchanged s n x bs bx G o = mend_one s n 0 x (record { panel = s; added = 0 }) bx bs o (is_done (inr (G.fits, refl)) (own G))

-- the second time the answer is the same, and nothing is added or changed
pub mend_twice : (s : List ℕ) (n m : ℕ) (x y : Mended) → Bytes x.panel → Bytes y.panel → Mend s n x → Mend x.panel m y
    → (m ≡ n) × (y ≡ record { panel = x.panel; added = 0 })
mend_twice s n m x y bx by o p = go (ℕ_discrete n 0)
  where
    go : Dec (n ≡ 0) → (m ≡ n) × (y ≡ record { panel = x.panel; added = 0 })
    go (yes z) = let (e, w) = good_unchanged x.panel m y bx by (o.done z).mended.good p in (e ∙ sym z, w)
    go (no z) =
        let r = o.refused z in
        let same = ap (λ (u : Mended). u.panel) r in
        let (e, w) = mend_one s m n y x by bx (subst (λ u. Mend u m y) same p) o in
        (e, w ∙ r ∙ ap (λ u. record { panel = u; added = 0 }) (sym same))

-- ---- what it reads

-- t has the length of s, its leaf bits but for the first, and its pins
pub record SameBits (s t : List ℕ) : Type 0 where
  pub long : length t ≡ length s
  pub leaves : (p : ℕ) → 0 < p → p < 2 ^ deep_of s → leaf_bit (deep_of s) t p ≡ leaf_bit (deep_of s) s p
  pub pins : (p : ℕ) → p < 2 ^ deep_of s → pin_bit (deep_of s) t p ≡ pin_bit (deep_of s) s p

module _ {s t : List ℕ} (e : SameBits s t) where
  deep : deep_of t ≡ deep_of s
  deep = deep_same s t e.long

  cuts : (n : ℕ) → CutOf s n ↔ CutOf t n
  cuts n =
      Iff.trans (cut_same (deep_of s) (leaf_bit (deep_of s) s) (leaf_bit (deep_of s) t) (λ p l h. sym (e.leaves p l h)) n) (Iff.symm (cut_of s t e.long n))

  named : named_cuts s ≡ named_cuts t
  named =
      subst (λ D. named_cuts s ≡ rank (leaf_bit D t) (2 ^ D) - leaf_bit D t 0) (sym deep)
      (rank_rest (leaf_bit (deep_of s) s) (leaf_bit (deep_of s) t) (2 ^ deep_of s) (pow_pos (deep_of s)) (λ p l h. sym (e.leaves p l h)))

  -- a mending of one is one of the other
  moved : {x : Mended} → MendedBy s x → MendedBy t x
  moved {x} m = record {
    mended = record {
      good = m.mended.good;
      long = m.mended.long ∙ sym e.long;
      cuts = smallest_beside cuts m.mended.cuts;
      pins =
          subst (λ D. (p : ℕ) → p < 2 ^ D → (pin_bit D x.panel p ≡ 1) ↔ ((pin_bit D t p ≡ 1) × (leaf_bit D x.panel p ≡ 1))) (sym deep)
          (λ p h. let (to, from) = m.mended.pins p h in
          (λ z. (e.pins p h ∙ (to z).0, (to z).1), λ z. from (sym (e.pins p h) ∙ z.0, z.1)));
    };
    count = m.count ∙ ap (λ c. leaf_count x.panel - 1 - c) named;
  }

-- no byte plays a part but for those bits: the answers are the same, and where they are 0 the panels and the counts are
pub mend_same : (s t : List ℕ) (n m : ℕ) (x y : Mended) → SameBits s t → Bytes x.panel → Bytes y.panel → Mend s n x → Mend t m y
    → (n ≡ m) × (n ≡ 0 → x ≡ y)
mend_same s t n m x y e bx by o p = (same, λ z. mended_same t x y (bx, moved e (o.done z)) (by, p.done (sym same ∙ z)))
  where
    same : n ≡ m
    same =
        answers_one (unless 1 (RightLength t) ∷ []) n m
        (⊎_map (λ a. (λ f. a.0 (right_as_long (sym e.long) f), a.1)) (λ a. (right_as_long e.long a.0, a.1)) o.answer) p.answer
