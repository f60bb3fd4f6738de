-- Tests of what mending leaves. A good set that holds the named cuts holds each node that is named, or whose child it holds, or whose edge neighbour is so:
-- a panel whose cuts are all of this kind has no cut too many.
use mathlib.Core.Path.{◌≡◌, sym, ap₂, subst}
use mathlib.Core.Bool.{Bool, true, not, ◌&&◌, ◌||◌, So, beq}
use mathlib.Core.Logic.{◌⊎◌, inl, inr, ⊎_elim, ◌↔◌}
use mathlib.Core.List.{List, [], ◌∷◌}
use Prim.Native.Nat.{ℕ, zero, suc, ◌+◌, ◌-◌, ◌*◌, ◌/◌, ◌^◌, ◌≤◌}
use native.Mathlib.Omega.{arith}
use lib.ListN.{length}
use lib.Dec.{eqb}
use borrow.Author.Tests.{eqb-true}
use Rattle.nodes.specs.Depth.{depth_of}
use Rattle.nodes.specs.Neighbours.{edge}
use Rattle.nodes.proofs.Edges.{edge_low, edge_mutual}
use Rattle.tables.specs.Table.{Row, unless, Answers}
use Rattle.tables.proofs.Tables.{is_done, is_refused}
use Rattle.words.specs.Words.{leaf_bit}
use Rattle.cuts.specs.Cuts.{GoodCuts}
use Rattle.cuts.proofs.Places.{cut_low}
use Rattle.pins.specs.Pins.{pin_bit}
use Rattle.panel.specs.Panels.{deep_of, RightLength, CutOf, Good}
use Rattle.panel.specs.Calls.{added_cuts, MendedBy, Mend}
use Rattle.panel.proofs.Lengths.{fits_small}
use Rattle.evidence.specs.Known.{Leaves}
use Rattle.evidence.proofs.Saying.{says_same, says_and, says_not, alike, or_shown, imply_shown, ◌and◌, imply, up_to, shows_all, Decided, same_list, same_list_lem, first_no, answered, by_answer}
use Rattle.evidence.proofs.Testing.{cut_of, decided, fits_in, says_fits, good_panel, good_shown}
use Rattle.evidence.proofs.Calling.{as_long, leaves_in, leaves_shown}

-- ---- a node that is asked for

-- f, or the same of the edge neighbour
abbrev across_in : (ℕ → Bool) → ℕ → Bool
across_in f n = f n || (not (eqb (edge n) 0) && f (edge n))

-- n is named by c, or asked for by a child, which is so by one of at most j levels
unfoldable pub below_in : ℕ → (ℕ → Bool) → ℕ → Bool
below_in zero c n = c n
below_in (suc j) c n = c n || across_in (below_in j c) (2 * n) || across_in (below_in j c) (2 * n + 1)

module _ {m : ℕ} {P Q : ℕ → Type 0} {c : ℕ → Bool} (d : Decided m P c) (G : GoodCuts Q) (sub : (n : ℕ) → P n → Q n) where
  across_shown : {f : ℕ → Bool} → ((n : ℕ) → 1 ≤ n → So (f n) → Q n) → (n : ℕ) → 1 ≤ n → So (across_in f n) → Q n
  across_shown {f} shown n l = or_shown (shown n l) (λ e. let (z, x) = ((says_not (says_same (edge n) 0)).yes and (λ x. x)) e in over z x)
    where
      over : (edge n ≡ 0 → ⊥) → So (f (edge n)) → Q n
      over z x =
          let back = edge_mutual n z in
          let low = edge_low (edge n) (λ e. omega arith) in
          subst Q back (G.over (edge n) low (shown (edge n) (omega arith) x) (λ e. omega arith))

  below_shown : (j n : ℕ) → 1 ≤ n → So (below_in j c n) → Q n
  unfolding below_in
  below_shown zero n l e = sub n ((d.says n).yes e)
  below_shown (suc j) n l e =
      let shown = across_shown (below_shown j) in
      or_shown (or_shown (λ e. sub n ((d.says n).yes e)) (child (2 * n) shown (omega arith) (omega arith))) (child (2 * n + 1) shown (omega arith) (omega arith)) e
    where
      child : (k : ℕ) → ((m : ℕ) → 1 ≤ m → So (across_in (below_in j c) m) → Q m) → k / 2 ≡ n → 2 ≤ k → So (across_in (below_in j c) k) → Q n
      child k shown e h x = subst Q e (G.up k h (shown k (omega arith) x))

-- ---- what mending leaves

unfoldable pub mend_in : List ℕ → ℕ → List ℕ → Bool
unfolding below_in
mend_in s a t =
    eqb (length t) (length s) && up_to (2 ^ deep_of s) (λ n. imply (cut_of s n) (cut_of t n))
    && up_to (2 ^ deep_of s) (λ n. imply (cut_of t n) (eqb n 1 || across_in (below_in (deep_of s - 1 - depth_of n) (cut_of s)) n))
    && up_to (2 ^ deep_of s) (λ p. beq (eqb (pin_bit (deep_of s) t p) 1) (eqb (pin_bit (deep_of s) s p) 1 && eqb (leaf_bit (deep_of s) t p) 1))
    && eqb a (added_cuts s t)

mend_shown : {s t : List ℕ} (a : ℕ) → RightLength s → Good t → So (mend_in s a t) → MendedBy s (record { panel = t; added = a })
unfolding mend_in
mend_shown {s} {t} a F T e =
    let ((((long, more), few), pins), count) = (eqb-true (length t) (length s) and (λ x. x) and (λ x. x) and shows_all (2 ^ deep_of s) kept and eqb-true a (added_cuts s t)) e in
    let u = as_long s T long in
    record {
      mended = record {
        good = T;
        long = long;
        cuts = record {
          good = T.cuts;
          holds = λ n. ⊎_elim (λ c. shows_all (2 ^ deep_of s) (λ n. imply_shown (d.says n) (u.says n).yes) more n (d.high n c) c) (λ i. subst (CutOf t) (sym i) T.cuts.root);
          least = λ r G sub n c. asked r G sub n (cut_low (deep_of t) (leaf_bit (deep_of t) t) (omega (arith, fits_small T.fits)) n c)
              (shows_all (2 ^ deep_of s) (λ n. imply_shown (u.says n) (λ x. x)) few n (u.high n c) c);
        };
        pins = pins;
      };
      count = count;
    }
  where
    d : Decided (2 ^ deep_of s) (CutOf s) (cut_of s)
    d = decided F

    asked : (r : ℕ → Bool) → GoodCuts (λ n. r n ≡ true) → ((n : ℕ) → CutOf s n ⊎ (n ≡ 1) → r n ≡ true) → (n : ℕ) → 1 ≤ n
        → So (eqb n 1 || across_in (below_in (deep_of s - 1 - depth_of n) (cut_of s)) n) → r n ≡ true
    asked r G sub n l =
        let named : (m : ℕ) → CutOf s m → r m ≡ true = λ m c. sub m (inl c) in
        or_shown (λ x. sub n (inr (eqb-true n 1 x))) (across_shown d G named (below_shown d G named (deep_of s - 1 - depth_of n)) n l)

    kept : (p : ℕ) → So (beq (eqb (pin_bit (deep_of s) t p) 1) (eqb (pin_bit (deep_of s) s p) 1 && eqb (leaf_bit (deep_of s) t p) 1))
        → (pin_bit (deep_of s) t p ≡ 1) ↔ ((pin_bit (deep_of s) s p ≡ 1) × (leaf_bit (deep_of s) t p ≡ 1))
    kept p = alike (says_same (pin_bit (deep_of s) t p) 1) (says_and (says_same (pin_bit (deep_of s) s p) 1) (says_same (leaf_bit (deep_of s) t p) 1))

-- ---- the call

abbrev mend_rows : List ℕ → List Row
mend_rows s = unless 1 (RightLength s) ∷ []

unfoldable pub mends_in : List ℕ → ℕ → ℕ → List ℕ → List ℕ → Bool
unfolding mend_in
mends_in s n a t ks =
    eqb (first_no (mend_rows s) (fits_in s (deep_of s) ∷ [])) n
    && by_answer n (fits_in s (deep_of s) && good_panel t && mend_in s a t && leaves_in t 0 ks) (same_list eqb t s && eqb a 0)

pub mends_shown : (s : List ℕ) (n a : ℕ) (t ks : List ℕ) → So (mends_in s n a t ks) → Mend s n (record { panel = t; added = a }) × (n ≡ 0 → Leaves t ks)
unfolding mends_in
mends_shown s n a t ks e =
    let (f, x) = (eqb-true (first_no (mend_rows s) (fits_in s (deep_of s) ∷ [])) n and (λ x. x)) e in
    go n (subst (Answers (mend_rows s)) f (answered (mend_rows s) (fits_in s (deep_of s) ∷ []) (says_fits s (deep_of s), λ _. tt))) x
  where
    go : (n : ℕ) → Answers (mend_rows s) n → So (by_answer n (fits_in s (deep_of s) && good_panel t && mend_in s a t && leaves_in t 0 ks) (same_list eqb t s && eqb a 0))
        → Mend s n (record { panel = t; added = a }) × (n ≡ 0 → Leaves t ks)
    go zero A x =
        let (((F, T), m), l) = ((says_fits s (deep_of s)).yes and good_shown t and (λ x. x) and (λ x. x)) x in
        (is_done A (mend_shown a F T m), λ _. leaves_shown T 0 ks l)
    go (suc n) A x =
        let (i, j) = (same_list_lem eqb-true t s and eqb-true a 0) x in
        (is_refused (omega arith) A (ap₂ (λ u c. record { panel = u; added = c }) i j), λ z. absurd (omega arith))
