-- Cuts are good where node 1 is cut and a walk over the places finds no fault: each cut is named by a place.
use mathlib.Core.Path.{◌≡◌, refl, subst}
use Prim.Native.Nat.{ℕ, ◌^◌, ◌<◌}
use native.Mathlib.Omega.{arith}
use Rattle.cuts.specs.Cuts.{named, Cut, GoodCuts}
use Rattle.cuts.specs.inner.Steps.{Follows}

pub good_follows : {P : ℕ → Type 0} {n : ℕ} → GoodCuts P → P n → Follows P n
good_follows {P} {n} G p = record { up = λ h. G.up n h p; over = λ h. G.over n h p }

-- what a test that P holds of n's parent, and one of n's edge neighbour, say together
module _ {P : ℕ → Type 0} {n : ℕ} where
  pub first_follows : n < 2 → Follows P n
  first_follows h = record { up = λ l. absurd (omega arith); over = λ l. absurd (omega arith) }

module _ (D : ℕ) (f : ℕ → ℕ) where
  pub follows_good : Cut D f 1 → ((p : ℕ) → 0 < p → p < 2 ^ D → f p ≡ 1 → Follows (Cut D f) (named D p)) → GoodCuts (Cut D f)
  follows_good root b = record { root = root; up = λ n h c. (at n c).up h; over = λ n h c. (at n c).over h }
    where
      at : (n : ℕ) → Cut D f n → Follows (Cut D f) n
      at n c = subst (Follows (Cut D f)) c.names (b c.place c.low c.high c.set)

  pub place_cut : {p : ℕ} → 0 < p → p < 2 ^ D → f p ≡ 1 → Cut D f (named D p)
  place_cut {p} l h s = record { place = p; low = l; high = h; set = s; names = refl }
