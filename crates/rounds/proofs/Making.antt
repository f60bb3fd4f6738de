-- How `round` makes its outcome: the rows past a good panel, and the answers in front of the bytes that stay.
use mathlib.Core.Path.{◌≡◌, refl, ◌∙◌, subst⁻¹}
use mathlib.Core.Logic.{inr}
use mathlib.Core.List.{List, ◌++◌}
use Prim.Native.Nat.{ℕ, ◌/◌, ◌%◌, ◌≤◌}
use lib.ListN.{length, take, drop}
use lib.Seq.{length_front, length-take-le, take_at, drop_at}
use Rattle.tables.proofs.Tables.{is_done}
use Rattle.panel.specs.Panels.{deep_of, Good}
use Rattle.turns.specs.Runs.{Runs}
use Rattle.rounds.specs.Rounds.{InOrder, Round}
use Rattle.rounds.proofs.SingleCalls.{runs_in_order}

module _ {s rs out : List ℕ} (g : Good s) where
  -- the answers ys, as many as there are records, are put into the first bytes
  pub round_done : {D E : ℕ} {ys t : List ℕ} → D ≡ deep_of s → length rs / 8 ≤ length out → length rs % 8 ≡ 0 → length ys ≡ length (take (length rs / 8) out)
      → Runs 1 2 rs D s ys E t → Round s rs out 0 (record { panel = t; answers = ys ++ drop (length rs / 8) out })
  round_done {ys = ys} {t = t} d a b e r =
      let n : ℕ = length rs / 8 in
      let l : length ys ≡ n = e ∙ length-take-le n out a in
      is_done (inr (g.fits, inr (g, inr (a, inr (b, refl))))) (record {
        in_order = subst⁻¹ (λ x. InOrder rs s x t) (take_at ys (drop n out) n l) (runs_in_order g d r).1;
        long = length_front out ys n e;
        rest = drop_at ys (drop n out) n l;
      })
