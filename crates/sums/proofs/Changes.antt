-- One leaf bit changed under right sums: that bit and no other, and the sums are right again.
use mathlib.Core.Path.{◌≡◌, ◌∙◌}
use mathlib.Core.Logic.{◌≢◌, inl}
use mathlib.Core.List.{List}
use Prim.Native.Nat.{ℕ, ◌^◌, ◌<◌}
use native.Mathlib.Omega.{arith}
use lib.ListN.{length}
use lib.Pow.{pow_pos}
use Rattle.words.specs.Words.{leaf_bit}
use Rattle.words.specs.inner.Working.{put_leaf_bit, Room}
use Rattle.words.proofs.Leaves.{length_put_leaf, leaf_put_same, leaf_put_other, bit_put_leaf, word_put_leaf}
use Rattle.sums.specs.Sums.{Right}
use Rattle.sums.specs.inner.Summed.{Summed}
use Rattle.sums.proofs.Unique.{summed_leaf, summed_right}

module _ {D p v : ℕ} {xs ys : List ℕ} (room : Room D xs) (hp : p < 2 ^ D) (hv : v < 2) (s : Summed D (put_leaf_bit D xs p v) ys) where
  pub put_long : length ys ≡ length xs
  put_long = s.long ∙ length_put_leaf D xs p v

  pub put_here : leaf_bit D ys p ≡ v
  put_here = summed_leaf s p ∙ leaf_put_same D xs p v hv room hp

  pub put_other : (q : ℕ) → q ≢ p → leaf_bit D ys q ≡ leaf_bit D xs q
  put_other q n = summed_leaf s q ∙ leaf_put_other D xs p v hv q n

  pub put_right : Right D xs → Right D ys
  put_right r =
      summed_right s (bit_put_leaf D xs p v hv 0 hp (inl (omega (arith, pow_pos D))) ∙ r.bit_0) (bit_put_leaf D xs p v hv 1 hp (inl (omega (arith, pow_pos D))) ∙ r.bit_1)
      (word_put_leaf D xs p v hv 0 hp (pow_pos D) ∙ r.depth)
