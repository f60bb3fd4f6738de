-- What the functions on words ask of the bytes, and what those that write leave.
use Rattle.std.specs.Prelude.{List, ℕ, ◌+◌, ◌*◌, ◌^◌, ◌≤◌, length}
use Rattle.bits.specs.inner.Puts.{put_bit, put_field}
use Rattle.nodes.specs.Depth.{depth_of}
use Rattle.words.specs.Words.{width, start}

-- the bytes with word k set to v
unfoldable pub put_word : ℕ → List ℕ → ℕ → ℕ → List ℕ
put_word D bs k v = put_field bs (start D (depth_of k) k) (width D (depth_of k)) v

-- the bytes with leaf bit p set to v
unfoldable pub put_leaf_bit : ℕ → List ℕ → ℕ → ℕ → List ℕ
put_leaf_bit D bs p v = put_bit bs (3 * 2 ^ D + p) v

-- the words of depth 0 to D have room
pub record Room (D : ℕ) (bs : List ℕ) : Type 0 where
  pub low : 3 ≤ D
  pub high : D ≤ 17
  pub long : 2 ^ (D + 2) ≤ 8 * length bs
