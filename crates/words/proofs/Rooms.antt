-- Where the words have room, every place that the code computes fits the machine's numbers and lies inside.
use mathlib.Core.Path.{◌≡◌, sym, ap, ◌∙◌}
use mathlib.Core.List.{List}
use Prim.Native.Nat.{ℕ, zero, suc, max, ◌+◌, ◌-◌, ◌*◌, ◌%◌, ◌^◌, ◌≤◌, ◌<◌}
use native.Mathlib.Omega.{arith}
use lib.ListN.{length}
use lib.Pow.{pow_mono, pow-add}
use Rattle.bits.proofs.Laws.{one_shl}
use Rattle.nodes.specs.Depth.{depth_of}
use Rattle.nodes.proofs.Depths.{at_root, depth_is, depth_zero, pow_next, depth_le}
use Rattle.words.specs.inner.Working.{Room}
use Rattle.words.proofs.Slots.{from, wide, in_panel}

-- the leaf bits fill whole bytes
pub whole_bytes : (D : ℕ) → 3 ≤ D → 2 ^ D ≡ 8 * 2 ^ (D - 3)
whole_bytes D h = ap (λ (x : ℕ). 2 ^ x) {x = D} {y = D - 3 + 3} (omega arith) ∙ pow-add 2 (D - 3) 3 ∙ omega arith

-- .. and from depth 6 on whole words of 64 bits
pub whole_words : (D e : ℕ) → e + 6 ≡ D → 2 ^ D ≡ 64 * 2 ^ e
whole_words D e h = ap (λ (x : ℕ). 2 ^ x) (sym h) ∙ pow-add 2 e 6 ∙ omega arith

-- all words take four times the place of the leaf bits
pub record Bounds (D : ℕ) : Type 0 where
  pub leaves : 2 ^ D ≤ 131072
  pub eight : 8 ≤ 2 ^ D
  pub whole : 2 ^ D ≡ 8 * 2 ^ (D - 3)
  pub words : 2 ^ (D + 1) ≡ 2 * 2 ^ D
  pub all : 2 ^ (D + 2) ≡ 4 * 2 ^ D

pub bounds : {D : ℕ} {bs : List ℕ} → Room D bs → Bounds D
bounds {D} {bs} r = record {
  leaves = pow_mono {i = D} {j = 17} r.high;
  eight = pow_mono {i = 3} {j = D} r.low;
  whole = whole_bytes D r.low;
  words = pow_next D;
  all = pow-add 2 D 2 ∙ omega arith;
}

pub room_bytes : {D : ℕ} {bs : List ℕ} → Room D bs → 4 ≤ length bs
room_bytes r = omega (arith, bounds r)

pub room_same : {D : ℕ} {xs ys : List ℕ} → length ys ≡ length xs → Room D xs → Room D ys
room_same e r = record { low = r.low; high = r.high; long = omega arith }

-- word 0 is as deep as word 1
pub depth_max : (k : ℕ) → depth_of (max k 1) ≡ depth_of k
depth_max zero = depth_is {d = 0} {n = 1} at_root ∙ sym depth_zero
depth_max (suc k) = ap depth_of (omega arith)

-- where word k starts, as the code computes it from the depth d
pub record Placed (D k d : ℕ) : Type 0 where
  pub shallow : d ≤ D
  pub is : 2 * 2 ^ d % 2 ^ 64 + k * (D + 1 - d) ≡ from D k
  pub small : k * (D + 1 - d) ≤ 524288

pub placed : {D k d : ℕ} → D ≤ 17 → k < 2 ^ (D + 1) → d ≡ depth_of k → Placed D k d
placed {D} {k} {d} hD hk e =
    let i : 2 * 2 ^ d + k * (D + 1 - d) ≡ from D k = ap (λ (x : ℕ). 2 * 2 ^ x + k * (D + 1 - x)) e ∙ omega (arith, pow_next (depth_of k)) in
    let all : from D k ≤ 524288 = omega (arith, in_panel D k hk, pow_mono {i = D + 2} {j = 19} (omega arith)) in
    record { shallow = omega (arith, depth_le k D hk); is = omega arith; small = omega arith }

-- and that it lies inside
pub record Inside (D k len : ℕ) : Type 0 where
  pub bytes : 4 ≤ len
  pub whole : from D k + wide D k ≤ 8 * len
  pub some : 0 < wide D k
  pub few : wide D k ≤ 18

pub word_inside : {D k : ℕ} {bs : List ℕ} → Room D bs → k < 2 ^ (D + 1) → Inside D k (length bs)
word_inside {D} {k} r hk = record { bytes = room_bytes r; whole = omega (arith, in_panel D k hk); some = omega (arith, depth_le k D hk); few = omega arith }

-- the number of leaf bytes, as the code computes it
abbrev pub quarter_of : ℕ → ℕ
quarter_of D = 1 * 2 ^ (D - 3) % 2 ^ 64

-- the leaf bits are m bytes, the last quarter of those that the words fill
pub record Quarter (D len m : ℕ) : Type 0 where
  pub is : m ≡ 2 ^ (D - 3)
  pub some : 0 < m
  pub small : m ≤ 16384
  pub inside : 4 * m ≤ len

pub quarter : {D : ℕ} {bs : List ℕ} → Room D bs → Quarter D (length bs) (quarter_of D)
quarter {D} r =
    let e = one_shl (D - 3) 64 (omega arith) in
    record {
      is = e;
      some = omega (arith, bounds r);
      small = omega (arith, bounds r);
      inside = omega (arith, bounds r);
    }

-- the number of words of row D - 6, as the code computes it
abbrev pub blocks_of : ℕ → ℕ
blocks_of D = 1 * 2 ^ (D - 6) % 2 ^ 64

-- the leaf bits are m times 64
pub record Blocks (D len m : ℕ) : Type 0 where
  pub is : m ≡ 2 ^ (D - 6)
  pub small : m ≤ 2048
  pub inside : 32 * m ≤ len

pub blocks : {D : ℕ} {bs : List ℕ} → Room D bs → 6 ≤ D → Blocks D (length bs) (blocks_of D)
blocks {D} r h =
    let e = one_shl (D - 6) 64 (omega arith) in
    let f = whole_words D (D - 6) (omega arith) in
    record { is = e; small = omega (arith, bounds r); inside = omega (arith, bounds r) }
