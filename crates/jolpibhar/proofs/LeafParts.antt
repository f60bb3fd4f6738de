-- The part told by numbers is the one that `leaf_bits` gives: a quarter of the words' bytes, behind three times as many.
use mathlib.Core.Path.{◌≡◌, sym, ap, ◌∙◌, subst}
use mathlib.Core.List.{List, []}
use Prim.Native.Nat.{ℕ, ◌-◌, ◌*◌, ◌^◌, ◌≤◌}
use native.Mathlib.Decide.{ℕ_discrete}
use native.Mathlib.Omega.{arith}
use lib.ListN.{length, take, drop, length-drop}
use lib.Seq.{length-take-le}
use Rattle.tables.proofs.Tables.{outcome_one}
use Rattle.words.proofs.Rooms.{bounds}
use Rattle.panel.specs.Panels.{deep_of, RightLength, leaf_part}
use Rattle.panel.specs.Calls.{Judged, LeafBits}
use Rattle.panel.proofs.Lengths.{fits_room}
use Rattle.panel.proofs.LeafRows.{good_past}
use Rattle.jolpibhar.specs.Parts.{Part, LeafBytes}

-- the part has q bytes
record Quarter (s : List ℕ) (q : ℕ) : Type 0 where
  long : length (leaf_part s) ≡ q
  few : q ≤ 16384

quarter : (s : List ℕ) → RightLength s → Quarter s (2 ^ (deep_of s - 3))
quarter s f =
    let q = 2 ^ (deep_of s - 3) in
    let r = fits_room s (deep_of s) f in
    let b = bounds r in
    record {
      long = length-take-le q (drop (3 * q) s) (omega (arith, length-drop (3 * q) s, r.long, b));
      few = omega (arith, b);
    }

fine : (s : List ℕ) (n : ℕ) → n ≡ 0 → Judged s n → RightLength s
fine s n z a = (good_past [] (subst (Judged s) z a)).0.fits

-- three times the length of a part is a number of the machine
pub part_short : (s : List ℕ) (n : ℕ) (t : List ℕ) → LeafBits s n t → length t ≤ 16384
part_short s n t o = go (ℕ_discrete n 0)
  where
    go : Dec (n ≡ 0) → length t ≤ 16384
    go (yes z) = omega (arith, ap length (o.done z), quarter s (fine s n z o.answer))
    go (no h) = omega (arith, ap length (o.refused h))

pub part_told : (s : List ℕ) (n : ℕ) (t : List ℕ) → LeafBits s n t → LeafBytes s n (record { start = 3 * length t; size = length t })
part_told s n t o =
    record {
      answer = o.answer;
      done = λ z. let e : length t ≡ 2 ^ (deep_of s - 3) = ap length (o.done z) ∙ (quarter s (fine s n z o.answer)).long in ap told e;
      refused = λ h. ap (λ (x : List ℕ). told (length x)) (o.refused h);
    }
  where
    told : ℕ → Part
    told x = record { start = 3 * x; size = x }

-- what the numbers name is what `leaf_bits` hands out
pub told_part : (s : List ℕ) (n : ℕ) (p : Part) → LeafBytes s n p → LeafBits s n (take p.size (drop p.start s))
told_part s n p o =
    record {
      answer = o.answer;
      done = λ z. ap (λ (q : Part). take q.size (drop q.start s)) (o.done z);
      refused = λ h. ap (λ (q : Part). take q.size (drop q.start s)) (o.refused h);
    }

pub leaf_bytes_one : (s : List ℕ) (n m : ℕ) (p q : Part) → LeafBytes s n p → LeafBytes s m q → (n ≡ m) × (p ≡ q)
leaf_bytes_one s n m p q = outcome_one _ Part _ _ (λ x y a b. a ∙ sym b) (λ x y a b. a ∙ sym b) n m p q
