-- A node's neighbours: the two child rules as laws, and what follows by induction over nodes: neighbours are mutual and of one depth.
use mathlib.Core.Path.{◌≡◌, refl, sym, ◌∙◌, ap, subst}
use mathlib.Core.Logic.{◌≢◌, ◌↔◌}
use Prim.Native.Nat.{ℕ, zero, suc, ◌+◌, ◌-◌, ◌*◌, ◌/◌, ◌%◌, ◌^◌, ◌≤◌, ◌<◌, min}
use native.Mathlib.Omega.{arith}
use native.Mathlib.Decide.{dec_le}
use Rattle.nodes.specs.declared.triples.Triple.{Triple}
use Rattle.nodes.specs.Depth.{depth_of, depth_in}
use Rattle.nodes.specs.Neighbours.{none, right_child, left_triple, right_triple, first_triple, neighbours_at, neighbours_of}
use lib.Pow.{pow_pos}
use Rattle.nodes.proofs.Depths.{depth_is, depth_left, depth_right, depth_pos, depth_le, below_depth, node_ind}

-- `right_child` as a sum, which `omega` reads
pub right_child_lem : (x : ℕ) → right_child x ≡ 2 * x + min x 1
right_child_lem zero = omega arith
right_child_lem (suc x) = omega arith

-- ---- the child rules

at_left_child : (d n : ℕ) → neighbours_at (suc (suc d)) (2 * n) ≡ left_triple (neighbours_at (suc d) n) n
unfolding neighbours_at
at_left_child d n =
    let b : 2 * n % 2 ≡ 0 = omega arith in
    let h : 2 * n / 2 ≡ n = omega arith in
    rw (b, h)

at_right_child : (d n : ℕ) → neighbours_at (suc (suc d)) (2 * n + 1) ≡ right_triple (neighbours_at (suc d) n) n
unfolding neighbours_at
at_right_child d n =
    let b : (2 * n + 1) % 2 ≡ 1 = omega arith in
    let h : (2 * n + 1) / 2 ≡ n = omega arith in
    rw (b, h)

pub left_triple_lem : (n : ℕ) → 2 ≤ n → neighbours_of (2 * n) ≡ left_triple (neighbours_of n) n
unfolding neighbours_of
left_triple_lem n p =
    let q = depth_pos n p in
    let e : depth_of n ≡ suc (depth_of n - 1) = omega arith in
    let f : depth_of (2 * n) ≡ suc (suc (depth_of n - 1)) = omega (arith, depth_left n (omega arith)) in
    ap (λ d. neighbours_at d (2 * n)) f ∙ at_left_child (depth_of n - 1) n ∙ ap (λ d. left_triple (neighbours_at d n) n) (sym e)

pub right_triple_lem : (n : ℕ) → 2 ≤ n → neighbours_of (2 * n + 1) ≡ right_triple (neighbours_of n) n
unfolding neighbours_of
right_triple_lem n p =
    let q = depth_pos n p in
    let e : depth_of n ≡ suc (depth_of n - 1) = omega arith in
    let f : depth_of (2 * n + 1) ≡ suc (suc (depth_of n - 1)) = omega (arith, depth_right n (omega arith)) in
    ap (λ d. neighbours_at d (2 * n + 1)) f ∙ at_right_child (depth_of n - 1) n ∙ ap (λ d. right_triple (neighbours_at d n) n) (sym e)

-- ---- mutual

-- x, where it is a node, is one of n's depth and has n for its neighbour of the kind f
pub record Back (f : Triple → ℕ) (x n : ℕ) : Type 0 where
  pub node : 2 ≤ x
  pub level : depth_of x ≡ depth_of n
  pub again : f (neighbours_of x) ≡ n

abbrev pub edge_in : Triple → ℕ
edge_in t = t.edge

abbrev pub left_in : Triple → ℕ
left_in t = t.left

abbrev pub right_in : Triple → ℕ
right_in t = t.right

-- each neighbour of n has n for a neighbour
pub record Mutual (n : ℕ) : Type 0 where
  pub by_edge : 1 ≤ (neighbours_of n).edge → Back edge_in (neighbours_of n).edge n
  pub by_left : 1 ≤ (neighbours_of n).left → Back right_in (neighbours_of n).left n
  pub by_right : 1 ≤ (neighbours_of n).right → Back left_in (neighbours_of n).right n

-- the right child of a neighbour, as the left child's
module _ (f g : Triple → ℕ) (step : (x : ℕ) → 2 ≤ x → f (neighbours_of (2 * x + 1)) ≡ 2 * g (neighbours_of x)) where
  back_odd : (n : ℕ) → 2 ≤ n → (x : ℕ) → (1 ≤ x → Back g x n) → 1 ≤ right_child x → Back f (right_child x) (2 * n)
  back_odd n p zero h q = absurd (omega arith)
  back_odd n p (suc x) h q =
      let b = h (omega arith) in record {
        node = omega arith;
        level = depth_right (suc x) (omega arith) ∙ ap suc b.level ∙ sym (depth_left n (omega arith));
        again = step (suc x) b.node ∙ ap (λ y. 2 * y) b.again;
      }

-- the left child of a neighbour, as the right child's
module _ (f g : Triple → ℕ) (step : (x : ℕ) → 2 ≤ x → f (neighbours_of (2 * x)) ≡ right_child (g (neighbours_of x))) where
  back_even : (n : ℕ) → 2 ≤ n → (x : ℕ) → (1 ≤ x → Back g x n) → 1 ≤ 2 * x → Back f (2 * x) (2 * n + 1)
  back_even n p x h q =
      let b = h (omega arith) in
      let o : right_child n ≡ 2 * n + 1 = omega (arith, right_child_lem n) in record {
        node = omega (arith, b.node);
        level = depth_left x (omega arith) ∙ ap suc b.level ∙ sym (depth_right n (omega arith));
        again = step x b.node ∙ ap right_child b.again ∙ o;
      }

mutual_two : Mutual 2
unfolding neighbours_of neighbours_at depth_of depth_in
mutual_two = record { by_edge = λ h. record { node = omega arith; level = refl; again = refl }; by_left = λ h. absurd (omega arith); by_right = λ h. absurd (omega arith) }

mutual_three : Mutual 3
unfolding neighbours_of neighbours_at depth_of depth_in
mutual_three = record { by_edge = λ h. record { node = omega arith; level = refl; again = refl }; by_left = λ h. absurd (omega arith); by_right = λ h. absurd (omega arith) }

mutual_left : (n : ℕ) → 2 ≤ n → Mutual n → Mutual (2 * n)
mutual_left n p m = record {
  by_edge = rw (left_triple_lem n p) (back_odd edge_in left_in (λ x q. ap edge_in (right_triple_lem x q)) n p (neighbours_of n).right m.by_right);
  by_left = rw (left_triple_lem n p) (λ h. record {
    node = omega arith;
    level = depth_right n (omega arith) ∙ sym (depth_left n (omega arith));
    again = ap right_in (right_triple_lem n p);
  });
  by_right = rw (left_triple_lem n p) (back_odd left_in edge_in (λ x q. ap left_in (right_triple_lem x q)) n p (neighbours_of n).edge m.by_edge);
}

mutual_right : (n : ℕ) → 2 ≤ n → Mutual n → Mutual (2 * n + 1)
mutual_right n p m = record {
  by_edge = rw (right_triple_lem n p) (back_even edge_in right_in (λ x q. ap edge_in (left_triple_lem x q)) n p (neighbours_of n).left m.by_left);
  by_left = rw (right_triple_lem n p) (back_even right_in edge_in (λ x q. ap right_in (left_triple_lem x q)) n p (neighbours_of n).edge m.by_edge);
  by_right = rw (right_triple_lem n p) (λ h. record {
    node = omega arith;
    level = depth_left n (omega arith) ∙ sym (depth_right n (omega arith));
    again = ap left_in (left_triple_lem n p);
  });
}

pub mutually : (n : ℕ) → 2 ≤ n → Mutual n
mutually = node_ind Mutual mutual_two mutual_three mutual_left mutual_right

-- at depth 1
pub first_triple_lem : (n : ℕ) → 2 ≤ n → n < 4 → neighbours_of n ≡ first_triple n
unfolding neighbours_of neighbours_at
first_triple_lem n p q =
    let d : depth_of n ≡ 1 = depth_is {d = 1} {n = n} (record { low = p; high = q }) in rw d

-- the neighbours of a node below 2 ^ (D + 1) are below it too

pub record Below (limit : ℕ) (t : Triple) : Type 0 where
  pub left : t.left < limit
  pub right : t.right < limit
  pub edge : t.edge < limit

one_below : (f : Triple → ℕ) (x n D : ℕ) → 2 ≤ n → n < 2 ^ (D + 1) → (1 ≤ x → Back f x n) → x < 2 ^ (D + 1)
one_below f zero n D p h b = omega (arith, pow_pos (D + 1))
one_below f (suc x) n D p h b =
    below_depth (suc x) D (omega arith) (omega (arith, depth_le n D h, (b (omega arith)).level))

pub neighbours_below : (n D : ℕ) → 2 ≤ n → n < 2 ^ (D + 1) → Below (2 ^ (D + 1)) (neighbours_of n)
neighbours_below n D p h =
    let m = mutually n p in record {
      left = one_below right_in (neighbours_of n).left n D p h m.by_left;
      right = one_below left_in (neighbours_of n).right n D p h m.by_right;
      edge = one_below edge_in (neighbours_of n).edge n D p h m.by_edge;
    }

-- ---- what the rules promise

no_triple : neighbours_of 1 ≡ none
unfolding neighbours_of neighbours_at depth_of depth_in
no_triple = refl

-- x has left y exactly when y has right x (y not 0)
pub left_right : (x y : ℕ) → 2 ≤ x → y ≢ 0 → ((neighbours_of x).left ≡ y) ↔ ((neighbours_of y).right ≡ x)
left_right x y p z = (there, λ e. back e (dec_le 2 y))
  where
    there : (neighbours_of x).left ≡ y → (neighbours_of y).right ≡ x
    there e = subst (λ i. (neighbours_of i).right ≡ x) e ((mutually x p).by_left (omega arith)).again

    back : (neighbours_of y).right ≡ x → Dec (2 ≤ y) → (neighbours_of x).left ≡ y
    back e (yes q) = subst (λ i. (neighbours_of i).left ≡ y) e ((mutually y q).by_right (omega arith)).again
    back e (no q) = let o : y ≡ 1 = omega arith in absurd (omega (arith, ap right_in (ap neighbours_of o ∙ no_triple)))

-- neighbours have the node's depth
pub left_depth : (n : ℕ) → 2 ≤ n → (neighbours_of n).left ≢ 0 → depth_of (neighbours_of n).left ≡ depth_of n
left_depth n p z = ((mutually n p).by_left (omega arith)).level

pub right_depth : (n : ℕ) → 2 ≤ n → (neighbours_of n).right ≢ 0 → depth_of (neighbours_of n).right ≡ depth_of n
right_depth n p z = ((mutually n p).by_right (omega arith)).level
