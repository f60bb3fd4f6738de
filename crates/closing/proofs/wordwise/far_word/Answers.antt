-- The word below m's edge neighbour names the nodes below that one, and 0 names none.
use mathlib.Core.Path.{◌≡◌, sym, ap, ◌∙◌, subst}
use mathlib.Core.Logic.{◌≢◌}
use Prim.Native.Nat.{ℕ, ◌+◌, ◌-◌, ◌*◌}
use native.Mathlib.Omega.{arith}
use mathlib.Core.List.{List}
use lib.ListN.{length}
use Rattle.words.specs.inner.Working.{Room}
use Rattle.bits.specs.Bits.{field}
use Rattle.nodes.specs.Depth.{depth_of}
use Rattle.nodes.specs.Neighbours.{edge}
use Rattle.nodes.proofs.Depths.{below_depth}
use Rattle.nodes.proofs.Edges.{edge_depth}
use Rattle.words.specs.Words.{leaf_bit}
use Rattle.cuts.specs.Cuts.{Cut}
use Rattle.closing.specs.inner.Wordwise.{NearWord}
use Rattle.closing.proofs.NearWords.{NearPlace, near_place, near_word, far_some}
use Rattle.closing.proofs.wordwise.far_word.Goals as goal

pub edge_of-e-requires : goal.edge_of-e-requires
edge_of-e-requires c = (c.requires.1, omega (arith, below_depth c.args.m.0 12 (omega arith) (omega arith)))

-- the edge neighbour is a node of m's depth
some : (m : ℕ) {e : ℕ} → e ≡ edge m → e ≢ 0 → edge m ≢ 0
some m is z n = z (is ∙ n)

same_depth : (m : ℕ) {e deep : ℕ} → e ≡ edge m → e ≢ 0 → depth_of m + 5 ≡ deep → depth_of e + 5 ≡ deep
same_depth m is z d = omega (arith, ap depth_of is, edge_depth m (some m is z), d)

-- .. with a word of its own
near : (m : ℕ) {e deep : ℕ} {bs : List ℕ} → Room deep bs → e ≡ edge m → e ≢ 0 → depth_of m + 5 ≡ deep → NearPlace deep e (length bs)
near m room is z d = near_place room (omega arith) (same_depth m is z d)

pub word_place-requires : goal.word_place-requires
word_place-requires c = (c.requires.0.high, omega arith, same_depth c.args.m.0 c.edge_of-e.ensures c.if-e-eq0.false c.requires.2)

pub get_bytes-requires : goal.get_bytes-requires
get_bytes-requires c = omega (arith, c.word_place.ensures, near c.args.m.0 c.requires.0 c.edge_of-e.ensures c.if-e-eq0.false c.requires.2)

pub returns : goal.returns
returns c =
    let a = c.args in
    let P = Cut a.deep (leaf_bit a.deep a.bytes.now) in
    far_some (some c.args.m.0 c.edge_of-e.ensures c.if-e-eq0.false) c.edge_of-e.ensures (subst (NearWord P c.edge_of-e.result) (sym (c.get_bytes.ensures.value ∙ ap (λ (i : ℕ). field a.bytes.now (8 * i) 32) c.word_place.ensures))
    (near_word a.deep (a.deep - 5) c.edge_of-e.result (omega arith) c.requires.0.high (near c.args.m.0 c.requires.0 c.edge_of-e.ensures c.if-e-eq0.false c.requires.2).at a.bytes.now))
