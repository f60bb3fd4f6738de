-- The leaf bit that names n is set under right sums. Its pin becomes that of l, which was read before: it was not set, since the bit was not.
use mathlib.Core.Path.{◌≡◌, sym, ap, ◌∙◌}
use mathlib.Core.Logic.{◌≢◌}
use native.Mathlib.Omega.{arith}
use Rattle.words.specs.Words.{leaf_bit}
use Rattle.sums.proofs.Counts.{leaf_bits}
use Rattle.cuts.specs.Cuts.{place_of}
use Rattle.cuts.proofs.Places.{cut_set}
use Rattle.pins.specs.Pins.{pin_bit}
use Rattle.pins.specs.inner.Steps.{put_pin}
use Rattle.pins.proofs.PinBits.{pin_lt, put_pin_none, pin_put_leaf, summed_pin}
use Rattle.cutting.specs.inner.Changing.{CutPut}
use Rattle.cutting.proofs.cut_under.Lts
use Rattle.cutting.proofs.cut_under.Reads
use Rattle.cutting.proofs.cut_under.Tie
use Rattle.cutting.proofs.cut_under.Goals as goal

abbrev start : (Lts.After-put_leaf Tie.the-claims Reads.Pre Reads.Post) → (Lts.Start Tie.the-claims Reads.Pre Reads.Post)
start b = b.before.before.before.before.before.before

abbrev cut : (b : (Lts.After-put_leaf Tie.the-claims Reads.Pre Reads.Post)) → let a = (start b).args in CutPut a.deep a.panel.now a.n.0 1 b.put_leaf.new.bytes
cut b = record { place = b.place_above-p.result; at = b.place_above-p.ensures; put = b.put_leaf.ensures }

-- what was read is l's pin
held : (b : (Lts.After-put_leaf Tie.the-claims Reads.Pre Reads.Post)) → let a = (start b).args in b.pin-v.result ≡ pin_bit a.deep a.panel.now (place_of a.deep a.l.0)
held b =
    let a = (start b).args in
    b.pin-v.ensures ∙ ap (pin_bit a.deep a.panel.now) b.leaf_place.ensures.0

-- no pin is set where the bit was not
bare : (b : (Lts.After-put_leaf Tie.the-claims Reads.Pre Reads.Post)) → pin_bit (start b).args.deep b.put_leaf.new.bytes b.place_above-p.result ≡ 0
bare b =
    let s = start b in
    let a = s.args in
    let p = b.place_above-p in
    let D = a.deep in
    let old = a.panel.now in
    let high = s.requires.0.room.words.high in
    let z : leaf_bit D old p.result ≢ 1 = λ o. s.requires.0.uncut ((cut_set D (leaf_bit D old) (omega arith) p.ensures).1 o) in
    omega (arith, leaf_bits D old p.result, summed_pin b.put_leaf.ensures p.result, pin_put_leaf D old p.result 1 (omega arith) p.ensures.high p.result, s.requires.0.pins p.result p.ensures.high)

pub returns-then-v-eq1 : goal.returns-then-v-eq1
returns-then-v-eq1 c =
    let a = (start c.before.before.before.before.before.before.before.before).args in
    record {
      half = c.put_leaf.new.bytes;
      cut = cut c.before.before.before.before.before.before.before.before;
      put = c.put_pin.ensures ∙ ap (put_pin a.deep c.put_leaf.new.bytes c.place_above-p.result) (sym c.if-v-eq1.true ∙ held c.before.before.before.before.before.before.before.before);
    }

pub returns-else-v-eq1 : goal.returns-else-v-eq1
returns-else-v-eq1 c =
    let a = (start c.before.before.before.before).args in
    record {
      half = c.put_leaf.new.bytes;
      cut = cut c.before.before.before.before;
      put =
          sym (put_pin_none a.deep c.put_leaf.new.bytes c.place_above-p.result (pin_bit a.deep a.panel.now (place_of a.deep a.l.0))
          (bare c.before.before.before.before ∙ omega (arith, held c.before.before.before.before, c.if-v-eq1.false, pin_lt a.deep a.panel.now (place_of a.deep a.l.0))));
    }
