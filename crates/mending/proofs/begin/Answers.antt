-- The head and leaf bit 0 are written, and nothing else.
use mathlib.Core.Path.{ap, ◌∙◌}
use native.Mathlib.Omega.{arith}
use Rattle.words.specs.inner.Working.{put_leaf_bit}
use Rattle.words.proofs.Heads.{head_inside, head_fits}
use Rattle.words.proofs.Rooms.{room_bytes}
use Rattle.mending.proofs.Mends.{begun}
use Rattle.mending.proofs.begin.Goals as goal

pub put_field-requires : goal.put_field-requires
put_field-requires c =
    omega (arith, room_bytes c.requires, head_inside c.args.deep c.args.panel.now c.requires, head_fits c.args.deep)

pub returns : goal.returns
returns c =
    begun c.requires (c.put_leaf_bit.ensures ∙ ap (λ x. put_leaf_bit c.args.deep x 0 1) c.put_field.ensures)
