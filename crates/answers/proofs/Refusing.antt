-- A refusal is never taken for done: its number is not 0. Every number fits a byte, and an ancestor stands beside 10 alone.
use mathlib.Core.Path.{◌≡◌, refl, ap}
use mathlib.Core.Logic.{◌≢◌}
use Prim.Native.Nat.{◌<◌}
use native.Mathlib.Omega.{arith}
use Rattle.answers.specs.declared.Refusal.{Refusal}
use Rattle.answers.specs.declared.Refusal.TheVariants.{WrongLength, NotGood, NoSuchNode, IsCut, AtGreatestDepth, AtDepthOne, LeavesMissing, NoSuchNumber, BadRecord, BelowLeaf, LeafPinned, NoRoom, BytesLeft, PanelInUse}
use Rattle.std.specs.Prelude.{Result, Ok, Err, IsErrAnd}
use Rattle.answers.specs.Refusals.{refusal_number, refusal_ancestor, answer_number}

-- the number of a refusal is not 0, and fits a byte
refusal_range : (e : Refusal) → (0 < refusal_number e) × (refusal_number e < 256)
refusal_range WrongLength = omega arith
refusal_range NotGood = omega arith
refusal_range NoSuchNode = omega arith
refusal_range IsCut = omega arith
refusal_range AtGreatestDepth = omega arith
refusal_range AtDepthOne = omega arith
refusal_range LeavesMissing = omega arith
refusal_range NoSuchNumber = omega arith
refusal_range BadRecord = omega arith
refusal_range (BelowLeaf k) = omega arith
refusal_range LeafPinned = omega arith
refusal_range NoRoom = omega arith
refusal_range BytesLeft = omega arith
refusal_range PanelInUse = omega arith

pub refusal_pos : (e : Refusal) → refusal_number e ≢ 0
refusal_pos e z = omega (arith, refusal_range e)

pub answer_byte : {T : Type 0} (a : Result T Refusal) → answer_number a < 256
answer_byte (Ok x) = omega arith
answer_byte (Err e) = (refusal_range e).1

-- beside all but 10 the ancestor is 0
pub refusal_alone : (e : Refusal) → refusal_number e ≢ 10 → refusal_ancestor e ≡ 0
refusal_alone WrongLength z = refl
refusal_alone NotGood z = refl
refusal_alone NoSuchNode z = refl
refusal_alone IsCut z = refl
refusal_alone AtGreatestDepth z = refl
refusal_alone AtDepthOne z = refl
refusal_alone LeavesMissing z = refl
refusal_alone NoSuchNumber z = refl
refusal_alone BadRecord z = refl
refusal_alone (BelowLeaf k) z = absurd (z refl)
refusal_alone LeafPinned z = refl
refusal_alone NoRoom z = refl
refusal_alone BytesLeft z = refl
refusal_alone PanelInUse z = refl

-- what a `?` hands on is the refusal that it met
pub handed : {T : Type 0} {r : Result T Refusal} {e : Refusal} → IsErrAnd r (λ x. x ≡ e) → r ≡ Err e
handed {r = Ok x} h = absurd h
handed {r = Err x} h = ap Err h
