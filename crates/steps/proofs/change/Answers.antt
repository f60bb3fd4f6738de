-- The kind picks the call, and each call has its own contract.
use Rattle.steps.specs.inner.Changing.Change.{split, merge, pin, unpin}
use Rattle.steps.proofs.change.Goals as goal

pub returns-in-Split : goal.returns-in-Split
returns-in-Split c = rw c.in-Split.is (split c.split.ensures.split)

pub returns-in-Merge : goal.returns-in-Merge
returns-in-Merge c = rw c.in-Merge.is (merge c.merge.ensures.merge)

pub returns-in-Pin : goal.returns-in-Pin
returns-in-Pin c = rw c.in-Pin.is (pin c.put_pin.ensures.pin_put)

pub returns-in-Unpin : goal.returns-in-Unpin
returns-in-Unpin c = rw c.in-Unpin.is (unpin c.put_pin-in-Unpin.ensures.pin_put)
