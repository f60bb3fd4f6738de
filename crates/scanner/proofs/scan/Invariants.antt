use Rattle.std.proofs.Common.{◌-◌}
use Rattle.records.specs.Records.{most_records}
use Rattle.steps.specs.Holding.{depth_or_0, Keeps}
use Rattle.requests.proofs.Parts.{Reading}
use Rattle.scanner.proofs.scan.Given as goal

abbrev pub invariant-loop-ran : goal.invariant-loop-ran
invariant-loop-ran l = record {
  reading : Reading l.initial.buffer l.initial.answers l.buffer l.answers l.ran.count (depth_or_0 l.ran.deep);
  keeps : Keeps l.ran.deep l.buffer;
}

abbrev pub decreases-loop-ran : goal.decreases-loop-ran
decreases-loop-ran l = most_records - l.ran.count
