use Rattle.std.proofs.Common.{◌≡◌, ◌≤◌, drop}
use Rattle.word_text.specs.Scan.{number}
use Rattle.word_text.proofs.scan.number.Given as goal

abbrev pub invariant-loop-d : goal.invariant-loop-d
invariant-loop-d l = record {
  so_far : number 0 l.digits ≡ number l.value (drop l.d-index l.digits);
  within : l.value ≤ l.limit;
}
