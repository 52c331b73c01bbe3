-- `columns_read::run_of_digits` meets its contract. Assumes nothing.
use Rattle.std.proofs.Common.{◌≡◌, ◌+◌, ◌*◌, ◌-◌, ◌^◌, length, drop}
use Rattle.columns.specs.Column.{number as number_of}
use Rattle.columns.specs.Scan.{all_digits}
use Rattle.columns_read.proofs.run_of_digits.Given as goal

abbrev pub invariant-loop-b : goal.invariant-loop-b
invariant-loop-b l =
    (all_digits l.digits ≡ all_digits (drop l.b-index l.digits))
    × (number_of l.digits ≡ l.number * 10 ^ (length l.digits - l.b-index) + number_of (drop l.b-index l.digits))
