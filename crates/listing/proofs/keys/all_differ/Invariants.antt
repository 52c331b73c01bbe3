-- `listing::keys::all_differ`: the keys looked at so far stand nowhere behind themselves. Assumes nothing.
use Rattle.std.proofs.Common.{◌≡◌, length}
use Rattle.listing.specs.Keys.{keys_differ}
use Rattle.listing.proofs.keys.all_differ.Given as goal

abbrev pub invariant-loop-key : goal.invariant-loop-key
invariant-loop-key l = keys_differ l.keys ≡ keys_differ l.rest

abbrev pub decreases-loop-key : goal.decreases-loop-key
decreases-loop-key l = length l.rest
