-- What a gate's memories hold, and what a call leaves: the same memories of the host, with other content.
use Rattle.std.specs.Prelude.{◌≡◌}
use Rattle.claim.specs.Step.{Memory, memory}
use Rattle.gate.specs.declared.Gate.{Gate}

abbrev pub memory_in : Gate → Memory
memory_in g = memory g.register.now g.book.now g.places.now

-- no memory of the host is put in another's place
abbrev pub SameLent : Gate → Gate → Type 0
SameLent g h = (h.register.ghost_name ≡ g.register.ghost_name) × (h.book.ghost_name ≡ g.book.ghost_name) × (h.places.ghost_name ≡ g.places.ghost_name)

-- a gate afterwards: the memories that it had, holding m
abbrev pub Leaves : Gate → Gate → Memory → Type 0
Leaves g h m = (memory_in h ≡ m) × SameLent g h
