use Rattle.std.proofs.Common.{is_some, nat_lt}
use Rattle.indexmap.specs.IndexMap.{spare}
use Rattle.exec_state.proofs.Rooms.{last_of_three}
use Rattle.exec_state.proofs.registry.Registry.register.Goals as goal

pub insert-requires-clause-room : goal.insert-requires-clause-room
insert-requires-clause-room g c =
    last_of_three (is_some c.self.inside.next_ops) (nat_lt 0 (spare c.self.inside.resources)) c.self.inside.dues.room
    (rw (← c.self.view_is) at c.requires.ready)
