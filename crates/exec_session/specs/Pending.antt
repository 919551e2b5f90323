-- Input that was read and is not answered.
use Rattle.std.specs.Prelude.{◌≡◌, [], None}
use Rattle.exec_lines.specs.Buffer.{line_bytes}
use Rattle.exec_session.specs.Gathered.{waiting}
use Rattle.exec_session.specs.declared.pending.Pending.{Pending}

-- none of it
pub record IsClear (pending : Pending) : Type 0 where
  pub buffer : line_bytes pending.buffer ≡ []
  pub none : waiting pending.gathered ≡ []
  pub free : pending.held ≡ None
