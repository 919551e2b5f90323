use Rattle.exec_state.proofs.state.State.check_register.Goals as goal

pub returns : goal.returns
returns g c =
    rw (
      ← c.moment-at.ensures,
      ← c.self.view_is,
      ← c.contains.ensures,
      c.if-contains.false,
      ← c.is_full.ensures,
      c.if-is_full.false,
    ) c.unless_too_large.ensures
