-- How drains and watches end.
use Rattle.std.specs.Prelude.{ℕ, Bool, ◌&&◌, nat_le, Option, Some, None, if◌then◌else◌}
use Rattle.ocf_model.specs.declared.reply.TurnEnd.{TurnEnd}
use Rattle.ocf_model.specs.declared.reply.TurnEnd.TheVariants.{Done}
use Rattle.exec_replies.specs.declared.ends.DrainEnd.{DrainEnd}
use Rattle.exec_replies.specs.declared.ends.DrainEnd.TheVariants.{Idle, Limit, Turns, Turn}
use Rattle.session_machine.specs.declared.terms.Terms.{Terms}

-- How a drain ends after this number of turns, the last of which ended like this, with the executor idle or not, at this time; `None`
-- where it goes on.
abbrev pub end_after : Terms → ℕ → ℕ → TurnEnd → Bool → Option DrainEnd
end_after t turns now Done idle =
    if t.ends_idle && idle then Some Idle else
    (if nat_le t.until now then Some Limit else (if nat_le t.most turns then Some Turns else None))
end_after t turns now end idle = Some (Turn end)
