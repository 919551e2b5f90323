-- Which part of a pair was emptied.
use Rattle.std.specs.Prelude.{◌==◌, ◌&&◌, nat_le, length, Option, Some, None, if◌then◌else◌}
use Rattle.ocf_types.specs.declared.part.Part.{Part}
use Rattle.disk_model.specs.Image.{Image, bytes_of, other}
use Rattle.two_parts.specs.Choice.{choice}
use Rattle.two_parts.specs.declared.choice.Choice.{Choice}
use Rattle.two_parts.specs.declared.choice.Choice.TheVariants.{Current}

-- the empty part beside a current one of epoch 2 or more
abbrev pub emptied_beside : Choice → Image → Option Part
emptied_beside (Current part h) c = if (length (bytes_of (other part) c) == 0) && nat_le 2 h.epoch then Some (other part) else None
emptied_beside _ c = None

-- the part of an image that was emptied
abbrev pub emptied_part : Image → Option Part
emptied_part c = emptied_beside (choice c) c
