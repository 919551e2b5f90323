use Rattle.std.proofs.Common.{◌≡◌, ◌+◌, ◌-◌, ◌≤◌, length}
use Rattle.disk_model.specs.Image.{bytes_of, other, part_limit}
use Rattle.file_disk.proofs.part_file.PartFile.find_contents.Given as goal

abbrev pub invariant-loop-at : goal.invariant-loop-at
invariant-loop-at g l = record {
  here : length (bytes_of l.part l.log.calls.first) ≡ length (bytes_of l.part l.fn.log.calls.first) + l.at;
  there : bytes_of (other l.part) l.log.calls.first ≡ bytes_of (other l.part) l.fn.log.calls.first;
  events : l.log.calls.events ≡ l.fn.log.calls.events;
  limit : l.at ≤ part_limit;
}

abbrev pub decreases-loop-at : goal.decreases-loop-at
decreases-loop-at g l = part_limit - l.at
