use Rattle.std.proofs.Common.{refl}
use Rattle.process_ends.proofs.EndingLemmas.{ends_refl, ends_trans, same_trans}
use Rattle.process_ends.proofs.IndexLemmas.{changed_at_index, changed_twice, kept_at}
use Rattle.process_ends.proofs.ending.outlives.Goals as goal

pub loop-alloc-init : goal.loop-alloc-init
loop-alloc-init g c = record {
  given_up = kept_at _ _ _ _ c.args.action.now _ c.requires.given_up refl refl c.requires.given_up.matched;
  same = record { what = refl; process = refl; due = refl };
  ends = ends_refl _;
}

pub lives-requires : goal.lives-requires
lives-requires g c = record {
  given_up = changed_at_index _ _ _ _ c.args.action.now c.loop-alloc.action c.requires.given_up c.loop-alloc.invariant.given_up;
}

pub returns-then-not-pause-clause-given_up : goal.returns-then-not-pause-clause-given_up
returns-then-not-pause-clause-given_up g c =
    changed_twice _ _ _ _ _ c.loop-alloc.action c.lives.new.self c.loop-alloc.invariant.given_up c.lives.ensures.given_up

pub loop-alloc-preserved : goal.loop-alloc-preserved
loop-alloc-preserved g c = record {
  given_up = changed_twice _ _ _ _ _ c.loop-alloc.action c.lives.new.self c.loop-alloc.invariant.given_up c.lives.ensures.given_up;
  same = same_trans c.loop-alloc.invariant.same c.lives.ensures.same;
  ends = ends_trans c.loop-alloc.invariant.ends c.lives.ensures.ends;
}

pub returns-clause-given_up : goal.returns-clause-given_up
returns-clause-given_up g c =
    changed_twice _ _ _ _ _ c.loop-alloc.action c.lives.new.self c.loop-alloc.invariant.given_up c.lives.ensures.given_up
