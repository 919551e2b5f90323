use Rattle.std.proofs.Common.{arith, refl, subst, take}
use Rattle.agents_file.specs.declared.slots.TheConstants.{SLOTS}
use Rattle.child_keeper.specs.Openings.{AreFound}
use Rattle.child_keeper.specs.Waits.{ids_of}
use Rattle.child_keeper.proofs.Knowing.{new_children, new_held, new_keeps, processes-given_up}
use Rattle.child_keeper.proofs.Waiting.{size}
use Rattle.child_keeper.proofs.processes.Processes.new.Goals as goal

pub invariant_of-result : goal.invariant_of-result
invariant_of-result g c =
    new_keeps g.R.AgentSystem.view g.R.AgentSystem.process_of (record {
      rt = c.find_orphans.new.rt;
      alloc = c.args.alloc;
      log = c.args.log;
      leading = c.in_ok-leading.leading;
      roster = c.in_ok-orphans.orphans.record;
      book = c.in_ok-book.book;
      agents = c.in_ok-agents.agents;
      waits = c.in_ok-orphans.orphans.waits;
      shown = c.len-shown.result;
      last_run = 0;
    })
    (g.R.AgentSystem.view c.args.rt) c.requires.idle c.in_ok-orphans.ensures.opens c.in_ok-orphans.ensures.given_up c.in_ok-agents.ensures.none
    c.in_ok-agents.ensures.ended c.in_ok-orphans.ensures.few c.len-shown.ensures c.in_ok-book.ensures.no_log

pub returns-clause-children : goal.returns-clause-children
returns-clause-children g c = (
  take c.len-shown.result (ids_of c.in_ok-orphans.orphans.waits.waits.items),
  new_children (record {
    rt = c.find_orphans.new.rt;
    alloc = c.args.alloc;
    log = c.args.log;
    leading = c.in_ok-leading.leading;
    roster = c.in_ok-orphans.orphans.record;
    book = c.in_ok-book.book;
    agents = c.in_ok-agents.agents;
    waits = c.in_ok-orphans.orphans.waits;
    shown = c.len-shown.result;
    last_run = 0;
  })
      c.args.book c.in_ok-book.ensures.empty c.in_ok-book.ensures.no_log c.in_ok-book.ensures.room refl c.in_ok-agents.ensures.none
      c.in_ok-agents.ensures.ended,
)

pub returns-clause-found : goal.returns-clause-found
returns-clause-found g c =
    let found = c.in_ok-orphans.ensures.found in (
      found.0,
      found.1,
      subst (λ l. AreFound (g.R.AgentSystem.view c.args.rt) (g.R.AgentSystem.view c.find_orphans.new.rt) c.args.upkeep.leave (take SLOTS found.0) l
          c.in_ok-orphans.orphans.left.items)
          (processes-given_up g.R.AgentSystem.process_of (g.R.AgentSystem.view c.find_orphans.new.rt).sights c.in_ok-orphans.orphans.waits.waits.items
          c.in_ok-orphans.ensures.given_up)
          found.2,
    )

pub returns-clause-held : goal.returns-clause-held
returns-clause-held g c =
    let waits = c.in_ok-orphans.orphans.waits.waits in
    new_held g.R.AgentSystem.process_of (g.R.AgentSystem.view c.find_orphans.new.rt).sights waits.items c.len-shown.result
    c.in_ok-orphans.ensures.given_up (omega (arith, c.len-shown.ensures, size waits))
