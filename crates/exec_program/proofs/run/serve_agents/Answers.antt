use Rattle.std.proofs.Common.{◌∙◌, ℕ, List, Option, inl, inr, ap, subst, Err}
use Rattle.exec_host.specs.Requests.{WatchPaths}
use Rattle.exec_program.proofs.SessionLemmas.{allows_agents, allows_reader}
use Rattle.exec_program.proofs.run.serve_agents.Goals as goal

pub prepared-requires-clause-may_read : goal.prepared-requires-clause-may_read
prepared-requires-clause-may_read g c = allows_reader g.H.Host.asked g.H.Host.may c.args.options c.requires.may

pub prepared-requires-clause-may_make : goal.prepared-requires-clause-may_make
prepared-requires-clause-may_make g c =
    allows_agents g.H.Host.asked g.H.Host.may c.args.options c.args.log c.requires.log c.requires.may

pub watch-watch-requires-clause-may : goal.watch-watch-requires-clause-may
watch-watch-requires-clause-may g c = c.requires.may (WatchPaths _) (inr (inr c.served_directory.ensures))

pub served-requires-clause-watched : goal.served-requires-clause-watched
served-requires-clause-watched g c =
    subst (λ (x : Option (List ℕ)). g.H.Host.asked.watch x c.watch-watch.result) c.served_directory.ensures c.watch-watch.ensures.watch

pub returns-in-Ok-open-clause-runs : goal.returns-in-Ok-open-clause-runs
returns-in-Ok-open-clause-runs g c = inl (record {
  agents = c.in-Ok.agents;
  parts = c.in-Ok.parts;
  watch = c.watch-watch.result;
  now = c.moment-now.result;
  executor = c.in-Ok-open.opened.0;
  report = c.in-Ok-open.opened.1;
  holds = record { looked_after = c.in-Ok.ensures.agents; fresh = c.in-Ok.ensures.fresh; shown = c.moment-now.ensures.moment };
  opened = c.in-Ok-open.ensures.opened;
  at_site = c.in-Ok-open.ensures.site ∙ c.in-Ok.ensures.sites.0;
  reads = c.in-Ok.ensures.reader;
  watches = subst (λ (x : Option (List ℕ)). g.H.Host.asked.watch x c.watch-watch.result) c.served_directory.ensures c.watch-watch.ensures.watch;
  serves = c.served.ensures.serves;
  keeps = c.lemma_run_keeps_promise.ensures c.args.disk _ _ _ _ _ _ _ _ c.in-Ok-open.ensures.opened
      c.served.ensures.serves.lines.runs.closes.holds.leads;
})

pub returns-in-Err-clause-runs : goal.returns-in-Err-clause-runs
returns-in-Err-clause-runs g c = inr (inl (record {
  agents = c.in-Ok.agents;
  last_agents = c.in-Err.fault.children;
  lives = c.in-Ok.parts.left.items;
  now = c.moment-now.result;
  why = c.in-Err.fault.why;
  holds = record { looked_after = c.in-Ok.ensures.agents; fresh = c.in-Ok.ensures.fresh; shown = c.moment-now.ensures.moment };
  refused = c.in-Err.ensures.failed;
  ends = c.report_failed_device-ended.ensures ∙ ap Err c.opening_fault.ensures;
  keeps = c.lemma_refusal_keeps_promise.ensures c.args.disk _ _ _ _ _ c.in-Err.ensures.failed;
}))
