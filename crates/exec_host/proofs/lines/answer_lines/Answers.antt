use Rattle.std.proofs.Common.{◌∙◌, ℕ, List, Option, option_map, inl, inr, ap, not, refl, subst, sym}
use Rattle.ocf_env.specs.Locations.{SiteView}
use Rattle.exec_replies.specs.JournalIds.{id_digits}
use Rattle.exec_client.specs.ClientView.{ClientView}
use Rattle.exec_client.specs.Failures.{tell_failure}
use Rattle.exec_host.specs.Requests.{AskIdentity, AskSite, OpenWriter, StartClock}
use Rattle.exec_host.proofs.LineLemmas.{held_of, lent_digits}
use Rattle.exec_host.proofs.lines.answer_lines.Goals as goal

pub ticker-ticker-requires-clause-may : goal.ticker-ticker-requires-clause-may
ticker-ticker-requires-clause-may g c = c.requires.may (StartClock _ _) (inl c.directory_of.ensures)

pub source-source-requires-clause-may : goal.source-source-requires-clause-may
source-source-requires-clause-may g c = c.requires.may (AskSite _ _) (inr (inl (c.requires.site, refl)))

pub identity-identity-requires-clause-may : goal.identity-identity-requires-clause-may
identity-identity-requires-clause-may g c = c.requires.may (AskIdentity _) (inl c.directory_of-2.ensures)

pub client_of-requires-clause-may : goal.client_of-requires-clause-may
client_of-requires-clause-may g c = c.requires.may (OpenWriter _) (inr (inr refl))

pub returns-clause-runs : goal.returns-clause-runs
returns-clause-runs g c = (
  c.run_over-run.result.edge.trace.state.client.reported,
  c.has_failed.ensures ∙ ap (λ (v : ClientView _). tell_failure v.reported) c.into_parts-reader.ensures.client,
  record {
    source = c.source-source.result;
    writer = c.client_of.ensures.writes.0;
    ticker = c.ticker-ticker.result;
    last_reader = c.into_parts-reader.result.0;
    last_ticker = c.into_parts-reader.result.2;
    identity = option_map id_digits c.identity-identity.result;
    rules = c.rules_of-rules.result;
    client = c.client_of.result;
    start = record {
      input = g.H.Reader.Input.view c.args.parts.reader;
      ticks = g.H.Ticker.Ticker.asked c.ticker-ticker.result;
      source = g.H.Source.Metadata.of c.source-source.result;
    };
    edge = c.run_over-run.result.edge;
    of_journal =
        subst (λ (x : Option (List ℕ)). g.H.Host.asked.identity x (option_map id_digits c.identity-identity.result))
        c.directory_of-2.ensures c.identity-identity.ensures.identity;
    of_site = subst (λ (x : SiteView). g.H.Host.asked.source x (not c.args.options.no_groups) c.source-source.result)
        c.requires.site c.source-source.ensures.asked;
    of_clock = subst (λ (x : Option (List ℕ)). g.H.Host.asked.ticker x c.args.opened.0.state.clock c.ticker-ticker.result) c.directory_of.ensures
        (subst (λ (n : ℕ). g.H.Host.asked.ticker (option_map (λ t. t.now) c.directory_of.result) n c.ticker-ticker.result)
        c.clock.ensures.value c.ticker-ticker.ensures.ticker);
    writes = c.client_of.ensures.writes.1;
    new = c.client_of.ensures.new;
    written = c.client_of.ensures.writes.2;
    held = held_of (lent_digits c.as_ref.result c.identity-identity.result c.as_ref.ensures.value) c.as_slice.ensures.value c.rules_of-rules.ensures.held;
    reads = refl;
    unasked = c.ticker-ticker.ensures.unasked;
    asks = c.source-source.ensures.of ∙ ap (λ (s : SiteView). record { site = s; groups = not c.args.options.no_groups }) c.requires.site;
    runs = c.run_over-run.ensures.runs;
    left = c.leave.ensures.left;
    read = sym c.into_parts-reader.ensures.input;
    shown = sym c.into_parts-reader.ensures.ticks;
  },
)
