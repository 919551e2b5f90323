-- Parts of calls join to one behaviour of the machine of one resource.
use Rattle.std.proofs.Common.{◌≡◌, ◌⊎◌, inl, inr, ℕ, ◌≤◌, true, List, [], ◌∷◌, ◌++◌, Option, Some, refl, sym, ap, subst, ◌∙◌, append_assoc, le_refl, le_trans}
use Rattle.ocf_model.specs.Due.{IsPick}
use Rattle.ocf_types.specs.Kinds.{Change, Event}
use Rattle.ocf_model.specs.Resource.{Resource}
use Rattle.ocf_types.specs.declared.command.RequestOf.TheVariants as asked
use Rattle.ocf_types.specs.declared.event.Change.TheVariants as change
use Rattle.ocf_types.specs.declared.event.Step.TheVariants as step
use Rattle.child_model.specs.declared.answer.Entry.{Entry}
use Rattle.executor_laws.specs.Joins.{SameIsolated}
use Rattle.executor.specs.Exchanges.{Abandoned, Cleared, Exchange, Finished, Batch, Tidied, Took}
use Rattle.executor_laws.specs.Isolated.{Alone, Isolated, IsolatedBegin, IsolatedRest, IsolatedTakes, above_call, above_run, cut, has_monitor, isolated_after, isolated_after_all, isolated_answer, isolated_changed, isolated_sets}
use Rattle.executor.specs.declared.session.InputOf.TheVariants as input
use Rattle.executor_laws.proofs.Isolation.Changes.{monitor_before, or_else_alike, single-append}
use Rattle.executor_laws.proofs.Isolation.Picks.{pick_same}

-- a machine that agrees with another agrees with it after the same events
above_call_kept : (c : Change) (m n : ℕ) → m ≤ n → above_call c m ≤ above_call c n
above_call_kept (change.Step id (step.Exec o)) m n le = le_refl _
above_call_kept (change.Step id (step.Recur r)) m n le = le_refl _
above_call_kept _ m n le = le

above_run_kept : (c : Change) (m n : ℕ) → m ≤ n → above_run c m ≤ above_run c n
above_run_kept (change.Step id (step.Begin call run)) m n le = le_refl _
above_run_kept _ m n le = le

holds_one : (x y : Isolated) (e : Event) → SameIsolated x y → SameIsolated (isolated_after x e) (isolated_after y e)
holds_one x y e s = record {
  resource = ap (isolated_changed e.at e.change) s.resource;
  due = λ call there.
      rw (s.resource, there)
      (or_else_alike (isolated_sets e.at e.change y.resource call) (x.due call) (y.due call)
      (λ none. s.due call (monitor_before e.at e.change y.resource call there none)));
  calls = above_call_kept e.change x.next_call y.next_call s.calls;
  runs = above_run_kept e.change x.next_run y.next_run s.runs;
}

holds_on : (x y : Isolated) (es : List Event) → SameIsolated x y → SameIsolated (isolated_after_all x es) (isolated_after_all y es)
holds_on x y [] s = s
holds_on x y (e ∷ es) s = holds_on (isolated_after x e) (isolated_after y e) es (holds_one x y e s)

-- and takes the same calls
pick_there : (x y : Isolated) (at : ℕ) (r : Resource) (pick : Option ℕ) → SameIsolated x y → y.resource ≡ Some r → IsPick r y.due at pick → IsPick r x.due at pick
pick_there x y at r pick s is picked = pick_same r y.due x.due at pick
    (λ call known. s.due call (subst (λ (o : Option Resource). has_monitor o call ≡ true) (sym is) known)) picked

goes_there : (id : List ℕ) (at : ℕ) (x y : Isolated) (entries : List Entry) (events : List Event) → SameIsolated x y
    → IsolatedRest at y entries events ⊎ IsolatedBegin id at y entries events → IsolatedRest at x entries events ⊎ IsolatedBegin id at x entries events
goes_there id at x y entries events s (inl r) = inl (record {
  none_picked = λ q is. let there = sym s.resource ∙ is in pick_there x y at q _ s there (r.none_picked q there);
  no_entries = r.no_entries;
  no_events = r.no_events;
})
goes_there id at x y entries events s (inr b) = inr (record {
  resource = b.resource;
  is = s.resource ∙ b.is;
  call = b.call;
  picked = pick_there x y at b.resource (Some b.call) s b.is b.picked;
  run = b.run;
  above = le_trans s.runs b.above;
  clock = b.clock;
  answer = b.answer;
  one_entry = b.one_entry;
  begins = b.begins;
})

takes_there : (id : List ℕ) (x y : Isolated) (e : Exchange) (entries : List Entry) (events : List Event) → SameIsolated x y
    → IsolatedTakes id y e entries events → IsolatedTakes id x e entries events
takes_there id x y (Took (input.Request now (asked.Command c)) r) entries events s (none, c_takes) = (
  none,
  record {
    call = c_takes.call;
    above = le_trans s.calls c_takes.above;
    follows = rw s.resource c_takes.follows;
  },
)
takes_there id x y (Took (input.Request now (asked.Question q)) r) entries events s (none, no_events, answers) =
    (none, no_events, answers ∙ ap (λ (o : Option Resource). isolated_answer o q) (sym s.resource))
takes_there id x y (Took (input.Turn now) r) entries events s t = record {
  done = t.done;
  polled = t.polled;
  started = t.started;
  results = t.results;
  begins = t.begins;
  all_entries = t.all_entries;
  all_events = t.all_events;
  polls = rw s.resource t.polls;
  goes_on =
      goes_there id (cut now) (isolated_after_all x t.results) (isolated_after_all y t.results) t.started t.begins (holds_on x y t.results s) t.goes_on;
}
takes_there id x y (Finished now end) entries events s (done, polls) = (done, rw s.resource polls)
takes_there id x y (Batch now commands replies) entries events s bad = absurd bad
takes_there id x y (Tidied end) entries events s bad = absurd bad
takes_there id x y Cleared entries events s bad = absurd bad
takes_there id x y Abandoned entries events s bad = absurd bad

alone_there : (id : List ℕ) (x y : Isolated) (is : List Exchange) (entries : List Entry) (events : List Event) → SameIsolated x y
    → Alone id y is entries events → Alone id x is entries events
alone_there id x y [] entries events s h = h
alone_there id x y (i ∷ is) entries events s (es, fs, vs, us, entries_are, events_are, takes, rest) = (
  es,
  fs,
  vs,
  us,
  entries_are,
  events_are,
  takes_there id x y i es vs s takes,
  alone_there id (isolated_after_all x vs) (isolated_after_all y vs) is fs us (holds_on x y vs s) rest,
)

-- a machine agrees with itself
pub holds_self : (x : Isolated) → SameIsolated x x
holds_self x = record { resource = refl; due = λ call there. refl; calls = le_refl x.next_call; runs = le_refl x.next_run }

-- one part, and another from where it ended
pub lemma_projections_join : (id : List ℕ) (x y : Isolated) (is js : List Exchange) (es fs : List Entry) (vs us : List Event) → Alone id x is es vs
    → SameIsolated (isolated_after_all x vs) y → Alone id y js fs us → Alone id x (is ++ js) (es ++ fs) (vs ++ us)
lemma_projections_join id x y [] js es fs vs us (no_entries, no_events) s h =
    subst (λ (l : List Entry). Alone id x js (l ++ fs) (vs ++ us)) (sym no_entries)
    (subst (λ (l : List Event). Alone id x js fs (l ++ us)) (sym no_events)
    (alone_there id x y js fs us (subst (λ (l : List Event). SameIsolated (isolated_after_all x l) y) no_events s) h))
lemma_projections_join id x y (i ∷ is) js es fs vs us (e1, e2, v1, v2, entries_are, events_are, takes, rest) s h =
    let there : SameIsolated (isolated_after_all (isolated_after_all x v1) v2) y =
    subst (λ (z : Isolated). SameIsolated z y) (ap (isolated_after_all x) events_are ∙ single-append x v1 v2) s in (
      e1,
      e2 ++ fs,
      v1,
      v2 ++ us,
      ap (λ (l : List Entry). l ++ fs) entries_are ∙ append_assoc e1 e2 fs,
      ap (λ (l : List Event). l ++ us) events_are ∙ append_assoc v1 v2 us,
      takes,
      lemma_projections_join id (isolated_after_all x v1) y is js e2 fs v2 us rest there h,
    )
