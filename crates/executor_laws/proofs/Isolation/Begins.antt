-- The action that the machine of one resource begins in a turn.
use Rattle.std.proofs.Common.{◌≡◌, ◌⊎◌, inl, inr, ℕ, ◌≤◌, true, List, [], ◌∷◌, ◌++◌, map, Option, Some, None, refl, sym, ap, subst, ◌∙◌, arith}
use Rattle.std.proofs.lemmas.List.{append-nil}
use Rattle.ocf_model.specs.Due.{Due, IsPick}
use Rattle.ocf_types.specs.Kinds.{Event}
use Rattle.ocf_model.specs.Resource.{Resource}
use Rattle.ocf_types.specs.declared.event.Change.TheVariants as change
use Rattle.ocf_types.specs.declared.event.Step.TheVariants as step
use Rattle.ocf_types.specs.declared.operation.Running.{Running}
use Rattle.ocf_types.specs.declared.outcome.RunEnd.{RunEnd}
use Rattle.child_model.specs.Children.{start_answer}
use Rattle.child_model.specs.declared.answer.Entry.{Entry}
use Rattle.exec_ledger.specs.Actives.{Active}
use Rattle.exec_turn.specs.Actives.{result_of}
use Rattle.exec_turn.specs.Picks.{begins}
use Rattle.exec_turn.specs.Starts.{Started, refusals, refused_end, starts}
use Rattle.executor_laws.specs.Isolated.{Isolated, IsolatedBegin, IsolatedRest, has_monitor}
use Rattle.executor_laws.proofs.Isolation.Picks.{IsChosen, begun_one, pick_same}

-- it begins nothing where no action of it is begun
rests : (y : Isolated) (at clock : ℕ) (bs : List Active) (zs : List Started) → bs ≡ [] → map (λ x. x.what) zs ≡ bs
    → ((r : Resource) → y.resource ≡ Some r → IsPick r y.due at None)
    → IsolatedRest at y (starts clock zs) (begins at bs ++ refusals at zs)
rests y at clock bs [] none each picks =
    record { none_picked = picks; no_entries = refl; no_events = ap (λ (l : List Active). begins at l ++ []) none }
rests y at clock bs (z ∷ zs) none each picks = absurd (let no : z.what ∷ map (λ x. x.what) zs ≡ [] = each ∙ none in cc)

-- the begin of a call under a run, and how its start ended
abbrev begun_events : List ℕ → ℕ → ℕ → ℕ → List RunEnd → List Event
begun_events id at call run ends =
    record { at = at; change = change.Step id (step.Begin call run) }
    ∷ map (λ end. record { at = at; change = change.Step id (step.Result run end) }) ends

-- it begins the action of it that is begun
begins_it : (y : Isolated) (id : List ℕ) (at clock n c : ℕ) (r : Resource) (bs : List Active) (zs : List Started) (x : Running)
    → y.resource ≡ Some r → y.next_run ≤ n
    → IsPick r y.due at (Some c) → bs ≡ record { id = id; running = x } ∷ [] → x.call ≡ c → x.run ≡ n → map (λ x. x.what) zs ≡ bs
    → IsolatedBegin id at y (starts clock zs) (begins at bs ++ refusals at zs)
begins_it y id at clock n c r bs [] x is le pick one call run each =
    let a : Active = record { id = id; running = x } in
    absurd (let no : [] ≡ a ∷ [] = each ∙ one in cc)
begins_it y id at clock n c r bs (z ∷ w ∷ zs) x is le pick one call run each =
    let a : Active = record { id = id; running = x } in
    absurd (let no : z.what ∷ w.what ∷ map (λ x. x.what) zs ≡ a ∷ [] = each ∙ one in cc)
begins_it y id at clock n c r bs (z ∷ []) x is le pick one call run each =
    let a : Active = record { id = id; running = x } in
    let whole : z.what ∷ [] ≡ a ∷ [] = each ∙ one in
    let same : z.what ≡ a = cc in
    let entry : ℕ → Entry = λ k. record { run = k; at = clock; answer = start_answer z.answer } in
    let ends = refused_end z.answer in record {
      resource = r;
      is = is;
      call = c;
      picked = pick;
      run = n;
      above = le;
      clock = clock;
      answer = z.answer;
      one_entry = ap (λ (k : ℕ). entry k ∷ []) (ap (λ (w : Active). w.running.run) same ∙ run);
      begins =
          ap (λ (l : List Active). begins at l ++ refusals at (z ∷ [])) one
          ∙ ap (λ (l : List Event). begins at (a ∷ []) ++ l) (append-nil (map (result_of at z.what) ends))
          ∙ ap (λ (w : Active). begins at (a ∷ []) ++ map (result_of at w) ends) same
          ∙ ap (λ (k : ℕ). begun_events id at k x.run ends) call ∙ ap (λ (k : ℕ). begun_events id at c k ends) run;
    }

-- the action of it that is begun after the results, where it is there with these due moments
pub isolated_begins : (y : Isolated) (id : List ℕ) (at clock run : ℕ) (moments : Due) (o : Option Resource) (bs : List Active)
    (zs : List Started) → y.resource ≡ o
    → ((call : ℕ) → has_monitor o call ≡ true → y.due call ≡ moments id call) → y.next_run ≤ run → IsChosen moments at run id o bs
    → map (λ x. x.what) zs ≡ bs
    → IsolatedRest at y (starts clock zs) (begins at bs ++ refusals at zs)
    ⊎ IsolatedBegin id at y (starts clock zs) (begins at bs ++ refusals at zs)
isolated_begins y id at clock run moments None bs zs is due le none each =
    inl (rests y at clock bs zs none each (λ r there. absurd (let no : None ≡ Some r = sym is ∙ there in cc)))
isolated_begins y id at clock run moments (Some r) bs zs is due le (None, n, above, pick, none) each =
    inl (rests y at clock bs zs none each (λ q there.
    let same : r ≡ q = let both : Some r ≡ Some q = sym is ∙ there in cc in
    subst (λ (p : Resource). IsPick p y.due at None) same (pick_same r (moments id) y.due at None due pick)))
isolated_begins y id at clock run moments (Some r) bs zs is due le (Some c, n, above, pick, mine) each =
    let one = begun_one (moments id) at n (id, r) c pick in
    inr (begins_it y id at clock n c r bs zs one.0 is (omega (arith, le, above)) (pick_same r (moments id) y.due at (Some c) due pick)
    (mine ∙ one.1) one.2 one.3 each)
