-- What the events of records hold of each resource: its state is a function of them, and of its history where they begin.
use Rattle.std.specs.Prelude.{◌≡◌, ℕ, false, ◌||◌, if◌then◌else◌, List, [], ◌∷◌, ◌++◌, map, fold, None, option_and_then}
use Rattle.std.specs.Prelude.{option_map, option_to_list, is_some, unwrap_or}
use Rattle.std.specs.List.{flat_map}
use Rattle.std.specs.Map.{lookup}
use Rattle.std.specs.Str.{bytes_eq}
use Rattle.ocf_types.specs.Kinds.{Change, Event}
use Rattle.ocf_model.specs.Resource.{Resource, ended_of}
use Rattle.ocf_model.specs.State.{State, after}
use Rattle.ocf_types.specs.declared.event.Change.TheVariants as change
use Rattle.ocf_types.specs.declared.event.Step.TheVariants as step
use Rattle.resource_status.specs.Runs.{end_of}
use Rattle.resource_status.specs.Conditions.{after as known_after, held_in}
use Rattle.resource_status.specs.declared.condition.Recorded.{Recorded}
use Rattle.resource_status.specs.declared.facts.Fact.{Fact}
use Rattle.resource_status.specs.declared.facts.Fact.TheVariants.{Held, Forgotten, Ended}

-- a fact of the resource with this id
abbrev pub FactOf : Type 0
FactOf = List ℕ × Fact

abbrev pub fact_of : List ℕ → Fact → FactOf
fact_of id fact = (id, fact)

-- what is held of a resource that is new
abbrev pub none_recorded : Recorded
none_recorded = record { known = None; cut = false }

-- what is held of a resource after its results were forgotten: it may be in any condition, unless it never ran
abbrev pub forgotten : Recorded → Recorded
forgotten r = record { known = None; cut = r.cut || is_some r.known }

-- what is held of a resource after one more fact
abbrev pub taken : Recorded → Fact → Recorded
taken r (Held held) = held
taken r Forgotten = forgotten r
taken r (Ended e) = record { known = known_after r.known e; cut = r.cut }

-- what is held of a resource after a fact, which may be one of another
abbrev pub taken_of : List ℕ → Recorded → FactOf → Recorded
taken_of id r f = if bytes_eq f.0 id then taken r f.1 else r

-- what facts hold of a resource
abbrev pub held_of : List FactOf → List ℕ → Recorded
held_of facts id = fold (taken_of id) none_recorded facts

-- what a map holds of a resource
abbrev pub recorded_at : List (List ℕ × Recorded) → List ℕ → Recorded
recorded_at recorded id = unwrap_or (lookup (bytes_eq id) recorded) none_recorded

-- the map holds of each resource what these facts do
abbrev pub IsRecordOf : List (List ℕ × Recorded) → List FactOf → Type 0
IsRecordOf recorded facts = (id : List ℕ) → recorded_at recorded id ≡ held_of facts id

-- the facts of a state: what the history of each resource holds
abbrev pub facts_of : State → List FactOf
facts_of s = map (λ e. fact_of e.0 (Held (held_in e.1.history))) s.resources

-- the fact that a change names: a resource is new, or its results are forgotten
abbrev pub named_facts : Change → List FactOf
named_facts (change.Register r) = fact_of r.id (Held none_recorded) ∷ []
named_facts (change.Step id step.Forget) = fact_of id Forgotten ∷ []
named_facts _ = []

-- the fact that an event ends the running action of a resource
abbrev pub ended_facts : Event → List ℕ × Resource → List FactOf
ended_facts v e =
    option_to_list (option_and_then (λ outcome. option_map (λ x. fact_of e.0 (Ended (ended_of outcome v.at x))) e.1.history.running)
    (end_of v.change e.0))

-- the facts of an event, by the state before it
abbrev pub facts_by : State → Event → List FactOf
facts_by s v = named_facts v.change ++ flat_map (ended_facts v) s.resources

-- the facts after events, from these facts and this state
abbrev pub facts_since : State → List FactOf → List Event → List FactOf
facts_since s facts [] = facts
facts_since s facts (v ∷ vs) = facts_since (after s v) (facts ++ facts_by s v) vs
