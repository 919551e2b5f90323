-- An edge after one more event is as faithful as before, if that event is what was asked.
use Rattle.std.proofs.Common.{◌≡◌, ℕ, true, false, List, [], ◌∷◌, ◌++◌, Option, Some, None, refl, sym, ap, subst, ◌∙◌, append_assoc}
use Rattle.std.proofs.lemmas.Grind.{flat_map-append}
use Rattle.std.proofs.lemmas.List.{append-nil}
use Rattle.std.specs.Io.KnownBytes.{Consumes}
use Rattle.std.specs.Prelude.{flat_map}
use Rattle.ocf_types.specs.Lemmas.{each_append}
use Rattle.ocf_model.specs.declared.reply.TurnEnd.{TurnEnd}
use Rattle.store_model.specs.StoreView.{StoreView}
use Rattle.executor.specs.ExecutorView.{ExecutorView}
use Rattle.exec_lines.specs.Inputs.{InputView}
use Rattle.exec_lines.specs.Tickers.{TickerEvent}
use Rattle.exec_lines.specs.declared.line.Piece.{Piece}
use Rattle.exec_lines.specs.declared.line.Piece.TheVariants.{Last, Nothing, Part}
use Rattle.exec_client.specs.ClientView.{ClientView, noting, noting_tag}
use Rattle.exec_client.specs.declared.client_event.ClientEvent.TheVariants as asked
use Rattle.session_machine.specs.After.{after, after_read, drain_now, faulted, time_of, took, turned, with_end_read, with_line_read}
use Rattle.session_machine.specs.Behaviours.{May, Trace, begins, opening, then}
use Rattle.session_machine.specs.EdgeView.{EdgeView, IsGivenIn, IsKept, bytes_of, input_of, taken_by, tick_of}
use Rattle.session_machine.specs.Events as event
use Rattle.session_machine.specs.Events.{Event}
use Rattle.session_machine.specs.First.{IsNew}
use Rattle.session_machine.specs.Session.{Drain, SessionState}
use Rattle.session_machine.specs.Starts.{Gives, SourceView, Start}
use Rattle.session_machine.specs.declared.rules.Rules.{Rules}
use Rattle.session_machine.proofs.AfterLemmas.{rules_stay, then_behaves}

-- what a session's client has after an event
abbrev pub client_after : {S : Type 0} → ClientView S → Event S → ClientView S
client_after client (event.Noted found tag) = noting_tag client tag
client_after client (event.Sent what all new) = new
client_after client (event.HasReader still_reads) = noting client (asked.HasReader still_reads)
client_after client _ = client

line_client : {S : Type 0} (s : SessionState S) (bytes : List ℕ) → (with_line_read s bytes).client ≡ s.client
line_client s [] = refl
line_client s (byte ∷ bytes) = refl

end_client : {S : Type 0} (s : SessionState S) (bytes : List ℕ) → (with_end_read s bytes).client ≡ s.client
end_client s [] = refl
end_client s (byte ∷ bytes) = refl

took_client : {S : Type 0} (s : SessionState S) (bytes : List ℕ) (piece : Piece) → (took s bytes piece).client ≡ s.client
took_client s bytes Part = refl
took_client s bytes Last = line_client s (s.part ++ bytes)
took_client s bytes Nothing = end_client s (s.part ++ bytes)

turned_client : {S : Type 0} (s : SessionState S) (drain : Option Drain) (now : ℕ) (end : TurnEnd) (x : ExecutorView S)
    → (turned s drain now end x).client ≡ s.client
turned_client s None now end x = refl
turned_client s (Some d) now end x = refl

faulted_client : {S : Type 0} (s : SessionState S) (drain : Option Drain) (now : ℕ) (x : ExecutorView S) → (faulted s drain now x).client ≡ s.client
faulted_client s None now x = refl
faulted_client s (Some d) now x = refl

client_is : {S : Type 0} (s : SessionState S) (e : Event S) → (after s e).client ≡ client_after s.client e
client_is s (event.Polled millis ready) = refl
client_is s (event.Peeked has_line) = refl
client_is s (event.Took bytes piece) = took_client (after_read s) bytes piece
client_is s event.ReadFailed = refl
client_is s (event.Noted found tag) = refl
client_is s (event.GaveMetadata provider agent limit None) = refl
client_is s (event.GaveMetadata provider agent limit (Some given)) = refl
client_is s (event.Shown now) = refl
client_is s (event.Rested micros) = refl
client_is s (event.Sent what true client) = refl
client_is s (event.Sent what false client) = refl
client_is s (event.HasReader still_reads) = refl
client_is s (event.Served reply x) = refl
client_is s (event.Together replies x) = refl
client_is s (event.Tidied end x) = refl
client_is s (event.Turned end x) = turned_client s (drain_now s) (time_of s.shown) end x
client_is s (event.Faulted x) = faulted_client s (drain_now s) (time_of s.shown) x
client_is s (event.Finishes end x) = refl

consumes_more : (a b c : Option (List ℕ)) (xs ys : List ℕ) → Consumes a b xs → Consumes b c ys → Consumes a c (xs ++ ys)
consumes_more None b c xs ys one two = tt
consumes_more (Some zs) (Some bs) (Some cs) xs ys one two = one ∙ ap (λ (rest : List ℕ). xs ++ rest) two ∙ sym (append_assoc xs ys cs)
consumes_more (Some zs) (Some bs) None xs ys one two = absurd two
consumes_more (Some zs) None c xs ys one two = absurd one

-- an event asked the input what it says
pub record AsksInput {S : Type 0} (old new : InputView) (e : Event S) : Type 0 where
  pub asked : new.asked ≡ old.asked ++ input_of e
  pub read : Consumes old.left new.left (taken_by e)

consumes-none : (left : Option (List ℕ)) → Consumes left left []
consumes-none None = tt
consumes-none (Some xs) = refl

-- it asked the input nothing
pub asks_nothing : {S : Type 0} (input : InputView) (e : Event S) → input_of e ≡ [] → taken_by e ≡ [] → AsksInput input input e
asks_nothing input e none nothing = record {
  asked = sym (ap (λ (more : List _). input.asked ++ more) none ∙ append-nil input.asked);
  read = subst (Consumes input.left input.left) (sym nothing) (consumes-none input.left);
}

-- it asked the input, and took nothing
pub asks_only : {S : Type 0} (old new : InputView) (e : Event S) → new.left ≡ old.left → new.asked ≡ old.asked ++ input_of e → taken_by e ≡ []
    → AsksInput old new e
asks_only old new e same asked nothing = record {
  asked = asked;
  read = subst (Consumes old.left new.left) (sym nothing)
      (subst (λ (left : Option (List ℕ)). Consumes old.left left []) (sym same) (consumes-none old.left));
}

-- it asked the clock nothing
pub ticks_none : {ticks more : List TickerEvent} → more ≡ [] → ticks ≡ ticks ++ more
ticks_none {ticks} {more} none = sym (ap (λ (more : List TickerEvent). ticks ++ more) none ∙ append-nil ticks)

flat_more : {A B : Type 0} (f : A → List B) (before : List B) (xs : List A) (x : A) (old new : List B) → old ≡ before ++ flat_map f xs
    → new ≡ old ++ f x → new ≡ before ++ flat_map f (xs ++ x ∷ [])
flat_more f before xs x old new was is =
    is ∙ ap (λ (ys : List _). ys ++ f x) was ∙ append_assoc before (flat_map f xs) (f x)
    ∙ ap (λ (ys : List _). before ++ ys) (sym (flat_map-append f xs (x ∷ []) ∙ ap (λ (ys : List _). flat_map f xs ++ ys) (append-nil (f x))))

-- the edge of a session that begins
pub begun_kept : {S : Type 0} {view : S → StoreView} {gives : SourceView → Gives} {rules : Rules} (start : Start) {x : ExecutorView S}
    {client : ClientView S} {t : Trace S} → t ≡ opening rules start x client → IsNew client x
    → IsKept view gives rules start.source client (record { trace = t; input = start.input; ticks = start.ticks })
begun_kept {S} {view} {gives} {rules} start {x} {client} {t} opened new =
    subst (λ (t : Trace S). IsKept view gives rules start.source client (record { trace = t; input = start.input; ticks = start.ticks })) (sym opened)
    (record {
      is = record {
        first = record { rules = rules; start = start; executor = x; client = client; is = refl; new = new };
        behaves = begins;
        asked = sym (append-nil start.input.asked);
        read = consumes-none start.input.left;
        ticks = sym (append-nil start.ticks);
        given = tt;
      };
      same_rules = refl;
      same_source = refl;
      same_client = refl;
    })

-- An event follows on an edge with this value: it may, the input and the clock were asked what it says, and what was given is of the source.
pub followed : {S : Type 0} {view : S → StoreView} {gives : SourceView → Gives} {rules : Rules} {source : SourceView} {client new : ClientView S}
    {t u : Trace S} {i j : InputView} {k l : List TickerEvent} {v : EdgeView S} (e : Event S)
    → IsKept view gives rules source client (record { trace = t; input = i; ticks = k }) → record { trace = t; input = i; ticks = k } ≡ v
    → u ≡ then t e → May view v.trace.state e → AsksInput i j e → l ≡ k ++ tick_of e → IsGivenIn (gives source) e → new ≡ client_after client e
    → IsKept view gives rules source new (record { trace = u; input = j; ticks = l })
followed {S} {view} {gives} {rules} {source} {client} {new} {t} {u} {i} {j} {k} {l} {v} e kept is noted may input ticks given received =
    let start = t.first.start in
    subst (λ (u : Trace S). IsKept view gives rules source new (record { trace = u; input = j; ticks = l })) (sym noted)
    (record {
      is = record {
        first = kept.is.first;
        behaves = then_behaves view t e kept.is.behaves (subst (λ (v : EdgeView S). May view v.trace.state e) (sym is) may);
        asked = flat_more input_of start.input.asked t.events e i.asked j.asked kept.is.asked input.asked;
        read = subst (Consumes start.input.left j.left) (sym (flat_map-append taken_by t.events (e ∷ []) ∙ ap (λ (ys : List ℕ). bytes_of t.events ++ ys) (append-nil (taken_by e))))
            (consumes_more start.input.left i.left j.left (bytes_of t.events) (taken_by e) kept.is.read input.read);
        ticks = flat_more tick_of start.ticks t.events e k l kept.is.ticks ticks;
        given = each_append (IsGivenIn (gives start.source)) t.events (e ∷ []) kept.is.given
            (subst (λ (source : SourceView). IsGivenIn (gives source) e) (sym kept.same_source) given, tt);
      };
      same_rules = rules_stay t.state e ∙ kept.same_rules;
      same_source = kept.same_source;
      same_client = client_is t.state e ∙ ap (λ (c : ClientView S). client_after c e) kept.same_client ∙ sym received;
    })
