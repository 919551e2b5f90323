-- The tags of the lines of a session are those that their own bytes give, and its replies have the tags of their lines.
use Rattle.std.proofs.Common.{◌≡◌, ◌≤◌, ◌<◌, ℕ, zero, suc, ◌+◌, ◌==◌, ◌&&◌, Bool, true, false, cond, List, [], ◌∷◌, ◌++◌, drop, length, map, Option, Some, None, refl, sym, ap, subst, ◌∙◌, arith, length-append}
use Rattle.std.specs.List.{AllByRecursion}
use Rattle.std.proofs.Math.Seq.{drop-nil}
use Rattle.std.proofs.lemmas.Bool.{lt-ltb}
use Rattle.std.proofs.lemmas.List.{drop-map, length-map, map-append}
use Rattle.std.proofs.lemmas.List.Folds.{list_all-append}
use Rattle.ocf_model.specs.Answer.{Reply}
use Rattle.ocf_types.specs.declared.notice.Notice.{Notice}
use Rattle.ocf_model.specs.declared.reply.ReplyOf.TheVariants as reply
use Rattle.ocf_model.specs.declared.reply.TurnEnd.{TurnEnd}
use Rattle.store_model.specs.StoreView.{StoreView}
use Rattle.executor.specs.ExecutorView.{ExecutorView}
use Rattle.exec_replies.specs.declared.reply.LineReply.{LineReply}
use Rattle.exec_replies.specs.declared.reply.LineReply.TheVariants as answer
use Rattle.exec_lines.specs.declared.line.Piece.{Piece}
use Rattle.exec_lines.specs.declared.line.Piece.TheVariants.{Last, Nothing, Part}
use Rattle.exec_client.specs.ClientView.{ClientView}
use Rattle.exec_client.specs.MessageTags.{after_notices, after_replies, after_sent, sent_tags}
use Rattle.exec_client.specs.MessageView as message
use Rattle.exec_client.specs.MessageView.{MessageView}
use Rattle.exec_client.specs.Tags.{LineTag, TagsView, after_line_reply, after_notice, after_reply, forgotten, next_line, waiting_limit, with_line}
use Rattle.session_machine.specs.After.{after, after_read, drain_now, faulted, time_of, took, turned, unanswered, with_end_read, with_line_read}
use Rattle.session_machine.specs.Behaviours.{Behaves, May, begins, goes_on}
use Rattle.session_machine.specs.Events as event
use Rattle.session_machine.specs.Events.{Event}
use Rattle.session_machine.specs.First.{IsFirst}
use Rattle.session_machine.specs.LineTags.{IsLineRead, all_sent, is_sent, tags_in}
use Rattle.session_machine.specs.Liveness.{is_answer}
use Rattle.session_machine.specs.Session.{Drain, ReadLine, SessionState}
use Rattle.session_machine.specs.declared.rules.Mode.{Mode}
use Rattle.session_machine.specs.declared.rules.Rules.{Rules}
use Rattle.session_machine.proofs.AfterLemmas.{rules_stay}

-- the tags of lines after a message
reply_lines : (r : Reply) (v : TagsView) → (after_reply r v).lines ≡ v.lines
reply_lines (reply.Accepted call key) v = refl
reply_lines reply.Done v = refl
reply_lines (reply.List ids) v = refl
reply_lines (reply.Info info) v = refl
reply_lines (reply.History results) v = refl
reply_lines (reply.Turn end) v = refl
reply_lines (reply.Refused why) v = refl

line_reply_lines : (r : LineReply) (v : TagsView) → (after_line_reply r v).lines ≡ v.lines
line_reply_lines (answer.Request r) v = reply_lines r v
line_reply_lines r v = refl

drop_one : {A : Type 0} (n : ℕ) (xs : List A) → drop n (drop 1 xs) ≡ drop (suc n) xs
drop_one n [] = drop-nil n
drop_one n (x ∷ xs) = refl

replies_lines : (rs : List Reply) (v : TagsView) → (after_replies rs v).lines ≡ drop (length rs) v.lines
replies_lines [] v = refl
replies_lines (r ∷ rs) v =
    replies_lines rs (after_reply r (next_line v)) ∙ ap (λ (ts : List LineTag). drop (length rs) ts) (reply_lines r (next_line v))
    ∙ drop_one (length rs) v.lines

notice_lines : (forgets : Bool) (call : ℕ) (v : TagsView) → (cond forgets (forgotten call v) v).lines ≡ v.lines
notice_lines true call v = refl
notice_lines false call v = refl

notices_lines : (ns : List Notice) (v : TagsView) → (after_notices ns v).lines ≡ v.lines
notices_lines [] v = refl
notices_lines (n ∷ ns) v = notices_lines ns (after_notice n v) ∙ notice_lines (n.result.interval == 0) n.result.call v

-- the lines that a message answers are dropped, from both
tags_unanswered : (what : MessageView) (v : TagsView) (lines : List ReadLine) → v.lines ≡ map (λ l. l.tag) lines
    → (after_sent what v).lines ≡ map (λ l. l.tag) (unanswered what lines)
tags_unanswered (message.Reply r) v lines same =
    line_reply_lines r (next_line v) ∙ ap (λ (ts : List LineTag). drop 1 ts) same ∙ drop-map (λ l. l.tag) 1 lines
tags_unanswered (message.Replies rs) v lines same =
    replies_lines rs v ∙ ap (λ (ts : List LineTag). drop (length rs) ts) same ∙ drop-map (λ l. l.tag) (length rs) lines
tags_unanswered (message.Turn book notices) v lines same = notices_lines notices v ∙ same
tags_unanswered (message.News r) v lines same = same
tags_unanswered (message.Report notices) v lines same = same

drop_shorter : {A : Type 0} (n : ℕ) (xs : List A) → length (drop n xs) ≤ length xs
drop_shorter zero xs = omega arith
drop_shorter (suc n) [] = omega arith
drop_shorter (suc n) (x ∷ xs) = let less = drop_shorter n xs in omega (arith, less)

unanswered_shorter : (what : MessageView) (lines : List ReadLine) → length (unanswered what lines) ≤ length lines
unanswered_shorter (message.Reply r) lines = drop_shorter 1 lines
unanswered_shorter (message.Replies rs) lines = drop_shorter (length rs) lines
unanswered_shorter (message.Turn book notices) lines = omega arith
unanswered_shorter (message.News r) lines = omega arith
unanswered_shorter (message.Report notices) lines = omega arith

drop_all : {A : Type 0} (P : A → Type 0) (n : ℕ) (xs : List A) → AllByRecursion P xs → AllByRecursion P (drop n xs)
drop_all P zero xs all = all
drop_all P (suc n) [] all = tt
drop_all P (suc n) (x ∷ xs) all = drop_all P n xs all.1

unanswered_all : (P : ReadLine → Type 0) (what : MessageView) (lines : List ReadLine) → AllByRecursion P lines → AllByRecursion P (unanswered what lines)
unanswered_all P (message.Reply r) lines all = drop_all P 1 lines all
unanswered_all P (message.Replies rs) lines all = drop_all P (length rs) lines all
unanswered_all P (message.Turn book notices) lines all = all
unanswered_all P (message.News r) lines all = all
unanswered_all P (message.Report notices) lines all = all

append_all : {A : Type 0} (P : A → Type 0) (xs ys : List A) → AllByRecursion P xs → AllByRecursion P ys → AllByRecursion P (xs ++ ys)
append_all P [] ys one two = two
append_all P (x ∷ xs) ys one two = (one.0, append_all P xs ys one.1 two)

-- one more line
with_line_lines : (tag : LineTag) (v : TagsView) → length v.lines < waiting_limit → (with_line tag v).lines ≡ v.lines ++ tag ∷ []
with_line_lines tag v less =
    ap (λ (b : Bool). (cond b (record v { lines = v.lines ++ tag ∷ [] }) v).lines) (lt-ltb (length v.lines) waiting_limit less)

module _ {S : Type 0} where
  -- the client keeps the tags of these lines, of which there are at most so many
  record Agrees (client : ClientView S) (lines : List ReadLine) (n : ℕ) : Type 0 where
    same : client.tags.lines ≡ map (λ l. l.tag) lines
    most : length lines ≤ n

  more_events : (client : ClientView S) (lines : List ReadLine) (n : ℕ) → Agrees client lines n → Agrees client lines (n + 1)
  more_events client lines n agrees = let most = agrees.most in record { same = agrees.same; most = omega (arith, most) }

  -- a read, a turn and a fault keep the lines and the client
  pub record Keeps (s t : SessionState S) : Type 0 where
    pub lines : t.lines ≡ s.lines
    pub client : t.client ≡ s.client

  line_keeps : (s : SessionState S) (bytes : List ℕ) → Keeps s (with_line_read s bytes)
  line_keeps s [] = record { lines = refl; client = refl }
  line_keeps s (byte ∷ bytes) = record { lines = refl; client = refl }

  end_keeps : (s : SessionState S) (bytes : List ℕ) → Keeps s (with_end_read s bytes)
  end_keeps s [] = record { lines = refl; client = refl }
  end_keeps s (byte ∷ bytes) = record { lines = refl; client = refl }

  pub took_keeps : (s : SessionState S) (bytes : List ℕ) (piece : Piece) → Keeps s (took s bytes piece)
  took_keeps s bytes Part = record { lines = refl; client = refl }
  took_keeps s bytes Last = line_keeps s (s.part ++ bytes)
  took_keeps s bytes Nothing = end_keeps s (s.part ++ bytes)

  pub turned_keeps : (s : SessionState S) (drain : Option Drain) (now : ℕ) (end : TurnEnd) (x : ExecutorView S) → Keeps s (turned s drain now end x)
  turned_keeps s None now end x = record { lines = refl; client = refl }
  turned_keeps s (Some d) now end x = record { lines = refl; client = refl }

  pub faulted_keeps : (s : SessionState S) (drain : Option Drain) (now : ℕ) (x : ExecutorView S) → Keeps s (faulted s drain now x)
  faulted_keeps s None now x = record { lines = refl; client = refl }
  faulted_keeps s (Some d) now x = record { lines = refl; client = refl }

  kept_agree : (s t : SessionState S) (n : ℕ) → Keeps s t → Agrees s.client s.lines n → Agrees t.client t.lines (n + 1)
  kept_agree s t n keeps agrees =
      subst (λ (c : ClientView S). Agrees c t.lines (n + 1)) (sym keeps.client)
      (subst (λ (ls : List ReadLine). Agrees s.client ls (n + 1)) (sym keeps.lines) (more_events s.client s.lines n agrees))

  agree_on : (view : S → StoreView) (s : SessionState S) (e : Event S) (n : ℕ) → May view s e → is_sent e ≡ true → n < waiting_limit
      → Agrees s.client s.lines n → Agrees (after s e).client (after s e).lines (n + 1)
  agree_on view s (event.Polled millis ready) n may all less agrees = more_events s.client s.lines n agrees
  agree_on view s (event.Peeked has_line) n may all less agrees = more_events s.client s.lines n agrees
  agree_on view s (event.Took bytes piece) n may all less agrees = kept_agree (after_read s) (took (after_read s) bytes piece) n (took_keeps (after_read s) bytes piece) agrees
  agree_on view s event.ReadFailed n may all less agrees = more_events s.client s.lines n agrees
  agree_on view s (event.Noted found tag) n may all less agrees =
      let l : ReadLine = record { line = found; tag = tag } in
      let same = agrees.same in
      let most = agrees.most in
      let mapped = length-map s.lines (λ (r : ReadLine). r.tag) in
      let long : length s.client.tags.lines ≡ length s.lines = ap (λ (ts : List LineTag). length ts) same ∙ mapped in
      let longer = length-append s.lines (l ∷ []) in
      record {
        same = with_line_lines tag s.client.tags (omega (arith, long, most, less)) ∙ ap (λ (ts : List LineTag). ts ++ tag ∷ []) same
            ∙ sym (map-append (λ (r : ReadLine). r.tag) s.lines (l ∷ []));
        most = omega (arith, longer, most);
      }
  agree_on view s (event.GaveMetadata provider agent limit None) n may all less agrees = more_events s.client s.lines n agrees
  agree_on view s (event.GaveMetadata provider agent limit (Some given)) n may all less agrees = more_events s.client s.lines n agrees
  agree_on view s (event.Shown now) n may all less agrees = more_events s.client s.lines n agrees
  agree_on view s (event.Rested micros) n may all less agrees = more_events s.client s.lines n agrees
  agree_on view s (event.Sent what true client) n (due, receives) all less agrees =
      let most = agrees.most in
      let fewer = unanswered_shorter what s.lines in record {
        same = ap (λ (v : TagsView). v.lines) receives.tags ∙ tags_unanswered what s.client.tags s.lines agrees.same;
        most = omega (arith, most, fewer);
      }
  agree_on view s (event.Sent what false client) n may all less agrees = absurd cc
  agree_on view s (event.HasReader still_reads) n may all less agrees = record { same = agrees.same; most = (more_events s.client s.lines n agrees).most }
  agree_on view s (event.Served r x) n may all less agrees = more_events s.client s.lines n agrees
  agree_on view s (event.Together rs x) n may all less agrees = more_events s.client s.lines n agrees
  agree_on view s (event.Tidied end x) n may all less agrees = more_events s.client s.lines n agrees
  agree_on view s (event.Turned end x) n may all less agrees = kept_agree s (turned s (drain_now s) (time_of s.shown) end x) n (turned_keeps s (drain_now s) (time_of s.shown) end x) agrees
  agree_on view s (event.Faulted x) n may all less agrees = kept_agree s (faulted s (drain_now s) (time_of s.shown) x) n (faulted_keeps s (drain_now s) (time_of s.shown) x) agrees
  agree_on view s (event.Finishes end x) n may all less agrees = more_events s.client s.lines n agrees

-- each line has the tag that its own bytes give
abbrev AreRead : Mode → List ReadLine → Type 0
AreRead mode lines = AllByRecursion (IsLineRead mode) lines

both_true : (a b : Bool) → a && b ≡ true → (a ≡ true) × (b ≡ true)
both_true true true is = (refl, refl)
both_true true false is = absurd cc
both_true false b is = absurd cc

sent_parts : {S : Type 0} (events : List (Event S)) (e : Event S) → all_sent (events ++ e ∷ []) ≡ true → (all_sent events ≡ true) × (is_sent e ≡ true)
sent_parts events e all =
    let (before, last) = both_true (all_sent events) (is_sent e && true) (sym (list_all-append is_sent events (e ∷ [])) ∙ all) in
    (before, (both_true (is_sent e) true last).0)

module _ {S : Type 0} {view : S → StoreView} {first : SessionState S} where
  all_agree : Agrees first.client first.lines 0 → (events : List (Event S)) (s : SessionState S) → Behaves view first events s
      → all_sent events ≡ true → length events < waiting_limit → Agrees s.client s.lines (length events)
  all_agree begun _ _ begins all few = begun
  all_agree begun _ _ (goes_on events s e way may) all few =
      let more = length-append events (e ∷ []) in
      subst (λ n. Agrees (after s e).client (after s e).lines n) (omega (arith, more))
      (agree_on view s e (length events) may (sent_parts events e all).1 (omega (arith, few, more))
      (all_agree begun events s way (sent_parts events e all).0 (omega (arith, few, more))))

begun_agrees : {S : Type 0} (first : SessionState S) → IsFirst first → Agrees first.client first.lines 0
begun_agrees {S} first is = subst (λ (s : SessionState S). Agrees s.client s.lines 0) (sym is.is) (record {
  same = ap (λ (v : TagsView). v.lines) is.new.tags;
  most = omega arith;
})

read_on : {S : Type 0} (view : S → StoreView) (s : SessionState S) (e : Event S) → May view s e → AreRead s.rules.mode s.lines
    → AreRead s.rules.mode (after s e).lines
read_on view s (event.Took bytes piece) may all = subst (λ (ls : List ReadLine). AreRead s.rules.mode ls) (sym (took_keeps (after_read s) bytes piece).lines) all
read_on view s (event.Noted found tag) (bytes, is, reads, tagged, cause) all =
    append_all (IsLineRead s.rules.mode) s.lines (record { line = found; tag = tag } ∷ []) all ((bytes, reads, tagged), tt)
read_on view s (event.Sent what true client) may all = unanswered_all (IsLineRead s.rules.mode) what s.lines all
read_on view s (event.Turned end x) may all =
    subst (λ (ls : List ReadLine). AreRead s.rules.mode ls) (sym (turned_keeps s (drain_now s) (time_of s.shown) end x).lines) all
read_on view s (event.Faulted x) may all =
    subst (λ (ls : List ReadLine). AreRead s.rules.mode ls) (sym (faulted_keeps s (drain_now s) (time_of s.shown) x).lines) all
read_on view s (event.GaveMetadata provider agent limit None) may all = all
read_on view s (event.GaveMetadata provider agent limit (Some given)) may all = all
read_on view s (event.Sent what false client) may all = all
read_on view s e may all = all

module _ {S : Type 0} {view : S → StoreView} {first : SessionState S} where
  all_read : AreRead first.rules.mode first.lines → (events : List (Event S)) (s : SessionState S) → Behaves view first events s
      → AreRead s.rules.mode s.lines
  all_read begun _ _ begins = begun
  all_read begun _ _ (goes_on events s e way may) =
      subst (λ (rules : Rules). AreRead rules.mode (after s e).lines) (sym (rules_stay s e)) (read_on view s e may (all_read begun events s way))

  -- the client keeps the tags of the lines that wait
  pub tags_agree : IsFirst first → {events : List (Event S)} {s : SessionState S} → Behaves view first events s → all_sent events ≡ true
      → length events < waiting_limit → s.client.tags.lines ≡ tags_in s
  tags_agree is {events} {s} way all few = (all_agree (begun_agrees first is) events s way all few).same

  -- each line was read from bytes whose tag it has
  pub lines_read : IsFirst first → {events : List (Event S)} {s : SessionState S} → Behaves view first events s
      → AllByRecursion (IsLineRead s.rules.mode) s.lines
  lines_read is {events} {s} way =
      all_read (subst (λ (t : SessionState S). AreRead t.rules.mode t.lines) (sym is.is) tt) events s way

  -- so replies have the tags of the lines that they answer
  pub replies_tagged : IsFirst first → {events : List (Event S)} {s : SessionState S} → Behaves view first events s → all_sent events ≡ true
      → length events < waiting_limit → (what : MessageView) → is_answer what ≡ true → sent_tags s.client.tags what ≡ tags_in s
  replies_tagged is way all few (message.Reply r) answers = tags_agree is way all few
  replies_tagged is way all few (message.Replies rs) answers = tags_agree is way all few
  replies_tagged is way all few (message.Turn book notices) answers = absurd cc
  replies_tagged is way all few (message.News r) answers = absurd cc
  replies_tagged is way all few (message.Report notices) answers = absurd cc
