-- The lines of messages.
use Rattle.std.proofs.Common.{◌≡◌, ℕ, ◌+◌, ◌<◌, ◌≤◌, ◌∙◌, List, [], ◌∷◌, ◌++◌, map, drop, get_or, length, Option, None, Result, Ok, Err, OnErr, OnOk, refl, sym, ap, subst}
use Rattle.std.proofs.KnownBytes.{Appends-kept}
use Rattle.std.proofs.lemmas.List.{append-nil}
use Rattle.std.specs.Io.KnownBytes.{Appends, Keeps}
use Rattle.std.specs.List.{flat_map}
use Rattle.exec_lines.specs.Prefixes.{AppendsPrefix}
use Rattle.ocf_model.specs.Answer.{Reply}
use Rattle.ocf_types.specs.declared.notice.Notice.{Notice}
use Rattle.ocf_model.specs.declared.reply.ReplyOf.TheVariants as reply
use Rattle.exec_replies.specs.Replies.{notice_line}
use Rattle.exec_replies.specs.declared.notice.NoticeForm.{NoticeForm}
use Rattle.exec_replies.specs.declared.notice.Origin.TheVariants.{Opening}
use Rattle.child_model.specs.declared.answer.Entry.{Entry}
use Rattle.exec_client.specs.SentItem.{Noticed, Reported, answered, line_of, lines_of, noticed_by}
use Rattle.exec_client.specs.Signals.{signal_of}
use Rattle.exec_client.specs.Tags.{TagsView, after_notice, after_reply, first_tag, next_line, tag_of_call}
use Rattle.exec_client.specs.MessageTags.{after_notices, after_replies, notice_tags}
use Rattle.resource_status.specs.declared.reasons.RunReason.{RunReason}
use Rattle.exec_client.proofs.Along.{Along, along_all, along_more, along_part, drop_next, drop_none}

-- bytes that are equal
pub appends_same : (a b : Option (List ℕ)) (l m : List ℕ) → l ≡ m → Appends a b l → Appends a b m
appends_same a b l m same written = subst (λ (t : List ℕ). Appends a b t) same written

pub prefix_same : (a b : Option (List ℕ)) (l m : List ℕ) → l ≡ m → AppendsPrefix a b l → AppendsPrefix a b m
prefix_same a b l m same part = subst (λ (t : List ℕ). AppendsPrefix a b t) same part

pub ok_same : {T E : Type 0} (r : Result T E) (a b : Option (List ℕ)) (l m : List ℕ) → m ≡ l → OnOk r (Appends a b l) → OnOk r (Appends a b m)
ok_same r a b l m same written = subst (λ (t : List ℕ). OnOk r (Appends a b t)) (sym same) written

pub err_same : {T E : Type 0} (r : Result T E) (a b : Option (List ℕ)) (l m : List ℕ) → m ≡ l → OnErr r (AppendsPrefix a b l)
    → OnErr r (AppendsPrefix a b m)
err_same r a b l m same part = subst (λ (t : List ℕ). OnErr r (AppendsPrefix a b t)) (sym same) part

-- bytes that were appended, and then kept, are a prefix of themselves
pub kept_prefix : {T E : Type 0} (r : Result T E) (a b c : Option (List ℕ)) (l : List ℕ) → Appends a b l → Keeps b c
    → OnErr r (AppendsPrefix a c l)
kept_prefix (Ok done) a b c l written kept = tt
kept_prefix (Err fault) a b c l written kept =
    record { prefix = l; rest = []; parts = sym (append-nil l); written = Appends-kept a b c l written kept }

-- the lines of a report have no tags
pub report_lines : (form : NoticeForm) (reasons : List RunReason) (ns : List Notice)
    → lines_of form reasons [] (map Reported ns) ≡ flat_map (notice_line form None None Opening) ns
report_lines form reasons [] = refl
report_lines form reasons (n ∷ ns) = ap (λ (l : List ℕ). notice_line form None None Opening n ++ l) (report_lines form reasons ns)

-- a reply removes no line that waits
reply_lines : (r : Reply) (v : TagsView) → (after_reply r v).lines ≡ v.lines
reply_lines (reply.Refused why) v = refl
reply_lines reply.Done v = refl
reply_lines (reply.Accepted call key) v = refl
reply_lines (reply.List ids) v = refl
reply_lines (reply.Info info) v = refl
reply_lines (reply.History results) v = refl
reply_lines (reply.Turn end) v = refl

module _ (form : NoticeForm) (reasons : List RunReason) where
  -- the lines of these replies
  abbrev pub reply_rest : TagsView → List Reply → List ℕ
  reply_rest v rs = lines_of form reasons v.lines (map answered rs)

  -- the first replies are sent, and those from this index on are left
  pub record Answers (was now : TagsView) (rs : List Reply) (i : ℕ) (old new : Option (List ℕ)) : Type 0 where
    pub lines : Along (reply_rest was rs) (reply_rest now (drop i rs)) old new
    pub kept : after_replies rs was ≡ after_replies (drop i rs) now

  -- the next reply, and what is then left
  next_rest : (v : TagsView) (rs : List Reply) (i : ℕ) (r : Reply) → drop i rs ≡ r ∷ drop (i + 1) rs
      → reply_rest v (drop i rs)
      ≡ line_of form reasons (first_tag v.lines) (answered r) ++ reply_rest (after_reply r (next_line v)) (drop (i + 1) rs)
  next_rest v rs i r is =
      ap (λ (xs : List Reply). reply_rest v xs) is
      ∙ ap (λ ts. line_of form reasons (first_tag v.lines) (answered r) ++ lines_of form reasons ts (map answered (drop (i + 1) rs)))
      (sym (reply_lines r (next_line v)))

  pub answers_more : (was v w : TagsView) (rs : List Reply) (i : ℕ) (r : Reply) (a b c : Option (List ℕ)) → i < length rs → r ≡ get_or rs i r
      → Answers was v rs i a b → Appends b c (line_of form reasons (first_tag v.lines) (answered r)) → w ≡ after_reply r (next_line v)
      → Answers was w rs (i + 1) a c
  answers_more was v w rs i r a b c lt at so_far sent is =
      let next = drop_next rs i r lt at in
      subst (λ (u : TagsView). Answers was u rs (i + 1) a c) (sym is) (record {
        lines = along_more (reply_rest was rs) (line_of form reasons (first_tag v.lines) (answered r))
            (reply_rest (after_reply r (next_line v)) (drop (i + 1) rs)) a b c
            (subst (λ (l : List ℕ). Along (reply_rest was rs) l a b) (next_rest v rs i r next) so_far.lines) sent;
        kept = so_far.kept ∙ ap (λ (xs : List Reply). after_replies xs v) next;
      })

  pub answers_part : (was v : TagsView) (rs : List Reply) (i : ℕ) (r : Reply) (a b c : Option (List ℕ)) → i < length rs → r ≡ get_or rs i r
      → Answers was v rs i a b → AppendsPrefix b c (line_of form reasons (first_tag v.lines) (answered r)) → AppendsPrefix a c (reply_rest was rs)
  answers_part was v rs i r a b c lt at so_far part =
      along_part (reply_rest was rs) (line_of form reasons (first_tag v.lines) (answered r))
      (reply_rest (after_reply r (next_line v)) (drop (i + 1) rs)) a b c
      (subst (λ (l : List ℕ). Along (reply_rest was rs) l a b) (next_rest v rs i r (drop_next rs i r lt at)) so_far.lines) part

  pub answers_all : (was v : TagsView) (rs : List Reply) (i : ℕ) (a b : Option (List ℕ)) → length rs ≤ i → Answers was v rs i a b
      → Appends a b (reply_rest was rs) × (v ≡ after_replies rs was)
  answers_all was v rs i a b le so_far = (
    along_all (reply_rest was rs) (reply_rest v (drop i rs)) a b (ap (λ (xs : List Reply). reply_rest v xs) (drop_none rs i le)) so_far.lines,
    sym (so_far.kept ∙ ap (λ (xs : List Reply). after_replies xs v) (drop_none rs i le)),
  )

  -- the same of notices, with the signals of this book
  module _ (book : List Entry) where
    abbrev pub notice_rest : TagsView → List Notice → List ℕ
    notice_rest v ns = lines_of form reasons (notice_tags v ns) (map (noticed_by book) ns)

    pub record Noticing (was now : TagsView) (ns : List Notice) (i : ℕ) (old new : Option (List ℕ)) : Type 0 where
      pub lines : Along (notice_rest was ns) (notice_rest now (drop i ns)) old new
      pub kept : after_notices ns was ≡ after_notices (drop i ns) now

    -- the line of the next notice
    abbrev pub signal_line : TagsView → Notice → List ℕ
    signal_line v n = line_of form reasons (tag_of_call n.result.call v.calls) (noticed_by book n)

    -- it is the line of a notice with this signal
    pub signaled_line : (v : TagsView) (m n : Notice) (s : Option ℕ) → m ≡ n → s ≡ signal_of book n.result.run
        → line_of form reasons (tag_of_call m.result.call v.calls) (Noticed m s) ≡ signal_line v n
    signaled_line v m n s same is =
        ap (λ (k : Notice). line_of form reasons (tag_of_call k.result.call v.calls) (Noticed k s)) same
        ∙ ap (λ (t : Option ℕ). line_of form reasons (tag_of_call n.result.call v.calls) (Noticed n t)) is

    pub notices_more : (was v w : TagsView) (ns : List Notice) (i : ℕ) (n : Notice) (a b c : Option (List ℕ)) → i < length ns → n ≡ get_or ns i n
        → Noticing was v ns i a b → Appends b c (signal_line v n) → w ≡ after_notice n v → Noticing was w ns (i + 1) a c
    notices_more was v w ns i n a b c lt at so_far sent is =
        let next = drop_next ns i n lt at in
        subst (λ (u : TagsView). Noticing was u ns (i + 1) a c) (sym is) (record {
          lines = along_more (notice_rest was ns) (signal_line v n) (notice_rest (after_notice n v) (drop (i + 1) ns)) a b c
              (subst (λ (xs : List Notice). Along (notice_rest was ns) (notice_rest v xs) a b) next so_far.lines) sent;
          kept = so_far.kept ∙ ap (λ (xs : List Notice). after_notices xs v) next;
        })

    pub notices_part : (was v : TagsView) (ns : List Notice) (i : ℕ) (n : Notice) (a b c : Option (List ℕ)) → i < length ns → n ≡ get_or ns i n
        → Noticing was v ns i a b → AppendsPrefix b c (signal_line v n) → AppendsPrefix a c (notice_rest was ns)
    notices_part was v ns i n a b c lt at so_far part =
        along_part (notice_rest was ns) (signal_line v n) (notice_rest (after_notice n v) (drop (i + 1) ns)) a b c
        (subst (λ (xs : List Notice). Along (notice_rest was ns) (notice_rest v xs) a b) (drop_next ns i n lt at) so_far.lines) part

    pub notices_all : (was v : TagsView) (ns : List Notice) (i : ℕ) (a b : Option (List ℕ)) → length ns ≤ i → Noticing was v ns i a b
        → Appends a b (notice_rest was ns) × (v ≡ after_notices ns was)
    notices_all was v ns i a b le so_far = (
      along_all (notice_rest was ns) (notice_rest v (drop i ns)) a b (ap (λ (xs : List Notice). notice_rest v xs) (drop_none ns i le)) so_far.lines,
      sym (so_far.kept ∙ ap (λ (xs : List Notice). after_notices xs v) (drop_none ns i le)),
    )
