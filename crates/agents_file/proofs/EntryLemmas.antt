-- The fields of entries.
use Rattle.std.proofs.Common.{◌≡◌, ℕ, ◌+◌, ◌%◌, ◌^◌, ◌<◌, ◌≤◌, true, List, [], ◌∷◌, ◌++◌, length, lit≤, decimal}
use Rattle.std.proofs.Common.{◌-◌, refl, ap, sym, subst, append_assoc, arith, replicate, ◌∙◌}
use Rattle.std.specs.Prelude.{All, IfSome, IsSome, Option, None, Some}
use Rattle.std.specs.List.{list_all}
use Rattle.std.specs.Str.{IsUtf8}
use Rattle.std.proofs.lemmas.Bool.{false≢true}
use Rattle.std.proofs.lemmas.Fmt.{decimal_by_steps, decimal_injective, decimal_nonempty}
use Rattle.std.proofs.lemmas.List.Elements.{All-cons, All-nil, All-push}
use Rattle.ocf_types.specs.Lemmas.{both}
use Rattle.ocf_types.specs.NameLemmas.{ids, texts}
use Rattle.ocf_types.specs.Names.{is_id_byte, is_rsc_id}
use Rattle.ocf_types.specs.Numbers.{IsDrawn}
use Rattle.ocf_types.specs.Actions.{action_named, action_word}
use Rattle.ocf_types.specs.declared.action.Action.{Action}
use Rattle.ocf_types.specs.declared.action.Action.TheVariants.{Start, Stop, Monitor, Promote, Demote, ReloadAgent, ValidateAll}
use Rattle.agents_file.specs.Lines.{IsField, padded, space, spaced}
use Rattle.agents_file.specs.Entries.{IsEntry, entry_fields, entry_line, entry_text, texts_of}
use Rattle.agents_file.specs.declared.entry.AgentEntry.{AgentEntry}
use Rattle.agents_file.specs.declared.entry.EntryFields.{EntryFields}
use Rattle.agents_file.proofs.LineLemmas.{same_fields, same_first}

-- the lengths of the words of actions
pub words : (a : Action) → length (action_word a) ≤ 12
words Start = lit≤ tt
words Stop = lit≤ tt
words Monitor = lit≤ tt
words Promote = lit≤ tt
words Demote = lit≤ tt
words ReloadAgent = lit≤ tt
words ValidateAll = lit≤ tt

-- the words of actions are made of the bytes of ids
word_is_id : (a : Action) → is_rsc_id (action_word a) ≡ true
word_is_id Start = refl
word_is_id Stop = refl
word_is_id Monitor = refl
word_is_id Promote = refl
word_is_id Demote = refl
word_is_id ReloadAgent = refl
word_is_id ValidateAll = refl

pub word_is_text : (a : Action) → IsUtf8 (action_word a)
word_is_text a = texts (action_word a) (ids (action_word a) (word_is_id a))

-- each action is found by its word
pub word_is_found : (a : Action) → action_named (action_word a) ≡ Some a
word_is_found Start = refl
word_is_found Stop = refl
word_is_found Monitor = refl
word_is_found Promote = refl
word_is_found Demote = refl
word_is_found ReloadAgent = refl
word_is_found ValidateAll = refl

-- bytes of ids are no spaces
not_space : (b : ℕ) → is_id_byte b ≡ true → b ≡ space → ⊥
not_space b passes is = false≢true (ap is_id_byte (sym is) ∙ passes)

id_bytes : (bs : List ℕ) → list_all is_id_byte bs ≡ true → IsField bs
id_bytes [] h = All-nil (λ b. b ≡ space → ⊥)
id_bytes (b ∷ bs) h =
    let s = both (is_id_byte b) (list_all is_id_byte bs) h in
    All-cons (λ x. x ≡ space → ⊥) b bs (not_space b s.0) (id_bytes bs s.1)

-- an id is a field
pub id_is_field : (id : List ℕ) → is_rsc_id id ≡ true → IsField id
id_is_field id h = id_bytes id (both _ _ h).1

word_is_field : (a : Action) → IsField (action_word a)
word_is_field a = id_is_field (action_word a) (word_is_id a)

-- the digits of a number are a field
pub number_is_field : (n : ℕ) → n < 2 ^ 64 → IsField (decimal n)
number_is_field =
    decimal_by_steps (λ n ds. IsField ds)
    (λ n low. All-cons (λ b. b ≡ space → ⊥) (48 + n) [] (λ is. omega (arith, is)) (All-nil (λ b. b ≡ space → ⊥)))
    (λ n ds high more. All-push (λ b. b ≡ space → ⊥) ds (48 + n % 10) more (λ is. omega (arith, is)))

-- the fields of an entry are fields
pub entry_has_fields : (e : AgentEntry) → IsEntry e → All IsField (entry_fields e)
entry_has_fields e is =
    let last = All-cons IsField (decimal e.timeout) [] (number_is_field e.timeout (omega (arith, is.timeout))) (All-nil IsField) in
    let six = All-cons IsField (decimal e.began) (decimal e.timeout ∷ []) (number_is_field e.began is.began) last in
    let five =
    All-cons IsField (decimal e.start) (decimal e.began ∷ decimal e.timeout ∷ []) (number_is_field e.start is.start) six in
    let four =
    All-cons IsField (decimal e.pid) (decimal e.start ∷ decimal e.began ∷ decimal e.timeout ∷ [])
    (number_is_field e.pid (omega (arith, is.pid))) five in
    let three =
    All-cons IsField (action_word e.action) (decimal e.pid ∷ decimal e.start ∷ decimal e.began ∷ decimal e.timeout ∷ [])
    (word_is_field e.action) four in
    let two =
    All-cons IsField e.id (action_word e.action ∷ decimal e.pid ∷ decimal e.start ∷ decimal e.began ∷ decimal e.timeout ∷ [])
    (id_is_field e.id is.id) three in
    All-cons IsField (decimal e.run)
    (e.id ∷ action_word e.action ∷ decimal e.pid ∷ decimal e.start ∷ decimal e.began ∷ decimal e.timeout ∷ [])
    (number_is_field e.run (omega (arith, is.run))) two

-- a number of a run is that run
pub drawn : (o : Option ℕ) (n m : ℕ) → m ≡ n → IsDrawn n → IfSome o (λ x. x ≡ m) → (IsDrawn m → IsSome o) → o ≡ Some n
drawn None n m same is value some = absurd (false≢true (some (subst IsDrawn (sym same) is)))
drawn (Some x) n m same is value some = ap Some (value ∙ same)

-- the texts of the fields of an entry
pub record HasTexts (e : AgentEntry) (f : EntryFields) : Type 0 where
  pub run : f.run.now ≡ decimal e.run
  pub id : f.id.now ≡ e.id
  pub action : f.action.now ≡ action_word e.action
  pub pid : f.pid.now ≡ decimal e.pid
  pub start : f.start.now ≡ decimal e.start
  pub began : f.began.now ≡ decimal e.began
  pub timeout : f.timeout.now ≡ decimal e.timeout

pub has_texts : (e : AgentEntry) (f : EntryFields) → texts_of f ≡ entry_fields e → HasTexts e f
has_texts e f is =
    record { run = cc; id = cc; action = cc; pid = cc; start = cc; began = cc; timeout = cc }

-- an entry of equal parts
pub same_parts : (e : AgentEntry) (run : ℕ) (id : List ℕ) (action : Action) (pid start began timeout : ℕ) → run ≡ e.run → id ≡ e.id
    → action ≡ e.action → pid ≡ e.pid → start ≡ e.start → began ≡ e.began → timeout ≡ e.timeout
    → ◌≡◌ {A = AgentEntry}
    (record { run = run; id = id; action = action; pid = pid; start = start; began = began; timeout = timeout }) e
same_parts e run id action pid start began timeout a b c d f g h =
    λ i. record { run = a i; id = b i; action = c i; pid = d i; start = f i; began = g i; timeout = h i }

-- an action is found by its word, so a word is that of one action
same_action : (a b : Action) → action_word a ≡ action_word b → a ≡ b
same_action a b is =
    let found = sym (word_is_found a) ∙ ap action_named is ∙ word_is_found b in cc

-- entries with the same line are the same
pub same_entry : (e f : AgentEntry) → IsEntry e → IsEntry f → entry_line e ≡ entry_line f → e ≡ f
same_entry e f is other line =
    let same = same_fields (entry_fields e) (entry_fields f) (replicate (255 - length (entry_text e)) space ++ 10 ∷ [])
    (replicate (255 - length (entry_text f)) space ++ 10 ∷ []) refl line (entry_has_fields e is) (entry_has_fields f other) in
    let run = decimal_injective e.run f.run (omega (arith, is.run)) (omega (arith, other.run)) (cc) in
    let id : e.id ≡ f.id = cc in
    let action = same_action e.action f.action (cc) in
    let pid = decimal_injective e.pid f.pid (omega (arith, is.pid)) (omega (arith, other.pid)) (cc) in
    let start = decimal_injective e.start f.start is.start other.start (cc) in
    let began = decimal_injective e.began f.began is.began other.began (cc) in
    let timeout = decimal_injective e.timeout f.timeout (omega (arith, is.timeout)) (omega (arith, other.timeout)) (cc) in
    same_parts f e.run e.id e.action e.pid e.start e.began e.timeout run id action pid start began timeout

-- the line of a free slot is that of no entry
pub blank_is_none : (e : AgentEntry) → IsEntry e → padded [] ≡ entry_line e → ⊥
blank_is_none e is line =
    let rest = e.id ∷ action_word e.action ∷ decimal e.pid ∷ decimal e.start ∷ decimal e.began ∷ decimal e.timeout ∷ [] in
    let pad = replicate (255 - length (entry_text e)) space ++ 10 ∷ [] in
    let small : e.run < 2 ^ 64 = omega (arith, is.run) in
    let first = same_first [] (decimal e.run) (replicate 254 space ++ 10 ∷ []) (spaced rest ++ pad)
    (line ∙ append_assoc (decimal e.run) (space ∷ spaced rest) pad) (All-nil (λ b. b ≡ space → ⊥)) (number_is_field e.run small) in
    omega (arith, ap length first.0, decimal_nonempty e.run small)
