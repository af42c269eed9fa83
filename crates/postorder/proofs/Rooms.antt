-- One proof in two rooms: its room decides only whether a run is refused for lack of it. The two runs keep in step until one of them is
-- refused; so where both are accepted, the answers are the same, with the same derivation, and the long form is the same text.
use Rattle.std.proofs.Common.{Ok, Err}
use Prim.Native.Nat.{ℕ, ◌+◌}
use mathlib.Core.Path.{◌≡◌, refl, sym, ap, ◌∙◌}
use mathlib.Core.Bool.{Bool, true, false}
use mathlib.Core.Option.{Option, none, some}
use mathlib.Core.List.{List, [], ◌∷◌}
use native.Mathlib.Omega.{arith}
use Rattle.book.specs.Book.{Substitution, Tree}
use Rattle.frames.specs.Logic.{equal, pick}
use Rattle.frames.specs.Database.{Database, database}
use Rattle.frames.specs.Facts.{statement_of}
use Rattle.frames.specs.Verdict.{verdict, Verdict, Good, Refused}
use Rattle.machine.specs.declared.Refusal.{Refusal}
use Rattle.machine.specs.Chain.{Result, fine, stop, unless, bind}
use Rattle.machine.specs.Answer.{Answer, accepted, refused, not_provable}
use Rattle.machine.specs.Reading.{letter, Parts, split}
use Rattle.machine.specs.declared.Letter.{Letter}
use Rattle.machine.specs.declared.Letter.TheVariants.{Last, Higher, Save, Incomplete, Ignored}
use Rattle.machine.specs.Memory.{Room, limited, Proved, Prepared, recalls, applies, Entry, Memory, push, add_place, save_top, give_local}
use Rattle.machine.specs.Prepare.{Ready, prepare_hypothesis, prepare_statement, prepare_found, add_ready, prepare_roster, preload, prepare_named, prepare_normal}
use Rattle.machine.specs.Apply.{check_marks, check_hyp, check_hyps, conclude, apply_assertion, assign_entries, run_prepared, run_ready}
use Rattle.machine.specs.Run.{Mode, beginning, normal, in_roster, in_letters, State, going, over, settle, step_at, on_letter, after_step, on_parts, on_normal, on_token, end_token, on_plain, by_mode, on_byte, on_bytes, on_end, run}
use Rattle.machine.specs.Bench.{ended, answer_good, judged, answer}
use Rattle.postorder.specs.LongForm.{long_text, LongAnswer, long_of, long_answer}
use Rattle.postorder.proofs.Answers.{zero-written}

-- two chains give the same, unless one of them stops
data InStep {A : Type 0} : Result A → Result A → Type 0 where
  gives : {x : A} → InStep (fine x) (fine x)
  first_stops : {why : Refusal} {r : Result A} → InStep (stop why) r
  second_stops : {why : Refusal} {r : Result A} → InStep r (stop why)

itself : {A : Type 0} (r : Result A) → InStep r r
itself (fine x) = gives
itself (stop why) = first_stops

-- the tests may differ, as tests for room do
unless-step : {A : Type 0} {r r' : Result A} (t t' : Bool) (why why' : Refusal) → InStep r r' → InStep (unless t why r) (unless t' why' r')
unfolding unless
unless-step true t' why why' s = first_stops
unless-step false true why why' s = second_stops
unless-step false false why why' s = s

bind-step : {A B : Type 0} {r r' : Result A} {next next' : A → Result B} → InStep r r' → ((x : A) → InStep (next x) (next' x))
    → InStep (bind r next) (bind r' next')
unfolding bind
bind-step gives rest = rest _
bind-step first_stops rest = first_stops
bind-step second_stops rest = second_stops

pick-step : {A : Type 0} {r r' s s' : Result A} (t : Bool) → InStep r r' → InStep s s' → InStep (pick t r s) (pick t r' s')
unfolding pick
pick-step true a b = a
pick-step false a b = b

-- two runs stand alike, unless one of them was refused
data Abreast : State → State → Type 0 where
  alike : {s : State} → Abreast s s
  first_refused : {why : Refusal} {at steps : ℕ} {s : State} → Abreast (over (refused why at steps)) s
  second_refused : {why : Refusal} {at steps : ℕ} {s : State} → Abreast s (over (refused why at steps))

settle-abreast : {A : Type 0} {r r' : Result A} {next next' : A → State} (at steps : ℕ) → InStep r r' → ((x : A) → Abreast (next x) (next' x))
    → Abreast (settle r at steps next) (settle r' at steps next')
unfolding settle
settle-abreast at steps gives rest = rest _
settle-abreast at steps first_stops rest = first_refused
settle-abreast at steps second_stops rest = second_refused

pick-abreast : {r r' s s' : State} (t : Bool) → Abreast r r' → Abreast s s' → Abreast (pick t r s) (pick t r' s')
unfolding pick
pick-abreast true a b = a
pick-abreast false a b = b

-- tests that have no room in them
check-marks : {A : Type 0} {r r' : Result A} (labels seen ms : List (List ℕ)) → InStep r r'
    → InStep (check_marks labels seen ms r) (check_marks labels seen ms r')
unfolding check_marks
check-marks labels seen [] s = s
check-marks labels seen (m ∷ ms) s = unless-step _ _ _ _ (unless-step _ _ _ _ (check-marks labels (m ∷ seen) ms s))

check-hyps : {A : Type 0} {r r' : Result A} (db : Database) (σ : Substitution) (hs : List ℕ) (xs : List Proved) → InStep r r'
    → InStep (check_hyps db σ hs xs r) (check_hyps db σ hs xs r')
unfolding check_hyps check_hyp
check-hyps db σ [] [] s = s
check-hyps db σ [] (x ∷ xs) s = first_stops
check-hyps db σ (h ∷ hs) [] s = first_stops
check-hyps db σ (h ∷ hs) (x ∷ xs) s = unless-step _ _ _ _ (unless-step _ _ _ _ (check-hyps db σ hs xs s))

module _ (db : Database) (p : ℕ) (room room' : Room) where
  -- the tests for room: 45, 46, 43
  pushes : (m : Memory) (h : ℕ) (left : List Entry) (e : Entry) → InStep (push room m h left e) (push room' m h left e)
  unfolding push
  pushes m h left e = unless-step _ _ _ _ gives

  add-place : (m : Memory) (step : Prepared) → InStep (add_place room m step) (add_place room' m step)
  unfolding add_place
  add-place m step = unless-step _ _ _ _ gives

  hypothesis : (m : Memory) (h : ℕ) → InStep (prepare_hypothesis db room m h) (prepare_hypothesis db room' m h)
  unfolding prepare_hypothesis
  hypothesis m h = unless-step _ _ _ _ (unless-step _ _ _ _ gives)

  concludes : (m : Memory) (mark : Option (List ℕ)) (h : ℕ) (x : Proved) → InStep (conclude db room m mark h x) (conclude db room' m mark h x)
  unfolding conclude
  concludes m mark h x = unless-step _ _ _ _ (pushes _ h _ _)

  -- saving, and local labels
  saves : (m : Memory) (es : List Entry) → InStep (save_top room m es) (save_top room' m es)
  unfolding save_top
  saves m [] = first_stops
  saves m (top ∷ left) = add-place m (recalls top.proved)

  labels : (m : Memory) (label : Option (List ℕ)) → InStep (give_local room m label) (give_local room' m label)
  unfolding give_local
  labels m none = gives
  labels m (some label) = unless-step _ _ _ _ (saves _ m.stack)

  -- preparing
  statement : (m : Memory) (s : ℕ) → InStep (prepare_statement db p room m s) (prepare_statement db p room' m s)
  unfolding prepare_statement
  statement m s = unless-step _ _ _ _ (unless-step _ _ _ _ (pick-step _ (hypothesis m s) gives))

  found : (m : Memory) (s : Option ℕ) → InStep (prepare_found db p room m s) (prepare_found db p room' m s)
  unfolding prepare_found
  found m none = first_stops
  found m (some s) = statement m s

  placed : (r : Ready) → InStep (add_ready room r) (add_ready room' r)
  unfolding add_ready
  placed r = add-place r.memory r.step

  rosters : (m : Memory) (label : List ℕ) → InStep (prepare_roster db p room m label) (prepare_roster db p room' m label)
  unfolding prepare_roster
  rosters m label = bind-step (found m _) placed

  preloads : (hs : List ℕ) (m : Memory) → InStep (preload db room hs m) (preload db room' hs m)
  unfolding preload
  preloads [] m = gives
  preloads (h ∷ hs) m = bind-step (bind-step (hypothesis m h) placed) (preloads hs)

  named : (m : Memory) (token : Parts) (s : Option ℕ) → InStep (prepare_named db p room m token s) (prepare_named db p room' m token s)
  unfolding prepare_named
  named m token none = itself _
  named m token (some s) = statement m s

  prepares : (m : Memory) (token : Parts) → InStep (prepare_normal db p room m token) (prepare_normal db p room' m token)
  unfolding prepare_normal
  prepares m token = unless-step _ _ _ _ (named m token _)

  -- running
  assertion : (m : Memory) (mark : Option (List ℕ)) (a : ℕ) (xs : List Proved)
      → InStep (apply_assertion db p room m mark a xs) (apply_assertion db p room' m mark a xs)
  unfolding apply_assertion
  assertion m mark a xs = check-hyps db _ _ xs (unless-step _ _ _ _ (concludes m mark _ _))

  assigned : (m : Memory) (mark : Option (List ℕ)) (a : ℕ) (ls : List (List ℕ)) (es : List Entry)
      → InStep (assign_entries db p room m mark a ls es) (assign_entries db p room' m mark a ls es)
  unfolding assign_entries
  assigned m mark a ls es = check-marks ls [] _ (assertion m mark a _)

  prepared : (m : Memory) (mark : Option (List ℕ)) (step : Prepared) → InStep (run_prepared db p room m mark step) (run_prepared db p room' m mark step)
  unfolding run_prepared
  prepared m mark (recalls x) = pushes m 0 m.stack _
  prepared m mark (applies a) = unless-step _ _ _ _ (assigned m mark a _ _)

  runs : (mark : Option (List ℕ)) (r : Ready) → InStep (run_ready db p room mark r) (run_ready db p room' mark r)
  unfolding run_ready
  runs mark r = prepared r.memory mark r.step

  -- reading: letters, tokens, bytes, the end
  on-letter : (m : Memory) (k : ℕ) (can : Bool) (at : ℕ) (l : Letter) → Abreast (on_letter db p room m k can at l) (on_letter db p room' m k can at l)
  unfolding on_letter step_at
  on-letter m k can at (Last d) = settle-abreast at m.steps (bind-step (itself _) (runs none)) (λ m'. alike)
  on-letter m k can at (Higher d) = alike
  on-letter m k can at Save = settle-abreast at m.steps (unless-step _ _ _ _ (saves m m.stack)) (λ m'. alike)
  on-letter m k can at Incomplete = alike
  on-letter m k can at Ignored = alike

  on-normal : (m : Memory) (from : ℕ) (token : List ℕ) (next : Memory → State)
      → Abreast (on_normal db p room m from token next) (on_normal db p room' m from token next)
  unfolding on_normal on_parts after_step
  on-normal m from token next =
      settle-abreast from m.steps (unless-step _ _ _ _ (bind-step (prepares m (split token)) (runs (split token).mark)))
      (λ m'. settle-abreast from m'.steps (labels m' (split token).local) (λ m''. alike))

  on-token : (m : Memory) (mode : Mode) (from : ℕ) (token : List ℕ) (next : Mode → Memory → State)
      → Abreast (on_token db p room m mode from token next) (on_token db p room' m mode from token next)
  unfolding on_token
  on-token m beginning from token next =
      pick-abreast _ (settle-abreast from m.steps (preloads _ m) (λ m'. alike)) (on-normal m from token (next normal))
  on-token m normal from token next = on-normal m from token (next normal)
  on-token m in_roster from token next = pick-abreast _ alike (settle-abreast from m.steps (rosters m token) (λ m'. alike))
  on-token m (in_letters k can) from token next = alike

  end-token : (m : Memory) (mode : Mode) (at : ℕ) (token : List ℕ) (next : Mode → Memory → State)
      → Abreast (end_token db p room m mode at token next) (end_token db p room' m mode at token next)
  unfolding end_token
  end-token m mode at [] next = alike
  end-token m mode at (b ∷ bs) next = on-token m mode _ (b ∷ bs) next

  on-plain : (m : Memory) (mode : Mode) (token : List ℕ) (at b : ℕ) → Abreast (on_plain db p room m mode token at b) (on_plain db p room' m mode token at b)
  unfolding on_plain
  on-plain m mode token at b = pick-abreast _ (end-token m mode at token _) alike

  by-mode : (m : Memory) (mode : Mode) (token : List ℕ) (at b : ℕ) → Abreast (by_mode db p room m mode token at b) (by_mode db p room' m mode token at b)
  unfolding by_mode
  by-mode m (in_letters k can) token at b = on-letter m k can at (letter b)
  by-mode m beginning token at b = on-plain m beginning token at b
  by-mode m normal token at b = on-plain m normal token at b
  by-mode m in_roster token at b = on-plain m in_roster token at b

  next-byte : (s : State) (b : ℕ) → Abreast (on_byte db p room s b) (on_byte db p room' s b)
  unfolding on_byte
  next-byte (going s) b = by-mode s.memory s.mode s.token s.at b
  next-byte (over a) b = alike

  on-byte : {s s' : State} (b : ℕ) → Abreast s s' → Abreast (on_byte db p room s b) (on_byte db p room' s' b)
  unfolding on_byte
  on-byte b (alike {s}) = next-byte s b
  on-byte b first_refused = first_refused
  on-byte b second_refused = second_refused

  on-bytes : {s s' : State} (bs : List ℕ) → Abreast s s' → Abreast (on_bytes db p room s bs) (on_bytes db p room' s' bs)
  unfolding on_bytes
  on-bytes [] e = e
  on-bytes {s = s} {s' = s'} (b ∷ bs) e =
      on-bytes {s = on_byte db p room s b} {s' = on_byte db p room' s' b} bs (on-byte b e)

  last_byte : (s : State) → Abreast (on_end db p room s) (on_end db p room' s)
  unfolding on_end
  last_byte (going s) = end-token s.memory s.mode s.at s.token _
  last_byte (over a) = alike

  on-end : {s s' : State} → Abreast s s' → Abreast (on_end db p room s) (on_end db p room' s')
  unfolding on_end
  on-end (alike {s}) = last_byte s
  on-end first_refused = first_refused
  on-end second_refused = second_refused

  abreast : (text : List ℕ) → Abreast (run db p room text) (run db p room' text)
  unfolding run
  abreast text = on-end (on-bytes text alike)

-- two answers are the same, unless one is a refusal
data SameAnswer : Answer → Answer → Type 0 where
  same_answer : {a : Answer} → SameAnswer a a
  first_refusal : {why : Refusal} {at steps : ℕ} {a : Answer} → SameAnswer (refused why at steps) a
  second_refusal : {why : Refusal} {at steps : ℕ} {a : Answer} → SameAnswer a (refused why at steps)

ended_same : {s s' : State} → Abreast s s' → SameAnswer (ended s) (ended s')
unfolding ended
ended_same alike = same_answer
ended_same first_refused = first_refusal
ended_same second_refused = second_refusal

answers-same : (file : List ℕ) (p : ℕ) (room room' : Room) → SameAnswer (answer file p room) (answer file p room')
unfolding answer judged answer_good pick
answers-same file p room room' = by-verdict (verdict file)
  where
    by_kind : (t : Bool) → SameAnswer (pick t (ended (run (database file) p (limited room) (statement_of (database file) p).text)) not_provable)
        (pick t (ended (run (database file) p (limited room') (statement_of (database file) p).text)) not_provable)
    by_kind true = ended_same (abreast (database file) p (limited room) (limited room') (statement_of (database file) p).text)
    by_kind false = same_answer

    by-verdict : (v : Verdict) → SameAnswer (judged v (answer_good (database file) p room)) (judged v (answer_good (database file) p room'))
    by-verdict (Ok sizes) = by_kind (equal (statement_of (database file) p).kind 5)
    by-verdict (Err away) = same_answer

both-accepted : {a a' : Answer} {place steps consumed place' steps' consumed' : ℕ} {tree tree' : Tree} → SameAnswer a a'
    → a ≡ accepted place steps consumed tree → a' ≡ accepted place' steps' consumed' tree'
    → accepted place steps consumed tree ≡ accepted place' steps' consumed' tree'
both-accepted same_answer e e' = sym e ∙ e'
both-accepted first_refusal e e' = let z : ◌≡◌ {A = ℕ} 0 1 = cc in absurd (omega arith)
both-accepted second_refusal e e' = let z : ◌≡◌ {A = ℕ} 0 1 = cc in absurd (omega arith)

module _ (file : List ℕ) (p : ℕ) (room room' : Room) where
  -- one proof accepted in two rooms: place, steps and derivation are the same
  pub one-acceptance : {place steps consumed place' steps' consumed' : ℕ} {tree tree' : Tree} → answer file p room ≡ accepted place steps consumed tree
      → answer file p room' ≡ accepted place' steps' consumed' tree' → accepted place steps consumed tree ≡ accepted place' steps' consumed' tree'
  one-acceptance e e' = both-accepted (answers-same file p room room') e e'

  pub one-tree : {place steps consumed place' steps' consumed' : ℕ} {tree tree' : Tree} → answer file p room ≡ accepted place steps consumed tree
      → answer file p room' ≡ accepted place' steps' consumed' tree' → tree ≡ tree'
  one-tree {tree = tree} {tree'} e e' = let same = one-acceptance e e' in cc

  -- so the text is the same whatever is lent, where there is one
  pub one-text : (entries output entries' output' : ℕ) → (long_answer file p room entries output).number ≡ 0
      → (long_answer file p room' entries' output').number ≡ 0 → (long_answer file p room entries output).text ≡ (long_answer file p room' entries' output').text
  unfolding long_answer
  one-text entries output entries' output' z z' =
      let w = zero-written (database file) entries output (answer file p room) z in
      let w' = zero-written (database file) entries' output' (answer file p room') z' in
      w.text ∙ ap (λ (t : Tree). long_text (database file) t) (one-tree w.accepts w'.accepts) ∙ sym w'.text
