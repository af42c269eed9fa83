-- Places and steps: the stack's height and the hypotheses consumed add up to the steps, and a step takes at least one byte. So an accepted
-- proof has steps = 1 + all hypotheses consumed, and no place and no count of steps passes the text's length.
use Prim.Native.Nat.{ℕ, zero, suc, ◌+◌, ◌≤◌}
use mathlib.Core.Path.{◌≡◌, refl}
use mathlib.Core.Option.{Option, none, some}
use mathlib.Core.List.{List, [], ◌∷◌}
use native.Mathlib.Omega.{arith}
use lib.ListN.{length, drop, length-drop}
use Rattle.book.specs.Book.{Expression, Substitution}
use Rattle.frames.specs.Logic.{pick}
use Rattle.frames.specs.Database.{Statement, Database, database}
use Rattle.frames.specs.Verdict.{verdict, Good}
use Rattle.frames.specs.Facts.{statement_of}
use Rattle.frames.proofs.Chains.{below_false, equal-yes}
use Rattle.machine.specs.declared.Refusal.{Refusal}
use Rattle.machine.specs.Chain.{Result, bind}
use Rattle.machine.specs.Answer.{accepted, refused}
use Rattle.machine.specs.Ground.{expression_of}
use Rattle.machine.specs.Reading.{Parts}
use Rattle.machine.specs.Memory.{Room, limited, Proved, Prepared, recalls, applies, Entry, Memory, push, add_place, save_top, add_local, give_local}
use Rattle.machine.specs.Prepare.{Ready, ready, spend, prepare_hypothesis, prepare_statement, prepare_found, add_ready, prepare_roster, preload, at_place, ready_with, prepare_place, prepare_local, prepare_named, prepare_normal}
use Rattle.machine.specs.Apply.{check_hyp, check_hyps, conclude, apply_assertion, assign_entries, run_prepared, run_ready}
use Rattle.machine.specs.Run.{Mode, is_claim, only_entry, unfinished, fresh, run, step_at}
use Rattle.machine.specs.Bench.{ended, answer_good, judged, answer}
use Rattle.machine.specs.Promise.{Counted, all_steps, some_steps}
use Rattle.machine.proofs.Gives.{Gives, gives, stops, unless-gives, bind-gives, pick_gives}
use Rattle.machine.proofs.Applied.{marks-give}
use Rattle.machine.proofs.Acceptance.{unfinished-gives}
use Rattle.machine.proofs.Follow.{Followed, followed}

pub record Counts (n : ℕ) (m : Memory) : Type 0 where
  pub balance : length m.stack + m.consumed ≡ m.steps
  pub few : m.steps ≤ n

pub record CountsReady (n : ℕ) (r : Ready) : Type 0 where
  pub memory : Counts n r.memory

module _ (n : ℕ) (m : Memory) where
  spend-counts : (vs : List ℕ) (bytes : ℕ) → Counts n m → Counts n (spend m vs bytes)
  unfolding spend
  spend-counts vs bytes c = record { balance = c.balance; few = c.few }

  local-added : (label : List ℕ) → Counts n m → Counts n (add_local m label)
  unfolding add_local
  local-added label c = record { balance = c.balance; few = c.few }

  module _ (room : Room) where
    push-counts : (h : ℕ) (left : List Entry) (e : Entry) → length left + h ≡ length m.stack → Counts n m
        → Gives (Counts (suc n)) (push room m h left e)
    unfolding push
    push-counts h left e l c =
        let b = c.balance in
        let f = c.few in
        unless-gives _ _ (λ t. gives (record { balance = omega arith; few = omega arith }))

    place-counts : (step : Prepared) → Counts n m → Gives (Counts n) (add_place room m step)
    unfolding add_place
    place-counts step c = unless-gives _ _ (λ t. gives (record { balance = c.balance; few = c.few }))

    save-counts : (es : List Entry) → Counts n m → Gives (Counts n) (save_top room m es)
    unfolding save_top
    save-counts [] c = stops
    save-counts (e ∷ es) c = place-counts _ c

module _ (db : Database) (p : ℕ) (room : Room) (n : ℕ) where
  hypothesis-counts : (m : Memory) (h : ℕ) → Counts n m → Gives (CountsReady n) (prepare_hypothesis db room m h)
  unfolding prepare_hypothesis ready
  hypothesis-counts m h c =
      unless-gives _ _ (λ t. unless-gives _ _ (λ u. gives (record { memory = spend-counts n m _ _ c })))

  statement-counts : (m : Memory) (s : ℕ) → Counts n m → Gives (CountsReady n) (prepare_statement db p room m s)
  unfolding prepare_statement ready
  statement-counts m s c =
      unless-gives _ _ (λ t. unless-gives _ _ (λ u. pick_gives _ (λ v. hypothesis-counts m s c) (λ v. gives (record { memory = c }))))

  ready-counts : (r : Ready) → CountsReady n r → Gives (Counts n) (add_ready room r)
  unfolding add_ready
  ready-counts r c = place-counts n r.memory room r.step c.memory

  found-counts : (m : Memory) (o : Option ℕ) → Counts n m → Gives (CountsReady n) (prepare_found db p room m o)
  unfolding prepare_found
  found-counts m none c = stops
  found-counts m (some s) c = statement-counts m s c

  roster-counts : (m : Memory) (label : List ℕ) → Counts n m → Gives (Counts n) (prepare_roster db p room m label)
  unfolding prepare_roster
  roster-counts m label c = bind-gives (found-counts m _ c) ready-counts

  preload-counts : (hs : List ℕ) (m : Memory) → Counts n m → Gives (Counts n) (preload db room hs m)
  unfolding preload
  preload-counts [] m c = gives c
  preload-counts (h ∷ hs) m c = bind-gives (bind-gives (hypothesis-counts m h c) ready-counts) (preload-counts hs)

  local-counts : (m : Memory) (label : Option (List ℕ)) → Counts n m → Gives (Counts n) (give_local room m label)
  unfolding give_local
  local-counts m none c = gives c
  local-counts m (some label) c = unless-gives _ _ (λ t. save-counts n (add_local m label) room _ (local-added n m label c))

  at-counts : (m : Memory) (steps : List Prepared) (k : ℕ) → Counts n m → Gives (CountsReady n) (bind (at_place steps k) (ready_with m))
  unfolding at_place ready_with ready bind
  at-counts m [] k c = stops
  at-counts m (step ∷ steps) zero c = gives (record { memory = c })
  at-counts m (step ∷ steps) (suc k) c = at-counts m steps k c

  place-prepared : (m : Memory) (k : ℕ) → Counts n m → Gives (CountsReady n) (prepare_place m k)
  unfolding prepare_place
  place-prepared m k c = at-counts m _ k c

  by-local : (m : Memory) (o : Option ℕ) → Counts n m → Gives (CountsReady n) (prepare_local m o)
  unfolding prepare_local
  by-local m none c = stops
  by-local m (some k) c = place-prepared m k c

  named-counts : (m : Memory) (token : Parts) (o : Option ℕ) → Counts n m → Gives (CountsReady n) (prepare_named db p room m token o)
  unfolding prepare_named
  named-counts m token (some s) c = statement-counts m s c
  named-counts m token none c = unless-gives _ _ (λ t. by-local m _ c)

  normal-counts : (m : Memory) (token : Parts) → Counts n m → Gives (CountsReady n) (prepare_normal db p room m token)
  unfolding prepare_normal
  normal-counts m token c = unless-gives _ _ (λ t. named-counts m token _ c)

  conclude-counts : (m : Memory) (mark : Option (List ℕ)) (h : ℕ) (x : Proved) → h ≤ length m.stack → Counts n m
      → Gives (Counts (suc n)) (conclude db room m mark h x)
  unfolding conclude spend
  conclude-counts m mark h x l c =
      unless-gives _ _ (λ t. push-counts n _ room h (drop h m.stack) _ (omega (arith, length-drop h m.stack)) (record { balance = c.balance; few = c.few }))

  hyp-counts : {A : Type 0} {P : A → Type 0} {rest : Result A} (σ : Substitution) (st : Statement) (e : Expression) → Gives P rest
      → Gives P (check_hyp db σ st e rest)
  unfolding check_hyp
  hyp-counts σ st e g = unless-gives _ _ (λ t. unless-gives _ _ (λ u. g))

  pub hyps-count : {A : Type 0} {P : A → Type 0} {rest : Result A} (σ : Substitution) (hs : List ℕ) (xs : List Proved) → Gives P rest
      → Gives P (check_hyps db σ hs xs rest)
  unfolding check_hyps
  hyps-count σ [] [] g = g
  hyps-count σ [] (x ∷ xs) g = stops
  hyps-count σ (h ∷ hs) [] g = stops
  hyps-count σ (h ∷ hs) (x ∷ xs) g = hyp-counts σ _ _ (hyps-count σ hs xs g)

  prepared-counts : (m : Memory) (mark : Option (List ℕ)) (step : Prepared) → Counts n m
      → Gives (Counts (suc n)) (run_prepared db p room m mark step)
  unfolding run_prepared assign_entries apply_assertion
  prepared-counts m mark (recalls x) c = push-counts n m room 0 m.stack _ (omega arith) c
  prepared-counts m mark (applies a) c =
      unless-gives _ _ (λ t. marks-give _ [] _ (hyps-count _ _ _ (unless-gives _ _ (λ u. conclude-counts m mark _ _ (below_false _ _ t) c))))

  ready-runs-counts : (mark : Option (List ℕ)) (r : Ready) → CountsReady n r → Gives (Counts (suc n)) (run_ready db p room mark r)
  unfolding run_ready
  ready-runs-counts mark r c = prepared-counts r.memory mark r.step c.memory

claim-counts : {P : Proved → Type 0} (claim : Expression) (x : Proved) → P x → Gives P (is_claim claim x)
unfolding is_claim
claim-counts claim x q = unless-gives _ _ (λ t. unless-gives _ _ (λ u. gives q))

entry-counts : (L : ℕ) (m : Memory) (claim : Expression) (es : List Entry) → length es + m.consumed ≡ m.steps → m.steps ≤ L
    → Gives (λ x. Counted L (accepted L m.steps m.consumed x.tree)) (only_entry claim es)
unfolding only_entry
entry-counts L m claim [] b f = stops
entry-counts L m claim (e ∷ []) b f = claim-counts claim _ (all_steps (omega arith) f)
entry-counts L m claim (e ∷ g ∷ es) b f = stops

accepted-counts : {L : ℕ} {m : Memory} (claim : Expression) (mode : Mode) → Counts L m
    → Gives (λ x. Counted L (accepted L m.steps m.consumed x.tree)) (unfinished mode (only_entry claim m.stack))
accepted-counts {L} {m} claim mode c = unfinished-gives mode (entry-counts L m claim m.stack c.balance c.few)

begins-count : (vs : List ℕ) → Counts 0 (fresh vs)
unfolding fresh
begins-count vs = record { balance = refl; few = omega arith }

refused-counts : {L n k : ℕ} {m : Memory} (why : Refusal) → n ≤ L → k ≤ L → Counts k m → Counted L (refused why n m.steps)
refused-counts {L} {n} {k} {m} why a b c =
    let f : m.steps ≤ k = c.few in
    let l : m.steps ≤ L = omega arith in
    some_steps a l

first-counts : (L : ℕ) (why : Refusal) → Counted L (refused why 0 0)
first-counts L why =
    let l : 0 ≤ L = omega arith in
    some_steps l l

module _ (db : Database) (p : ℕ) (room : Room) where
  counts-followed : (L : ℕ) → Followed db p room L Counts (Counted L)
  unfolding step_at
  counts-followed L =
      record {
        begins = begins-count _;
        stays = λ l c. record { balance = c.balance; few = let f = c.few in omega arith };
        preloads = λ c. preload-counts db p room _ _ _ c;
        rosters = λ label c. roster-counts db p room _ _ label c;
        letters = λ k c. bind-gives (place-prepared db p room _ _ k c) (ready-runs-counts db p room _ none);
        saves = λ c. save-counts _ _ room _ c;
        tokens = λ token c. bind-gives (normal-counts db p room _ _ token c) (ready-runs-counts db p room _ token.mark);
        locals = λ label c. local-counts db p room _ _ label c;
        refuses = refused-counts;
        refuses_first = first-counts L;
        accepts = accepted-counts (expression_of db p);
      }

  pub run-counted : (text : List ℕ) → Counted (length text) (ended (run db p room text))
  run-counted text = followed (counts-followed (length text)) text refl

-- the answer for a $p of a good file
pub answer-counted : (file : List ℕ) (p : ℕ) (room : Room) (symbols statements : ℕ) → verdict file ≡ Good symbols statements
    → (statement_of (database file) p).kind ≡ 5 → Counted (length (statement_of (database file) p).text) (answer file p room)
unfolding answer judged answer_good pick
answer-counted file p room symbols statements good kind =
    rw (good, equal-yes kind) (run-counted (database file) p (limited room) _)
