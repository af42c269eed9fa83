-- The variables of a derivation: each $f in a tree that a run holds has its variable among those that the run has numbered, and these are
-- at most 256. So the long form of an accepted proof names no variable that the proof did not number.
use Prim.Native.Nat.{ℕ, zero, suc, ◌≤◌}
use mathlib.Core.Path.{◌≡◌, refl}
use mathlib.Core.Bool.{Bool, true, false}
use mathlib.Core.Logic.{◌⊎◌, inl, inr}
use mathlib.Core.Option.{Option, none, some}
use mathlib.Core.List.Memᴰ
use mathlib.Core.List.{List, [], ◌∷◌}
use lib.ListN.{length}
use Rattle.book.specs.Book.{Expression, Substitution, Tree}
use Rattle.frames.specs.Logic.{pick}
use Rattle.frames.specs.Layout.{supposes}
use Rattle.frames.specs.Database.{Statement, Database}
use Rattle.frames.specs.Facts.{◌∈◌, statement_of, floated}
use Rattle.frames.proofs.Chains.{below_false}
use Rattle.frames.proofs.Tells.{either-false, true-not-false}
use Rattle.machine.specs.declared.Refusal.{Refusal}
use Rattle.machine.specs.Chain.{Result}
use Rattle.machine.specs.Answer.{Answer, accepted, refused}
use Rattle.machine.specs.Ground.{is_float, expression_of}
use Rattle.machine.specs.Reading.{Parts}
use Rattle.machine.specs.Memory.{Room, Proved, Prepared, recalls, applies, Entry, Memory, push, add_place, save_top, place_of, add_local, give_local}
use Rattle.machine.specs.Prepare.{numbered, numbered_by, Ready, ready, spend, leaf_of, prepare_hypothesis, sought_label, prepare_statement, prepare_found, add_ready, prepare_roster, preload, at_place, ready_with, prepare_place, prepare_local, prepare_named, prepare_normal}
use Rattle.machine.specs.Apply.{check_hyp, check_hyps, forest, conclusion, conclude, apply_assertion, assign_entries, run_prepared, run_ready}
use Rattle.machine.specs.Run.{Mode, is_claim, only_entry, unfinished, first_variables, fresh, run, step_at}
use Rattle.machine.specs.Bench.{ended}
use Rattle.machine.proofs.Gives.{Gives, gives, stops, unless-gives, bind-gives, pick_gives}
use Rattle.machine.proofs.Every.{Every, none, also, every_take, every_drop, every-reverse, every_append}
use Rattle.machine.proofs.Applied.{marks-give}
use Rattle.machine.proofs.Acceptance.{unfinished-gives}
use Rattle.machine.proofs.Follow.{Followed, followed}
use Rattle.postorder.specs.LongForm.{post_order, post_orders}
use Rattle.postorder.proofs.Few.{numbers}
use Rattle.postorder.proofs.Trees.{Covered}
use Rattle.postorder.proofs.Arranged.{OfEntry, unmarked-has, arranged-has}

every_map : {A : Type 0} {P Q : A → Type 0} {xs : List A} → ((x : A) → P x → Q x) → Every P xs → Every Q xs
every_map f none = none
every_map f (also p e) = also (f _ p) (every_map f e)

-- each $f of the tree has its variable among these
record Names (db : Database) (vars : List ℕ) (x : Proved) : Type 0 where
  covers : Covered db vars (post_order x.tree)

data StepNames (db : Database) (vars : List ℕ) : Prepared → Type 0 where
  recalled : {x : Proved} → Names db vars x → StepNames db vars (recalls x)
  asserted : {a : ℕ} → is_float (statement_of db a) ≡ false → StepNames db vars (applies a)

record Naming (db : Database) (p : ℕ) (m : Memory) : Type 0 where
  stack : Every (OfEntry (Names db m.variables)) m.stack
  places : Every (StepNames db m.variables) m.places
  first : (v : ℕ) → v ∈ first_variables db p → v ∈ m.variables
  few : length (first_variables db p) ≤ 256 → length m.variables ≤ 256

record NamingReady (db : Database) (p : ℕ) (r : Ready) : Type 0 where
  memory : Naming db p r.memory
  step : StepNames db r.memory.variables r.step

module _ {db : Database} {vs ws : List ℕ} (grows : (v : ℕ) → v ∈ vs → v ∈ ws) where
  names-grow : (x : Proved) → Names db vs x → Names db ws x
  names-grow x n = record { covers = record { each = λ s m f. grows _ (n.covers.each s m f) } }

  step-grows : (step : Prepared) → StepNames db vs step → StepNames db ws step
  step-grows _ (recalled n) = recalled (names-grow _ n)
  step-grows _ (asserted f) = asserted f

-- a hypothesis that is named numbers its variable
leaf-names : (db : Database) (vs : List ℕ) (h : ℕ) → Names db (numbered_by (statement_of db h) vs) (leaf_of db h)
unfolding leaf_of post_order numbered_by pick
leaf-names db vs h = record { covers = record { each = λ s m f. has s (Memᴰ.eq_of_singleton m) f } }
  where
    tried : (t : Bool) → t ≡ true → floated (statement_of db h) ∈ pick t (numbered vs (floated (statement_of db h))) vs
    tried true e = (numbers vs (floated (statement_of db h))).has
    tried false e = absurd (true-not-false e refl)

    has : (s : ℕ) → s ≡ h → is_float (statement_of db s) ≡ true → floated (statement_of db s) ∈ numbered_by (statement_of db h) vs
    has s e f = rw e (tried (is_float (statement_of db h)) (rw e at f))

by-grows : (st : Statement) (vs : List ℕ) (v : ℕ) → v ∈ vs → v ∈ numbered_by st vs
unfolding numbered_by pick
by-grows st vs v m = tried (is_float st)
  where
    tried : (t : Bool) → v ∈ pick t (numbered vs (floated st)) vs
    tried true = (numbers vs (floated st)).stays v m
    tried false = m

module _ {db : Database} {p : ℕ} (room : Room) (m : Memory) where
  push-names : (h : ℕ) (left : List Entry) (e : Entry) → Naming db p m → Every (OfEntry (Names db m.variables)) left
      → Names db m.variables e.proved → Gives (Naming db p) (push room m h left e)
  unfolding push
  push-names h left e n l held =
      unless-gives _ _ (λ t. gives (record { stack = also (record { of = held }) l; places = n.places; first = n.first; few = n.few }))

  place-names : (step : Prepared) → Naming db p m → StepNames db m.variables step → Gives (Naming db p) (add_place room m step)
  unfolding add_place
  place-names step n s =
      unless-gives _ _ (λ t. gives (record { stack = n.stack; places = every_append n.places (also s none); first = n.first; few = n.few }))

  save-names : {es : List Entry} → Naming db p m → Every (OfEntry (Names db m.variables)) es → Gives (Naming db p) (save_top room m es)
  unfolding save_top
  save-names n none = stops
  save-names n (also e es) = place-names _ n (recalled e.of)

add-local-names : {db : Database} {p : ℕ} (m : Memory) (label : List ℕ) → Naming db p m → Naming db p (add_local m label)
unfolding add_local
add-local-names m label n = record { stack = n.stack; places = n.places; first = n.first; few = n.few }

module _ (db : Database) (p : ℕ) (room : Room) where
  local-names : (m : Memory) (label : Option (List ℕ)) → Naming db p m → Gives (Naming db p) (give_local room m label)
  unfolding give_local add_local
  local-names m none n = gives n
  local-names m (some label) n = unless-gives _ _ (λ t. save-names room (add_local m label) (add-local-names m label n) n.stack)

  hypothesis-names : (m : Memory) (h : ℕ) → Naming db p m → Gives (NamingReady db p) (prepare_hypothesis db room m h)
  unfolding prepare_hypothesis ready spend
  hypothesis-names m h n =
      let grows = by-grows (statement_of db h) m.variables in
      unless-gives _ _ (λ t. unless-gives _ _ (λ u.
      gives (record {
        memory =
            record {
              stack = every_map (λ e o. record { of = names-grow grows e.proved o.of }) n.stack;
              places = every_map (step-grows grows) n.places;
              first = λ v i. grows v (n.first v i);
              few = λ l. below_false _ _ t;
            };
        step = recalled (leaf-names db m.variables h);
      })))

  not_float : (a : ℕ) → supposes (statement_of db a).kind ≡ false → is_float (statement_of db a) ≡ false
  unfolding supposes is_float
  not_float a e = (either-false _ _ e).0

  statement-names : (m : Memory) (s : ℕ) → Naming db p m → Gives (NamingReady db p) (prepare_statement db p room m s)
  unfolding prepare_statement ready
  statement-names m s n =
      unless-gives _ _ (λ t. unless-gives _ _ (λ u.
      pick_gives _ (λ v. hypothesis-names m s n) (λ v. gives (record { memory = n; step = asserted (not_float s v) }))))

  ready-names : (r : Ready) → NamingReady db p r → Gives (Naming db p) (add_ready room r)
  unfolding add_ready
  ready-names r n = place-names room r.memory r.step n.memory n.step

  roster-names : (m : Memory) (label : List ℕ) → Naming db p m → Gives (Naming db p) (prepare_roster db p room m label)
  unfolding prepare_roster prepare_found
  roster-names m label n = bind-gives (by-search (sought_label db p label)) ready-names
    where
      by-search : (o : Option ℕ) → Gives (NamingReady db p) (prepare_found db p room m o)
      by-search none = stops
      by-search (some s) = statement-names m s n

  preload-names : (hs : List ℕ) (m : Memory) → Naming db p m → Gives (Naming db p) (preload db room hs m)
  unfolding preload
  preload-names [] m n = gives n
  preload-names (h ∷ hs) m n = bind-gives (bind-gives (hypothesis-names m h n) ready-names) (preload-names hs)

  at_names : {vars : List ℕ} {steps : List Prepared} (k : ℕ) → Every (StepNames db vars) steps → Gives (StepNames db vars) (at_place steps k)
  unfolding at_place
  at_names k none = stops
  at_names zero (also a e) = gives a
  at_names (suc k) (also a e) = at_names k e

  at-place-names : (m : Memory) (k : ℕ) → Naming db p m → Gives (NamingReady db p) (prepare_place m k)
  unfolding prepare_place ready_with ready
  at-place-names m k n = bind-gives (at_names k n.places) (λ step a. gives (record { memory = n; step = a }))

  normal-names : (m : Memory) (token : Parts) → Naming db p m → Gives (NamingReady db p) (prepare_normal db p room m token)
  unfolding prepare_normal prepare_named prepare_local
  normal-names m token n = unless-gives _ _ (λ t. by-search (sought_label db p token.label))
    where
      by-local : (o : Option ℕ) → Gives (NamingReady db p) (prepare_local m o)
      by-local none = stops
      by-local (some k) = at-place-names m k n

      by-search : (o : Option ℕ) → Gives (NamingReady db p) (prepare_named db p room m token o)
      by-search (some s) = statement-names m s n
      by-search none = unless-gives _ _ (λ t. by-local (place_of token.label m.locals))

  forest-names : (vars : List ℕ) {xs : List Proved} → Every (Names db vars) xs → Covered db vars (post_orders (forest xs))
  unfolding forest post_order
  forest-names vars none = record { each = λ s m. absurd (Memᴰ.not-nil m) }
  forest-names vars (also {x} {xs} n ns) =
      record { each = λ s m. either-tree s (Memᴰ.append_cases (post_order x.tree) m) (forest-names vars ns) }
    where
      either-tree : (s : ℕ) → (s ∈ post_order x.tree) ⊎ (s ∈ post_orders (forest xs)) → Covered db vars (post_orders (forest xs))
          → is_float (statement_of db s) ≡ true → floated (statement_of db s) ∈ vars
      either-tree s (inl m) c = n.covers.each s m
      either-tree s (inr m) c = c.each s m

  node-names : (vars : List ℕ) (a : ℕ) (σ : Substitution) {xs : List Proved} → is_float (statement_of db a) ≡ false → Every (Names db vars) xs
      → Names db vars (conclusion db a σ xs)
  unfolding conclusion post_order
  node-names vars a σ {xs} k ns =
      record { covers = record { each = λ s m. at-node s (Memᴰ.append_cases (post_orders (forest xs)) m) } }
    where
      at-node : (s : ℕ) → (s ∈ post_orders (forest xs)) ⊎ (s ∈ (a ∷ [])) → is_float (statement_of db s) ≡ true → floated (statement_of db s) ∈ vars
      at-node s (inl m) f = (forest-names vars ns).each s m f
      at-node s (inr m) f = absurd (true-not-false f (rw (Memᴰ.eq_of_singleton m) k))

  conclude-names : (m : Memory) (mark : Option (List ℕ)) (h : ℕ) (x : Proved) → Naming db p m → Names db m.variables x
      → Gives (Naming db p) (conclude db room m mark h x)
  unfolding conclude spend
  conclude-names m mark h x n held =
      unless-gives _ _ (λ t.
      push-names room _ h _ _ (record { stack = n.stack; places = n.places; first = n.first; few = n.few }) (every_drop h n.stack) held)

  hyp-gives : {A : Type 0} {P : A → Type 0} {rest : Result A} (σ : Substitution) (st : Statement) (e : Expression) → Gives P rest
      → Gives P (check_hyp db σ st e rest)
  unfolding check_hyp
  hyp-gives σ st e g = unless-gives _ _ (λ t. unless-gives _ _ (λ u. g))

  hyps-give : {A : Type 0} {P : A → Type 0} {rest : Result A} (σ : Substitution) (hs : List ℕ) (xs : List Proved) → Gives P rest
      → Gives P (check_hyps db σ hs xs rest)
  unfolding check_hyps
  hyps-give σ [] [] g = g
  hyps-give σ [] (x ∷ xs) g = stops
  hyps-give σ (h ∷ hs) [] g = stops
  hyps-give σ (h ∷ hs) (x ∷ xs) g = hyp-gives σ _ _ (hyps-give σ hs xs g)

  step-names : (m : Memory) (mark : Option (List ℕ)) {step : Prepared} → Naming db p m → StepNames db m.variables step
      → Gives (Naming db p) (run_prepared db p room m mark step)
  unfolding run_prepared assign_entries apply_assertion
  step-names m mark n (recalled held) = push-names room m 0 _ _ n n.stack held
  step-names m mark n (asserted {a} k) =
      unless-gives _ _ (λ t.
      let es = every-reverse (every_take (length (statement_of db a).hyps) n.stack) in
      let held = arranged-has (Names db m.variables) _ es (unmarked-has (Names db m.variables) es) in
      marks-give _ [] _ (hyps-give _ _ _ (unless-gives _ _ (λ u. conclude-names m mark _ _ n (node-names m.variables a _ k held)))))

  run-names : (mark : Option (List ℕ)) (r : Ready) → NamingReady db p r → Gives (Naming db p) (run_ready db p room mark r)
  unfolding run_ready
  run-names mark r n = step-names r.memory mark n.memory n.step

-- the variables that an accepted proof has numbered: those of the start and of each $f in its derivation, at most 256
pub data NamedBy (db : Database) (p : ℕ) : Answer → Type 0 where
  named_by : {place steps consumed : ℕ} {tree : Tree} (vars : List ℕ) → (length (first_variables db p) ≤ 256 → length vars ≤ 256)
      → ((v : ℕ) → v ∈ first_variables db p → v ∈ vars) → Covered db vars (post_order tree) → NamedBy db p (accepted place steps consumed tree)
  not_accepted : {why : Refusal} {place steps : ℕ} → NamedBy db p (refused why place steps)

module _ (db : Database) (p : ℕ) where
  claim-named : {vars : List ℕ} (claim : Expression) (x : Proved) → Names db vars x → Gives (Names db vars) (is_claim claim x)
  unfolding is_claim
  claim-named claim x n = unless-gives _ _ (λ t. unless-gives _ _ (λ u. gives n))

  entry_named : {vars : List ℕ} (claim : Expression) {es : List Entry} → Every (OfEntry (Names db vars)) es
      → Gives (Names db vars) (only_entry claim es)
  unfolding only_entry
  entry_named claim none = stops
  entry_named claim (also e none) = claim-named claim _ e.of
  entry_named claim (also e (also f es)) = stops

  accepts-named : {L : ℕ} {m : Memory} (mode : Mode) → Naming db p m
      → Gives (λ x. NamedBy db p (accepted L m.steps m.consumed x.tree)) (unfinished mode (only_entry (expression_of db p) m.stack))
  accepts-named {L} {m} mode n = unfinished-gives mode (wrapped (entry_named (expression_of db p) n.stack))
    where
      wrapped : {r : Result Proved} → Gives (Names db m.variables) r
          → Gives (λ x. NamedBy db p (accepted L m.steps m.consumed x.tree)) r
      wrapped (gives d) = gives (named_by m.variables n.few n.first d.covers)
      wrapped stops = stops

  begins-named : Naming db p (fresh (first_variables db p))
  unfolding fresh
  begins-named = record { stack = none; places = none; first = λ v m. m; few = λ l. l }

  names-followed : (room : Room) (L : ℕ) → Followed db p room L (λ n m. Naming db p m) (NamedBy db p)
  unfolding step_at
  names-followed room L =
      record {
        begins = begins-named;
        stays = λ l n. n;
        preloads = λ n. preload-names db p room _ _ n;
        rosters = λ label n. roster-names db p room _ label n;
        letters = λ k n. bind-gives (at-place-names db p room _ k n) (run-names db p room none);
        saves = λ n. save-names room _ n n.stack;
        tokens = λ token n. bind-gives (normal-names db p room _ token n) (run-names db p room token.mark);
        locals = λ label n. local-names db p room _ label n;
        refuses = λ why n k s. not_accepted;
        refuses_first = λ why. not_accepted;
        accepts = accepts-named;
      }

  pub run-named : (room : Room) (text : List ℕ) → NamedBy db p (ended (run db p room text))
  run-named room text = followed (names-followed room (length text)) text refl
