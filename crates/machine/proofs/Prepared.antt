-- Preparing is sound: what a label names may be supposed or applied. A $f is active by 29 and 30; a $e is found only where the statement
-- lists it, and what is listed is active in a good file.
use Prim.Native.Nat.{ℕ, suc, ◌+◌, ◌≤◌, ◌<◌}
use mathlib.Core.Path.{◌≡◌, refl}
use mathlib.Core.Bool.{Bool, true, false}
use mathlib.Core.Logic.{◌⊎◌, inl, inr}
use mathlib.Core.Option.{Option, none, some}
use mathlib.Core.List.Memᴰ
use mathlib.Core.List.{List, [], ◌∷◌}
use native.Mathlib.Omega.{arith}
use lib.ListN.{length, get_or}
use Rattle.book.specs.Book.{supposed}
use Rattle.frames.specs.Logic.{equal, pick, both, no, same}
use Rattle.frames.specs.Layout.{supposes}
use Rattle.frames.specs.Table.{within}
use Rattle.frames.specs.Database.{Statement, Database}
use Rattle.frames.specs.Facts.{◌∈◌, statement_of, Facts}
use Rattle.frames.proofs.Chains.{at_most-false, equal-yes, equal-true, equal-false, below_true}
use Rattle.frames.proofs.Tells.{both_true, both_false, either-false, either-cases, no_false, no_true, true-not-false}
use Rattle.facts.proofs.Decoded.{supposes-kind}
use Rattle.machine.specs.Ground.{is_float, is_essential, expression_of, MaySuppose, ground}
use Rattle.machine.specs.Reading.{Parts}
use Rattle.machine.specs.Memory.{Room, Memory, place_of}
use Rattle.machine.specs.Prepare.{Ready, ready, leaf_of, prepare_hypothesis, first_from, bears, sought, sought_own, or_else, sought_label, prepare_statement, prepare_found, add_ready, prepare_roster, preload, ready_with, prepare_place, prepare_local, prepare_named, prepare_normal}
use Rattle.machine.proofs.Gives.{Gives, gives, stops, unless-gives, bind-gives, pick_gives}
use Rattle.machine.proofs.Holds.{recalled, earlier, Sound, SoundReady, spend-sound, place-sound, at-place-sound}

-- what is found has a property
pub data Finds {A : Type 0} (P : A → Type 0) : Option A → Type 0 where
  found : {x : A} → P x → Finds P (some x)
  unfound : Finds P none

pub pick-finds : {A : Type 0} {P : A → Type 0} {a b : Option A} (t : Bool) → (t ≡ true → Finds P a) → (t ≡ false → Finds P b) → Finds P (pick t a b)
unfolding pick
pick-finds true yes' no' = yes' refl
pick-finds false yes' no' = no' refl

first_finds : (P : ℕ → Type 0) (test : Statement → Bool) (d : Statement) (i : ℕ) (sts : List Statement)
    → ((s j : ℕ) → s ≡ i + j → j < length sts → test (get_or sts j d) ≡ true → P s) → Finds P (first_from test i sts)
unfolding first_from
first_finds P test d i [] f = unfound
first_finds P test d i (st ∷ sts) f =
    pick-finds _ (λ t. found (f i 0 (omega arith) (omega arith) t))
    (λ t. first_finds P test d (suc i) sts (λ s j e l t'. f s (suc j) (omega arith) (omega arith) t'))

own-finds : (db : Database) (label : List ℕ) (hs : List ℕ) → Finds (λ s. s ∈ hs) (sought_own db label hs)
unfolding sought_own
own-finds db label [] = unfound
own-finds db label (h ∷ hs) = pick-finds _ (λ t. found (Memᴰ.head refl)) (λ t. later (own-finds db label hs))
  where
    later : {o : Option ℕ} → Finds (λ s. s ∈ hs) o → Finds (λ s. s ∈ (h ∷ hs)) o
    later (found m) = found (Memᴰ.tail m)
    later unfound = unfound

-- which kind a statement has that is neither $f nor $e
asserts-kind : (k : ℕ) → 2 ≤ k → k ≤ 5 → supposes k ≡ false → (k ≡ 4) ⊎ (k ≡ 5)
unfolding supposes
asserts-kind k low high e = tried (equal k 4) refl
  where
    tried : (t : Bool) → equal k 4 ≡ t → (k ≡ 4) ⊎ (k ≡ 5)
    tried true q = inl (equal-true k 4 q)
    tried false q =
        let n2 = equal-false k 2 (either-false _ _ e).0 in
        let n3 = equal-false k 3 (either-false _ _ e).1 in
        let n4 = equal-false k 4 q in
        inr (omega arith)

float-yes : (st : Statement) → st.kind ≡ 2 → is_float st ≡ true
unfolding is_float
float-yes st k = equal-yes k

not-essential : (label : List ℕ) (st : Statement) → bears label st ≡ true → st.kind ≡ 3 → ⊥
unfolding bears is_essential
not-essential label st e k = true-not-false (equal-yes k) (no_true _ (both_true _ _ e).0)

scope-means : (end p : ℕ) → within end p ≡ true → (end ≡ 4294967295) ⊎ (p < end)
unfolding within
scope-means end p e = either-cases _ _ (λ t. inl (equal-true _ _ t)) (λ t. inr (below_true _ _ t)) e

-- a statement that a label may name: a $e only where p lists it
record Nameable (db : Database) (p s : ℕ) : Type 0 where
  own : (statement_of db s).kind ≡ 3 → s ∈ (statement_of db p).hyps

module _ (db : Database) (p : ℕ) (facts : Facts db) (there : p < length db.statements) where
  sought-finds : (label : List ℕ) → Finds (Nameable db p) (sought db label)
  unfolding sought statement_of
  sought-finds label =
      first_finds (Nameable db p) (bears label) _ 0 db.statements
      (λ s j e l t. let same : s ≡ j = omega arith in record { own = λ k. absurd (not-essential label (statement_of db j) t (rw same at k)) })

  label-finds : (label : List ℕ) → Finds (Nameable db p) (sought_label db p label)
  unfolding sought_label or_else
  label-finds label = chosen (sought-finds label) (own-finds db label (statement_of db p).hyps)
    where
      chosen : {a b : Option ℕ} → Finds (Nameable db p) a → Finds (λ s. s ∈ (statement_of db p).hyps) b → Finds (Nameable db p) (or_else a b)
      chosen (found n) o = found n
      chosen unfound (found m) = found (record { own = λ k. m })
      chosen unfound unfound = unfound

  module _ (room : Room) where
    hypothesis-sound : (m : Memory) (h : ℕ) → MaySuppose db p h (expression_of db h) → Sound db p m
        → Gives (SoundReady db p) (prepare_hypothesis db room m h)
    unfolding prepare_hypothesis ready leaf_of ground
    hypothesis-sound m h may s =
        unless-gives _ _ (λ t. unless-gives _ _ (λ t'.
        gives (record { memory = spend-sound room m _ _ s; step = recalled (record { derives = supposed h (expression_of db h) may }) })))

    listed-supposed : (h : ℕ) → h ∈ (statement_of db p).hyps → MaySuppose db p h (expression_of db h)
    listed-supposed h m = record { active = (facts.statement p there).hyps_active h m; own = inr m; is = refl }

    named-supposed : (s : ℕ) → s < p → both (is_float (statement_of db s)) (no (within (statement_of db s).end p)) ≡ false → Nameable db p s
        → ((statement_of db s).kind ≡ 2) ⊎ ((statement_of db s).kind ≡ 3) → MaySuppose db p s (expression_of db s)
    named-supposed s before scope may (inl k) =
        let open' = no_false _ (both_false _ _ scope (float-yes (statement_of db s) k)) in
        record { active = record { earlier = before; kind = inl k; scope = scope-means _ _ open' }; own = inl k; is = refl }
    named-supposed s before scope may (inr k) = listed-supposed s (may.own k)

    statement-sound : (m : Memory) (s : ℕ) → Nameable db p s → Sound db p m → Gives (SoundReady db p) (prepare_statement db p room m s)
    unfolding prepare_statement ready
    statement-sound m s may sound =
        unless-gives _ _ (λ e. unless-gives _ _ (λ scope.
        let before : s < p = at_most-false p s e in
        let of-s = facts.statement s (omega arith) in
        pick_gives _
        (λ t. hypothesis-sound m s (named-supposed s before scope may (supposes-kind _ t)) sound)
        (λ t. gives (record { memory = sound; step = earlier before (asserts-kind _ of-s.kind_low of-s.kind_high t) }))))

    ready-sound : (r : Ready) → SoundReady db p r → Gives (Sound db p) (add_ready room r)
    unfolding add_ready
    ready-sound r s = place-sound room r.memory r.step s.memory s.step

    pub roster-sound : (m : Memory) (label : List ℕ) → Sound db p m → Gives (Sound db p) (prepare_roster db p room m label)
    unfolding prepare_roster prepare_found
    roster-sound m label s = bind-gives (found-sound (label-finds label)) ready-sound
      where
        found-sound : {o : Option ℕ} → Finds (Nameable db p) o → Gives (SoundReady db p) (prepare_found db p room m o)
        found-sound (found n) = statement-sound m _ n s
        found-sound unfound = stops

    pub preload-sound : (hs : List ℕ) (m : Memory) → ((h : ℕ) → h ∈ hs → h ∈ (statement_of db p).hyps) → Sound db p m
        → Gives (Sound db p) (preload db room hs m)
    unfolding preload
    preload-sound [] m among s = gives s
    preload-sound (h ∷ hs) m among s =
        bind-gives (bind-gives (hypothesis-sound m h (listed-supposed h (among h (Memᴰ.head refl))) s) ready-sound)
        (λ m' s'. preload-sound hs m' (λ g n. among g (Memᴰ.tail n)) s')

    pub prepare_place-sound : (m : Memory) (k : ℕ) → Sound db p m → Gives (SoundReady db p) (prepare_place m k)
    unfolding prepare_place ready_with ready
    prepare_place-sound m k s =
        bind-gives (at-place-sound k s.places) (λ step a. gives (record { memory = s; step = a }))

    pub normal-sound : (m : Memory) (token : Parts) → Sound db p m → Gives (SoundReady db p) (prepare_normal db p room m token)
    unfolding prepare_normal prepare_named prepare_local
    normal-sound m token s = unless-gives _ _ (λ t. named (label-finds token.label))
      where
        by-local : (o : Option ℕ) → Gives (SoundReady db p) (prepare_local m o)
        by-local none = stops
        by-local (some k) = prepare_place-sound m k s

        named : {o : Option ℕ} → Finds (Nameable db p) o → Gives (SoundReady db p) (prepare_named db p room m token o)
        named (found n) = statement-sound m _ n s
        named unfound = unless-gives _ _ (λ t. by-local (place_of token.label m.locals))
