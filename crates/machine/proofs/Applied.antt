-- Applying an assertion is sound: if its tests pass, the tree over those of its entries derives its claim as substituted. The one
-- substitution is that of its $f; the trees are in the order of its hypotheses, wherever a mark has put them.
use Prim.Native.Nat.{ℕ, ◌<◌}
use mathlib.Core.Path.{◌≡◌, refl, sym, ◌∙◌}
use mathlib.Core.Bool.{Bool, true, false}
use mathlib.Core.Logic.{◌⊎◌}
use mathlib.Core.Option.{Option, none, some}
use mathlib.Core.List.Memᴰ
use mathlib.Core.List.{List, [], ◌∷◌, map}
use native.Mathlib.Omega.{arith}
use lib.ListN.{length}
use Rattle.book.specs.Book.{Expression, Substitution, substituted, under, applied, DeriveAll, nothing, more}
use Rattle.frames.specs.Logic.{equal, both, no, same}
use Rattle.frames.specs.Database.{Database}
use Rattle.frames.specs.Facts.{◌∈◌, statement_of, floated, Facts}
use Rattle.frames.proofs.Chains.{no-of-false, equal-true}
use Rattle.frames.proofs.Tells.{both_false, no_false, all-member}
use Rattle.frames.proofs.Found.{same_true}
use Rattle.machine.specs.Chain.{Result}
use Rattle.machine.specs.Ground.{is_variable, is_float, expression, expression_of, frame_of, ground}
use Rattle.machine.specs.Memory.{Room, Proved, Prepared, Entry, Memory}
use Rattle.machine.specs.Prepare.{Ready}
use Rattle.machine.specs.Apply.{check_marks, marked, unmarked_first, unmarked, seat, arranged, bound, check_hyp, check_hyps, forest, conclusion, conclude, apply_assertion, assign_entries, run_prepared, run_ready}
use Rattle.machine.proofs.Gives.{Gives, stops, unless-gives}
use Rattle.machine.proofs.Every.{Every, none, also, every_take, every_drop, every-reverse}
use Rattle.machine.proofs.Bound.{Paired, here, there, float-image, float-under, same-expression}
use Rattle.machine.proofs.Disjoint.{keeps-means}
use Rattle.machine.proofs.Holds.{Holds, EntryHolds, Allowed, recalled, earlier, Sound, SoundReady, spend-sound, push-sound}
use Rattle.machine.proofs.Prepared.{Finds, found, unfound, pick-finds}

-- marks refuse, or change nothing
pub marks-give : {A : Type 0} {P : A → Type 0} {rest : Result A} (labels seen ms : List (List ℕ)) → Gives P rest → Gives P (check_marks labels seen ms rest)
unfolding check_marks
marks-give labels seen [] g = g
marks-give labels seen (m ∷ ms) g = unless-gives _ _ (λ t. unless-gives _ _ (λ t'. marks-give labels (m ∷ seen) ms g))

module _ (db : Database) (p : ℕ) where
  marked-holds : (label : List ℕ) {es : List Entry} → Every (EntryHolds db p) es → Finds (Holds db p) (marked label es)
  unfolding marked
  marked-holds label none = unfound
  marked-holds label (also e es) = pick-finds _ (λ t. found e.holds) (λ t. marked-holds label es)

  unmarked-first : (mark : Option (List ℕ)) {x : Proved} {xs : List Proved} → Holds db p x → Every (Holds db p) xs
      → Every (Holds db p) (unmarked_first mark x xs)
  unfolding unmarked_first
  unmarked-first none h hs = also h hs
  unmarked-first (some m) h hs = hs

  unmarked-holds : {es : List Entry} → Every (EntryHolds db p) es → Every (Holds db p) (unmarked es)
  unfolding unmarked
  unmarked-holds none = none
  unmarked-holds (also {x} e es) = unmarked-first x.mark e.holds (unmarked-holds es)

  seat-holds : {o : Option Proved} {us : List Proved} {others : List Proved → List Proved} → Finds (Holds db p) o → Every (Holds db p) us
      → ((vs : List Proved) → Every (Holds db p) vs → Every (Holds db p) (others vs)) → Every (Holds db p) (seat o us others)
  unfolding seat
  seat-holds (found h) us rest = also h (rest _ us)
  seat-holds unfound (also u us) rest = also u (rest _ us)
  seat-holds unfound none rest = none

  arranged-holds : (labels : List (List ℕ)) {es : List Entry} {us : List Proved} → Every (EntryHolds db p) es → Every (Holds db p) us
      → Every (Holds db p) (arranged labels es us)
  unfolding arranged
  arranged-holds [] es us = none
  arranged-holds (l ∷ ls) es us = seat-holds (marked-holds l es) us (λ vs h. arranged-holds ls es h)

  module _ (facts : Facts db) (σ : Substitution) where
    -- an entry that passes is the hypothesis under the substitution
    hyp-means : (h : ℕ) (e : Expression) → h < length db.statements
        → (is_float (statement_of db h) ≡ true → σ (floated (statement_of db h)) ≡ e.symbols)
        → (t : Bool) → is_float (statement_of db h) ≡ t
        → no (equal e.typecode (expression (statement_of db h)).typecode) ≡ false
        → both (no t) (no (same e.symbols (substituted (is_variable db) σ (expression (statement_of db h)).symbols))) ≡ false
        → e ≡ under (is_variable db) σ (expression_of db h)
    unfolding under expression_of
    hyp-means h e l image true f a c =
        same-expression (equal-true _ _ (no_false _ a))
        (sym (float-under db σ h (facts.statement h l) f ∙ image f))
    hyp-means h e l image false f a c =
        same-expression (equal-true _ _ (no_false _ a))
        (same_true _ _ (no_false _ (both_false _ _ c (no-of-false refl))))

    hyp-gives : {A : Type 0} {P : A → Type 0} {rest : Result A} (h : ℕ) (e : Expression) → h < length db.statements
        → (is_float (statement_of db h) ≡ true → σ (floated (statement_of db h)) ≡ e.symbols)
        → (e ≡ under (is_variable db) σ (expression_of db h) → Gives P rest) → Gives P (check_hyp db σ (statement_of db h) e rest)
    unfolding check_hyp
    hyp-gives h e l image rest =
        unless-gives _ _ (λ a. unless-gives _ _ (λ c. rest (hyp-means h e l image _ refl a c)))

    hyps-give : {A : Type 0} {P : A → Type 0} {rest : Result A} (hs : List ℕ) {xs : List Proved}
        → ((h : ℕ) → h ∈ hs → h < length db.statements) → Every (Holds db p) xs
        → ((h : ℕ) (x : Proved) → Paired h x hs xs → is_float (statement_of db h) ≡ true → σ (floated (statement_of db h)) ≡ x.expression.symbols)
        → (DeriveAll (ground db p) (forest xs) (map (under (is_variable db) σ) (map (expression_of db) hs)) → Gives P rest)
        → Gives P (check_hyps db σ hs xs rest)
    unfolding check_hyps forest
    hyps-give [] known none images rest = rest nothing
    hyps-give [] known (also x xs) images rest = stops
    hyps-give (h ∷ hs) known none images rest = stops
    hyps-give (h ∷ hs) known (also {x} held xs) images rest =
        hyp-gives h x.expression (known h (Memᴰ.head refl)) (images h x here)
        (λ is. hyps-give hs (λ g m. known g (Memᴰ.tail m)) xs (λ g y q. images g y (there q))
        (λ all'. rest (more x.tree _ _ _ (rw is at held.derives) all')))

  module _ (facts : Facts db) (there' : p < length db.statements) (room : Room) where
    conclude-sound : (m : Memory) (mark : Option (List ℕ)) (h : ℕ) (x : Proved) → Sound db p m → Holds db p x
        → Gives (Sound db p) (conclude db room m mark h x)
    unfolding conclude
    conclude-sound m mark h x s held =
        unless-gives _ _ (λ t. push-sound room _ h _ _ (spend-sound room m _ _ s) (every_drop h s.stack) (record { holds = held }))

    substitute-sound : (m : Memory) (mark : Option (List ℕ)) (a : ℕ) {xs : List Proved} → Sound db p m → a < p
        → ((statement_of db a).kind ≡ 4) ⊎ ((statement_of db a).kind ≡ 5) → Every (Holds db p) xs
        → Gives (Sound db p) (apply_assertion db p room m mark a xs)
    unfolding apply_assertion conclusion ground frame_of
    substitute-sound m mark a {xs} s before kind held =
        let σ = bound db (statement_of db a).hyps xs in
        let of-a = facts.statement a (omega arith) in
        hyps-give facts σ (statement_of db a).hyps (λ h n. let act = of-a.hyps_active h n in omega arith) held
        (λ h x q f. float-image db a of-a q f)
        (λ derived. unless-gives _ _ (λ t.
        conclude-sound m mark _ _ s
        (record {
          derives =
              applied a (frame_of db a) σ (forest xs) (record { before = before; kind = kind; is = refl }) derived
              (λ q n. keeps-means db p (facts.statement p there') σ q (all-member _ _ (no_false _ t) n));
        })))

    prepared-sound : (m : Memory) (mark : Option (List ℕ)) {step : Prepared} → Sound db p m → Allowed db p step
        → Gives (Sound db p) (run_prepared db p room m mark step)
    unfolding run_prepared assign_entries
    prepared-sound m mark s (recalled held) = push-sound room m 0 _ _ s s.stack (record { holds = held })
    prepared-sound m mark s (earlier {a} before kind) =
        unless-gives _ _ (λ t.
        let es = every-reverse (every_take (length (statement_of db a).hyps) s.stack) in
        marks-give _ [] _ (substitute-sound m mark a s before kind (arranged-holds _ es (unmarked-holds es))))

    pub ready-runs : (mark : Option (List ℕ)) (r : Ready) → SoundReady db p r → Gives (Sound db p) (run_ready db p room mark r)
    unfolding run_ready
    ready-runs mark r s = prepared-sound r.memory mark s.memory s.step
