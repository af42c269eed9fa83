-- What soundness says of the things that a run holds: every tree on the stack or in a place derives the expression beside it, and every
-- assertion in a place may be applied. Pushing, saving and labelling keep it.
use Prim.Native.Nat.{ℕ, zero, suc, ◌<◌}
use mathlib.Core.Path.{◌≡◌}
use mathlib.Core.Logic.{◌⊎◌}
use mathlib.Core.Option.{Option, none, some}
use mathlib.Core.List.{List}
use Rattle.book.specs.Book.{Derives}
use Rattle.frames.specs.Database.{Database}
use Rattle.frames.specs.Facts.{statement_of}
use Rattle.machine.specs.Ground.{ground}
use Rattle.machine.specs.Memory.{Room, Proved, Prepared, recalls, applies, Entry, Memory, push, add_place, save_top, add_local, give_local}
use Rattle.machine.specs.Prepare.{Ready, spend, at_place}
use Rattle.machine.proofs.Gives.{Gives, gives, stops, unless-gives}
use Rattle.machine.proofs.Every.{Every, none, also, every_append}

-- a tree derives the expression beside it
pub record Holds (db : Database) (p : ℕ) (x : Proved) : Type 0 where
  pub derives : Derives (ground db p) x.tree x.expression

pub record EntryHolds (db : Database) (p : ℕ) (e : Entry) : Type 0 where
  pub holds : Holds db p e.proved

-- a step may be run
pub data Allowed (db : Database) (p : ℕ) : Prepared → Type 0 where
  recalled : {x : Proved} → Holds db p x → Allowed db p (recalls x)
  earlier : {a : ℕ} → a < p → ((statement_of db a).kind ≡ 4) ⊎ ((statement_of db a).kind ≡ 5) → Allowed db p (applies a)

pub record Sound (db : Database) (p : ℕ) (m : Memory) : Type 0 where
  pub stack : Every (EntryHolds db p) m.stack
  pub places : Every (Allowed db p) m.places

pub record SoundReady (db : Database) (p : ℕ) (r : Ready) : Type 0 where
  pub memory : Sound db p r.memory
  pub step : Allowed db p r.step

module _ {db : Database} {p : ℕ} (room : Room) (m : Memory) where
  pub spend-sound : (vs : List ℕ) (bytes : ℕ) → Sound db p m → Sound db p (spend m vs bytes)
  unfolding spend
  spend-sound vs bytes s = record { stack = s.stack; places = s.places }

  pub push-sound : (h : ℕ) (left : List Entry) (e : Entry) → Sound db p m → Every (EntryHolds db p) left → EntryHolds db p e
      → Gives (Sound db p) (push room m h left e)
  unfolding push
  push-sound h left e s l held = unless-gives _ _ (λ t. gives (record { stack = also held l; places = s.places }))

  pub place-sound : (step : Prepared) → Sound db p m → Allowed db p step → Gives (Sound db p) (add_place room m step)
  unfolding add_place
  place-sound step s a = unless-gives _ _ (λ t. gives (record { stack = s.stack; places = every_append s.places (also a none) }))

  pub save-sound : {es : List Entry} → Sound db p m → Every (EntryHolds db p) es → Gives (Sound db p) (save_top room m es)
  unfolding save_top
  save-sound s none = stops
  save-sound s (also e es) = place-sound _ s (recalled e.holds)

add-local-sound : {db : Database} {p : ℕ} (m : Memory) (label : List ℕ) → Sound db p m → Sound db p (add_local m label)
unfolding add_local
add-local-sound m label s = record { stack = s.stack; places = s.places }

pub local-sound : {db : Database} {p : ℕ} (room : Room) (m : Memory) (label : Option (List ℕ)) → Sound db p m → Gives (Sound db p) (give_local room m label)
unfolding give_local
local-sound room m none s = gives s
local-sound room m (some label) s =
    unless-gives _ _ (λ t. save-sound room (add_local m label) (add-local-sound m label s) s.stack)

pub at-place-sound : {db : Database} {p : ℕ} {steps : List Prepared} (k : ℕ) → Every (Allowed db p) steps → Gives (Allowed db p) (at_place steps k)
unfolding at_place
at-place-sound k none = stops
at-place-sound zero (also a e) = gives a
at-place-sound (suc k) (also a e) = at-place-sound k e
