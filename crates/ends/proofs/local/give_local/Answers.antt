-- `ends::local::give_local` meets its contract: 27 where the label is found (`gives-duplicate`), else the top takes its place (`gives-new`).
use Rattle.std.proofs.Common.{◌≡◌, ℕ, ◌∙◌, sym, refl, true, false, Some, None, is_some, arith}
use Rattle.frames.specs.declared.numbers.PlaceNo.{PlaceNo}
use Rattle.resolve.specs.Locals.{FoundPlace}
use Rattle.ends.proofs.Labelling.{gives-duplicate, gives-new}
use Rattle.ends.proofs.local.give_local.Goals as goal

some-there : (r : FoundPlace) → is_some r ≡ true → (k : PlaceNo) × (r ≡ Some k)
some-there (Some k) e = (k, refl)
some-there None e = let z : ◌≡◌ {A = ℕ} 0 1 = cc in absurd (omega arith)

none-there : (r : FoundPlace) → is_some r ≡ false → r ≡ None
none-there (Some k) e = let z : ◌≡◌ {A = ℕ} 0 1 = cc in absurd (omega arith)
none-there None e = refl

pub returns-then-is_some : goal.returns-then-is_some
returns-then-is_some c =
    let found = some-there _ (sym c.is_some.ensures ∙ c.if-is_some.true) in
    gives-duplicate (rw c.between.ensures at c.find_local.ensures) found.1

pub returns : goal.returns
returns c =
    gives-new (rw c.between.ensures at c.find_local.ensures) (none-there _ (sym c.is_some.ensures ∙ c.if-is_some.false)) c.lay_local.ensures
    c.save_labelled.ensures
